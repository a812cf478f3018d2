pub mod BigEndian
pub mod PageCells
pub mod RoundTrip
