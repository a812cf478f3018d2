pub mod Looks
pub mod Seats
pub mod Rings
pub mod Dealings
pub mod Histories
pub mod Inside
pub mod Law
