pub mod Exchanges
pub mod Looks
pub mod Overwriting
pub mod Packs
pub mod Powers
