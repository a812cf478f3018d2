pub mod Cells
pub mod Lists
pub mod Packing
pub mod Refusals
pub mod Rules
pub mod Sizes
