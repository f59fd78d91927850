pub mod Exploring
pub mod Settling
pub mod Filling
pub mod Strips
