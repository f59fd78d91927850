pub mod Ledgers
pub mod Worlds
pub mod Law
pub mod Replays
pub mod Printing
