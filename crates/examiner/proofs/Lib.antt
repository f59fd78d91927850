pub mod Neighbours
pub mod BookWords
pub mod Verdicts
pub mod FirstFalse
