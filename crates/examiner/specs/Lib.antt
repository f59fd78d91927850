pub mod FalsePlaces
pub mod Read
