pub mod Agreement
pub mod WholeLife
pub mod Lives
