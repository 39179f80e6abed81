pub mod model
pub mod statement
pub mod refinement
pub mod examples
