pub mod Steps
pub mod StmtSteps
pub mod BodySteps
pub mod ItemSteps
