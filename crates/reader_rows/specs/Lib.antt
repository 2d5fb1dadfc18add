pub mod Sample
pub mod Small
