pub mod Places
pub mod Rising
pub mod Nested
pub mod Ranks
