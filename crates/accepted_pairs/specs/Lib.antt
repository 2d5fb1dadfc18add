pub mod Held
pub mod Acceptance
pub mod Accepting
pub mod CodeLists
