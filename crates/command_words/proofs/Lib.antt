mod Common
pub mod GivenOptions
pub mod Lists
pub mod Named
pub mod OneRequest
pub mod Chosen
pub mod CapsSoFar
pub mod Decimals
pub mod Answered
pub mod Chain
pub mod Parsed
pub mod Rows
pub mod Rules
pub mod Steps
pub mod Told
pub mod Walks
pub mod TicketsSoFar
