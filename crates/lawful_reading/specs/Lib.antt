pub mod Given
pub mod Happenings
pub mod State
pub mod Choice
pub mod Segments
pub mod Ends
pub mod Reading
pub mod Judgements
