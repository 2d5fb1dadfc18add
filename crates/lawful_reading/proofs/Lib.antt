mod Common
pub mod Refused
pub mod Moves
pub mod Once
pub mod Judgements
pub mod Searching
pub mod Points
pub mod DecidedHappenings
pub mod SegmentLines
pub mod Lines
pub mod Beyond
pub mod Found
pub mod OneJudgement
