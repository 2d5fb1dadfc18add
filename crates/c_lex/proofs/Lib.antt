mod Common
pub mod CommentLemmas
mod Digits
mod GapUnique
pub mod KeywordTable
pub mod MarkTable
pub mod Leads
mod Lists
mod NumberWords
pub mod PieceLemmas
pub mod PlaceLemmas
pub mod TakenLemmas
mod TokenUnique
pub mod Unique
