mod Common
pub mod NeedLaws
pub mod NextLaws
pub mod NodeLaws
pub mod PlaceLaws
