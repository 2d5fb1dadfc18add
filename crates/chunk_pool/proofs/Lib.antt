mod Common
pub mod Shapes
pub mod PoolLaws
pub mod NeedLaws
pub mod FreeLaws
pub mod AddressLaws
pub mod PoolStart
mod Blocks
mod RegionLaws
mod Kept
pub mod ShapeLaws
