mod Common
pub mod TreeLaws
pub mod GrowLaws
pub mod AnyLaws
pub mod KindLaws
pub mod GrownLaws
pub mod StartLaws
pub mod WakeLaws
pub mod TimeLaws
pub mod PutLaws
pub mod BlockLaws
pub mod AdvanceLaws
pub mod NoWakeLaws
pub mod ReadyLaws
pub mod SleepLaws
pub mod NeedBounds
