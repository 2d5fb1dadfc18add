mod Common
pub mod ChainPlaces
