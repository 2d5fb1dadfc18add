pub mod CurveLemmas
pub mod GateLemmas
pub mod MonitorLemmas
