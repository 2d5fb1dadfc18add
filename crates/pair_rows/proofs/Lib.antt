pub mod RisingSites
pub mod SampleLemmas
