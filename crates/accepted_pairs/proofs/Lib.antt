mod Common
pub mod ReadableLemmas
pub mod RisingLemmas
pub mod BeforeLemmas
pub mod CodeListLemmas
pub mod SomeAt
