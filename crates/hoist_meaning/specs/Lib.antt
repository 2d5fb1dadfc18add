pub mod CallPlaces
pub mod SpawnArguments
pub mod SourceNames
pub mod SameRuns
