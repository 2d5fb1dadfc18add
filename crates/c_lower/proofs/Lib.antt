mod Common
pub mod Lists
pub mod Glue
pub mod CodeSizes
pub mod ChainCode
pub mod ExprGlue
pub mod CallGlue
pub mod StmtGlue
pub mod Patches
pub mod StmtPuts
pub mod Suits
pub mod Formed
pub mod PlainCode
pub mod Sites
pub mod Words
pub mod FormedPrograms
