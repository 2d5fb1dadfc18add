pub mod NestedText
