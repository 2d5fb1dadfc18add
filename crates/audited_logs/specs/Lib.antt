pub mod Audited
pub mod Printed
pub mod TextLog
