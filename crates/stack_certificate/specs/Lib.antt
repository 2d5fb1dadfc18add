pub mod Certificates
pub mod Fits
pub mod InstructionWords
pub mod Parts
pub mod Places
pub mod Registers
pub mod RunTimeCalls
pub mod Templates
