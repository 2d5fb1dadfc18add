mod Common
pub mod Spots
pub mod Words
pub mod Ways
pub mod Facts
pub mod Stacks
pub mod Registers
pub mod Inside
pub mod FrameWords
pub mod Simulation
pub mod Variables
pub mod Finish
pub mod Numbers
pub mod Immediate
pub mod Straight
pub mod Binary
pub mod Jumping
pub mod Guards
pub mod LocalArrays
pub mod Rows
pub mod GlobalWords
pub mod GlobalOps
pub mod Zeroing
pub mod Arguments
pub mod ModelledCalls
pub mod Asking
pub mod FlatSteps
pub mod AskSteps
pub mod Standing
pub mod Entering
pub mod Calling
pub mod PlainCalls
pub mod Leaving
pub mod Coming
pub mod CallShapes
pub mod Returning
pub mod EndStub
pub mod Transfers
pub mod Linked
pub mod Agreeing
pub mod Linking
pub mod FarCalls
pub mod Unlinking
pub mod ReturnSteps
pub mod StandingCode
pub mod FramePlaces
pub mod ValidFacts
pub mod ValidCalls
pub mod StandingAtRest
pub mod OnePlace
pub mod Past
pub mod Entries
pub mod Members
pub mod TableSteps
pub mod Needs
pub mod Firsts
mod Rooms
pub mod Moves
mod FlatMoves
mod Traps
mod OneStep
mod Along
mod Reaching
pub mod FromRest
pub mod Law
pub mod Untouched
pub mod FirstWords
pub mod Passing
pub mod Starting
pub mod Silent
pub mod OtherThreads
pub mod Finding
pub mod Numbering
pub mod Changing
pub mod Frames
pub mod SameRest
