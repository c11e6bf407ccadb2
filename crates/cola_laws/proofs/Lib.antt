pub mod Values
pub mod Shadows
pub mod Alike
pub mod After
pub mod Sources
pub mod Live
pub mod Lengths
pub mod Windows
pub mod Next
pub mod Clocked
pub mod Mutations
pub mod Workable
pub mod Wraps
pub mod Programs
pub mod Empty
pub mod InSlots
pub mod Facts
pub mod Loaded
pub mod SlotSteps
mod Tested
mod Passing
mod Ablated
mod Worked
