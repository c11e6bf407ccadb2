pub mod File
pub mod RunTransfers
pub mod Moves
pub mod Turns
pub mod Headline
pub mod Mirrored
pub mod Checked
pub mod Serves
