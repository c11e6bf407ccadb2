pub mod Again
pub mod Crash
pub mod Made
pub mod Replays
pub mod Maps
