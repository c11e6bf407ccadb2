pub mod Spoken
pub mod Words
pub mod Replied
pub mod Listed
pub mod Given
pub mod Answered
