pub mod Words
pub mod PlainTaking
pub mod PlainHeads
pub mod PlainValues
pub mod PlainTexts
