-- What the contracts of `text` cite: text as bytes, a buffer that text was put into, and the digits that a loop writes.
pub mod Digits
pub mod Paste
pub mod Text
