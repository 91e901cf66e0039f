-- What the function's proof uses, what its answer says of reading, and that its contract allows one answer.
mod PlainPut
mod Rewritten
pub mod Reread
pub mod Determined
