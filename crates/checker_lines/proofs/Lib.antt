-- Statements
pub mod CheckProgram
-- What they rest on
pub mod Near
pub mod Printed
