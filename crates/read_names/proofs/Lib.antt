-- What the proofs of several functions use.
mod Packing
mod Numbered
mod Naming
mod Letters
mod Hashing
mod Searching
mod Entries
mod Before
mod Rest
mod Slotted
mod Members
mod Tabling
mod Unknowns
