-- What the proofs of several functions use.
mod Pieces
mod TimeTexts
mod DosageTexts
mod Dosages
mod Listing
mod Applications
mod TimedTexts
mod Days
mod TimedDosages
mod DetailTexts
mod Details
mod Objects
