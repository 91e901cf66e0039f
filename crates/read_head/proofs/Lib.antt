-- What the proofs of several functions use.
mod Pieces
mod HeadStrings
mod Meals
mod HeadDetail
mod HeadOpens
