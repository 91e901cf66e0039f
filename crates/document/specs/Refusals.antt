-- Document 01, "Answers by number", and document 02, Wish 2: each refusal's number.
use Rattle.std.specs.Prelude.{ℕ}
use Rattle.document.specs.declared.refusal.Reason.{Reason}
use Rattle.document.specs.declared.refusal.Reason.TheVariants as R
use Rattle.document.specs.declared.refusal.Refusal.{Refusal}

abbrev pub number_of : Reason → ℕ
number_of R.Unasked = 0
number_of R.TooLong = 1
number_of R.NotOneObject = 2
number_of R.TooDeep = 3
number_of R.WrongKind = 4
number_of R.UnknownName = 5
number_of R.NameTwice = 6
number_of R.Missing = 7
number_of R.NotCarried = 8
number_of R.OutOfRange = 9
number_of R.TypeNotAllowed = 10
number_of R.WrongCount = 11
number_of R.WrongOrder = 12
number_of R.NotADate = 13
number_of R.SequenceTooDeep = 14
number_of R.TooManyRecords = 15
number_of R.NoTextRoom = 16
number_of R.WrongUse = 17
number_of R.NotReadable = 18
number_of R.BufferTooShort = 19
number_of R.NoShelf = 20
number_of R.NoNumber = 21
number_of R.NumberTaken = 22
number_of R.NumberMissing = 23
number_of R.NoShelfRoom = 24

abbrev pub refusal : Reason → ℕ → Refusal
refusal why place = record { 0 = why; 1 = place }
