-- What the parts of the code for sets of days tell: the days that were marked, as bits, and the elements of a list of days.
use Rattle.std.specs.Prelude.{ℕ, zero, suc, ◌+◌, ◌^◌, List, Bool, false, cond, get_or, Result}
use Rattle.json_grammar.specs.Tree.{Place, Elements, list}
use Rattle.document.specs.Schema.{a_number, integer}
use Rattle.document.specs.Visit.{State, Outcome, done, bind, guard, Value, values_of, each, distinct, ascending}
use Rattle.document.specs.At.{At}
use Rattle.document.specs.Table.{day_set}
use Rattle.document.specs.declared.terms.Used.{Used}
use Rattle.read_fields.specs.Fields.{CountsFrom}
use Rattle.document.specs.declared.refusal.Refusal.{Refusal}
use Rattle.read_fields.specs.declared.days.Days.{Days}
use Rattle.read_fields.specs.declared.days.Days.TheVariants as D
use Rattle.read_fields.specs.declared.field.Counted.{Counted}

-- The greatest day.
abbrev pub most_of : Days → ℕ
most_of D.OfWeek = 7
most_of D.OfMonth = 28

-- The days from 1 to n that are marked: day 1 is the lowest bit.
unfoldable pub bits : ℕ → List Bool → ℕ
bits zero marks = 0
bits (suc n) marks = bits n marks + cond (get_or marks (suc n) false) (2 ^ n) 0

-- A list of days behind its count: the elements, then repeats.
abbrev pub days_of : ℕ → Place → List Value → State → Outcome (List ℕ)
days_of most p vs l = bind (each (a_number (integer 1 most)) vs l) λ ds l'. guard (distinct ds) 11 p (done (ascending ds) l')

abbrev pub DaysIn : List ℕ → ℕ → ℕ → Used → Result Counted Refusal → Type 0
DaysIn text at most u r = (p : Place) (es : Elements) → At text at (list p es) → CountsFrom text u (days_of most p (values_of es)) day_set r
