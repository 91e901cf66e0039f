-- Document 01, "Answers by number": what is settled of a text, and of the first text of a run, before anything in it is read.
use Rattle.std.specs.Prelude.{ℕ, List, [], ◌∷◌, cond, ◌||◌, leb, ltb, length, Result, Ok, Err}
use Rattle.json_grammar.specs.Byte.{blanked}
use Rattle.json_grammar.specs.Rows.{choose}
use Rattle.json_grammar.specs.Tree.{place_in}
use Rattle.json_grammar.specs.Walk.{Walked, end, refused2, refused3, first_object, one_object, walk}
use Rattle.document.specs.Answer.{text_at_most}
use Rattle.document.specs.Valid.{is_use}
use Rattle.document.specs.Refusals.{refusal}
use Rattle.document.specs.declared.refusal.Reason.{Reason}
use Rattle.document.specs.declared.refusal.Reason.TheVariants.{TooLong, NotOneObject, TooDeep, WrongUse}
use Rattle.document.specs.declared.refusal.Refusal.{Refusal}
use Rattle.document.specs.declared.table.Next.{Next}
use Rattle.document.specs.declared.table.Next.TheVariants.{Taken, Blank}

abbrev pub one_walked : List ℕ → Walked → Result (Unit {0}) Refusal
one_walked text (end r) = Ok tt
one_walked text (refused2 p) = Err (refusal NotOneObject (place_in text p))
one_walked text (refused3 p) = Err (refusal TooDeep (place_in text p))

-- "Order: 17; 1; then the whole text for 2 and 3"
unfoldable pub one_text : ℕ → List ℕ → Result (Unit {0}) Refusal
unfolding one_object
one_text purpose text =
    choose (is_use purpose) (λ _.
    choose (leb (length text) text_at_most) (λ _. one_walked text (one_object text)) λ _.
    Err (refusal TooLong text_at_most)) λ _.
    Err (refusal WrongUse 0)

-- "If none ends in the first 32,768 bytes, 2 or 3 is given if met there, else 1 when the run is longer, else 2 at the length."
abbrev pub not_ended : Reason → List ℕ → ℕ → Result Next Refusal
not_ended why run place = cond (leb (length run) text_at_most || ltb place text_at_most) (Err (refusal why place)) (Err (refusal TooLong text_at_most))

abbrev pub first_walked : List ℕ → Walked → Result Next Refusal
first_walked run (end r) = choose (leb (place_in run r) text_at_most) (λ _. Ok (Taken (place_in run r))) λ _. Err (refusal TooLong text_at_most)
first_walked run (refused2 p) = not_ended NotOneObject run (place_in run p)
first_walked run (refused3 p) = not_ended TooDeep run (place_in run p)

abbrev pub first_begun : List ℕ → List ℕ → Result Next Refusal
first_begun run [] = Ok (Blank (length run))
first_begun run (b ∷ s) = first_walked run (first_object run)

unfoldable pub first_text : ℕ → List ℕ → Result Next Refusal
unfolding walk blanked
first_text purpose run = choose (is_use purpose) (λ _. first_begun run (blanked run)) λ _. Err (refusal WrongUse 0)
