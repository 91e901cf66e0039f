-- What reading makes of a text, and of a run, once this much is settled.
use Prim.Native.Nat.{ℕ}
use mathlib.Core.Path.{◌≡◌, refl}
use mathlib.Core.List.{List, [], ◌∷◌}
use mathlib.Core.Bool.{Bool, true, false, cond, ◌||◌}
use lib.Dec.{leb, ltb}
use lib.ListN.{length}
use Rattle.json_grammar.specs.Byte.{blanked}
use Rattle.json_grammar.specs.Rows.{choose}
use Rattle.json_grammar.specs.Tree.{Place, place_in}
use Rattle.json_grammar.specs.Walk.{Walked, end, refused2, refused3, first_object, one_object}
use Rattle.document.specs.Answer.{text_at_most, Read, refused, after_walk, read_walked, read, ReadNext, blank_to, refused_at, up_to, next_walked, next_begun, read_next}
use Rattle.document.specs.Valid.{is_use}
use Rattle.std.specs.Prelude.{Result, Ok, Err}
use Rattle.json_grammar.proofs.Truth.{never}
use Rattle.document.specs.Refusals.{number_of, refusal}
use Rattle.document.specs.declared.refusal.Reason.{Reason}
use Rattle.document.specs.declared.refusal.Reason.TheVariants.{TooLong, NotOneObject, TooDeep, WrongUse}
use Rattle.document.specs.declared.refusal.Refusal.{Refusal}
use Rattle.document.specs.declared.table.Next.{Next}
use Rattle.document.specs.declared.table.Next.TheVariants as F
use Rattle.document.specs.declared.terms.Terms.{Terms}
use Rattle.read_text.specs.Texts.{one_walked, one_text, first_walked, first_begun, first_text}

module _ (terms : Terms) (text : List ℕ) where
  abbrev pub read_on : Result (Unit {0}) Refusal → Read
  read_on (Ok u) = read_walked terms text
  read_on (Err r) = refused (number_of r.0) r.1

  walked_on : (w : Walked) → after_walk terms text w ≡ read_on (one_walked text w)
  walked_on (end r) = refl
  walked_on (refused2 p) = refl
  walked_on (refused3 p) = refl

  pub read_on_lem : read terms text ≡ read_on (one_text terms.purpose text)
  unfolding read one_text
  read_on_lem = by (is_use terms.purpose) (leb (length text) text_at_most)
    where
      by : (a b : Bool)
          → choose a (λ _. choose b (λ _. after_walk terms text (one_object text)) λ _. refused 1 text_at_most) (λ _. refused 17 0)
          ≡ read_on (choose a (λ _. choose b (λ _. one_walked text (one_object text)) λ _. Err (refusal TooLong text_at_most)) λ _. Err (refusal WrongUse 0))
      by true true = walked_on (one_object text)
      by true false = refl
      by false b = refl

  abbrev pub next_on : Result Next Refusal → ReadNext
  next_on (Ok (F.Taken e)) = up_to e (read_walked terms text)
  next_on (Ok (F.Blank n)) = blank_to n
  next_on (Err r) = refused_at (number_of r.0) r.1

  cut_on : (b : Bool) (why : Reason) (p : ℕ) → cond b (refused_at (number_of why) p) (refused_at 1 text_at_most) ≡ next_on (cond b (Err (refusal why p)) (Err (refusal TooLong text_at_most)))
  cut_on true why p = refl
  cut_on false why p = refl

  ended_on : (b : Bool) (e : ℕ) → choose b (λ _. up_to e (read_walked terms text)) (λ _. refused_at 1 text_at_most) ≡ next_on (choose b (λ _. Ok (F.Taken e)) λ _. Err (refusal TooLong text_at_most))
  ended_on true e = refl
  ended_on false e = refl

  first_walked_on : (w : Walked) → next_walked terms text w ≡ next_on (first_walked text w)
  first_walked_on (end r) = ended_on (leb (place_in text r) text_at_most) (place_in text r)
  first_walked_on (refused2 p) = cut_on (leb (length text) text_at_most || ltb (place_in text p) text_at_most) NotOneObject (place_in text p)
  first_walked_on (refused3 p) = cut_on (leb (length text) text_at_most || ltb (place_in text p) text_at_most) TooDeep (place_in text p)

  begun_on : (s : List ℕ) → next_begun terms text s ≡ next_on (first_begun text s)
  begun_on [] = refl
  begun_on (b ∷ s) = first_walked_on (first_object text)

  pub next_on_lem : read_next terms text ≡ next_on (first_text terms.purpose text)
  unfolding read_next first_text
  next_on_lem = by (is_use terms.purpose)
    where
      by : (a : Bool) → choose a (λ _. next_begun terms text (blanked text)) (λ _. refused_at 17 0) ≡ next_on (choose a (λ _. first_begun text (blanked text)) λ _. Err (refusal WrongUse 0))
      by true = begun_on (blanked text)
      by false = refl

-- ---- the walk of what is read on
pub one_walked_lem : (purpose : ℕ) (text : List ℕ) → Ok tt ≡ one_text purpose text → (r : Place) × (one_object text ≡ end r)
unfolding one_text
one_walked_lem purpose text h = by (is_use purpose) (leb (length text) text_at_most) h
  where
    ends : (w : Walked) → Ok tt ≡ one_walked text w → (r : Place) × (w ≡ end r)
    ends (end r) g = (r, refl)
    ends (refused2 p) g = never (cc g)
    ends (refused3 p) g = never (cc g)

    by : (a b : Bool) → Ok tt ≡ choose a (λ _. choose b (λ _. one_walked text (one_object text)) λ _. Err (refusal TooLong text_at_most)) (λ _. Err (refusal WrongUse 0)) → (r : Place) × (one_object text ≡ end r)
    by true true g = ends (one_object text) g
    by true false g = never (cc g)
    by false b g = never (cc g)

pub first_walked_lem : (purpose : ℕ) (run : List ℕ) (e : ℕ) → Ok (F.Taken e) ≡ first_text purpose run → (r : Place) × (first_object run ≡ end r)
unfolding first_text
first_walked_lem purpose run e h = by (is_use purpose) h
  where
    not_cut : (b : Bool) (why : Reason) (p : ℕ) → Ok (F.Taken e) ≡ cond b (Err (refusal why p)) (Err (refusal TooLong text_at_most)) → ⊥
    not_cut true why p g = never (cc g)
    not_cut false why p g = never (cc g)

    ends : (w : Walked) → Ok (F.Taken e) ≡ first_walked run w → (r : Place) × (w ≡ end r)
    ends (end r) g = (r, refl)
    ends (refused2 p) g = absurd (not_cut (leb (length run) text_at_most || ltb (place_in run p) text_at_most) NotOneObject (place_in run p) g)
    ends (refused3 p) g = absurd (not_cut (leb (length run) text_at_most || ltb (place_in run p) text_at_most) TooDeep (place_in run p) g)

    begun : (s : List ℕ) → Ok (F.Taken e) ≡ first_begun run s → (r : Place) × (first_object run ≡ end r)
    begun [] g = never (cc g)
    begun (b ∷ s) g = ends (first_object run) g

    by : (a : Bool) → Ok (F.Taken e) ≡ choose a (λ _. first_begun run (blanked run)) (λ _. Err (refusal WrongUse 0)) → (r : Place) × (first_object run ≡ end r)
    by true g = begun (blanked run) g
    by false g = never (cc g)
