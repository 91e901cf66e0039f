-- The ways in which a put and a removal end, each with what the tests on its way said.
use mathlib.Core.Path.{◌≡◌, refl}
use mathlib.Core.List.{List, [], ◌∷◌, ◌++◌}
use mathlib.Core.Bool.{Bool, true, false, cond}
use Prim.Native.Nat.{ℕ}
use lib.ListN.{length}
use Rattle.json_grammar.specs.Rows.{choose}
use Rattle.document.specs.Posology.{Posology}
use Rattle.document.specs.Plain.{plain}
use Rattle.document.specs.Answer as R
use Rattle.document.specs.Answer.{Read, read}
use Rattle.document.specs.Write.{in_greatest_room}
use Rattle.shelf_list.specs.Shelf.{Entry, entry, is_number, stands}
use Rattle.shelf_list.specs.Calls.{stored, removed, refused, Outcome, answers, without, room_for, put_read, put_on, remove_from}

pub data Put (n : ℕ) (es : List Entry) (number purpose : ℕ) (text : List ℕ) : Outcome (List Entry) → Type 0 where
  no_number : is_number number ≡ false → Put n es number purpose text (answers (refused 21 0) es)
  there : is_number number ≡ true → stands number es ≡ true → Put n es number purpose text (answers (refused 22 0) es)
  unread : {m place : ℕ} → is_number number ≡ true → stands number es ≡ false → read (in_greatest_room purpose) text ≡ R.refused m place
      → Put n es number purpose text (answers (refused m place) es)
  no_room : {p : Posology} → is_number number ≡ true → stands number es ≡ false → read (in_greatest_room purpose) text ≡ R.taken p
      → room_for n es (entry number p) ≡ false → Put n es number purpose text (answers (refused 24 0) es)
  laid : {p : Posology} → is_number number ≡ true → stands number es ≡ false → read (in_greatest_room purpose) text ≡ R.taken p
      → room_for n es (entry number p) ≡ true
      → Put n es number purpose text (answers (stored (length (plain p))) (es ++ (entry number p ∷ [])))

pub put_ends : (n : ℕ) (es : List Entry) (number purpose : ℕ) (text : List ℕ)
    → Put n es number purpose text (put_on n es number purpose text)
put_ends n es number purpose text = numbered (is_number number) (stands number es) refl refl
  where
    with_room : (p : Posology) (b : Bool) → is_number number ≡ true → stands number es ≡ false → read (in_greatest_room purpose) text ≡ R.taken p
        → room_for n es (entry number p) ≡ b
        → Put n es number purpose text
        (cond b (answers (stored (length (plain p))) (es ++ (entry number p ∷ []))) (answers (refused 24 0) es))
    with_room p true i s e r = laid i s e r
    with_room p false i s e r = no_room i s e r

    readable : (r : Read) → is_number number ≡ true → stands number es ≡ false → read (in_greatest_room purpose) text ≡ r
        → Put n es number purpose text (put_read n es number r)
    readable (R.taken p) i s e = with_room p (room_for n es (entry number p)) i s e refl
    readable (R.refused m place) i s e = unread i s e

    numbered : (b s : Bool) → is_number number ≡ b → stands number es ≡ s
        → Put n es number purpose text
        (choose b (λ _. choose s (λ _. answers (refused 22 0) es) (λ _. put_read n es number (read (in_greatest_room purpose) text)))
        (λ _. answers (refused 21 0) es))
    numbered true true i s = there i s
    numbered true false i s = readable (read (in_greatest_room purpose) text) i s refl
    numbered false s i j = no_number i

pub data Remove (es : List Entry) (number : ℕ) : Outcome (List Entry) → Type 0 where
  not_number : is_number number ≡ false → Remove es number (answers (refused 21 0) es)
  not_there : is_number number ≡ true → stands number es ≡ false → Remove es number (answers (refused 23 0) es)
  taken_out : is_number number ≡ true → stands number es ≡ true → Remove es number (answers removed (without number es))

pub remove_ends : (es : List Entry) (number : ℕ) → Remove es number (remove_from es number)
remove_ends es number = go (is_number number) (stands number es) refl refl
  where
    go : (b s : Bool) → is_number number ≡ b → stands number es ≡ s
        → Remove es number
        (choose b (λ _. choose s (λ _. answers removed (without number es)) (λ _. answers (refused 23 0) es))
        (λ _. answers (refused 21 0) es))
    go true true i s = taken_out i s
    go true false i s = not_there i s
    go false s i j = not_number i
