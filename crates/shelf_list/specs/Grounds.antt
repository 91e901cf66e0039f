-- Document 02, Wish 2: why a call on a list is refused, and when a put is taken; n is the area's length.
use Rattle.std.specs.Prelude.{◌≡◌, List, true, false, ℕ, ◌+◌, ◌-◌, ◌≤◌, ◌<◌, length}
use Rattle.std.proofs.Math.Option.{some}
use Rattle.document.specs.Posology.{Posology}
use Rattle.document.specs.Plain.{plain}
use Rattle.document.specs.Answer as R
use Rattle.document.specs.Answer.{read}
use Rattle.document.specs.Write.{in_greatest_room}
use Rattle.shelf_list.specs.Shelf.{Entry, is_number, used, stands}
use Rattle.shelf_list.specs.Calls.{Call, put, fetch, remove, under, for_fetch}

-- "21 number 0", and one above 65,535
pub data NoNumber : Call → Type 0 where
  put_under : {number purpose : ℕ} {text : List ℕ} → is_number number ≡ false → NoNumber (put number purpose text)
  fetch_of : {number room : ℕ} → is_number number ≡ false → NoNumber (fetch number room)
  remove_of : {number : ℕ} → is_number number ≡ false → NoNumber (remove number)

-- "22 number already there"
pub data AlreadyThere (es : List Entry) : Call → Type 0 where
  for_put : {number purpose : ℕ} {text : List ℕ} → is_number number ≡ true → stands number es ≡ true
      → AlreadyThere es (put number purpose text)

-- "23 number not there"
pub data NotThere (es : List Entry) : Call → Type 0 where
  for_fetched : {number room : ℕ} → is_number number ≡ true → stands number es ≡ false → NotThere es (fetch number room)
  for_remove : {number : ℕ} → is_number number ≡ true → stands number es ≡ false → NotThere es (remove number)

-- "the refusals of reading": of the text that is put, and of the plain text that is fetched into a short buffer
pub data NotRead (es : List Entry) (m place : ℕ) : Call → Type 0 where
  text_put : {number purpose : ℕ} {text : List ℕ} → is_number number ≡ true → stands number es ≡ false
      → read (in_greatest_room purpose) text ≡ R.refused m place → NotRead es m place (put number purpose text)
  text_fetched : {number room : ℕ} {p : Posology} → is_number number ≡ true → under number es ≡ some p
      → read (for_fetch room) (plain p) ≡ R.refused m place → NotRead es m place (fetch number room)

-- "24 no room, exactly when the free bytes are fewer than 6 and L"
pub data NoRoom (n : ℕ) (es : List Entry) : Call → Type 0 where
  too_long : {number purpose : ℕ} {text : List ℕ} {p : Posology} → is_number number ≡ true → stands number es ≡ false
      → read (in_greatest_room purpose) text ≡ R.taken p → n - used es < 6 + length (plain p) → NoRoom n es (put number purpose text)

-- What is left: a put that is taken, with L.
pub data Taken (n : ℕ) (es : List Entry) (l : ℕ) : Call → Type 0 where
  put_taken : {number purpose : ℕ} {text : List ℕ} {p : Posology} → is_number number ≡ true → stands number es ≡ false
      → read (in_greatest_room purpose) text ≡ R.taken p → 6 + length (plain p) ≤ n - used es → l ≡ length (plain p)
      → Taken n es l (put number purpose text)
