-- Document 02, Wish 2: a shelf is an ordered list of numbers and posologies; the bytes that lay it out; and the list that an area holds.
use Rattle.std.specs.Prelude.{◌≡◌, List, [], ◌∷◌, ◌++◌, Bool, true, false, not, cond, ◌&&◌, ◌||◌, ℕ, zero, suc, ◌+◌, ◌-◌, ◌*◌, ◌/◌, ◌%◌, ◌≤◌, eqb, leb, ltb, length, take, drop, get_or, replicate}
use Rattle.std.proofs.Math.Option.{Option, none, some}
use Rattle.json_grammar.specs.Rows.{choose}
use Rattle.document.specs.Lookup.{same}
use Rattle.document.specs.Posology.{Posology}
use Rattle.document.specs.Valid.{valid, strings, every}
use Rattle.document.specs.Plain.{plain}
use Rattle.document.specs.Answer.{Read, taken, refused, read}
use Rattle.document.specs.Write.{greatest_room, in_greatest_room}

-- "one lent area of at most 65,535 bytes"
abbrev pub area_at_most : ℕ
area_at_most = 65535

-- "a number from 1 to 65,535"
abbrev pub is_number : ℕ → Bool
is_number n = leb 1 n && leb n 65535

-- "read for use 3, which takes both uses"
abbrev pub both_uses : ℕ
both_uses = 3

pub record Entry : Type 0 where
  pub number : ℕ
  pub posology : Posology

abbrev pub entry : ℕ → Posology → Entry
entry n p = record { number = n; posology = p }

-- "in two bytes, high byte first": in front of what follows them.
abbrev pub two_bytes : ℕ → List ℕ → List ℕ
two_bytes n k = (n / 256) ∷ (n % 256) ∷ k

-- "A record is the mark bytes 0x50 0x6F, a number .., the plain text's length L in two more, then the plain text": in front of what follows it.
unfoldable pub record_then : Entry → List ℕ → List ℕ
record_then e k = 0x50 ∷ 0x6F ∷ two_bytes e.number (two_bytes (length (plain e.posology)) (plain e.posology ++ k))

-- "6 and L"
abbrev pub size : Entry → ℕ
size e = 6 + length (plain e.posology)

abbrev pub used : List Entry → ℕ
used [] = 0
used (e ∷ es) = size e + used es

abbrev pub records_then : List Entry → List ℕ → List ℕ
records_then [] k = k
records_then (e ∷ es) k = record_then e (records_then es k)

-- "zeros follow the last record to the area's end": an area of n bytes.
abbrev pub laid_out : List Entry → ℕ → List ℕ
laid_out es n = records_then es (replicate (n - used es) 0)

-- Whether a number stands among the entries.
abbrev pub stands : ℕ → List Entry → Bool
stands n [] = false
stands n (e ∷ es) = eqb n e.number || stands n es

-- No "number .. twice".
abbrev pub once : List Entry → Bool
once [] = true
once (e ∷ es) = not (stands e.number es) && once es

-- What may lie on a shelf: a posology that has a plain text for use 3.
abbrev pub good_entry : Entry → Bool
good_entry e = is_number e.number && (valid both_uses e.posology && leb (length (strings e.posology)) greatest_room)

abbrev pub good : List Entry → Bool
good es = every good_entry es && once es

-- An area is a shelf that holds a list: the good list that lays it out.
pub record Holds (a : List ℕ) (es : List Entry) : Type 0 where
  pub small : length a ≤ area_at_most
  pub is_good : good es ≡ true
  pub fits : used es ≤ length a
  pub bytes : laid_out es (length a) ≡ a

-- "a text that is no plain text for use 3" has none: the posology of which a text is the plain text.
abbrev pub if_plain : List ℕ → Read → Option Posology
if_plain text (taken p) = cond (same (plain p) text) (some p) none
if_plain text (refused n place) = none

unfoldable pub plain_of : List ℕ → Option Posology
plain_of text = if_plain text (read (in_greatest_room both_uses) text)

abbrev pub is_given : {A : Type 0} → Option A → Bool
is_given none = false
is_given (some a) = true

abbrev pub is_plain : List ℕ → Bool
is_plain text = is_given (plain_of text)

-- The number in the two bytes at i.
abbrev pub number_at : List ℕ → ℕ → ℕ
number_at a i = 256 * get_or a i 0 + get_or a (suc i) 0

-- A record's head, and behind it as many bytes as the head says.
unfoldable pub begins : List ℕ → Bool
begins a =
    leb (6 + number_at a 4) (length a)
    && eqb (get_or a 0 0) 0x50
    && eqb (get_or a 1 0) 0x6F
    && is_number (number_at a 2)
    && ltb (get_or a 3 0) 256
    && ltb (get_or a 5 0) 256

abbrev pub is_zeros : List ℕ → Bool
is_zeros [] = true
is_zeros (b ∷ a) = eqb b 0 && is_zeros a

-- Bytes used, as an area shows them: up to its last byte that is not zero.
abbrev pub bytes_used : List ℕ → ℕ
bytes_used [] = 0
bytes_used (b ∷ a) = cond (is_zeros (b ∷ a)) 0 (suc (bytes_used a))

abbrev pub and_entry : ℕ → Posology → Option (List Entry) → Option (List Entry)
and_entry n p none = none
and_entry n p (some es) = some (entry n p ∷ es)

abbrev pub with_text : ℕ → Option Posology → (Unit {0} → Option (List Entry)) → Option (List Entry)
with_text n none more = none
with_text n (some p) more = and_entry n p (more tt)

-- The records from here on, at most f of them and the zeros.
unfoldable pub records : ℕ → List ℕ → Option (List Entry)
records zero a = none
records (suc f) a =
    choose (is_zeros a) (λ _. some []) λ _.
    choose (begins a) (λ _. with_text (number_at a 2) (plain_of (take (number_at a 4) (drop 6 a))) (λ _. records f (drop (6 + number_at a 4) a))) λ _.
    none

abbrev pub if_once : Option (List Entry) → Option (List Entry)
if_once none = none
if_once (some es) = cond (once es) (some es) none

-- What an area holds, if it is a shelf.
unfoldable pub entries_in : List ℕ → Option (List Entry)
entries_in a = choose (leb (length a) area_at_most) (λ _. if_once (records (suc (length a)) a)) λ _. none
