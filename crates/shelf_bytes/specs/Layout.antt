-- Document 02, Wish 2: a record's head at a place of an area, a record laid behind the last, and the gap that one leaves closed.
use Rattle.std.specs.Prelude.{◌≡◌, List, ◌∷◌, ◌++◌, Bool, cond, ℕ, ◌+◌, ◌-◌, ◌/◌, ◌%◌, leb, length, take, drop, replicate, Option, Some, None}
use Rattle.std.proofs.lemmas.List.Edits.{sets}
use Rattle.shelf_list.specs.Shelf.{number_at, begins}

-- The size of the record at a place, as its head says, if one begins there.
unfoldable pub head_size : List ℕ → ℕ → Option ℕ
unfolding begins
head_size a i = cond (begins (drop i a)) (Some (6 + number_at (drop i a) 4)) None

-- The two lowest bytes of a number, high byte first.
abbrev pub low_bytes : ℕ → List ℕ → List ℕ
low_bytes n k = (n / 256 % 256) ∷ (n % 256) ∷ k

-- The bytes of a record with a text.
abbrev pub record_bytes : ℕ → List ℕ → List ℕ
record_bytes number text = 0x50 ∷ 0x6F ∷ low_bytes number (low_bytes (length text) text)

-- "24 no room, exactly when the free bytes are fewer than 6 and L"
abbrev pub has_room : ℕ → List ℕ → List ℕ → Bool
has_room used text area = leb (6 + length text) (length area - used)

pub record Stores (number used : ℕ) (text area : List ℕ) (r : Bool) (area' : List ℕ) : Type 0 where
  pub stored : r ≡ has_room used text area
  pub left : area' ≡ cond (has_room used text area) (sets area used (record_bytes number text)) area

-- "Removing closes the gap": so many bytes from a place on are taken out, and zeros follow at the end; nothing where they do not lie in the area.
abbrev pub closed : List ℕ → ℕ → ℕ → List ℕ
closed a from size = take from a ++ (drop (from + size) a ++ replicate size 0)

abbrev pub gap_closed : List ℕ → ℕ → ℕ → List ℕ
gap_closed a from size = cond (leb (from + size) (length a)) (closed a from size) a
