-- The names of document 01's members by number, and what one walk over an object's members settles.
use Rattle.std.specs.Prelude.{ℕ, zero, suc, ◌+◌, ◌-◌, ◌*◌, ◌/◌, ◌%◌, ◌<◌, ◌≤◌, ◌≡◌, List, [], ◌∷◌, ◌++◌, Bool, true, false, cond, ◌&&◌, not, length, drop, take, get_or, eqb, leb, min, Option, Some, None, Result, Ok, Err}
use Rattle.std.specs.List.{list_any, count_by, find as first_of}
use Rattle.std.specs.Option.{is_some}
use Rattle.std.proofs.Math.Option.{Option as Maybe, none, some}
use Rattle.json_grammar.specs.Tree.{Place, Members, object}
use Rattle.json_move.specs.Moving.{first_in, next_after, value_of as behind_name}
use Rattle.json_move.specs.Read.{decoded, members_at}
use Rattle.document.specs.Bytes.{bytes}
use Rattle.document.specs.Lookup.{Entry, same, find, repeated}
use Rattle.document.specs.Visit.{Value, entries_of}
use Rattle.document.specs.At.{At, Slot}
use Rattle.read_names.specs.declared.names.Name.{Name}
use Rattle.read_names.specs.declared.names.Name.TheVariants as N
use Rattle.read_names.specs.declared.packed.Packed.{Packed}
use Rattle.read_names.specs.declared.table.Hash.{Hash}
use Rattle.read_names.specs.declared.table.Found.{Found}
use Rattle.read_names.specs.declared.table.Found.TheVariants as F
use Rattle.read_names.specs.declared.slots.Slots.{Slots}
use Rattle.read_names.specs.declared.slots.Object.{Object}
use Rattle.read_names.specs.declared.slots.Twice.{Twice}

unfoldable pub names : List (List ℕ)
names =
    bytes "t" ∷ bytes "ds" ∷ bytes "text" ∷ bytes "tdo" ∷ bytes "cyDuU" ∷ bytes "cyDu" ∷ bytes "tdpc" ∷ bytes "sos"
    ∷ bytes "do" ∷ bytes "ts" ∷ bytes "ss" ∷ bytes "wds" ∷ bytes "doms" ∷ bytes "miDu" ∷ bytes "miDuU"
    ∷ bytes "a" ∷ bytes "aFrom" ∷ bytes "aTo" ∷ bytes "duU" ∷ bytes "du" ∷ bytes "aMin" ∷ bytes "aMax"
    ∷ bytes "po" ∷ bytes "dt" ∷ bytes "s" ∷ bytes "dtFrom" ∷ bytes "dtTo" ∷ bytes "inRes" ∷ bytes "relMeal"
    ∷ bytes "unit" ∷ bytes "applInstr" ∷ bytes "roa" ∷ bytes "moa" ∷ []

unfoldable pub name_at : ℕ → List ℕ
unfolding names
name_at i = get_or names i []

abbrev pub number_of : Name → ℕ
number_of N.T = 0
number_of N.Ds = 1
number_of N.Text = 2
number_of N.Tdo = 3
number_of N.CyDuU = 4
number_of N.CyDu = 5
number_of N.Tdpc = 6
number_of N.Sos = 7
number_of N.Do = 8
number_of N.Ts = 9
number_of N.Ss = 10
number_of N.Wds = 11
number_of N.Doms = 12
number_of N.MiDu = 13
number_of N.MiDuU = 14
number_of N.A = 15
number_of N.AFrom = 16
number_of N.ATo = 17
number_of N.DuU = 18
number_of N.Du = 19
number_of N.AMin = 20
number_of N.AMax = 21
number_of N.Po = 22
number_of N.Dt = 23
number_of N.S = 24
number_of N.DtFrom = 25
number_of N.DtTo = 26
number_of N.InRes = 27
number_of N.RelMeal = 28
number_of N.Unit = 29
number_of N.ApplInstr = 30
number_of N.Roa = 31
number_of N.Moa = 32

abbrev pub spelled : Name → List ℕ
spelled n = name_at (number_of n)

-- In the order of their numbers.
abbrev pub all_names : List Name
all_names =
    N.T ∷ N.Ds ∷ N.Text ∷ N.Tdo ∷ N.CyDuU ∷ N.CyDu ∷ N.Tdpc ∷ N.Sos ∷ N.Do ∷ N.Ts ∷ N.Ss ∷ N.Wds ∷ N.Doms ∷ N.MiDu ∷
    N.MiDuU ∷ N.A ∷ N.AFrom ∷ N.ATo ∷ N.DuU ∷ N.Du ∷ N.AMin ∷ N.AMax ∷ N.Po ∷ N.Dt ∷ N.S ∷ N.DtFrom ∷ N.DtTo ∷ N.InRes ∷
    N.RelMeal ∷ N.Unit ∷ N.ApplInstr ∷ N.Roa ∷ N.Moa ∷ []

-- Which name some bytes spell.
unfoldable pub name_of : List ℕ → Option Name
unfolding names name_at
name_of n = first_of (λ m. same n (spelled m)) all_names

-- Bytes as one number, behind those that make v.
unfoldable pub pack : ℕ → List ℕ → ℕ
pack v [] = v
pack v (b ∷ s) = pack (v * 256 + b) s

-- A name's first seven bytes behind a 1, and its next seven so; 0 there for a longer name.
unfoldable pub head_of : List ℕ → ℕ
unfolding pack
head_of name = pack 1 (take 7 name)

unfoldable pub tail_of : List ℕ → ℕ
unfolding pack
tail_of name = cond (leb (length name) 14) (pack 1 (drop 7 name)) 0

abbrev pub Bytes : List ℕ → Type 0
Bytes [] = Unit
Bytes (b ∷ s) = (b < 256) × Bytes s

-- Of a longer name no more is told than of its first fourteen.
pub record Packs (name : List ℕ) (p : Packed) : Type 0 where
  pub head : p.head ≡ head_of name
  pub tail : p.tail ≡ tail_of name
  pub letters : p.letters ≡ min (length name) 15
  pub small : Bytes (take 14 name)

-- The bytes are packed behind those of p.
abbrev pub PacksOn : Packed → List ℕ → Packed → Type 0
PacksOn p bytes q = (name : List ℕ) → Packs name p → Packs (name ++ bytes) q

abbrev pub is_packed : ℕ → ℕ → Name → Bool
is_packed head tail m = eqb tail (tail_of (spelled m)) && eqb head (head_of (spelled m))

-- Which name of at most seven bytes is packed so.
unfoldable pub short_name : ℕ → Option Name
unfolding names name_at head_of tail_of
short_name head = first_of (is_packed head 1) all_names

-- The names of the first members from a place on.
unfoldable pub names_from : ℕ → Place → List (List ℕ)
unfolding decoded next_after behind_name
names_from zero s = []
names_from (suc n) s = decoded s ∷ names_from n (next_after (behind_name s))

-- The members of the object whose brace stands here.
unfoldable pub members_in : List ℕ → Place → Members
unfolding members_at first_in
members_in text s = members_at (length text) (first_in s)

-- Where a slot says that a value stands: no value stands at 0, where the object's brace or what is before it is.
abbrev pub place_in : ℕ → Option ℕ
place_in zero = None
place_in (suc v) = Some (suc v)

abbrev pub place_of : Slots → Name → Option ℕ
place_of slots n = place_in (get_or slots.places (number_of n) 0)

-- No name stands twice, and the slots have them all.
pub record Once (text : List ℕ) (es : List (Entry Value)) (o : Object) : Type 0 where
  pub once : repeated [] es ≡ none
  pub slot : (n : Name) → Slot text (place_of o.slots n) (find (spelled n) es)
  pub count : o.members ≡ length es

-- A hash of two halves, byte by byte.
abbrev low : ℕ → ℕ → ℕ → ℕ
low seed h b = (h % 0x100000000 + b + 1) * (0x80000000 + (seed % 0x100000000 + h / 0x100000000) % 0x40000000) / 0x10000 % 0x100000000

unfoldable pub hash_on : ℕ → ℕ → ℕ → ℕ
hash_on seed h b = (h / 0x100000000 + low seed h b + seed / 0x100000000) % 0x100000000 * 0x100000000 + low seed h b

unfoldable pub hash_from : ℕ → ℕ → List ℕ → ℕ
hash_from seed h [] = h
hash_from seed h (b ∷ s) = hash_from seed (hash_on seed h b) s

-- The bytes are hashed behind those of g.
abbrev pub HashesOn : Hash → List ℕ → Hash → Type 0
HashesOn g bytes h = (h.seed ≡ g.seed) × (h.hash ≡ hash_from g.seed g.hash bytes)

-- A text's hash, its own seed, and the slot at which the search for a name starts.
unfoldable pub hash_of : ℕ → List ℕ → ℕ
unfolding hash_from
hash_of seed text = hash_from seed 0 (take 65535 text)

unfoldable pub seed_of : List ℕ → ℕ
unfolding hash_of
seed_of text = hash_of (hash_of 0x9E3779B97F4A7C15 text) text

unfoldable pub first_slot : ℕ → List ℕ → ℕ
first_slot seed n = hash_from seed 0 n % 8053

-- The name whose place a slot has.
unfoldable pub slot_name : List ℕ → List ℕ → ℕ → List ℕ
unfolding decoded
slot_name text table i = decoded (drop (get_or table i 0 - 1) text)

-- The search for a name passes the names of others, and ends at its own, at an empty slot, or behind them all.
pub record Searched (seed : ℕ) (text n table : List ℕ) (r : ℕ) : Type 0 where
  pub from : first_slot seed n ≤ r
  pub passed : (j : ℕ) → j < r → first_slot seed n ≤ j → (0 < get_or table j 0) × (same n (slot_name text table j) ≡ false)
  pub ends : r < 8192 → 0 < get_or table r 0 → same n (slot_name text table r) ≡ true

-- A place from 65535 on has no room in a slot.
abbrev pub Sought : ℕ → List ℕ → ℕ → List ℕ → Found → Type 0
Sought seed text quote table F.Stands = (quote < 65535) × ((i : ℕ) × (i < 8192) × (0 < get_or table i 0) × Searched seed text (decoded (drop quote text)) table i)
Sought seed text quote table (F.Free i) = (quote < 65535) × (i < 8192) × (get_or table i 0 ≡ 0) × Searched seed text (decoded (drop quote text)) table i
Sought seed text quote table F.Nowhere = quote < 65535 → Searched seed text (decoded (drop quote text)) table 8192

-- A name stands twice, the second time at a place; or none does.
abbrev pub Settled : List ℕ → List (Entry Value) → Result Object Twice → Type 0
Settled text es (Ok o) = Once text es o
Settled text es (Err twice) = (repeated [] es ≡ some (drop twice.0 text)) × (twice.0 ≤ length text)

-- Of every object that stands at a place.
abbrev pub Settles : List ℕ → ℕ → Result Object Twice → Type 0
Settles text at r = (p : Place) (ms : Members) → At text at (object p ms) → Settled text (entries_of ms) r

abbrev pub row_names : List Name → List (List ℕ)
row_names [] = []
row_names (n ∷ ns) = spelled n ∷ row_names ns

abbrev pub is_in : Name → List Name → Bool
is_in n ns = list_any (λ m. eqb (number_of n) (number_of m)) ns

-- Whether a member's name is one of a row.
abbrev pub is_among : Option Name → List Name → Bool
is_among None ns = false
is_among (Some n) ns = is_in n ns

-- A row has no name twice.
abbrev pub is_row : List Name → Bool
is_row [] = true
is_row (n ∷ ns) = not (is_in n ns) && is_row ns

-- How many of a row's names stand.
abbrev pub standing_of : Slots → List Name → ℕ
standing_of slots ns = count_by (λ n. is_some (place_of slots n)) ns

-- The first member whose name is not in the row.
abbrev pub Tells : List ℕ → Maybe Place → Option ℕ → Type 0
Tells text o None = o ≡ none
Tells text o (Some q) = (o ≡ some (drop q text)) × (q ≤ length text)
