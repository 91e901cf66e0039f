-- The last byte of a plain text is a brace: so bytes used end at the last byte that is not zero.
use mathlib.Core.Path.{◌≡◌, refl, ap, sym, ◌∙◌}
use mathlib.Core.List.{List, [], ◌∷◌, ◌++◌, append-nil, append_assoc}
use mathlib.Core.Bool.{true, false}
use Prim.Native.Nat.{ℕ, zero, suc, ◌-◌}
use native.Mathlib.Omega.{arith}
use lib.Dec.{eqb}
use lib.ListN.{length, replicate, length-append}
use Rattle.json_grammar.specs.Tree.{Tree, Members, no_member, member}
use Rattle.json_grammar.proofs.Truth.{cond_true, cond_false}
use Rattle.document.specs.Posology.{Posology}
use Rattle.document.specs.Spell.{quoted, spell, first_member, more_members}
use Rattle.document.specs.Plain.{plain, plain_then, plain_tree, members_of, head_slots}
use Rattle.document.specs.Valid.{every}
use Rattle.document_meaning.proofs.PlainThen.{named_then, spell_then}
use Rattle.shelf_list.specs.Shelf.{Entry, two_bytes, record_then, used, records_then, good_entry, Holds, is_zeros, bytes_used}
use Rattle.shelf_list.proofs.Records.{good_each}
use Rattle.shelf_list.proofs.Lists.{and_false}
use Rattle.shelf_list.proofs.Areas.{records_length, zeros_zeros}
use Rattle.shelf_list.proofs.Edits.{record_then_lem, records_then_lem}

-- Bytes whose last is a brace.
pub record Ends (s : List ℕ) : Type 0 where
  pub before : List ℕ
  pub is : s ≡ before ++ (125 ∷ [])

-- A name and its value, and what follows them.
named_end : (n : List ℕ) (t : Tree) {s : List ℕ} → Ends s → Ends (quoted n (58 ∷ spell t s))
named_end n t e =
    let brace : List ℕ = 125 ∷ [] in
    record {
      before = quoted n (58 ∷ spell t e.before);
      is = named_then n (spell t e.before) brace (ap (spell t) e.is ∙ spell_then t e.before brace);
    }

more_members_end : (ms : Members) → Ends (more_members ms [])
unfolding spell
more_members_end no_member = record { before = []; is = refl }
more_members_end (member q n t ms) =
    let e = named_end n t (more_members_end ms) in
    record { before = 44 ∷ 34 ∷ e.before; is = ap (λ (s : List ℕ). 44 ∷ 34 ∷ s) e.is }

first_member_end : (ms : Members) → Ends (first_member ms [])
unfolding spell
first_member_end no_member = record { before = []; is = refl }
first_member_end (member q n t ms) =
    let e = named_end n t (more_members_end ms) in
    record { before = 34 ∷ e.before; is = ap (λ (s : List ℕ). 34 ∷ s) e.is }

pub plain_ends : (p : Posology) → Ends (plain p)
unfolding plain_then plain_tree spell
plain_ends p =
    let e = first_member_end (members_of (head_slots p)) in
    record { before = 123 ∷ e.before; is = ap (λ (s : List ℕ). 123 ∷ s) e.is }

-- Bytes used, as the area shows them.
not_zeros : (s k : List ℕ) → is_zeros (s ++ (125 ∷ k)) ≡ false
not_zeros [] k = refl
not_zeros (b ∷ s) k = and_false (eqb b 0) (is_zeros (s ++ (125 ∷ k))) (not_zeros s k)

all_zeros : (m : ℕ) → bytes_used (replicate m 0) ≡ 0
all_zeros zero = refl
all_zeros (suc m) = cond_true (is_zeros (replicate m 0)) 0 (suc (bytes_used (replicate m 0))) (zeros_zeros m)

used_to : (s : List ℕ) (m : ℕ) → bytes_used (s ++ (125 ∷ replicate m 0)) ≡ suc (length s)
used_to [] m = ap suc (all_zeros m)
used_to (b ∷ s) m =
    cond_false (is_zeros (b ∷ s ++ (125 ∷ replicate m 0))) 0 (suc (bytes_used (s ++ (125 ∷ replicate m 0))))
    (not_zeros (b ∷ s) (replicate m 0))
    ∙ ap suc (used_to s m)

record_ends : (e : Entry) → Ends (record_then e [])
unfolding record_then
record_ends e =
    let p = plain e.posology in
    let i = plain_ends e.posology in
    record {
      before = 0x50 ∷ 0x6F ∷ two_bytes e.number (two_bytes (length p) i.before);
      is = ap (λ (s : List ℕ). 0x50 ∷ 0x6F ∷ two_bytes e.number (two_bytes (length p) s)) (append-nil p ∙ i.is);
    }

records_end : (e : Entry) (es : List Entry) → Ends (records_then (e ∷ es) [])
records_end e [] = record_ends e
records_end e (f ∷ es) =
    let i = records_end f es in
    record {
      before = record_then e [] ++ i.before;
      is =
          ap (record_then e) i.is ∙ record_then_lem e (i.before ++ (125 ∷ [])) ∙ sym (append_assoc (record_then e []) i.before (125 ∷ []));
    }

used_laid : (es : List Entry) (m : ℕ) → every good_entry es ≡ true → bytes_used (records_then es (replicate m 0)) ≡ used es
used_laid [] m g = all_zeros m
used_laid (e ∷ es) m g =
    let i = records_end e es in
    let l = records_length (e ∷ es) [] g in
    let k : length (records_then (e ∷ es) []) ≡ length (i.before ++ (125 ∷ [])) = ap length i.is in
    let j = length-append i.before (125 ∷ []) in
    ap bytes_used (records_then_lem (e ∷ es) (replicate m 0))
    ∙ ap (λ (s : List ℕ). bytes_used (s ++ replicate m 0)) i.is
    ∙ ap bytes_used (append_assoc i.before (125 ∷ []) (replicate m 0))
    ∙ used_to i.before m
    ∙ omega arith

-- A shelf's bytes used end at its last byte that is not zero.
pub holds_used : (a : List ℕ) (es : List Entry) → Holds a es → bytes_used a ≡ used es
holds_used a es h = ap bytes_used (sym h.bytes) ∙ used_laid es (length a - used es) (good_each es h.is_good)
