-- The search for a name in the table, slot by slot.
use Prim.Native.Nat.{ℕ, ◌+◌, ◌-◌, ◌<◌, ◌≤◌}
use mathlib.Core.Path.{◌≡◌, sym, ap, ◌∙◌}
use mathlib.Core.List.{List}
use mathlib.Core.Bool.{Bool, true, false}
use lib.ListN.{get_or, drop}
use native.Mathlib.Omega.{arith}
use borrow.Author.Count.{below_more}
use Rattle.json_move.specs.Read.{decoded}
use Rattle.document.specs.Lookup.{same}
use Rattle.read_names.specs.Names.{first_slot, slot_name, Searched}

first_small : (seed : ℕ) (n : List ℕ) → first_slot seed n ≤ 8192
unfolding first_slot
first_small seed n = omega arith

pub record Searching (seed : ℕ) (text n table : List ℕ) (i : ℕ) : Type 0 where
  pub from : first_slot seed n ≤ i
  pub passed : (j : ℕ) → j < i → first_slot seed n ≤ j → (0 < get_or table j 0) × (same n (slot_name text table j) ≡ false)

pub search_none : {seed : ℕ} {text n table : List ℕ} {i : ℕ} → i ≡ first_slot seed n → Searching seed text n table i
search_none e = record { from = omega arith; passed = λ j a b. absurd (omega arith) }

module _ {seed : ℕ} {text n table : List ℕ} {i : ℕ} (s : Searching seed text n table i) where
  pub search_empty : get_or table i 0 ≡ 0 → Searched seed text n table i
  search_empty z = record { from = s.from; passed = s.passed; ends = λ h p. absurd (omega arith) }

  pub search_over : 8192 ≤ i → Searched seed text n table 8192
  search_over l = record { from = first_small seed n; passed = λ j a b. s.passed j (omega arith) b; ends = λ h p. absurd (omega arith) }

  module _ {o : ℕ} (e : o ≡ get_or table i 0 - 1) where
    here : (x : Bool) → x ≡ same n (decoded (drop o text)) → same n (slot_name text table i) ≡ x
    unfolding slot_name
    here x h = ap (λ y. same n (decoded (drop y text))) (sym e) ∙ sym h

    pub search_found : true ≡ same n (decoded (drop o text)) → Searched seed text n table i
    search_found h = record { from = s.from; passed = s.passed; ends = λ l p. here true h }

    pub search_on : 0 < get_or table i 0 → false ≡ same n (decoded (drop o text)) → Searching seed text n table (i + 1)
    search_on f h =
        record {
          from = omega (arith, s.from);
          passed = below_more (λ j. first_slot seed n ≤ j → (0 < get_or table j 0) × (same n (slot_name text table j) ≡ false)) i s.passed (λ l. (f, here false h));
        }
