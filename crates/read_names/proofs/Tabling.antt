-- The members of an object, gone through with a table of their names.
use Prim.Native.Nat.{ℕ, ◌+◌, ◌-◌, ◌<◌}
use mathlib.Core.Path.{◌≡◌, sym, ap, subst, ◌∙◌}
use mathlib.Core.List.{List}
use mathlib.Core.Bool.{Bool, true, false, not}
use lib.ListN.{length, get_or, set, drop}
use native.Mathlib.Omega.{arith}
use borrow.Author.Tests.{ne_eqb}
use Rattle.json_grammar.specs.Tree.{Place, object, Members, Moves}
use Rattle.json_move.specs.Moving.{first_in, next_after, at_end, value_of as behind_name}
use Rattle.json_move.specs.Read.{decoded}
use Rattle.document.specs.Lookup.{has}
use Rattle.document.specs.At.{At}
use Rattle.read_names.specs.Names.{name_of, names_from, Searched, Sought}
use Rattle.read_names.specs.declared.slots.Slots.{Slots}
use Rattle.read_names.specs.declared.names.Name.{Name}
use Rattle.std.specs.Prelude.{Option}
use Rattle.read_names.proofs.Naming.{numbered}
use Rattle.read_names.specs.declared.table.Found.TheVariants as F
use Rattle.read_names.proofs.Slotted.{Noted}
use Rattle.read_names.proofs.Members.{Settling, settling_none, seen_none, settling_on, seen_on}
use Rattle.read_names.proofs.Entries.{Tabled, tabled_none, Entered, entered_in, entered_out, slot_says, tabled_on}

pub record Tabling (seed : ℕ) (text : List ℕ) (at : ℕ) (ms : Members) (slots : Slots) (table : List ℕ) (m q : ℕ) : Type 0 where
  pub settling : Settling text at ms slots m q
  pub size : length table ≡ 8192
  pub tabled : q < 65535 → Tabled seed text table settling.seen

pub tabling_none : {seed : ℕ} {text : List ℕ} {at : ℕ} {p : Place} {ms : Members} {slots : Slots} {table : List ℕ} {q : ℕ} → At text at (object p ms) → Moves first_in text at q
    → length slots.places ≡ 33 → ((i : ℕ) → i < 33 → get_or slots.places i 0 ≡ 0) → length table ≡ 8192 → ((j : ℕ) → j < 8192 → get_or table j 0 ≡ 0) → Tabling seed text at ms slots table 0 q
tabling_none {seed} {text} {slots = slots} {table = table} a m size zeros long empty =
    record {
      settling = settling_none a m size zeros;
      size = long;
      tabled = λ near. subst (λ x. Tabled seed text table x) (sym (seen_none slots a m size zeros)) (tabled_none long empty);
    }

-- The name at q did not stand before, and is entered where the search for it ended, if it did at a slot.
pub record Passed (seed : ℕ) (text : List ℕ) (q : ℕ) (table : List ℕ) (seen : List (List ℕ)) (entered : List ℕ) : Type 0 where
  pub slot : ℕ
  pub searched : q < 65535 → Searched seed text (decoded (drop q text)) table slot
  pub enters : Entered table slot (q + 1) entered
  pub new : has (decoded (drop q text)) seen ≡ false

module _ {seed : ℕ} {text : List ℕ} {at : ℕ} {ms : Members} {slots : Slots} {table : List ℕ} {m q : ℕ} (t : Tabling seed text at ms slots table m q) where
  pub tabled_twice : Sought seed text q table F.Stands → has (decoded (drop q text)) t.settling.seen ≡ true
  tabled_twice (near, (i, l, some, s)) = sym (slot_says (t.tabled near) s l) ∙ ap not (ne_eqb (get_or table i 0) 0 (λ z. omega arith))

  pub before_is : {r : Bool} → r ≡ has (decoded (drop q text)) (names_from m (first_in (drop at text))) → has (decoded (drop q text)) t.settling.seen ≡ r
  before_is e = t.settling.before (decoded (drop q text)) ∙ sym e

  pub passed_free : {i : ℕ} → Sought seed text q table (F.Free i) → (entered : List ℕ) → entered ≡ set table i (q + 1) → Passed seed text q table t.settling.seen entered
  passed_free {i} (near, l, none, s) entered e =
      record {
        slot = i;
        searched = λ h. s;
        enters = entered_in table i (q + 1) entered t.size l e;
        new = sym (slot_says (t.tabled near) s l) ∙ rw none;
      }

  pub passed_nowhere : Sought seed text q table F.Nowhere → has (decoded (drop q text)) t.settling.seen ≡ false → (entered : List ℕ) → entered ≡ table → Passed seed text q table t.settling.seen entered
  passed_nowhere s new entered e =
      record { slot = 8192; searched = s; enters = entered_out table 8192 (q + 1) entered (omega arith) e; new = new }

  -- a near place is as it stands in the slot
  pub tabling_on : at_end (drop q text) ≡ false → m < length text → {entered : List ℕ} → Passed seed text q table t.settling.seen entered
      → (o : Option Name) → o ≡ name_of (decoded (drop q text)) → (v : ℕ) → Moves behind_name text q v → (r : ℕ) → Moves next_after text v r
      → (after : Slots) → Noted slots.places (numbered o) v after.places → Tabling seed text at ms after entered (m + 1) r
  tabling_on stays less {entered} p o known v to r on after noted =
      let s = t.settling in
      record {
        settling = settling_on s stays p.new less o known v to r on after noted;
        size = p.enters.size ∙ t.size;
        tabled = λ near.
            let b : q < 65535 = omega (arith, to.ahead, on.ahead) in
            let z : q + 1 - 1 ≡ q = omega arith in
            subst (λ x. Tabled seed text entered x) (sym (seen_on s stays p.new less o known v to r on after noted))
            (tabled_on (t.tabled b) (p.searched b) p.new (omega arith) (rw z) p.enters);
      }
