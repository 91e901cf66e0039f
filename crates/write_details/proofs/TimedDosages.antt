-- The timed dosage that is put, by the tag of its record.
use mathlib.Core.Path.{◌≡◌, sym, ◌∙◌}
use mathlib.Core.List.{List, ◌∷◌, ◌++◌}
use Prim.Native.Nat.{ℕ, ◌+◌, ◌≤◌, ◌<◌}
use Prim.Native.String.{String}
use native.Mathlib.Omega.{arith}
use Rattle.json_grammar.specs.Tree.{Tree, no_member, Elements}
use Rattle.document.specs.Bytes.{bytes}
use Rattle.document.specs.Spell.{spell, first_element}
use Rattle.document.specs.Plain.{field, typed, days_tree}
use Rattle.document.specs.Untable.{days_of}
use Rattle.table_rows.specs.Standing.{tag_at, below_at, a_at, b_at}
use Rattle.write_bytes.specs.Puts.{Lays}
use Rattle.write_bytes.specs.declared.Output.{Output}
use Rattle.write_details.specs.Prints.{Prints, DosagePrints, ApplicationsPrint, PlainPrints, dosage_only, times, segments, TimedPrints, plain, week_days, days_of_month, interval}
use Rattle.write_bytes.proofs.Laid.{lays_then, lays_as}
use Rattle.write_details.proofs.Pieces.{LaysBytes, LaysWhole}
use Rattle.write_details.proofs.TimedTexts.{times_text, segments_text, week_days_text, days_of_month_text, interval_text}

-- A list of the applications below record i, and days with what is below it, behind some bytes.
abbrev LaysListed : List ℕ → ℕ → Output → String → Output → Type 0
LaysListed ws i before name after =
    (ts : Elements) (k : List ℕ) → i + 1 + below_at ws i ≤ 64 → ApplicationsPrint ws (i + 1 + below_at ws i) (i + 1) ts → Lays before (bytes name ++ first_element ts (125 ∷ k)) k after

abbrev LaysUnder : List ℕ → ℕ → Output → String → ℕ → Output → Type 0
LaysUnder ws i before name last after =
    (t : Tree) (k : List ℕ) → i < 64 → PlainPrints ws (i + 1) t → Lays before (bytes name ++ first_element (days_tree (days_of last 1 (a_at ws i))) (bytes ",\"tdo\":" ++ spell t (125 ∷ k))) k after

plain_tag : {ws : List ℕ} {i : ℕ} {t : Tree} → PlainPrints ws i t → (i < 64) × (tag_at ws i ≤ 8)
plain_tag (dosage_only at _) = let h = at.tag in (at.inside, omega arith)
plain_tag (times at _ _) = let h = at.tag in (at.inside, omega arith)
plain_tag (segments at _ _) = let h = at.tag in (at.inside, omega arith)

timed_inside : {ws : List ℕ} {i : ℕ} {t : Tree} → TimedPrints ws i t → i < 64
timed_inside (plain p) = (plain_tag p).0
timed_inside (week_days at _) = at.inside
timed_inside (days_of_month at _) = at.inside
timed_inside (interval at _ _ _) = at.inside

module _ {ws : List ℕ} {i : ℕ} {before after : Output} {tag : ℕ} (read : i < 64 → tag ≡ tag_at ws i) where
  pub times_prints : tag ≡ 7 → LaysListed ws i before "{\"t\":2,\"ts\":[" after → Prints (PlainPrints ws i) before after
  times_prints h l t k (times {ts = ts} at g p) = lays_as (times_text ts k) (l ts k (rw at.below g) (rw at.below p))
  times_prints h l t k (dosage_only at _) = let m = read at.inside ∙ at.tag in absurd (omega arith)
  times_prints h l t k (segments at _ _) = let m = read at.inside ∙ at.tag in absurd (omega arith)

  pub segments_prints : tag ≡ 8 → LaysListed ws i before "{\"t\":3,\"ss\":[" after → Prints (PlainPrints ws i) before after
  segments_prints h l t k (segments {ss = ss} at g p) = lays_as (segments_text ss k) (l ss k (rw at.below g) (rw at.below p))
  segments_prints h l t k (dosage_only at _) = let m = read at.inside ∙ at.tag in absurd (omega arith)
  segments_prints h l t k (times at _ _) = let m = read at.inside ∙ at.tag in absurd (omega arith)

  pub dosage_only_prints : (tag ≡ 7 → ⊥) → (tag ≡ 8 → ⊥) → ((d : Tree) (k : List ℕ) → DosagePrints ws (i + 1) d → Lays before (spell (typed 1 (field "do" d no_member)) k) k after) → Prints (PlainPrints ws i) before after
  dosage_only_prints f g l t k (dosage_only {d = d} at p) = l d k p
  dosage_only_prints f g l t k (times at _ _) = absurd (f (read at.inside ∙ at.tag))
  dosage_only_prints f g l t k (segments at _ _) = absurd (g (read at.inside ∙ at.tag))

  pub week_days_prints : tag ≡ 9 → LaysUnder ws i before "{\"t\":4,\"wds\":[" 7 after → Prints (TimedPrints ws i) before after
  week_days_prints h l t k (week_days {set = set} {t = x} at p) = lays_as (week_days_text (days_tree (days_of 7 1 set)) x k) (rw at.a at (l x k at.inside p))
  week_days_prints h l t k (plain p) = let x = plain_tag p in let m = read x.0 in absurd (omega arith)
  week_days_prints h l t k (days_of_month at _) = let m = read at.inside ∙ at.tag in absurd (omega arith)
  week_days_prints h l t k (interval at _ _ _) = let m = read at.inside ∙ at.tag in absurd (omega arith)

  pub days_of_month_prints : tag ≡ 10 → LaysUnder ws i before "{\"t\":5,\"doms\":[" 28 after → Prints (TimedPrints ws i) before after
  days_of_month_prints h l t k (days_of_month {set = set} {t = x} at p) = lays_as (days_of_month_text (days_tree (days_of 28 1 set)) x k) (rw at.a at (l x k at.inside p))
  days_of_month_prints h l t k (plain p) = let x = plain_tag p in let m = read x.0 in absurd (omega arith)
  days_of_month_prints h l t k (week_days at _) = let m = read at.inside ∙ at.tag in absurd (omega arith)
  days_of_month_prints h l t k (interval at _ _ _) = let m = read at.inside ∙ at.tag in absurd (omega arith)

  pub known_interval_prints : tag ≡ 11 → (tag_at ws i ≡ 11 → Prints (TimedPrints ws i) before after) → Prints (TimedPrints ws i) before after
  known_interval_prints h l t k p = l (sym (read (timed_inside p)) ∙ h) t k p

  pub plain_prints : (tag ≡ 9 → ⊥) → (tag ≡ 10 → ⊥) → (tag ≡ 11 → ⊥) → Prints (PlainPrints ws i) before after → Prints (TimedPrints ws i) before after
  plain_prints f g h l t k (plain p) = l t k p
  plain_prints f g h l t k (week_days at _) = absurd (f (read at.inside ∙ at.tag))
  plain_prints f g h l t k (days_of_month at _) = absurd (g (read at.inside ∙ at.tag))
  plain_prints f g h l t k (interval at _ _ _) = absurd (h (read at.inside ∙ at.tag))

module _ {ws : List ℕ} {i : ℕ} {before one two three four five : Output} {a b : ℕ} where
  pub interval_prints : tag_at ws i ≡ 11 → (i < 64 → a ≡ a_at ws i) → (i < 64 → b ≡ b_at ws i)
      → LaysBytes before "{\"t\":6,\"do\":" one → Prints (DosagePrints ws (i + 1)) one two → LaysWhole two ",\"miDu\":" a three → LaysWhole three ",\"miDuU\":" b four → LaysBytes four "}" five
      → Prints (TimedPrints ws i) before five
  interval_prints tag ea eb p q x y z t k (interval {du = n} {unit = m} {d = d} at g h dosage) =
      let e : n ≡ a = sym (ea at.inside ∙ at.a) in
      let f : m ≡ b = sym (eb at.inside ∙ at.b) in
      lays_as (interval_text d n m k) (rw (e, f) (lays_then (p _) (lays_then (q d _ dosage) (lays_then (x _ (omega arith)) (lays_then (y _ (omega arith)) (z k))))))
  interval_prints tag ea eb p q x y z t k (plain o) = let m = plain_tag o in absurd (omega arith)
  interval_prints tag ea eb p q x y z t k (week_days at _) = let m = at.tag in absurd (omega arith)
  interval_prints tag ea eb p q x y z t k (days_of_month at _) = let m = at.tag in absurd (omega arith)
