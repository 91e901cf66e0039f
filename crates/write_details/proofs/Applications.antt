-- The application that is put: at a time, or in a segment of the day.
use mathlib.Core.Path.{◌≡◌, refl, sym, ◌∙◌}
use mathlib.Core.List.{List}
use Prim.Native.Nat.{ℕ, ◌+◌, ◌%◌, ◌<◌, ◌≤◌}
use native.Mathlib.Omega.{arith}
use Rattle.json_grammar.specs.Tree.{Elements, no_element}
use Rattle.table_rows.specs.Standing.{tag_at, a_at}
use Rattle.write_bytes.specs.declared.Output.{Output}
use Rattle.write_details.specs.Prints.{Prints, DosagePrints, ApplicationPrints, at_time, in_segment, ApplicationsPrint, none, more}
use Rattle.write_bytes.proofs.Laid.{lays_then, lays_as}
use Rattle.write_details.proofs.Pieces.{LaysBytes, LaysWhole, LaysTime}
use Rattle.write_details.proofs.Listing.{Next, next}
use Rattle.write_details.proofs.DosageTexts.{at_time_text, in_segment_text}

module _ {ws : List ℕ} {i : ℕ} {before one two three four : Output} {tag a : ℕ} (read : i < 64 → tag ≡ tag_at ws i) (reads : i < 64 → a ≡ a_at ws i) where
  pub at_time_prints : {after : Output} → tag ≡ 17 → LaysBytes before "{\"do\":" one → Prints (DosagePrints ws (i + 1)) one two → LaysBytes two ",\"dt\":\"" three → LaysTime three a four → LaysBytes four "\"}" after
      → Prints (ApplicationPrints ws i) before after
  at_time_prints h p q x y z t k (at_time {dt = n} {d = d} at g dosage) =
      let m = reads at.inside ∙ at.a in
      let e : n ≡ a % 360000 = omega arith in
      lays_as (at_time_text d n k (omega arith)) (rw e (lays_then (p _) (lays_then (q d _ dosage) (lays_then (x _) (lays_then (y _) (z k))))))
  at_time_prints h p q x y z t k (in_segment at g dosage) = let m = read at.inside ∙ at.tag in absurd (omega arith)

  pub in_segment_prints : (tag ≡ 17 → ⊥) → LaysBytes before "{\"do\":" one → Prints (DosagePrints ws (i + 1)) one two → LaysWhole two ",\"s\":" a three → LaysBytes three "}" four
      → Prints (ApplicationPrints ws i) before four
  in_segment_prints h p q x y t k (at_time at g dosage) = absurd (h (read at.inside ∙ at.tag))
  in_segment_prints h p q x y t k (in_segment {s = n} {d = d} at g dosage) =
      let e : n ≡ a = sym (reads at.inside ∙ at.a) in
      lays_as (in_segment_text d n k) (rw e (lays_then (p _) (lays_then (q d _ dosage) (lays_then (x _ (omega arith)) (y k)))))

-- Record by record, two to an application.
module _ {ws : List ℕ} {end r : ℕ} where
  pub application_next : r < end → (es : Elements) → ApplicationsPrint ws end r es → Next (ApplicationsPrint ws end) (ApplicationPrints ws r) (r + 2) es
  application_next h es (none e) = absurd (omega arith)
  application_next h es (more g p ps) = next p ps

  pub applications_end : end ≤ r → (es : Elements) → ApplicationsPrint ws end r es → es ≡ no_element
  applications_end h es (none e) = refl
  applications_end h es (more g p ps) = absurd (omega arith)
