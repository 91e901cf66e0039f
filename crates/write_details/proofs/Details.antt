-- What the pieces of a detail and of a sequence's object come to, put one behind the other.
use mathlib.Core.Path.{◌≡◌, sym, ◌∙◌}
use mathlib.Core.List.{List, ◌++◌}
use mathlib.Core.Bool.{not}
use Prim.Native.Nat.{ℕ, ◌+◌, ◌-◌, ◌%◌, ◌≤◌, ◌<◌}
use native.Mathlib.Omega.{arith}
use lib.Dec.{eqb}
use lib.ListN.{length, take, drop}
use Rattle.json_grammar.specs.Tree.{Tree, no_member}
use Rattle.document.specs.Bytes.{bytes}
use Rattle.document.specs.Schema.{greatest_integer}
use Rattle.document.specs.Spell.{spell, more_members}
use Rattle.document.specs.Plain.{whole, text_tree, field_if}
use Rattle.table_rows.specs.Standing.{tag_at, below_at, a_at, b_at, c_at, d_at}
use Rattle.write_bytes.specs.Puts.{Lays}
use Rattle.write_bytes.specs.declared.Output.{Output}
use Rattle.write_details.specs.Prints.{Prints, Lists, TimedPrints, DetailPrints, daily, free_text, single, cyclic, sequence, ObjectPrints, posology, pause, ObjectsPrint}
use Rattle.write_bytes.proofs.Laid.{lays_then, lays_as}
use Rattle.write_details.proofs.Pieces.{LaysBytes, LaysWhole, LaysAmount}
use Rattle.write_details.proofs.DetailTexts.{daily_text, free_text_lem, single_text, cyclic_text, sequence_text, posology_text_lem, pause_text}

-- What follows the timed dosage of a cycle: how often it comes in each, where that is not once.
abbrev pub Ends : ℕ → Output → Output → Type 0
Ends per before after = (k : List ℕ) → per ≤ greatest_integer → Lays before (more_members (field_if (not (eqb per 1)) "tdpc" (whole per) no_member) k) k after

pub ends_cycle : {per : ℕ} {before after : Output} → ((k : List ℕ) → Lays before (more_members (field_if (not (eqb (per % 1000000) 1)) "tdpc" (whole (per % 1000000)) no_member) k) k after) → Ends per before after
ends_cycle {per} p k h = let e : per % 1000000 ≡ per = omega arith in rw e at (p k)

-- A duration and its unit are put, as the code says it of those at record i.
abbrev pub Span : List ℕ → ℕ → List ℕ → Output → Output → Type 0
Span ws i name before after = (k : List ℕ) → i < 64 → a_at ws i ≤ greatest_integer → b_at ws i ≤ 7 → Lays before (name ++ spell (whole (a_at ws i)) (bytes ",\"duU\":" ++ spell (whole (b_at ws i)) k)) k after

pub lays_span : (ws : List ℕ) (i : ℕ) (name : List ℕ) {before between after : Output} {a b : ℕ} → (i < 64 → a ≡ a_at ws i) → (i < 64 → b ≡ b_at ws i) → ((k : List ℕ) → a < 1000000 → Lays before (name ++ spell (whole a) k) k between) → LaysWhole between ",\"duU\":" b after → Span ws i name before after
lays_span ws i name ea eb p q k n la lb =
    let a≡ = ea n in
    let b≡ = eb n in
    rw (← a≡, ← b≡) (lays_then (p _ (omega arith)) (q k (omega arith)))

module _ {ws buffer : List ℕ} {left i : ℕ} where
  pub prints_daily : {o o₁ o₂ o₃ o₄ o₅ : Output} {a b c d : ℕ} → tag_at ws i ≡ 1 → (i < 64 → a ≡ a_at ws i) → (i < 64 → b ≡ b_at ws i) → (i < 64 → c ≡ c_at ws i) → (i < 64 → d ≡ d_at ws i) → LaysAmount o "{\"t\":1,\"ds\":[" a o₁ → LaysAmount o₁ "," b o₂ → LaysAmount o₂ "," c o₃ → LaysAmount o₃ "," d o₄ → LaysBytes o₄ "]}" o₅ → Prints (DetailPrints ws buffer left i) o o₅
  prints_daily h ea eb ec ed pa pb pc pd q t k (daily w la lb lc ld) =
      let n = w.inside in
      let a≡ = ea n ∙ w.a in
      let b≡ = eb n ∙ w.b in
      let c≡ = ec n ∙ w.c in
      let d≡ = ed n ∙ w.d in
      rw (← a≡, ← b≡, ← c≡, ← d≡) (lays_as (daily_text k _ _ _ _) (lays_then (pa _ (omega arith)) (lays_then (pb _ (omega arith)) (lays_then (pc _ (omega arith)) (lays_then (pd _ (omega arith)) (q k))))))
  prints_daily h ea eb ec ed pa pb pc pd q t k (free_text w l) = absurd (omega (arith, w.tag))
  prints_daily h ea eb ec ed pa pb pc pd q t k (single w s) = absurd (omega (arith, w.tag))
  prints_daily h ea eb ec ed pa pb pc pd q t k (cyclic w l m n s) = absurd (omega (arith, w.tag))
  prints_daily h ea eb ec ed pa pb pc pd q t k (sequence l w m s) = absurd (omega (arith, w.tag))

  pub prints_single : {o o₁ o₂ o₃ : Output} → tag_at ws i ≡ 3 → LaysBytes o "{\"t\":3,\"tdo\":" o₁ → Prints (TimedPrints ws (i + 1)) o₁ o₂ → LaysBytes o₂ "}" o₃ → Prints (DetailPrints ws buffer left i) o o₃
  prints_single h p s q t k (single w d) = lays_as (single_text k _) (lays_then (p _) (lays_then (s _ _ d) (q k)))
  prints_single h p s q t k (daily w la lb lc ld) = absurd (omega (arith, w.tag))
  prints_single h p s q t k (free_text w l) = absurd (omega (arith, w.tag))
  prints_single h p s q t k (cyclic w l m n d) = absurd (omega (arith, w.tag))
  prints_single h p s q t k (sequence l w m d) = absurd (omega (arith, w.tag))

  pub prints_free_text : {o o₁ o₂ o₃ : Output} {a b : ℕ} {cs : List ℕ} → tag_at ws i ≡ 2 → (i < 64 → a ≡ a_at ws i) → (i < 64 → b ≡ b_at ws i) → (a + b ≤ length buffer → cs ≡ take b (drop a buffer)) → LaysBytes o "{\"t\":2,\"text\":" o₁ → ((k : List ℕ) → Lays o₁ (spell (text_tree cs) k) k o₂) → LaysBytes o₂ "}" o₃ → Prints (DetailPrints ws buffer left i) o o₃
  prints_free_text h ea eb e p s q t k (free_text {start = start} {len = len} w l) =
      let n = w.inside in
      let a≡ = ea n ∙ w.a in
      let b≡ = eb n ∙ w.b in
      let e' = e (omega arith) in
      rw (← a≡, ← b≡, ← e') (lays_as (free_text_lem k _) (lays_then (p _) (lays_then (s _) (q k))))
  prints_free_text h ea eb e p s q t k (daily w la lb lc ld) = absurd (omega (arith, w.tag))
  prints_free_text h ea eb e p s q t k (single w d) = absurd (omega (arith, w.tag))
  prints_free_text h ea eb e p s q t k (cyclic w l m n d) = absurd (omega (arith, w.tag))
  prints_free_text h ea eb e p s q t k (sequence l w m d) = absurd (omega (arith, w.tag))

  pub prints_cyclic : {o o₁ o₂ o₃ o₄ o₅ : Output} {a b c : ℕ} → tag_at ws i ≡ 4 → (i < 64 → a ≡ a_at ws i) → (i < 64 → b ≡ b_at ws i) → (i < 64 → c ≡ c_at ws i) → LaysWhole o "{\"t\":4,\"cyDuU\":" a o₁ → LaysWhole o₁ ",\"cyDu\":" b o₂ → LaysBytes o₂ ",\"tdo\":" o₃ → Prints (TimedPrints ws (i + 1)) o₃ o₄ → Ends c o₄ o₅ → Prints (DetailPrints ws buffer left i) o o₅
  prints_cyclic h ea eb ec pa pb p s q t k (cyclic w la lb lc d) =
      let n = w.inside in
      let a≡ = ea n ∙ w.a in
      let b≡ = eb n ∙ w.b in
      let c≡ = ec n ∙ w.c in
      rw (← a≡, ← b≡, ← c≡) (lays_as (cyclic_text k _ _ _ _) (lays_then (pa _ (omega arith)) (lays_then (pb _ (omega arith)) (lays_then (p _) (lays_then (s _ _ d) (q k (omega arith)))))))
  prints_cyclic h ea eb ec pa pb p s q t k (daily w la lb lc ld) = absurd (omega (arith, w.tag))
  prints_cyclic h ea eb ec pa pb p s q t k (free_text w l) = absurd (omega (arith, w.tag))
  prints_cyclic h ea eb ec pa pb p s q t k (single w d) = absurd (omega (arith, w.tag))
  prints_cyclic h ea eb ec pa pb p s q t k (sequence l w m d) = absurd (omega (arith, w.tag))

  pub prints_sequence : {o o₁ o₂ o₃ : Output} {end : ℕ} → tag_at ws i ≡ 5 → (i + 1 + below_at ws i ≤ 64 → end ≡ i + 1 + below_at ws i) → LaysBytes o "{\"t\":5,\"sos\":[" o₁ → Lists (ObjectsPrint ws buffer (left - 1) end (i + 1)) o₁ o₂ → LaysBytes o₂ "]}" o₃ → Prints (DetailPrints ws buffer left i) o o₃
  prints_sequence {end = end} h e p s q t k (sequence {n = n} l w m d) =
      let e' : end ≡ i + 1 + n = omega (arith, w.below, e (omega (arith, w.below))) in
      lays_as (sequence_text k _) (lays_then (p _) (lays_then (s _ _ (rw e' d)) (q k)))
  prints_sequence h e p s q t k (daily w la lb lc ld) = absurd (omega (arith, w.tag))
  prints_sequence h e p s q t k (free_text w l) = absurd (omega (arith, w.tag))
  prints_sequence h e p s q t k (single w d) = absurd (omega (arith, w.tag))
  prints_sequence h e p s q t k (cyclic w l m n d) = absurd (omega (arith, w.tag))

  pub prints_pause : {o o₁ o₂ : Output} → tag_at ws i ≡ 16 → Span ws i (bytes "{\"t\":2,\"du\":") o o₁ → LaysBytes o₁ "}" o₂ → Prints (ObjectPrints ws buffer left i) o o₂
  prints_pause h p q t k (pause w la lb) = rw (← w.a, ← w.b) (lays_as (pause_text k _ _) (lays_then (p _ w.inside (omega (arith, w.a)) (omega (arith, w.b))) (q k)))
  prints_pause h p q t k (posology w la lb d) = absurd (omega (arith, w.tag))

  pub prints_posology : {o o₁ o₂ o₃ o₄ : Output} → (tag_at ws i ≡ 16 → ⊥) → Span ws i (bytes "{\"t\":1,\"du\":") o o₁ → LaysBytes o₁ ",\"po\":" o₂ → Prints (DetailPrints ws buffer left (i + 1)) o₂ o₃ → LaysBytes o₃ "}" o₄ → Prints (ObjectPrints ws buffer left i) o o₄
  prints_posology h p b s q t k (posology w la lb d) = rw (← w.a, ← w.b) (lays_as (posology_text_lem k _ _ _) (lays_then (p _ w.inside (omega (arith, w.a)) (omega (arith, w.b))) (lays_then (b _) (lays_then (s _ _ d) (q k)))))
  prints_posology h p b s q t k (pause w la lb) = absurd (h w.tag)

  pub detail_inside : {t : Tree} → DetailPrints ws buffer left i t → i < 64
  detail_inside (daily w la lb lc ld) = w.inside
  detail_inside (free_text w l) = w.inside
  detail_inside (single w d) = w.inside
  detail_inside (cyclic w l m n d) = w.inside
  detail_inside (sequence l w m d) = w.inside

  pub detail_tagged : {before after : Output} {tag n : ℕ} → (i < 64 → tag ≡ tag_at ws i) → tag ≡ n → (tag_at ws i ≡ n → Prints (DetailPrints ws buffer left i) before after) → Prints (DetailPrints ws buffer left i) before after
  detail_tagged e h o t k d = o (sym (e (detail_inside d)) ∙ h) t k d

  pub detail_last : {t : Tree} {tag : ℕ} → (i < 64 → tag ≡ tag_at ws i) → (tag ≡ 1 → ⊥) → (tag ≡ 2 → ⊥) → (tag ≡ 3 → ⊥) → (tag ≡ 4 → ⊥) → DetailPrints ws buffer left i t → tag_at ws i ≡ 5
  detail_last e f g h j (daily w la lb lc ld) = absurd (f (e w.inside ∙ w.tag))
  detail_last e f g h j (free_text w l) = absurd (g (e w.inside ∙ w.tag))
  detail_last e f g h j (single w d) = absurd (h (e w.inside ∙ w.tag))
  detail_last e f g h j (cyclic w l m n d) = absurd (j (e w.inside ∙ w.tag))
  detail_last e f g h j (sequence l w m d) = w.tag

  pub detail_opens : {t : Tree} → tag_at ws i ≡ 5 → DetailPrints ws buffer left i t → 1 ≤ left
  detail_opens h (daily w la lb lc ld) = absurd (omega (arith, w.tag))
  detail_opens h (free_text w l) = absurd (omega (arith, w.tag))
  detail_opens h (single w d) = absurd (omega (arith, w.tag))
  detail_opens h (cyclic w l m n d) = absurd (omega (arith, w.tag))
  detail_opens h (sequence l w m d) = l
