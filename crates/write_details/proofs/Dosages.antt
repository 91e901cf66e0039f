-- The dosage that is put, by the tag of its record.
use mathlib.Core.Path.{◌≡◌, sym, ◌∙◌}
use mathlib.Core.List.{List, ◌∷◌}
use Prim.Native.Nat.{ℕ, ◌<◌}
use native.Mathlib.Omega.{arith}
use Rattle.json_grammar.specs.Tree.{Tree}
use Rattle.table_rows.specs.Standing.{tag_at, a_at, b_at, c_at, d_at}
use Rattle.write_bytes.specs.declared.Output.{Output}
use Rattle.write_details.specs.Prints.{Prints, Opens, DosagePrints, simple, from_to, range}
use Rattle.write_bytes.proofs.Laid.{lays_then, lays_as}
use Rattle.write_details.proofs.Pieces.{LaysBytes, LaysAmount, LaysWhole}
use Rattle.write_details.proofs.DosageTexts.{simple_text, from_to_text, range_text}

module _ {ws : List ℕ} {i : ℕ} where
  inside : {t : Tree} → DosagePrints ws i t → i < 64
  inside (simple at _) = at.inside
  inside (from_to at _ _ _ _) = at.inside
  inside (range at _ _) = at.inside

  range_tag : {t : Tree} → (tag_at ws i ≡ 12 → ⊥) → (tag_at ws i ≡ 13 → ⊥) → DosagePrints ws i t → tag_at ws i ≡ 14
  range_tag f g (simple at _) = absurd (f at.tag)
  range_tag f g (from_to at _ _ _ _) = absurd (g at.tag)
  range_tag f g (range at _ _) = at.tag

module _ {ws : List ℕ} {i : ℕ} {before : Output} where
  module _ {after : Output} {a : ℕ} where
    pub simple_opens : tag_at ws i ≡ 12 → (i < 64 → a ≡ a_at ws i) → LaysAmount before "{\"t\":1,\"a\":" a after → Opens (DosagePrints ws i) before after
    simple_opens tag ea pa t k (simple {a = n} at h) = let e : n ≡ a = sym (ea at.inside ∙ at.a) in lays_as (simple_text n k) (rw e (pa (125 ∷ k) (omega arith)))
    simple_opens tag ea pa t k (from_to at _ _ _ _) = let h = at.tag in absurd (omega arith)
    simple_opens tag ea pa t k (range at _ _) = let h = at.tag in absurd (omega arith)

  module _ {one two three four : Output} {a b unit du : ℕ} where
    pub from_to_opens : tag_at ws i ≡ 13 → (i < 64 → a ≡ a_at ws i) → (i < 64 → b ≡ b_at ws i) → (i < 64 → unit ≡ c_at ws i) → (i < 64 → du ≡ d_at ws i)
        → LaysAmount before "{\"t\":2,\"aFrom\":" a one → LaysAmount one ",\"aTo\":" b two → LaysWhole two ",\"duU\":" unit three → LaysWhole three ",\"du\":" du four
        → Opens (DosagePrints ws i) before four
    from_to_opens tag ea eb ec ed pa pb pc pd t k (from_to {a = n} {b = m} {unit = x} {du = y} at g h j l) =
        let e : n ≡ a = sym (ea at.inside ∙ at.a) in
        let f : m ≡ b = sym (eb at.inside ∙ at.b) in
        let o : x ≡ unit = sym (ec at.inside ∙ at.c) in
        let q : y ≡ du = sym (ed at.inside ∙ at.d) in
        lays_as (from_to_text n m x y k) (rw (e, f, o, q) (lays_then (pa _ (omega arith)) (lays_then (pb _ (omega arith)) (lays_then (pc _ (omega arith)) (pd (125 ∷ k) (omega arith))))))
    from_to_opens tag ea eb ec ed pa pb pc pd t k (simple at _) = let h = at.tag in absurd (omega arith)
    from_to_opens tag ea eb ec ed pa pb pc pd t k (range at _ _) = let h = at.tag in absurd (omega arith)

  module _ {one two : Output} {a b : ℕ} where
    pub range_opens : tag_at ws i ≡ 14 → (i < 64 → a ≡ a_at ws i) → (i < 64 → b ≡ b_at ws i)
        → LaysAmount before "{\"t\":3,\"aMin\":" a one → LaysAmount one ",\"aMax\":" b two
        → Opens (DosagePrints ws i) before two
    range_opens tag ea eb pa pb t k (range {a = n} {b = m} at g h) =
        let e : n ≡ a = sym (ea at.inside ∙ at.a) in
        let f : m ≡ b = sym (eb at.inside ∙ at.b) in
        lays_as (range_text n m k) (rw (e, f) (lays_then (pa _ (omega arith)) (pb (125 ∷ k) (omega arith))))
    range_opens tag ea eb pa pb t k (simple at _) = let h = at.tag in absurd (omega arith)
    range_opens tag ea eb pa pb t k (from_to at _ _ _ _) = let h = at.tag in absurd (omega arith)

  -- Behind the brace; and by the tag that the code reads.
  pub dosage_prints : {mid after : Output} → Opens (DosagePrints ws i) before mid → LaysBytes mid "}" after → Prints (DosagePrints ws i) before after
  dosage_prints o p t k d = lays_then (o t k d) (p k)

  module _ {after : Output} {tag : ℕ} where
    pub tagged_opens : (n : ℕ) → (i < 64 → tag ≡ tag_at ws i) → tag ≡ n → (tag_at ws i ≡ n → Opens (DosagePrints ws i) before after) → Opens (DosagePrints ws i) before after
    tagged_opens n e h o t k d = o (sym (e (inside d)) ∙ h) t k d

    pub other_opens : (i < 64 → tag ≡ tag_at ws i) → (tag ≡ 12 → ⊥) → (tag ≡ 13 → ⊥) → (tag_at ws i ≡ 14 → Opens (DosagePrints ws i) before after) → Opens (DosagePrints ws i) before after
    other_opens e f g o t k d = let h = e (inside d) in o (range_tag (λ x. f (h ∙ x)) (λ x. g (h ∙ x)) d) t k d
