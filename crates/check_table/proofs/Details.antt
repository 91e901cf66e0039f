-- What the checks of a detail and of a sequence's objects come to.
use mathlib.Core.Path.{◌≡◌, refl, ap, sym, subst, ◌∙◌}
use mathlib.Core.List.{List}
use Rattle.std.specs.Prelude.{Option, Some}
use Prim.Native.Nat.{ℕ, ◌+◌, ◌-◌, ◌≤◌, ◌<◌}
use native.Mathlib.Omega.{arith}
use Rattle.table_rows.specs.Standing.{tag_at, below_at, b_at}
use Rattle.check_doses.specs.Shapes.{Row}
use Rattle.check_doses.specs.Doses.{Nested, StillAt, daily, single, cyclic}
use Rattle.check_table.specs.Checks.{sequence_shape, pause_shape, posology_shape, Checks, FreeTextAt, DetailAt, still, free_text, sequence, ObjectAt, pause, posology, ObjectsAt, last, more, SequenceAt}
use Rattle.check_table.proofs.Checked.{granted, carried, the_one}

-- Objects from one place on are those from another, with other text bytes taken.
abbrev pub Alike : List ℕ → List ℕ → ℕ → ℕ → ℕ → ℕ → ℕ → ℕ → Type 0
Alike ws buffer left end at used i text = ((u : ℕ) → ObjectsAt ws buffer left end at used u → ObjectsAt ws buffer left end i text u) × ((u : ℕ) → ObjectsAt ws buffer left end i text u → ObjectsAt ws buffer left end at used u)

module _ {ws : List ℕ} {i : ℕ} where
  still_no_text : StillAt ws i → tag_at ws i ≡ 2 → ⊥
  still_no_text (daily p) e = omega (arith, p.tag)
  still_no_text (single p) e = omega (arith, p.row.tag)
  still_no_text (cyclic p) e = omega (arith, p.row.tag)

  still_no_sequence : StillAt ws i → tag_at ws i ≡ 5 → ⊥
  still_no_sequence (daily p) e = omega (arith, p.tag)
  still_no_sequence (single p) e = omega (arith, p.row.tag)
  still_no_sequence (cyclic p) e = omega (arith, p.row.tag)

  still_inside : StillAt ws i → i < 64
  still_inside (daily p) = p.inside
  still_inside (single p) = p.row.inside
  still_inside (cyclic p) = p.row.inside

module _ {ws buffer : List ℕ} where
  detail_inside : {left i text u : ℕ} → DetailAt ws buffer left i text u → i < 64
  detail_inside (still p e) = still_inside p
  detail_inside (free_text p e) = p.row.inside
  detail_inside (sequence l r o) = r.inside

  pub before_detail : {left i text u : ℕ} → DetailAt ws buffer left (i + 1) text u → i < 63
  before_detail p = let h = detail_inside p in omega arith

  pub object_inside : {left i text u : ℕ} → ObjectAt ws buffer left i text u → i < 64
  object_inside (pause r e) = r.inside
  object_inside (posology r d n) = r.inside

  pub object_few : {left i text u : ℕ} → ObjectAt ws buffer left i text u → below_at ws i ≤ 63
  object_few (pause r e) = omega (arith, r.below.most)
  object_few (posology r d n) = r.below.most

  only_still : {left i text u : ℕ} → StillAt ws i → DetailAt ws buffer left i text u → u ≡ text
  only_still s (still p e) = e
  only_still s (free_text p e) = absurd (still_no_text s p.row.tag)
  only_still s (sequence l r o) = absurd (still_no_sequence s r.tag)

  pub detail_still : {left i text : ℕ} → StillAt ws i → Checks (λ u. DetailAt ws buffer left i text u) (Some text)
  detail_still s = granted (still s refl) (λ u p. only_still s p)

  only_free : {left i text u : ℕ} → FreeTextAt ws buffer i text → DetailAt ws buffer left i text u → u ≡ text + b_at ws i
  only_free f (still p e) = absurd (still_no_text p f.row.tag)
  only_free f (free_text p e) = e
  only_free f (sequence l r o) = absurd (omega (arith, f.row.tag, r.tag))

  pub detail_free : {left i text n : ℕ} → FreeTextAt ws buffer i text → n ≡ b_at ws i → Checks (λ u. DetailAt ws buffer left i text u) (Some (text + n))
  detail_free {left} {i} {text} f h = granted (free_text f (ap (λ k. text + k) h)) (λ u p. only_free f p ∙ ap (λ k. text + k) (sym h))

  detail_sequence : {left i text u : ℕ} → (StillAt ws i → ⊥) → (FreeTextAt ws buffer i text → ⊥) → DetailAt ws buffer left i text u → SequenceAt ws buffer left i text u
  detail_sequence f g (still p e) = absurd (f p)
  detail_sequence f g (free_text p e) = absurd (g p)
  detail_sequence f g (sequence l r o) = record { some = l; row = r; objects = o }

  pub detail_rest : {left i text : ℕ} {r : Option ℕ} → (StillAt ws i → ⊥) → (FreeTextAt ws buffer i text → ⊥) → Checks (λ u. SequenceAt ws buffer left i text u) r → Checks (λ u. DetailAt ws buffer left i text u) r
  detail_rest f g k = carried (λ u q. sequence q.some q.row q.objects) (λ u p. detail_sequence f g p) k

  only_pause : {left i text u : ℕ} → tag_at ws i ≡ 16 → ObjectAt ws buffer left i text u → u ≡ text
  only_pause h (pause r e) = e
  only_pause h (posology r d n) = absurd (omega (arith, r.tag))

  pub object_pause : {left i text : ℕ} → Row ws i pause_shape → Checks (λ u. ObjectAt ws buffer left i text u) (Some text)
  object_pause r = granted (pause r refl) (λ u p. only_pause r.tag p)

  object_detail : {left i text u : ℕ} → tag_at ws i ≡ 15 → ObjectAt ws buffer left i text u → DetailAt ws buffer left (i + 1) text u
  object_detail h (pause r e) = absurd (omega (arith, r.tag))
  object_detail h (posology r d n) = d

  pub object_posology : {left i text : ℕ} {c : Option ℕ} → Row ws i posology_shape → (i < 63 → Nested ws i) → Checks (λ u. DetailAt ws buffer left (i + 1) text u) c → Checks (λ u. ObjectAt ws buffer left i text u) c
  object_posology r n k = carried (λ u d. posology r d (n (before_detail d))) (λ u p. object_detail r.tag p) k

  pub objects_end : {left end i text u : ℕ} → ObjectsAt ws buffer left end i text u → i < end
  objects_end (last o e) = omega arith
  objects_end (more o r) = let h = objects_end r in omega arith

  one_object_lem : {left end i text u : ℕ} → i + 1 + below_at ws i ≡ end → ObjectsAt ws buffer left end i text u → ObjectAt ws buffer left i text u
  one_object_lem h (last o e) = o
  one_object_lem h (more o r) = let g = objects_end r in absurd (omega arith)

  pub objects_last : {left end at used i text n : ℕ} {r : Option ℕ} → Alike ws buffer left end at used i text → Checks (λ u. ObjectAt ws buffer left at used u) r → r ≡ Some n → at + 1 + below_at ws at ≡ end → Checks (λ u. ObjectsAt ws buffer left end i text u) (Some n)
  objects_last v k g h = granted (v.0 _ (last (k.yes _ g) h)) (λ u p. the_one k g (one_object_lem h (v.1 u p)))

  after_first : {left end i text t u : ℕ} → ((v : ℕ) → ObjectAt ws buffer left i text v → v ≡ t) → (i + 1 + below_at ws i ≡ end → ⊥) → ObjectsAt ws buffer left end i text u → ObjectsAt ws buffer left end (i + 1 + below_at ws i) t u
  after_first f h (last o e) = absurd (h e)
  after_first {left} {end} {i} {text} {t} {u} f h (more {v = v} o r) = subst (λ k. ObjectsAt ws buffer left end (i + 1 + below_at ws i) k u) (f v o) r

  pub objects_more : {left end at used i text : ℕ} {r : Option ℕ} (t next : ℕ) → Alike ws buffer left end at used i text → Checks (λ u. ObjectAt ws buffer left at used u) r → r ≡ Some t → at + 1 + below_at ws at ≡ next → (next ≡ end → ⊥) → Alike ws buffer left end next t i text
  objects_more {left} {end} {at} {used} {i} {text} t next v k g h f = (
    (λ u p. v.0 u (more (k.yes t g) (subst (λ n. ObjectsAt ws buffer left end n t u) (sym h) p))),
    (λ u p. subst (λ n. ObjectsAt ws buffer left end n t u) h (after_first (λ w o. the_one k g o) (λ e. f (sym h ∙ e)) (v.1 u p))),
  )

  pub objects_over : {left end at used i text u : ℕ} → Alike ws buffer left end at used i text → end ≤ at → ObjectsAt ws buffer left end i text u → ⊥
  objects_over v h p = let g = objects_end (v.1 _ p) in omega arith

  pub in_sequence : {left end i text : ℕ} {c : Option ℕ} → 1 ≤ left → Row ws i sequence_shape → i + 1 + below_at ws i ≡ end → Checks (λ u. ObjectsAt ws buffer (left - 1) end (i + 1) text u) c → Checks (λ u. SequenceAt ws buffer left i text u) c
  in_sequence {left} {end} {i} {text} l r h k =
      carried
      (λ u p. record { some = l; row = r; objects = subst (λ n. ObjectsAt ws buffer (left - 1) n (i + 1) text u) (sym h) p })
      (λ u p. subst (λ n. ObjectsAt ws buffer (left - 1) n (i + 1) text u) h p.objects)
      k
