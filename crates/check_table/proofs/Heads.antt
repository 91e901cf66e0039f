-- The strings of the head, one after the other.
use mathlib.Core.Path.{◌≡◌, subst}
use mathlib.Core.List.{List}
use Rattle.std.specs.Prelude.{Option, Some, None}
use Prim.Native.Nat.{ℕ}
use Rattle.document.specs.declared.table.Head.{Head}
use Rattle.check_table.specs.Checks.{Checks, DetailAt}
use Rattle.check_table.specs.Readable.{PieceAt, PiecesAt, LaidAt}
use Rattle.check_table.proofs.Checked.{refuted, carried, the_one, there_is_none}

module _ {buffer : List ℕ} {h : Head} {text : ℕ} {a : Option ℕ} (ka : Checks (λ u. PieceAt buffer h.unit text u) a) where
  pub no_unit : a ≡ None → Checks (λ u. PiecesAt buffer h text u) None
  no_unit e = refuted (λ u p. there_is_none ka e p.unit)

  module _ {b : Option ℕ} {u₁ : ℕ} (ea : a ≡ Some u₁) (kb : Checks (λ u. PieceAt buffer h.instructions u₁ u) b) where
    to_instructions : {u : ℕ} → (p : PiecesAt buffer h text u) → PieceAt buffer h.instructions u₁ p.u₂
    to_instructions p = subst (λ n. PieceAt buffer h.instructions n p.u₂) (the_one ka ea p.unit) p.instructions

    pub no_instructions : b ≡ None → Checks (λ u. PiecesAt buffer h text u) None
    no_instructions e = refuted (λ u p. there_is_none kb e (to_instructions p))

    module _ {c : Option ℕ} {u₂ : ℕ} (eb : b ≡ Some u₂) (kc : Checks (λ u. PieceAt buffer h.roa u₂ u) c) where
      to_roa : {u : ℕ} → (p : PiecesAt buffer h text u) → PieceAt buffer h.roa u₂ p.u₃
      to_roa p = subst (λ n. PieceAt buffer h.roa n p.u₃) (the_one kb eb (to_instructions p)) p.roa

      pub no_roa : c ≡ None → Checks (λ u. PiecesAt buffer h text u) None
      no_roa e = refuted (λ u p. there_is_none kc e (to_roa p))

      pub pieces_all : {r : Option ℕ} {u₃ : ℕ} → c ≡ Some u₃ → Checks (λ u. PieceAt buffer h.moa u₃ u) r → Checks (λ u. PiecesAt buffer h text u) r
      pieces_all {r} {u₃} ec k =
          carried
          (λ u m. record { u₁ = u₁; u₂ = u₂; u₃ = u₃; unit = ka.yes u₁ ea; instructions = kb.yes u₂ eb; roa = kc.yes u₃ ec; moa = m })
          (λ u p. subst (λ n. PieceAt buffer h.moa n u) (the_one kc ec (to_roa p)) p.moa)
          k

pub laid_text : {ws buffer : List ℕ} {h : Head} {count text taken : ℕ} {r : Option ℕ} → Checks (λ u. DetailAt ws buffer 3 0 0 u) r → r ≡ Some taken → LaidAt ws buffer h count text → PiecesAt buffer h taken text
laid_text {ws} {buffer} {h} {count} {text} k e p = subst (λ n. PiecesAt buffer h n text) (the_one k e p.detail) p.pieces
