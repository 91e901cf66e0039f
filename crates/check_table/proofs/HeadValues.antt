-- The dates and the meal of a head, and those of a value.
use mathlib.Core.Path.{◌≡◌, refl, ap, sym, ◌∙◌}
use mathlib.Core.List.{[]}
use mathlib.Core.Bool.{Bool, true, false, cond}
use mathlib.Core.Option.{Option, none, some, get_or}
use Prim.Native.Nat.{ℕ, ◌≤◌}
use native.Mathlib.Omega.{arith}
use lib.Dec.{eqb}
use lib.ListN.{length}
use borrow.Author.Tests.{le-leb, eqb-true, eqb-false}
use Rattle.document.specs.Posology.{Posology}
use Rattle.document.specs.Date.{is_date}
use Rattle.document.specs.Schema.{meal_codes}
use Rattle.document.specs.Valid.{is_meal, if_given, detail_strings}
use Rattle.document.specs.Table.{date_cell, head_of}
use Rattle.document.specs.Untable.{date_of, meal_of}
use Rattle.document.specs.declared.table.Text.{Text}
use Rattle.document.specs.declared.table.Date.{Date}
use Rattle.document.specs.declared.table.Date.TheVariants as D
use Rattle.document.specs.declared.table.Head.{Head}
use Rattle.document.proofs.Ranges.{in_range}
use Rattle.document.proofs.ValidParts.{ValidParts}
use Rattle.document.proofs.Untabled.{date_back, order_back}
use Rattle.json_grammar.proofs.Truth.{and_both}
use Rattle.check_table.proofs.Pieces.{unit_given}
use Rattle.check_table.specs.Readable.{HeadRight}

pub cell_date : (d : Date) → date_cell (date_of d) ≡ d
cell_date D.Absent = refl
cell_date (D.Bare y m d) = refl
cell_date (D.Moment y m d s true zone) = refl
cell_date (D.Moment y m d s false zone) = refl

pub cell_meal : (m : ℕ) → get_or (meal_of m) 0 ≡ m
cell_meal m = go (eqb m 0) refl
  where
    go : (b : Bool) → eqb m 0 ≡ b → get_or (cond {A = Option ℕ} b none (some m)) 0 ≡ m
    go true e = sym (eqb-true m 0 e)
    go false e = refl

pub valid_meal : (m : ℕ) → m ≤ meal_codes → if_given is_meal (meal_of m) ≡ true
valid_meal m h = go (eqb m 0) refl
  where
    go : (b : Bool) → eqb m 0 ≡ b → if_given is_meal (cond {A = Option ℕ} b none (some m)) ≡ true
    go true e = refl
    go false e = let f = eqb-false m 0 e in and_both (le-leb 1 m (omega arith)) (le-leb m 6 h)

meal_most : (o : Option ℕ) → if_given is_meal o ≡ true → get_or o 0 ≤ meal_codes
meal_most none h = omega arith
meal_most (some m) h = (in_range 1 m meal_codes h).1

abbrev head_with : Date → Date → Bool → ℕ → Text → Text → Text → Text → Head
head_with from to reserve meal unit instructions roa moa = record { from = from; to = to; reserve = reserve; meal = meal; unit = unit; instructions = instructions; roa = roa; moa = moa }

pub same_head : (h : Head) {from to : Date} {meal : ℕ} {unit instructions roa moa : Text} → from ≡ h.from → to ≡ h.to → meal ≡ h.meal → unit ≡ h.unit → instructions ≡ h.instructions → roa ≡ h.roa → moa ≡ h.moa → head_with from to h.reserve meal unit instructions roa moa ≡ h
same_head h a b c d e f g = rw (a, b, c, d, e, f, g)

pub head_right : (purpose : ℕ) (p : Posology) → ValidParts purpose p → HeadRight (head_of p) purpose
unfolding head_of
head_right purpose p n = record {
  from = ap (if_given is_date) (date_back p.dt_from) ∙ n.from;
  to = ap (if_given is_date) (date_back p.dt_to) ∙ n.to;
  ordered = order_back p.dt_from p.dt_to refl refl ∙ n.ordered;
  meal = meal_most p.rel_meal n.meal;
  unit = unit_given purpose (length (detail_strings p.po [])) p.unit n.unit;
}
