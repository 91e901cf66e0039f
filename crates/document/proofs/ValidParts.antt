-- What makes a posology valid, part by part.
use mathlib.Core.Path.{◌≡◌, refl}
use mathlib.Core.List.{List}
use mathlib.Core.Bool.{true}
use mathlib.Core.Option.{Option, none, some}
use Prim.Native.Nat.{ℕ, ◌≤◌}
use lib.Dec.{leb}
use borrow.Author.Tests.{leb-true, le-leb}
use Rattle.document.specs.Posology.{Posology}
use Rattle.document.specs.Date.{is_date}
use Rattle.document.specs.Moments.{in_order}
use Rattle.document.specs.Schema.{sequences_inside}
use Rattle.document.specs.Visit.{records_at_most}
use Rattle.document.specs.Valid.{is_text, is_meal, if_given, is_unit_for, valid_detail, valid_fields, valid, detail_records}
use Rattle.json_grammar.proofs.Truth.{and_both, and_left, and_right}
use Rattle.document.proofs.DetailParts.{all_three, all_four}

pub record ValidParts (purpose : ℕ) (p : Posology) : Type 0 where
  pub from : if_given is_date p.dt_from ≡ true
  pub to : if_given is_date p.dt_to ≡ true
  pub detail : valid_detail p.po sequences_inside ≡ true
  pub meal : if_given is_meal p.rel_meal ≡ true
  pub unit : is_unit_for purpose p.unit ≡ true
  pub instructions : if_given is_text p.appl_instr ≡ true
  pub roa : if_given is_text p.roa ≡ true
  pub moa : if_given is_text p.moa ≡ true
  pub ordered : in_order p.dt_from p.dt_to ≡ true

pub fields_parts : (purpose : ℕ) (p : Posology) → valid_fields purpose p ≡ true → ValidParts purpose p
unfolding valid_fields
fields_parts purpose p v =
    let last = all_four _ (if_given is_text p.roa) (if_given is_text p.moa) (in_order p.dt_from p.dt_to) v in
    let middle = all_four _ (if_given is_meal p.rel_meal) (is_unit_for purpose p.unit) (if_given is_text p.appl_instr) last.0 in
    let first = all_three (if_given is_date p.dt_from) (if_given is_date p.dt_to) (valid_detail p.po sequences_inside) middle.0 in
    record { from = first.0; to = first.1; detail = first.2; meal = middle.1; unit = middle.2; instructions = middle.3; roa = last.1; moa = last.2; ordered = last.3 }

pub valid_parts : (purpose : ℕ) (p : Posology) → valid purpose p ≡ true → ValidParts purpose p
unfolding valid
valid_parts purpose p v = fields_parts purpose p (and_left (valid_fields purpose p) (leb (detail_records p.po) records_at_most) v)

pub few_records : (purpose : ℕ) (p : Posology) → valid purpose p ≡ true → detail_records p.po ≤ records_at_most
unfolding valid
few_records purpose p v = leb-true (detail_records p.po) records_at_most (and_right (valid_fields purpose p) (leb (detail_records p.po) records_at_most) v)

pub parts_valid : (purpose : ℕ) (p : Posology) → ValidParts purpose p → detail_records p.po ≤ records_at_most → valid purpose p ≡ true
unfolding valid valid_fields
parts_valid purpose p n few = and_both (and_both (and_both (and_both (and_both (and_both (and_both (and_both (and_both n.from n.to) n.detail) n.meal) n.unit) n.instructions) n.roa) n.moa) n.ordered) (le-leb (detail_records p.po) records_at_most few)

-- Whether or not it must be given, a unit is a text.
pub unit_text : (purpose : ℕ) (u : Option (List ℕ)) → is_unit_for purpose u ≡ true → if_given is_text u ≡ true
unit_text purpose none v = refl
unit_text purpose (some u) v = v
