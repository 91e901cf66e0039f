-- The plain tree of a valid posology means it: the head, of which some members are left out.
use mathlib.Core.Path.{◌≡◌, refl, ap, sym, subst, ◌∙◌}
use mathlib.Core.List.{List, [], ◌∷◌}
use mathlib.Core.Bool.{Bool, true, false, not, ◌&&◌}
use mathlib.Core.Option.{Option, none, some, get_or}
use Prim.Native.Nat.{ℕ}
use native.Mathlib.Omega.{arith}
use borrow.Author.Tests.{not-true}
use Rattle.json_grammar.specs.Tree.{Tree}
use Rattle.document.specs.Bytes.{bytes}
use Rattle.document.specs.Posology.{Posology, Date, bare, moment}
use Rattle.document.specs.Date.{is_date}
use Rattle.document.specs.Lookup.{same, has, or_else, Found, nothing, add, find, repeated, unknown}
use Rattle.document.specs.Schema.{meal_codes, sequences_inside, a_detail, integer, date, a_number, a_string, a_flag, an_object, a_text, Shape, Of, names, posology_rows, rows_of}
use Rattle.document.specs.Visit.{is_empty}
use Rattle.document.specs.Valid.{is_text, is_meal, if_given, valid}
use Rattle.document.specs.Spells.{Meaning, Given, Perhaps, meaning_of, meant_members, Means}
use Rattle.document.specs.Plain.{Slot, field_of, members_of, mapped, text_tree, date_tree, reserve_tree, whole, head_slots, detail_tree, plain_tree, date_text}
use Rattle.json_grammar.proofs.Truth.{and_left, and_right}
use Rattle.document.proofs.Ranges.{in_range}
use Rattle.document.proofs.DetailParts.{text_parts}
use Rattle.document.proofs.ValidParts.{valid_parts, unit_text}
use Rattle.document.proofs.Written.{whole_means}
use Rattle.document.proofs.WrittenDates.{date_reads}
use Rattle.document_meaning.proofs.PlainMeans.{detail_means, given_object}

abbrev named : Slot → List ℕ
named s = bytes s.name

-- What a name finds among slots.
abbrev found : Bool → Option Tree → Found Meaning → Found Meaning
found false o f = f
found true none f = f
found true (some t) f = add true (meaning_of t) f

abbrev among_slots : List ℕ → List Slot → Found Meaning
among_slots n [] = nothing
among_slots n (s ∷ ss) = found (same n (named s)) s.value (among_slots n ss)

find_slot : (n : List ℕ) (ss : List Slot) → find n (meant_members (members_of ss)) ≡ among_slots n ss
unfolding meaning_of
find_slot n [] = refl
find_slot n (s ∷ ss) = go s.value (same n (named s)) refl (find_slot n ss)
  where
    go : (o : Option Tree) (b : Bool) → same n (named s) ≡ b → find n (meant_members (members_of ss)) ≡ among_slots n ss → find n (meant_members (field_of s.name o (members_of ss))) ≡ found b o (among_slots n ss)
    go none true e h = h
    go none false e h = h
    go (some t) true e h = ap (λ (c : Bool). add c (meaning_of t) (find n (meant_members (members_of ss)))) e ∙ ap (λ (f : Found Meaning). add true (meaning_of t) f) h
    go (some t) false e h = ap (λ (c : Bool). add c (meaning_of t) (find n (meant_members (members_of ss)))) e ∙ h

-- Names that are known, and that stand once.
abbrev all_known : List (List ℕ) → List Slot → Bool
all_known k [] = true
all_known k (s ∷ ss) = has (named s) k && all_known k ss

known_slots : (k : List (List ℕ)) (ss : List Slot) → all_known k ss ≡ true → unknown k (meant_members (members_of ss)) ≡ none
unfolding meaning_of
known_slots k [] h = refl
known_slots k (s ∷ ss) h = go s.value (known_slots k ss (and_right (has (named s) k) (all_known k ss) h))
  where
    go : (o : Option Tree) → unknown k (meant_members (members_of ss)) ≡ none → unknown k (meant_members (field_of s.name o (members_of ss))) ≡ none
    go none i = i
    go (some t) i = ap (λ (b : Bool). or_else (not b) [] (unknown k (meant_members (members_of ss)))) (and_left (has (named s) k) (all_known k ss) h) ∙ i

abbrev apart : List (List ℕ) → List Slot → Bool
apart seen [] = true
apart seen (s ∷ ss) = not (has (named s) seen) && (apart (named s ∷ seen) ss && apart seen ss)

apart_slots : (seen : List (List ℕ)) (ss : List Slot) → apart seen ss ≡ true → repeated seen (meant_members (members_of ss)) ≡ none
unfolding meaning_of
apart_slots seen [] h = refl
apart_slots seen (s ∷ ss) h = go s.value (apart_slots (named s ∷ seen) ss (and_left (apart (named s ∷ seen) ss) (apart seen ss) rest)) (apart_slots seen ss (and_right (apart (named s ∷ seen) ss) (apart seen ss) rest))
  where
    rest : (apart (named s ∷ seen) ss && apart seen ss) ≡ true
    rest = and_right (not (has (named s) seen)) (apart (named s ∷ seen) ss && apart seen ss) h

    go : (o : Option Tree) → repeated (named s ∷ seen) (meant_members (members_of ss)) ≡ none → repeated seen (meant_members (members_of ss)) ≡ none → repeated seen (meant_members (field_of s.name o (members_of ss))) ≡ none
    go none i j = j
    go (some t) i j = ap (λ (b : Bool). or_else b [] (repeated (named s ∷ seen) (meant_members (members_of ss)))) (not-true (has (named s) seen) (and_left (not (has (named s) seen)) (apart (named s ∷ seen) ss && apart seen ss) h)) ∙ i

-- What stands in a slot of its own.
text_slot : (u : Option (List ℕ)) → if_given is_text u ≡ true → Perhaps a_text (found true (mapped text_tree u) nothing) u
unfolding meaning_of
text_slot none v = tt
text_slot (some cs) v = ((text_parts cs v).some, refl)

date_slot : (d : Option Date) → if_given is_date d ≡ true → Perhaps (a_string date) (found true (mapped date_tree d) nothing) d
unfolding meaning_of
date_slot none v = tt
date_slot (some d) v = (date_some d, date_reads d v)
  where
    date_some : (d : Date) → is_empty (date_text d) ≡ false
    date_some (bare e) = refl
    date_some (moment e s z) = refl

meal_slot : (m : Option ℕ) → if_given is_meal m ≡ true → Perhaps (a_number (integer 1 meal_codes)) (found true (mapped whole m) nothing) m
unfolding meaning_of
meal_slot none v = tt
meal_slot (some m) v = let h = in_range 1 m meal_codes v in (refl, whole_means 1 meal_codes m (omega arith))

abbrev reserve : Bool → Option Bool
reserve true = some true
reserve false = none

flag_slot : (b : Bool) → Perhaps a_flag (found true (reserve_tree b) nothing) (reserve b)
unfolding meaning_of
flag_slot true = (refl, refl)
flag_slot false = tt

reserved : (b : Bool) → get_or (reserve b) false ≡ b
reserved true = refl
reserved false = refl

abbrev with_reserve : Posology → Bool → Posology
with_reserve p b = record { dt_from = p.dt_from; dt_to = p.dt_to; in_res = b; po = p.po; rel_meal = p.rel_meal; unit = p.unit; appl_instr = p.appl_instr; roa = p.roa; moa = p.moa }

module _ (p : Posology) where
  perhaps_slot : (n : List ℕ) (s : Shape) (x : Option (Of s)) → Perhaps s (among_slots n (head_slots p)) x → Perhaps s (find n (meant_members (members_of (head_slots p)))) x
  perhaps_slot n s x h = subst (λ (f : Found Meaning). Perhaps s f x) (sym (find_slot n (head_slots p))) h

  given_slot : (n : List ℕ) (s : Shape) (x : Of s) → Given s (among_slots n (head_slots p)) x → Given s (find n (meant_members (members_of (head_slots p)))) x
  given_slot n s x h = subst (λ (f : Found Meaning). Given s f x) (sym (find_slot n (head_slots p))) h

pub plain_means : (purpose : ℕ) (p : Posology) → valid purpose p ≡ true → Means (plain_tree p) p
unfolding plain_tree meaning_of rows_of
plain_means purpose p v =
    let n = valid_parts purpose p v in (
      apart_slots [] (head_slots p) refl,
      (
        known_slots (names (posology_rows true)) (head_slots p) refl,
        (
          p.dt_from,
          perhaps_slot p (bytes "dtFrom") (a_string date) p.dt_from (date_slot p.dt_from n.from),
          (
            p.dt_to,
            perhaps_slot p (bytes "dtTo") (a_string date) p.dt_to (date_slot p.dt_to n.to),
            (
              reserve p.in_res,
              perhaps_slot p (bytes "inRes") a_flag (reserve p.in_res) (flag_slot p.in_res),
              (
                p.po,
                given_slot p (bytes "po") (an_object (a_detail sequences_inside)) p.po (given_object (detail_tree p.po) (a_detail sequences_inside) p.po (detail_means p.po sequences_inside sequences_inside n.detail)),
                (
                  p.rel_meal,
                  perhaps_slot p (bytes "relMeal") (a_number (integer 1 meal_codes)) p.rel_meal (meal_slot p.rel_meal n.meal),
                  (
                    p.unit,
                    perhaps_slot p (bytes "unit") a_text p.unit (text_slot p.unit (unit_text purpose p.unit n.unit)),
                    (
                      p.appl_instr,
                      perhaps_slot p (bytes "applInstr") a_text p.appl_instr (text_slot p.appl_instr n.instructions),
                      (
                        p.roa,
                        perhaps_slot p (bytes "roa") a_text p.roa (text_slot p.roa n.roa),
                        (
                          p.moa,
                          perhaps_slot p (bytes "moa") a_text p.moa (text_slot p.moa n.moa),
                          ap (with_reserve p) (reserved p.in_res),
                        ),
                      ),
                    ),
                  ),
                ),
              ),
            ),
          ),
        ),
      ),
    )
