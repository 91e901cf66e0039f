-- Where the plain text under a number stands, and that reading it is fetching.
use mathlib.Core.Path.{◌≡◌, refl, ap, sym, ◌∙◌}
use mathlib.Core.List.{List, ◌∷◌, ◌++◌}
use mathlib.Core.Bool.{Bool, true}
use mathlib.Core.Option.{Option}
use Prim.Native.Nat.{ℕ, ◌+◌, ◌-◌, ◌≤◌}
use native.Mathlib.Omega.{arith}
use lib.ListN.{length, take, drop}
use lib.Seq.{take_at, drop-drop}
use Rattle.json_grammar.specs.Rows.{choose}
use Rattle.json_grammar.proofs.Truth.{never}
use Rattle.document.specs.Posology.{Posology}
use Rattle.document.specs.Plain.{plain}
use Rattle.document.specs.Answer as R
use Rattle.document.specs.Answer.{Read, read, read_values, table_after, buffer_after, Reads, in_room}
use Rattle.document.specs.Table.{empty_table}
use Rattle.document.specs.declared.table.Reading.{Reading}
use Rattle.shelf_list.specs.Shelf.{Entry, entry, both_uses, used, record_then, good_entry}
use Rattle.shelf_list.specs.Calls.{under, fetch_under, fetch_in, fetched_from}
use Rattle.shelf_list.proofs.Areas.{holds_back}
use Rattle.shelf_list.proofs.Edits.{it_good, it, behind}
use Rattle.shelf_list.proofs.Lists.{used_both}
use Rattle.shelf_list.proofs.Under.{under_none}
use Rattle.std.specs.Prelude.{Result, Ok, Err}
use Rattle.document.specs.Refusals.{number_of, refusal}
use Rattle.document.specs.declared.refusal.Reason.TheVariants.{NoShelf, NoNumber, NumberMissing}
use Rattle.document.specs.declared.refusal.Refusal.{Refusal}
use Rattle.shelf.specs.Answers.{Fetches, stretch, behind_head, found}
use Rattle.shelf.specs.declared.fetching.Stretch.{Stretch}
use Rattle.shelf.specs.declared.survey.Place.{Place}
use Rattle.shelf.proofs.Surveyed.{There, Sought, in_no_shelf, of_no_number, missing, there, seeks}

-- ---- what stands there
-- The plain text under the number, whole.
pub record FoundText (a : List ℕ) (number from to : ℕ) : Type 0 where
  pub posology : Posology
  pub is_good : good_entry (entry number posology) ≡ true
  pub ordered : from ≤ to
  pub inside : to ≤ length a
  pub text : take (to - from) (drop from a) ≡ plain posology
  pub reads : (room : ℕ) → fetched_from a number room ≡ read (in_room both_uses room) (plain posology)

text_in : (e : Entry) (k : List ℕ) → take (length (plain e.posology)) (drop 6 (record_then e k)) ≡ plain e.posology
unfolding record_then
text_in e k = take_at (plain e.posology) k (length (plain e.posology)) refl

found_there : {a : List ℕ} {number : ℕ} {p : Place} → There a number p → FoundText a number (p.from + 6) (p.from + p.size)
unfolding fetched_from
found_there {a} {number} {p} t =
    let es = t.ahead ++ (t.it ∷ t.behind) in
    let q = t.it.posology in
    let u = used_both t.ahead (t.it ∷ t.behind) in
    let f = t.holds.fits in
    let from = t.from_is in
    let bytes = t.size_is in
    let n : (p.from + p.size) - (p.from + 6) ≡ length (plain q) = omega arith in
    record {
      posology = q;
      is_good = rw (← t.same_number) (it_good a t.ahead t.it t.behind t.holds);
      ordered = omega arith;
      inside = omega arith;
      text =
          ap (λ (x : ℕ). take x (drop (p.from + 6) a)) n
          ∙ ap (λ (x : ℕ). take (length (plain q)) (drop (x + 6) a)) from
          ∙ ap (take (length (plain q))) (sym (drop-drop 6 (used t.ahead) a) ∙ ap (drop 6) (it a t.ahead t.it t.behind t.holds))
          ∙ text_in t.it (behind a t.ahead t.it t.behind);
      reads = λ room.
          ap (λ (o : Option (List Entry)). fetch_in o number room) (holds_back a es t.holds)
          ∙ ap (λ (b : Bool). choose b (λ _. fetch_under (under number es) room) (λ _. R.refused 21 0)) t.numbered
          ∙ ap (λ (o : Option Posology). fetch_under o room) t.under_it;
    }

pub found_text : (a : List ℕ) (number from to : ℕ) → found a number ≡ Ok (stretch from to) → FoundText a number from to
found_text a number from to e = go (seeks a number) e
  where
    go : {r : Result Place Refusal} → Sought a number r → behind_head r ≡ Ok (stretch from to) → FoundText a number from to
    go (in_no_shelf e) k = never (cc k)
    go (of_no_number h i) k = never (cc k)
    go (missing h i s) k = never (cc k)
    go (there {p} t) k =
        let e : stretch (p.from + 6) (p.from + p.size) ≡ stretch from to = cc k in
        rw (← ap (λ (s : Stretch). s.from) e, ← ap (λ (s : Stretch). s.to) e) (found_there t)

pub found_inside : (a : List ℕ) (number : ℕ) (s : Stretch) → Ok s ≡ found a number → (s.from ≤ s.to) × (s.to ≤ length a)
found_inside a number s e = let t = found_text a number s.from s.to (sym e) in (t.ordered, t.inside)

pub found_refused : (a : List ℕ) (number : ℕ) (why : Refusal) (room : ℕ) → found a number ≡ Err why
    → fetched_from a number room ≡ R.refused (number_of why.0) why.1
unfolding fetched_from
found_refused a number why room e = go (seeks a number) e
  where
    as_told : Refusal → Read
    as_told r = R.refused (number_of r.0) r.1

    go : {r : Result Place Refusal} → Sought a number r → behind_head r ≡ Err why → fetched_from a number room ≡ R.refused (number_of why.0) why.1
    go (in_no_shelf e) k = let t : refusal NoShelf 0 ≡ why = cc k in ap (λ (o : Option (List Entry)). fetch_in o number room) e ∙ ap as_told t
    go (of_no_number {es} h i) k =
        let t : refusal NoNumber 0 ≡ why = cc k in
        ap (λ (o : Option (List Entry)). fetch_in o number room) (holds_back a es h)
        ∙ ap (λ (b : Bool). choose b (λ _. fetch_under (under number es) room) (λ _. R.refused 21 0)) i
        ∙ ap as_told t
    go (missing {es} h i s) k =
        let t : refusal NumberMissing 0 ≡ why = cc k in
        ap (λ (o : Option (List Entry)). fetch_in o number room) (holds_back a es h)
        ∙ ap (λ (b : Bool). choose b (λ _. fetch_under (under number es) room) (λ _. R.refused 21 0)) i
        ∙ ap (λ (o : Option Posology). fetch_under o room) (under_none number es s)
        ∙ ap as_told t
    go (there t) k = never (cc k)

-- ---- fetching
pub fetches : (a : List ℕ) (num from to : ℕ) {before after : List ℕ} {r : Reading} → found a num ≡ Ok (stretch from to)
    → Reads both_uses (take (to - from) (drop from a)) before r after → Fetches num a before r after
fetches a num from to {before} e h =
    let t = found_text a num from to e in
    let same : read (in_room both_uses (length before)) (take (to - from) (drop from a)) ≡ fetched_from a num (length before) =
    ap (read (in_room both_uses (length before))) t.text ∙ sym (t.reads (length before)) in
    record {
      answer = h.answer ∙ ap read_values same;
      table = h.table ∙ ap table_after same;
      left = h.left ∙ ap (λ (x : Read). buffer_after x before) same;
    }

pub fetches_none : (a : List ℕ) (num : ℕ) (why : Refusal) {before : List ℕ} → found a num ≡ Err why
    → Fetches num a before (record { answer = Err why; table = empty_table }) before
fetches_none a num why {before} e =
    let f = found_refused a num why (length before) e in
    record {
      answer = ap read_values (sym f);
      table = ap table_after (sym f);
      left = ap (λ (x : Read). buffer_after x before) (sym f);
    }
