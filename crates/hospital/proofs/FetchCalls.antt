-- What finding a plain text and reading it say of a call that fetches.
use Prim.Native.Nat.{ℕ, ◌-◌}
use mathlib.Core.Path.{◌≡◌, refl, sym, ap, ◌∙◌}
use mathlib.Core.List.{List}
use mathlib.Core.Bool.{true}
use lib.ListN.{length, take, drop}
use borrow.Author.Tests.{eq-eqb, ne_eqb}
use Rattle.std.specs.Prelude.{Ok, Err}
use Rattle.document.specs.Posology.{Posology}
use Rattle.document.specs.Refusals.{number_of}
use Rattle.document.specs.declared.refusal.Refusal.{Refusal}
use Rattle.document.specs.Plain.{plain}
use Rattle.document.specs.Answer as R
use Rattle.document.specs.Answer.{Read, read, buffer_after, in_room}
use Rattle.document.specs.Write.{in_greatest_room}
use Rattle.document.specs.declared.terms.Terms.{Terms}
use Rattle.document_meaning.proofs.Spelled.{accepted_spells, one_posology}
use Rattle.document_meaning.proofs.PlainTexts.{plain_reads}
use Rattle.c_answers.specs.Telling.{tells, told_refusal}
use Rattle.c_answers.specs.declared.Told.{Told}
use Rattle.c_area.specs.Area.{area_bytes}
use Rattle.shelf_list.specs.Shelf.{entry, both_uses, good_entry}
use Rattle.shelf_list.specs.Calls.{fetch_answer, fetched_from}
use Rattle.shelf_list.proofs.Records.{good_parts}
use Rattle.shelf.specs.Answers.{stretch, found}
use Rattle.shelf.proofs.FoundTexts.{FoundText, found_text, found_refused}
use Rattle.hospital.specs.Calls.{called, told_read, area_after, ReadsInto}
use Rattle.hospital.specs.ShelfCalls.{told_answer, called_fetch, FetchesInto}
use Rattle.hospital.proofs.TextCalls.{sized}

pub fetched_leaves : (x : Read) (strings table : List ℕ) → ((told_answer (fetch_answer x)).number ≡ 0 → ⊥)
    → (buffer_after x strings ≡ strings) × (area_after x table ≡ table)
unfolding area_after
fetched_leaves (R.taken p) strings table h = absurd (h refl)
fetched_leaves (R.refused n place) strings table h = (refl, refl)

-- Of a plain text on a shelf no other posology is taken, in any room.
plain_back : (key : ℕ) (terms : Terms) (p q : Posology) → good_entry (entry key q) ≡ true → read terms (plain q) ≡ R.taken p → q ≡ p
plain_back key terms p q i e =
    let g = good_parts (entry key q) i in
    one_posology (plain q) q p
    (accepted_spells (in_greatest_room both_uses) (plain q) q (plain_reads (in_greatest_room both_uses) q (refl, g.is_valid) g.fits g.fits)).2
    (accepted_spells terms (plain q) p e).2

-- What reading tells of a text, fetching tells of it, if it is the plain text of what was taken.
told_fetched : (text : List ℕ) (x : Read) → ((p : Posology) → x ≡ R.taken p → length text ≡ length (plain p))
    → told_read text x ≡ told_answer (fetch_answer x)
told_fetched text (R.taken p) h = ap (tells 0) (h p refl)
told_fetched text (R.refused n place) h = refl

module _ (key : ℕ) (area strings table : List ℕ) where
  pub other_size : (length table ≡ area_bytes → ⊥) → FetchesInto key area strings table 19 area_bytes strings table
  unfolding called_fetch area_after
  other_size h =
      record { number = rw (ne_eqb _ _ h); place = rw (ne_eqb _ _ h); strings_left = rw (ne_eqb _ _ h); table_left = rw (ne_eqb _ _ h) }

  fetch_sized : length table ≡ area_bytes → fetched_from area key (length strings) ≡ called_fetch area key (length strings) (length table)
  unfolding called_fetch
  fetch_sized h = rw (eq-eqb _ _ h)

  pub not_found : (why : Refusal) → length table ≡ area_bytes → found area key ≡ Err why
      → FetchesInto key area strings table (told_refusal why).number (told_refusal why).place strings table
  unfolding area_after
  not_found why h e =
      let r : R.refused (number_of why.0) why.1 ≡ called_fetch area key (length strings) (length table) =
      sym (found_refused area key why (length strings) e) ∙ fetch_sized h in
      record {
        number = ap (λ (x : Read). (told_answer (fetch_answer x)).number) r;
        place = ap (λ (x : Read). (told_answer (fetch_answer x)).place) r;
        strings_left = ap (λ (x : Read). buffer_after x strings) r;
        table_left = ap (λ (x : Read). area_after x table) r;
      }

  module _ (from to : ℕ) (h : length table ≡ area_bytes) (e : found area key ≡ Ok (stretch from to)) where
    abbrev text : List ℕ
    text = take (to - from) (drop from area)

    abbrev x : Read
    x = called both_uses text (length strings) (length table)

    there : FoundText area key from to
    there = found_text area key from to e

    as_plain : x ≡ read (in_room both_uses (length strings)) (plain there.posology)
    as_plain = sym (sized both_uses text strings table h) ∙ ap (read (in_room both_uses (length strings))) there.text

    same_call : x ≡ called_fetch area key (length strings) (length table)
    same_call = as_plain ∙ sym (there.reads (length strings)) ∙ fetch_sized h

    told_alike : told_read text x ≡ told_answer (fetch_answer x)
    told_alike = told_fetched text x λ p t.
        ap length there.text
        ∙ ap (λ (q : Posology). length (plain q))
        (plain_back key (in_room both_uses (length strings)) p there.posology there.is_good (sym as_plain ∙ t))

    pub found_read : {n place : ℕ} {strings' table' : List ℕ} → ReadsInto both_uses text strings table n place strings' table'
        → FetchesInto key area strings table n place strings' table'
    found_read r =
        record {
          number = r.number ∙ ap (λ (t : Told). t.number) told_alike ∙ ap (λ (y : Read). (told_answer (fetch_answer y)).number) same_call;
          place = r.place ∙ ap (λ (t : Told). t.place) told_alike ∙ ap (λ (y : Read). (told_answer (fetch_answer y)).place) same_call;
          strings_left = r.strings_left ∙ ap (λ (y : Read). buffer_after y strings) same_call;
          table_left = r.area_left ∙ ap (λ (y : Read). area_after y table) same_call;
        }
