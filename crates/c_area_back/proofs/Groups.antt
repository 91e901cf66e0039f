-- The numbers of an area in two parts: those of its head, and those of its records.
use Prim.Native.Nat.{ℕ, zero, suc, ◌+◌, ◌*◌, ◌<◌}
use mathlib.Core.Path.{◌≡◌, sym, ap, ◌∙◌}
use mathlib.Core.List.{List, [], ◌∷◌}
use native.Mathlib.Omega.{arith}
use native.Mathlib.Nat.{zero-add, suc-add, suc-mul, add_comm}
use lib.ListN.{length, take, drop, get_or}
use lib.Seq.{drop-drop, get_or-take, ext_get_or}
use Rattle.document.specs.Words.{words_at_most, head_words}
use Rattle.document.specs.declared.table.Head.{Head}
use Rattle.table_kinds.specs.Kinds.{groups}
use Rattle.table_kinds.proofs.Fill.{groups_length, groups_at}
use Rattle.c_numbers.specs.Eights.{number_in}
use Rattle.c_area.specs.Area.{numbers_in, date_in, head_in}
use Rattle.c_area_back.specs.declared.HeadPart.{HeadPart}
use Rattle.c_area_back.specs.Parts.{PartIs, OtherIs, words_in}

abbrev pub numbers_from : ℕ → ℕ → List ℕ → List ℕ
numbers_from at n area = groups 8 (number_in 8) n (drop at area)

later_numbers : (n m : ℕ) (s : List ℕ)
    → drop n (groups 8 (number_in 8) (n + m) s) ≡ groups 8 (number_in 8) m (drop (n * 8) s)
unfolding groups
later_numbers zero m s = ap (λ (k : ℕ). groups 8 (number_in 8) k s) (zero-add m)
later_numbers (suc n) m s =
    let behind : drop (n * 8) (drop 8 s) ≡ drop (n * 8 + 8) s = drop-drop (n * 8) 8 s ∙ ap (λ (k : ℕ). drop k s) (add_comm 8 (n * 8)) in
    rw (suc-add, suc-mul) (later_numbers n m (drop 8 s) ∙ ap (groups 8 (number_in 8) m) behind)

pub record_numbers_lem : (area : List ℕ) → numbers_from 208 words_at_most area ≡ words_in area
unfolding numbers_in
record_numbers_lem area = sym (later_numbers 26 words_at_most area)

-- Numbers that are each the number of its bytes are those of the part.
pub numbers_taken : (n at : ℕ) (area ws : List ℕ) → length ws ≡ n → ((i : ℕ) → i < n → get_or ws i 0 ≡ number_in 8 (drop (at + i * 8) area)) → ws ≡ numbers_from at n area
numbers_taken n at area ws size each =
    ext_get_or 0 ws (numbers_from at n area) (size ∙ sym (groups_length 8 (number_in 8) n (drop at area)))
    (λ i h. each i (omega arith) ∙ ap (number_in 8) (sym (drop-drop (i * 8) at area)) ∙ sym (groups_at 8 (number_in 8) n i (drop at area) 0 (omega arith)))

-- What the head's numbers are read as: of them alone, as of all.
module _ (area ns hs : List ℕ) (h : Head) (front : ns ≡ numbers_from 0 26 area) (read : h ≡ head_in ns)
    (laid : hs ≡ head_words h (get_or ns 24 0 ∷ get_or ns 25 0 ∷ [])) where
  numbers : ns ≡ take 26 (numbers_in area)
  unfolding numbers_in groups
  numbers = front

  head : h ≡ head_in (numbers_in area)
  unfolding head_in date_in numbers_in groups
  head = read ∙ ap head_in front

  number : (i : ℕ) → i < 26 → get_or ns i 0 ≡ get_or (numbers_in area) i 0
  number i l = ap (λ (x : List ℕ). get_or x i 0) numbers ∙ get_or-take 26 (numbers_in area) i 0 l

  abbrev part : HeadPart
  part = record { head = h; count = get_or ns 24 0; text = get_or ns 25 0 }

  pub part_is : hs ≡ ns → PartIs area part
  part_is e = record { head = head; count = number 24 (omega arith); text = number 25 (omega arith); lies = sym laid ∙ e ∙ numbers }

  pub other_is : (hs ≡ ns → ⊥) → OtherIs area part
  other_is n =
      record { head = head; count = number 24 (omega arith); text = number 25 (omega arith); lies = λ l. n (laid ∙ l ∙ sym numbers) }
