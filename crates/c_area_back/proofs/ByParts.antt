-- The two parts of bytes, and the table that these lay out: an area's head lies as it is read, and its words are those of its table.
-- Bytes whose head does so are an area where their words are those of any table.
use Prim.Native.Nat.{ℕ}
use mathlib.Core.Path.{◌≡◌, sym, ap, ap₂, ◌∙◌}
use Rattle.std.specs.Prelude.{Ok, Err}
use mathlib.Core.List.{List, [], ◌∷◌, ◌++◌}
use mathlib.Core.Bool.{true}
use lib.ListN.{length, take, drop, take-append-drop}
use Rattle.document.specs.Words.{width, head_words, table_words}
use Rattle.document.specs.declared.table.Table.{Table}
use Rattle.table_kinds.specs.Kinds.{record_in}
use Rattle.table_kinds.proofs.Fill.{groups_length}
use Rattle.table_words.specs.ByWords.{ByWords}
use Rattle.c_numbers.specs.Eights.{all_bytes}
use Rattle.c_area.specs.Area.{area_bytes, area_of, numbers_in, table_in, is_area}
use Rattle.c_area_back.specs.declared.HeadPart.{HeadPart}
use Rattle.c_area_back.specs.Fits.{Fitting, AllBytes}
use Rattle.c_area_back.specs.Parts.{HeadIs, words_in}
use Rattle.c_area_back.proofs.AreaBack.{is_area_lem, area_lies}
use Rattle.c_area_back.proofs.InFits.{in_fits}
use Rattle.c_area_back.proofs.Numbers.{numbers_laid, bytes_lie}
use Rattle.c_area_back.proofs.Parts.{head_numbers, in_parts, words_front, words_behind}

module _ (area : List ℕ) (b : AllBytes area) where
  module _ (a : is_area area ≡ true) where
    area_numbers : numbers_in area ≡ table_words (table_in area)
    area_numbers = ap numbers_in (sym (area_lies area a)) ∙ numbers_laid (table_in area) (in_fits area b)

    -- Bytes whose head does not lie as it is read are no area.
    pub area_laid : (r : HeadPart) → HeadIs area (Err r) → ⊥
    unfolding table_in
    area_laid r h = h.lies (rw (h.head, h.count, h.text) (sym (ap (take 26) area_numbers ∙ words_front (table_in area))))

    pub area_by_words : (r : HeadPart) → HeadIs area (Ok r) → ByWords (table_in area) r.head r.count r.text (words_in area)
    unfolding table_in
    area_by_words r h =
        record {
          head = sym h.head;
          count = sym h.count;
          text = sym h.text;
          words = sym (ap (drop 26) area_numbers ∙ words_behind (table_in area));
          all = groups_length width record_in 64 (drop 26 (numbers_in area));
        }

  pub laid_is_area : (r : HeadPart) → HeadIs area (Ok r) → (t : Table) → Fitting t → length area ≡ area_bytes
      → ByWords t r.head r.count r.text (words_in area) → is_area area ≡ true
  unfolding area_of
  laid_is_area r h t f e w =
      let same_head : head_numbers t ≡ head_words r.head (r.count ∷ r.text ∷ []) = rw (w.head, w.count, w.text) in
      let numbers : table_words t ≡ numbers_in area =
      in_parts t ∙ ap₂ ◌++◌ (same_head ∙ h.lies) w.words ∙ take-append-drop 26 (numbers_in area) in
      let lies : area_of t ≡ area = ap all_bytes numbers ∙ bytes_lie area b e in
      ap is_area (sym lies) ∙ is_area_lem t f
