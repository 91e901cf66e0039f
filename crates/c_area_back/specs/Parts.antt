-- The two parts of an area, as code reads them: the head's numbers with the counts, and the words of the records.
use Rattle.std.specs.Prelude.{◌≡◌, List, [], ◌∷◌, ℕ, take, drop, get_or, Result, Ok, Err}
use Rattle.document.specs.Words.{head_words}
use Rattle.document.specs.declared.table.Head.{Head}
use Rattle.c_area.specs.Area.{numbers_in, head_in}
use Rattle.c_area_back.specs.declared.HeadPart.{HeadPart}

-- A head and two counts lie in front.
abbrev pub Lies : List ℕ → Head → ℕ → ℕ → Type 0
Lies area head count text = head_words head (count ∷ text ∷ []) ≡ take 26 (numbers_in area)

-- What the head's numbers are read as, which lies as they do.
pub record PartIs (area : List ℕ) (r : HeadPart) : Type 0 where
  pub head : r.head ≡ head_in (numbers_in area)
  pub count : r.count ≡ get_or (numbers_in area) 24 0
  pub text : r.text ≡ get_or (numbers_in area) 25 0
  pub lies : Lies area r.head r.count r.text

-- What they are read as, which does not lie as they do.
pub record OtherIs (area : List ℕ) (r : HeadPart) : Type 0 where
  pub head : r.head ≡ head_in (numbers_in area)
  pub count : r.count ≡ get_or (numbers_in area) 24 0
  pub text : r.text ≡ get_or (numbers_in area) 25 0
  pub lies : Lies area r.head r.count r.text → ⊥

abbrev pub HeadIs : List ℕ → Result HeadPart HeadPart → Type 0
HeadIs area (Ok r) = PartIs area r
HeadIs area (Err r) = OtherIs area r

abbrev pub words_in : List ℕ → List ℕ
words_in area = drop 26 (numbers_in area)
