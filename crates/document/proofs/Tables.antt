-- A table stands for its posology, and the writer makes its plain text.
use mathlib.Core.Path.{◌≡◌, refl, ap, sym, ◌∙◌}
use mathlib.Core.List.{List, [], ◌++◌}
use mathlib.Core.Bool.{Bool, true, false, cond, ◌&&◌}
use Prim.Native.Nat.{ℕ}
use native.Mathlib.Omega.{arith}
use lib.Dec.{leb}
use lib.ListN.{length, take}
use lib.Seq.{take_at}
use borrow.Author.Tests.{leb-true, le-leb}
use Rattle.json_grammar.specs.Rows.{choose}
use Rattle.document.specs.Lookup.{same}
use Rattle.document.specs.Posology.{Posology}
use Rattle.document.specs.Valid.{Valid, Fits, is_use, valid, strings}
use Rattle.document.specs.Table.{table_of}
use Rattle.document.specs.Words.{table_words}
use Rattle.document.specs.Untable.{posology_of}
use Rattle.document.specs.Plain.{plain}
use Rattle.document.specs.Write.{writes, refuses, fitting, write, is_table_of, readable, greatest_room}
use Rattle.document.specs.declared.table.Table.{Table}
use Rattle.json_grammar.proofs.Truth.{and_both, and_left, and_right, choose_true}
use Rattle.document.proofs.Same.{same_refl, same_equal}
use Rattle.document.proofs.WordsBack.{words_one}
use Rattle.document.proofs.Untabled.{untabled}

is_own_table : (purpose : ℕ) (p : Posology) (behind : List ℕ) → valid purpose p ≡ true → Fits greatest_room p → is_table_of purpose (table_of p) (strings p ++ behind) p ≡ true
is_own_table purpose p behind v f =
    and_both (and_both (and_both v (le-leb (length (strings p)) greatest_room f)) (same_refl (table_words (table_of p))))
    (ap (same (strings p)) (take_at (strings p) behind (length (strings p)) refl) ∙ same_refl (strings p))

pub own_readable : (purpose : ℕ) (p : Posology) (behind : List ℕ) → valid purpose p ≡ true → Fits greatest_room p → readable purpose (table_of p) (strings p ++ behind) ≡ true
unfolding readable
own_readable purpose p behind v f = ap (is_table_of purpose (table_of p) (strings p ++ behind)) (untabled purpose p behind v) ∙ is_own_table purpose p behind v f

-- What a table that is not refused with 17 or 18 is written as.
pub stood_written : (purpose : ℕ) (t : Table) (bytes : List ℕ) (room : ℕ) → is_use purpose ≡ true → readable purpose t bytes ≡ true
    → write purpose t bytes room ≡ fitting room (plain (posology_of t bytes))
unfolding write
stood_written purpose t bytes room u h = choose_true (is_use purpose) _ _ u ∙ choose_true (readable purpose t bytes) _ _ h

pub own_written : (purpose room : ℕ) (p : Posology) (behind : List ℕ) → Valid purpose p → Fits greatest_room p → write purpose (table_of p) (strings p ++ behind) room ≡ fitting room (plain p)
own_written purpose room p behind v f =
    stood_written purpose (table_of p) (strings p ++ behind) room v.0 (own_readable purpose p behind v.1 f)
    ∙ ap (λ (q : Posology). fitting room (plain q)) (untabled purpose p behind v.1)

pub one_of_table : (purpose : ℕ) (p q : Posology) → Valid purpose p → Valid purpose q → table_of p ≡ table_of q → strings p ≡ strings q → p ≡ q
one_of_table purpose p q v w e f =
    sym (untabled purpose p [] v.1)
    ∙ ap (λ (t : Table). posology_of t (strings p ++ [])) e
    ∙ ap (λ (s : List ℕ). posology_of (table_of q) (s ++ [])) f
    ∙ untabled purpose q [] w.1

-- The posology that a readable table stands for.
pub record StandsFor (purpose : ℕ) (t : Table) (bytes : List ℕ) : Type 0 where
  pub is : Posology
  pub read : posology_of t bytes ≡ is
  pub valid : valid purpose is ≡ true
  pub fits : Fits greatest_room is
  pub table : table_of is ≡ t
  pub strings_first : take (length (strings is)) bytes ≡ strings is

pub stands_for : (purpose : ℕ) (t : Table) (bytes : List ℕ) → readable purpose t bytes ≡ true → StandsFor purpose t bytes
unfolding readable
stands_for purpose t bytes h = go (posology_of t bytes) refl h
  where
    go : (p : Posology) → posology_of t bytes ≡ p → is_table_of purpose t bytes p ≡ true → StandsFor purpose t bytes
    go p r g =
        let fit = leb (length (strings p)) greatest_room in
        let words = same (table_words (table_of p)) (table_words t) in
        let first = same (strings p) (take (length (strings p)) bytes) in
        let a = and_left (valid purpose p && fit && words) first g in
        let b = and_left (valid purpose p && fit) words a in
        record {
          is = p;
          read = r;
          valid = and_left (valid purpose p) fit b;
          fits = leb-true (length (strings p)) greatest_room (and_right (valid purpose p) fit b);
          table = words_one (table_of p) t (same_equal (table_words (table_of p)) (table_words t) (and_right (valid purpose p && fit) words a));
          strings_first = sym (same_equal (strings p) (take (length (strings p)) bytes) (and_right (valid purpose p && fit && words) first g));
        }

-- A table holds as many text bytes as its strings.
pub text_of : (p : Posology) {t : Table} → table_of p ≡ t → t.text ≡ length (strings p)
unfolding table_of
text_of p e = sym (ap (λ (t : Table). t.text) e)

-- What was written was a readable table.
pub written_readable : (purpose : ℕ) (t : Table) (bytes : List ℕ) (room : ℕ) (w : List ℕ) → write purpose t bytes room ≡ writes w
    → (is_use purpose ≡ true) × (readable purpose t bytes ≡ true)
unfolding write
written_readable purpose t bytes room w h = go (is_use purpose) (readable purpose t bytes) h
  where
    go : (a b : Bool) → choose a (λ _. choose b (λ _. fitting room (plain (posology_of t bytes))) λ _. refuses 18 0) (λ _. refuses 17 0) ≡ writes w
        → (a ≡ true) × (b ≡ true)
    go true true e = (refl, refl)
    go true false e = let z : ◌≡◌ {A = ℕ} 0 1 = cc in absurd (omega arith)
    go false b e = let z : ◌≡◌ {A = ℕ} 0 1 = cc in absurd (omega arith)

-- A text that was written is the one that is to be written.
pub fitted : (room : ℕ) (bytes w : List ℕ) → fitting room bytes ≡ writes w → w ≡ bytes
fitted room bytes w h = go (leb (length bytes) room) h
  where
    go : (b : Bool) → cond b (writes bytes) (refuses 19 (length bytes)) ≡ writes w → w ≡ bytes
    go true e = cc e
    go false e = let z : ◌≡◌ {A = ℕ} 0 1 = cc in absurd (omega arith)
