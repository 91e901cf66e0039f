-- What the records from record i on are written as: a tree (document 01, "The plain text"), by the words that stand there.
use Rattle.std.specs.Prelude.{◌≡◌, List, [], ◌∷◌, not, ℕ, ◌+◌, ◌-◌, ◌≤◌, ◌<◌, eqb, length, take, drop}
use Rattle.json_grammar.specs.Tree.{Tree, object, list, no_member, Elements, no_element, element}
use Rattle.document.specs.Schema.{greatest_integer, greatest_decimal}
use Rattle.document.specs.Words.{words}
use Rattle.document.specs.Untable.{days_of}
use Rattle.document.specs.Plain.{whole, amount, text_tree, time_text, field, field_if, typed, days_tree}
use Rattle.document.specs.Spell.{spell, first_element}
use Rattle.table_rows.specs.Standing.{At, below_at}
use Rattle.write_bytes.specs.Puts.{Lays}
use Rattle.write_bytes.specs.declared.Output.{Output}

-- The text of a tree that is P is put.
abbrev pub Prints : (Tree → Type 0) → Output → Output → Type 0
Prints P before after = (t : Tree) (k : List ℕ) → P t → Lays before (spell t k) k after

-- The same but for its closing brace.
abbrev pub Opens : (Tree → Type 0) → Output → Output → Type 0
Opens P before after = (t : Tree) (k : List ℕ) → P t → Lays before (spell t k) (125 ∷ k) after

-- Elements that are P are put with commas between them, but for the closing bracket.
abbrev pub Lists : (Elements → Type 0) → Output → Output → Type 0
Lists P before after = (ts : Elements) (k : List ℕ) → P ts → Lays before (first_element ts k) (93 ∷ k) after

module _ (ws : List ℕ) where
  pub data DosagePrints (i : ℕ) : Tree → Type 0 where
    simple : {a : ℕ} → At ws i (words 0 12 a 0 0 0) → a ≤ greatest_decimal → DosagePrints i (typed 1 (field "a" (amount a) no_member))
    from_to : {a b unit du : ℕ} → At ws i (words 0 13 a b unit du) → a ≤ greatest_decimal → b ≤ greatest_decimal → unit ≤ 7 → du ≤ greatest_integer → DosagePrints i (typed 2 (field "aFrom" (amount a) (field "aTo" (amount b) (field "duU" (whole unit) (field "du" (whole du) no_member)))))
    range : {a b : ℕ} → At ws i (words 0 14 a b 0 0) → a ≤ greatest_decimal → b ≤ greatest_decimal → DosagePrints i (typed 3 (field "aMin" (amount a) (field "aMax" (amount b) no_member)))

  pub data ApplicationPrints (i : ℕ) : Tree → Type 0 where
    at_time : {dt : ℕ} {d : Tree} → At ws i (words 1 17 dt 0 0 0) → dt ≤ 86399 → DosagePrints (i + 1) d → ApplicationPrints i (object [] (field "do" d (field "dt" (text_tree (time_text dt [])) no_member)))
    in_segment : {s : ℕ} {d : Tree} → At ws i (words 1 18 s 0 0 0) → s ≤ 4 → DosagePrints (i + 1) d → ApplicationPrints i (object [] (field "do" d (field "s" (whole s) no_member)))

  -- The applications from i on, up to record `end`.
  pub data ApplicationsPrint (end : ℕ) : ℕ → Elements → Type 0 where
    none : {i : ℕ} → i ≡ end → ApplicationsPrint end i no_element
    more : {i : ℕ} {t : Tree} {ts : Elements} → i < end → ApplicationPrints i t → ApplicationsPrint end (i + 2) ts → ApplicationsPrint end i (element t ts)

  -- A timed dosage of type 1, 2 or 3.
  pub data PlainPrints (i : ℕ) : Tree → Type 0 where
    dosage_only : {d : Tree} → At ws i (words 1 6 0 0 0 0) → DosagePrints (i + 1) d → PlainPrints i (typed 1 (field "do" d no_member))
    times : {n : ℕ} {ts : Elements} → At ws i (words n 7 0 0 0 0) → i + 1 + n ≤ 64 → ApplicationsPrint (i + 1 + n) (i + 1) ts → PlainPrints i (typed 2 (field "ts" (list [] ts) no_member))
    segments : {n : ℕ} {ss : Elements} → At ws i (words n 8 0 0 0 0) → i + 1 + n ≤ 64 → ApplicationsPrint (i + 1 + n) (i + 1) ss → PlainPrints i (typed 3 (field "ss" (list [] ss) no_member))

  pub data TimedPrints (i : ℕ) : Tree → Type 0 where
    plain : {t : Tree} → PlainPrints i t → TimedPrints i t
    week_days : {n set : ℕ} {t : Tree} → At ws i (words n 9 set 0 0 0) → PlainPrints (i + 1) t → TimedPrints i (typed 4 (field "wds" (list [] (days_tree (days_of 7 1 set))) (field "tdo" t no_member)))
    days_of_month : {n set : ℕ} {t : Tree} → At ws i (words n 10 set 0 0 0) → PlainPrints (i + 1) t → TimedPrints i (typed 5 (field "doms" (list [] (days_tree (days_of 28 1 set))) (field "tdo" t no_member)))
    interval : {du unit : ℕ} {d : Tree} → At ws i (words 1 11 du unit 0 0) → du ≤ greatest_integer → unit ≤ 7 → DosagePrints (i + 1) d → TimedPrints i (typed 6 (field "do" d (field "miDu" (whole du) (field "miDuU" (whole unit) no_member))))

  module _ (buffer : List ℕ) where
    mutual
      -- A detail in which so many sequences may open.
      pub data DetailPrints : ℕ → ℕ → Tree → Type 0 where
        daily : {left i a b c d : ℕ} → At ws i (words 0 1 a b c d) → a ≤ greatest_decimal → b ≤ greatest_decimal → c ≤ greatest_decimal → d ≤ greatest_decimal → DetailPrints left i (typed 1 (field "ds" (list [] (element (amount a) (element (amount b) (element (amount c) (element (amount d) no_element))))) no_member))
        free_text : {left i start len : ℕ} → At ws i (words 0 2 start len 0 0) → start + len ≤ length buffer → DetailPrints left i (typed 2 (field "text" (text_tree (take len (drop start buffer))) no_member))
        single : {left i n : ℕ} {t : Tree} → At ws i (words n 3 0 0 0 0) → TimedPrints (i + 1) t → DetailPrints left i (typed 3 (field "tdo" t no_member))
        cyclic : {left i n unit du per : ℕ} {t : Tree} → At ws i (words n 4 unit du per 0) → unit ≤ 7 → du ≤ greatest_integer → per ≤ greatest_integer → TimedPrints (i + 1) t → DetailPrints left i (typed 4 (field "cyDuU" (whole unit) (field "cyDu" (whole du) (field "tdo" t (field_if (not (eqb per 1)) "tdpc" (whole per) no_member)))))
        sequence : {left i n : ℕ} {os : Elements} → 1 ≤ left → At ws i (words n 5 0 0 0 0) → i + 1 + n ≤ 64 → ObjectsPrint (left - 1) (i + 1 + n) (i + 1) os → DetailPrints left i (typed 5 (field "sos" (list [] os) no_member))

      pub data ObjectPrints : ℕ → ℕ → Tree → Type 0 where
        posology : {left i n du unit : ℕ} {t : Tree} → At ws i (words n 15 du unit 0 0) → du ≤ greatest_integer → unit ≤ 7 → DetailPrints left (i + 1) t → ObjectPrints left i (typed 1 (field "du" (whole du) (field "duU" (whole unit) (field "po" t no_member))))
        pause : {left i du unit : ℕ} → At ws i (words 0 16 du unit 0 0) → du ≤ greatest_integer → unit ≤ 7 → ObjectPrints left i (typed 2 (field "du" (whole du) (field "duU" (whole unit) no_member)))

      -- The objects from i on, up to record `end`.
      pub data ObjectsPrint : ℕ → ℕ → ℕ → Elements → Type 0 where
        none : {left end i : ℕ} → i ≡ end → ObjectsPrint left end i no_element
        more : {left end i : ℕ} {t : Tree} {ts : Elements} → i < end → ObjectPrints left i t → ObjectsPrint left end (i + 1 + below_at ws i) ts → ObjectsPrint left end i (element t ts)
