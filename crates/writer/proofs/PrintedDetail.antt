-- The words of a valid value are written as the value's tree: details and the objects of a sequence.
use mathlib.Core.Path.{◌≡◌, refl, ap, sym, subst, ◌∙◌}
use mathlib.Core.List.{List, [], ◌++◌}
use mathlib.Core.Bool.{true, false≢true}
use Prim.Native.Nat.{ℕ, zero, suc, ◌+◌, ◌-◌, ◌≤◌}
use native.Mathlib.Omega.{arith}
use lib.ListN.{length, take, drop, length-append, length-drop}
use lib.Seq.{take_at}
use Rattle.json_grammar.specs.Tree.{no_member}
use Rattle.document.specs.Posology as P
use Rattle.document.specs.Posology.{Detail, SequenceObject, SequenceObjects}
use Rattle.document.specs.Schema.{under_single, under_cyclic}
use Rattle.document.specs.Valid.{valid_detail, valid_object, valid_objects, detail_records, object_records, objects_records, detail_strings, object_strings, objects_strings}
use Rattle.document.specs.Table.{detail_rows, object_rows, objects_rows}
use Rattle.document.specs.Words.{all_words}
use Rattle.document.specs.Plain.{text_tree, field, typed, detail_tree, object_tree, objects_tree}
use Rattle.document.specs.declared.table.Record.{Record}
use Rattle.document.proofs.DetailParts.{daily_parts, cyclic_parts, sequence_parts, posology_sequence_parts, pause_parts, objects_parts}
use Rattle.document.proofs.Untables.{joined_append}
use Rattle.table_rows.specs.Standing.{below_at, Lies}
use Rattle.check_table.proofs.FoundDetail.{object_found}
use Rattle.writer.proofs.Printed.{amount, duration, unit, timed_prints}
use Rattle.write_details.specs.Prints.{DetailPrints, daily, free_text, single, cyclic, sequence, ObjectPrints, posology, pause, ObjectsPrint, none, more}

module _ {ws buffer : List ℕ} where
  free_prints : (cs : List ℕ) (left i text : ℕ) (rs : List Record) (rest : List ℕ) → Lies ws i (all_words (detail_rows (P.free_text cs) text rs)) → drop text buffer ≡ detail_strings (P.free_text cs) rest → text ≤ length buffer → DetailPrints ws buffer left i (detail_tree (P.free_text cs))
  unfolding detail_rows detail_strings detail_tree
  free_prints cs left i text rs rest l e m =
      let e' : drop text buffer ≡ cs ++ rest = e ∙ joined_append cs rest in
      let n = sym (length-drop text buffer) ∙ ap length e' ∙ length-append cs rest in
      let is : take (length cs) (drop text buffer) ≡ cs = ap (take (length cs)) e' ∙ take_at cs rest (length cs) refl in
      subst (λ xs. DetailPrints ws buffer left i (typed 2 (field "text" (text_tree xs) no_member))) is (free_text l.0 (omega arith))

  mutual
    unfolding valid_detail detail_rows detail_records detail_strings detail_tree

    pub detail_prints : (d : Detail) (left i text : ℕ) (rs : List Record) (rest : List ℕ) → valid_detail d left ≡ true → i + detail_records d ≤ 64 → Lies ws i (all_words (detail_rows d text rs)) → drop text buffer ≡ detail_strings d rest → text ≤ length buffer → DetailPrints ws buffer left i (detail_tree d)
    detail_prints (P.daily a b c d) left i text rs rest v f l e m =
        let w = daily_parts a b c d left v in
        daily l.0 (amount a w.morning) (amount b w.noon) (amount c w.evening) (amount d w.night)
    detail_prints (P.free_text cs) left i text rs rest v f l e m = free_prints cs left i text rs rest l e m
    detail_prints (P.single td) left i text rs rest v f l e m = single l.0 (timed_prints td under_single rs (i + 1) v (omega arith) l.1)
    detail_prints (P.cyclic u du td per) left i text rs rest v f l e m =
        let w = cyclic_parts u du td per left v in
        cyclic l.0 (unit u w.unit) (duration du w.duration) (duration per w.per) (timed_prints td (under_cyclic u) rs (i + 1) w.timed (omega arith) l.1)
    detail_prints (P.sequence os) zero i text rs rest v f l e m = absurd (false≢true v)
    detail_prints (P.sequence os) (suc left) i text rs rest v f l e m =
        let n : left ≡ suc left - 1 = omega arith in
        sequence {left = suc left} (omega arith) l.0 (omega arith) (subst (λ x. ObjectsPrint ws buffer x (i + 1 + objects_records os) (i + 1) (objects_tree os)) n (objects_print os left (i + 1 + objects_records os) (i + 1) text rs rest (sequence_parts os left v).objects (omega arith) (omega arith) l.1 e m))

    object_prints : (o : SequenceObject) (left i text : ℕ) (rs : List Record) (rest : List ℕ) → valid_object o left ≡ true → i + object_records o ≤ 64 → Lies ws i (all_words (object_rows o text rs)) → drop text buffer ≡ object_strings o rest → text ≤ length buffer → ObjectPrints ws buffer left i (object_tree o)
    object_prints (P.posology_sequence du u po) left i text rs rest v f l e m =
        let w = posology_sequence_parts du u po left v in
        posology l.0 (duration du w.duration) (unit u w.unit) (detail_prints po left (i + 1) text rs rest w.detail (omega arith) l.1 e m)
    object_prints (P.pause du u) left i text rs rest v f l e m = let w = pause_parts du u left v in pause l.0 (duration du w.duration) (unit u w.unit)

    objects_print : (os : SequenceObjects) (left end i text : ℕ) (rs : List Record) (rest : List ℕ) → valid_objects os left ≡ true → i + objects_records os ≡ end → end ≤ 64 → Lies ws i (all_words (objects_rows os text rs)) → drop text buffer ≡ objects_strings os rest → text ≤ length buffer → ObjectsPrint ws buffer left end i (objects_tree os)
    objects_print P.no_object left end i text rs rest v g f l e m = none {end = end} {i = i} (omega arith)
    objects_print (P.object_then o os) left end i text rs rest v g f l e m =
        let w = objects_parts o os left v in
        let r = object_found o left i text (objects_rows os (text + length (object_strings o [])) rs) (objects_strings os rest) w.first (omega arith) l e m in
        let c = r.count in
        let n : i + object_records o ≡ i + 1 + below_at ws i = omega arith in
        let s : text + length (object_strings o []) ≡ r.taken = omega (arith, r.sum []) in
        let behind = subst (λ x. Lies ws (i + object_records o) (all_words (objects_rows os x rs))) s r.lies in
        let tail = objects_print os left end (i + object_records o) r.taken rs rest w.rest (omega arith) f behind r.behind r.most in
        more {end = end} {i = i} (omega arith) (object_prints o left i text (objects_rows os (text + length (object_strings o [])) rs) (objects_strings os rest) w.first (omega arith) l e m) (subst (λ x. ObjectsPrint ws buffer left end x (objects_tree os)) n tail)
