-- Words of a valid value are found right: details and the objects of a sequence.
use mathlib.Core.Path.{◌≡◌, refl, ap, sym, subst, ◌∙◌}
use mathlib.Core.List.{List, [], ◌∷◌, ◌++◌}
use mathlib.Core.Bool.{true, false, true≢false, false≢true}
use Prim.Native.Nat.{ℕ, zero, suc, ◌+◌, ◌-◌, ◌≤◌}
use native.Mathlib.Omega.{arith}
use lib.ListN.{length, take, drop, length-append, length-drop}
use lib.Seq.{drop-drop, take_at, drop_at}
use Rattle.document.specs.Posology as P
use Rattle.document.specs.Posology.{Detail, SequenceObject, SequenceObjects}
use Rattle.document.specs.Schema.{under_single, under_cyclic}
use Rattle.document.specs.Visit.{is_empty}
use Rattle.document.specs.Utf8.{is_utf8}
use Rattle.document.specs.Valid.{valid_detail, valid_object, valid_objects, some_object, timed_records, detail_records, object_records, objects_records, detail_strings, object_strings, objects_strings}
use Rattle.document.specs.Table.{row, detail_rows, object_rows, objects_rows}
use Rattle.document.specs.Words.{record_words, all_words}
use Rattle.document.specs.declared.table.Record.{Record}
use Rattle.document.specs.declared.table.Kind.TheVariants as K
use Rattle.table_rows.specs.Standing.{below_at, b_at, At, Lies}
use Rattle.table_rows.proofs.Standing.{moved}
use Rattle.document.proofs.DetailParts.{daily_parts, text_parts, cyclic_parts, sequence_parts, posology_sequence_parts, pause_parts, objects_parts}
use Rattle.document.proofs.Untables.{joined_append}
use Rattle.check_doses.proofs.Decided.{same_unit}
use Rattle.std.specs.Prelude.{Some, None}
use Rattle.check_doses.proofs.Found.{exact, up_to, among_bounds, row_of, timed_found, lets_single, lets_cyclic}
use Rattle.check_doses.specs.Doses.{daily, single, cyclic}
use Rattle.check_table.specs.Checks.{DetailAt, still, free_text, sequence, ObjectAt, pause, posology, ObjectsAt, last, more}

-- A value d was found: its strings end where `rest` begins.
pub record FoundDetail (ws buffer : List ℕ) (d : Detail) (left i text : ℕ) (k : List Record) (rest : List ℕ) : Type 0 where
  pub taken : ℕ
  pub at : DetailAt ws buffer left i text taken
  pub count : below_at ws i + 1 ≡ detail_records d
  pub lies : Lies ws (i + detail_records d) (all_words k)
  pub behind : drop taken buffer ≡ rest
  pub most : taken ≤ length buffer
  pub sum : (s : List ℕ) → text + length (detail_strings d s) ≡ taken + length s

pub record FoundObject (ws buffer : List ℕ) (o : SequenceObject) (left i text : ℕ) (k : List Record) (rest : List ℕ) : Type 0 where
  pub taken : ℕ
  pub at : ObjectAt ws buffer left i text taken
  pub count : below_at ws i + 1 ≡ object_records o
  pub lies : Lies ws (i + object_records o) (all_words k)
  pub behind : drop taken buffer ≡ rest
  pub most : taken ≤ length buffer
  pub sum : (s : List ℕ) → text + length (object_strings o s) ≡ taken + length s

pub record FoundObjects (ws buffer : List ℕ) (os : SequenceObjects) (left end i text : ℕ) (k : List Record) (rest : List ℕ) : Type 0 where
  pub taken : ℕ
  pub at : ObjectsAt ws buffer left end i text taken
  pub lies : Lies ws end (all_words k)
  pub behind : drop taken buffer ≡ rest
  pub most : taken ≤ length buffer
  pub sum : (s : List ℕ) → text + length (objects_strings os s) ≡ taken + length s

tail_starts : (o : SequenceObject) (left i text v : ℕ) → text + length (object_strings o []) ≡ v + length {A = ℕ} [] → text + length (object_strings o []) ≡ v
tail_starts o left i text v e = omega arith

pub not_none : (cs : List ℕ) → is_empty cs ≡ false → 1 ≤ length cs
not_none [] e = absurd (true≢false e)
not_none (c ∷ cs) e = omega arith

some_records : (os : SequenceObjects) → some_object os ≡ true → 1 ≤ objects_records os
unfolding detail_records
some_records P.no_object e = absurd (false≢true e)
some_records (P.object_then (P.posology_sequence du u po) os) e = omega arith
some_records (P.object_then (P.pause du u) os) e = omega arith

module _ {ws buffer : List ℕ} where
  daily_found : (a b c d left i text : ℕ) (k : List Record) (rest : List ℕ) → valid_detail (P.daily a b c d) left ≡ true → Lies ws i (all_words (detail_rows (P.daily a b c d) text k)) → drop text buffer ≡ rest → text ≤ length buffer → FoundDetail ws buffer (P.daily a b c d) left i text k rest
  unfolding valid_detail detail_rows detail_records detail_strings
  daily_found a b c d left i text k rest v l e m =
      let w = daily_parts a b c d left v in
      let p = l.0 in
      record { taken = text; at = still (daily (row_of p refl (exact 0) (up_to a _ w.morning) (up_to b _ w.noon) (up_to c _ w.evening) (up_to d _ w.night))) refl; count = omega arith; lies = l.1; behind = e; most = m; sum = λ s. refl }

  free_found : (cs : List ℕ) (left i text : ℕ) (k : List Record) (rest : List ℕ) → valid_detail (P.free_text cs) left ≡ true → Lies ws i (all_words (detail_rows (P.free_text cs) text k)) → drop text buffer ≡ detail_strings (P.free_text cs) rest → text ≤ length buffer → FoundDetail ws buffer (P.free_text cs) left i text k rest
  unfolding valid_detail detail_rows detail_records detail_strings
  free_found cs left i text k rest v l e m =
      let p = l.0 in
      let w = text_parts cs v in
      let g = not_none cs w.some in
      let e' : drop text buffer ≡ cs ++ rest = e ∙ joined_append cs rest in
      let j : length buffer - text ≡ length cs + length rest = sym (length-drop text buffer) ∙ ap length e' ∙ length-append cs rest in
      let t : take (b_at ws i) (drop text buffer) ≡ cs = ap (take (b_at ws i)) e' ∙ take_at cs rest (b_at ws i) (sym p.b) in
      let z : text + length cs ≡ text + b_at ws i = omega arith in
      record {
        taken = text + length cs;
        at = free_text (record { room = m; row = row_of p refl (exact 0) (exact text) (record { least = omega arith; most = omega arith }) (exact 0) (exact 0); utf8 = ap is_utf8 t ∙ w.utf8 }) z;
        count = omega arith;
        lies = l.1;
        behind = sym (drop-drop (length cs) text buffer) ∙ ap (drop (length cs)) e' ∙ drop_at cs rest (length cs) refl;
        most = omega arith;
        sum = λ s. let q = ap length (joined_append cs s) ∙ length-append cs s in omega arith;
      }

  single_found : (td : P.Timed) (left i text : ℕ) (k : List Record) (rest : List ℕ) → valid_detail (P.single td) left ≡ true → i + detail_records (P.single td) ≤ 64 → Lies ws i (all_words (detail_rows (P.single td) text k)) → drop text buffer ≡ rest → text ≤ length buffer → FoundDetail ws buffer (P.single td) left i text k rest
  unfolding valid_detail detail_rows detail_records detail_strings
  single_found td left i text k rest v f l e m =
      let p = l.0 in
      let r = timed_found td under_single None k lets_single v (omega arith) l.1 in
      let c = r.1.0 in
      let n : i + 1 + timed_records td ≡ i + (1 + timed_records td) = omega arith in
      record { taken = text; at = still (single (record { row = row_of p refl (record { least = omega arith; most = omega arith }) (exact 0) (exact 0) (exact 0) (exact 0); inner = r.0; nested = omega arith })) refl; count = omega arith; lies = moved ws (all_words k) n r.1.1; behind = e; most = m; sum = λ s. refl }

  cyclic_found : (u du per : ℕ) (td : P.Timed) (left i text : ℕ) (k : List Record) (rest : List ℕ) → valid_detail (P.cyclic u du td per) left ≡ true → i + detail_records (P.cyclic u du td per) ≤ 64 → Lies ws i (all_words (detail_rows (P.cyclic u du td per) text k)) → drop text buffer ≡ rest → text ≤ length buffer → FoundDetail ws buffer (P.cyclic u du td per) left i text k rest
  unfolding valid_detail detail_rows detail_records detail_strings
  cyclic_found u du per td left i text k rest v f l e m =
      let p = l.0 in
      let w = cyclic_parts u du td per left v in
      let r = timed_found td (under_cyclic u) (Some u) k (lets_cyclic u) w.timed (omega arith) l.1 in
      let c = r.1.0 in
      let n : i + 1 + timed_records td ≡ i + (1 + timed_records td) = omega arith in
      record { taken = text; at = still (cyclic (record { row = row_of p refl (record { least = omega arith; most = omega arith }) (among_bounds 1 u 7 w.unit) (among_bounds 1 du 99999 w.duration) (among_bounds 1 per 99999 w.per) (exact 0); inner = same_unit (sym p.a) r.0; nested = omega arith })) refl; count = omega arith; lies = moved ws (all_words k) n r.1.1; behind = e; most = m; sum = λ s. refl }

  pause_found : (du u left i text : ℕ) (k : List Record) (rest : List ℕ) → valid_object (P.pause du u) left ≡ true → Lies ws i (all_words (object_rows (P.pause du u) text k)) → drop text buffer ≡ rest → text ≤ length buffer → FoundObject ws buffer (P.pause du u) left i text k rest
  unfolding valid_detail detail_rows detail_records detail_strings
  pause_found du u left i text k rest v l e m =
      let p = l.0 in
      let w = pause_parts du u left v in
      record { taken = text; at = pause (row_of p refl (exact 0) (among_bounds 1 du 99999 w.duration) (among_bounds 1 u 7 w.unit) (exact 0) (exact 0)) refl; count = omega arith; lies = l.1; behind = e; most = m; sum = λ s. refl }

  posology_found : (du u : ℕ) (po : Detail) (left i text : ℕ) (k : List Record) (rest : List ℕ) → valid_object (P.posology_sequence du u po) left ≡ true → i + object_records (P.posology_sequence du u po) ≤ 64 → At ws i (record_words (row (K.PosologySequence du u) (detail_records po))) → FoundDetail ws buffer po left (i + 1) text k rest → FoundObject ws buffer (P.posology_sequence du u po) left i text k rest
  unfolding valid_detail detail_rows detail_records detail_strings
  posology_found du u po left i text k rest v f p r =
      let w = posology_sequence_parts du u po left v in
      let c = r.count in
      let n : i + 1 + detail_records po ≡ i + (1 + detail_records po) = omega arith in
      record { taken = r.taken; at = posology (row_of p refl (record { least = omega arith; most = omega arith }) (among_bounds 1 du 99999 w.duration) (among_bounds 1 u 7 w.unit) (exact 0) (exact 0)) r.at (omega arith); count = omega arith; lies = moved ws (all_words k) n r.lies; behind = r.behind; most = r.most; sum = r.sum }

  sequence_found : (os : SequenceObjects) (left i text : ℕ) (k : List Record) (rest : List ℕ) → i + detail_records (P.sequence os) ≤ 64 → 1 ≤ objects_records os → At ws i (record_words (row K.Sequence (objects_records os))) → FoundObjects ws buffer os left (i + 1 + below_at ws i) (i + 1) text k rest → FoundDetail ws buffer (P.sequence os) (suc left) i text k rest
  unfolding valid_detail detail_rows detail_records detail_strings
  sequence_found os left i text k rest f h p r =
      let n : i + 1 + below_at ws i ≡ i + (1 + objects_records os) = omega arith in
      let m : left ≡ suc left - 1 = omega arith in
      let y : 1 ≤ suc left = omega arith in
      record { taken = r.taken; at = sequence y (row_of p refl (record { least = omega arith; most = omega arith }) (exact 0) (exact 0) (exact 0) (exact 0)) (subst (λ x. ObjectsAt ws buffer x (i + 1 + below_at ws i) (i + 1) text r.taken) m r.at); count = omega arith; lies = moved ws (all_words k) n r.lies; behind = r.behind; most = r.most; sum = r.sum }

  join : (o : SequenceObject) (os : SequenceObjects) (left end i text : ℕ) (k : List Record) (rest : List ℕ) → i + (object_records o + objects_records os) ≡ end → (r : FoundObject ws buffer o left i text (objects_rows os (text + length (object_strings o [])) k) (objects_strings os rest)) → (some_object os ≡ true → FoundObjects ws buffer os left end (i + object_records o) r.taken k rest) → FoundObjects ws buffer (P.object_then o os) left end i text k rest
  unfolding valid_detail detail_rows detail_records detail_strings
  join o P.no_object left end i text k rest e r f =
      let c = r.count in
      let n : i + object_records o ≡ end = omega arith in
      let m : i + 1 + below_at ws i ≡ end = omega arith in
      record { taken = r.taken; at = last r.at m; lies = moved ws (all_words k) n r.lies; behind = r.behind; most = r.most; sum = r.sum }
  join o (P.object_then o' os) left end i text k rest e r f =
      let q = f refl in
      let c = r.count in
      let n : i + object_records o ≡ i + 1 + below_at ws i = omega arith in
      record { taken = q.taken; at = more r.at (subst (λ x. ObjectsAt ws buffer left end x r.taken q.taken) n q.at); lies = q.lies; behind = q.behind; most = q.most; sum = λ s. omega (arith, r.sum (objects_strings (P.object_then o' os) s), q.sum s) }

  mutual
    unfolding valid_detail detail_rows detail_records detail_strings

    pub detail_found : (d : Detail) (left i text : ℕ) (k : List Record) (rest : List ℕ) → valid_detail d left ≡ true → i + detail_records d ≤ 64 → Lies ws i (all_words (detail_rows d text k)) → drop text buffer ≡ detail_strings d rest → text ≤ length buffer → FoundDetail ws buffer d left i text k rest
    detail_found (P.daily a b c d) left i text k rest v f l e m = daily_found a b c d left i text k rest v l e m
    detail_found (P.free_text cs) left i text k rest v f l e m = free_found cs left i text k rest v l e m
    detail_found (P.single td) left i text k rest v f l e m = single_found td left i text k rest v f l e m
    detail_found (P.cyclic u du td per) left i text k rest v f l e m = cyclic_found u du per td left i text k rest v f l e m
    detail_found (P.sequence os) zero i text k rest v f l e m = absurd (false≢true v)
    detail_found (P.sequence os) (suc left) i text k rest v f l e m =
        let w = sequence_parts os left v in
        let p = l.0 in
        let h = some_records os w.some in
        sequence_found os left i text k rest f h p (objects_found os left (i + 1 + below_at ws i) (i + 1) text k rest w.some w.objects (omega arith) (omega arith) l.1 e m)

    pub object_found : (o : SequenceObject) (left i text : ℕ) (k : List Record) (rest : List ℕ) → valid_object o left ≡ true → i + object_records o ≤ 64 → Lies ws i (all_words (object_rows o text k)) → drop text buffer ≡ object_strings o rest → text ≤ length buffer → FoundObject ws buffer o left i text k rest
    object_found (P.posology_sequence du u po) left i text k rest v f l e m = posology_found du u po left i text k rest v f l.0 (detail_found po left (i + 1) text k rest (posology_sequence_parts du u po left v).detail (omega arith) l.1 e m)
    object_found (P.pause du u) left i text k rest v f l e m = pause_found du u left i text k rest v l e m

    objects_found : (os : SequenceObjects) (left end i text : ℕ) (k : List Record) (rest : List ℕ) → some_object os ≡ true → valid_objects os left ≡ true → i + objects_records os ≡ end → end ≤ 64 → Lies ws i (all_words (objects_rows os text k)) → drop text buffer ≡ objects_strings os rest → text ≤ length buffer → FoundObjects ws buffer os left end i text k rest
    objects_found P.no_object left end i text k rest s v g f l e m = absurd (false≢true s)
    objects_found (P.object_then o os) left end i text k rest s v g f l e m =
        let r = object_found o left i text (objects_rows os (text + length (object_strings o [])) k) (objects_strings os rest) (objects_parts o os left v).first (omega arith) l e m in
        join o os left end i text k rest g r (λ t. objects_found os left end (i + object_records o) r.taken k rest t (objects_parts o os left v).rest (omega arith) f (subst (λ x. Lies ws (i + object_records o) (all_words (objects_rows os x k))) (tail_starts o left i text r.taken (r.sum [])) r.lies) r.behind r.most)
