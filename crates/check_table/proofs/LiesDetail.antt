-- Words that are checked are those of a value: details and the objects of a sequence.
use mathlib.Core.Path.{◌≡◌, refl, ap, sym, subst, ◌∙◌}
use mathlib.Core.List.{List, [], ◌++◌}
use mathlib.Core.Bool.{true, not}
use Prim.Native.Nat.{ℕ, zero, suc, ◌+◌, ◌-◌, ◌≤◌}
use native.Mathlib.Omega.{arith}
use lib.ListN.{length, take, drop, length-append, length-drop, take-append-drop}
use lib.Seq.{length-take-le, drop-drop}
use borrow.Author.Tests.{le-leb}
use Rattle.document.specs.Posology as P
use Rattle.document.specs.Posology.{Detail, SequenceObject, SequenceObjects}
use Rattle.document.specs.Valid.{valid_detail, valid_object, valid_objects, some_object, timed_records, detail_records, object_records, objects_records, detail_strings, object_strings, objects_strings}
use Rattle.document.specs.Table.{detail_rows, object_rows, objects_rows}
use Rattle.document.specs.Words.{all_words}
use Rattle.document.specs.declared.table.Record.{Record}
use Rattle.document.proofs.Strings.{some_of_length}
use Rattle.document.proofs.Untables.{joined_append}
use Rattle.table_rows.specs.Standing.{below_at, a_at, b_at, c_at, d_at, Lies}
use Rattle.json_grammar.proofs.Truth.{and_both}
use Rattle.table_rows.proofs.Standing.{moved}
use Rattle.check_doses.proofs.Lies.{single_is, cyclic_is}
use Rattle.check_doses.specs.Shapes.{Row}
use Rattle.check_doses.specs.Doses.{Nested, StillAt, daily, single, cyclic}
use Rattle.check_table.specs.Checks.{sequence_shape, pause_shape, posology_shape, FreeTextAt, DetailAt, still, free_text, sequence, ObjectAt, pause, posology, ObjectsAt, last, more}

pub record DetailIs (ws buffer : List ℕ) (left i text u : ℕ) : Type 0 where
  pub value : Detail
  pub valid : valid_detail value left ≡ true
  pub lies : (k : List Record) → Lies ws (i + detail_records value) (all_words k) → Lies ws i (all_words (detail_rows value text k))
  pub count : below_at ws i + 1 ≡ detail_records value
  pub taken : (k : List ℕ) → text + length (detail_strings value k) ≡ u + length k
  pub strings : drop text buffer ≡ detail_strings value (drop u buffer)

pub record ObjectIs (ws buffer : List ℕ) (left i text u : ℕ) : Type 0 where
  pub value : SequenceObject
  pub valid : valid_object value left ≡ true
  pub lies : (k : List Record) → Lies ws (i + 1 + below_at ws i) (all_words k) → Lies ws i (all_words (object_rows value text k))
  pub count : below_at ws i + 1 ≡ object_records value
  pub taken : (k : List ℕ) → text + length (object_strings value k) ≡ u + length k
  pub strings : drop text buffer ≡ object_strings value (drop u buffer)

pub record ObjectsAre (ws buffer : List ℕ) (left end i text u : ℕ) : Type 0 where
  pub value : SequenceObjects
  pub some : some_object value ≡ true
  pub valid : valid_objects value left ≡ true
  pub lies : (k : List Record) → Lies ws end (all_words k) → Lies ws i (all_words (objects_rows value text k))
  pub count : i + objects_records value ≡ end
  pub taken : (k : List ℕ) → text + length (objects_strings value k) ≡ u + length k
  pub strings : drop text buffer ≡ objects_strings value (drop u buffer)

module _ {ws buffer : List ℕ} where
  still_is : {left i text u : ℕ} → StillAt ws i → u ≡ text → DetailIs ws buffer left i text u
  unfolding valid_detail detail_rows detail_records detail_strings
  still_is {left} {i} {text} {u} (daily o) e = record {
    value = P.daily (a_at ws i) (b_at ws i) (c_at ws i) (d_at ws i);
    valid = and_both (and_both (and_both (le-leb (a_at ws i) 999999999999 o.a.most) (le-leb (b_at ws i) 999999999999 o.b.most)) (le-leb (c_at ws i) 999999999999 o.c.most)) (le-leb (d_at ws i) 999999999999 o.d.most);
    lies = λ k l. (record { inside = o.inside; tag = o.tag; below = omega arith; a = refl; b = refl; c = refl; d = refl }, l);
    count = omega arith;
    taken = λ k. omega arith;
    strings = ap (λ n. drop n buffer) (sym e);
  }
  still_is {left} {i} {text} {u} (single p) e =
      let t = single_is p.inner in
      let o = p.row in
      let n : i + (1 + timed_records t.value) ≡ i + 1 + timed_records t.value = omega arith in
      record {
        value = P.single t.value;
        valid = t.valid;
        lies = λ k l. (record { inside = o.inside; tag = o.tag; below = omega (arith, p.nested, t.count); a = omega arith; b = omega arith; c = omega arith; d = omega arith }, t.lies k (moved ws (all_words k) n l));
        count = omega (arith, p.nested, t.count);
        taken = λ k. omega arith;
        strings = ap (λ n. drop n buffer) (sym e);
      }
  still_is {left} {i} {text} {u} (cyclic p) e =
      let t = cyclic_is p.inner in
      let o = p.row in
      let n : i + (1 + timed_records t.value) ≡ i + 1 + timed_records t.value = omega arith in
      record {
        value = P.cyclic (a_at ws i) (b_at ws i) t.value (c_at ws i);
        valid = and_both (and_both (and_both (and_both (le-leb 1 (a_at ws i) o.a.least) (le-leb (a_at ws i) 7 o.a.most)) (and_both (le-leb 1 (b_at ws i) o.b.least) (le-leb (b_at ws i) 99999 o.b.most))) t.valid) (and_both (le-leb 1 (c_at ws i) o.c.least) (le-leb (c_at ws i) 99999 o.c.most));
        lies = λ k l. (record { inside = o.inside; tag = o.tag; below = omega (arith, p.nested, t.count); a = refl; b = refl; c = refl; d = omega arith }, t.lies k (moved ws (all_words k) n l));
        count = omega (arith, p.nested, t.count);
        taken = λ k. omega arith;
        strings = ap (λ n. drop n buffer) (sym e);
      }

  free_is : {left i text u : ℕ} → FreeTextAt ws buffer i text → u ≡ text + b_at ws i → DetailIs ws buffer left i text u
  unfolding valid_detail detail_rows detail_records detail_strings
  free_is {left} {i} {text} {u} p e =
      let o = p.row in
      let cs = take (b_at ws i) (drop text buffer) in
      let n : length cs ≡ b_at ws i = length-take-le (b_at ws i) (drop text buffer) (omega (arith, length-drop text buffer, o.b.most)) in
      record {
        value = P.free_text cs;
        valid = and_both (ap not (some_of_length cs (λ z. omega (arith, o.b.least)))) p.utf8;
        lies = λ k l. (record { inside = o.inside; tag = o.tag; below = omega arith; a = omega arith; b = sym n; c = omega arith; d = omega arith }, l);
        count = omega arith;
        taken = λ k. let j = ap length (joined_append cs k) ∙ length-append cs k in omega arith;
        strings = sym (joined_append cs (drop u buffer) ∙ ap (λ m. cs ++ drop m buffer) e ∙ ap (λ s. cs ++ s) (sym (drop-drop (b_at ws i) text buffer)) ∙ take-append-drop (b_at ws i) (drop text buffer));
      }

  pause_is : {left i text u : ℕ} → Row ws i pause_shape → u ≡ text → ObjectIs ws buffer left i text u
  unfolding valid_detail detail_rows detail_records detail_strings
  pause_is {left} {i} {text} {u} o e =
      let n : i + 1 + below_at ws i ≡ i + 1 = omega (arith, o.below.most) in
      record {
        value = P.pause (a_at ws i) (b_at ws i);
        valid = and_both (and_both (le-leb 1 (a_at ws i) o.a.least) (le-leb (a_at ws i) 99999 o.a.most)) (and_both (le-leb 1 (b_at ws i) o.b.least) (le-leb (b_at ws i) 7 o.b.most));
        lies = λ k l. (record { inside = o.inside; tag = o.tag; below = omega (arith, o.below.most); a = refl; b = refl; c = omega (arith, o.c.most); d = omega (arith, o.d.most) }, moved ws (all_words k) n l);
        count = omega (arith, o.below.most);
        taken = λ k. omega arith;
        strings = ap (λ n. drop n buffer) (sym e);
      }

  in_sequence : (left i text u : ℕ) → 1 ≤ left → Row ws i sequence_shape → ObjectsAre ws buffer (left - 1) (i + 1 + below_at ws i) (i + 1) text u → DetailIs ws buffer left i text u
  unfolding valid_detail detail_rows detail_records detail_strings
  in_sequence zero i text u l o r = absurd (omega arith)
  in_sequence (suc left) i text u l o r =
      let n : i + (1 + objects_records r.value) ≡ i + 1 + below_at ws i = omega (arith, r.count) in
      let m : suc left - 1 ≡ left = omega arith in
      record {
        value = P.sequence r.value;
        valid = and_both r.some (subst (λ x. valid_objects r.value x ≡ true) m r.valid);
        lies = λ k l. (record { inside = o.inside; tag = o.tag; below = omega (arith, r.count); a = omega (arith, o.a.most); b = omega (arith, o.b.most); c = omega (arith, o.c.most); d = omega (arith, o.d.most) }, r.lies k (moved ws (all_words k) n l));
        count = omega (arith, r.count);
        taken = r.taken;
        strings = r.strings;
      }

  in_object : (left i text u : ℕ) → Row ws i posology_shape → Nested ws i → DetailIs ws buffer left (i + 1) text u → ObjectIs ws buffer left i text u
  unfolding valid_detail detail_rows detail_records detail_strings
  in_object left i text u o h r =
      let n : i + 1 + below_at ws i ≡ i + 1 + detail_records r.value = omega (arith, r.count) in
      record {
        value = P.posology_sequence (a_at ws i) (b_at ws i) r.value;
        valid = and_both (and_both (and_both (le-leb 1 (a_at ws i) o.a.least) (le-leb (a_at ws i) 99999 o.a.most)) (and_both (le-leb 1 (b_at ws i) o.b.least) (le-leb (b_at ws i) 7 o.b.most))) r.valid;
        lies = λ k l. (record { inside = o.inside; tag = o.tag; below = omega (arith, r.count); a = refl; b = refl; c = omega (arith, o.c.most); d = omega (arith, o.d.most) }, r.lies k (moved ws (all_words k) n l));
        count = omega (arith, r.count);
        taken = r.taken;
        strings = r.strings;
      }

  one_object_lem : (left end i text u : ℕ) → i + 1 + below_at ws i ≡ end → ObjectIs ws buffer left i text u → ObjectsAre ws buffer left end i text u
  unfolding valid_detail detail_rows detail_records detail_strings
  one_object_lem left end i text u e r = record {
    value = P.object_then r.value P.no_object;
    some = refl;
    valid = and_both r.valid refl;
    lies = λ k l. r.lies k (moved ws (all_words k) (sym e) l);
    count = omega (arith, r.count);
    taken = r.taken;
    strings = r.strings;
  }

  more_objects : (left end i text v u : ℕ) → ObjectIs ws buffer left i text v → ObjectsAre ws buffer left end (i + 1 + below_at ws i) v u → ObjectsAre ws buffer left end i text u
  unfolding valid_detail detail_rows detail_records detail_strings
  more_objects left end i text v u r q =
      let w : text + length (object_strings r.value []) ≡ v = omega (arith, r.taken []) in
      record {
        value = P.object_then r.value q.value;
        some = refl;
        valid = and_both r.valid q.valid;
        lies = λ k l. subst (λ x. Lies ws i (all_words (object_rows r.value text (objects_rows q.value x k)))) (sym w) (r.lies (objects_rows q.value v k) (q.lies k l));
        count = omega (arith, r.count, q.count);
        taken = λ k. omega (arith, r.taken (objects_strings q.value k), q.taken k);
        strings = r.strings ∙ ap (λ s. object_strings r.value s) q.strings;
      }

  mutual
    pub detail_is : {left i text u : ℕ} → DetailAt ws buffer left i text u → DetailIs ws buffer left i text u
    detail_is (still p e) = still_is p e
    detail_is (free_text p e) = free_is p e
    detail_is {left} {i} {text} {u} (sequence l o p) = in_sequence left i text u l o (objects_are p)

    object_is : {left i text u : ℕ} → ObjectAt ws buffer left i text u → ObjectIs ws buffer left i text u
    object_is (pause o e) = pause_is o e
    object_is {left} {i} {text} {u} (posology o p h) = in_object left i text u o h (detail_is p)

    objects_are : {left end i text u : ℕ} → ObjectsAt ws buffer left end i text u → ObjectsAre ws buffer left end i text u
    objects_are {left} {end} {i} {text} {u} (last o e) = one_object_lem left end i text u e (object_is o)
    objects_are {left} {end} {i} {text} {u} (more {v = v} o p) = more_objects left end i text v u (object_is o) (objects_are p)
