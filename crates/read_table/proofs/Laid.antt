-- The strings of a detail's rows, laid one by one, are its strings in visiting order; and how many words its rows are.
use Prim.Native.Nat.{ℕ, zero, suc, ◌+◌, ◌*◌, ◌≤◌}
use mathlib.Core.Path.{◌≡◌, refl, sym, ap, ◌∙◌}
use mathlib.Core.List.{List, [], ◌∷◌, ◌++◌, append_assoc, append-nil}
use mathlib.Core.Bool.{Bool, true, false, cond}
use native.Mathlib.Nat.{add-zero}
use native.Mathlib.Numerals.{add-one}
use native.Mathlib.Omega.{arith}
use lib.Dec.{eqb}
use lib.ListN.{length, drop, get_or, length-append}
use lib.Seq.{sets, length-sets, drop-drop, get_or-drop}
use borrow.Author.Tests.{le-leb, eq-eqb, ne_eqb}
use Rattle.json_grammar.proofs.Stores.{sets_append}
use Rattle.json_move.specs.Read.{decoded}
use Rattle.json_lay.specs.Strings.{fits, buffered}
use Rattle.document.specs.Posology as P
use Rattle.document.specs.Table.{day_set, dosage_row, times_rows, segments_rows, timed_rows, detail_rows}
use Rattle.document.specs.Valid.{timed_records, detail_records, object_records, objects_records, joined, detail_strings, object_strings, objects_strings}
use Rattle.document.specs.Words.{width, Words, words, record_words, row, rows, all_words}
use Rattle.read_table.specs.Built.{laid_row, laid_rows, laid_piece, count_of, strings_laid}
use Rattle.read_details.specs.Rows.{DetailRows, ObjectRows, ObjectsRows}
use Rattle.read_records.specs.declared.read.Piece.{Piece}
use Rattle.read_records.specs.declared.read.HeadRead.{HeadRead}
use Rattle.document.proofs.Untables.{joined_append, object_append}

-- One more, behind the others.
pub laid_snoc : (text : List ℕ) (i : ℕ) (ws buffer : List ℕ) → laid_rows text (suc i) ws buffer ≡ laid_row text (drop (i * width) ws) (laid_rows text i ws buffer)
unfolding laid_rows
laid_snoc text zero ws buffer = refl
laid_snoc text (suc i) ws buffer =
    let n : width + i * width ≡ suc i * width = omega arith in
    laid_snoc text i (drop width ws) (laid_row text ws buffer)
    ∙ ap (λ (v : List ℕ). laid_row text v (laid_rows text i (drop width ws) (laid_row text ws buffer))) (drop-drop (i * width) 6 ws ∙ ap (λ (k : ℕ). drop k ws) n)

-- Bytes that have room are laid.
pub buffered_fits : (buffer : List ℕ) (to : ℕ) (bytes : List ℕ) → to + length bytes ≤ length buffer → buffered buffer to bytes ≡ sets buffer to bytes
buffered_fits buffer to bytes h = rw (le-leb (to + length bytes) (length buffer) h)

-- A row that is no FreeText's.
silent : (text : List ℕ) (n m : ℕ) (w : Words) (k rest buffer : List ℕ) {after : List ℕ} → n ≡ suc m → eqb w.tag 2 ≡ false → laid_rows text m (k ++ rest) buffer ≡ after → laid_rows text n (row w k ++ rest) buffer ≡ after
unfolding laid_rows
silent text n m w k rest buffer e f g =
    ap (λ (i : ℕ). laid_rows text i (row w k ++ rest) buffer) e
    ∙ ap (λ (b : Bool). laid_rows text m (k ++ rest) (cond b (buffered buffer w.a (decoded (drop w.c text))) buffer)) f
    ∙ g

dosage_silent : (d : P.Dosage) → eqb (record_words (dosage_row d)).tag 2 ≡ false
dosage_silent (P.simple a) = refl
dosage_silent (P.from_to a b unit du) = refl
dosage_silent (P.range a b) = refl

module _ (text : List ℕ) (m : ℕ) (rest buffer : List ℕ) where
  over_dosage : (n k : ℕ) (w : Words) (d : P.Dosage) (ks : List ℕ) {after : List ℕ} → n ≡ suc (suc k) → eqb w.tag 2 ≡ false → laid_rows text k (ks ++ rest) buffer ≡ after
      → laid_rows text n (row w (row (record_words (dosage_row d)) ks) ++ rest) buffer ≡ after
  over_dosage n k w d ks e f g =
      silent text n (suc k) w (row (record_words (dosage_row d)) ks) rest buffer e f
      (silent text (suc k) k (record_words (dosage_row d)) ks rest buffer refl (dosage_silent d) g)

  times_silent : (ts : List P.AtTime) → laid_rows text (length ts + length ts + m) (rows (all_words (times_rows ts [])) ++ rest) buffer ≡ laid_rows text m rest buffer
  times_silent [] = let none : 0 + 0 + m ≡ m = omega arith in ap (λ (n : ℕ). laid_rows text n rest buffer) none
  times_silent (P.at_time d dt ∷ ts) =
      over_dosage (suc (length ts) + suc (length ts) + m) (length ts + length ts + m) (words 1 17 dt 0 0 0) d (rows (all_words (times_rows ts []))) (omega arith) refl (times_silent ts)

  segments_silent : (ss : List P.InSegment) → laid_rows text (length ss + length ss + m) (rows (all_words (segments_rows ss [])) ++ rest) buffer ≡ laid_rows text m rest buffer
  segments_silent [] = let none : 0 + 0 + m ≡ m = omega arith in ap (λ (n : ℕ). laid_rows text n rest buffer) none
  segments_silent (P.in_segment d s ∷ ss) =
      over_dosage (suc (length ss) + suc (length ss) + m) (length ss + length ss + m) (words 1 18 s 0 0 0) d (rows (all_words (segments_rows ss []))) (omega arith) refl (segments_silent ss)

  timed_silent : (td : P.Timed) → laid_rows text (timed_records td + m) (rows (all_words (timed_rows td [])) ++ rest) buffer ≡ laid_rows text m rest buffer
  unfolding timed_rows
  timed_silent (P.dosage_only d) = over_dosage (2 + m) m (words 1 6 0 0 0 0) d [] (omega arith) refl refl
  timed_silent (P.times ts) =
      silent text (1 + (length ts + length ts) + m) (length ts + length ts + m) (words (length ts + length ts) 7 0 0 0 0) (rows (all_words (times_rows ts []))) rest buffer (omega arith) refl (times_silent ts)
  timed_silent (P.day_segments ss) =
      silent text (1 + (length ss + length ss) + m) (length ss + length ss + m) (words (length ss + length ss) 8 0 0 0 0) (rows (all_words (segments_rows ss []))) rest buffer (omega arith) refl (segments_silent ss)
  timed_silent (P.week_days ds td) =
      silent text (1 + timed_records td + m) (timed_records td + m) (words (timed_records td) 9 (day_set ds) 0 0 0) (rows (all_words (timed_rows td []))) rest buffer (omega arith) refl (timed_silent td)
  timed_silent (P.days_of_month ds td) =
      silent text (1 + timed_records td + m) (timed_records td + m) (words (timed_records td) 10 (day_set ds) 0 0 0) (rows (all_words (timed_rows td []))) rest buffer (omega arith) refl (timed_silent td)
  timed_silent (P.interval d du unit) = over_dosage (2 + m) m (words 1 11 du unit 0 0) d [] (omega arith) refl refl

mutual
  unfolding detail_records DetailRows detail_strings detail_rows laid_rows

  pub detail_laid : (d : P.Detail) (text : List ℕ) (at : ℕ) (chunk : List ℕ) → DetailRows d text at chunk → (m : ℕ) (rest buffer : List ℕ) → at + length (detail_strings d []) ≤ length buffer
      → laid_rows text (detail_records d + m) (chunk ++ rest) buffer ≡ laid_rows text m rest (sets buffer at (detail_strings d []))
  detail_laid (P.daily a b c d) text at chunk e m rest buffer h = rw e (silent text (1 + m) m (words 0 1 a b c d) [] rest buffer (omega arith) refl refl)
  detail_laid (P.free_text cs) text at chunk e m rest buffer h =
      let n : 1 + m ≡ suc m = omega arith in
      let all : joined cs [] ≡ cs = joined_append cs [] ∙ append-nil cs in
      let room : at + length cs ≤ length buffer = rw all at h in
      rw e.1
      (ap (λ (i : ℕ). laid_rows text i (row (words 0 2 at (length cs) e.0 0) [] ++ rest) buffer) n
      ∙ ap (λ (v : List ℕ). laid_rows text m rest (buffered buffer at v)) (e.2 ∙ sym all)
      ∙ ap (λ (v : List ℕ). laid_rows text m rest v) (buffered_fits buffer at (joined cs []) h))
  detail_laid (P.single td) text at chunk e m rest buffer h =
      rw e (silent text (1 + timed_records td + m) (timed_records td + m) (words (timed_records td) 3 0 0 0 0) (rows (all_words (timed_rows td []))) rest buffer (omega arith) refl (timed_silent text m rest buffer td))
  detail_laid (P.cyclic unit du td per) text at chunk e m rest buffer h =
      rw e (silent text (1 + timed_records td + m) (timed_records td + m) (words (timed_records td) 4 unit du per 0) (rows (all_words (timed_rows td []))) rest buffer (omega arith) refl (timed_silent text m rest buffer td))
  detail_laid (P.sequence os) text at chunk e m rest buffer h =
      rw e.1
      (silent text (1 + objects_records os + m) (objects_records os + m) (words (objects_records os) 5 0 0 0 0) e.0 rest buffer (omega arith) refl
      (objects_laid os text at e.0 e.2 m rest buffer h))

  object_laid : (o : P.SequenceObject) (text : List ℕ) (at : ℕ) (chunk : List ℕ) → ObjectRows o text at chunk → (m : ℕ) (rest buffer : List ℕ) → at + length (object_strings o []) ≤ length buffer
      → laid_rows text (object_records o + m) (chunk ++ rest) buffer ≡ laid_rows text m rest (sets buffer at (object_strings o []))
  object_laid (P.posology_sequence du unit po) text at chunk e m rest buffer h =
      rw e.1
      (silent text (1 + detail_records po + m) (detail_records po + m) (words (detail_records po) 15 du unit 0 0) e.0 rest buffer (omega arith) refl
      (detail_laid po text at e.0 e.2 m rest buffer h))
  object_laid (P.pause du unit) text at chunk e m rest buffer h = rw e (silent text (1 + m) m (words 0 16 du unit 0 0) [] rest buffer (omega arith) refl refl)

  objects_laid : (os : P.SequenceObjects) (text : List ℕ) (at : ℕ) (chunk : List ℕ) → ObjectsRows os text at chunk → (m : ℕ) (rest buffer : List ℕ) → at + length (objects_strings os []) ≤ length buffer
      → laid_rows text (objects_records os + m) (chunk ++ rest) buffer ≡ laid_rows text m rest (sets buffer at (objects_strings os []))
  objects_laid P.no_object text at chunk e m rest buffer h = let none : 0 + m ≡ m = omega arith in rw (e, none)
  objects_laid (P.object_then o os) text at chunk e m rest buffer h =
      let sum : object_records o + objects_records os + m ≡ object_records o + (objects_records os + m) = omega arith in
      let all : object_strings o (objects_strings os []) ≡ object_strings o [] ++ objects_strings os [] = object_append o (objects_strings os []) in
      let size : length (object_strings o (objects_strings os [])) ≡ length (object_strings o []) + length (objects_strings os []) = ap length all ∙ length-append (object_strings o []) (objects_strings os []) in
      let more : at + length (object_strings o []) + length (objects_strings os []) ≤ length (sets buffer at (object_strings o [])) = rw length-sets (omega arith) in
      rw (e.2, append_assoc e.0 e.1 rest, sum)
      (object_laid o text at e.0 e.3 (objects_records os + m) (e.1 ++ rest) buffer (omega arith)
      ∙ objects_laid os text (at + length (object_strings o [])) e.1 e.4 m rest (sets buffer at (object_strings o [])) more
      ∙ ap (λ (v : List ℕ). laid_rows text m rest v) (sym (sets_append (object_strings o []) (objects_strings os []) buffer at) ∙ ap (λ (v : List ℕ). sets buffer at v) (sym all)))

buffered_length : (buffer : List ℕ) (to : ℕ) (bytes : List ℕ) (b : Bool) → length (cond b (sets buffer to bytes) buffer) ≡ length buffer
buffered_length buffer to bytes true = length-sets buffer to bytes
buffered_length buffer to bytes false = refl

row_length : (text ws buffer : List ℕ) (b : Bool) → length (cond b (buffered buffer (get_or ws 2 0) (decoded (drop (get_or ws 4 0) text))) buffer) ≡ length buffer
row_length text ws buffer true = buffered_length buffer (get_or ws 2 0) (decoded (drop (get_or ws 4 0) text)) (fits buffer (get_or ws 2 0) (decoded (drop (get_or ws 4 0) text)))
row_length text ws buffer false = refl

pub laid_length : (text : List ℕ) (n : ℕ) (ws buffer : List ℕ) → length (laid_rows text n ws buffer) ≡ length buffer
unfolding laid_rows
laid_length text zero ws buffer = refl
laid_length text (suc n) ws buffer = laid_length text n (drop width ws) (laid_row text ws buffer) ∙ row_length text ws buffer (eqb (get_or ws 0 0) 2)

-- The code's turn at row i: its string laid, or nothing done.
module _ (text ws before : List ℕ) (i : ℕ) (buffer after : List ℕ) (so_far : buffer ≡ laid_rows text i ws before) where
  turn : laid_rows text (i + 1) ws before ≡ laid_row text (drop (i * width) ws) buffer
  turn = ap (λ (n : ℕ). laid_rows text n ws before) (add-one i) ∙ laid_snoc text i ws before ∙ ap (λ (v : List ℕ). laid_row text (drop (i * width) ws) v) (sym so_far)

  tag : get_or (drop (i * width) ws) 0 0 ≡ get_or ws (i * width) 0
  tag = get_or-drop (i * width) ws 0 0 ∙ ap (λ (k : ℕ). get_or ws k 0) (add-zero (i * width))

  pub turn_lays : get_or ws (i * width) 0 ≡ 2 → after ≡ buffered buffer (get_or ws (i * width + 2) 0) (decoded (drop (get_or ws (i * width + 4) 0) text)) → after ≡ laid_rows text (i + 1) ws before
  turn_lays e f =
      f
      ∙ sym (ap (λ (b : Bool). cond b (buffered buffer (get_or (drop (i * width) ws) 2 0) (decoded (drop (get_or (drop (i * width) ws) 4 0) text))) buffer) (eq-eqb (get_or (drop (i * width) ws) 0 0) 2 (tag ∙ e))
      ∙ ap (λ (k : ℕ). buffered buffer k (decoded (drop (get_or (drop (i * width) ws) 4 0) text))) (get_or-drop (i * width) ws 2 0)
      ∙ ap (λ (k : ℕ). buffered buffer (get_or ws (i * width + 2) 0) (decoded (drop k text))) (get_or-drop (i * width) ws 4 0))
      ∙ sym turn

  pub turn_passes : (get_or ws (i * width) 0 ≡ 2 → ⊥) → after ≡ buffer → after ≡ laid_rows text (i + 1) ws before
  turn_passes e f =
      f
      ∙ sym (ap (λ (b : Bool). cond b (buffered buffer (get_or (drop (i * width) ws) 2 0) (decoded (drop (get_or (drop (i * width) ws) 4 0) text))) buffer) (ne_eqb (get_or (drop (i * width) ws) 0 0) 2 (λ g. e (sym tag ∙ g))))
      ∙ sym turn

-- A piece of the head laid.
pub piece_lays : (text : List ℕ) (p : Piece) (buffer after : List ℕ) → (p.len ≡ 0 → ⊥) → after ≡ buffered buffer p.start (decoded (drop p.quote text)) → after ≡ laid_piece text p buffer
piece_lays text p buffer after h e = e ∙ sym (ap (λ (b : Bool). cond b buffer (buffered buffer p.start (decoded (drop p.quote text)))) (ne_eqb p.len 0 h))

pub piece_passes : (text : List ℕ) (p : Piece) (buffer : List ℕ) → p.len ≡ 0 → buffer ≡ laid_piece text p buffer
piece_passes text p buffer h = sym (ap (λ (b : Bool). cond b buffer (buffered buffer p.start (decoded (drop p.quote text)))) (eq-eqb p.len 0 h))

-- The strings as the code lays them, one call after another.
pub in_turn : (text : List ℕ) (h : HeadRead) (ws buffer : List ℕ) {n : ℕ} {a b c d e : List ℕ} → n ≡ count_of h → a ≡ laid_rows text n ws buffer → b ≡ laid_piece text h.unit a → c ≡ laid_piece text h.instructions b → d ≡ laid_piece text h.roa c → e ≡ laid_piece text h.moa d
    → e ≡ strings_laid text h ws buffer
unfolding strings_laid
in_turn text h ws buffer en ea eb ec ed ee =
    ee
    ∙ ap (laid_piece text h.moa)
    (ed ∙ ap (laid_piece text h.roa) (ec ∙ ap (laid_piece text h.instructions) (eb ∙ ap (laid_piece text h.unit) (ea ∙ ap (λ (k : ℕ). laid_rows text k ws buffer) en))))
