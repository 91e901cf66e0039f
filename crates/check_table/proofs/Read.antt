-- What is checked of a table is what makes it readable.
use mathlib.Core.Path.{◌≡◌, ap, sym, subst, ◌∙◌}
use mathlib.Core.List.{List, [], ◌++◌}
use mathlib.Core.Bool.{true}
use Prim.Native.Nat.{ℕ, ◌+◌, ◌*◌, ◌-◌, ◌≤◌}
use native.Mathlib.Omega.{arith}
use lib.ListN.{length, drop, replicate, length-append, length-replicate}
use Rattle.document.specs.Posology.{Posology}
use Rattle.document.specs.Valid.{detail_records, detail_strings, strings}
use Rattle.document.specs.Table.{no_record, length_of, detail_rows, head_of, table_of}
use Rattle.document.specs.Words.{width, words_at_most, all_words, rows}
use Rattle.document.specs.Untable.{date_of, meal_of}
use Rattle.document.specs.Write.{readable}
use Rattle.document.specs.declared.table.Head.{Head}
use Rattle.document.specs.declared.table.Table.{Table}
use Rattle.document.proofs.Untables.{detail_append}
use Rattle.document.proofs.ValidParts.{ValidParts, valid_parts, parts_valid, unit_text}
use Rattle.document.proofs.Untabled.{bytes_of, strings_append, detail_rows_lem, detail_length}
use Rattle.document.proofs.Strings.{strings_size}
use Rattle.document.proofs.Tables.{own_readable}
use Rattle.table_rows.specs.Standing.{Lies}
use Rattle.document.proofs.WordRows.{all_length, records_length}
use Rattle.table_rows.proofs.Standing.{lies_rows}
use Rattle.check_table.proofs.LiesDetail.{DetailIs, detail_is}
use Rattle.check_table.proofs.FoundDetail.{detail_found}
use Rattle.check_table.proofs.Laid.{unused_zero, zeros_lie}
use Rattle.check_table.proofs.Stands.{records_of_lem, readable_stands}
use Rattle.check_table.proofs.Pieces.{PieceIs, piece_is, piece_found, piece_behind, unit_for}
use Rattle.check_table.proofs.HeadValues.{cell_date, cell_meal, valid_meal, same_head, head_right}
use Rattle.check_table.specs.Checks.{Zeros}
use Rattle.check_table.specs.Readable.{PiecesAt, HeadRight, LaidAt, ReadableWords}

-- A value's table and strings are laid as the checks want them.
module _ (purpose : ℕ) (p : Posology) (n : ValidParts purpose p) (buffer behind : List ℕ) where
  pieces_found : (at : ℕ) → at ≡ length (detail_strings p.po []) → drop at buffer ≡ bytes_of p.unit ++ (bytes_of p.appl_instr ++ (bytes_of p.roa ++ (bytes_of p.moa ++ behind))) → PiecesAt buffer (head_of p) at (length (strings p))
  unfolding head_of
  pieces_found at a e₀ =
      let M = bytes_of p.moa ++ behind in
      let R = bytes_of p.roa ++ M in
      let I = bytes_of p.appl_instr ++ R in
      let D = length (detail_strings p.po []) in
      let e : drop D buffer ≡ bytes_of p.unit ++ I = ap (λ x. drop x buffer) (sym a) ∙ e₀ in
      let u₁ = D + length_of p.unit in
      let u₂ = u₁ + length_of p.appl_instr in
      let u₃ = u₂ + length_of p.roa in
      let e₁ : drop u₁ buffer ≡ I = piece_behind buffer p.unit D I e in
      let e₂ : drop u₂ buffer ≡ R = piece_behind buffer p.appl_instr u₁ R e₁ in
      let e₃ : drop u₃ buffer ≡ M = piece_behind buffer p.roa u₂ M e₂ in
      subst (λ x. PiecesAt buffer (head_of p) x (length (strings p))) (sym a)
      (subst (PiecesAt buffer (head_of p) D) (sym (strings_size p))
      (record {
        u₁ = u₁;
        u₂ = u₂;
        u₃ = u₃;
        unit = piece_found buffer p.unit D I (unit_text purpose p.unit n.unit) e;
        instructions = piece_found buffer p.appl_instr u₁ R n.instructions e₁;
        roa = piece_found buffer p.roa u₂ M n.roa e₂;
        moa = piece_found buffer p.moa u₃ behind n.moa e₃;
      }))

  laid_of : length (strings p) ≤ 2048 → detail_records p.po ≤ 64 → buffer ≡ strings p ++ behind → Lies (rows (all_words (table_of p).records)) 0 (all_words (detail_rows p.po 0 [])) → LaidAt (rows (all_words (table_of p).records)) buffer (head_of p) (detail_records p.po) (length (strings p))
  laid_of room few e l =
      let ws = rows (all_words (table_of p).records) in
      let rs = detail_rows p.po 0 [] in
      let rest = bytes_of p.unit ++ (bytes_of p.appl_instr ++ (bytes_of p.roa ++ (bytes_of p.moa ++ behind))) in
      let f = detail_found p.po 3 0 0 [] rest n.detail (omega arith) l (e ∙ strings_append p behind ∙ sym (detail_append p.po rest)) (omega arith) in
      let s = f.sum [] in
      let c = f.count in
      let k = detail_length p.po 0 [] in
      let same : length rs * width ≡ detail_records p.po * width = omega arith in
      let filled = simp (length-append, length-replicate) at (ap length (records_of_lem p few)) in
      record {
        all = omega (arith, records_length (table_of p).records);
        room = room;
        fits = few;
        counted = omega arith;
        taken = f.taken;
        detail = f.at;
        pieces = pieces_found f.taken (omega arith) f.behind;
        zeros = subst (Zeros ws) same (subst (λ x. Zeros (rows (all_words x)) (length rs * width)) (sym (records_of_lem p few)) (unused_zero rs (64 - length rs)));
      }

pub readable_laid : (purpose : ℕ) (t : Table) (buffer : List ℕ) → length t.records ≡ 64 → readable purpose t buffer ≡ true
    → HeadRight t.head purpose × LaidAt (rows (all_words t.records)) buffer t.head t.count t.text
unfolding table_of
readable_laid purpose t buffer n r =
    let s = readable_stands purpose t buffer n r in
    let p = s.is in
    let parts = valid_parts purpose p s.valid in
    let rs = detail_rows p.po 0 [] in
    let lies : Lies (rows (all_words (table_of p).records)) 0 (all_words rs) = subst (λ u. Lies (rows (all_words u.records)) 0 (all_words rs)) s.table s.lies in
    subst (λ u. HeadRight u.head purpose × LaidAt (rows (all_words u.records)) buffer u.head u.count u.text) (sym s.table)
    (head_right purpose p parts, laid_of purpose p parts buffer s.behind s.fits s.few s.strings_first lies)

pub words_laid : {purpose count text : ℕ} {h : Head} {ws buffer : List ℕ} → ReadableWords purpose h count text ws buffer
    → HeadRight h purpose × LaidAt ws buffer h count text
words_laid {purpose} {buffer = buffer} r =
    let b = r.by in
    rw (b.head, b.count, b.text, b.words) at (readable_laid purpose r.table buffer b.all r.readable)

-- What is laid so is a value's table, with its strings.
module _ (ws buffer : List ℕ) (h : Head) (taken u₁ u₂ u₃ text : ℕ) (d : DetailIs ws buffer 3 0 0 taken) (a : PieceIs buffer h.unit taken u₁) (b : PieceIs buffer h.instructions u₁ u₂) (c : PieceIs buffer h.roa u₂ u₃) (m : PieceIs buffer h.moa u₃ text) where
  abbrev value : Posology
  value = record { dt_from = date_of h.from; dt_to = date_of h.to; in_res = h.reserve; po = d.value; rel_meal = meal_of h.meal; unit = a.value; appl_instr = b.value; roa = c.value; moa = m.value }

  value_parts : (purpose : ℕ) → HeadRight h purpose → ValidParts purpose value
  value_parts purpose r = record {
    from = r.from;
    to = r.to;
    detail = d.valid;
    meal = valid_meal h.meal r.meal;
    unit = unit_for purpose a.value a.valid (λ f. omega (arith, r.unit f, a.len));
    instructions = b.valid;
    roa = c.valid;
    moa = m.valid;
    ordered = r.ordered;
  }

  value_head : head_of value ≡ h
  unfolding head_of
  value_head =
      let D = length (detail_strings d.value []) in
      let e₀ : D ≡ taken = omega (arith, d.taken []) in
      let e₁ : D + length_of a.value ≡ u₁ = omega (arith, a.sum) in
      let e₂ : D + length_of a.value + length_of b.value ≡ u₂ = omega (arith, b.sum) in
      let e₃ : D + length_of a.value + length_of b.value + length_of c.value ≡ u₃ = omega (arith, c.sum) in
      same_head h (cell_date h.from) (cell_date h.to) (cell_meal h.meal) (a.cell _ e₀) (b.cell _ e₁) (c.cell _ e₂) (m.cell _ e₃)

  value_text : length (strings value) ≡ text
  value_text = omega (arith, strings_size value, d.taken [], a.sum, b.sum, c.sum, m.sum)

  value_strings : buffer ≡ strings value ++ drop text buffer
  value_strings =
      d.strings ∙ detail_append d.value (drop taken buffer)
      ∙ ap (λ s. detail_strings d.value [] ++ s)
      (a.bytes ∙ ap (λ s. bytes_of a.value ++ s)
      (b.bytes ∙ ap (λ s. bytes_of b.value ++ s)
      (c.bytes ∙ ap (λ s. bytes_of c.value ++ s) m.bytes)))
      ∙ sym (strings_append value (drop text buffer))

  value_rows : detail_records d.value ≤ 64 → length ws ≡ words_at_most → Zeros ws (detail_records d.value * width) → ws ≡ rows (all_words (table_of value).records)
  value_rows few n z =
      let size = 64 - length (detail_rows d.value 0 []) in
      let k = replicate size no_record in
      let rs = detail_rows d.value 0 k in
      let count = detail_records d.value in
      let e : 64 ≡ count + size = omega (arith, detail_length d.value 0 []) in
      let f : length (all_words rs) ≡ 64 = all_length rs ∙ detail_length d.value 0 k ∙ ap (λ x. count + x) (length-replicate size no_record) ∙ sym e in
      lies_rows ws (all_words rs) 0 (omega arith) (d.lies k (zeros_lie ws count size (0 + count) n z (omega arith) (omega arith)))
      ∙ ap (λ x. rows (all_words x)) (detail_rows_lem d.value 0 k ∙ sym (records_of_lem value few))

  value_words : (purpose count : ℕ) → HeadRight h purpose → detail_records d.value ≡ count → count ≤ 64 → text ≤ 2048 → length ws ≡ words_at_most
      → Zeros ws (count * width) → ReadableWords purpose h count text ws buffer
  unfolding table_of
  value_words purpose count r f most room n z =
      let few : detail_records d.value ≤ 64 = omega arith in
      let same = value_rows few n (subst (λ x. Zeros ws (x * width)) (sym f) z) in
      let all : length (table_of value).records ≡ 64 = omega (arith, records_length (table_of value).records, ap length same) in
      let valid = parts_valid purpose value (value_parts purpose r) few in
      let own = own_readable purpose value (drop text buffer) valid (omega (arith, value_text)) in
      record {
        table = table_of value;
        by = record { head = value_head; count = f; text = value_text; words = sym same; all = all };
        readable = subst (λ x. readable purpose (table_of value) x ≡ true) (sym value_strings) own;
      }

pub laid_words : {purpose count text : ℕ} {h : Head} {ws buffer : List ℕ} → HeadRight h purpose → LaidAt ws buffer h count text
    → ReadableWords purpose h count text ws buffer
laid_words {purpose} {count} {text} {h} {ws} {buffer} r l =
    let q = l.pieces in
    let d = detail_is l.detail in
    value_words ws buffer h l.taken q.u₁ q.u₂ q.u₃ text d
    (piece_is q.unit) (piece_is q.instructions) (piece_is q.roa) (piece_is q.moa)
    purpose count r (omega (arith, l.counted, d.count)) l.fits l.room l.all l.zeros
