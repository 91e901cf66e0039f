-- What a text that was read as far as its head and the words of its records comes to, with all the room for its strings.
use Prim.Native.Nat.{ℕ, ◌*◌}
use mathlib.Core.Path.{◌≡◌, refl, ap, sym, subst, ◌∙◌}
use mathlib.Core.List.{List, ◌++◌}
use lib.ListN.{length, drop}
use Rattle.json_grammar.proofs.Truth.{never}
use Rattle.document.specs.Valid.{strings}
use Rattle.document.specs.Table.{table_of}
use Rattle.document.specs.Words.{width, words_at_most, all_words, rows}
use Rattle.std.specs.Prelude.{Result, Ok, Err}
use Rattle.document.specs.Values.{accepted, ends, length_values, refusal_values}
use Rattle.document.specs.Answer as A
use Rattle.document.specs.Answer.{Read, taken, refused, read, read_values, table_after, in_room}
use Rattle.document.specs.Write.{Write, write_values, buffer_after, in_greatest_room}
use Rattle.document.specs.Length.{greatest_length}
use Rattle.document.specs.declared.table.Head.{Head}
use Rattle.document.specs.declared.refusal.Refusal.{Refusal}
use Rattle.document.proofs.WordRows.{records_length}
use Rattle.document_meaning.proofs.Spelled.{accepted_spells}
use Rattle.table_kinds.specs.Kinds.{records_in}
use Rattle.table_kinds.proofs.Fill.{in_length}
use Rattle.read_records.specs.declared.read.HeadRead.{HeadRead}
use Rattle.read_table.specs.Built.{head_cells, built}
use Rattle.posology.specs.Reader.{words_table, WordsOf, ReadsWords}
use Rattle.rewriter.specs.Rewriting.{plain_of_read, rewritten, Rewrites}
use Rattle.rewriter.proofs.PlainPut.{Printed, plain_put}

pub tidied_length : {tidied : List ℕ} (n : ℕ) (ws : List ℕ) → tidied ≡ rows (all_words (records_in n ws)) → words_at_most ≡ length tidied
tidied_length n ws e = sym (ap length e ∙ records_length (records_in n ws) ∙ ap (λ (k : ℕ). k * width) (in_length n ws))

rewrites : {purpose : ℕ} {text before after : List ℕ} {r : Result ℕ Refusal} {x : Read} → read (in_greatest_room purpose) text ≡ x
    → length_values r ≡ write_values (plain_of_read x) → after ≡ buffer_after (plain_of_read x) before → Rewrites purpose text before r after
unfolding rewritten
rewrites {before = before} e a l =
    let f = ap plain_of_read (sym e) in
    record { answer = a ∙ ap write_values f; left = l ∙ ap (λ (w : Write). buffer_after w before) f }

module _ (purpose : ℕ) (text lent ws buffer : List ℕ) (room : length lent ≡ 2048) where
  words : (r : Result HeadRead Refusal) → ReadsWords purpose text lent r ws buffer → WordsOf (read (in_greatest_room purpose) text) lent r ws buffer
  words r reads = subst (λ (n : ℕ). WordsOf (read (in_room purpose n) text) lent r ws buffer) room reads

  pub refused_rewritten : (why : Refusal) → ReadsWords purpose text lent (Err why) ws buffer → (before : List ℕ) → Rewrites purpose text before (Err why) before
  refused_rewritten why reads before = go (read (in_greatest_room purpose) text) refl (words (Err why) reads).answer
    where
      go : (x : Read) → read (in_greatest_room purpose) text ≡ x → refusal_values why ≡ read_values x → Rewrites purpose text before (Err why) before
      go (taken p) i a = never (cc a)
      go (refused n place) i a = rewrites i a refl

  pub taken_rewritten : {tidied before after : List ℕ} {head : Head} {n : ℕ} (h : HeadRead) → ReadsWords purpose text lent (Ok h) ws buffer
      → tidied ≡ rows (all_words (records_in h.used.records ws)) → head ≡ head_cells h → length before ≡ greatest_length
      → Printed head tidied buffer before n after → Rewrites purpose text before (Ok n) after
  unfolding built words_table
  taken_rewritten {before = before} {after} {n = n} h reads tidy top size printed =
      go (read (in_greatest_room purpose) text) refl (words (Ok h) reads).answer
    where
      go : (x : Read) → read (in_greatest_room purpose) text ≡ x → accepted ≡ read_values x → Rewrites purpose text before (Ok n) after
      go (taken p) i a =
          let good = accepted_spells (in_greatest_room purpose) text p i in
          let w = words (Ok h) reads in
          let made : built h ws ≡ table_of p = w.table ∙ ap table_after i in
          let first : buffer ≡ strings p ++ drop (length (strings p)) lent = w.left ∙ ap (λ (x : Read). A.buffer_after x lent) i in
          let put =
          plain_put purpose p good.1.1 good.3 (built h ws) buffer _ made first (in_length h.used.records ws) size
          (rw (tidy, top) at printed) in
          rewrites i (ap ends put.0) put.1
      go (refused k place) i a = never (cc a)
