-- What the first posology of a run comes to, by its answer, its head and the words of its records.
use Rattle.std.specs.Prelude.{ℕ, ◌≡◌, List, Result, Ok, Err}
use Rattle.document.specs.Values.{Values, ends, blanks_only, refusal_values}
use Rattle.document.specs.Answer.{ReadNext, read_next, terms_of, read_next_values, next_table_after, next_buffer_after}
use Rattle.document.specs.Table.{empty_table}
use Rattle.document.specs.declared.refusal.Refusal.{Refusal}
use Rattle.document.specs.declared.table.Table.{Table}
use Rattle.read_table.specs.Built.{built}
use Rattle.posology.specs.declared.next.NextWords.{NextWords}
use Rattle.posology.specs.declared.next.NextWords.TheVariants as N

abbrev pub next_words_values : Result NextWords Refusal → Values
next_words_values (Ok (N.Taken e h)) = ends e
next_words_values (Ok (N.Blank n)) = blanks_only n
next_words_values (Err r) = refusal_values r

unfoldable pub next_words_table : Result NextWords Refusal → List ℕ → Table
unfolding built
next_words_table (Ok (N.Taken e h)) ws = built h ws
next_words_table (Ok (N.Blank n)) ws = empty_table
next_words_table (Err r) ws = empty_table

-- They make what x says, and so do the bytes that are left.
pub record NextWordsOf (x : ReadNext) (before : List ℕ) (w : Result NextWords Refusal) (ws after : List ℕ) : Type 0 where
  pub answer : next_words_values w ≡ read_next_values x
  pub table : next_words_table w ws ≡ next_table_after x
  pub left : after ≡ next_buffer_after x before

abbrev pub ReadsNextWords : ℕ → List ℕ → List ℕ → Result NextWords Refusal → List ℕ → List ℕ → Type 0
ReadsNextWords purpose run before w ws after = NextWordsOf (read_next (terms_of purpose before) run) before w ws after
