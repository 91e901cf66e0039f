-- The answer to a run, from the answer to its first text.
use Prim.Native.Nat.{ℕ}
use mathlib.Core.Path.{◌≡◌, refl, sym, ap, subst, ◌∙◌}
use mathlib.Core.List.{List}
use Rattle.std.specs.Prelude.{Result, Ok, Err}
use Rattle.json_grammar.proofs.Truth.{never}
use Rattle.document.specs.Refusals.{number_of}
use Rattle.document.specs.Answer.{Read, taken, refused, ReadNext, blank_to, refused_at, up_to, terms_of}
use Rattle.document.specs.declared.refusal.Refusal.{Refusal}
use Rattle.document.specs.declared.table.Next.{Next}
use Rattle.document.specs.declared.table.Next.TheVariants as F
use Rattle.read_records.specs.declared.read.HeadRead.{HeadRead}
use Rattle.read_text.specs.Texts.{first_text}
use Rattle.read_text.proofs.Onward.{next_on, next_on_lem, first_walked_lem}
use Rattle.posology.specs.Reader.{Walked, words_table, WordsOf}
use Rattle.posology.specs.Next.{next_words_table, NextWordsOf, ReadsNextWords}
use Rattle.posology.specs.declared.next.NextWords.{NextWords}
use Rattle.posology.specs.declared.next.NextWords.TheVariants as N

pub reads_next : (purpose : ℕ) (run before : List ℕ) (f : Result Next Refusal) {w : Result NextWords Refusal} {ws after : List ℕ}
    → f ≡ first_text purpose run → NextWordsOf (next_on (terms_of purpose before) run f) before w ws after → ReadsNextWords purpose run before w ws after
reads_next purpose run before f {w} {ws} {after} e g =
    let terms = terms_of purpose before in
    subst (λ (x : ReadNext). NextWordsOf x before w ws after) (ap (next_on terms run) e ∙ sym (next_on_lem terms run)) g

pub run_walked : (purpose : ℕ) (run : List ℕ) (e : ℕ) → Ok (F.Taken e) ≡ first_text purpose run → Walked run
run_walked purpose run e h = let w = first_walked_lem purpose run e h in record { behind = w.0; takes = w.1 }

pub blank_made : (n : ℕ) (ws before : List ℕ) → NextWordsOf (blank_to n) before (Ok (N.Blank n)) ws before
unfolding next_words_table
blank_made n ws before = record { answer = refl; table = refl; left = refl }

pub next_refused_made : (why : Refusal) (ws before : List ℕ) → NextWordsOf (refused_at (number_of why.0) why.1) before (Err why) ws before
unfolding next_words_table
next_refused_made why ws before = record { answer = refl; table = refl; left = refl }

-- The answer to the text up to e, from the answer to the text.
module _ (e : ℕ) (ws before : List ℕ) where
  pub next_taken : (h : HeadRead) (x : Read) {after : List ℕ} → WordsOf x before (Ok h) ws after
      → NextWordsOf (up_to e x) before (Ok (N.Taken e h)) ws after
  unfolding words_table next_words_table
  next_taken h (taken p) r = record { answer = refl; table = r.table; left = r.left }
  next_taken h (refused n place) r = never (cc r.answer)

  pub next_refused : (why : Refusal) (x : Read) {after : List ℕ} → WordsOf x before (Err why) ws after → NextWordsOf (up_to e x) before (Err why) ws after
  unfolding words_table next_words_table
  next_refused why (taken p) r = never (cc r.answer)
  next_refused why (refused m q) r = record { answer = r.answer; table = r.table; left = r.left }
