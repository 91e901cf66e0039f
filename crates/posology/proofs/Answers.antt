-- The answer by what the head came to, and by what is settled before it.
use Prim.Native.Nat.{ℕ, ◌≤◌}
use mathlib.Core.Path.{◌≡◌, refl, sym, ap, subst, ◌∙◌}
use mathlib.Core.List.{List}
use mathlib.Core.Bool.{true}
use native.Mathlib.Omega.{arith}
use lib.ListN.{length}
use Rattle.json_move.specs.Read.{tree_of}
use Rattle.json_laws.proofs.Objects.{one_is_first}
use Rattle.std.specs.Prelude.{Result, Ok, Err}
use Rattle.document.specs.Refusals.{number_of}
use Rattle.document.specs.declared.refusal.Refusal.{Refusal}
use Rattle.document.specs.Answer.{Read, taken, refused, visited, terms_of, read_walked}
use Rattle.document.specs.Posology.{Posology}
use Rattle.document.specs.Schema.{a_posology}
use Rattle.document.specs.Valid.{room_of, valid, strings}
use Rattle.document.specs.Visit.{Outcome, done, members, entries_of, start, visit}
use Rattle.document.specs.Told.{none_used}
use Rattle.document.specs.declared.terms.Terms.{Terms}
use Rattle.document.specs.declared.terms.Used.{Used}
use Rattle.document.proofs.Taken.{tells_start, tells_fits}
use Rattle.document_meaning.proofs.Accepts.{taken_means}
use Rattle.read_text.specs.Texts.{one_text}
use Rattle.read_text.proofs.Onward.{read_on, read_on_lem, one_walked_lem}
use Rattle.json_grammar.proofs.Places.{place_of}
use Rattle.document.specs.Words.{words_at_most}
use Rattle.read_dosages.specs.Kept.{Ready}
use Rattle.read_head.specs.Heads.{HeadDone, HeadReads, ReadsHead}
use Rattle.read_records.specs.declared.read.HeadRead.{HeadRead}
use Rattle.read_table.specs.Built.{strings_laid}
use Rattle.read_table.proofs.Made.{table_made}
use Rattle.read_table.proofs.Lays.{strings_laid_lem}
use Rattle.posology.specs.Reader.{Walked, words_table, WordsOf, ReadsWords}
use Rattle.posology.proofs.Standing.{Standing, visit_is}

pub refused_made : (why : Refusal) (ws before : List ℕ) → WordsOf (refused (number_of why.0) why.1) before (Err why) ws before
unfolding words_table
refused_made why ws before = record { answer = refl; table = refl; left = refl }

-- Words are ready where nothing is taken.
pub none_ready : (k : Terms) (u : Used) (ws : List ℕ) → u ≡ none_used → length ws ≡ words_at_most → Ready k ws u
none_ready k u ws z size = subst (λ (u : Used). Ready k ws u) (sym z) (record { size = size; few = omega arith; fits = omega arith })

module _ (purpose : ℕ) (text before : List ℕ) (brace : ℕ) (s : Standing text brace) (ws words : List ℕ) where
  abbrev terms : Terms
  terms = terms_of purpose before

  abbrev all : Outcome Posology
  all = members (a_posology purpose) s.place (entries_of s.inner) (start terms)

  pub from_start : {r : Result HeadRead Refusal} (k : Terms) (u : Used) → k ≡ terms → u ≡ none_used → ReadsHead k text brace u ws r words → HeadReads terms text none_used ws all r words
  from_start {r} k u e z h =
      subst (λ (k : Terms). ReadsHead k text brace none_used ws r words) e (subst (λ (u : Used). ReadsHead k text brace u ws r words) z h)
      (start terms) (tells_start terms text) s.place s.inner s.stands

  module _ (why : Refusal) (reads : HeadReads terms text none_used ws all (Err why) words) where
    walked_refused : read_walked terms text ≡ refused (number_of why.0) why.1
    walked_refused =
        let r = reads.answers in
        ap (λ (o : Outcome Posology). visited text o) (visit_is terms text brace s ∙ r.outcome)
        ∙ ap (λ (n : ℕ). refused (number_of why.0) n) (place_of text why.1 r.inside)

    pub refused_reading : WordsOf (read_walked terms text) before (Err why) words before
    refused_reading = subst (λ (x : Read). WordsOf x before (Err why) words before) (sym walked_refused) (refused_made why words before)

  module _ (h : HeadRead) (reads : HeadReads terms text none_used ws all (Ok h) words) where
    abbrev d : HeadDone terms text none_used ws all h words
    d = reads.answers

    visited_is : visit terms (tree_of text) ≡ done d.value d.state
    visited_is = visit_is terms text brace s ∙ d.outcome

    walked_taken : read_walked terms text ≡ taken d.value
    walked_taken = ap (λ (o : Outcome Posology). visited text o) visited_is

    walked_valid : valid purpose d.value ≡ true
    walked_valid = (taken_means (tree_of text) s.utf8 terms d.value d.state visited_is).1

    fits : length (strings d.value) ≤ room_of (length before)
    fits = omega (arith, tells_fits d.tells, d.holds.taken)

    pub taken_reading : {after : List ℕ} → after ≡ strings_laid text h words before → WordsOf (read_walked terms text) before (Ok h) words after
    unfolding words_table
    taken_reading {after} l =
        subst (λ (x : Read). WordsOf x before (Ok h) words after) (sym walked_taken)
        (record {
          answer = refl;
          table = table_made text purpose d.value h words d.holds walked_valid;
          left = l ∙ strings_laid_lem text d.value h words d.holds before (omega (arith, fits));
        })

-- The promise of reading, by what is settled of the text.
module _ (purpose : ℕ) (text before : List ℕ) (h : Result HeadRead Refusal) (ws : List ℕ) where
  abbrev lent : Terms
  lent = terms_of purpose before

  pub reads_on : {after : List ℕ} (s : Result (Unit {0}) Refusal) → s ≡ one_text purpose text → WordsOf (read_on lent text s) before h ws after
      → ReadsWords purpose text before h ws after
  reads_on {after} s e w = subst (λ (x : Read). WordsOf x before h ws after) (ap (read_on lent text) e ∙ sym (read_on_lem lent text)) w

pub text_walked : (purpose : ℕ) (text : List ℕ) → Ok tt ≡ one_text purpose text → Walked text
text_walked purpose text e = let w = one_walked_lem purpose text e in record { behind = w.0; takes = (one_is_first text w.0 w.1).0 }
