-- What is settled of a text and of a run, by each of the tests in their order.
use Rattle.std.specs.Prelude.{Result, Ok, Err}
use Rattle.document.specs.Refusals.{refusal}
use Rattle.document.specs.declared.refusal.Reason.TheVariants.{TooLong, NotOneObject, TooDeep, WrongUse}
use Rattle.document.specs.declared.refusal.Refusal.{Refusal}
use Rattle.document.specs.declared.table.Next.{Next}
use Rattle.document.specs.declared.table.Next.TheVariants as F
use Prim.Native.Nat.{ℕ, ◌≤◌, ◌<◌}
use mathlib.Core.Path.{◌≡◌, sym, ap, subst, ◌∙◌}
use mathlib.Core.List.{List}
use mathlib.Core.Bool.{Bool, true, false, not}
use lib.ListN.{length, take, drop_of_length-le}
use lib.Seq.{drop-cons}
use borrow.Author.Tests.{le-leb, lt-leb, not-true, not-false}
use Rattle.json_grammar.specs.Byte.{blanked}
use Rattle.json_grammar.specs.Tree.{Moves}
use Rattle.json_grammar.specs.Walk.{first_object, one_object}
use Rattle.json_grammar.proofs.Places.{place_of}
use Rattle.json_walk.specs.Turn.{Tells}
use Rattle.json_walk.specs.declared.Fault.{Fault}
use Rattle.json_walk.specs.declared.Fault.TheVariants as E
use Rattle.document.specs.Answer.{text_at_most}
use Rattle.document.specs.Valid.{is_use}
use Rattle.read_text.specs.Texts.{one_walked, one_text, not_ended, first_walked, first_text}
use Rattle.read_text.proofs.Prefixes.{text_ends, text_bad, text_deep}

module _ (purpose : ℕ) (text : List ℕ) {used : Bool} (is : used ≡ is_use purpose) where
  pub one_unused : not used ≡ true → Err (refusal WrongUse 0) ≡ one_text purpose text
  unfolding one_text
  one_unused u = rw (← is, not-true used u)

  module _ (u : not used ≡ false) where
    pub one_too_long : text_at_most < length text → Err (refusal TooLong text_at_most) ≡ one_text purpose text
    unfolding one_text
    one_too_long h = rw (← is, not-false used u, lt-leb (length text) text_at_most h)

    by_walk : length text ≤ text_at_most → one_walked text (one_object text) ≡ one_text purpose text
    unfolding one_text
    by_walk h = rw (← is, not-false used u, le-leb (length text) text_at_most h)

    -- what the walk's answer tells
    module _ (short : length text ≤ text_at_most) {w : Result ℕ Fault} (tells : Tells text (one_object text) w) where
      told : {x : Result ℕ Fault} → w ≡ x → Tells text (one_object text) x
      told g = subst (λ (x : Result ℕ Fault). Tells text (one_object text) x) g tells

      pub one_ends : {e : ℕ} → w ≡ Ok e → Ok tt ≡ one_text purpose text
      one_ends g = ap (one_walked text) (sym (told g).0) ∙ by_walk short

      pub one_bad : {p : ℕ} → w ≡ Err (E.Broken p) → Err (refusal NotOneObject p) ≡ one_text purpose text
      one_bad {p} g = let t = told g in ap (λ n. Err (refusal NotOneObject n)) (sym (place_of text p t.1)) ∙ ap (one_walked text) (sym t.0) ∙ by_walk short

      pub one_deep : {p : ℕ} → w ≡ Err (E.Deep p) → Err (refusal TooDeep p) ≡ one_text purpose text
      one_deep {p} g = let t = told g in ap (λ n. Err (refusal TooDeep n)) (sym (place_of text p t.1)) ∙ ap (one_walked text) (sym t.0) ∙ by_walk short

module _ (purpose : ℕ) (run : List ℕ) {used : Bool} (is : used ≡ is_use purpose) where
  pub first_unused : not used ≡ true → Err (refusal WrongUse 0) ≡ first_text purpose run
  unfolding first_text
  first_unused u = rw (← is, not-true used u)

  -- the first byte that is no blank is at i
  module _ {i : ℕ} (u : not used ≡ false) (v : Moves blanked run 0 i) where
    pub first_blank : length run ≤ i → Ok (F.Blank (length run)) ≡ first_text purpose run
    unfolding first_text
    first_blank h = rw (← is, not-false used u, sym v.lands ∙ drop_of_length-le run h)

    by_first_walk : i < length run → first_walked run (first_object run) ≡ first_text purpose run
    unfolding first_text
    by_first_walk h = rw (← is, not-false used u, sym v.lands ∙ drop-cons run i 0 h)

    -- what the walk of the first 32,768 bytes tells
    module _ (begins : i < length run) {begun : List ℕ} (b : begun ≡ take text_at_most run) {w : Result ℕ Fault} (tells : Tells begun (first_object begun) w) where
      of_run : {x : Result ℕ Fault} → w ≡ x → Tells (take text_at_most run) (first_object (take text_at_most run)) x
      of_run g = subst (λ (x : Result ℕ Fault). Tells (take text_at_most run) (first_object (take text_at_most run)) x) g (subst (λ (s : List ℕ). Tells s (first_object s) w) b tells)

      pub first_ends : {e : ℕ} → w ≡ Ok e → Ok (F.Taken e) ≡ first_text purpose run
      first_ends {e} g = sym (text_ends run e (of_run g).1 (of_run g).0) ∙ by_first_walk begins

      pub first_bad : {p : ℕ} {r : Result Next Refusal} → w ≡ Err (E.Broken p) → r ≡ not_ended NotOneObject run p → r ≡ first_text purpose run
      first_bad {p} g e = e ∙ sym (text_bad run p (of_run g).1 (of_run g).0) ∙ by_first_walk begins

      pub first_deep : {p : ℕ} → w ≡ Err (E.Deep p) → Err (refusal TooDeep p) ≡ first_text purpose run
      first_deep {p} g = sym (text_deep run p (of_run g).1 (of_run g).0) ∙ by_first_walk begins
