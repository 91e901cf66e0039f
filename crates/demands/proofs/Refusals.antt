-- Document 01, "Answers by number": when refusals 17, 1, 2 and 3 are given, and where, of a text and of a run.
use mathlib.Core.Path.{◌≡◌, ◌∙◌}
use mathlib.Core.List.{List, []}
use mathlib.Core.Bool.{true, false}
use mathlib.Core.Logic.{◌↔◌}
use Prim.Native.Nat.{ℕ, ◌≤◌, ◌<◌}
use lib.ListN.{length, take}
use Rattle.json_grammar.specs.Grammar.{Blanks}
use Rattle.json_laws.specs.Begins.{Begins, FirstFault}
use Rattle.json_laws.specs.Open.{Shallow, TwentyFirst}
use Rattle.json_laws.proofs.Refusal2.{exactly_2, exactly_2_in_run}
use Rattle.json_laws.proofs.Refusal3.{exactly_3, exactly_3_in_run}
use Rattle.document.specs.Valid.{is_use}
use Rattle.document.specs.Answer.{text_at_most, refused, read, blank_to, refused_at, read_next}
use Rattle.document.specs.declared.terms.Terms.{Terms}
use Rattle.demands.specs.Refusals.{NoText, NoBeginning, NoneEnds, Met}
use Rattle.demands.proofs.RefusalCases.{refused_by, next_refused_by, blank_by, by_17, by_1, by_2, by_3, next_by_17, next_by_1, next_by_2, next_by_3, from_1_to_17, next_from_1_to_17}
use Rattle.demands.proofs.RefusalsGiven as G
use Rattle.demands.proofs.Cuts.{cut_so, is_cut, deep_not_blank}

-- "Order: 17; 1; then the whole text for 2 and 3, the lower place first, 2 before 3 at one byte. .. Then objects in visiting order."
module _ (terms : Terms) (text : List ℕ) (n : ℕ) where
  -- "use neither 1 nor 3", at 0
  pub refused_17 : (read terms text ≡ refused 17 n) ↔ ((is_use terms.purpose ≡ false) × (n ≡ 0))
  refused_17 = (λ e. by_17 (refused_by terms text e), λ h. rw h.1 (G.no_use terms text h.0))

  -- "text longer than 32,768 bytes", at 32,768
  pub refused_1 : (read terms text ≡ refused 1 n) ↔ ((is_use terms.purpose ≡ true) × (text_at_most < length text) × (n ≡ text_at_most))
  refused_1 = (λ e. by_1 (refused_by terms text e), λ h. rw h.2 (G.too_long terms text h.0 h.1))

  -- "not one JSON object in UTF-8", at "the first byte with which the bytes so far begin no such text, or the length"
  pub refused_2 : (read terms text ≡ refused 2 n) ↔ ((is_use terms.purpose ≡ true) × (length text ≤ text_at_most) × FirstFault text n × Shallow text n × NoText text)
  refused_2 = (
    λ e. let h = by_2 (refused_by terms text e) in let x = (exactly_2 text n).0 h.2 in (h.0, h.1, x.0, x.1, x.2),
    λ h. let w = (exactly_2 text n).1 (h.2, h.3, h.4) in G.no_object_lem terms text h.0 h.1 w.0 w.1 w.2,
  )

  -- "the 21st `{` or `[` open at once, both counted together", at "that byte"
  pub refused_3 : (read terms text ≡ refused 3 n) ↔ ((is_use terms.purpose ≡ true) × (length text ≤ text_at_most) × TwentyFirst text n)
  refused_3 = (
    λ e. let h = by_3 (refused_by terms text e) in (h.0, h.1, (exactly_3 text n).0 h.2),
    λ h. let w = (exactly_3 text n).1 h.2 in G.too_deep_lem terms text h.0 h.1 w.0 w.1 w.2,
  )

-- Every refusal of a text has one of the numbers from 1 to 17.
pub refusals_of_read : (terms : Terms) (text : List ℕ) (n place : ℕ) → read terms text ≡ refused n place → (1 ≤ n) × (n ≤ 17)
refusals_of_read terms text n place e = from_1_to_17 (refused_by terms text e)

module _ (terms : Terms) (run : List ℕ) (n : ℕ) where
  pub next_refused_17 : (read_next terms run ≡ refused_at 17 n) ↔ ((is_use terms.purpose ≡ false) × (n ≡ 0))
  next_refused_17 = (λ e. next_by_17 (next_refused_by terms run e), λ h. rw h.1 (G.no_use_next terms run h.0))

  -- "A run of nothing but blanks, of any length and also of none, gets the answer that only blanks remain, after 17."
  pub only_blanks : (read_next terms run ≡ blank_to n) ↔ ((is_use terms.purpose ≡ true) × Blanks run [] × (n ≡ length run))
  only_blanks = (λ e. blank_by terms run e, λ h. G.only_blanks terms run h.0 h.1 ∙ rw h.2)

  -- "Otherwise a run takes the shortest beginning, leading blanks included, that is such a text; what follows isn't looked at. Places count from
  -- the run's start. If none ends in the first 32,768 bytes, 2 or 3 is given if met there, else 1 when the run is longer, else 2 at the length."
  pub next_refused_2 : (read_next terms run ≡ refused_at 2 n) ↔ ((is_use terms.purpose ≡ true) × (Blanks run [] → ⊥) × FirstFault run n × Shallow run n × NoBeginning run × Met run n)
  next_refused_2 = (
    λ e. let h = next_by_2 (next_refused_by terms run e) in let x = (exactly_2_in_run run n).0 h.2 in (h.0, h.1, x.0, x.1, λ u v d t. x.2 t u v d, h.3),
    λ h. let w = (exactly_2_in_run run n).1 (h.2, h.3, λ t u v d. h.4 u v d t) in G.no_object_next terms run h.0 h.1 w.0 w.1 w.2 h.5,
  )

  pub next_refused_3 : (read_next terms run ≡ refused_at 3 n) ↔ ((is_use terms.purpose ≡ true) × TwentyFirst run n × Met run n)
  next_refused_3 = (
    λ e. let h = next_by_3 (next_refused_by terms run e) in (h.0, (exactly_3_in_run run n).0 h.1, h.2),
    λ h. let w = (exactly_3_in_run run n).1 h.1 in G.too_deep_next terms run h.0 (deep_not_blank run w.0 w.1) w.0 w.1 w.2 h.2,
  )

  pub next_refused_1 : (read_next terms run ≡ refused_at 1 n)
      ↔ ((is_use terms.purpose ≡ true) × (Blanks run [] → ⊥) × (n ≡ text_at_most) × (text_at_most < length run) × NoneEnds run × Begins (take text_at_most run) × Shallow run text_at_most)
  next_refused_1 = (
    λ e. let h = next_by_1 (next_refused_by terms run e) in let x = cut_so run h.3 in (h.0, h.1, h.2, x.0, x.1, x.2, x.3),
    λ h. rw h.2 (G.cut_next terms run h.0 h.1 (is_cut run h.3 h.4 h.5 h.6)),
  )

-- Every refusal of a run has one of the numbers from 1 to 17.
pub refusals_of_read_next : (terms : Terms) (run : List ℕ) (n place : ℕ) → read_next terms run ≡ refused_at n place → (1 ≤ n) × (n ≤ 17)
refusals_of_read_next terms run n place e = next_from_1_to_17 (next_refused_by terms run e)
