-- Plain ASCII characters with which two strings begin, and the first byte in which they may differ.
use Prim.Native.Nat.{ℕ, ◌+◌, ◌<◌, ◌≤◌}
use mathlib.Core.Path.{◌≡◌, sym, ◌∙◌}
use mathlib.Core.List.{List, [], ◌∷◌}
use mathlib.Core.Bool.{true}
use lib.ListN.{length, get_or}
use native.Mathlib.Omega.{arith}
use Rattle.std.proofs.Common.{add-zero}
use Rattle.std.proofs.lemmas.List.{get_or_default}
use borrow.Author.Tests.{eq-eqb}
use Rattle.json_grammar.specs.String.{is_ascii, lead, after}
use Rattle.json_grammar.specs.declared.string.Lead.TheVariants.{Ascii, Quote}
use Rattle.json_grammar.specs.declared.string.InString.TheVariants.{Plain}
use Rattle.json_scan.proofs.Strings.{ascii_lead}
use Rattle.json_same.specs.Naming.{Paired}
use Rattle.json_decode.specs.Characters.{plain_from}
use Rattle.json_decode.proofs.Ahead.{rest_closes, rest_ends}
use Rattle.json_decode.proofs.Ascii.{ascii_from}

pub paired_none : (text : List ℕ) (p q : ℕ) → Paired text p q 0
paired_none text p q = record { inside = omega arith; beside = omega arith; answer = rw (add-zero p, add-zero q) }

pub paired_one : {text : List ℕ} {p q n : ℕ} → Paired text p q n → p + n < length text → q + n < length text
    → get_or text (p + n) 0 ≡ get_or text (q + n) 0 → is_ascii (get_or text (p + n) 0) ≡ true → Paired text p q (n + 1)
paired_one {text} {p} {q} {n} a h l d asc =
    let e : p + (n + 1) ≡ p + n + 1 = omega arith in
    let f : q + (n + 1) ≡ q + n + 1 = omega arith in
    record {
      inside = omega arith;
      beside = omega arith;
      answer = rw (e, f) (rw (ascii_from text (p + n) h (ascii_lead _ asc), ascii_from text (q + n) l (ascii_lead _ (rw d at asc)), eq-eqb (get_or text (p + n) 0) (get_or text (q + n) 0) d) at a.answer);
    }

-- ---- the first byte
module _ (text : List ℕ) (at : ℕ) where
  pub ends_over : length text ≤ at → plain_from text at ≡ []
  ends_over h = rest_ends text Plain 0 at h

  module _ (h : at < length text) (b : ℕ) (e : b ≡ get_or text at b) where
    here : get_or text at 0 ≡ b
    here = sym (e ∙ get_or_default text at b 0 h)

    pub ends_here : lead b ≡ Quote → plain_from text at ≡ []
    unfolding after
    ends_here l = rest_closes text Plain 0 at h (rw (here, l))

    pub begins_here : lead b ≡ Ascii → plain_from text at ≡ b ∷ plain_from text (at + 1)
    begins_here l = rw here at (ascii_from text at h (rw here l))
