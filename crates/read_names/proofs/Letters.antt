-- The bytes of a name, taken one after the other, and the way over its letters to the member's value.
use Prim.Native.Nat.{ℕ, ◌+◌, ◌<◌}
use mathlib.Core.Path.{◌≡◌, refl, sym, ap, subst, ◌∙◌}
use mathlib.Core.List.{List, [], ◌∷◌, ◌++◌, append_assoc, append-nil}
use mathlib.Core.Bool.{false, not}
use lib.ListN.{length, get_or}
use borrow.Author.Tests.{not-false}
use Rattle.json_grammar.specs.Tree.{Moves}
use Rattle.json_grammar.specs.String.{is_ascii}
use Rattle.json_grammar.proofs.Moves.{Leads, lead_start, lead_one, lead_past, moved}
use Rattle.json_scan.proofs.Strings.{ascii_lead}
use Rattle.json_move.specs.Moving.{behind_string, behind_colon, value_of}
use Rattle.json_move.proofs.Skips.{string_closes, string_goes}
use Rattle.json_decode.specs.Characters.{plain_from}
use Rattle.json_decode.proofs.Ascii.{no_backslash, ascii_from}

-- Some bytes are taken, and the rest is ahead.
pub record Ahead (took : List ℕ → Type 0) (bytes rest : List ℕ) : Type 0 where
  pub done : List ℕ
  pub takes : took done
  pub whole : done ++ rest ≡ bytes

module _ (took : List ℕ → Type 0) {bytes rest : List ℕ} where
  pub ahead_none : took [] → rest ≡ bytes → Ahead took bytes rest
  ahead_none t e = record { done = []; takes = t; whole = e }

  pub ahead_end : Ahead took bytes rest → rest ≡ [] → took bytes
  ahead_end a e =
      let w : a.done ≡ bytes = sym (append-nil a.done) ∙ rw e at a.whole in
      subst took w a.takes

  pub ahead_full : Ahead took bytes rest → ((before more : List ℕ) → took before → took (before ++ more)) → took bytes
  ahead_full a f = subst took a.whole (f a.done rest a.takes)

  pub ahead_more : (next : List ℕ → Type 0) {s : List ℕ} (more : List ℕ) → Ahead took bytes rest → rest ≡ more ++ s → ((done : List ℕ) → took done → next (done ++ more)) → Ahead next bytes s
  ahead_more next {s} more a e f =
      record {
        done = a.done ++ more;
        takes = f a.done a.takes;
        whole = append_assoc a.done more s ∙ rw e at a.whole;
      }

-- ---- plain ASCII letters
pub plain_on : (text : List ℕ) (i : ℕ) → i < length text → not (is_ascii (get_or text i 0)) ≡ false → plain_from text i ≡ (get_or text i 0 ∷ []) ++ plain_from text (i + 1)
plain_on text i h e = ascii_from text i h (ascii_lead _ (not-false _ e))

-- ---- over them to the member's value: it stands behind the colon, behind the name that goes on at i
abbrev pub ToValue : List ℕ → ℕ → ℕ → Type 0
ToValue text quote i = Leads value_of (λ s. behind_colon (behind_string s)) text quote i

pub value_start : (text : List ℕ) (quote : ℕ) → quote < length text → ToValue text quote (quote + 1)
unfolding value_of
value_start text quote h = lead_one (lead_start value_of text quote) h (λ s. refl)

module _ {text : List ℕ} {quote i : ℕ} (l : ToValue text quote i) (h : i < length text) where
  pub value_on : (get_or text i 0 ≡ 34 → ⊥) → not (is_ascii (get_or text i 0)) ≡ false → ToValue text quote (i + 1)
  value_on q e = lead_one l h (λ s. ap behind_colon (string_goes _ q (no_backslash _ (ascii_lead _ (not-false _ e))) s))

  pub value_behind : get_or text i 0 ≡ 34 → (r : ℕ) → Moves behind_colon text (i + 1) r → Moves value_of text quote r
  value_behind e r m = moved (lead_past (λ s. s) behind_colon (lead_one l h (λ s. ap behind_colon (string_closes _ e s))) m)
