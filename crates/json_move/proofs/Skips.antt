-- What a byte does to a skip.
use Prim.Native.Nat.{ℕ, zero, suc, max, ◌+◌, ◌-◌, ◌≤◌, ◌<◌}
use mathlib.Core.Logic.{◌⊎◌, inl, inr}
use mathlib.Core.Path.{◌≡◌, refl, sym, ap, ◌∙◌}
use mathlib.Core.List.{List, [], ◌∷◌, tail}
use mathlib.Core.Bool.{Bool, true, false, ◌||◌, cond, false≢true}
use lib.ListN.{drop, length, get_or, drop_of_length-le}
use lib.Dec.{eqb, ltb}
use mir.Val.{bool_byte}
use borrow.Author.Tests.{eq-eqb, ne_eqb, eqb-true, lt-ltb, le-ltb}
use native.Mathlib.Decide.{dec_lt}
use native.Mathlib.Numerals.{add-one}
use Rattle.std.proofs.Common.{add-zero}
use Rattle.std.proofs.lemmas.List.{get_or_default}
use native.Mathlib.Omega.{arith}
use Rattle.json_grammar.specs.Rows.{choose}
use Rattle.json_grammar.specs.Byte.{is_numeric, blanked}
use Rattle.json_grammar.specs.Tree.{Place, Moves}
use Rattle.json_move.specs.declared.Kind.{Kind}
use Rattle.json_move.specs.Moving.{first_byte, kind_of, behind_string, behind_escape, opens, closes, behind_bracket, in_quotes, escaped, behind_number, behind_kind, behind_value, over_comma, at_end}
use Rattle.json_grammar.proofs.Moves.{Leads, byte_here, lead_start, lead_one, lead_end, moved, moves_as}

-- Over the byte here, where one is left.
pub moves_byte : (text : List ℕ) (at n : ℕ) → n ≡ bool_byte (ltb at (length text)) → Moves tail text at (at + n)
moves_byte text at n e = elim (dec_lt at (length text)) [
  | yes h ↦ rw (e, lt-ltb at (length text) h) (moved (lead_one (lead_start tail text at) h λ s. refl))
  | no h ↦ rw (e, le-ltb at (length text) (omega arith), add-zero at) (moved (lead_end (lead_start tail text at) (omega arith) refl))
]

-- Whether a list or an object ends by the byte here, or by the text's end.
module _ (text : List ℕ) (at : ℕ) where
  pub ends_by : (b : ℕ) → at < length text → b ≡ get_or text at b → closes b ≡ at_end (drop at text)
  unfolding at_end
  ends_by b h e = let g : get_or text at 0 ≡ b = sym (e ∙ get_or_default text at b 0 h) in rw (byte_here text at h, g)

  pub ends_over : length text ≤ at → true ≡ at_end (drop at text)
  unfolding at_end
  ends_over h = rw (drop_of_length-le text h)

-- Strings: the closing quote, a backslash with the byte behind it, and any other byte.
over_escaped : (s : Place) → behind_string (tail s) ≡ behind_escape s
unfolding behind_string
over_escaped [] = refl
over_escaped (b ∷ s) = refl

module _ (b : ℕ) where
  pub string_closes : b ≡ 34 → (s : Place) → s ≡ behind_string (b ∷ s)
  unfolding behind_string
  string_closes e s = rw (eq-eqb b 34 e)

  module _ (n : b ≡ 34 → ⊥) where
    pub string_escapes : b ≡ 92 → (s : Place) → behind_string (tail s) ≡ behind_string (b ∷ s)
    unfolding behind_string
    string_escapes e s = rw (ne_eqb b 34 n, eq-eqb b 92 e) (over_escaped s)

    pub string_goes : (b ≡ 92 → ⊥) → (s : Place) → behind_string s ≡ behind_string (b ∷ s)
    unfolding behind_string
    string_goes m s = rw (ne_eqb b 34 n, ne_eqb b 92 m)

pub string_over : [] ≡ behind_string []
unfolding behind_string
string_over = refl

-- A string inside a list is skipped as it is by itself.
mutual
  unfolding behind_string behind_bracket

  quotes : (s : Place) (n : ℕ) → in_quotes s n ≡ behind_bracket (behind_string s) n
  quotes [] n = refl
  quotes (b ∷ s) n = go (eqb b 34) (eqb b 92) (quotes s n) (escapes s n)
    where
      go : (t u : Bool) → in_quotes s n ≡ behind_bracket (behind_string s) n → escaped s n ≡ behind_bracket (behind_escape s) n
          → choose t (λ _. behind_bracket s n) (λ _. choose u (λ _. escaped s n) λ _. in_quotes s n)
          ≡ behind_bracket (choose t (λ _. s) λ _. choose u (λ _. behind_escape s) λ _. behind_string s) n
      go true u p q = refl
      go false true p q = q
      go false false p q = p

  escapes : (s : Place) (n : ℕ) → escaped s n ≡ behind_bracket (behind_escape s) n
  escapes [] n = refl
  escapes (b ∷ s) n = quotes s n

one_less : (s : Place) (n : ℕ) → (n ≡ 0 → ⊥) → behind_bracket s (n - 1) ≡ elim n [ zero ↦ s | suc m ↦ behind_bracket s m ]
one_less s zero z = absurd (z refl)
one_less s (suc m) z = ap (behind_bracket s) (omega arith)

-- Lists and objects, where n more brackets are open.
module _ (b n : ℕ) where
  pub bracket_quotes : b ≡ 34 → (s : Place) → behind_bracket (behind_string s) n ≡ behind_bracket (b ∷ s) n
  unfolding behind_bracket
  bracket_quotes e s = rw (eq-eqb b 34 e) (sym (quotes s n))

  module _ (q : b ≡ 34 → ⊥) where
    pub bracket_opens : opens b ≡ true → (s : Place) → behind_bracket s (n + 1) ≡ behind_bracket (b ∷ s) n
    unfolding behind_bracket
    bracket_opens o s = rw (ne_eqb b 34 q, o, add-one n)

    module _ (o : opens b ≡ false) where
      pub bracket_closes : closes b ≡ true → n ≡ 0 → (s : Place) → s ≡ behind_bracket (b ∷ s) n
      unfolding behind_bracket
      bracket_closes l z s = rw (ne_eqb b 34 q, o, l, z)

      pub bracket_fewer : closes b ≡ true → (n ≡ 0 → ⊥) → (s : Place) → behind_bracket s (n - 1) ≡ behind_bracket (b ∷ s) n
      unfolding behind_bracket
      bracket_fewer l z s = rw (ne_eqb b 34 q, o, l) (one_less s n z)

      pub bracket_goes : closes b ≡ false → (s : Place) → behind_bracket s n ≡ behind_bracket (b ∷ s) n
      unfolding behind_bracket
      bracket_goes l s = rw (ne_eqb b 34 q, o, l)

-- The brackets that are open counted with the one that is sought: none are where it stands.
pub at_most_one : (t : Bool) → cond t 1 0 ≤ 1
at_most_one true = omega arith
at_most_one false = omega arith

opens_not_closes : (b : ℕ) → opens b ≡ true → closes b ≡ false
unfolding opens closes
opens_not_closes b h = go (eqb b 91) (eqb b 123) refl refl h
  where
    go : (x y : Bool) → eqb b 91 ≡ x → eqb b 123 ≡ y → (x || y) ≡ true → (eqb b 93 || eqb b 125) ≡ false
    go true y e f g = let k = eqb-true b 91 e in rw (ne_eqb b 93 (λ z. omega arith), ne_eqb b 125 (λ z. omega arith))
    go false true e f g = let k = eqb-true b 123 f in rw (ne_eqb b 93 (λ z. omega arith), ne_eqb b 125 (λ z. omega arith))
    go false false e f g = absurd (false≢true g)

module _ (b m r : ℕ) (q : b ≡ 34 → ⊥) (p : 0 < m) (e : r ≡ m + cond (opens b) 1 0 - cond (closes b) 1 0) where
  pub bracket_on : (r ≡ 0 → ⊥) → (s : Place) → behind_bracket s (r - 1) ≡ behind_bracket (b ∷ s) (m - 1)
  bracket_on z s = go (opens b) (closes b) refl refl
    where
      go : (x y : Bool) → opens b ≡ x → closes b ≡ y → behind_bracket s (r - 1) ≡ behind_bracket (b ∷ s) (m - 1)
      go true y o l =
          let k : r ≡ m + 1 - 0 = rw (o, opens_not_closes b o) at e in
          ap (behind_bracket s) (omega arith) ∙ bracket_opens b (m - 1) q o s
      go false true o l =
          let k : r ≡ m + 0 - 1 = rw (o, l) at e in
          ap (behind_bracket s) (omega arith) ∙ bracket_fewer b (m - 1) q o l (λ y. z (omega arith)) s
      go false false o l =
          let k : r ≡ m + 0 - 0 = rw (o, l) at e in
          ap (behind_bracket s) (omega arith) ∙ bracket_goes b (m - 1) q o l s

  pub bracket_last : r ≡ 0 → (s : Place) → s ≡ behind_bracket (b ∷ s) (m - 1)
  bracket_last z s = go (opens b) (closes b) refl refl
    where
      go : (x y : Bool) → opens b ≡ x → closes b ≡ y → s ≡ behind_bracket (b ∷ s) (m - 1)
      go true y o l = let k : r ≡ m + 1 - 0 = rw (o, opens_not_closes b o) at e in absurd (omega arith)
      go false true o l = let k : r ≡ m + 0 - 1 = rw (o, l) at e in bracket_closes b (m - 1) q o l (omega arith) s
      go false false o l = let k : r ≡ m + 0 - 0 = rw (o, l) at e in absurd (omega arith)

-- A blank neither opens nor closes.
no_open : (b : ℕ) → b ≤ 32 → opens b ≡ false
unfolding opens
no_open b h = rw (ne_eqb b 91 (λ z. omega arith), ne_eqb b 123 (λ z. omega arith))

no_close : (b : ℕ) → b ≤ 32 → closes b ≡ false
unfolding closes
no_close b h = rw (ne_eqb b 93 (λ z. omega arith), ne_eqb b 125 (λ z. omega arith))

pub bracket_blank : (b n : ℕ) → b ≤ 32 → (s : Place) → behind_bracket s n ≡ behind_bracket (b ∷ s) n
bracket_blank b n h = bracket_goes b n (λ z. omega arith) (no_open b h) (no_close b h)

pub bracket_over : (n : ℕ) → [] ≡ behind_bracket [] n
unfolding behind_bracket
bracket_over n = refl

-- Numbers.
pub number_goes : (b : ℕ) → is_numeric b ≡ true → (s : Place) → behind_number s ≡ behind_number (b ∷ s)
unfolding behind_number
number_goes b e s = rw e

pub number_stops : (b : ℕ) → is_numeric b ≡ false → (s : Place) → b ∷ s ≡ behind_number (b ∷ s)
unfolding behind_number
number_stops b e s = rw e

number_over : [] ≡ behind_number []
unfolding behind_number
number_over = refl

-- the text is over, or the place was behind it from the start
pub number_ends : {text : List ℕ} {at i : ℕ} → Leads behind_number behind_number text at i → length text ≤ i → Moves behind_number text at (max at (length text))
number_ends {text} {at} {i} l h = let e : max at (length text) ≡ i = grind (arith, l.ahead, l.inside, l.outside) in rw e (moved (lead_end l h number_over))

-- A value is skipped as its kind is, and two kinds alike.
pub moves_value : (text : List ℕ) (at r : ℕ) (k : Kind) → kind_of (drop at text) ≡ k → Moves (behind_kind k) text at r → Moves behind_value text at r
unfolding behind_value
moves_value text at r k e m = moves_as m behind_value (ap (λ x. behind_kind x (drop at text)) (sym e))

pub moves_either : (text : List ℕ) (at r : ℕ) (k l : Kind) → (kind_of (drop at text) ≡ k) ⊎ (kind_of (drop at text) ≡ l) → behind_kind k ≡ behind_kind l → Moves (behind_kind k) text at r → Moves behind_value text at r
moves_either text at r k l (inl e) h m = moves_value text at r k e m
moves_either text at r k l (inr e) h m = moves_value text at r l e (rw h at m)

-- A comma.
pub comma : (s : Place) → first_byte s ≡ 44 → blanked (tail s) ≡ over_comma s
unfolding blanked
comma s e = rw (eq-eqb _ _ e)

pub no_comma : (s : Place) → (first_byte s ≡ 44 → ⊥) → s ≡ over_comma s
unfolding blanked
no_comma s e = rw (ne_eqb _ _ e)
