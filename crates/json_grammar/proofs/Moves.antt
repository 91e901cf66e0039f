-- Moving on in a text: the laws of what a function that moves promises.
use Prim.Native.Nat.{ℕ, ◌+◌, ◌-◌, ◌≤◌, ◌<◌}
use mathlib.Core.Path.{◌≡◌, refl, sym, ap, ◌∙◌}
use mathlib.Core.List.{List, [], ◌∷◌}
use lib.ListN.{length, get_or, drop, length-drop, drop_of_length-le}
use lib.Seq.{drop-cons, drop-drop, drop-length}
use native.Mathlib.Numerals.{add-one}
use native.Mathlib.Omega.{arith}
use Rattle.json_grammar.specs.Tree.{Place, place_in, Moves}

-- What is left before the text's end: the byte there, and what is left behind it.
pub byte_here : (text : List ℕ) (i : ℕ) → i < length text → drop i text ≡ get_or text i 0 ∷ drop (i + 1) text
byte_here text i h = rw (add-one, drop-cons text i 0)

-- On the way from `at` the code stands at i, and where g leads from there, f leads from `at`.
pub record Leads (f g : Place → Place) (text : List ℕ) (at i : ℕ) : Type 0 where
  pub there : g (drop i text) ≡ f (drop at text)
  pub ahead : at ≤ i
  pub inside : at ≤ length text → i ≤ length text
  pub outside : length text ≤ at → i ≡ at

pub lead_start : (f : Place → Place) (text : List ℕ) (at : ℕ) → Leads f f text at at
lead_start f text at = record { there = refl; ahead = omega arith; inside = λ h. h; outside = λ h. refl }

module _ {f g : Place → Place} {text : List ℕ} {at i : ℕ} (l : Leads f g text at i) where
  -- from the same place on by another name
  pub lead_as : {h : Place → Place} → h (drop i text) ≡ g (drop i text) → Leads f h text at i
  lead_as e = record { there = e ∙ l.there; ahead = l.ahead; inside = l.inside; outside = l.outside }

  -- there a byte stands, which is not passed
  pub lead_here : {h : Place → Place} → i < length text → ((s : Place) → h (get_or text i 0 ∷ s) ≡ g (get_or text i 0 ∷ s)) → Leads f h text at i
  lead_here n e = lead_as (rw (byte_here text i n) (e _))

  -- it is passed
  pub lead_one : {h : Place → Place} → i < length text → ((s : Place) → h s ≡ g (get_or text i 0 ∷ s)) → Leads f h text at (i + 1)
  lead_one n e =
      record {
        there = e (drop (i + 1) text) ∙ (rw (byte_here text i n) at l.there);
        ahead = omega (arith, l.ahead);
        inside = λ x. omega arith;
        outside = λ x. absurd (omega (arith, l.ahead));
      }

  -- the text is over
  pub lead_end : {h : Place → Place} → length text ≤ i → h [] ≡ g [] → Leads f h text at i
  lead_end n e = lead_as (rw (drop_of_length-le text n) e)

-- on over another function's move
pub lead_past : {f : Place → Place} {text : List ℕ} {at i j : ℕ} (g m : Place → Place) → Leads f (λ s. g (m s)) text at i → Moves m text i j → Leads f g text at j
lead_past g m l v =
    record {
      there = ap g v.lands ∙ l.there;
      ahead = omega (arith, l.ahead, v.ahead);
      inside = λ h. v.inside (l.inside h);
      outside = λ h. v.outside (omega (arith, l.outside h)) ∙ l.outside h;
    }

-- The way is over.
pub moved : {f : Place → Place} {text : List ℕ} {at r : ℕ} → Leads f (λ s. s) text at r → Moves f text at r
moved l = record { lands = l.there; ahead = l.ahead; inside = l.inside; outside = l.outside }

module _ {f : Place → Place} {text : List ℕ} {at r : ℕ} (m : Moves f text at r) where
  -- one move behind another
  pub then_moves : (g : Place → Place) {q : ℕ} → Moves g text r q → Moves (λ s. g (f s)) text at q
  then_moves g n = moved (lead_past (λ s. s) g (lead_past g f (lead_start (λ s. g (f s)) text at) m) n)

  pub moves_as : (g : Place → Place) → f (drop at text) ≡ g (drop at text) → Moves g text at r
  moves_as g e = record { lands = m.lands ∙ e; ahead = m.ahead; inside = m.inside; outside = m.outside }

  -- within a text the promise is of a place
  pub moves_place : at ≤ length text → place_in text (f (drop at text)) ≡ r
  moves_place h = rw (← m.lands, length-drop) (omega (arith, m.inside h))

-- Over so many bytes, or over all that are left.
module _ (text : List ℕ) (at n : ℕ) (h : at < length text) where
  pub moves_bytes : n ≤ length text - at → Moves (drop n) text at (at + n)
  moves_bytes l = record { lands = sym (drop-drop n at text); ahead = omega arith; inside = λ x. omega arith; outside = λ x. absurd (omega arith) }

  pub moves_rest : length text - at ≤ n → Moves (drop n) text at (length text)
  moves_rest l =
      record {
        lands = drop-length text ∙ sym (drop-drop n at text ∙ drop_of_length-le text {i = at + n} (omega arith));
        ahead = omega arith;
        inside = λ x. omega arith;
        outside = λ x. absurd (omega arith);
      }
