-- The walk goes through whatever the grammar spells, or stops at the 21st open bracket.
use Prim.Native.Nat.{ℕ, suc, ◌+◌, ◌≤◌, ◌<◌, max}
use mathlib.Core.Path.{◌≡◌, refl, ◌∙◌}
use mathlib.Core.List.{List, [], ◌∷◌}
use mathlib.Core.Bool.{Bool, true, false, false≢true}
use lib.ListN.{length}
use lib.Dec.{eqb, ltb}
use borrow.Author.Tests.{ltb-true, ltb-false}
use native.Mathlib.Omega.{arith}
use Rattle.json_grammar.specs.Rows.{choose}
use Rattle.json_grammar.specs.Byte.{is_blank, is_numeric}
use Rattle.json_grammar.specs.Tree.{Place, Tree, object, Members, Elements}
use Rattle.json_grammar.specs.Number.{onward}
use Rattle.json_grammar.specs.declared.string.InString.{InString}
use Rattle.json_grammar.specs.declared.number.InNumber.{InNumber}
use Rattle.json_grammar.specs.declared.number.InNumber.TheVariants.{Start}
use Rattle.std.specs.Prelude.{Some}
use Rattle.json_grammar.specs.Grammar.{Blanks, here, blank, Digits, over, stop, next, Value, an_empty_object, an_object, an_empty_list, a_list, a_string, a_number, a_true, a_false, a_null, Listed, first, Behind, bracket, next_element, Named, name, Follows, brace, next_member}
use Rattle.json_grammar.specs.Walk as W
use Rattle.json_grammar.specs.Walk.{Frame, Mode, walk, step, Walked, end, refused3, onto, Next, deep, go}
use Rattle.json_laws.specs.Depth.{depth, depth_of_members, depth_of_elements}
use Rattle.json_laws.proofs.Bytes.{apart, onward_numeric, not_numeric_over, numeric_not_blank}
use Rattle.json_laws.proofs.Strings.{From, shuts, goes, chars_from}

-- Refused for depth.
abbrev pub Deep : Walked → Type 0
Deep w = (p : Place) × (w ≡ refused3 p)

-- What is d deep is walked through, from w to v, where the brackets k leave room for it; else it is refused for depth.
pub record Through (d : ℕ) (k : List Frame) (w v : Walked) : Type 0 where
  pub fits : length k + d ≤ 20 → w ≡ v
  pub deeper : 20 < length k + d → Deep w

-- what is not deep, where nothing is too deep already
level : {k : List Frame} {w v : Walked} → length k ≤ 20 → w ≡ v → Through 0 k w v
level l e = record { fits = λ _. e; deeper = λ h. absurd (omega arith) }

from_here : {d : ℕ} {k : List Frame} {w x v : Walked} → w ≡ x → Through d k x v → Through d k w v
from_here e h = rw e h

-- one behind the other
then : {d e : ℕ} {k : List Frame} {w v u : Walked} → Through d k w v → Through e k v u → Through (max d e) k w u
then {d} {e} {k} {w} {v} {u} a b = record { fits = λ h. a.fits (omega arith) ∙ b.fits (omega arith); deeper = λ h. which h (ltb 20 (length k + d)) refl }
  where
    which : 20 < length k + max d e → (x : Bool) → ltb 20 (length k + d) ≡ x → Deep w
    which h true t = a.deeper (ltb-true 20 (length k + d) t)
    which h false t =
        let l = ltb-false 20 (length k + d) t in
        let g = b.deeper (omega arith) in
        (g.0, a.fits l ∙ g.1)

-- Behind a bracket that closes: the walk goes on in the brackets around it, or is over.
abbrev pub outside : List Frame → List ℕ → Walked
outside [] r = end r
outside (g ∷ k) r = walk W.behind (g ∷ k) r

abbrev on : Next → List ℕ → Place → Walked
on n s p = onto n p (λ m k. walk m k s) (λ _. end s)

shut_outside : (f : Frame) (k : List Frame) (s p : List ℕ) → on (W.shut (f ∷ k)) s p ≡ outside k s
shut_outside f [] s p = refl
shut_outside f (g ∷ k) s p = refl

-- a bracket that opens, and what is in it
opening : {d : ℕ} {v : Walked} (f : Frame) (m : Mode) (k : List Frame) (s p : List ℕ) → length k ≤ 20 → (length (f ∷ k) ≤ 20 → Through d (f ∷ k) (walk m (f ∷ k) s) v)
    → Through (suc d) k (on (W.opened f m k) s p) v
opening {d} {v} f m k s p l h = which (ltb (length k) 20) refl
  where
    which : (x : Bool) → ltb (length k) 20 ≡ x → Through (suc d) k (on (choose x (λ _. go m (f ∷ k)) λ _. deep) s p) v
    which true e =
        let t = ltb-true (length k) 20 e in
        let g = h t in
        record { fits = λ q. g.fits (omega arith); deeper = λ q. g.deeper (omega arith) }
    which false e = let t = ltb-false (length k) 20 e in record { fits = λ q. absurd (omega arith); deeper = λ q. (p, refl) }

-- Blanks are passed wherever they may stand.
abbrev skips : Mode → Bool
skips W.top = true
skips W.value = true
skips W.first_element = true
skips W.first_name = true
skips W.name = true
skips W.colon = true
skips W.behind = true
skips (W.in_name c) = false
skips (W.in_string c) = false
skips (W.in_number n) = false
skips (W.in_word w) = false

blank_step : (m : Mode) (k : List Frame) (b : ℕ) → skips m ≡ true → is_blank b ≡ true → step m b k ≡ go m k
unfolding step
blank_step W.top k b s e = rw e
blank_step W.value k b s e = rw e
blank_step W.first_element k b s e = rw e
blank_step W.first_name k b s e = rw e
blank_step W.name k b s e = rw e
blank_step W.colon k b s e = rw e
blank_step W.behind [] b s e = rw e
blank_step W.behind (W.a_list ∷ k) b s e = rw e
blank_step W.behind (W.an_object ∷ k) b s e = rw e
blank_step (W.in_name c) k b s e = absurd (false≢true s)
blank_step (W.in_string c) k b s e = absurd (false≢true s)
blank_step (W.in_number n) k b s e = absurd (false≢true s)
blank_step (W.in_word w) k b s e = absurd (false≢true s)

pub pass_blanks : (m : Mode) (k : List Frame) {s r : List ℕ} → skips m ≡ true → Blanks s r → walk m k s ≡ walk m k r
unfolding walk
pass_blanks m k h here = refl
pass_blanks m k h (blank {b = b} e bs) = rw (blank_step m k b h e) (pass_blanks m k h bs)

-- A name and a string, to the quote that closes it.
name_through : {c : InString} {s r : List ℕ} (k : List Frame) → From c s r → walk (W.in_name c) k s ≡ walk W.colon k r
unfolding walk
name_through k (shuts e) = rw e
name_through k (goes e f) = rw e (name_through k f)

string_through : {c : InString} {s r : List ℕ} (k : List Frame) → From c s r → walk (W.in_string c) k s ≡ walk W.behind k r
unfolding walk
string_through k (shuts e) = rw e
string_through k (goes e f) = rw e (string_through k f)

-- A number, to the byte behind it.
digits_through : {n : InNumber} {ds s r : List ℕ} (k : List Frame) → Digits n ds s r → walk (W.in_number n) k s ≡ walk W.behind k r
unfolding walk
digits_through k (over e) = refl
digits_through k (stop {n = n} {b = b} e h) = rw (not_numeric_over n b h, e)
digits_through k (next e d) = rw e (digits_through k d)

not_eq : (b x : ℕ) → is_numeric b ≡ true → is_numeric x ≡ false → eqb b x ≡ false
not_eq b x h e = apart is_numeric b x h e

begin_number : (b : ℕ) (k : List Frame) {m : InNumber} → onward Start b ≡ Some m → W.begin b k ≡ go (W.in_number m) k
unfolding is_numeric
begin_number b k e =
    let h = onward_numeric Start b e in
    rw (not_eq b 34 h refl, not_eq b 123 h refl, not_eq b 91 h refl, not_eq b 116 h refl, not_eq b 102 h refl, not_eq b 110 h refl, e)

number_value : (b : ℕ) (k : List Frame) {m : InNumber} → onward Start b ≡ Some m → step W.value b k ≡ go (W.in_number m) k
unfolding step
number_value b k e = rw (numeric_not_blank b (onward_numeric Start b e)) (begin_number b k e)

number_first : (b : ℕ) (k : List Frame) {m : InNumber} → onward Start b ≡ Some m → step W.first_element b k ≡ go (W.in_number m) k
unfolding step is_numeric
number_first b k e = let h = onward_numeric Start b e in rw (numeric_not_blank b h, not_eq b 93 h refl) (begin_number b k e)

number_through : {ds s r : List ℕ} (k : List Frame) → Digits Start ds s r → walk W.value k s ≡ walk W.behind k r
unfolding walk
number_through k (over e) = absurd (false≢true e)
number_through k (stop e h) = absurd (false≢true e)
number_through k (next {b = b} e d) = rw (number_value b k e) (digits_through k d)

-- A value may stand first in a list, and a name first in an object.
digits_first : {ds s r : List ℕ} (k : List Frame) → Digits Start ds s r → walk W.first_element k s ≡ walk W.value k s
unfolding walk
digits_first k (over e) = refl
digits_first k (stop e h) = absurd (false≢true e)
digits_first k (next {b = b} e d) = rw (number_value b k e, number_first b k e)

first_value : {t : Tree} {s r : List ℕ} (k : List Frame) → Value t s r → walk W.first_element k s ≡ walk W.value k s
unfolding walk
first_value k (an_empty_object b) = refl
first_value k (an_object b n) = refl
first_value k (an_empty_list b) = refl
first_value k (a_list b e) = refl
first_value k (a_string c) = refl
first_value k (a_number d) = digits_first k d
first_value k a_true = refl
first_value k a_false = refl
first_value k a_null = refl

first_listed : {ts : Elements} {s r : List ℕ} (k : List Frame) → Listed ts s r → walk W.first_element k s ≡ walk W.value k s
first_listed k (first v b e) = first_value k v

first_named : {ms : Members} {s r : List ℕ} (k : List Frame) → Named ms s r → walk W.first_name k s ≡ walk W.name k s
unfolding walk
first_named k (name c b b' v b'' f) = refl

empty_object : {s r : List ℕ} (k : List Frame) → Blanks s (125 ∷ r) → walk W.first_name (W.an_object ∷ k) s ≡ outside k r
unfolding walk
empty_object {r = r} k b = pass_blanks W.first_name (W.an_object ∷ k) refl b ∙ shut_outside W.an_object k r (125 ∷ r)

empty_list : {s r : List ℕ} (k : List Frame) → Blanks s (93 ∷ r) → walk W.first_element (W.a_list ∷ k) s ≡ outside k r
unfolding walk
empty_list {r = r} k b = pass_blanks W.first_element (W.a_list ∷ k) refl b ∙ shut_outside W.a_list k r (93 ∷ r)

colon_through : {s c r : List ℕ} (k : List Frame) → Blanks s (58 ∷ c) → Blanks c r → walk W.colon k s ≡ walk W.value k r
unfolding walk
colon_through k b b' = pass_blanks W.colon k refl b ∙ pass_blanks W.value k refl b'

mutual
  unfolding walk depth

  pub value_through : {t : Tree} {s r : List ℕ} → Value t s r → (g : Frame) (k : List Frame) → length (g ∷ k) ≤ 20
      → Through (depth t) (g ∷ k) (walk W.value (g ∷ k) s) (walk W.behind (g ∷ k) r)
  value_through (an_empty_object {s = s} b) g k l = opening W.an_object W.first_name (g ∷ k) s (123 ∷ s) l (λ q. level q (empty_object (g ∷ k) b))
  value_through (an_object {s = s} b n) g k l =
      opening W.an_object W.first_name (g ∷ k) s (123 ∷ s) l (λ q. from_here (pass_blanks W.first_name (W.an_object ∷ g ∷ k) refl b ∙ first_named (W.an_object ∷ g ∷ k) n) (named_through n (g ∷ k) q))
  value_through (an_empty_list {s = s} b) g k l = opening W.a_list W.first_element (g ∷ k) s (91 ∷ s) l (λ q. level q (empty_list (g ∷ k) b))
  value_through (a_list {s = s} b e) g k l =
      opening W.a_list W.first_element (g ∷ k) s (91 ∷ s) l (λ q. from_here (pass_blanks W.first_element (W.a_list ∷ g ∷ k) refl b ∙ first_listed (W.a_list ∷ g ∷ k) e) (listed_through e (g ∷ k) q))
  value_through (a_string c) g k l = level l (string_through (g ∷ k) (chars_from c))
  value_through (a_number d) g k l = level l (number_through (g ∷ k) d)
  value_through a_true g k l = level l refl
  value_through a_false g k l = level l refl
  value_through a_null g k l = level l refl

  listed_through : {ts : Elements} {s r : List ℕ} → Listed ts s r → (k : List Frame) → length (W.a_list ∷ k) ≤ 20
      → Through (depth_of_elements ts) (W.a_list ∷ k) (walk W.value (W.a_list ∷ k) s) (outside k r)
  listed_through (first v b e) k l = then (value_through v W.a_list k l) (from_here (pass_blanks W.behind (W.a_list ∷ k) refl b) (behind_through e k l))

  behind_through : {ts : Elements} {s r : List ℕ} → Behind ts s r → (k : List Frame) → length (W.a_list ∷ k) ≤ 20
      → Through (depth_of_elements ts) (W.a_list ∷ k) (walk W.behind (W.a_list ∷ k) s) (outside k r)
  behind_through (bracket {r = r}) k l = level l (shut_outside W.a_list k r (93 ∷ r))
  behind_through (next_element b e) k l = from_here (pass_blanks W.value (W.a_list ∷ k) refl b) (listed_through e k l)

  named_through : {ms : Members} {s r : List ℕ} → Named ms s r → (k : List Frame) → length (W.an_object ∷ k) ≤ 20
      → Through (depth_of_members ms) (W.an_object ∷ k) (walk W.name (W.an_object ∷ k) s) (outside k r)
  named_through (name c b b' v b'' f) k l =
      from_here (name_through (W.an_object ∷ k) (chars_from c) ∙ colon_through (W.an_object ∷ k) b b')
      (then (value_through v W.an_object k l) (from_here (pass_blanks W.behind (W.an_object ∷ k) refl b'') (follows_through f k l)))

  follows_through : {ms : Members} {s r : List ℕ} → Follows ms s r → (k : List Frame) → length (W.an_object ∷ k) ≤ 20
      → Through (depth_of_members ms) (W.an_object ∷ k) (walk W.behind (W.an_object ∷ k) s) (outside k r)
  follows_through (brace {r = r}) k l = level l (shut_outside W.an_object k r (125 ∷ r))
  follows_through (next_member b n) k l = from_here (pass_blanks W.name (W.an_object ∷ k) refl b) (named_through n k l)

-- The text's own object.
pub object_through : {p : Place} {ms : Members} {s r : List ℕ} → Value (object p ms) s r → Through (depth (object p ms)) [] (walk W.top [] s) (end r)
unfolding walk depth
object_through (an_empty_object {s = s} b) = opening W.an_object W.first_name [] s (123 ∷ s) (omega arith) (λ q. level q (empty_object [] b))
object_through (an_object {s = s} b n) =
    opening W.an_object W.first_name [] s (123 ∷ s) (omega arith) (λ q. from_here (pass_blanks W.first_name (W.an_object ∷ []) refl b ∙ first_named (W.an_object ∷ []) n) (named_through n [] q))
