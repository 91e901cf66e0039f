-- The walk over a part at a time, over blanks, and over one byte.
use Prim.Native.Nat.{ℕ, suc, ◌<◌, ◌≤◌}
use mathlib.Core.Path.{◌≡◌, refl, ap, ◌∙◌}
use mathlib.Core.Logic.{◌⊎◌, inl, inr}
use mathlib.Core.List.{List, [], ◌∷◌}
use mathlib.Core.Bool.{Bool, true, false, false≢true}
use lib.ListN.{length, get_or, drop}
use lib.Seq.{drop-cons}
use lib.Dec.{eqb}
use native.Mathlib.Omega.{arith}
use Rattle.std.specs.Prelude.{Option, Some, None, Result, Ok, Err, IsErrAnd}
use borrow.Author.Tests.{ne_eqb, eqb-true}
use Rattle.json_grammar.specs.Rows.{choose}
use Rattle.json_grammar.specs.Byte.{is_blank, blanked}
use Rattle.json_grammar.specs.Tree.{Moves}
use Rattle.json_grammar.specs.String.{after}
use Rattle.json_grammar.specs.Number.{onward, may_end}
use Rattle.json_grammar.specs.Part.{Stop, past, torn, string_stop, number_stop, word_stop, Stops}
use Rattle.json_grammar.specs.Walk as W
use Rattle.json_grammar.specs.Walk.{Frame, a_list, an_object, Next, go, onto, step, step_chars, walk, Walked, end, refused2}
use Rattle.json_walk.specs.Turn.{mode_of, open_in, steps, plain_stop, behind_quoted, closes_empty, Refused, Tells, Turned}
use Rattle.json_grammar.specs.declared.string.InString.{InString}
use Rattle.json_grammar.specs.declared.string.InString.TheVariants.{Plain}
use Rattle.json_grammar.specs.declared.string.CharStep.{CharStep}
use Rattle.json_grammar.specs.declared.string.CharStep.TheVariants.{Goes, Closes, Refuses}
use Rattle.json_grammar.specs.declared.number.InNumber.{InNumber}
use Rattle.json_grammar.specs.declared.number.InNumber.TheVariants.{Start}
use Rattle.json_grammar.specs.declared.part.Torn.{Torn}
use Rattle.json_walk.specs.declared.Mode.{Mode}
use Rattle.json_walk.specs.declared.Mode.TheVariants.{Value, FirstElement, FirstName, Name, Colon, Behind}
use Rattle.json_walk.specs.declared.Walk.{Walk}
use Rattle.json_walk.specs.declared.Step.{Step}
use Rattle.json_walk.specs.declared.Fault.{Fault}
use Rattle.json_walk.specs.declared.Fault.TheVariants.{Broken}
use Rattle.json_grammar.proofs.Passes.{Passes, passes_none}
use Rattle.json_scan.proofs.Blanks.{blank_goes, blank_stays, blanked_none}
use Rattle.json_scan.proofs.Strings.{string_goes, string_closes, string_refuses, string_none}
use Rattle.json_number.proofs.Digits.{number_goes, number_ends, number_none}

pub walk_none : (m : W.Mode) (k : List Frame) → walk m k [] ≡ refused2 []
unfolding walk
walk_none m k = refl

-- What the walk comes to when the byte b does `next`.
abbrev pub onward_from : ℕ → List ℕ → Next → Walked
onward_from b s next = onto next (b ∷ s) (λ m k. walk m k s) (λ _. end s)

pub walk_one : (m : W.Mode) (k : List Frame) (b : ℕ) (s : List ℕ) → walk m k (b ∷ s) ≡ onward_from b s (step m b k)
unfolding walk
walk_one m k b s = refl

pub walk_at : (text : List ℕ) (at : ℕ) → at < length text → (m : W.Mode) (k : List Frame) → walk m k (drop at text) ≡ steps text at (step m (get_or text at 0) k)
walk_at text at h m k = rw (drop-cons text at 0 h) (walk_one m k (get_or text at 0) (drop (suc at) text))

-- ---- a part
-- What the walk comes to over a part, behind which f says it.
abbrev pub stopped : Stop → (List ℕ → Walked) → Walked
stopped (past r) f = f r
stopped (torn p) f = refused2 p

-- the code goes on behind it, or the byte that breaks it is refused
pub part_goes : (text : List ℕ) (at e : ℕ) (w : Stop) (m : W.Mode) (k : List Frame) → Stops text (suc at) w (Ok e)
    → (stopped w (walk m k) ≡ walk m k (drop e text)) × (at < e) × (e ≤ length text)
part_goes text at e w m k s = (rw s.0, s.1, s.2)

pub part_breaks : (text : List ℕ) (at : ℕ) (t : Torn) (w : Stop) (f : List ℕ → Walked) (r : Result Step Fault) → Stops text (suc at) w (Err t)
    → IsErrAnd r (λ fault. fault ≡ Broken t.0) → Turned text at (stopped w f) r
part_breaks text at t w f (Err fault) s e = rw e (rw s.0, s.1)
part_breaks text at t w f (Ok step) s e = absurd e

-- a refusal is handed on
pub refuses : (text : List ℕ) (g : Fault) (r : Result ℕ Fault) {w u : Walked} → u ≡ w → Refused text w g → IsErrAnd r (λ fault. fault ≡ g) → Tells text u r
refuses text g (Err fault) q h e = rw (e, q) h
refuses text g (Ok x) q h e = absurd e

module _ (inside : InString → W.Mode) (out : W.Mode) (is : (c : InString) (b : ℕ) (k : List Frame) → step (inside c) b k ≡ step_chars inside out (after c b) k) where
  chars_walk : (c : InString) (k : List Frame) (s : List ℕ) → walk (inside c) k s ≡ stopped (string_stop c s) (walk out k)
  chars_walk c k [] = rw (walk_none, string_none)
  chars_walk c k (b ∷ s) = by (after c b) refl (λ n. chars_walk n k s)
    where
      by : (x : CharStep) → after c b ≡ x → ((n : InString) → walk (inside n) k s ≡ stopped (string_stop n s) (walk out k))
          → walk (inside c) k (b ∷ s) ≡ stopped (string_stop c (b ∷ s)) (walk out k)
      by (Goes n) e more = rw (walk_one, is, e, string_goes c b e s) (more n)
      by Closes e more = rw (walk_one, is, e, string_closes c b e s)
      by Refuses e more = rw (walk_one, is, e, string_refuses c b e s)

pub string_walk : (k : List Frame) (s : List ℕ) → walk (W.in_string Plain) k s ≡ stopped (string_stop Plain s) (walk W.behind k)
unfolding step
string_walk k s = chars_walk W.in_string W.behind (λ c b k. refl) Plain k s

pub name_walk : (k : List Frame) (s : List ℕ) → walk (W.in_name Plain) k s ≡ stopped (string_stop Plain s) (walk W.colon k)
unfolding step
name_walk k s = chars_walk W.in_name W.colon (λ c b k. refl) Plain k s

number_walk : (n : InNumber) (k : List Frame) (s : List ℕ) → walk (W.in_number n) k s ≡ stopped (number_stop n s) (walk W.behind k)
unfolding step
number_walk n k [] = by (may_end n) refl
  where
    by : (t : Bool) → may_end n ≡ t → walk (W.in_number n) k [] ≡ stopped (number_stop n []) (walk W.behind k)
    by true g = rw (number_none n, g, walk_none, walk_none)
    by false g = rw (number_none n, g, walk_none)
number_walk n k (b ∷ s) = by (onward n b) refl (may_end n) refl (λ m. number_walk m k s)
  where
    by : (x : Option InNumber) → onward n b ≡ x → (t : Bool) → may_end n ≡ t → ((m : InNumber) → walk (W.in_number m) k s ≡ stopped (number_stop m s) (walk W.behind k))
        → walk (W.in_number n) k (b ∷ s) ≡ stopped (number_stop n (b ∷ s)) (walk W.behind k)
    by (Some m) e t g more = rw (walk_one, e, number_goes n b e s) (more m)
    by None e true g more = rw (walk_one, e, number_ends n b e s, g, walk_one)
    by None e false g more = rw (walk_one, e, number_ends n b e s, g)

-- a test that picks both the byte's step and where the part ends
choice : (b : ℕ) (s : List ℕ) (k : List Frame) (t : Bool) (x y : Unit {0} → Next) (v w : Unit {0} → Stop)
    → onward_from b s (x tt) ≡ stopped (v tt) (walk W.behind k) → onward_from b s (y tt) ≡ stopped (w tt) (walk W.behind k)
    → onward_from b s (choose t x y) ≡ stopped (choose t v w) (walk W.behind k)
choice b s k true x y v w h n = h
choice b s k false x y v w h n = n

word_walk : (w : ℕ) (ws : List ℕ) (k : List Frame) (s : List ℕ) → walk (W.in_word (w ∷ ws)) k s ≡ stopped (word_stop (w ∷ ws) s) (walk W.behind k)
unfolding step word_stop
word_walk w ws k [] = walk_none (W.in_word (w ∷ ws)) k
word_walk w [] k (b ∷ s) = rw walk_one (choice b s k (eqb b w) _ _ _ _ refl refl)
word_walk w (v ∷ ws) k (b ∷ s) = rw walk_one (choice b s k (eqb b w) _ _ _ _ (word_walk v ws k s) refl)

-- true, false, null or a number: a value that begins with none of " { [
plain_walk : (b : ℕ) (s : List ℕ) (k : List Frame) → (b ≡ 34 → ⊥) → (b ≡ 123 → ⊥) → (b ≡ 91 → ⊥)
    → onward_from b s (W.begin b k) ≡ stopped (plain_stop (b ∷ s)) (walk W.behind k)
unfolding plain_stop
plain_walk b s k n₁ n₂ n₃ =
    rw (ne_eqb b 34 n₁, ne_eqb b 123 n₂, ne_eqb b 91 n₃)
    (choice b s k (eqb b 116) _ _ _ _ (word_walk 114 (117 ∷ 101 ∷ []) k s)
    (choice b s k (eqb b 102) _ _ _ _ (word_walk 97 (108 ∷ 115 ∷ 101 ∷ []) k s)
    (choice b s k (eqb b 110) _ _ _ _ (word_walk 117 (108 ∷ 108 ∷ []) k s) (by (onward Start b) refl))))
  where
    by : (x : Option InNumber) → onward Start b ≡ x
        → onward_from b s (W.digits (onward Start b) k) ≡ stopped (number_stop Start (b ∷ s)) (walk W.behind k)
    by (Some m) e = rw (e, number_goes Start b e s) (number_walk m k s)
    by None e = rw (e, number_ends Start b e s)

pub plain_at : (text : List ℕ) (at : ℕ) → at < length text → (k : List Frame)
    → (get_or text at 0 ≡ 34 → ⊥) → (get_or text at 0 ≡ 123 → ⊥) → (get_or text at 0 ≡ 91 → ⊥)
    → steps text at (W.begin (get_or text at 0) k) ≡ stopped (plain_stop (drop at text)) (walk W.behind k)
plain_at text at h k n₁ n₂ n₃ = rw (drop-cons text at 0 h) (plain_walk (get_or text at 0) (drop (suc at) text) k n₁ n₂ n₃)

-- ---- blanks
module _ (m : W.Mode) (stays : (b : ℕ) (k : List Frame) → is_blank b ≡ true → step m b k ≡ go m k) where
  blanks_walk : (k : List Frame) (s : List ℕ) → walk m k (blanked s) ≡ walk m k s
  blanks_walk k [] = rw blanked_none
  blanks_walk k (b ∷ s) = by (is_blank b) refl (blanks_walk k s)
    where
      by : (t : Bool) → is_blank b ≡ t → walk m k (blanked s) ≡ walk m k s → walk m k (blanked (b ∷ s)) ≡ walk m k (b ∷ s)
      by true e more = rw (blank_goes b e s, walk_one, stays b k e) more
      by false e more = rw (blank_stays b e s)

  -- the code moves on behind blanks
  blanks_passed : {g : List ℕ → Walked} {text : List ℕ} {at i r : ℕ} (k : List Frame) → Passes (walk m k) g text at i → Moves blanked text i r → Passes (walk m k) g text at r
  blanks_passed {text = text} {i = i} k p v = record {
    same = ap (walk m k) v.lands ∙ blanks_walk k (drop i text) ∙ p.same;
    ahead = omega (arith, p.ahead, v.ahead);
    inside = λ h. v.inside (p.inside h);
  }

top_stays : (b : ℕ) (k : List Frame) → is_blank b ≡ true → step W.top b k ≡ go W.top k
unfolding step
top_stays b k e = rw e

mode_stays : (mode : Mode) (b : ℕ) (k : List Frame) → is_blank b ≡ true → step (mode_of mode) b k ≡ go (mode_of mode) k
unfolding step
mode_stays Value b k e = rw e
mode_stays FirstElement b k e = rw e
mode_stays FirstName b k e = rw e
mode_stays Name b k e = rw e
mode_stays Colon b k e = rw e
mode_stays Behind b [] e = rw e
mode_stays Behind b (a_list ∷ k) e = rw e
mode_stays Behind b (an_object ∷ k) e = rw e

-- ---- the byte at a place, by the mode there
some_is : {m n : Mode} → Some m ≡ Some n → m ≡ n
some_is e = cc

module _ (text : List ℕ) (at : ℕ) (h : at < length text) (mode : Mode) (k : List Frame) where
  abbrev here : ℕ
  here = get_or text at 0

  -- a quote
  pub quote_begins : {next : Mode} → here ≡ 34 → behind_quoted mode ≡ Some next
      → walk (mode_of mode) k (drop at text) ≡ stopped (string_stop Plain (drop (suc at) text)) (walk (mode_of next) k)
  unfolding step
  quote_begins {next} q e = rw (walk_at text at h (mode_of mode) k, q) (by mode e)
    where
      by : (m : Mode) → behind_quoted m ≡ Some next → steps text at (step (mode_of m) 34 k) ≡ stopped (string_stop Plain (drop (suc at) text)) (walk (mode_of next) k)
      by Value e = rw (← some_is e) (string_walk k (drop (suc at) text))
      by FirstElement e = rw (← some_is e) (string_walk k (drop (suc at) text))
      by FirstName e = rw (← some_is e) (name_walk k (drop (suc at) text))
      by Name e = rw (← some_is e) (name_walk k (drop (suc at) text))
      by Colon e = cc
      by Behind e = cc

  pub quote_wrong : here ≡ 34 → behind_quoted mode ≡ None → walk (mode_of mode) k (drop at text) ≡ refused2 (drop at text)
  unfolding step
  quote_wrong q e = rw (walk_at text at h (mode_of mode) k, q) (by mode k e)
    where
      by : (m : Mode) (k : List Frame) → behind_quoted m ≡ None → steps text at (step (mode_of m) 34 k) ≡ refused2 (drop at text)
      by Value k e = cc
      by FirstElement k e = cc
      by FirstName k e = cc
      by Name k e = cc
      by Colon k e = refl
      by Behind [] e = refl
      by Behind (a_list ∷ k) e = refl
      by Behind (an_object ∷ k) e = refl

  module _ (blank : is_blank here ≡ false) where
    pub empty_shuts : closes_empty mode here ≡ true → walk (mode_of mode) k (drop at text) ≡ steps text at (W.shut k)
    unfolding step
    empty_shuts e = rw (walk_at text at h (mode_of mode) k) (by mode e)
      where
        by : (m : Mode) → closes_empty m here ≡ true → steps text at (step (mode_of m) here k) ≡ steps text at (W.shut k)
        by FirstElement e = rw (blank, e)
        by FirstName e = rw (eqb-true here 125 e)
        by Value e = absurd (false≢true e)
        by Name e = absurd (false≢true e)
        by Colon e = absurd (false≢true e)
        by Behind e = absurd (false≢true e)

  module _ (blank : is_blank here ≡ false) (quote : here ≡ 34 → ⊥) (full : closes_empty mode here ≡ false) where
    pub value_begins : (mode ≡ Value) ⊎ (mode ≡ FirstElement) → walk (mode_of mode) k (drop at text) ≡ steps text at (W.begin here k)
    unfolding step
    value_begins e = rw (walk_at text at h (mode_of mode) k) (by mode e full)
      where
        by : (m : Mode) → (m ≡ Value) ⊎ (m ≡ FirstElement) → closes_empty m here ≡ false → steps text at (step (mode_of m) here k) ≡ steps text at (W.begin here k)
        by Value e n = rw blank
        by FirstElement e n = rw (blank, n)
        by FirstName (inl e) n = cc
        by FirstName (inr e) n = cc
        by Name (inl e) n = cc
        by Name (inr e) n = cc
        by Colon (inl e) n = cc
        by Colon (inr e) n = cc
        by Behind (inl e) n = cc
        by Behind (inr e) n = cc

    -- neither a colon nor a comma may stand here
    pub name_wrong : (mode ≡ FirstName) ⊎ (mode ≡ Name) → walk (mode_of mode) k (drop at text) ≡ refused2 (drop at text)
    unfolding step
    name_wrong e = rw (walk_at text at h (mode_of mode) k) (by mode e full)
      where
        by : (m : Mode) → (m ≡ FirstName) ⊎ (m ≡ Name) → closes_empty m here ≡ false → steps text at (step (mode_of m) here k) ≡ refused2 (drop at text)
        by FirstName e n = rw (blank, ne_eqb here 34 quote, n)
        by Name e n = rw (blank, ne_eqb here 34 quote)
        by Value (inl e) n = cc
        by Value (inr e) n = cc
        by FirstElement (inl e) n = cc
        by FirstElement (inr e) n = cc
        by Colon (inl e) n = cc
        by Colon (inr e) n = cc
        by Behind (inl e) n = cc
        by Behind (inr e) n = cc

-- ---- inside the text's own brace, which was at the place before `start`
abbrev pub Inside : List ℕ → ℕ → Walk → Type 0
Inside text start here = Passes (walk (mode_of here.mode) (open_in here.brackets)) (walk W.first_name (an_object ∷ [])) text start here.at

-- The rest behind the blanks at a place is walked as from there.
pub inside_blanks : {text : List ℕ} {start i : ℕ} (here : Walk) → Inside text start here → Moves blanked text here.at i
    → Inside text start (record here { at = i })
inside_blanks here p v = blanks_passed (mode_of here.mode) (mode_stays here.mode) (open_in here.brackets) p v

-- ---- the text's own brace
pub top_blanks : {text : List ℕ} {r : ℕ} → Moves blanked text 0 r → Passes (walk W.top []) (walk W.top []) text 0 r
top_blanks {text} v = blanks_passed W.top top_stays [] (passes_none (walk W.top []) text 0) v

module _ (b : ℕ) (blank : is_blank b ≡ false) where
  pub top_refuses : (b ≡ 123 → ⊥) → (s : List ℕ) → walk W.top [] (b ∷ s) ≡ refused2 (b ∷ s)
  unfolding step
  top_refuses n s = rw (walk_one, blank, ne_eqb b 123 n)

  pub top_opens : b ≡ 123 → (s : List ℕ) → walk W.top [] (b ∷ s) ≡ walk W.first_name (an_object ∷ []) s
  unfolding step
  top_opens e s = rw (walk_one, blank, e)
