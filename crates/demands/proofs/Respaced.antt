-- Bytes with the bare bytes of a text, in which blanks part no number and no word, are a text of the same tree, its places aside.
use Prim.Native.Nat.{ℕ}
use mathlib.Core.Path.{◌≡◌, refl, sym, ap, subst, ◌∙◌}
use mathlib.Core.List.{List, [], ◌∷◌, ◌++◌}
use mathlib.Core.Bool.{Bool, true, false, false≢true}
use lib.Dec.{eqb}
use Rattle.json_grammar.specs.Byte.{is_blank, is_numeric}
use Rattle.json_grammar.specs.Number.{may_end}
use Rattle.json_grammar.specs.Tree.{Tree, object, list, string, number, bool, null, Members, no_member, member, Elements, no_element, element}
use Rattle.json_grammar.specs.declared.number.InNumber.{InNumber}
use Rattle.json_grammar.specs.declared.number.InNumber.TheVariants.{Start}
use Rattle.json_grammar.specs.Grammar as G
use Rattle.json_grammar.specs.Grammar.{Blanks, Chars, Digits, Value, Listed, Behind, Named, Follows, Text}
use Rattle.json_grammar.proofs.Truth.{and_right, never}
use Rattle.json_move.specs.Moving.{first_byte}
use Rattle.json_laws.proofs.Bytes.{apart, onward_numeric, numeric_not_blank}
use Rattle.json_laws.specs.Leading.{Leading, leading}
use Rattle.json_laws.proofs.Trees.{text_leading, leading_text}
use Rattle.document.specs.Same.{unplaced, unplaced_members, unplaced_elements}
use Rattle.document_meaning.proofs.Numerals.{Ends}
use Rattle.demands.specs.Blanks.{bare, bare_quoted, in_word, may_part, whole_after, whole}
use Rattle.demands.proofs.BareBytes.{whole_step, bare_byte, bare_blanks, next_byte, next_quote, next_in_word, ends_same, all_blanks}
use Rattle.demands.proofs.BareStrings.{chars_same}

-- Behind blanks, s spells a, places aside, and what is behind that has the bare bytes of r.
record Again {A : Type 0} (Spells : A → List ℕ → List ℕ → Type 0) (placeless : A → A) (a : A) (r s : List ℕ) : Type 0 where
  what : A
  start : List ℕ
  rest : List ℕ
  blanks : Blanks s start
  spelled : Spells what start rest
  like : placeless what ≡ placeless a
  same : bare r ≡ bare rest
  before : ℕ
  unparted : whole_after before rest ≡ true

stands : {A : Type 0} {P : A → List ℕ → List ℕ → Type 0} {f : A → A} {a : A} {r s start : List ℕ} (what : A) (rest : List ℕ) (before : ℕ)
    → Blanks s start → P what start rest → f what ≡ f a → bare r ≡ bare rest → whole_after before rest ≡ true → Again P f a r s
stands {start = start} what rest before b x e h w = record { what = what; start = start; rest = rest; blanks = b; spelled = x; like = e; same = h; before = before; unparted = w }

-- So of all bytes that have the bare bytes of x, if blanks part no number and no word in them.
abbrev Found : {A : Type 0} → (A → List ℕ → List ℕ → Type 0) → (A → A) → A → List ℕ → List ℕ → Type 0
Found P f a x r = (p : ℕ) (s : List ℕ) → bare x ≡ bare s → whole_after p s ≡ true → Again P f a r s

-- Numbers.
number_in_word : (b : ℕ) → is_numeric b ≡ true → in_word b ≡ true
unfolding in_word
number_in_word b e = rw e

not_quote : (b : ℕ) → is_numeric b ≡ true → eqb b 34 ≡ false
unfolding is_numeric
not_quote b e = apart is_numeric b 34 e refl

number_byte : (b : ℕ) (s : List ℕ) → is_numeric b ≡ true → bare (b ∷ s) ≡ b ∷ bare s
number_byte b s e = bare_byte b s (numeric_not_blank b e) (not_quote b e)

stopped : (n : InNumber) (s : List ℕ) → may_end n ≡ true → Ends s → Digits n [] s s
stopped n [] e h = G.over e
stopped n (b ∷ s) e h = G.stop e h

abbrev SameDigits : InNumber → List ℕ → List ℕ → List ℕ → Type 0
SameDigits n ds r s = (q : List ℕ) × (a : ℕ) × Digits n ds s q × (bare r ≡ bare q) × (whole_after a q ≡ true)

digits_same : {n : InNumber} {ds x r : List ℕ} → Digits n ds x r → Ends (bare r) → (p : ℕ) → is_numeric p ≡ true → (s : List ℕ) → bare x ≡ bare s → whole_after p s ≡ true
    → SameDigits n ds r s
digits_same (G.over {n = n} e) f p i s h w = (s, p, stopped n s e (ends_same [] s f h), h, w)
digits_same (G.stop {n = n} {b = b} {r = r} e g) f p i s h w = (s, p, stopped n s e (ends_same (b ∷ r) s f h), h, w)
digits_same (G.next {n = n} {b = b} {ds = ds} {s = x} e d) f p i s h w =
    let j = onward_numeric n b e in
    let k = next_in_word b p (bare x) s (number_in_word p i) (number_in_word b j) (not_quote b j) (sym (number_byte b x j) ∙ h) w in
    let l = digits_same d f b j k.0 k.2 k.3 in
    (l.0, l.1, subst (λ (y : List ℕ). Digits n (b ∷ ds) y l.0) (sym k.1) (G.next e l.2), l.3, l.4)

number_same : {ds x r : List ℕ} → Digits Start ds x r → Ends (bare r) → Found Value unplaced (number x ds) x r
unfolding unplaced
number_same (G.over e) f p s h w = absurd (false≢true e)
number_same (G.stop e g) f p s h w = absurd (false≢true e)
number_same (G.next {b = b} {ds = ds} {s = x} e d) f p s h w =
    let j = onward_numeric Start b e in
    let n = next_byte b p (bare x) s (not_quote b j) (sym (number_byte b x j) ∙ h) w in
    let k = digits_same d f b j n.0 n.2 n.3 in
    stands (number (b ∷ n.0) (b ∷ ds)) k.0 k.1 n.1 (G.a_number (G.next e k.2)) refl k.3 k.4

-- Words.
abbrev Lettered : List ℕ → Type 0
Lettered [] = Unit {0}
Lettered (c ∷ cs) = ((in_word c ≡ true) × (eqb c 34 ≡ false)) × Lettered cs

letters_same : (cs : List ℕ) → Lettered cs → (p : ℕ) → in_word p ≡ true → (y s : List ℕ) → cs ++ y ≡ bare s → whole_after p s ≡ true
    → (q : List ℕ) × (a : ℕ) × (s ≡ cs ++ q) × (y ≡ bare q) × (whole_after a q ≡ true)
letters_same [] l p i y s h w = (s, p, refl, h, w)
letters_same (c ∷ cs) l p i y s h w =
    let k = next_in_word c p (cs ++ y) s i l.0.0 l.0.1 h w in
    let j = letters_same cs l.1 c l.0.0 y k.0 k.2 k.3 in
    (j.0, j.1, k.1 ∙ ap (λ x. c ∷ x) j.2, j.3, j.4)

word_same : (c : ℕ) (cs : List ℕ) → Lettered (c ∷ cs) → (p : ℕ) (y s : List ℕ) → c ∷ (cs ++ y) ≡ bare s → whole_after p s ≡ true
    → (q : List ℕ) × (a : ℕ) × Blanks s (c ∷ (cs ++ q)) × (y ≡ bare q) × (whole_after a q ≡ true)
word_same c cs l p y s h w =
    let n = next_byte c p (cs ++ y) s l.0.1 h w in
    let k = letters_same cs l.1 c l.0.0 y n.0 n.2 n.3 in
    (k.0, k.1, subst (λ (x : List ℕ). Blanks s (c ∷ x)) k.2 n.1, k.3, k.4)

-- A number stops where no byte of a number comes next, blanks aside.
abbrev Stops : Tree → List ℕ → Type 0
Stops (object p ms) r = Unit {0}
Stops (list p es) r = Unit {0}
Stops (string p cs) r = Unit {0}
Stops (number p ds) r = Ends (bare r)
Stops (bool p b) r = Unit {0}
Stops (null p) r = Unit {0}

stops : (t : Tree) (r : List ℕ) → Ends (bare r) → Stops t r
stops (object p ms) r h = tt
stops (list p es) r h = tt
stops (string p cs) r h = tt
stops (number p ds) r h = h
stops (bool p b) r h = tt
stops (null p) r h = tt

-- What stands behind a value.
behind_ends : {ts : Elements} {s r : List ℕ} → Behind ts s r → Ends (bare s)
unfolding bare is_blank is_numeric
behind_ends G.bracket = refl
behind_ends (G.next_element b l) = refl

follows_ends : {ms : Members} {s r : List ℕ} → Follows ms s r → Ends (bare s)
unfolding bare is_blank is_numeric
follows_ends G.brace = refl
follows_ends (G.next_member b n) = refl

-- What has another part behind its beginning ends where that part ends.
ended_as : {A B : Type 0} {P : A → List ℕ → List ℕ → Type 0} {Q : B → List ℕ → List ℕ → Type 0} {f : A → A} {g : B → B} {a : A} {b : B} {r m s start : List ℕ}
    (i : Again P f a r m) → Blanks s start → (what : B) → Q what start i.rest → g what ≡ g b → Again Q g b r s
ended_as {start = start} i b what q e =
    record { what = what; start = start; rest = i.rest; blanks = b; spelled = q; like = e; same = i.same; before = i.before; unparted = i.unparted }

element_again : {t : Tree} {ts : Elements} {d e r s : List ℕ} → Again Value unplaced t d s → Blanks d e → Found Behind unplaced_elements ts e r
    → Again Listed unplaced_elements (element t ts) r s
unfolding unplaced
element_again i b found =
    let j = found i.before i.rest (sym (bare_blanks b) ∙ i.same) i.unparted in
    let e = i.like in let f = j.like in
    ended_as j i.blanks (element i.what j.what) (G.first i.spelled j.blanks j.spelled) cc

member_again : {t : Tree} {ms : Members} {n q x a y d e r s : List ℕ} → Blanks s (34 ∷ x) → Chars n x a → Blanks a (58 ∷ y) → Again Value unplaced t d y → Blanks d e
    → Found Follows unplaced_members ms e r
    → Again Named unplaced_members (member q n t ms) r s
unfolding unplaced
member_again {n = n} {x = x} k c l i b found =
    let j = found i.before i.rest (sym (bare_blanks b) ∙ i.same) i.unparted in
    let e = i.like in let f = j.like in
    ended_as j k (member (34 ∷ x) n i.what j.what) (G.name c l i.blanks i.spelled j.blanks j.spelled) cc

mutual
  unfolding bare is_blank in_word unplaced

  value_same : {t : Tree} {x r : List ℕ} → Value t x r → Stops t r → Found Value unplaced t x r
  value_same (G.an_empty_object {s = x} {r = r} b) f p s h w =
      let n = next_byte 123 p (bare x) s refl h w in
      let o = next_byte 125 123 (bare r) n.0 refl (sym (bare_blanks b) ∙ n.2) n.3 in
      stands (object (123 ∷ n.0) no_member) o.0 125 n.1 (G.an_empty_object o.1) refl o.2 o.3
  value_same (G.an_object {s = x} b k) f p s h w =
      let n = next_byte 123 p (bare x) s refl h w in
      let i = named_same k 123 n.0 (sym (bare_blanks b) ∙ n.2) n.3 in
      ended_as i n.1 (object (123 ∷ n.0) i.what) (G.an_object i.blanks i.spelled) (ap (object []) i.like)
  value_same (G.an_empty_list {s = x} {r = r} b) f p s h w =
      let n = next_byte 91 p (bare x) s refl h w in
      let o = next_byte 93 91 (bare r) n.0 refl (sym (bare_blanks b) ∙ n.2) n.3 in
      stands (list (91 ∷ n.0) no_element) o.0 93 n.1 (G.an_empty_list o.1) refl o.2 o.3
  value_same (G.a_list {s = x} b k) f p s h w =
      let n = next_byte 91 p (bare x) s refl h w in
      let i = listed_same k 91 n.0 (sym (bare_blanks b) ∙ n.2) n.3 in
      ended_as i n.1 (list (91 ∷ n.0) i.what) (G.a_list i.blanks i.spelled) (ap (list []) i.like)
  value_same (G.a_string {cs = cs} {s = x} c) f p s h w =
      let n = next_quote p (bare_quoted x) s h w in
      let o = chars_same c n.0 n.2 n.3 in
      stands (string (34 ∷ n.0) cs) o.0 34 n.1 (G.a_string o.1) refl o.2 o.3
  value_same (G.a_number d) f p s h w = number_same d f p s h w
  value_same (G.a_true {r = r}) f p s h w =
      let k = word_same 116 (114 ∷ 117 ∷ 101 ∷ []) ((refl, refl), ((refl, refl), ((refl, refl), ((refl, refl), tt)))) p (bare r) s h w in
      stands (bool _ true) k.0 k.1 k.2 G.a_true refl k.3 k.4
  value_same (G.a_false {r = r}) f p s h w =
      let k = word_same 102 (97 ∷ 108 ∷ 115 ∷ 101 ∷ []) ((refl, refl), ((refl, refl), ((refl, refl), ((refl, refl), ((refl, refl), tt))))) p (bare r) s h w in
      stands (bool _ false) k.0 k.1 k.2 G.a_false refl k.3 k.4
  value_same (G.a_null {r = r}) f p s h w =
      let k = word_same 110 (117 ∷ 108 ∷ 108 ∷ []) ((refl, refl), ((refl, refl), ((refl, refl), ((refl, refl), tt)))) p (bare r) s h w in
      stands (null _) k.0 k.1 k.2 G.a_null refl k.3 k.4

  listed_same : {ts : Elements} {x r : List ℕ} → Listed ts x r → Found Listed unplaced_elements ts x r
  listed_same (G.first {t = t} {m = m} v b e) p s h w = element_again (value_same v (stops t m (rw (bare_blanks b) (behind_ends e))) p s h w) b (λ q y i j. behind_same e q y i j)

  behind_same : {ts : Elements} {x r : List ℕ} → Behind ts x r → Found Behind unplaced_elements ts x r
  behind_same (G.bracket {r = r}) p s h w =
      let n = next_byte 93 p (bare r) s refl h w in
      stands no_element n.0 93 n.1 G.bracket refl n.2 n.3
  behind_same (G.next_element {s = x} b k) p s h w =
      let n = next_byte 44 p (bare x) s refl h w in
      let i = listed_same k 44 n.0 (sym (bare_blanks b) ∙ n.2) n.3 in
      ended_as i n.1 i.what (G.next_element i.blanks i.spelled) i.like

  named_same : {ms : Members} {x r : List ℕ} → Named ms x r → Found Named unplaced_members ms x r
  named_same (G.name {t = t} {s = x} {b = y} {d = d} c b b' v b'' k) p s h w =
      let n = next_quote p (bare_quoted x) s h w in
      let o = chars_same c n.0 n.2 n.3 in
      let l = next_byte 58 34 (bare y) o.0 refl (sym (bare_blanks b) ∙ o.2) o.3 in
      member_again n.1 o.1 l.1 (value_same v (stops t d (rw (bare_blanks b'') (follows_ends k))) 58 l.0 (sym (bare_blanks b') ∙ l.2) l.3) b''
      (λ q z i j. follows_same k q z i j)

  follows_same : {ms : Members} {x r : List ℕ} → Follows ms x r → Found Follows unplaced_members ms x r
  follows_same (G.brace {r = r}) p s h w =
      let n = next_byte 125 p (bare r) s refl h w in
      stands no_member n.0 125 n.1 G.brace refl n.2 n.3
  follows_same (G.next_member {s = x} b k) p s h w =
      let n = next_byte 44 p (bare x) s refl h w in
      let i = named_same k 44 n.0 (sym (bare_blanks b) ∙ n.2) n.3 in
      ended_as i n.1 i.what (G.next_member i.blanks i.spelled) i.like

-- Objects, as texts and runs have them.
object_leading : (u : Tree) {ms : Members} {s m r : List ℕ} → Blanks s m → Value u m r → unplaced u ≡ object [] ms → Leading u s r
unfolding unplaced
object_leading (object q ns) b v e = leading b v
object_leading (list q es) b v e = never (cc e)
object_leading (string q cs) b v e = never (cc e)
object_leading (number q ds) b v e = never (cc e)
object_leading (bool q x) b v e = never (cc e)
object_leading (null q) b v e = never (cc e)

-- What no blank parts behind a byte of a word, none parts behind another.
whole_anywhere : (p : ℕ) (s : List ℕ) → whole_after p s ≡ true → whole s ≡ true
unfolding whole whole_after in_word
whole_anywhere p [] w = refl
whole_anywhere p (b ∷ s) w = which (is_blank b) (eqb b 34) w (whole_anywhere p s)
  where
    which : (x y : Bool) → whole_step x y p b s ≡ true → (whole_after p s ≡ true → whole_after 0 s ≡ true) → whole_step x y 0 b s ≡ true
    which true y h k = k (and_right (may_part p (first_byte (bare s))) (whole_after p s) h)
    which false true h k = h
    which false false h k = h

-- The first object of a run, and what is behind it.
pub record LeadingAgain (t : Tree) (r s : List ℕ) : Type 0 where
  pub tree : Tree
  pub rest : List ℕ
  pub leads : Leading tree s rest
  pub like : unplaced tree ≡ unplaced t
  pub same : bare r ≡ bare rest
  pub unparted : whole rest ≡ true

pub respaced_leading : {t : Tree} {x r : List ℕ} → Leading t x r → (s : List ℕ) → bare x ≡ bare s → whole s ≡ true → LeadingAgain t r s
unfolding whole unplaced
respaced_leading (leading b v) s h w =
    let i = value_same v tt 0 s (sym (bare_blanks b) ∙ h) w in
    record {
      tree = i.what;
      rest = i.rest;
      leads = object_leading i.what i.blanks i.spelled i.like;
      like = i.like;
      same = i.same;
      unparted = whole_anywhere i.before i.rest i.unparted;
    }

pub respaced_text : {t : Tree} {x : List ℕ} → Text t x → (s : List ℕ) → bare x ≡ bare s → whole s ≡ true → (u : Tree) × Text u s × (unplaced u ≡ unplaced t)
unfolding bare
respaced_text x s h w =
    let l = text_leading x in
    let i = respaced_leading l.1 s h w in
    (i.tree, leading_text i.leads (all_blanks i.rest (sym (bare_blanks l.2) ∙ i.same)), i.like)
