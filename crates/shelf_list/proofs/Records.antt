-- A record in front of other bytes is found there, and what is found there is a record.
use mathlib.Core.Path.{◌≡◌, refl, ap, sym, subst, ◌∙◌}
use mathlib.Core.List.{List, [], ◌∷◌, ◌++◌}
use mathlib.Core.Bool.{Bool, true, false, cond, ◌&&◌}
use mathlib.Core.Option.{none, some}
use Prim.Native.Nat.{ℕ, ◌+◌, ◌/◌, ◌%◌, ◌≤◌, ◌<◌}
use native.Mathlib.Omega.{arith}
use lib.Dec.{eqb, leb, ltb}
use lib.ListN.{length, take, drop, get_or, length-append, length-drop, take-append-drop}
use lib.Seq.{take_at, drop_at, drop-drop, length-take-le}
use borrow.Author.Tests.{leb-true, le-leb, ltb-true, lt-ltb, eqb-true, eq-eqb}
use Rattle.json_grammar.proofs.Truth.{and_both, and_left, and_right, cond_true, never}
use Rattle.document.specs.Lookup.{same}
use Rattle.document.specs.Posology.{Posology}
use Rattle.document.specs.Valid.{Fits, valid, strings, every}
use Rattle.document.specs.Plain.{plain}
use Rattle.document.specs.Answer.{Read, taken, refused, read}
use Rattle.document.specs.Write.{greatest_room, in_greatest_room}
use Rattle.document.proofs.Same.{same_refl, same_equal}
use Rattle.document_meaning.proofs.Spelled.{accepted_spells}
use Rattle.document_meaning.proofs.PlainTexts.{plain_reads}
use Rattle.document_meaning.proofs.Lengths.{plain_within}
use Rattle.shelf_list.specs.Shelf.{Entry, entry, is_number, both_uses, record_then, size, once, good_entry, good, if_plain, plain_of, number_at, begins}

-- What makes an entry good, part by part.
pub record GoodParts (e : Entry) : Type 0 where
  pub least : 1 ≤ e.number
  pub most : e.number ≤ 65535
  pub is_valid : valid both_uses e.posology ≡ true
  pub fits : Fits greatest_room e.posology

pub number_parts : (n : ℕ) → is_number n ≡ true → (1 ≤ n) × (n ≤ 65535)
number_parts n h = (leb-true 1 n (and_left (leb 1 n) (leb n 65535) h), leb-true n 65535 (and_right (leb 1 n) (leb n 65535) h))

pub good_parts : (e : Entry) → good_entry e ≡ true → GoodParts e
good_parts e h =
    let v = valid both_uses e.posology in
    let f = leb (length (strings e.posology)) greatest_room in
    let n = number_parts e.number (and_left (is_number e.number) (v && f) h) in
    let b = and_right (is_number e.number) (v && f) h in
    let short = leb-true (length (strings e.posology)) greatest_room (and_right v f b) in
    record { least = n.0; most = n.1; is_valid = and_left v f b; fits = short }

pub parts_good : (e : Entry) → GoodParts e → good_entry e ≡ true
parts_good e g =
    and_both (and_both (le-leb 1 e.number g.least) (le-leb e.number 65535 g.most))
    (and_both g.is_valid (le-leb (length (strings e.posology)) greatest_room g.fits))

pub good_each : (es : List Entry) → good es ≡ true → every good_entry es ≡ true
good_each es g = and_left (every good_entry es) (once es) g

pub good_once : (es : List Entry) → good es ≡ true → once es ≡ true
good_once es g = and_right (every good_entry es) (once es) g

-- A plain text for use 3 is the plain text of what it reads to, and no other text is.
pub plain_of_plain : (p : Posology) → valid both_uses p ≡ true → Fits greatest_room p → plain_of (plain p) ≡ some p
unfolding plain_of
plain_of_plain p v f =
    ap (if_plain (plain p)) (plain_reads (in_greatest_room both_uses) p (refl, v) f f)
    ∙ cond_true (same (plain p) (plain p)) (some p) none (same_refl (plain p))

pub record IsPlain (text : List ℕ) (p : Posology) : Type 0 where
  pub text_is : plain p ≡ text
  pub is_valid : valid both_uses p ≡ true
  pub fits : Fits greatest_room p

pub plain_of_text : (text : List ℕ) (p : Posology) → plain_of text ≡ some p → IsPlain text p
unfolding plain_of
plain_of_text text p h = go (read (in_greatest_room both_uses) text) refl h
  where
    same_then : (q : Posology) (b : Bool) → same (plain q) text ≡ b → cond b (some q) none ≡ some p → (plain q ≡ text) × (q ≡ p)
    same_then q true s e = (same_equal (plain q) text s, cc)
    same_then q false s e = never (cc)

    go : (r : Read) → read (in_greatest_room both_uses) text ≡ r → if_plain text r ≡ some p → IsPlain text p
    go (taken q) e k =
        let s = same_then q (same (plain q) text) refl k in
        let a = accepted_spells (in_greatest_room both_uses) text q e in
        subst (λ (x : Posology). IsPlain text x) s.1 (record { text_is = s.0; is_valid = a.1.1; fits = a.3 })
    go (refused n place) e k = never (cc)

-- A head and the bytes that it speaks of, part by part.
pub record Begun (a : List ℕ) : Type 0 where
  pub long : 6 + number_at a 4 ≤ length a
  pub first_mark : get_or a 0 0 ≡ 0x50
  pub second_mark : get_or a 1 0 ≡ 0x6F
  pub least : 1 ≤ number_at a 2
  pub most : number_at a 2 ≤ 65535
  pub number_low : get_or a 3 0 < 256
  pub length_low : get_or a 5 0 < 256

pub begun_begins : (a : List ℕ) → Begun a → begins a ≡ true
unfolding begins
begun_begins a h =
    let t₁ = and_both (le-leb (6 + number_at a 4) (length a) h.long) (eq-eqb (get_or a 0 0) 0x50 h.first_mark) in
    let t₂ = and_both t₁ (eq-eqb (get_or a 1 0) 0x6F h.second_mark) in
    let t₃ = and_both t₂ (and_both (le-leb 1 (number_at a 2) h.least) (le-leb (number_at a 2) 65535 h.most)) in
    let t₄ = and_both t₃ (lt-ltb (get_or a 3 0) 256 h.number_low) in
    and_both t₄ (lt-ltb (get_or a 5 0) 256 h.length_low)

pub begins_begun : (a : List ℕ) → begins a ≡ true → Begun a
unfolding begins
begins_begun a h =
    let t₀ = leb (6 + number_at a 4) (length a) in
    let t₁ = eqb (get_or a 0 0) 0x50 in
    let t₂ = eqb (get_or a 1 0) 0x6F in
    let t₃ = is_number (number_at a 2) in
    let t₄ = ltb (get_or a 3 0) 256 in
    let t₅ = ltb (get_or a 5 0) 256 in
    let h₄ = and_left (t₀ && t₁ && t₂ && t₃ && t₄) t₅ h in
    let h₃ = and_left (t₀ && t₁ && t₂ && t₃) t₄ h₄ in
    let h₂ = and_left (t₀ && t₁ && t₂) t₃ h₃ in
    let h₁ = and_left (t₀ && t₁) t₂ h₂ in
    let n = number_parts (number_at a 2) (and_right (t₀ && t₁ && t₂) t₃ h₃) in
    record {
      long = leb-true (6 + number_at a 4) (length a) (and_left t₀ t₁ h₁);
      first_mark = eqb-true (get_or a 0 0) 0x50 (and_right t₀ t₁ h₁);
      second_mark = eqb-true (get_or a 1 0) 0x6F (and_right (t₀ && t₁) t₂ h₂);
      least = n.0;
      most = n.1;
      number_low = ltb-true (get_or a 3 0) 256 (and_right (t₀ && t₁ && t₂ && t₃) t₄ h₄);
      length_low = ltb-true (get_or a 5 0) 256 (and_right (t₀ && t₁ && t₂ && t₃ && t₄) t₅ h);
    }

-- A record's parts, where it stands in front of k.
module _ (e : Entry) (k : List ℕ) (g : GoodParts e) where
  pub number_back : number_at (record_then e k) 2 ≡ e.number
  unfolding record_then
  number_back = omega arith

  length_back : number_at (record_then e k) 4 ≡ length (plain e.posology)
  unfolding record_then
  length_back = omega arith

  behind_head : drop 6 (record_then e k) ≡ plain e.posology ++ k
  unfolding record_then
  behind_head = refl

  pub record_length : length (record_then e k) ≡ size e + length k
  unfolding record_then
  record_length = let a = length-append (plain e.posology) k in omega arith

  record_begun : Begun (record_then e k)
  unfolding record_then
  record_begun =
      let l = length-append (plain e.posology) k in
      let s = plain_within both_uses e.posology g.is_valid g.fits in
      let low = g.least in
      let high = g.most in
      record {
        long = omega arith;
        first_mark = refl;
        second_mark = refl;
        least = omega arith;
        most = omega arith;
        number_low = omega arith;
        length_low = omega arith;
      }

  pub record_begins : begins (record_then e k) ≡ true
  record_begins = begun_begins (record_then e k) record_begun

  pub record_text_lem : plain_of (take (number_at (record_then e k) 4) (drop 6 (record_then e k))) ≡ some e.posology
  record_text_lem =
      ap (λ (n : ℕ). plain_of (take n (drop 6 (record_then e k)))) length_back
      ∙ ap (λ (s : List ℕ). plain_of (take (length (plain e.posology)) s)) behind_head
      ∙ ap plain_of (take_at (plain e.posology) k (length (plain e.posology)) refl)
      ∙ plain_of_plain e.posology g.is_valid g.fits

  pub record_behind : drop (6 + number_at (record_then e k) 4) (record_then e k) ≡ k
  record_behind =
      ap (λ (n : ℕ). drop (6 + n) (record_then e k)) length_back
      ∙ sym (drop-drop (length (plain e.posology)) 6 (record_then e k))
      ∙ ap (drop (length (plain e.posology))) behind_head
      ∙ drop_at (plain e.posology) k (length (plain e.posology)) refl

-- A head in front of its bytes is a record, where those are a plain text.
six : (a : List ℕ) → 6 ≤ length a → a ≡ get_or a 0 0 ∷ get_or a 1 0 ∷ get_or a 2 0 ∷ get_or a 3 0 ∷ get_or a 4 0 ∷ get_or a 5 0 ∷ drop 6 a
six [] h = absurd (omega arith)
six (a ∷ []) h = absurd (omega arith)
six (a ∷ b ∷ []) h = absurd (omega arith)
six (a ∷ b ∷ c ∷ []) h = absurd (omega arith)
six (a ∷ b ∷ c ∷ d ∷ []) h = absurd (omega arith)
six (a ∷ b ∷ c ∷ d ∷ e ∷ []) h = absurd (omega arith)
six (a ∷ b ∷ c ∷ d ∷ e ∷ f ∷ k) h = refl

pub record Here (a : List ℕ) (p : Posology) : Type 0 where
  pub bytes : record_then (entry (number_at a 2) p) (drop (6 + number_at a 4) a) ≡ a
  pub is_good : good_entry (entry (number_at a 2) p) ≡ true

pub record_here : (a : List ℕ) (p : Posology) → begins a ≡ true → plain_of (take (number_at a 4) (drop 6 a)) ≡ some p → Here a p
unfolding record_then
record_here a p b t =
    let h = begins_begun a b in
    let i = plain_of_text (take (number_at a 4) (drop 6 a)) p t in
    let n = number_at a 2 in
    let l = number_at a 4 in
    let rest = length-drop 6 a in
    let long = h.long in
    let small = h.number_low in
    let small' = h.length_low in
    let size_is : length (plain p) ≡ l = ap length i.text_is ∙ length-take-le l (drop 6 a) (omega arith) in
    let text_then : plain p ++ drop (6 + l) a ≡ drop 6 a =
    ap (λ (s : List ℕ). s ++ drop (6 + l) a) i.text_is
    ∙ ap (λ (s : List ℕ). take l (drop 6 a) ++ s) (sym (drop-drop l 6 a))
    ∙ take-append-drop l (drop 6 a) in
    let n₀ : n / 256 ≡ get_or a 2 0 = omega arith in
    let n₁ : n % 256 ≡ get_or a 3 0 = omega arith in
    let l₀ : length (plain p) / 256 ≡ get_or a 4 0 = ap (λ (x : ℕ). x / 256) size_is ∙ omega arith in
    let l₁ : length (plain p) % 256 ≡ get_or a 5 0 = ap (λ (x : ℕ). x % 256) size_is ∙ omega arith in
    record {
      bytes = cc (six a (omega arith), h.first_mark, h.second_mark);
      is_good = parts_good (entry n p) (record { least = h.least; most = h.most; is_valid = i.is_valid; fits = i.fits });
    }

-- Its size, as the head says it.
pub record_size : (a : List ℕ) (p : Posology) → begins a ≡ true → plain_of (take (number_at a 4) (drop 6 a)) ≡ some p
    → size (entry (number_at a 2) p) ≡ 6 + number_at a 4
record_size a p b t =
    let h = begins_begun a b in
    let i = plain_of_text (take (number_at a 4) (drop 6 a)) p t in
    let long = h.long in
    let rest = length-drop 6 a in
    let l : length (plain p) ≡ number_at a 4 = ap length i.text_is ∙ length-take-le (number_at a 4) (drop 6 a) (omega arith) in
    omega arith
