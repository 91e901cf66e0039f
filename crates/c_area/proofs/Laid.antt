-- A table laid out in two goes, its head's numbers and its records', fills the area.
use Prim.Native.Nat.{ℕ, ◌+◌, ◌*◌}
use mathlib.Core.Path.{◌≡◌, refl, sym, ap, ◌∙◌}
use mathlib.Core.List.{List, [], ◌∷◌, ◌++◌}
use native.Mathlib.Omega.{arith}
use lib.ListN.{length, length-append}
use lib.Seq.{sets}
use Rattle.document.specs.Words.{words_at_most, date_words, head_words}
use Rattle.document.specs.declared.table.Date.{Date}
use Rattle.document.specs.declared.table.Date.TheVariants as D
use Rattle.document.specs.declared.table.Head.{Head}
use Rattle.c_numbers.specs.Eights.{all_bytes}
use Rattle.json_grammar.proofs.Stores.{sets_append}
use Rattle.c_numbers.proofs.Bytes.{sets_whole, all_length, all_append}

date_front : (d : Date) (k r : List ℕ) → date_words d k ++ r ≡ date_words d (k ++ r)
date_front D.Absent k r = refl
date_front (D.Bare y m d) k r = refl
date_front (D.Moment y m d s west z) k r = refl

pub head_front : (h : Head) (k r : List ℕ) → head_words h k ++ r ≡ head_words h (k ++ r)
head_front h k r = date_front h.from _ r ∙ ap (date_words h.from) (date_front h.to _ r)

pub date_length : (d : Date) (k : List ℕ) → length (date_words d k) ≡ length k + 7
date_length D.Absent k = omega arith
date_length (D.Bare y m d) k = omega arith
date_length (D.Moment y m d s west z) k = omega arith

pub head_length : (h : Head) (m n : ℕ) → length (head_words h (m ∷ n ∷ [])) ≡ 26
head_length h m n = date_length h.from _ ∙ ap (λ (i : ℕ). i + 7) (date_length h.to _)

pub laid_out : (h : Head) (m n : ℕ) (ws hs a : List ℕ) → hs ≡ head_words h (m ∷ n ∷ []) → length ws ≡ words_at_most → length a ≡ 3280
    → sets (sets a 0 (all_bytes hs)) 208 (all_bytes ws) ≡ all_bytes (head_words h (m ∷ n ∷ ws))
laid_out h m n ws hs a e k l =
    let all : hs ++ ws ≡ head_words h (m ∷ n ∷ ws) = ap (λ (x : List ℕ). x ++ ws) e ∙ head_front h _ _ in
    let front : length hs ≡ 26 = ap length e ∙ head_length h m n in
    let behind : 208 ≡ 0 + length (all_bytes hs) = omega (arith, all_length hs) in
    let whole : length (all_bytes (hs ++ ws)) ≡ length a = all_length (hs ++ ws) ∙ ap (λ (i : ℕ). i * 8) (length-append hs ws) ∙ omega arith in
    ap (λ (i : ℕ). sets (sets a 0 (all_bytes hs)) i (all_bytes ws)) behind
    ∙ sym (sets_append (all_bytes hs) (all_bytes ws) a 0)
    ∙ ap (sets a 0) (sym (all_append hs ws))
    ∙ sets_whole (all_bytes (hs ++ ws)) a whole
    ∙ ap all_bytes all
