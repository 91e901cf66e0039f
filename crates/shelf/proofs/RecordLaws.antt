-- A record at a place, from what the code looks at: its head, its number, its text.
use mathlib.Core.Path.{◌≡◌, ap, sym, ◌∙◌}
use mathlib.Core.List.{List}
use mathlib.Core.Bool.{Bool, true, false, ◌&&◌, true≢false}
use Prim.Native.Nat.{ℕ, ◌+◌, ◌-◌, ◌≤◌}
use native.Mathlib.Omega.{arith}
use lib.ListN.{length, take, drop, length-drop}
use lib.Seq.{drop-drop}
use Rattle.std.specs.Prelude.{Some, None}
use Rattle.std.specs.Bool.{then_some}
use Rattle.std.proofs.lemmas.Option.{cond_some, none-some}
use Rattle.json_grammar.proofs.Truth.{and_both, cond_true, cond_false, never_true}
use Rattle.shelf_list.specs.Shelf.{number_at, begins, is_plain}
use Rattle.shelf_list.proofs.Records.{begins_begun}
use Rattle.shelf_list.proofs.Lists.{and_false}
use Rattle.shelf_bytes.specs.Marks.{mark, is_new, Notes}
use Rattle.shelf_bytes.specs.Layout.{head_size}
use Rattle.shelf_bytes.proofs.HeadLaws.{number_in}
use Rattle.shelf.specs.Survey.{text_at, is_record, Passes}

head_here : (a : List ℕ) (i n : ℕ) → Some n ≡ head_size a i → (begins (drop i a) ≡ true) × (n ≡ 6 + number_at (drop i a) 4)
unfolding head_size
head_here a i n e = let h = cond_some (begins (drop i a)) (6 + number_at (drop i a) 4) n (sym e) in (h.0, sym h.1)

-- A record lies in the area.
pub lies_inside : (a : List ℕ) (i : ℕ) → begins (drop i a) ≡ true → i + (6 + number_at (drop i a) 4) ≤ length a
lies_inside a i b = let h = (begins_begun (drop i a) b).long in let l = length-drop i a in omega arith

pub head_fits : (a : List ℕ) (i n : ℕ) → Some n ≡ head_size a i → (6 ≤ n) × (i + n ≤ length a)
head_fits a i n e = let h = head_here a i n e in let l = lies_inside a i h.0 in let m = h.1 in (omega arith, omega arith)

text_is : (a : List ℕ) (i n : ℕ) → n ≡ 6 + number_at (drop i a) 4 → take ((i + n) - (i + 6)) (drop (i + 6) a) ≡ text_at a i
text_is a i n e =
    let m : (i + n) - (i + 6) ≡ number_at (drop i a) 4 = omega arith in
    ap (λ (k : ℕ). take k (drop (i + 6) a)) m ∙ ap (take (number_at (drop i a) 4)) (sym (drop-drop 6 i a))

module _ (set a : List ℕ) (i : ℕ) where
  no_record : {set' : List ℕ} → is_record set a i ≡ false → Passes set a i None set'
  no_record h =
      record {
        size = sym (cond_false (is_record set a i) (Some (6 + number_at (drop i a) 4)) None h);
        noted = λ t. absurd (true≢false (sym t ∙ h));
      }

  pub no_head : {set' : List ℕ} → None ≡ head_size a i → Passes set a i None set'
  unfolding is_record head_size
  no_head h =
      no_record
      (ap (λ (b : Bool). b && is_new set (number_at (drop i a) 2) && is_plain (text_at a i)) (sym (never_true (begins (drop i a)) no)))
    where
      no : begins (drop i a) ≡ true → ⊥
      no b = none-some (6 + number_at (drop i a) 4) (h ∙ cond_true (begins (drop i a)) (Some (6 + number_at (drop i a) 4)) None b)

  module _ (number : ℕ) (is : number ≡ number_at a (i + 2)) where
    same_number : number ≡ number_at (drop i a) 2
    same_number = is ∙ sym (number_in a i 2)

    pub stood_before : {set' set'' : List ℕ} → Notes set number false set' → Passes set a i None set''
    unfolding is_record
    stood_before n =
        let stood : is_new set (number_at (drop i a) 2) ≡ false = ap (is_new set) (sym same_number) ∙ sym n.new in
        no_record (ap (λ (b : Bool). b && is_plain (text_at a i)) (and_false (begins (drop i a)) (is_new set (number_at (drop i a) 2)) stood))

    pub passed : {set' : List ℕ} (n : ℕ) → Some n ≡ head_size a i → Notes set number true set'
        → (p : Bool) → p ≡ is_plain (take ((i + n) - (i + 6)) (drop (i + 6) a)) → Passes set a i (then_some p n) set'
    unfolding is_record
    passed n e k false p =
        no_record
        (and_false (begins (drop i a) && is_new set (number_at (drop i a) 2)) (is_plain (text_at a i))
        (ap is_plain (sym (text_is a i n (head_here a i n e).1)) ∙ sym p))
    passed n e k true p =
        let h = head_here a i n e in
        let new : is_new set (number_at (drop i a) 2) ≡ true = ap (is_new set) (sym same_number) ∙ sym k.new in
        let plain : is_plain (text_at a i) ≡ true = ap is_plain (sym (text_is a i n h.1)) ∙ sym p in
        let t : is_record set a i ≡ true = and_both (and_both h.0 new) plain in
        record {
          size = ap Some h.1 ∙ sym (cond_true (is_record set a i) (Some (6 + number_at (drop i a) 4)) None t);
          noted = λ _. k.left ∙ cond_true (is_new set number) (mark set number) set (sym k.new) ∙ ap (mark set) same_number;
        }
