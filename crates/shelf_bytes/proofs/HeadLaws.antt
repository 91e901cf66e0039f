-- A record at a place, from the bytes there; zeros from a place on.
use mathlib.Core.Path.{◌≡◌, refl, ap, sym, ◌∙◌}
use mathlib.Core.List.{List, [], ◌∷◌}
use mathlib.Core.Bool.{Bool, true, false, ◌&&◌}
use Prim.Native.Nat.{ℕ, suc, ◌+◌, ◌≤◌, ◌<◌}
use native.Mathlib.Omega.{arith}
use native.Mathlib.Numerals.{add-one}
use lib.Dec.{eqb}
use lib.ListN.{length, drop, get_or, length-drop, drop_of_length-le}
use lib.Seq.{get_or-drop, drop-cons}
use borrow.Author.Tests.{ne_eqb, eq-eqb}
use Rattle.std.proofs.Common.{Option, Some, None}
use Rattle.std.proofs.lemmas.Bool.Decides.{Decides-eqb}
use Rattle.std.proofs.lemmas.Slice.Eq.{starts_is}
use Rattle.std.specs.List.{list_all, starts_with}
use Rattle.json_grammar.proofs.Truth.{cond_true, cond_false, never, never_true}
use Rattle.shelf_list.specs.Shelf.{is_zeros, number_at, begins}
use Rattle.shelf_list.proofs.Records.{Begun, begun_begins, begins_begun}
use Rattle.shelf_bytes.specs.Layout.{head_size}

pub number_in : (a : List ℕ) (i k : ℕ) → number_at (drop i a) k ≡ number_at a (i + k)
number_in a i k =
    let x = get_or-drop i a k 0 in
    let e : i + suc k ≡ suc (i + k) = omega arith in
    let y : get_or (drop i a) (suc k) 0 ≡ get_or a (suc (i + k)) 0 = get_or-drop i a (suc k) 0 ∙ ap (λ (n : ℕ). get_or a n 0) e in
    omega arith

-- The first two bytes, as the code compares them.
abbrev mark : List ℕ
mark = 0x50 ∷ 0x6F ∷ []

pub marked_first : (r : List ℕ) → starts_with eqb r mark ≡ true → (get_or r 0 0 ≡ 0x50) × (get_or r 1 0 ≡ 0x6F)
marked_first r h =
    let e = (starts_is Decides-eqb r mark (starts_with eqb r mark) refl).0 h in
    (ap (λ (t : List ℕ). get_or t 0 0) e, ap (λ (t : List ℕ). get_or t 1 0) e)

pub first_marked : (r : List ℕ) → get_or r 0 0 ≡ 0x50 → get_or r 1 0 ≡ 0x6F → starts_with eqb r mark ≡ true
first_marked [] e f = never (cc)
first_marked (x ∷ []) e f = never (cc)
first_marked (x ∷ y ∷ r) e f = (starts_is Decides-eqb (x ∷ y ∷ r) mark (starts_with eqb (x ∷ y ∷ r) mark) refl).1 r (cc)

pub size_none : (a : List ℕ) (i : ℕ) {r : List ℕ} → r ≡ drop i a → (Begun r → ⊥) → ◌≡◌ {A = Option ℕ} None (head_size a i)
unfolding head_size
size_none a i {r} e h =
    let no = never_true (begins r) (λ b. h (begins_begun r b)) in
    rw (← e) (sym (cond_false (begins r) (Some (6 + number_at r 4)) None (sym no)))

pub size_some : (a : List ℕ) (i : ℕ) {r : List ℕ} → r ≡ drop i a → ((k : ℕ) → get_or a k 0 < 256) → (get_or r 0 0 ≡ 0x50) × (get_or r 1 0 ≡ 0x6F)
    → 1 ≤ number_at r 2 → 6 + number_at r 4 ≤ length r → ◌≡◌ {A = Option ℕ} (Some (6 + number_at r 4)) (head_size a i)
unfolding head_size
size_some a i {r} e byte marks least long =
    let low : (k : ℕ) → get_or r k 0 < 256 = λ k. rw (e, get_or-drop i a k 0) (byte (i + k)) in
    let most : number_at r 2 ≤ 65535 = omega (arith, low 2, low 3) in
    let h : Begun r =
    record { long = long; first_mark = marks.0; second_mark = marks.1; least = least; most = most; number_low = low 3; length_low = low 5 } in
    rw (← e) (sym (cond_true (begins r) (Some (6 + number_at r 4)) None (begun_begins r h)))

-- Behind the last byte none begins.
pub size_behind : (a : List ℕ) (i : ℕ) → length a < i → ◌≡◌ {A = Option ℕ} None (head_size a i)
size_behind a i l = size_none a i refl (λ b. let h = b.long in omega (arith, length-drop i a))

pub all_zeros : (a : List ℕ) → list_all (λ (b : ℕ). eqb b 0) a ≡ is_zeros a
all_zeros [] = refl
all_zeros (b ∷ a) = ap (λ (z : Bool). eqb b 0 && z) (all_zeros a)

pub zeros_step : (a : List ℕ) (i : ℕ) → i < length a → get_or a i 0 ≡ 0 → is_zeros (drop i a) ≡ is_zeros (drop (i + 1) a)
zeros_step a i l e =
    ap is_zeros (drop-cons a i 0 l)
    ∙ ap (λ (b : Bool). b && is_zeros (drop (suc i) a)) (eq-eqb (get_or a i 0) 0 e)
    ∙ ap (λ (n : ℕ). is_zeros (drop n a)) (sym (add-one i))

pub zeros_not : (a : List ℕ) (i : ℕ) → i < length a → (get_or a i 0 ≡ 0 → ⊥) → is_zeros (drop i a) ≡ false
zeros_not a i l d =
    ap is_zeros (drop-cons a i 0 l)
    ∙ ap (λ (b : Bool). b && is_zeros (drop (suc i) a)) (ne_eqb (get_or a i 0) 0 d)

pub zeros_end : (a : List ℕ) (i : ℕ) → length a ≤ i → is_zeros (drop i a) ≡ true
zeros_end a i l = ap is_zeros (drop_of_length-le a l)
