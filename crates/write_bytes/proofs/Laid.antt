-- One text laid behind another.
use mathlib.Core.Path.{◌≡◌, refl, ap, sym, ◌∙◌}
use mathlib.Core.List.{List, [], ◌∷◌, ◌++◌, append_assoc, append_cancel_right}
use mathlib.Core.Bool.{Bool, true, false, cond, false≢true}
use Prim.Native.Nat.{ℕ, zero, suc, ◌+◌, ◌<◌, ◌≤◌, min}
use native.Mathlib.Omega.{arith}
use borrow.Author.Tests.{leb-true, leb-false}
use lib.Dec.{leb}
use lib.ListN.{length, take, drop, get_or, set, length-set, length-append, take-append-drop}
use Rattle.std.proofs.Common.{length-take-le}
use lib.Seq.{sets, length-sets, set_out}
use Rattle.std.proofs.lemmas.List.{take_more}
use Rattle.std.proofs.lemmas.Slice.{put_mid-paste}
use Rattle.std.proofs.lemmas.List.Edits.{paste_all, sets-eq}
use borrow.Rule.Slice.PartMut.{put_mid}
use Rattle.json_grammar.proofs.Stores.{sets_append}
use Rattle.write_bytes.specs.Plain.{is_plain}
use Rattle.write_bytes.specs.Puts.{greatest_place, up_to, Puts, Lays}
use Rattle.write_bytes.specs.declared.Output.{Output}

pub up_to_lem : (n : ℕ) → up_to n ≡ min n greatest_place
up_to_lem n = go (leb n greatest_place) refl
  where
    go : (b : Bool) → leb n greatest_place ≡ b → cond b n greatest_place ≡ min n greatest_place
    go true e = omega (arith, leb-true n greatest_place e)
    go false e = omega (arith, leb-false n greatest_place e)

pub sets_beyond : (l : List ℕ) (a : ℕ) (xs : List ℕ) → length l ≤ a → sets l a xs ≡ l
sets_beyond l a [] h = refl
sets_beyond l a (x ∷ xs) h = let e = length-set l a x in sets_beyond (set l a x) (suc a) xs (omega arith) ∙ set_out l a x h

-- Where a place is beyond the greatest, nothing is laid from either.
sets_stopped : (l : List ℕ) (a : ℕ) (xs : List ℕ) → length l ≤ greatest_place → sets l (up_to a) xs ≡ sets l a xs
sets_stopped l a xs h = go (leb a greatest_place) refl
  where
    go : (b : Bool) → leb a greatest_place ≡ b → sets l (cond b a greatest_place) xs ≡ sets l a xs
    go true e = refl
    go false e = sets_beyond l greatest_place xs h ∙ sym (sets_beyond l a xs (omega (arith, leb-false a greatest_place e)))

-- Bytes copied over a part of the buffer: all of them, or as many as it reaches.
pub copied_all : (at : ℕ) (l bytes : List ℕ) {n : ℕ} {copied : List ℕ} → copied ≡ bytes → n ≡ length bytes → at + length bytes ≤ length l → put_mid at n l copied ≡ sets l at bytes
copied_all at l bytes {n} {copied} e f fits =
    put_mid-paste at n l copied bytes (length bytes) e (sym f) refl
    ∙ paste_all l at bytes (length bytes) refl
    ∙ sym (append_assoc (take at l) bytes (drop (at + length bytes) l))
    ∙ sym (sets-eq bytes l at fits)

pub copied_front : (at : ℕ) (l bytes : List ℕ) {n : ℕ} {copied : List ℕ} → copied ≡ take n bytes → n ≤ length bytes → at + n ≡ length l → put_mid at n l copied ≡ sets l at bytes
copied_front at l bytes {n} {copied} e h fits =
    let t = length-take-le n bytes h in
    let whole : length (sets l at (take n bytes)) ≤ at + length (take n bytes) = omega (arith, t, length-sets l at (take n bytes)) in
    copied_all at l (take n bytes) e (sym t) (omega (arith, t))
    ∙ sym (sets_beyond (sets l at (take n bytes)) (at + length (take n bytes)) (drop n bytes) whole)
    ∙ sym (sets_append (take n bytes) (drop n bytes) l at)
    ∙ ap (sets l at) (take-append-drop n bytes)

-- Bytes stored one by one, and one more.
pub stored_one : (l bytes : List ℕ) (at i : ℕ) → i < length bytes → set (sets l at (take i bytes)) (at + i) (get_or bytes i 0) ≡ sets l at (take (i + 1) bytes)
stored_one l bytes at i h =
    let b = get_or bytes i 0 in
    let t = length-take-le i bytes (omega arith) in
    sym (ap (sets l at) (take_more bytes i 0 h) ∙ sets_append (take i bytes) (b ∷ []) l at ∙ ap (λ (n : ℕ). set (sets l at (take i bytes)) (at + n) b) t)

-- Where the first byte stands for itself and this one does not, this is another.
pub behind_first : (bytes : List ℕ) (i : ℕ) {r : Bool} → r ≡ is_plain (get_or bytes i 0) → r ≡ false → is_plain (get_or bytes 0 0) ≡ true → 0 < i
behind_first bytes zero e f p = absurd (false≢true (sym f ∙ e ∙ p))
behind_first bytes (suc i) e f p = omega arith

-- Bytes that all have room.
pub puts_room : {before after : List ℕ} (from : ℕ) (bytes : List ℕ) → from + length bytes ≤ greatest_place → after ≡ sets before from bytes → (k : List ℕ) → Puts before from (bytes ++ k) k (from + length bytes) after
puts_room from bytes h e k = record {
  bytes = bytes;
  in_front = refl;
  place = λ _. omega (arith, up_to_lem (from + length bytes));
  laid = λ _ _. e;
}

pub puts_none : (buffer : List ℕ) (from : ℕ) (text : List ℕ) → Puts buffer from text text from buffer
puts_none buffer from text = record {
  bytes = [];
  in_front = refl;
  place = λ h. omega (arith, up_to_lem (from + 0));
  laid = λ _ _. refl;
}

pub puts_then : {before : List ℕ} {from : ℕ} {text mid rest : List ℕ} {r s : ℕ} {between after : List ℕ} → Puts before from text mid r between → Puts between r mid rest s after → Puts before from text rest s after
puts_then {before} {from} {text} {mid} {rest} {r} {s} {between} {after} p q =
    let xs = p.bytes in
    let ys = q.bytes in
    let near : from ≤ greatest_place → r ≤ greatest_place = λ h. omega (arith, p.place h, up_to_lem (from + length xs)) in
    record {
      bytes = xs ++ ys;
      in_front = p.in_front ∙ ap (λ (t : List ℕ). xs ++ t) q.in_front ∙ sym (append_assoc xs ys rest);
      place = λ h. omega (arith, p.place h, q.place (near h), up_to_lem (from + length xs), up_to_lem (r + length ys), up_to_lem (from + length (xs ++ ys)), length-append xs ys);
      laid = λ h l.
          let first = p.laid h l in
          let fits : length (sets before from xs) ≤ greatest_place = omega (arith, length-sets before from xs) in
          q.laid (near h) (rw first fits)
          ∙ rw (first, p.place h) (sets_stopped (sets before from xs) (from + length xs) ys fits)
          ∙ sym (sets_append xs ys before from);
    }

-- The same text, said in another way.
pub puts_as : {before : List ℕ} {from : ℕ} {text other rest : List ℕ} {r : ℕ} {after : List ℕ} → text ≡ other → Puts before from other rest r after → Puts before from text rest r after
puts_as e p = record { bytes = p.bytes; in_front = e ∙ p.in_front; place = p.place; laid = p.laid }

-- Two answers that are allowed are the same.
pub puts_one : {before : List ℕ} {from : ℕ} {text rest : List ℕ} {r s : ℕ} {after other : List ℕ} → from ≤ greatest_place → length before ≤ greatest_place → Puts before from text rest r after → Puts before from text rest s other → (r ≡ s) × (after ≡ other)
puts_one {before} {from} {text} {rest} h g p q =
    let same : p.bytes ≡ q.bytes = append_cancel_right p.bytes q.bytes rest (sym p.in_front ∙ q.in_front) in (
      p.place h ∙ ap (λ (xs : List ℕ). up_to (from + length xs)) same ∙ sym (q.place h),
      p.laid h g ∙ ap (sets before from) same ∙ sym (q.laid h g),
    )

-- ---- an output
pub lays_none : (out : Output) (text : List ℕ) → Lays out text text out
lays_none out text = record { same_buffer = refl; puts = puts_none out.buffer.now out.at text }

pub lays_then : {before between after : Output} {text mid rest : List ℕ} → Lays before text mid between → Lays between mid rest after → Lays before text rest after
lays_then p q = record { same_buffer = q.same_buffer ∙ p.same_buffer; puts = puts_then p.puts q.puts }

pub lays_as : {before after : Output} {text other rest : List ℕ} → text ≡ other → Lays before other rest after → Lays before text rest after
lays_as e p = record { same_buffer = p.same_buffer; puts = puts_as e p.puts }

-- An output at its end, over the buffer that it took.
pub lays_in : {buffer last : List ℕ} {from : ℕ} {before after : Output} {text rest : List ℕ} → (before.buffer.now ≡ buffer) × (before.at ≡ from) → last ≡ after.buffer.now → Lays before text rest after → Puts buffer from text rest after.at last
lays_in e l p = rw (← e.0, ← e.1, l) p.puts

-- Bytes stored in `mid` as far as it reaches.
pub lays_bytes : {before : Output} (mid : Output) (bytes : List ℕ) → (mid.buffer.ghost_name ≡ before.buffer.ghost_name) × (mid.buffer.now ≡ sets before.buffer.now before.at bytes)
    → {r : ℕ} → r ≡ min (before.at + length bytes) greatest_place → (k : List ℕ) → Lays before (bytes ++ k) k record { buffer = mid.buffer; at = r }
lays_bytes {before} mid bytes e f k = record {
  same_buffer = e.0;
  puts = record { bytes = bytes; in_front = refl; place = λ _. f ∙ sym (up_to_lem (before.at + length bytes)); laid = λ _ _. e.1 };
}

pub lays_room : {before after : Output} (bytes : List ℕ) → after.buffer.ghost_name ≡ before.buffer.ghost_name → after.at ≡ before.at + length bytes → after.buffer.now ≡ sets before.buffer.now before.at bytes
    → before.at + length bytes ≤ greatest_place → (k : List ℕ) → Lays before (bytes ++ k) k after
lays_room {before} {after} bytes same place now h k = record { same_buffer = same; puts = rw place (puts_room before.at bytes h now k) }
