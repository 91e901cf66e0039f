-- The members of an object, gone through one after the other: their names and the slots of their values.
use Prim.Native.Nat.{ℕ, zero, suc, ◌+◌, ◌-◌, ◌<◌, ◌≤◌}
use mathlib.Core.Path.{◌≡◌, refl, sym, ap, subst, ◌∙◌}
use mathlib.Core.List.{List, [], ◌∷◌}
use mathlib.Core.Bool.{Bool, true, false, ◌||◌}
use lib.ListN.{length, get_or, drop, length-drop}
use lib.Dec.{eqb}
use native.Mathlib.Numerals.{add-one}
use native.Mathlib.Omega.{arith}
use Rattle.json_grammar.specs.Tree.{Place, object, Members, no_member, member, Moves}
use Rattle.json_move.specs.Moving.{first_in, next_after, at_end, value_of as behind_name}
use Rattle.json_move.specs.Read.{decoded, tree_at, members_at}
use Rattle.json_laws.proofs.Moved.{members_in_lem}
use Rattle.document.specs.Lookup.{same, has, repeated}
use Rattle.document.specs.Visit.{entries_of}
use Rattle.document.specs.At.{At}
use Rattle.document.proofs.Same.{same_equal}
use Rattle.read_names.specs.Names.{spelled, name_of, names_from, number_of, place_in, Settled}
use Rattle.read_names.specs.declared.names.Name.{Name}
use Rattle.std.specs.Prelude.{Option, Some}
use Rattle.read_names.specs.declared.slots.Slots.{Slots}
use Rattle.std.specs.Prelude.{Ok, Err}
use Rattle.std.specs.Option.{is_some}
use Rattle.read_names.proofs.Naming.{number_small, numbered}
use Rattle.read_names.proofs.Numbered.{name_is, named_same}
use Rattle.read_names.proofs.Before.{behind, behind_more, names_more}
use Rattle.read_names.proofs.Rest.{Rest, Stands, rest_in, rest_one, rest_none, stands_at, first_above}
use Rattle.read_names.proofs.Slotted.{entry, Slotted, free, slotted_end, slotted_has, slotted_other, slotted_here, Noted}

-- ---- so many steps are enough
abbrev others_of : Members → Members
others_of no_member = no_member
others_of (member q n t ms) = ms

pub members_more : (k : ℕ) (s : Place) → 0 < k → at_end s ≡ false → members_at k s ≡ member s (decoded s) (tree_at (k - 1) (behind_name s)) (members_at (k - 1) (next_after (behind_name s)))
unfolding members_at
members_more k s h e = let z : k ≡ suc (k - 1) = omega arith in ap (λ x. members_at x s) z ∙ rw (e, members_at)

pub members_end : (k : ℕ) (s : Place) → at_end s ≡ true → members_at k s ≡ no_member
unfolding members_at
members_end zero s e = refl
members_end (suc k) s e = rw (e, members_at)

pub members_none : (s : Place) → members_at 0 s ≡ no_member
unfolding members_at
members_none s = refl

-- ---- m members are passed, and the others stand at q
pub record Settling (text : List ℕ) (at : ℕ) (ms : Members) (slots : Slots) (m q : ℕ) : Type 0 where
  pub seen : List (List ℕ)
  pub left : Members
  pub rest : Rest left (drop q text)
  pub turns : left ≡ members_at (length text - m) (drop q text)
  pub few : m ≤ length text
  pub repeats : repeated [] (entries_of ms) ≡ repeated seen (entries_of left)
  pub count : m + length (entries_of left) ≡ length (entries_of ms)
  pub place : drop q text ≡ behind m (first_in (drop at text))
  pub before : (n : List ℕ) → has n seen ≡ has n (names_from m (first_in (drop at text)))
  pub slot : (m : Name) → Slotted text (spelled m) seen (entries_of ms) (entries_of left) (get_or slots.places (number_of m) 0)
  pub size : length slots.places ≡ 33
  pub ahead : 0 < q
  pub inside : q ≤ length text

pub settling_none : {text : List ℕ} {at : ℕ} {p : Place} {ms : Members} {slots : Slots} {q : ℕ} → At text at (object p ms) → Moves first_in text at q
    → length slots.places ≡ 33 → ((i : ℕ) → i < 33 → get_or slots.places i 0 ≡ 0) → Settling text at ms slots 0 q
unfolding names_from
settling_none {text} {at} {p} {ms} {slots} {q} a m size zeros =
    let enough : length (drop at text) ≤ length text = rw length-drop (omega arith) in
    let z : length text - 0 ≡ length text = omega arith in
    record {
      seen = [];
      left = ms;
      rest = subst (λ x. Rest ms x) (sym m.lands) (rest_in a.spelled);
      turns = rw (m.lands, z) (sym (members_in_lem a.spelled (length text) enough));
      few = omega arith;
      repeats = refl;
      count = omega arith;
      place = m.lands;
      before = λ n. refl;
      slot = λ m. rw (zeros (number_of m) (number_small m)) (free refl refl);
      size = size;
      ahead = omega (arith, first_above text at q a m);
      inside = m.inside (omega (arith, a.inside));
    }

pub seen_none : (slots : Slots) {text : List ℕ} {at : ℕ} {p : Place} {ms : Members} {q : ℕ} (a : At text at (object p ms)) (m : Moves first_in text at q)
    (size : length slots.places ≡ 33) (zeros : (i : ℕ) → i < 33 → get_or slots.places i 0 ≡ 0) → (settling_none {slots = slots} a m size zeros).seen ≡ []
unfolding settling_none
seen_none slots a m size zeros = refl

module _ {text : List ℕ} {at : ℕ} {ms : Members} {slots : Slots} {m q : ℕ} (s : Settling text at ms slots m q) where
  -- no member is left
  over : s.left ≡ no_member → Settled text (entries_of ms) (Ok (record { members = m; slots = slots }))
  unfolding entries_of
  over e =
      record {
        once = s.repeats ∙ rw e;
        slot = λ n. slotted_end (rw e at (s.slot n));
        count = omega (arith, s.count, ap (λ x. length (entries_of x)) e);
      }

  pub settled_end : at_end (drop q text) ≡ true → Settled text (entries_of ms) (Ok (record { members = m; slots = slots }))
  settled_end e = over (rest_none s.rest e)

  pub settled_all : length text ≤ m → Settled text (entries_of ms) (Ok (record { members = m; slots = slots }))
  settled_all h = let z : length text - m ≡ 0 = omega arith in over (s.turns ∙ rw z (members_none (drop q text)))

  -- whether a name stood before
  module _ (k : Name) (e : Some k ≡ name_of (decoded (drop q text))) where
    pub stood : is_some (place_in (get_or slots.places (number_of k) 0)) ≡ has (decoded (drop q text)) s.seen
    stood = rw (name_is (decoded (drop q text)) (sym e)) (slotted_has (s.slot k))

  module _ (stays : at_end (drop q text) ≡ false) where
    one : Stands s.left (drop q text)
    one = rest_one s.rest stays

    -- it did
    pub settled_twice : has (decoded (drop q text)) s.seen ≡ true → Settled text (entries_of ms) (Err (record { 0 = q }))
    unfolding entries_of
    settled_twice twice = (s.repeats ∙ rw (one.is, twice), s.inside)

    -- it did not, and the member is passed
    module _ (fresh : has (decoded (drop q text)) s.seen ≡ false) (less : m < length text) (o : Option Name) (e : o ≡ name_of (decoded (drop q text)))
        (v : ℕ) (to : Moves behind_name text q v) (r : ℕ) (on : Moves next_after text v r) (after : Slots) (noted : Noted slots.places (numbered o) v after.places) where
      next : drop r text ≡ next_after (behind_name (drop q text))
      next = on.lands ∙ ap next_after to.lands

      slot_on : (k : Name) → Slotted text (spelled k) (decoded (drop q text) ∷ s.seen) (entries_of ms) (entries_of one.others) (get_or after.places (number_of k) 0)
      unfolding entries_of
      slot_on k = go (eqb (number_of k) (numbered o)) refl
        where
          was : Slotted text (spelled k) s.seen (entries_of ms) (entry (drop q text) (decoded (drop q text)) one.tree ∷ entries_of one.others) (get_or slots.places (number_of k) 0)
          was = subst (λ x. Slotted text (spelled k) s.seen (entries_of ms) (entries_of x) (get_or slots.places (number_of k) 0)) one.is (s.slot k)

          is : same (spelled k) (decoded (drop q text)) ≡ eqb (number_of k) (numbered o)
          is = named_same k (decoded (drop q text)) ∙ ap (λ x. eqb (number_of k) (numbered x)) (sym e)

          go : (x : Bool) → eqb (number_of k) (numbered o) ≡ x
              → Slotted text (spelled k) (decoded (drop q text) ∷ s.seen) (entries_of ms) (entries_of one.others) (get_or after.places (number_of k) 0)
          go true z =
              let n = same_equal (spelled k) (decoded (drop q text)) (is ∙ z) in
              let new : has (spelled k) s.seen ≡ false = rw n fresh in
              let filled : get_or after.places (number_of k) 0 ≡ v = noted.slot k ∙ rw z in
              rw filled (slotted_here (drop q text) (decoded (drop q text)) one.tree (is ∙ z) new was (omega (arith, s.ahead, to.ahead)) (stands_at text v one.value to.lands))
          go false z =
              let kept : get_or after.places (number_of k) 0 ≡ get_or slots.places (number_of k) 0 = noted.slot k ∙ rw z in
              rw kept (slotted_other (drop q text) (decoded (drop q text)) one.tree (is ∙ z) was)

      pub settling_on : Settling text at ms after (m + 1) r
      unfolding entries_of
      settling_on =
          let d = decoded (drop q text) in
          let o = one in
          let z : length text - m - 1 ≡ length text - (m + 1) = omega arith in
          let all : s.left ≡ member (drop q text) d (tree_at (length text - m - 1) (behind_name (drop q text))) (members_at (length text - m - 1) (next_after (behind_name (drop q text)))) =
          s.turns ∙ members_more (length text - m) (drop q text) (omega arith) stays in
          record {
            seen = d ∷ s.seen;
            left = o.others;
            rest = rw next o.next;
            turns = ap others_of (sym o.is ∙ all) ∙ rw (z, next);
            few = omega arith;
            repeats = s.repeats ∙ ap (λ x. repeated s.seen (entries_of x)) o.is ∙ rw fresh;
            count = omega (arith, s.count, ap (λ x. length (entries_of x)) o.is);
            place = next ∙ rw (s.place, add-one) (sym (behind_more m (first_in (drop at text))));
            before = λ n. rw add-one (ap (λ x. same n (decoded x) || has n s.seen) s.place ∙ rw (s.before n) (sym (names_more n m (first_in (drop at text)))));
            slot = slot_on;
            size = noted.size ∙ s.size;
            ahead = omega (arith, s.ahead, to.ahead, on.ahead);
            inside = on.inside (to.inside s.inside);
          }

      pub seen_on : settling_on.seen ≡ decoded (drop q text) ∷ s.seen
      unfolding settling_on
      seen_on = refl
