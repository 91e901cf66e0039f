-- Going over an area: what the loop keeps, and each way out of it.
use mathlib.Core.Path.{◌≡◌, refl, ap, sym, subst, ◌∙◌}
use mathlib.Core.List.{List, [], ◌∷◌, ◌++◌}
use mathlib.Core.Bool.{Bool, true, false, not, cond, ◌&&◌, ◌||◌, true≢false, false≢true}
use mathlib.Core.Option.{Option, none, some}
use Prim.Native.Nat.{ℕ, suc, ◌+◌, ◌/◌, ◌≤◌, ◌<◌}
use native.Mathlib.Omega.{arith}
use lib.Dec.{eqb, ltb}
use lib.ListN.{length, drop, get_or, replicate}
use lib.Seq.{get_or-drop}
use Rattle.std.specs.Prelude.{Some, None}
use Rattle.std.specs.Bool.{then_some}
use Rattle.std.proofs.lemmas.Option.{cond_some, none-some}
use borrow.Author.Tests.{lt-leb, lt-ltb, not-true, not-false}
use Rattle.json_grammar.specs.Rows.{choose}
use Rattle.json_grammar.proofs.Truth.{and_left, and_right, never_true}
use Rattle.document.proofs.Same.{eqb_sym}
use Rattle.document.specs.Posology.{Posology}
use Rattle.shelf_list.specs.Shelf.{area_at_most, Entry, entry, size, stands, once, plain_of, is_plain, is_given, number_at, begins, is_zeros, records, if_once, entries_in}
use Rattle.shelf_list.proofs.Records.{begins_begun, record_size}
use Rattle.shelf_list.proofs.Areas.{few}
use Rattle.shelf_list.proofs.Lists.{and_false, stands_last, once_append}
use Rattle.shelf_list.proofs.Under.{not_given}
use Rattle.shelf_list.proofs.Walks.{Walked, walk_starts, walk_goes_on, walk_ends, walk_meets_no_record, walk_meets_no_plain, walk_meets_number_twice}
use Rattle.shelf_bytes.specs.Marks.{marked, is_new}
use Rattle.shelf_bytes.proofs.HeadLaws.{zeros_not, zeros_end}
use Rattle.shelf.specs.Survey.{text_at, is_record, Passes, survey_of, surveyed, with_record}
use Rattle.shelf.specs.declared.survey.Survey.{Survey}
use Rattle.shelf.proofs.Noting.{Noted, noted_starts, noted_goes_on}
use Rattle.shelf.proofs.SurveyLaws.{survey_goes_on}
use Rattle.shelf.proofs.RecordLaws.{lies_inside}

-- The entries in front of place i, their numbers noted, and what is told of them.
pub record Going (a : List ℕ) (number position i : ℕ) (set : List ℕ) (s : Survey) : Type 0 where
  pub small : length a ≤ 65535
  pub inside : i ≤ length a
  pub entries : List Entry
  pub walked : Walked a i entries
  pub noted : Noted set entries
  pub single : once entries ≡ true
  pub told : s ≡ survey_of number position entries

-- A number twice.
once_not : (es : List Entry) (e : Entry) → stands e.number es ≡ true → once (es ++ (e ∷ [])) ≡ false
once_not [] e h = absurd (false≢true h)
once_not (f ∷ es) e h = go (eqb e.number f.number) refl h (once_not es e)
  where
    go : (b : Bool) → eqb e.number f.number ≡ b → (b || stands e.number es) ≡ true
        → (stands e.number es ≡ true → once (es ++ (e ∷ [])) ≡ false) → once ((f ∷ es) ++ (e ∷ [])) ≡ false
    go true i k below =
        let s = stands_last f.number es e ∙ ap (λ (b : Bool). b || stands f.number es) (eqb_sym f.number e.number ∙ i) in
        ap (λ (b : Bool). not b && once (es ++ (e ∷ []))) s
    go false i k below = and_false (not (stands f.number (es ++ (e ∷ [])))) (once (es ++ (e ∷ []))) (below k)

module _ (a : List ℕ) (number position : ℕ) where
  no_list : entries_in a ≡ none → None ≡ surveyed number position (entries_in a)
  no_list e = sym (ap (surveyed number position) e)

  pub too_long : 65535 < length a → None ≡ surveyed number position (entries_in a)
  unfolding entries_in
  too_long h =
      let e = lt-leb (length a) area_at_most h in
      sym (ap (λ (b : Bool). surveyed number position (choose b (λ _. if_once (records (suc (length a)) a)) (λ _. none))) e)

  pub going_starts : length a ≤ 65535 → Going a number position 0 (replicate 1024 0) (survey_of 0 0 [])
  going_starts h =
      record { small = h; inside = omega arith; entries = []; walked = walk_starts a; noted = noted_starts; single = refl; told = refl }

  module _ (i : ℕ) (set : List ℕ) (s : Survey) (g : Going a number position i set s) where
    ends : is_zeros (drop i a) ≡ true → Some s ≡ surveyed number position (entries_in a)
    ends z = ap Some g.told ∙ sym (ap (surveyed number position) (walk_ends a i g.entries g.small g.walked z g.single))

    pub at_end_lem : length a ≤ i → Some s ≡ surveyed number position (entries_in a)
    at_end_lem h = ends (zeros_end a i h)

    -- A zero byte: no record begins there.
    no_mark : get_or a i 0 ≡ 0 → begins (drop i a) ≡ false
    no_mark z = sym (never_true (begins (drop i a)) λ b.
        let h = (begins_begun (drop i a) b).first_mark in
        let e : get_or (drop i a) 0 0 ≡ get_or a i 0 = get_or-drop i a 0 0 ∙ ap (λ (n : ℕ). get_or a n 0) (let k : i + 0 ≡ i = omega arith in k) in
        omega arith)

    pub at_zero : get_or a i 0 ≡ 0 → (z : Bool) → z ≡ is_zeros (drop i a) → then_some z s ≡ surveyed number position (entries_in a)
    at_zero h true z = ends (sym z)
    at_zero h false z = no_list (walk_meets_no_record a i g.entries g.walked (sym z) (no_mark h))

    -- A byte that is not zero.
    module _ (inside : i < length a) (something : get_or a i 0 ≡ 0 → ⊥) where
      not_zeros : is_zeros (drop i a) ≡ false
      not_zeros = zeros_not a i inside something

      head_number : begins (drop i a) ≡ true → number_at (drop i a) 2 ≤ 65535
      head_number b = (begins_begun (drop i a) b).most

      marked_stands : begins (drop i a) ≡ true → marked set (number_at (drop i a) 2) ≡ stands (number_at (drop i a) 2) g.entries
      marked_stands b = g.noted.each (number_at (drop i a) 2) (head_number b)

      twice : begins (drop i a) ≡ true → is_new set (number_at (drop i a) 2) ≡ false → entries_in a ≡ none
      twice b n = go (plain_of (text_at a i)) refl
        where
          stood : marked set (number_at (drop i a) 2) ≡ true
          stood =
              let l = head_number b in
              let w = g.noted.words in
              let m = number_at (drop i a) 2 in
              not-false (marked set m) (sym (ap (λ (t : Bool). t && not (marked set m)) (lt-ltb (m / 64) (length set) (omega arith))) ∙ n)

          go : (o : Option Posology) → plain_of (text_at a i) ≡ o → entries_in a ≡ none
          go none t = walk_meets_no_plain a i g.entries g.walked not_zeros t
          go (some p) t =
              walk_meets_number_twice a (i + (6 + number_at (drop i a) 4)) (g.entries ++ (entry (number_at (drop i a) 2) p ∷ []))
              (walk_goes_on a i g.entries p g.walked b t)
              (once_not g.entries (entry (number_at (drop i a) 2) p) (sym (marked_stands b) ∙ stood))

      fails : is_record set a i ≡ false → entries_in a ≡ none
      unfolding is_record
      fails h = go (begins (drop i a)) (is_new set (number_at (drop i a) 2)) (is_plain (text_at a i)) refl refl refl h
        where
          go : (b n p : Bool) → begins (drop i a) ≡ b → is_new set (number_at (drop i a) 2) ≡ n → is_plain (text_at a i) ≡ p
              → (b && n && p) ≡ false → entries_in a ≡ none
          go false n p e f k q = walk_meets_no_record a i g.entries g.walked not_zeros e
          go true false p e f k q = twice e f
          go true true false e f k q = walk_meets_no_plain a i g.entries g.walked not_zeros (not_given (plain_of (text_at a i)) k)
          go true true true e f k q = absurd (true≢false q)

      pub no_record : {set' : List ℕ} → Passes set a i None set' → None ≡ surveyed number position (entries_in a)
      no_record p = no_list (fails (go (is_record set a i) p.size))
        where
          go : (b : Bool) → None ≡ cond b (Some (6 + number_at (drop i a) 4)) None → b ≡ false
          go true e = absurd (none-some (6 + number_at (drop i a) 4) e)
          go false e = refl

      module _ (n : ℕ) (set' : List ℕ) (p : Passes set a i (Some n) set') where
        record_there : (is_record set a i ≡ true) × (n ≡ 6 + number_at (drop i a) 4)
        record_there = let h = cond_some (is_record set a i) (6 + number_at (drop i a) 4) n (sym p.size) in (h.0, sym h.1)

        parts : (begins (drop i a) ≡ true) × (is_new set (number_at (drop i a) 2) ≡ true) × (is_plain (text_at a i) ≡ true)
        unfolding is_record
        parts =
            let t = record_there.0 in
            let b = begins (drop i a) in
            let m = is_new set (number_at (drop i a) 2) in
            let both = and_left (b && m) (is_plain (text_at a i)) t in
            (and_left b m both, and_right b m both, and_right (b && m) (is_plain (text_at a i)) t)

        pub passes_inside : (6 ≤ n) × (i + n ≤ length a)
        passes_inside = let l = lies_inside a i parts.0 in let e = record_there.1 in (omega arith, omega arith)

        -- What is told so far is small.
        pub still_small : (s.used + n ≤ 65535) × (s.count ≤ 65535)
        still_small =
            let l = passes_inside.1 in
            let u = g.walked.place in
            let f = few g.entries in
            let e = ap (λ (t : Survey). t.used) g.told in
            let k = ap (λ (t : Survey). t.count) g.told in
            let m = g.small in
            (omega arith, omega arith)

        fresh : stands (number_at (drop i a) 2) g.entries ≡ false
        fresh =
            let m = number_at (drop i a) 2 in
            sym (marked_stands parts.0)
            ∙ not-true (marked set m) (and_right (ltb (m / 64) (length set)) (not (marked set m)) parts.1)

        pub going_on : (m : ℕ) {s' : Survey} → m ≡ number_at (drop i a) 2 → s' ≡ with_record s m n number position
            → Going a number position (i + n) set' s'
        going_on m {s'} e f = go (plain_of (text_at a i)) refl parts.2
          where
            go : (o : Option Posology) → plain_of (text_at a i) ≡ o → is_given (plain_of (text_at a i)) ≡ true
                → Going a number position (i + n) set' s'
            go none j k = absurd (false≢true (sym (ap is_given j) ∙ k))
            go (some q) j k =
                let it = entry (number_at (drop i a) 2) q in
                let x = record_there.1 in
                let size_is : n ≡ size it = x ∙ sym (record_size (drop i a) q parts.0 j) in
                record {
                  small = g.small;
                  inside = passes_inside.1;
                  entries = g.entries ++ (it ∷ []);
                  walked =
                      subst (λ (r : ℕ). Walked a (i + r) (g.entries ++ (it ∷ []))) (sym x)
                      (walk_goes_on a i g.entries q g.walked parts.0 j);
                  noted =
                      subst (λ (t : List ℕ). Noted t (g.entries ++ (it ∷ []))) (sym (p.noted record_there.0))
                      (noted_goes_on set g.entries it g.noted (head_number parts.0));
                  single = once_append g.entries it g.single fresh;
                  told =
                      f
                      ∙ ap (λ (r : ℕ). with_record s r n number position) e
                      ∙ ap (λ (r : ℕ). with_record s (number_at (drop i a) 2) r number position) size_is
                      ∙ ap (λ (t : Survey). with_record t (number_at (drop i a) 2) (size it) number position) g.told
                      ∙ survey_goes_on number position g.entries it fresh;
                }
