-- Dates and times by their bytes: what the code's tests settle of what Date.antt reads there.
use Prim.Native.Nat.{ℕ, ◌+◌, ◌*◌, ◌<◌, ◌≤◌}
use mathlib.Core.Path.{◌≡◌, refl, ap, ◌∙◌}
use mathlib.Core.List.{List, [], ◌∷◌}
use mathlib.Core.Bool.{Bool, true, false, cond, ◌&&◌, not}
use mathlib.Core.Option.{Option, none, some}
use lib.ListN.{length, drop, get_or, length-drop, drop_of_length-le}
use lib.Seq.{drop-drop}
use lib.Dec.{eqb, leb}
use borrow.Author.Tests.{le-leb, eq-eqb, eqb-true, eqb-false}
use native.Mathlib.Omega.{arith}
use Rattle.json_grammar.proofs.Moves.{byte_here}
use Rattle.json_grammar.specs.Rows.{choose}
use Rattle.document.specs.Posology as P
use Rattle.document.specs.Date.{is_day, two, then, mark, only, clock, seconds, at_minute, alone, time_of, day_of, moment_of, bare_or, date_of, zone, minutes_west, is_zone, Behind}
use Rattle.document.specs.Table.{with_zone}
use Rattle.document.specs.declared.table.Date.TheVariants as D
use Rattle.read_fields.specs.declared.date.Day.{Day}
use Rattle.read_fields.specs.DateParts.{marked, Numbered, year, day_read, IsDayOf, zone_of, in_zone}

-- Chains of steps that may fail.
then_none : {A B : Type 0} {o : Option A} (f : A → Option B) → o ≡ none → then o f ≡ none
then_none f e = ap (λ x. then x f) e

then_some : {A B : Type 0} {o : Option A} {a : A} (f : A → Option B) → o ≡ some a → then o f ≡ f a
then_some f e = ap (λ x. then x f) e

mark_test : {A : Type 0} (m : ℕ) (s : List ℕ) (f : List ℕ → Option A) → mark m s f ≡ cond (marked m s) (f (drop 1 s)) none
mark_test m [] f = refl
mark_test {A} m (b ∷ s) f = go (eqb b m)
  where
    go : (t : Bool) → choose t (λ _. f s) (λ _. none) ≡ cond t (f s) none
    go true = refl
    go false = refl

same_drop : (bytes : List ℕ) (i j : ℕ) → i ≡ j → drop i bytes ≡ drop j bytes
same_drop bytes i j e = ap (λ k. drop k bytes) e

mark_at : {A : Type 0} (m at next : ℕ) (bytes : List ℕ) (f : List ℕ → Option A) → at + 1 ≡ next → mark m (drop at bytes) f ≡ cond (marked m (drop at bytes)) (f (drop next bytes)) none
mark_at m at next bytes f n =
    mark_test m (drop at bytes) f ∙ ap (λ s. cond (marked m (drop at bytes)) (f s) none) (drop-drop 1 at bytes ∙ same_drop bytes (at + 1) next n)

marked_none : {A : Type 0} (t : Bool) (o : Option A) → o ≡ none → cond t o none ≡ none
marked_none true o e = e
marked_none false o e = refl

-- yyyy-mm-dd, from the year on.
abbrev whole_day : ℕ → ℕ → Behind ℕ → Option (Behind P.Day)
whole_day y m d = only (is_day (record { year = y; month = m; day = d.value })) (record { value = record { year = y; month = m; day = d.value }; rest = d.rest })

abbrev day_from : ℕ → Behind ℕ → Option (Behind P.Day)
day_from y m = mark 45 m.rest λ s. then (two s) (whole_day y m.value)

abbrev month_from : Behind ℕ → Option (Behind P.Day)
month_from y = mark 45 y.rest λ s. then (two s) (day_from y.value)

day_by_year : (s : List ℕ) → day_of s ≡ then (year s) month_from
day_by_year s = century (two s)
  where
    within : (c : ℕ) (o : Option (Behind ℕ)) → then o (λ y. month_from (record { value = c * 100 + y.value; rest = y.rest })) ≡ then (then o λ y. some (record { value = c * 100 + y.value; rest = y.rest })) month_from
    within c none = refl
    within c (some y) = refl

    century : (o : Option (Behind ℕ)) → then o (λ c. then (two c.rest) λ y. month_from (record { value = c.value * 100 + y.value; rest = y.rest })) ≡ then (then o λ c. then (two c.rest) λ y. some (record { value = c.value * 100 + y.value; rest = y.rest })) month_from
    century none = refl
    century (some c) = within c.value (two c.rest)

module _ (bytes : List ℕ) where
  module _ (y : ℕ) (p : Numbered bytes (year bytes) 4 9999 y) where
    from_year : day_of bytes ≡ cond (marked 45 (drop 4 bytes)) (then (two (drop 5 bytes)) (day_from y)) none
    from_year = day_by_year bytes ∙ then_some month_from p.outcome ∙ mark_at 45 4 5 bytes (λ s. then (two s) (day_from y)) refl

    module _ (m : ℕ) (q : Numbered bytes (two (drop 5 bytes)) (5 + 2) 99 m) where
      from_month : then (two (drop 5 bytes)) (day_from y) ≡ cond (marked 45 (drop 7 bytes)) (then (two (drop 8 bytes)) (whole_day y m)) none
      from_month = then_some (day_from y) q.outcome ∙ mark_at 45 7 8 bytes (λ s. then (two s) (whole_day y m)) refl

      after_marks : (o : Option (Behind P.Day)) → then (two (drop 8 bytes)) (whole_day y m) ≡ o → day_of bytes ≡ cond (marked 45 (drop 4 bytes)) (cond (marked 45 (drop 7 bytes)) o none) none
      after_marks o e = from_year ∙ ap (λ x. cond (marked 45 (drop 4 bytes)) x none) (from_month ∙ ap (λ x. cond (marked 45 (drop 7 bytes)) x none) e)

      pub day_tests : (d : ℕ) → Numbered bytes (two (drop 8 bytes)) (8 + 2) 99 d
          → day_of bytes ≡ cond (marked 45 (drop 4 bytes)) (cond (marked 45 (drop 7 bytes)) (only (is_day (record { year = y; month = m; day = d })) (record { value = record { year = y; month = m; day = d }; rest = drop 10 bytes })) none) none
      day_tests d w = after_marks _ (then_some (whole_day y m) w.outcome)

-- hh:mm
abbrev whole_clock : ℕ → Behind ℕ → Option (Behind ℕ)
whole_clock h m = only (leb h 23 && leb m.value 59) (record { value = h * 60 + m.value; rest = m.rest })

abbrev minute_from : Behind ℕ → Option (Behind ℕ)
minute_from h = mark 58 h.rest λ s. then (two s) (whole_clock h.value)

module _ (bytes : List ℕ) (at : ℕ) where
  module _ (h : ℕ) (p : Numbered bytes (two (drop at bytes)) (at + 2) 99 h) where
    from_hour : clock (drop at bytes) ≡ cond (marked 58 (drop (at + 2) bytes)) (then (two (drop (at + 3) bytes)) (whole_clock h)) none
    from_hour = then_some minute_from p.outcome ∙ mark_at 58 (at + 2) (at + 3) bytes (λ s. then (two s) (whole_clock h)) (omega arith)

    pub no_minute : two (drop (at + 3) bytes) ≡ none → clock (drop at bytes) ≡ none
    no_minute e = from_hour ∙ marked_none (marked 58 (drop (at + 2) bytes)) (then (two (drop (at + 3) bytes)) (whole_clock h)) (then_none (whole_clock h) e)

    pub clock_tests : (m : ℕ) → Numbered bytes (two (drop (at + 3) bytes)) (at + 3 + 2) 99 m
        → clock (drop at bytes) ≡ cond (marked 58 (drop (at + 2) bytes)) (only (leb h 23 && leb m 59) (record { value = h * 60 + m; rest = drop (at + 5) bytes })) none
    clock_tests m q =
        from_hour
        ∙ ap (λ x. cond (marked 58 (drop (at + 2) bytes)) x none)
        (then_some (whole_clock h) q.outcome ∙ ap (λ s. only (leb h 23 && leb m 59) (record { value = h * 60 + m; rest = s })) (same_drop bytes (at + 3 + 2) (at + 5) (omega arith)))

-- :ss
abbrev whole_second : ℕ → Behind ℕ → Option (Behind ℕ)
whole_second m n = only (leb n.value 59) (record { value = m * 60 + n.value; rest = n.rest })

module _ (bytes : List ℕ) (at m : ℕ) where
  from_minutes : seconds (record { value = m; rest = drop at bytes }) ≡ cond (marked 58 (drop at bytes)) (then (two (drop (at + 1) bytes)) (whole_second m)) none
  from_minutes = mark_at 58 at (at + 1) bytes (λ s. then (two s) (whole_second m)) refl

  pub no_second : two (drop (at + 1) bytes) ≡ none → seconds (record { value = m; rest = drop at bytes }) ≡ none
  no_second e = from_minutes ∙ marked_none (marked 58 (drop at bytes)) (then (two (drop (at + 1) bytes)) (whole_second m)) (then_none (whole_second m) e)

  pub second_tests : (s : ℕ) → Numbered bytes (two (drop (at + 1) bytes)) (at + 1 + 2) 99 s
      → seconds (record { value = m; rest = drop at bytes }) ≡ cond (marked 58 (drop at bytes)) (only (leb s 59) (record { value = m * 60 + s; rest = drop (at + 3) bytes })) none
  second_tests s q =
      from_minutes
      ∙ ap (λ x. cond (marked 58 (drop at bytes)) x none)
      (then_some (whole_second m) q.outcome ∙ ap (λ r. only (leb s 59) (record { value = m * 60 + s; rest = r })) (same_drop bytes (at + 1 + 2) (at + 3) (omega arith)))

-- Nothing behind it.
alone_end : {A : Type 0} (bytes : List ℕ) (i : ℕ) (a : A) → length bytes ≡ i → alone (drop i bytes) a ≡ some a
alone_end bytes i a e = rw (drop_of_length-le bytes {i = i} (omega arith))

pub more_behind : {A : Type 0} (s : List ℕ) (a : A) → 0 < length s → alone s a ≡ none
more_behind [] a h = absurd (omega arith)
more_behind (b ∷ s) a h = refl

not_alone : {A : Type 0} (bytes : List ℕ) (i : ℕ) (a : A) → i ≤ length bytes → (length bytes ≡ i → ⊥) → alone (drop i bytes) a ≡ none
not_alone bytes i a h n = more_behind (drop i bytes) a (rw length-drop (omega (arith, n)))

-- A time of day.
at_minute_more : (m : Behind ℕ) (s : List ℕ) → 0 < length s → at_minute m s ≡ then (seconds m) λ n. alone n.rest n.value
at_minute_more m [] h = absurd (omega arith)
at_minute_more m (b ∷ s) h = refl

module _ (bytes : List ℕ) where
  abbrev minute_end : Behind ℕ → Option ℕ
  minute_end m = at_minute m m.rest

  abbrev second_end : Behind ℕ → Option ℕ
  second_end n = alone n.rest n.value

  pub no_time : clock (drop 0 bytes) ≡ none → time_of bytes ≡ none
  unfolding time_of
  no_time e = then_none minute_end e

  module _ (m : ℕ) (p : Numbered bytes (clock (drop 0 bytes)) (0 + 5) 1439 m) where
    pub minutes_only : length bytes ≡ 5 → time_of bytes ≡ some (m * 60)
    unfolding time_of
    minutes_only e = then_some minute_end p.outcome ∙ ap (λ x. at_minute (record { value = m; rest = x }) x) (drop_of_length-le bytes {i = 5} (omega arith))

    module _ (n : length bytes ≡ 5 → ⊥) where
      after_minutes : time_of bytes ≡ then (seconds (record { value = m; rest = drop 5 bytes })) second_end
      unfolding time_of
      after_minutes = then_some minute_end p.outcome ∙ at_minute_more (record { value = m; rest = drop 5 bytes }) (drop 5 bytes) (rw length-drop (omega (arith, n, p.inside)))

      pub time_no_seconds : seconds (record { value = m; rest = drop 5 bytes }) ≡ none → time_of bytes ≡ none
      time_no_seconds e = after_minutes ∙ then_none second_end e

      module _ (s : ℕ) (q : Numbered bytes (seconds (record { value = m; rest = drop 5 bytes })) (5 + 3) 86399 s) where
        pub a_time : length bytes ≡ 8 → time_of bytes ≡ some s
        a_time e = after_minutes ∙ then_some second_end q.outcome ∙ alone_end bytes 8 s e

        pub time_not_over : (length bytes ≡ 8 → ⊥) → time_of bytes ≡ none
        time_not_over e = after_minutes ∙ then_some second_end q.outcome ∙ not_alone bytes 8 s q.inside e

-- A zone: at most 14:00 either way.
module _ (sign n : ℕ) where
  module _ (h : n ≤ 840) where
    pub zone_east : sign ≡ 43 → zone_of sign n ≡ some (P.east n)
    zone_east e = rw (eq-eqb sign 43 e, le-leb n 840 h)

    pub zone_west : sign ≡ 45 → zone_of sign n ≡ some (minutes_west n)
    zone_west e = rw (e) (go (eqb n 0) refl)
      where
        go : (z : Bool) → eqb n 0 ≡ z → then (some (cond z (P.east 0) (P.west n))) (λ x. only (is_zone x) x) ≡ some (cond z (P.east 0) (P.west n))
        go true e = refl
        go false e = rw (le-leb 1 n (omega (arith, eqb-false n 0 e)), le-leb n 840 h)

-- "-00:00 is stored as +00:00"
pub west_cell : (d : P.Day) (s n : ℕ) → with_zone d s (minutes_west n) ≡ D.Moment d.year d.month d.day s (not (eqb n 0)) n
west_cell d s n = go (eqb n 0) refl
  where
    go : (z : Bool) → eqb n 0 ≡ z → with_zone d s (cond z (P.east 0) (P.west n)) ≡ D.Moment d.year d.month d.day s (not z) n
    go true e = rw (eqb-true n 0 e)
    go false e = refl

-- A day with a time and a zone.
module _ (bytes : List ℕ) (d : P.Day) where
  abbrev zone_from : Behind ℕ → Option P.Date
  zone_from n = in_zone d n.value (zone n.rest)

  abbrev second_from : Behind ℕ → Option P.Date
  second_from m = then (seconds m) zone_from

  from_t : (o : Option P.Date) → then (clock (drop 11 bytes)) second_from ≡ o → moment_of d (drop 10 bytes) ≡ cond (marked 84 (drop 10 bytes)) o none
  from_t o e = mark_at 84 10 11 bytes (λ s. then (clock s) second_from) refl ∙ ap (λ x. cond (marked 84 (drop 10 bytes)) x none) e

  no_moment : then (clock (drop 11 bytes)) second_from ≡ none → moment_of d (drop 10 bytes) ≡ none
  no_moment e = from_t none e ∙ marked_none (marked 84 (drop 10 bytes)) none refl

  module _ (m : ℕ) (p : Numbered bytes (clock (drop 11 bytes)) (11 + 5) 1439 m) where
    module _ (s : ℕ) (q : Numbered bytes (seconds (record { value = m; rest = drop 16 bytes })) (16 + 3) 86399 s) where
      from_second : then (clock (drop 11 bytes)) second_from ≡ in_zone d s (zone (drop 19 bytes))
      from_second = then_some second_from p.outcome ∙ then_some zone_from q.outcome

      moment_no_zone : zone (drop 19 bytes) ≡ none → moment_of d (drop 10 bytes) ≡ none
      moment_no_zone e = no_moment (from_second ∙ ap (in_zone d s) e)

      module _ (n : ℕ) (w : Numbered bytes (clock (drop 20 bytes)) (20 + 5) 1439 n) where
        from_sign : zone (drop 19 bytes) ≡ then (alone (drop 25 bytes) n) (zone_of (get_or bytes 19 0))
        from_sign = ap zone (byte_here bytes 19 (omega (arith, w.inside))) ∙ then_some (λ m. then (alone m.rest m.value) (zone_of (get_or bytes 19 0))) w.outcome

        pub moment_not_over : (length bytes ≡ 25 → ⊥) → moment_of d (drop 10 bytes) ≡ none
        moment_not_over f = moment_no_zone (from_sign ∙ then_none (zone_of (get_or bytes 19 0)) (not_alone bytes 25 n w.inside f))

        pub moment_tests : length bytes ≡ 25 → moment_of d (drop 10 bytes) ≡ cond (marked 84 (drop 10 bytes)) (in_zone d s (zone_of (get_or bytes 19 0) n)) none
        moment_tests f = from_t _ (from_second ∙ ap (in_zone d s) (from_sign ∙ then_some (zone_of (get_or bytes 19 0)) (alone_end bytes 25 n f)))

-- A date.
bare_or_more : (d : P.Day) (s : List ℕ) → 0 < length s → bare_or d s ≡ moment_of d s
bare_or_more d [] h = absurd (omega arith)
bare_or_more d (b ∷ s) h = refl

module _ (bytes : List ℕ) where
  abbrev bare_or_from : Behind P.Day → Option P.Date
  bare_or_from d = bare_or d.value d.rest

  pub no_date : day_of bytes ≡ none → date_of bytes ≡ none
  unfolding date_of
  no_date e = then_none bare_or_from e

  module _ (d : Day) (p : IsDayOf bytes d) where
    pub a_bare_date : length bytes ≡ 10 → date_of bytes ≡ some (P.bare (day_read d))
    unfolding date_of
    a_bare_date e = then_some bare_or_from p.outcome ∙ ap (λ x. bare_or (day_read d) x) (drop_of_length-le bytes {i = 10} (omega arith))

    pub a_moment : (length bytes ≡ 10 → ⊥) → date_of bytes ≡ moment_of (day_read d) (drop 10 bytes)
    unfolding date_of
    a_moment n = then_some bare_or_from p.outcome ∙ bare_or_more (day_read d) (drop 10 bytes) (rw length-drop (omega (arith, n, p.inside)))
