-- The first byte says which word it is, or that it is a number.
use Prim.Native.Nat.{ℕ}
use lib.Seq.{drop-cons}
use lib.ListN.{get_or}
use native.Mathlib.Omega.{arith}
use Rattle.std.specs.Prelude.{◌≢◌}
use native.Mathlib.Numerals.{add-one}
use borrow.Author.Tests.{ne_eqb}
use Rattle.json_walk.specs.Turn.{plain_stop}
use Rattle.json_walk.proofs.plain_end.Goals as goal

pub returns-in-116 : goal.returns-in-116
unfolding plain_stop
returns-in-116 c =
    rw (drop-cons {A = ℕ} _ _ 0 c.requires, c.in-116.is) (rw add-one at c.word_end.ensures)

pub returns-in-102 : goal.returns-in-102
unfolding plain_stop
returns-in-102 c =
    rw (drop-cons {A = ℕ} _ _ 0 c.requires, c.in-102.is) (rw add-one at c.word_end-in-102.ensures)

pub returns-in-110 : goal.returns-in-110
unfolding plain_stop
returns-in-110 c =
    rw (drop-cons {A = ℕ} _ _ 0 c.requires, c.in-110.is) (rw add-one at c.word_end-in-110.ensures)

pub returns-in_default : goal.returns-in_default
unfolding plain_stop
returns-in_default c =
    let h = c.requires in
    let b = get_or c.args.text.now c.args.at 0 in
    let not_t : b ≢ 116 = grind arith in
    let not_f : b ≢ 102 = grind arith in
    let not_n : b ≢ 110 = grind arith in
    rw (drop-cons {A = ℕ} _ _ 0 h, ne_eqb b 116 not_t, ne_eqb b 102 not_f, ne_eqb b 110 not_n)
    (rw (drop-cons {A = ℕ} _ _ 0 h) at c.number_end.ensures)
