use Rattle.std.proofs.Common.{◌<◌, ◌≢◌, length, arith, get_or-set_other, get_or-set_same, below_more}
use lib.ListN.{length-set}
use Rattle.c_area_back.proofs.Groups.{numbers_taken}
use Rattle.c_area_back.proofs.numbers_from.Goals as goal

pub loop-i-preserved : goal.loop-i-preserved
loop-i-preserved g c =
    record {
      all = simp length-set c.loop-i.invariant.all;
      read = below_more _ _
          (λ k h. let other : k ≢ c.loop-i.i = omega arith in rw get_or-set_other (c.loop-i.invariant.read k h))
          (let inside : c.loop-i.i < length c.loop-i.number-items = omega arith in rw get_or-set_same c.number_at.ensures);
    }

pub returns : goal.returns
returns g c =
    numbers_taken _ _ _ _ c.loop-i.invariant.all (λ i h. c.loop-i.invariant.read i (omega arith))
