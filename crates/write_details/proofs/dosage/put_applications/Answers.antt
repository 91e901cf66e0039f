use borrow.Author.Tests.{eq-eqb, ne_eqb}
use mathlib.Core.Path.{refl, ap}
use mathlib.Core.Bool.{not}
use Prim.Native.Nat.{◌+◌}
use native.Mathlib.Omega.{arith}
use lib.Dec.{eqb}
use Rattle.write_details.specs.Prints.{ApplicationPrints, ApplicationsPrint}
use Rattle.write_details.proofs.Listing.{listed_none, listed_more, listed_all}
use Rattle.write_details.proofs.Applications.{application_next, applications_end}
use Rattle.write_details.proofs.dosage.put_applications.Goals as goal

pub loop-r-init : goal.loop-r-init
loop-r-init c =
    (omega arith, listed_none (ApplicationsPrint c.args.words.now c.args.end) c.args.i (not (eqb c.args.i c.args.i)) (ap not (eq-eqb c.args.i c.args.i refl)))

pub loop-r-preserved : goal.loop-r-preserved
loop-r-preserved c = (
  omega arith,
  listed_more (ApplicationsPrint c.args.words.now c.args.end) c.args.i c.loop-r.r (not (eqb c.loop-r.r c.args.i)) c.loop-r.invariant.1 (ApplicationPrints c.args.words.now c.loop-r.r) (c.loop-r.r + 2) (not (eqb (c.loop-r.r + 2) c.args.i))
      (ap not (ne_eqb (c.loop-r.r + 2) c.args.i (λ e. omega arith)))
      (application_next c.loop-r-test.true)
      c.put_comma.ensures
      c.put_application.ensures,
)

pub returns : goal.returns
returns c =
    listed_all (ApplicationsPrint c.args.words.now c.args.end) c.args.i c.loop-r.r (not (eqb c.loop-r.r c.args.i)) c.loop-r.invariant.1 (applications_end c.loop-r-test.false)
