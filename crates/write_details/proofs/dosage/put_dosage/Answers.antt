use borrow.Author.Rules.{rules}
use Rattle.write_details.specs.Prints.{Opens, DosagePrints}
use Rattle.write_details.proofs.Pieces.{lays_at}
use Rattle.write_details.proofs.Dosages.{dosage_prints, tagged_opens, other_opens}
use Rattle.write_details.proofs.dosage.put_dosage.Goals as goal
use Rattle.write_details.proofs.dosage.put_dosage.Goals.{in-12, in-13, in_default}

-- The dosage but for its brace, by each arm.
pub returns : goal.returns
returns c =
    dosage_prints (elim c.match-tag.branch as (λ _. Opens (DosagePrints c.args.words.now c.args.i) c.args.out.now c.match-tag.out) [
      | in-12 w ↦ λ t k d. lays_at w.out-is (tagged_opens 12 c.tag.ensures.here w.in-12.is w.put_simple.ensures t k d)
      | in-13 w ↦ λ t k d. lays_at w.out-is (tagged_opens 13 c.tag.ensures.here w.in-13.is w.put_from_to.ensures t k d)
      | in_default w ↦ λ t k d. lays_at w.out-is (other_opens c.tag.ensures.here (search rules) (search rules) w.put_range.ensures t k d)
    ]) c.put.ensures
