-- An application, its dosage below it.
use mathlib.Core.Path.{refl, ap, sym, ◌∙◌}
use lib.ListN.{length, length-set}
use Rattle.document.specs.Visit.{entries_of}
use Rattle.document.specs.Words.{words}
use Rattle.document.proofs.Taken.{one_more_lem, still_same}
use Rattle.read_names.specs.declared.names.Name.TheVariants as N
use Rattle.read_fields.proofs.Refusals.{raised}
use Rattle.read_records.proofs.Records.{stores}
use Rattle.read_type.proofs.Typed.{slot_of}
use Rattle.read_dosages.proofs.Rowed.{kept_done, one_ready, grown_above}
use Rattle.read_dosages.proofs.Bodies.{object_at, body_opens, body_unknown}
use Rattle.read_dosages.proofs.Known.{application_row, application_known}
use Rattle.read_dosages.proofs.Applied.{dosage_stops, own_stops, application_did}
use Rattle.read_dosages.proofs.application.application_fields.Goals as goal

pub returns-in_err-knows_all-clause-visits_body : goal.returns-in_err-knows_all-clause-visits_body
returns-in_err-knows_all-clause-visits_body c =
    rw (raised c.from_residual.result c.from_residual.ensures.1) (λ l tells p ms a once.
    (body_unknown (application_known c.args.timed c.name_of-own.ensures) tells c.requires.1 p (entries_of ms) c.in_err-knows_all.field-0.0 (c.in_err-knows_all.ensures (application_row c.args.timed c.name_of-own.ensures) p ms a once), refl))

pub read_below-requires : goal.read_below-requires
read_below-requires c =
    (one_ready c.requires.0 c.requires.1 (still_same (sym (one_more_lem c.requires.1 c.one_more-used.ensures))), c.requires.2)

pub returns-in_err-used-clause-visits_body : goal.returns-in_err-used-clause-visits_body
returns-in_err-used-clause-visits_body c =
    rw (raised c.from_residual-in_err-used.result c.from_residual-in_err-used.ensures.1) (λ l tells p ms a once.
    let b = body_opens (application_known c.args.timed c.name_of-own.ensures) tells c.requires.1 p (entries_of ms) (c.in_ok-knows_all.ensures (application_row c.args.timed c.name_of-own.ensures) p ms a once) (one_more_lem c.requires.1 c.one_more-used.ensures) (object_at a) in
    let k = c.in_err-used.ensures.visits_needed b.state b.tells _ (slot_of N.Do once c.at.ensures) in
    (dosage_stops c.args.timed c.name_of-own.ensures b k.0, k.1))

pub returns-in_err-when-clause-visits_body : goal.returns-in_err-when-clause-visits_body
returns-in_err-when-clause-visits_body c =
    rw (raised c.from_residual-in_err-when.result c.from_residual-in_err-when.ensures.1) (λ l tells p ms a once.
    let b = body_opens (application_known c.args.timed c.name_of-own.ensures) tells c.requires.1 p (entries_of ms) (c.in_ok-knows_all.ensures (application_row c.args.timed c.name_of-own.ensures) p ms a once) (one_more_lem c.requires.1 c.one_more-used.ensures) (object_at a) in
    let d = c.in_ok-used.ensures.visits_needed b.state b.tells _ (slot_of N.Do once c.at.ensures) in
    (own_stops c.args.timed c.name_of-own.ensures b d c.in_err-when.field-0.0 (c.in_err-when.ensures.reads_own c.requires.2 _ (slot_of _ once c.at-2.ensures)), c.in_ok-used.ensures.kept.size))

pub returns : goal.returns
returns c =
    let one = still_same (sym (one_more_lem c.requires.1 c.one_more-used.ensures)) in
    let same = c.in_ok-when.ensures.counts_still in
    let put = stores _ _ (words _ _ _ 0 0 0) (c.in_ok-used.ensures.kept.size ∙ c.requires.0.size) c.requires.1 c.store.ensures in record {
      visits_body = λ l tells p ms a once.
          let b = body_opens (application_known c.args.timed c.name_of-own.ensures) tells c.requires.1 p (entries_of ms) (c.in_ok-knows_all.ensures (application_row c.args.timed c.name_of-own.ensures) p ms a once) (one_more_lem c.requires.1 c.one_more-used.ensures) (object_at a) in
          let d = c.in_ok-used.ensures.visits_needed b.state b.tells _ (slot_of N.Do once c.at.ensures) in
          application_did c.args.timed c.name_of-own.ensures b d c.in_ok-when.when (c.in_ok-when.ensures.reads_own c.requires.2 _ (slot_of _ once c.at-2.ensures)) c.tag_of.ensures one same put;
      kept = kept_done ((simp length-set at (ap length put)) ∙ c.in_ok-used.ensures.kept.size) (grown_above one c.in_ok-used.ensures.kept.grown same);
    }
