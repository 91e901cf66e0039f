-- Details and sequences: what each object of a sequence, its list, and a detail come to.
use mathlib.Core.Path.{refl, ap, sym, ◌∙◌}
use mathlib.Core.List.{[], ◌∷◌}
use Prim.Native.Nat.{suc, ◌-◌}
use native.Mathlib.Omega.{arith}
use Rattle.document.specs.Bytes.{bytes}
use Rattle.document.specs.Schema.{an_object, some_objects, a_detail, a_sequence_object, rows_of, sequence_rows, posology_sequence_rows}
use Rattle.document.specs.Visit.{entries_of, members}
use Rattle.document.proofs.Taken.{one_more_lem, still_same, still_then}
use Rattle.read_names.specs.Names.{name_at, names}
use Rattle.read_names.specs.declared.names.Name.TheVariants as N
use Rattle.read_fields.proofs.Refusals.{raised, refuses_as}
use Rattle.read_type.proofs.Typed.{slot_of}
use Rattle.read_records.proofs.Records.{stores}
use Rattle.read_details.specs.Rows.{DetailAt, ObjectIn, ObjectsIn}
use Rattle.read_dosages.proofs.Bodies.{object_at, body_unknown, body_full, body_opens, took_integer, stopped_integer, stopped, typed_as}
use Rattle.read_dosages.proofs.Rowed.{kept_done, visited_as, visited_goes, one_ready, grown_above}
use Rattle.read_dosages.proofs.Below as B
use Rattle.read_details.proofs.Detailed as D
use Rattle.read_dosages.proofs.Listing as L
use Rattle.read_details.proofs.Sequences as S
use Rattle.read_details.proofs.detail.+details.Goals as goal

pub open_sequence-returns-clause-visits_sequence : goal.open_sequence-returns-clause-visits_sequence
open_sequence-returns-clause-visits_sequence t c st tells p ms stands once inside =
    visited_as c.args.terms c.args.text.now c.args.used c.args.words.now (DetailAt c.args.text.now) c.read_sequence.result c.read_sequence.new.words
    (S.sequence_body c.args.left c.args.text.now c.args.at c.args.o.now (entries_of ms) st c.if-left-eq0.false (object_at stands)) (c.read_sequence.ensures.visits_typed st tells p ms stands once)

pub posology_sequence-returns-in_err-knows_all-clause-visits_typed : goal.posology_sequence-returns-in_err-knows_all-clause-visits_typed
unfolding rows_of posology_sequence_rows name_at names
posology_sequence-returns-in_err-knows_all-clause-visits_typed t c st tells p ms stands once =
    rw (raised c.from_residual.result c.from_residual.ensures.1)
    (body_unknown (D.posology_sequence_known c.args.left) tells c.requires.1 p (entries_of ms) c.in_err-knows_all.field-0.0 (c.in_err-knows_all.ensures refl p ms stands once), refl)

pub posology_sequence-returns-in_err-span-clause-visits_typed : goal.posology_sequence-returns-in_err-span-clause-visits_typed
unfolding rows_of posology_sequence_rows name_at names
posology_sequence-returns-in_err-span-clause-visits_typed t c st tells p ms stands once =
    let counted = one_more_lem c.requires.1 c.one_more-used.ensures in
    let b = body_opens (D.posology_sequence_known c.args.left) tells c.requires.1 p (entries_of ms) (c.in_ok-knows_all.ensures refl p ms stands once) counted (object_at stands) in
    rw (raised c.from_residual-in_err-span.result c.from_residual-in_err-span.ensures.1) (stopped_integer b c.in_err-span.field-0.0 (c.in_err-span.ensures.counts_needed c.requires.2 _ (slot_of N.Du once c.at.ensures)), refl)

pub posology_sequence-returns-in_err-unit-clause-visits_typed : goal.posology_sequence-returns-in_err-unit-clause-visits_typed
unfolding rows_of posology_sequence_rows name_at names
posology_sequence-returns-in_err-unit-clause-visits_typed t c st tells p ms stands once =
    let counted = one_more_lem c.requires.1 c.one_more-used.ensures in
    let b = body_opens (D.posology_sequence_known c.args.left) tells c.requires.1 p (entries_of ms) (c.in_ok-knows_all.ensures refl p ms stands once) counted (object_at stands) in
    let span = took_integer b c.in_ok-span.span (c.in_ok-span.ensures.counts_needed c.requires.2 _ (slot_of N.Du once c.at.ensures)) in
    rw (raised c.from_residual-in_err-unit.result c.from_residual-in_err-unit.ensures.1) (stopped_integer span c.in_err-unit.field-0.0 (c.in_err-unit.ensures.counts_needed c.requires.2 _ (slot_of N.DuU once c.at-2.ensures)), refl)

pub posology_sequence-read_detail-requires : goal.posology_sequence-read_detail-requires
posology_sequence-read_detail-requires t c =
    let counted = one_more_lem c.requires.1 c.one_more-used.ensures in
    let one = D.counted_still c.args.used counted (still_then c.in_ok-span.ensures.counts_still c.in_ok-unit.ensures.counts_still) in
    (omega (arith, c.decreases), (one_ready c.requires.0 c.requires.1 one, c.requires.2))

pub posology_sequence-returns-in_err-used-clause-visits_typed : goal.posology_sequence-returns-in_err-used-clause-visits_typed
unfolding rows_of posology_sequence_rows name_at names
posology_sequence-returns-in_err-used-clause-visits_typed t c st tells p ms stands once =
    let counted = one_more_lem c.requires.1 c.one_more-used.ensures in
    let b = body_opens (D.posology_sequence_known c.args.left) tells c.requires.1 p (entries_of ms) (c.in_ok-knows_all.ensures refl p ms stands once) counted (object_at stands) in
    let span = took_integer b c.in_ok-span.span (c.in_ok-span.ensures.counts_needed c.requires.2 _ (slot_of N.Du once c.at.ensures)) in
    let unit = took_integer span c.in_ok-unit.unit (c.in_ok-unit.ensures.counts_needed c.requires.2 _ (slot_of N.DuU once c.at-2.ensures)) in
    rw (raised c.from_residual-in_err-used.result c.from_residual-in_err-used.ensures.1)
    (B.object_stopped c.args.at unit (DetailAt c.args.text.now) c.args.words.now c.read_detail.new.words (slot_of N.Po once c.at-po.ensures) c.in_err-used.field-0.0 c.in_err-used.ensures.visits_needed)

pub posology_sequence-returns-clause-visits_typed : goal.posology_sequence-returns-clause-visits_typed
unfolding rows_of posology_sequence_rows name_at names
posology_sequence-returns-clause-visits_typed t c st tells p ms stands once =
    let counted = one_more_lem c.requires.1 c.one_more-used.ensures in
    let b = body_opens (D.posology_sequence_known c.args.left) tells c.requires.1 p (entries_of ms) (c.in_ok-knows_all.ensures refl p ms stands once) counted (object_at stands) in
    let one = D.counted_still c.args.used counted (still_then c.in_ok-span.ensures.counts_still c.in_ok-unit.ensures.counts_still) in
    let span = took_integer b c.in_ok-span.span (c.in_ok-span.ensures.counts_needed c.requires.2 _ (slot_of N.Du once c.at.ensures)) in
    let unit = took_integer span c.in_ok-unit.unit (c.in_ok-unit.ensures.counts_needed c.requires.2 _ (slot_of N.DuU once c.at-2.ensures)) in
    let d = B.object_did c.args.at unit (DetailAt c.args.text.now) c.args.words.now c.read_detail.new.words (slot_of N.Po once c.at-po.ensures) c.in_ok-used.ensures.visits_needed in
    S.posology_sequence_did c.args.text.now one d _ _ (B.took_below unit d) (stores _ _ _ (c.in_ok-used.ensures.kept.size ∙ c.requires.0.size) c.requires.1 c.store.ensures)

pub posology_sequence-returns-clause-kept : goal.posology_sequence-returns-clause-kept
posology_sequence-returns-clause-kept t c =
    let counted = one_more_lem c.requires.1 c.one_more-used.ensures in
    kept_done (c.store.auto.words ∙ c.in_ok-used.ensures.kept.size)
    (grown_above (D.counted_still c.args.used counted (still_then c.in_ok-span.ensures.counts_still c.in_ok-unit.ensures.counts_still)) c.in_ok-used.ensures.kept.grown (still_same refl))

pub read_objects-loop-terms-init : goal.read_objects-loop-terms-init
read_objects-loop-terms-init t c =
    (c.requires.0, omega arith, refl, λ st tells p es stands. L.going_starts c.args.terms c.args.text.now (an_object (a_sequence_object c.args.left)) (ObjectsIn c.args.text.now) c.args.first c.args.words.now tells stands c.first_in-e.ensures)

pub read_objects-returns-in_err-v-clause-visits_each : goal.read_objects-returns-in_err-v-clause-visits_each
read_objects-returns-in_err-v-clause-visits_each t c st tells p es stands =
    let going = c.loop-terms.invariant.3 st tells p es stands in
    rw (raised c.from_residual.result c.from_residual.ensures.1)
    (L.going_refused c.args.terms c.args.text.now (an_object (a_sequence_object c.args.left)) (ObjectsIn c.args.text.now) going (sym c.at_end.ensures ∙ c.loop-terms-test.true) c.in_err-v.field-0.0 c.loop-terms.words
    (S.object_refused c.args.text.now c.args.left c.loop-terms.e c.in_err-v.field-0.0 c.in_err-v.ensures.object_at going.state) refl)

pub read_objects-returns-in_err-used-clause-visits_each : goal.read_objects-returns-in_err-used-clause-visits_each
read_objects-returns-in_err-used-clause-visits_each t c st tells p es stands =
    let going = c.loop-terms.invariant.3 st tells p es stands in
    rw (raised c.from_residual-in_err-used.result c.from_residual-in_err-used.ensures.1)
    (L.going_refused c.args.terms c.args.text.now (an_object (a_sequence_object c.args.left)) (ObjectsIn c.args.text.now) going (sym c.at_end.ensures ∙ c.loop-terms-test.true) c.in_err-used.field-0.0 c.read_sequence_object.new.words
    (S.object_stopped c.args.text.now c.args.left c.loop-terms.e c.in_ok-v.ensures.object_at c.args.terms c.loop-terms.used c.loop-terms.words c.read_sequence_object.new.words going.tells c.in_err-used.field-0.0 c.in_err-used.ensures.visits_object)
    c.in_err-used.ensures.kept.size)

pub read_objects-loop-terms-preserved : goal.read_objects-loop-terms-preserved
read_objects-loop-terms-preserved t c =
    let g = c.in_ok-used.ensures.kept.grown in (
      record { size = c.in_ok-used.ensures.kept.size ∙ c.loop-terms.invariant.0.size; few = g.few; fits = g.fits },
      omega (arith, g.some, c.loop-terms.invariant.1),
      c.in_ok-used.ensures.kept.size ∙ c.loop-terms.invariant.2,
      λ st tells p es stands.
          let going = c.loop-terms.invariant.3 st tells p es stands in
          L.going_on c.args.terms c.args.text.now (an_object (a_sequence_object c.args.left)) (ObjectsIn c.args.text.now) going (sym c.at_end.ensures ∙ c.loop-terms-test.true)
          (S.object_did c.args.text.now c.args.left c.loop-terms.e c.in_ok-v.ensures.object_at c.args.terms c.loop-terms.used c.loop-terms.words c.read_sequence_object.new.words going.tells c.in_ok-used.ensures.visits_object)
          (λ end b bs k k' e e'. S.objects_join c.args.text.now _ _ end b bs k k' e e') c.next_after-e.ensures,
    )

pub read_objects-returns-clause-visits_each : goal.read_objects-returns-clause-visits_each
read_objects-returns-clause-visits_each t c st tells p es stands =
    L.going_over c.args.terms c.args.text.now (an_object (a_sequence_object c.args.left)) (ObjectsIn c.args.text.now) (c.loop-terms.invariant.3 st tells p es stands) (sym c.at_end.ensures ∙ c.loop-terms-test.false) (S.no_objects _ _)

pub read_sequence-returns-in_err-knows_all-clause-visits_typed : goal.read_sequence-returns-in_err-knows_all-clause-visits_typed
unfolding rows_of sequence_rows name_at names
read_sequence-returns-in_err-knows_all-clause-visits_typed t c st tells p ms stands once =
    rw (raised c.from_residual.result c.from_residual.ensures.1)
    (body_unknown (D.sequence_known (suc c.args.inside)) tells c.requires.1 p (entries_of ms) c.in_err-knows_all.field-0.0 (c.in_err-knows_all.ensures refl p ms stands once), refl)

pub read_sequence-returns-in_err-l-clause-visits_typed : goal.read_sequence-returns-in_err-l-clause-visits_typed
unfolding rows_of sequence_rows name_at names
read_sequence-returns-in_err-l-clause-visits_typed t c st tells p ms stands once =
    let b = body_opens (D.sequence_known (suc c.args.inside)) tells c.requires.1 p (entries_of ms) (c.in_ok-knows_all.ensures refl p ms stands once) refl (object_at stands) in
    rw (raised c.from_residual-in_err-l.result c.from_residual-in_err-l.ensures.1)
    (stopped b (c.in_err-l.ensures.list_needed c.requires.2 _ (slot_of N.Sos once c.at.ensures) (some_objects (a_sequence_object (suc c.args.inside - 1))) b.state), refl)

pub read_sequence-returns-then-at_end-clause-visits_typed : goal.read_sequence-returns-then-at_end-clause-visits_typed
unfolding rows_of sequence_rows name_at names
read_sequence-returns-then-at_end-clause-visits_typed t c st tells p ms stands once =
    let b = body_opens (D.sequence_known (suc c.args.inside)) tells c.requires.1 p (entries_of ms) (c.in_ok-knows_all.ensures refl p ms stands once) refl (object_at stands) in
    let list = c.in_ok-l.ensures.list_needed c.requires.2 _ (slot_of N.Sos once c.at.ensures) in
    (S.sequence_empty c.args.at c.args.inside b list c.first_in.ensures (sym c.at_end.ensures ∙ c.if-at_end.true), refl)

pub read_sequence-read_objects-requires : goal.read_sequence-read_objects-requires
read_sequence-read_objects-requires t c =
    let counted = one_more_lem c.requires.1 c.one_more-used.ensures in
    (omega (arith, c.decreases), (B.ready_more c.args.used counted c.requires.0 c.requires.1, omega (arith, c.in_ok-l.ensures.inside)))

pub read_sequence-returns-in_err-used-clause-visits_typed : goal.read_sequence-returns-in_err-used-clause-visits_typed
unfolding rows_of sequence_rows name_at names
read_sequence-returns-in_err-used-clause-visits_typed t c st tells p ms stands once =
    let counted = one_more_lem c.requires.1 c.one_more-used.ensures in
    let b = body_opens (D.sequence_known (suc c.args.inside)) tells c.requires.1 p (entries_of ms) (c.in_ok-knows_all.ensures refl p ms stands once) counted (object_at stands) in
    let list = c.in_ok-l.ensures.list_needed c.requires.2 _ (slot_of N.Sos once c.at.ensures) in
    rw (raised c.from_residual-in_err-used.result c.from_residual-in_err-used.ensures.1)
    (S.objects_stopped c.args.at c.args.inside b list c.first_in.ensures (sym c.at_end.ensures ∙ c.if-at_end.false) c.args.words.now c.read_objects.new.words c.in_err-used.field-0.0 c.in_err-used.ensures.visits_each)

pub read_sequence-returns-clause-visits_typed : goal.read_sequence-returns-clause-visits_typed
unfolding rows_of sequence_rows name_at names
read_sequence-returns-clause-visits_typed t c st tells p ms stands once =
    let counted = one_more_lem c.requires.1 c.one_more-used.ensures in
    let b = body_opens (D.sequence_known (suc c.args.inside)) tells c.requires.1 p (entries_of ms) (c.in_ok-knows_all.ensures refl p ms stands once) counted (object_at stands) in
    let list = c.in_ok-l.ensures.list_needed c.requires.2 _ (slot_of N.Sos once c.at.ensures) in
    let d = S.objects_did c.args.at c.args.inside b list c.first_in.ensures (sym c.at_end.ensures ∙ c.if-at_end.false) c.args.words.now c.read_objects.new.words c.in_ok-used.ensures.visits_each in
    S.sequence_did c.args.text.now (still_same (sym counted)) d (B.took_below b d) (stores _ _ _ (c.in_ok-used.ensures.kept.size ∙ c.requires.0.size) c.requires.1 c.store.ensures)

pub read_sequence-returns-clause-kept : goal.read_sequence-returns-clause-kept
read_sequence-returns-clause-kept t c =
    B.kept_above c.args.used (one_more_lem c.requires.1 c.one_more-used.ensures) _ c.requires.0 c.requires.1 c.in_ok-used.ensures.kept (still_same refl) c.store.ensures

pub read_sequence_object-returns-in_err-o-clause-visits_object : goal.read_sequence_object-returns-in_err-o-clause-visits_object
read_sequence_object-returns-in_err-o-clause-visits_object t c st tells p ms stands =
    rw (raised c.from_residual.result c.from_residual.ensures.1) (
      refuses_as (ap (λ q. members (a_sequence_object c.args.left) q (entries_of ms) st) (object_at stands)) (c.in_err-o.ensures.opens_typed (omega arith) p ms stands (a_sequence_object c.args.left) refl _ _ tells),
      refl,
    )

pub read_sequence_object-returns-then-is_full-clause-visits_object : goal.read_sequence_object-returns-then-is_full-clause-visits_object
read_sequence_object-returns-then-is_full-clause-visits_object t c st tells p ms stands =
    let x = c.in_ok-o.ensures.opens_typed (omega arith) p ms stands in
    let g = typed_as x (a_sequence_object c.args.left) _ tells refl refl refl refl (object_at stands) in
    (refuses_as g.outcome (body_full (a_sequence_object c.args.left) _ (bytes "t" ∷ []) p (entries_of ms) g.tells refl (S.full c.is_full.ensures c.if-is_full.true) c.args.at (object_at stands) c.requires.1), refl)

pub read_sequence_object-returns-in-1-clause-visits_object : goal.read_sequence_object-returns-in-1-clause-visits_object
read_sequence_object-returns-in-1-clause-visits_object t c st tells p ms stands =
    let x = c.in_ok-o.ensures.opens_typed (omega arith) p ms stands in
    let g = typed_as x (a_sequence_object c.args.left) 1 tells refl c.in-1.is refl refl (object_at stands) in
    visited_goes c.args.terms c.args.text.now c.args.words.now (ObjectIn c.args.text.now) c.posology_sequence.result c.posology_sequence.new.words c.in_ok-o.ensures.opens_still g (c.posology_sequence.ensures.visits_typed g.state g.tells p ms stands x.settled)

pub read_sequence_object-returns-in_default-clause-visits_object : goal.read_sequence_object-returns-in_default-clause-visits_object
read_sequence_object-returns-in_default-clause-visits_object t c st tells p ms stands =
    let x = c.in_ok-o.ensures.opens_typed (omega arith) p ms stands in
    let g = typed_as x (a_sequence_object c.args.left) 2 tells refl (omega (arith, x.least, x.most)) refl refl (object_at stands) in
    visited_goes c.args.terms c.args.text.now c.args.words.now (ObjectIn c.args.text.now) c.pause.result c.pause.new.words c.in_ok-o.ensures.opens_still g (c.pause.ensures.by_index c.args.left g.state g.tells p ms stands x.settled)

pub visit_detail-returns-in_err-o-clause-visits_object : goal.visit_detail-returns-in_err-o-clause-visits_object
visit_detail-returns-in_err-o-clause-visits_object t c st tells p ms stands =
    rw (raised c.from_residual.result c.from_residual.ensures.1) (
      refuses_as (ap (λ q. members (a_detail c.args.left) q (entries_of ms) st) (object_at stands)) (c.in_err-o.ensures.opens_typed (omega arith) p ms stands (a_detail c.args.left) refl _ _ tells),
      refl,
    )

pub visit_detail-returns-then-o-eq5-clause-visits_object : goal.visit_detail-returns-then-o-eq5-clause-visits_object
visit_detail-returns-then-o-eq5-clause-visits_object t c st tells p ms stands =
    let x = c.in_ok-o.ensures.opens_typed (omega arith) p ms stands in
    let g = S.opens_as x (a_detail c.args.left) 5 tells refl c.if-o-eq5.true (object_at stands) in
    visited_goes c.args.terms c.args.text.now c.args.words.now (DetailAt c.args.text.now) c.open_sequence.result c.open_sequence.new.words c.in_ok-o.ensures.opens_still g (c.open_sequence.ensures.visits_sequence g.state g.tells p ms stands x.settled x.inside)

pub visit_detail-returns-then-is_full-clause-visits_object : goal.visit_detail-returns-then-is_full-clause-visits_object
visit_detail-returns-then-is_full-clause-visits_object t c st tells p ms stands =
    let x = c.in_ok-o.ensures.opens_typed (omega arith) p ms stands in
    let g = typed_as x (a_detail c.args.left) _ tells refl refl refl (S.opens_plain c.args.left _ c.if-o-eq5.false) (object_at stands) in
    (refuses_as g.outcome (body_full (a_detail c.args.left) _ (bytes "t" ∷ []) p (entries_of ms) g.tells refl (S.full c.is_full.ensures c.if-is_full.true) c.args.at (object_at stands) c.requires.1), refl)

pub visit_detail-returns-clause-visits_object : goal.visit_detail-returns-clause-visits_object
visit_detail-returns-clause-visits_object t c st tells p ms stands =
    let x = c.in_ok-o.ensures.opens_typed (omega arith) p ms stands in
    let g = typed_as x (a_detail c.args.left) _ tells refl refl refl (S.opens_plain c.args.left _ c.if-o-eq5.false) (object_at stands) in
    visited_goes c.args.terms c.args.text.now c.args.words.now (DetailAt c.args.text.now) c.plain_detail.result c.plain_detail.new.words c.in_ok-o.ensures.opens_still g (c.plain_detail.ensures.visits_typed x.least (omega (arith, c.if-o-eq5.false, x.most)) c.args.left g.state g.tells p ms stands x.settled)
