-- What was put is fetched, said of what the functions promise: into a buffer in which reading the text takes it, fetching answers as that reading.
use mathlib.Core.Path.{◌≡◌, refl, ap, sym, ◌∙◌}
use mathlib.Core.List.{List}
use Prim.Native.Nat.{ℕ}
use Rattle.std.specs.Prelude.{Ok}
use lib.ListN.{length}
use Rattle.json_grammar.proofs.Truth.{never}
use Rattle.document.specs.Posology.{Posology}
use Rattle.document.specs.Valid.{Fits, room_of}
use Rattle.document.specs.Answer as R
use Rattle.document.specs.Answer.{Read, read, read_values, table_after, buffer_after, Reads, in_room, terms_of}
use Rattle.document.specs.Values.{answer_values, accepted}
use Rattle.document.specs.Write.{in_greatest_room}
use Rattle.document.specs.declared.table.Reading.{Reading}
use Rattle.document_meaning.proofs.Numbered.{reading_one}
use Rattle.document_meaning.proofs.Spelled.{accepted_spells}
use Rattle.demands.proofs.Demand2.{spells_one}
use Rattle.shelf_list.specs.Shelf.{Entry}
use Rattle.shelf_list.specs.Calls.{put, stored, fetched_from, Serves}
use Rattle.shelf_list.specs.Grounds as G
use Rattle.shelf_list.proofs.Wish2.{stored_iff, put_fetches}
use Rattle.shelf.specs.Answers.{Fetches}

taken_by : {purpose : ℕ} {text before after : List ℕ} {r : Reading} → Reads purpose text before r after → r.answer ≡ Ok tt
    → (p : Posology) × (read (terms_of purpose before) text ≡ R.taken p)
taken_by {purpose} {text} {before} h t = go (read (terms_of purpose before) text) refl (sym (ap answer_values t) ∙ h.answer)
  where
    go : (x : Read) → read (terms_of purpose before) text ≡ x → accepted ≡ read_values x
        → (p : Posology) × (read (terms_of purpose before) text ≡ R.taken p)
    go (R.taken p) e k = (p, e)
    go (R.refused n place) e k = never (cc k)

-- The posology that was put.
put_read_lem : {n l number purpose : ℕ} {es : List Entry} {text : List ℕ} → G.Taken n es l (put number purpose text)
    → (p : Posology) × (read (in_greatest_room purpose) text ≡ R.taken p)
put_read_lem (G.put_taken {p = p} i s e room long) = (p, e)

-- Reading the text takes it, put stored it: fetching it gives the same answer, the same table and the same bytes of the buffer.
pub fetched_as_read : {number purpose l : ℕ} {text area area' before after after' : List ℕ} {r r' : Reading}
    → Serves (put number purpose text) area (stored l) area' → Reads purpose text before r after → r.answer ≡ Ok tt
    → Fetches number area' before r' after' → (r' ≡ r) × (after' ≡ after)
fetched_as_read {number} {purpose} {l} {text} {area} {area'} {before} s h t f =
    let q = taken_by h t in
    let room = length before in
    let put-it = put_read_lem ((stored_iff (put number purpose text) area l).0 (sym s.result)).2 in
    let a = accepted_spells (in_room purpose room) text q.0 q.1 in
    let b = accepted_spells (in_greatest_room purpose) text put-it.0 put-it.1 in
    let same : put-it.0 ≡ q.0 = spells_one text put-it.0 q.0 b.2 a.2 in
    let fits : Fits (room_of room) put-it.0 = rw same a.3 in
    let fetched : fetched_from area' number room ≡ R.taken put-it.0 =
    ap (λ (x : List ℕ). fetched_from x number room) s.left ∙ put_fetches number purpose room text area put-it.0 l (sym s.result) put-it.1 fits in
    let alike : fetched_from area' number room ≡ read (in_room purpose room) text = fetched ∙ ap R.taken same ∙ sym q.1 in (
      reading_one _ _ (f.answer ∙ ap read_values alike ∙ sym h.answer) (f.table ∙ ap table_after alike ∙ sym h.table),
      f.left ∙ ap (λ (x : Read). buffer_after x before) alike ∙ sym h.left,
    )
