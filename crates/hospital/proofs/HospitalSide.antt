-- The hospital side: every call has one answer, and a refusal leaves all as lent; what reading has laid out in the lent bytes, writing makes
-- the plain text of, and what writing wrote, reading lays out again.
use Prim.Native.Nat.{ℕ, ◌≤◌}
use mathlib.Core.Path.{◌≡◌, sym, ◌∙◌}
use mathlib.Core.List.{List}
use lib.ListN.{length, take}
use Rattle.document.specs.Posology.{Posology}
use Rattle.document.specs.Plain.{plain}
use Rattle.document.specs.Answer.{taken, buffer_after, taken_to, next_buffer_after}
use Rattle.document.specs.Write.{writes, fitting}
use Rattle.c_area.specs.Area.{area_bytes, table_in}
use Rattle.hospital.specs.Calls.{called, area_after, ReadsInto, called_next, next_area_after, ReadsNextInto, called_write, WritesFrom}
use Rattle.hospital.proofs.TextCalls.{refused_leaves}
use Rattle.hospital.proofs.RunCalls.{next_refused_leaves}
use Rattle.hospital.proofs.WriteCalls.{write_refused_leaves}
use Rattle.hospital.proofs.ReadWritten.{read_written, next_written}
use Rattle.hospital.proofs.WrittenRead.{area_back, calls_back}

-- "any two answers allowed by it are equal": number, place and each byte of the lent buffers.
pub determined_posology_read : {purpose n n' at at' : ℕ} {text strings area strings₁ strings₂ area₁ area₂ : List ℕ}
    → ReadsInto purpose text strings area n at strings₁ area₁ → ReadsInto purpose text strings area n' at' strings₂ area₂
    → (n ≡ n') × (at ≡ at') × (strings₁ ≡ strings₂) × (area₁ ≡ area₂)
determined_posology_read a b = (a.number ∙ sym b.number, a.place ∙ sym b.place, a.strings_left ∙ sym b.strings_left, a.area_left ∙ sym b.area_left)

pub determined_posology_next : {purpose n n' at at' : ℕ} {run strings area strings₁ strings₂ area₁ area₂ : List ℕ}
    → ReadsNextInto purpose run strings area n at strings₁ area₁ → ReadsNextInto purpose run strings area n' at' strings₂ area₂
    → (n ≡ n') × (at ≡ at') × (strings₁ ≡ strings₂) × (area₁ ≡ area₂)
determined_posology_next a b = (a.number ∙ sym b.number, a.place ∙ sym b.place, a.strings_left ∙ sym b.strings_left, a.area_left ∙ sym b.area_left)

pub determined_posology_write : {purpose n n' at at' : ℕ} {area strings out out₁ out₂ : List ℕ}
    → WritesFrom purpose area strings out n at out₁ → WritesFrom purpose area strings out n' at' out₂
    → (n ≡ n') × (at ≡ at') × (out₁ ≡ out₂)
determined_posology_write a b = (a.number ∙ sym b.number, a.place ∙ sym b.place, a.out_left ∙ sym b.out_left)

-- "a refusal leaves the area too as lent": where the number is not 0, each lent byte is as it was.
pub refused_call_leaves_all : {purpose n at : ℕ} {text strings area strings' area' : List ℕ} → ReadsInto purpose text strings area n at strings' area' → (n ≡ 0 → ⊥)
    → (strings' ≡ strings) × (area' ≡ area)
refused_call_leaves_all {purpose} {text = text} {strings = strings} {area = area} a h =
    refused_leaves (called purpose text (length strings) (length area)) text strings area a.number a.strings_left a.area_left h

pub refused_next_call_leaves_all : {purpose n at : ℕ} {run strings area strings' area' : List ℕ} → ReadsNextInto purpose run strings area n at strings' area' → (n ≡ 0 → ⊥)
    → (strings' ≡ strings) × (area' ≡ area)
refused_next_call_leaves_all {purpose} {run = run} {strings = strings} {area = area} a h =
    next_refused_leaves (called_next purpose run (length strings) (length area)) strings area a.number a.strings_left a.area_left h

pub refused_write_call_leaves_all : {purpose n at : ℕ} {area strings out out' : List ℕ} → WritesFrom purpose area strings out n at out' → (n ≡ 0 → ⊥) → out' ≡ out
refused_write_call_leaves_all {purpose} {area = area} {strings = strings} {out = out} a h =
    write_refused_leaves (called_write purpose area strings (length out)) out a.number a.out_left h

-- posology_read took a posology: posology_write, lent what it left, writes the posology's plain text, or asks for the room that it needs.
pub read_then_written : (purpose : ℕ) (text strings area out : List ℕ) (p : Posology) → called purpose text (length strings) (length area) ≡ taken p
    → called_write purpose (area_after (taken p) area) (buffer_after (taken p) strings) (length out) ≡ fitting (length out) (plain p)
read_then_written purpose text strings area out p e = read_written purpose text strings area out p e

-- The same of posology_next.
pub next_then_written : (purpose : ℕ) (run strings area out : List ℕ) (p : Posology) (e : ℕ) → called_next purpose run (length strings) (length area) ≡ taken_to p e
    → called_write purpose (next_area_after (taken_to p e) area) (next_buffer_after (taken_to p e) strings) (length out) ≡ fitting (length out) (plain p)
next_then_written purpose run strings area out p e h = next_written purpose run strings area out p e h

-- posology_write wrote an area's table: posology_read, lent an area and room for the strings, takes what it wrote, and leaves the same area and strings.
pub written_then_read : (purpose : ℕ) (area strings : List ℕ) (room : ℕ) (w strings' area' : List ℕ)
    → called_write purpose area strings room ≡ writes w → length area' ≡ area_bytes → (table_in area).text ≤ length strings'
    → (p : Posology) × (called purpose w (length strings') (length area') ≡ taken p) × (area_after (taken p) area' ≡ area)
    × (take (table_in area).text (buffer_after (taken p) strings') ≡ take (table_in area).text strings)
written_then_read purpose area strings room w strings' area' h n f =
    let b = area_back purpose area strings room w strings' area' h n f in
    (b.posology, b.back, b.same_area, b.same_strings)

-- The same of what the two calls promise: posology_write returned 0 and a place.
pub written_then_read_calls : {purpose n at length' : ℕ} {area strings out out' strings₁ strings₂ area₁ area₂ : List ℕ}
    → WritesFrom purpose area strings out 0 length' out' → ReadsInto purpose (take length' out') strings₁ area₁ n at strings₂ area₂
    → length area₁ ≡ area_bytes → (table_in area).text ≤ length strings₁
    → (n ≡ 0) × (at ≡ length') × (area₂ ≡ area) × (take (table_in area).text strings₂ ≡ take (table_in area).text strings)
written_then_read_calls a b n f = calls_back a b n f
