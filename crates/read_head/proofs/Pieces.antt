-- The head's strings: a string that was read as a piece, and the unit by its row.
use Prim.Native.Nat.{ℕ}
use mathlib.Core.Path.{◌≡◌, refl, sym, ap, subst}
use mathlib.Core.List.{List}
use mathlib.Core.Bool.{Bool, true, false}
use mathlib.Core.Option.{Option, none, some}
use native.Mathlib.Omega.{arith}
use lib.ListN.{drop}
use borrow.Author.Tests.{eq-eqb, ne_eqb}
use Rattle.std.specs.Prelude.{Option as Maybe, Result, Ok, Err}
use Rattle.json_grammar.specs.Tree.{Place}
use Rattle.document.specs.Bytes.{bytes}
use Rattle.document.specs.Posology as P
use Rattle.document.specs.Lookup.{Entry, Found, find}
use Rattle.document.specs.Schema.{Rows, unit_if, a_text}
use Rattle.document.specs.Table.{length_of}
use Rattle.document.specs.Visit.{State, Outcome, done, refuse, bind, present, Value, needed, fields}
use Rattle.document.specs.At.{Slot}
use Rattle.document.specs.declared.refusal.Refusal.{Refusal}
use Rattle.document.specs.declared.terms.Terms.{Terms}
use Rattle.document.specs.declared.terms.Used.{Used}
use Rattle.read_fields.specs.Fields.{StringIs, Words, WordsFrom, ReadsText}
use Rattle.read_details.specs.Holding.{PieceOf}
use Rattle.read_head.specs.HeadRows.{unit_read, piece_at}
use Rattle.read_fields.specs.declared.field.Worded.{Worded}
use Rattle.read_records.specs.declared.read.Piece.{Piece}

-- A string's piece, and its length.
pub piece_of : (text : List ℕ) (start q n : ℕ) (x : Option (List ℕ)) {p : Piece} → p ≡ piece_at q start n → StringIs text q n x → PieceOf text start x p
piece_of text start q n none e h =
    subst (λ (p : Piece). PieceOf text start none p) (sym e) (rw (eq-eqb n 0 h.1) (refl, refl, refl))
piece_of text start q n (some cs) e h =
    subst (λ (p : Piece). PieceOf text start (some cs) p) (sym e) (rw (ne_eqb n 0 (λ z. omega (arith, h.2))) (refl, sym h.1, omega (arith, h.1, h.2), h.0))

pub length_of_lem : (text : List ℕ) (q n : ℕ) (x : Option (List ℕ)) → StringIs text q n x → length_of x ≡ n
length_of_lem text q n none h = sym h.1
length_of_lem text q n (some cs) h = h.1

-- "unit (optional for use 3)": a needed string is present.
present_words : (terms : Terms) (text : List ℕ) (o : Outcome (List ℕ)) (r : Result Worded Refusal) → Words terms text o (λ cs. some cs) r → Words terms text (present o) (λ x. x) r
present_words terms text o (Ok w) h =
    record { value = some h.value; state = h.state; outcome = ap (λ (o : Outcome (List ℕ)). present o) h.outcome; tells = h.tells; holds = h.holds }
present_words terms text o (Err r) h = record { outcome = ap (λ (o : Outcome (List ℕ)). present o) h.outcome; inside = h.inside }

pub unit_needed : (terms : Terms) (text : List ℕ) (brace : ℕ) (v : Maybe ℕ) (u : Used) (r : Result Worded Refusal) → ReadsText terms text brace v u r
    → (f : Found Value) → Slot text v f → WordsFrom terms text u (unit_read false (drop brace text) f) (λ x. x) r
unit_needed terms text brace v u r h f slot s tells = present_words terms text (needed a_text (drop brace text) f s) r (h f slot s tells)

present_bind : {A B : Type 0} (o : Outcome A) (f : Option A → State → Outcome B) → bind o (λ x l. f (some x) l) ≡ bind (present o) f
present_bind (done x l) f = refl
present_bind (refuse n p) f = refl

pub unit_row : (b : Bool) (k : Option (List ℕ) → Rows P.Posology) (p : Place) (es : List (Entry Value)) (s : State)
    → fields (unit_if b k) p es s ≡ bind (unit_read b p (find (bytes "unit") es) s) (λ x s'. fields (k x) p es s')
unit_row true k p es s = refl
unit_row false k p es s = present_bind (needed a_text p (find (bytes "unit") es) s) (λ x s'. fields (k x) p es s')
