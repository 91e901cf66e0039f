-- A tree is taken as p exactly when it means p, p is valid for the use and p's strings fit the room.
use mathlib.Core.Path.{◌≡◌, subst}
use mathlib.Core.List.{List, [], ◌∷◌}
use mathlib.Core.Bool.{true}
use mathlib.Core.Option.{Option, none, some}
use Prim.Native.Nat.{ℕ, ◌+◌, ◌-◌}
use native.Mathlib.Omega.{arith}
use lib.Dec.{leb}
use lib.ListN.{length}
use borrow.Author.Tests.{le-leb}
use Rattle.json_grammar.specs.Tree.{Tree, object, list, string, number, bool, null}
use Rattle.document.specs.Posology.{Posology, Detail, daily, free_text, single, cyclic, sequence, SequenceObject, posology_sequence, pause, SequenceObjects, no_object, object_then}
use Rattle.document.specs.Schema.{a_posology, an_object}
use Rattle.document.specs.Visit.{Left, State, start, Outcome, done, visit, records_at_most}
use Rattle.document.specs.Valid.{valid, valid_fields, detail_records, joined, given, detail_strings, object_strings, objects_strings, strings, Fits}
use Rattle.document.specs.Spells.{meaning_of, meant_members, Means}
use Rattle.document.specs.declared.terms.Terms.{Terms}
use Rattle.json_grammar.proofs.Truth.{and_both, and_left}
use Rattle.document_meaning.proofs.Good.{detail_text, object_text, objects_text, given_text, posology_text, Good}
use Rattle.document.proofs.ValidParts.{few_records}
use Rattle.document_meaning.proofs.Sound.{All, Utf8Tree, tree_sound}
use Rattle.document_meaning.proofs.Complete.{visit_complete, posology_means}

-- How long the strings are.
joined_length : (cs k : List ℕ) → length (joined cs k) ≡ length cs + length k
joined_length [] k = omega arith
joined_length (c ∷ cs) k = let e = joined_length cs k in omega arith

given_length : (u : Option (List ℕ)) (k : List ℕ) → length (given u k) ≡ given_text u + length k
given_length none k = omega arith
given_length (some cs) k = joined_length cs k

mutual
  unfolding detail_strings detail_text

  detail_length : (d : Detail) (k : List ℕ) → length (detail_strings d k) ≡ detail_text d + length k
  detail_length (daily a b c d) k = omega arith
  detail_length (free_text cs) k = joined_length cs k
  detail_length (single td) k = omega arith
  detail_length (cyclic unit du td per) k = omega arith
  detail_length (sequence os) k = objects_length os k

  object_length : (o : SequenceObject) (k : List ℕ) → length (object_strings o k) ≡ object_text o + length k
  object_length (posology_sequence du unit po) k = detail_length po k
  object_length (pause du unit) k = omega arith

  objects_length : (os : SequenceObjects) (k : List ℕ) → length (objects_strings os k) ≡ objects_text os + length k
  objects_length no_object k = omega arith
  objects_length (object_then o os) k = let e = object_length o (objects_strings os k) in let f = objects_length os k in omega arith

pub strings_length : (p : Posology) → length (strings p) ≡ posology_text p
unfolding strings
strings_length p =
    let a = detail_length p.po (given p.unit (given p.appl_instr (given p.roa (given p.moa [])))) in
    let b = given_length p.unit (given p.appl_instr (given p.roa (given p.moa []))) in
    let c = given_length p.appl_instr (given p.roa (given p.moa [])) in
    let d = given_length p.roa (given p.moa []) in
    let e = given_length p.moa [] in
    omega arith

-- A good posology is valid and fits, and the other way round.
good_valid : (terms : Terms) (p : Posology) (l : Left) → Good (an_object (a_posology terms.purpose)) p (start terms).left l → (valid terms.purpose p ≡ true) × Fits terms.room p
unfolding valid
good_valid terms p l g =
    let a = g.takes.taken in let b = g.takes.used in let c = strings_length p in
    (and_both g.valid (le-leb (detail_records p.po) records_at_most (omega arith)), omega arith)

valid_good : (terms : Terms) (p : Posology) → valid terms.purpose p ≡ true → Fits terms.room p → (l : Left) × Good (an_object (a_posology terms.purpose)) p (start terms).left l
unfolding valid
valid_good terms p v f =
    let a = few_records terms.purpose p v in
    let c = strings_length p in (
      record { records = records_at_most - detail_records p.po; room = terms.room - posology_text p },
      record { valid = and_left (valid_fields terms.purpose p) (leb (detail_records p.po) records_at_most) v; takes = record { taken = omega arith; used = omega arith } },
    )

-- A root that means a posology for any use means it for use 3.
root_means : (t : Tree) (purpose : ℕ) (p : Posology) → (meaning_of t).means (an_object (a_posology purpose)) p → Means t p
unfolding meaning_of
root_means (object q ms) purpose p m = posology_means purpose (meant_members ms) p m
root_means (list q es) purpose p m = absurd m
root_means (string q cs) purpose p m = absurd m
root_means (number q raw) purpose p m = absurd m
root_means (bool q b) purpose p m = absurd m
root_means (null q) purpose p m = absurd m

pub taken_means : (t : Tree) → Utf8Tree t → (terms : Terms) (p : Posology) (l : State) → visit terms t ≡ done p l → Means t p × (valid terms.purpose p ≡ true) × Fits terms.room p
unfolding visit
taken_means t u terms p l e =
    let g = subst (λ (r : Outcome Posology). All (λ x l'. Good (an_object (a_posology terms.purpose)) x (start terms).left l'.left × (meaning_of t).means (an_object (a_posology terms.purpose)) x) r) e ((tree_sound t u).read (an_object (a_posology terms.purpose)) (start terms)) in
    let v = good_valid terms p l.left g.0 in
    (root_means t terms.purpose p g.1, v.0, v.1)

pub means_taken : (t : Tree) (terms : Terms) (p : Posology) → Means t p → valid terms.purpose p ≡ true → Fits terms.room p → (l : State) × (visit terms t ≡ done p l)
means_taken t terms p m v f = let g = valid_good terms p v f in let t' = visit_complete t terms p g.0 m g.1 in (t'.state, t'.is)
