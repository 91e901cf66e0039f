-- The conserved total: what a run of calls leaves in use, from its calls and answers alone.
use mathlib.Core.Path.{◌≡◌, refl, ap}
use mathlib.Core.List.{List, [], ◌∷◌, ◌++◌}
use mathlib.Core.Bool.{Bool, true, false, cond, ◌||◌}
use Prim.Native.Nat.{ℕ, ◌+◌}
use native.Mathlib.Omega.{arith}
use lib.Dec.{eqb}
use Rattle.shelf_list.specs.Shelf.{Entry, entry, size, used}
use Rattle.shelf_list.specs.Calls.{Call, put, fetch, remove, at, Outcome, without, on_list, run_on_list}
use Rattle.shelf_list.specs.History.{removes_it, removed_in, stored_by, held_by}
use Rattle.shelf_list.proofs.Ends.{Put, no_number, there, unread, no_room, laid, put_ends, Remove, not_number, not_there, taken_out, remove_ends}

-- The bytes of those entries whose numbers are not gone.
abbrev surviving : List Entry → (ℕ → Bool) → ℕ
surviving [] gone = 0
surviving (e ∷ es) gone = cond (gone e.number) 0 (size e) + surviving es gone

surviving_all : (es : List Entry) → surviving es (λ _. false) ≡ used es
surviving_all [] = refl
surviving_all (e ∷ es) = ap (λ (n : ℕ). size e + n) (surviving_all es)

surviving_append : (es : List Entry) (e : Entry) (gone : ℕ → Bool)
    → surviving (es ++ (e ∷ [])) gone ≡ surviving es gone + cond (gone e.number) 0 (size e)
surviving_append [] e gone = omega arith
surviving_append (f ∷ es) e gone = let a = surviving_append es e gone in omega arith

surviving_without : (n : ℕ) (es : List Entry) (gone : ℕ → Bool)
    → surviving (without n es) gone ≡ surviving es (λ (k : ℕ). eqb n k || gone k)
surviving_without n [] gone = refl
surviving_without n (e ∷ es) gone = go (eqb n e.number) (surviving_without n es gone)
  where
    go : (b : Bool) → surviving (without n es) gone ≡ surviving es (λ (k : ℕ). eqb n k || gone k)
        → surviving (cond b (without n es) (e ∷ without n es)) gone
        ≡ cond (b || gone e.number) 0 (size e) + surviving es (λ (k : ℕ). eqb n k || gone k)
    go true i = omega arith
    go false i = omega arith

-- One call: what survives behind it, from what survives in front of it and what it stores.
abbrev Balanced : Call → List Entry → (ℕ → Bool) → Outcome (List Entry) → Type 0
Balanced c es gone o =
    surviving o.state gone ≡ surviving es (λ (k : ℕ). removes_it k c o.answer || gone k) + stored_by c o.answer gone

put_balanced : {n : ℕ} {es : List Entry} {number purpose : ℕ} {text : List ℕ} {o : Outcome (List Entry)} (gone : ℕ → Bool)
    → Put n es number purpose text o → Balanced (put number purpose text) es gone o
put_balanced gone (no_number i) = omega arith
put_balanced gone (there i s) = omega arith
put_balanced gone (unread i s e) = omega arith
put_balanced gone (no_room i s e r) = omega arith
put_balanced {es = es} {number = number} gone (laid {p = p} i s e r) = surviving_append es (entry number p) gone

remove_balanced : {number : ℕ} {es : List Entry} {o : Outcome (List Entry)} (gone : ℕ → Bool) → Remove es number o
    → Balanced (remove number) es gone o
remove_balanced gone (not_number i) = omega arith
remove_balanced gone (not_there i s) = omega arith
remove_balanced {number} {es} gone (taken_out i s) = let a = surviving_without number es gone in omega arith

call_balanced : (n : ℕ) (c : Call) (es : List Entry) (gone : ℕ → Bool) → Balanced c es gone (on_list n c es)
unfolding on_list
call_balanced n (put number purpose text) es gone = put_balanced gone (put_ends n es number purpose text)
call_balanced n (fetch number room) es gone = omega arith
call_balanced n (remove number) es gone = remove_balanced gone (remove_ends es number)
call_balanced n (at position) es gone = omega arith

-- From any list: what it held and was not removed since, and what was put and not removed since.
run_balanced : (n : ℕ) (cs : List Call) (es : List Entry)
    → used (run_on_list n cs es).left
    ≡ surviving es (λ (k : ℕ). removed_in k cs (run_on_list n cs es).told) + held_by cs (run_on_list n cs es).told
run_balanced n [] es = let a = surviving_all es in omega arith
run_balanced n (c ∷ cs) es =
    let o = on_list n c es in
    let rs = (run_on_list n cs o.state).told in
    let a = run_balanced n cs o.state in
    let b = call_balanced n c es (λ (k : ℕ). removed_in k cs rs) in
    omega arith

pub run_total : (n : ℕ) (cs : List Call) → used (run_on_list n cs []).left ≡ held_by cs (run_on_list n cs []).told
run_total n cs = let a = run_balanced n cs [] in omega arith
