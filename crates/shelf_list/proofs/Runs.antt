-- A run of calls over an area, and the same over the list that it holds.
use mathlib.Core.Path.{◌≡◌, refl, ap, ◌∙◌}
use mathlib.Core.List.{List, [], ◌∷◌}
use mathlib.Core.Option.{Option, none, some}
use Prim.Native.Nat.{ℕ, ◌-◌, ◌≤◌}
use native.Mathlib.Omega.{arith}
use lib.ListN.{length, replicate}
use Rattle.shelf_list.specs.Shelf.{area_at_most, Entry, laid_out, Holds, entries_in}
use Rattle.shelf_list.specs.Calls.{Call, refused, Outcome, on_list, laid_again, on_entries, on_area, Run, tells, run_on_list, run_on_area}
use Rattle.shelf_list.proofs.Records.{good_each}
use Rattle.shelf_list.proofs.Areas.{laid_length, laid_back, area_of_list}
use Rattle.shelf_list.proofs.Lists.{Fitting, call_keeps, call_refused}

-- One call on the area of a list.
pub call_on_laid : (n : ℕ) (c : Call) (es : List Entry) → n ≤ area_at_most → Fitting n es
    → on_area c (laid_out es n) ≡ laid_again n (on_list n c es)
unfolding on_area
call_on_laid n c es small f =
    ap (on_entries c (laid_out es n)) (laid_back es n f.is_good f.fits small)
    ∙ ap (λ (m : ℕ). laid_again m (on_list m c es)) (laid_length es n (good_each es f.is_good) f.fits)

abbrev pub laid_run : ℕ → Run (List Entry) → Run (List ℕ)
laid_run n r = record { told = r.told; left = laid_out r.left n }

pub run_on_laid : (n : ℕ) (cs : List Call) (es : List Entry) → n ≤ area_at_most → Fitting n es
    → run_on_area cs (laid_out es n) ≡ laid_run n (run_on_list n cs es)
run_on_laid n [] es small f = refl
run_on_laid n (c ∷ cs) es small f =
    ap (λ (o : Outcome (List ℕ)). tells o.answer (run_on_area cs o.state)) (call_on_laid n c es small f)
    ∙ ap (tells (on_list n c es).answer) (run_on_laid n cs (on_list n c es).state small (call_keeps n c es f))

pub run_keeps : (n : ℕ) (cs : List Call) (es : List Entry) → Fitting n es → Fitting n (run_on_list n cs es).left
run_keeps n [] es f = f
run_keeps n (c ∷ cs) es f = run_keeps n cs (on_list n c es).state (call_keeps n c es f)

pub nothing_fits : (n : ℕ) → Fitting n []
nothing_fits n = record { is_good = refl; fits = omega arith }

pub nothing_laid : (n : ℕ) → replicate n 0 ≡ laid_out [] n
nothing_laid n = let e : n ≡ n - 0 = omega arith in ap (λ (m : ℕ). replicate m 0) e

pub fitting_holds : (n : ℕ) (es : List Entry) → n ≤ area_at_most → Fitting n es → Holds (laid_out es n) es
fitting_holds n es small f =
    let l = laid_length es n (good_each es f.is_good) f.fits in
    let fits = f.fits in
    record { small = omega arith; is_good = f.is_good; fits = omega arith; bytes = ap (laid_out es) l }

pub left_holds : (n : ℕ) (cs : List Call) (es : List Entry) → n ≤ area_at_most → Fitting n es
    → Holds (laid_out (run_on_list n cs es).left n) (run_on_list n cs es).left
left_holds n cs es small f = fitting_holds n (run_on_list n cs es).left small (run_keeps n cs es f)

pub refusal_leaves : (c : Call) (a : List ℕ) (m place : ℕ) → (on_area c a).answer ≡ refused m place → (on_area c a).state ≡ a
unfolding on_area
refusal_leaves c a m place h = go (entries_in a) refl h
  where
    go : (o : Option (List Entry)) → entries_in a ≡ o → (on_entries c a o).answer ≡ refused m place → (on_entries c a o).state ≡ a
    go none e k = refl
    go (some es) e k = ap (λ (fs : List Entry). laid_out fs (length a)) (call_refused (length a) c es m place k) ∙ (area_of_list a es e).bytes
