-- The members of an object that are left at a place, by the grammar.
use Prim.Native.Nat.{ℕ, ◌<◌}
use mathlib.Core.Path.{◌≡◌, refl, sym, ap, subst, ◌∙◌}
use mathlib.Core.List.{List, ◌∷◌}
use mathlib.Core.Bool.{true, false, false≢true}
use lib.ListN.{length, drop, length-drop}
use native.Mathlib.Omega.{arith}
use Rattle.json_grammar.specs.Byte.{is_blank}
use Rattle.json_grammar.specs.Tree.{Place, Tree, object, Members, no_member, member, Moves}
use Rattle.json_grammar.specs.Grammar.{Value, an_empty_object, an_object, Named, name, Follows, brace, next_member}
use Rattle.json_move.specs.Moving.{first_in, over_comma, next_after, value_of, at_end}
use Rattle.json_move.specs.Read.{decoded}
use Rattle.json_laws.proofs.Moved.{first_name_lem, value_of_lem, next_after_member, name_not_end, string_decoded}
use Rattle.json_laws.proofs.Shorter.{blanks_shorter, value_shorter, named_sharp, to_sharp}
use Rattle.document.specs.At.{At}

pub data Rest : Members → Place → Type 0 where
  closing : {s : Place} → at_end s ≡ true → Rest no_member s
  naming : {ms : Members} {s r : Place} → Named ms s r → Rest ms s

-- From the brace on, and a byte further at least.
pub rest_in : {p : Place} {ms : Members} {s r : Place} → Value (object p ms) s r → Rest ms (first_in s)
unfolding first_in is_blank at_end
rest_in (an_empty_object b) = subst (λ x. Rest no_member x) (sym (to_sharp b refl)) (closing refl)
rest_in (an_object {ms = ms} b m) = subst (λ x. Rest ms x) (sym (first_name_lem 123 b m)) (naming m)

pub first_further : {p : Place} {ms : Members} {s r : Place} → Value (object p ms) s r → length (first_in s) < length s
unfolding first_in is_blank
first_further (an_empty_object b) = omega (arith, ap length (to_sharp b refl), blanks_shorter b)
first_further (an_object b m) = omega (arith, ap length (first_name_lem 123 b m), blanks_shorter b)

follows_rest : {ms : Members} {s r : Place} → Follows ms s r → Rest ms (over_comma s)
unfolding at_end next_after
follows_rest brace = closing refl
follows_rest (next_member {ms = ms} b m) = subst (λ x. Rest ms x) (sym (to_sharp b (named_sharp m))) (naming m)

-- A member that stands at a place.
pub record Stands (ms : Members) (s : Place) : Type 0 where
  pub tree : Tree
  pub others : Members
  pub behind : Place
  pub is : ms ≡ member s (decoded s) tree others
  pub value : Value tree (value_of s) behind
  pub next : Rest others (next_after (value_of s))

pub rest_one : {ms : Members} {s : Place} → Rest ms s → at_end s ≡ false → Stands ms s
rest_one (closing e) f = absurd (false≢true (sym f ∙ e))
rest_one (naming (name {t = t} {ms = ms} {s = s} {d = d} c k l v b f)) e =
    let at = value_of_lem c k l v in
    record {
      tree = t;
      others = ms;
      behind = d;
      is = ap (λ x. member (34 ∷ s) x t ms) (sym (string_decoded c));
      value = subst (λ x. Value t x d) (sym at) v;
      next = subst (λ x. Rest ms x) (sym (ap next_after at ∙ next_after_member v b f)) (follows_rest f);
    }

pub rest_none : {ms : Members} {s : Place} → Rest ms s → at_end s ≡ true → ms ≡ no_member
rest_none (closing e) f = refl
rest_none (naming m) f = absurd (false≢true (sym (name_not_end m) ∙ f))

-- By number.
module _ (text : List ℕ) where
  pub stands_at : (v : ℕ) {t : Tree} {s r : Place} → Value t s r → drop v text ≡ s → At text v t
  stands_at v {t} {s} {r} h e =
      record {
        rest = r;
        spelled = subst (λ x. Value t x r) (sym e) h;
        inside = omega (arith, value_shorter h, length-drop v text, ap length e);
      }

  pub first_above : (at q : ℕ) {p : Place} {ms : Members} → At text at (object p ms) → Moves first_in text at q → at < q
  first_above at q a m = omega (arith, first_further a.spelled, length-drop at text, length-drop q text, ap length m.lands)
