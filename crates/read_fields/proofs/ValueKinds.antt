-- The kind of a value, by its first byte and by its tree.
use Prim.Native.Nat.{ℕ}
use mathlib.Core.Path.{◌≡◌, refl}
use mathlib.Core.List.{List}
use mathlib.Core.Bool.{true, false}
use Rattle.json_grammar.specs.Tree.{Place, Tree, object, list, string, number, bool, null}
use Rattle.json_grammar.specs.Grammar.{Value, an_empty_object, an_object, an_empty_list, a_list, a_string, a_number, a_true, a_false, a_null}
use Rattle.json_move.specs.Moving.{kind_of}
use Rattle.json_move.specs.declared.Kind.{Kind}
use Rattle.json_move.specs.declared.Kind.TheVariants as K
use Rattle.json_laws.proofs.Skipped.{digits_kind}

abbrev pub kind : Tree → Kind
kind (object p ms) = K.Object
kind (list p es) = K.Array
kind (string p cs) = K.Text
kind (number p ds) = K.Number
kind (bool p true) = K.True
kind (bool p false) = K.False
kind (null p) = K.Null

abbrev pub place : Tree → Place
place (object p ms) = p
place (list p es) = p
place (string p cs) = p
place (number p ds) = p
place (bool p b) = p
place (null p) = p

pub kind_of_lem : {t : Tree} {s r : List ℕ} → Value t s r → kind_of s ≡ kind t
unfolding kind_of
kind_of_lem (an_empty_object b) = refl
kind_of_lem (an_object b n) = refl
kind_of_lem (an_empty_list b) = refl
kind_of_lem (a_list b e) = refl
kind_of_lem (a_string c) = refl
kind_of_lem (a_number d) = digits_kind d
kind_of_lem a_true = refl
kind_of_lem a_false = refl
kind_of_lem a_null = refl

pub place_of : {t : Tree} {s r : List ℕ} → Value t s r → place t ≡ s
place_of (an_empty_object b) = refl
place_of (an_object b n) = refl
place_of (an_empty_list b) = refl
place_of (a_list b e) = refl
place_of (a_string c) = refl
place_of (a_number d) = refl
place_of a_true = refl
place_of a_false = refl
place_of a_null = refl
