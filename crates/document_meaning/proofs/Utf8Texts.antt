-- Every string of a text's tree is UTF-8.
use Prim.Native.Nat.{ℕ}
use mathlib.Core.List.{List}
use Rattle.json_grammar.specs.Tree.{Tree, Members, Elements}
use Rattle.json_grammar.specs.Grammar as G
use Rattle.json_laws.specs.Leading.{Leading, leading}
use Rattle.json_laws.proofs.Encoded.{chars_utf8}
use Rattle.document.proofs.Utf8Tests.{utf8_test}
use Rattle.document_meaning.proofs.Sound.{Utf8Tree, Utf8Members, Utf8Elements}

mutual
  pub value_utf8 : {t : Tree} {s r : List ℕ} → G.Value t s r → Utf8Tree t
  value_utf8 (G.an_empty_object b) = tt
  value_utf8 (G.an_object b n) = named_utf8 n
  value_utf8 (G.an_empty_list b) = tt
  value_utf8 (G.a_list b n) = listed_utf8 n
  value_utf8 (G.a_string c) = utf8_test (chars_utf8 c)
  value_utf8 (G.a_number d) = tt
  value_utf8 G.a_true = tt
  value_utf8 G.a_false = tt
  value_utf8 G.a_null = tt

  listed_utf8 : {ts : Elements} {s r : List ℕ} → G.Listed ts s r → Utf8Elements ts
  listed_utf8 (G.first v b n) = (value_utf8 v, behind_utf8 n)

  behind_utf8 : {ts : Elements} {s r : List ℕ} → G.Behind ts s r → Utf8Elements ts
  behind_utf8 G.bracket = tt
  behind_utf8 (G.next_element b n) = listed_utf8 n

  named_utf8 : {ms : Members} {s r : List ℕ} → G.Named ms s r → Utf8Members ms
  named_utf8 (G.name c a b v d n) = (value_utf8 v, follows_utf8 n)

  follows_utf8 : {ms : Members} {s r : List ℕ} → G.Follows ms s r → Utf8Members ms
  follows_utf8 G.brace = tt
  follows_utf8 (G.next_member b n) = named_utf8 n

pub text_utf8 : {t : Tree} {s : List ℕ} → G.Text t s → Utf8Tree t
text_utf8 (G.text a v b) = value_utf8 v

pub leading_utf8 : {t : Tree} {s r : List ℕ} → Leading t s r → Utf8Tree t
leading_utf8 (leading b v) = value_utf8 v
