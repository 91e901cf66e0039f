-- How deep a tree is: the most brackets that are open at once in a spelling of it.
use Rattle.std.specs.Prelude.{ℕ, suc, max}
use Rattle.json_grammar.specs.Tree.{Tree, object, list, string, number, bool, null, Members, no_member, member, Elements, no_element, element}

unfoldable mutual
  pub depth : Tree → ℕ
  depth (object p ms) = suc (depth_of_members ms)
  depth (list p ts) = suc (depth_of_elements ts)
  depth (string p cs) = 0
  depth (number p ds) = 0
  depth (bool p b) = 0
  depth (null p) = 0

  pub depth_of_members : Members → ℕ
  depth_of_members no_member = 0
  depth_of_members (member p n t ms) = max (depth t) (depth_of_members ms)

  pub depth_of_elements : Elements → ℕ
  depth_of_elements no_element = 0
  depth_of_elements (element t ts) = max (depth t) (depth_of_elements ts)
