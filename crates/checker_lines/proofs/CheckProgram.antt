-- The check program: what is printed, from a buffer that holds every plain text.
use mathlib.Core.Path.{◌≡◌, ap, ◌∙◌}
use mathlib.Core.List.{List, ◌∷◌, [], ◌++◌}
use mathlib.Core.Bool.{Bool, cond}
use Prim.Native.Nat.{ℕ, ◌≤◌}
use native.Mathlib.Omega.{arith}
use borrow.Author.Tests.{le-leb}
use lib.ListN.{length}
use Rattle.document.specs.Posology.{Posology}
use Rattle.document.specs.Plain.{plain}
use Rattle.document.specs.Answer.{taken, refused, read}
use Rattle.document.specs.Write.{writes, refuses, in_greatest_room}
use Rattle.document.specs.Length.{greatest_length}
use Rattle.checker_lines.specs.Lines.{for_plan, line_feed, refusal_line, written_line, line}
use Rattle.checker_lines.proofs.Printed.{line_is, taken_near}

-- "prints the plain text .. a line feed ends either"
pub prints_plain : (buffer : ℕ) (input : List ℕ) (p : Posology) → greatest_length ≤ buffer → read (in_greatest_room for_plan) input ≡ taken p → line buffer input ≡ plain p ++ (line_feed ∷ [])
prints_plain buffer input p h e =
    let near = taken_near input p e in
    line_is buffer input (taken p) e
    ∙ ap (λ (b : Bool). written_line (cond b (writes (plain p)) (refuses 19 (length (plain p))))) (le-leb (length (plain p)) buffer (omega arith))

-- "or `refused`, the number and the place, parted by one space"
pub prints_refusal : (buffer : ℕ) (input : List ℕ) (n place : ℕ) → read (in_greatest_room for_plan) input ≡ refused n place → line buffer input ≡ refusal_line n place
prints_refusal buffer input n place e = line_is buffer input (refused n place) e
