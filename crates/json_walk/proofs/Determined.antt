-- The contracts allow one answer each.
use Prim.Native.Nat.{ℕ}
use mathlib.Core.Path.{◌≡◌, ap}
use mathlib.Core.List.{List}
use Rattle.std.specs.Prelude.{Result, Ok, Err}
use Rattle.json_grammar.specs.Walk.{Walked}
use Rattle.json_grammar.proofs.Places.{place_one}
use Rattle.json_walk.specs.Turn.{Refused, Tells}
use Rattle.json_walk.specs.declared.Fault.{Fault}
use Rattle.json_walk.specs.declared.Fault.TheVariants.{Broken, Deep}

refused_one : (text : List ℕ) (w : Walked) (r q : Fault) → Refused text w r → Refused text w q → r ≡ q
refused_one text w (Broken p) (Broken q) h k = ap Broken (place_one text p q h.1 k.1 (cc))
refused_one text w (Broken p) (Deep q) h k = cc
refused_one text w (Deep p) (Broken q) h k = cc
refused_one text w (Deep p) (Deep q) h k = ap Deep (place_one text p q h.1 k.1 (cc))

-- first_object and one_object
pub tells_one : (text : List ℕ) (w : Walked) (r q : Result ℕ Fault) → Tells text w r → Tells text w q → r ≡ q
tells_one text w (Ok e) (Ok f) h k = ap Ok (place_one text e f h.1 k.1 (cc))
tells_one text w (Ok e) (Err (Broken p)) h k = cc
tells_one text w (Ok e) (Err (Deep p)) h k = cc
tells_one text w (Err (Broken p)) (Ok e) h k = cc
tells_one text w (Err (Deep p)) (Ok e) h k = cc
tells_one text w (Err r) (Err q) h k = ap Err (refused_one text w r q h k)
