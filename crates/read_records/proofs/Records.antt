-- A record stored, where there is room for it.
use Prim.Native.Nat.{ℕ, ◌*◌, ◌<◌}
use mathlib.Core.Path.{◌≡◌, sym, ap, ◌∙◌}
use mathlib.Core.List.{List, []}
use native.Mathlib.Nat.{mul_comm}
use lib.ListN.{length}
use lib.Seq.{sets}
use Rattle.document.specs.Words.{Words, width, words_at_most, row}
use Rattle.table_rows.specs.Storing.{written}
use Rattle.table_rows.proofs.Storing as T

-- Reading counts a record's place from its width.
pub stored : (before : List ℕ) (i : ℕ) (w : Words) → length before ≡ words_at_most → i < 64 → sets before (width * i) (row w []) ≡ written before i w
stored before i w size few = ap (λ at. sets before at (row w [])) (mul_comm width i) ∙ T.stored before i w size few

-- What a caller knows who has seen that there is room.
pub stores : (before : List ℕ) {after : List ℕ} (i : ℕ) (w : Words) → length before ≡ words_at_most → i < 64 → after ≡ written before i w → after ≡ sets before (width * i) (row w [])
stores before i w size few s = s ∙ sym (stored before i w size few)
