-- Names compared, by computation.
use Rattle.std.specs.Prelude.{◌≡◌, refl, true, false}
use Rattle.json_move.specs.Read.{decoded, same}
use Rattle.json_decode.specs.Examples.{text}

examples :
    (same (decoded (text "\"c\\u0079\\u0044u\"")) (text "cyDu") ≡ true)
    × (same (decoded (text "\"cyDu\"")) (text "cyDuU") ≡ false)
unfolding decoded
examples = (refl, refl)
