-- What the length in front of a form says, byte by byte. The tables compute.
-- Assumes nothing.
use mathlib.Core.Path.{◌≡◌, refl}
use mathlib.Core.List.{[], ◌∷◌, map}
use Rattle.save_opening.specs.Opening.{form_bytes, too_long, wanted_bytes}

-- "four bytes with the form's length, high byte first"; "A length above 65,535 is `R10` at once", and a length that is cut reads no form
pub lengths : map form_bytes ((0x12 ∷ 0x34 ∷ 0x56 ∷ 0x78 ∷ []) ∷ (0x00 ∷ 0x00 ∷ 0x01 ∷ 0x02 ∷ 0x03 ∷ []) ∷ []) ≡ 0x12345678 ∷ 0x0102 ∷ []
unfolding form_bytes
lengths = refl

pub wanted : map wanted_bytes ((0 ∷ 0 ∷ 1 ∷ 2 ∷ []) ∷ (0 ∷ 0 ∷ 0xFF ∷ 0xFF ∷ []) ∷ (0 ∷ 1 ∷ 0 ∷ 0 ∷ []) ∷ (0 ∷ 0 ∷ 1 ∷ []) ∷ []) ≡ 0x0102 ∷ 65535 ∷ 0 ∷ 0 ∷ []
unfolding form_bytes too_long wanted_bytes
wanted = refl
