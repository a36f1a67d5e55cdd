-- Setups and records as bytes, each cell in its place. Each theorem computes.
-- Assumes nothing.
use Prim.Native.Nat.{ℕ}
use mathlib.Core.Path.{◌≡◌, refl}
use mathlib.Core.List.{List, [], ◌∷◌, map}
use lib.IntN.{ℤ, pos, negsuc}
use Rattle.rules.specs.declared.Event.{Event}
use Rattle.rules.specs.declared.Pair.{Pair}
use Rattle.script_text.specs.Open.{open-text}
use Rattle.script_text.specs.Records.{pairs_of, record_at}

abbrev pair : ℕ → ℕ → Pair
pair kind length = record { kind = kind; length = length }

abbrev event : ℕ → ℕ → ℤ → Event
event kind slot value = record { kind = kind; slot = record { 0 = slot }; value = value }

-- "eight pairs (kind, length)": sixteen different bytes, and one behind them
pub pairs : pairs_of (1 ∷ 2 ∷ 3 ∷ 4 ∷ 5 ∷ 6 ∷ 7 ∷ 8 ∷ 9 ∷ 10 ∷ 11 ∷ 12 ∷ 13 ∷ 14 ∷ 15 ∷ 16 ∷ 17 ∷ [])
    ≡ pair 1 2 ∷ pair 3 4 ∷ pair 5 6 ∷ pair 7 8 ∷ pair 9 10 ∷ pair 11 12 ∷ pair 13 14 ∷ pair 15 16 ∷ []
unfolding open-text
pairs = refl

-- "records of four bytes: kind, slot, value high byte first, two's complement": -640, -1, 2000, 255, the two ends of sixteen bits, and bytes that
-- are all different, at each place of six
abbrev bytes : List ℕ
bytes = 0x0A ∷ 0x0B ∷ 0x1C ∷ 0x0D ∷ 0xFE ∷ 0x0F ∷ []

pub records : map (λ (bs : List ℕ). record_at bs 0)
    ((9 ∷ 5 ∷ 0xFD ∷ 0x80 ∷ []) ∷ (9 ∷ 6 ∷ 0xFF ∷ 0xFF ∷ []) ∷ (9 ∷ 7 ∷ 0x07 ∷ 0xD0 ∷ []) ∷ (2 ∷ 0 ∷ 0x00 ∷ 0xFF ∷ []) ∷ (0 ∷ 255 ∷ 0x80 ∷ 0x00 ∷ []) ∷ (255 ∷ 0 ∷ 0x7F ∷ 0xFF ∷ []) ∷ [])
    ≡ event 9 5 (negsuc 639) ∷ event 9 6 (negsuc 0) ∷ event 9 7 (pos 2000) ∷ event 2 0 (pos 255) ∷ event 0 255 (negsuc 32767) ∷ event 255 0 (pos 32767) ∷ []
unfolding open-text
records = refl

pub places : map (record_at bytes) (0 ∷ 1 ∷ 2 ∷ [])
    ≡ event 0x0A 0x0B (pos 0x1C0D) ∷ event 0x0B 0x1C (pos 0x0DFE) ∷ event 0x1C 0x0D (negsuc 0x01F0) ∷ []
unfolding open-text
places = refl
