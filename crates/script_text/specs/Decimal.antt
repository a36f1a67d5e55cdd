-- A number in decimal: its digits, with no zeros in front.
-- Assumes nothing.
use Rattle.std.specs.Prelude.{ℕ, zero, suc, ◌+◌, ◌/◌, ◌%◌, cond, List, [], ◌∷◌, ◌++◌, ltb}

-- the last digit
unfoldable pub digit : ℕ → ℕ
digit n = 0x30 + n % 10

-- the digits, with so many steps at most
unfoldable pub decimal_in : ℕ → ℕ → List ℕ
decimal_in zero n = digit n ∷ []
decimal_in (suc k) n = cond (ltb n 10) (digit n ∷ []) (decimal_in k (n / 10) ++ digit n ∷ [])

-- a number has no more digits than it counts
unfoldable pub decimal : ℕ → List ℕ
decimal n = decimal_in n n
