-- A text in quotes, as its bytes: computed examples say with it what is written.
-- Assumes nothing.
use Rattle.std.specs.Prelude.{ℕ, List, [], ◌∷◌}
use Prim.Native.Char.{code}
use Prim.Native.String.{String, [] as ended, ◌∷◌ as ◌then◌}

-- a character of ASCII is the byte of its number
unfoldable pub quoted : String → List ℕ
quoted ended = []
quoted (c then s) = code c ∷ quoted s
