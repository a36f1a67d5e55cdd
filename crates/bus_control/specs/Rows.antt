-- What a table of commands says of a control byte.
-- Assumes nothing.
use Rattle.std.specs.Prelude.{ℕ, Bool, List, eqb}
use Rattle.std.specs.List.{find}
use Rattle.std.specs.Option.{option_map_or}
use Rattle.rules.specs.declared.Heard.{Heard}
use Rattle.rules.specs.declared.Heard.TheVariants.{Nothing}
use Rattle.bus_control.specs.declared.Row.{Row}

-- a row has the byte; and what it asks for
abbrev pub has : ℕ → Row → Bool
has b row = eqb row.0 b

abbrev pub asks : Row → Heard
asks row = row.1

-- what the first row that has the byte asks for, or nothing where no row has it
abbrev pub found_in : List Row → ℕ → Heard
found_in rows b = option_map_or asks (find (has b) rows) Nothing
