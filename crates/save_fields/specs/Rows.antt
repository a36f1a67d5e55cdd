-- The code's fields, and their rows in the law's table.
-- Assumes nothing.
use Rattle.std.specs.Prelude.{ℕ, List, [], ◌∷◌, get_or, sum_by}
use Rattle.rules.specs.declared.Slot.{Slot}
use Rattle.save_rules.specs.Reading.{span}
use Rattle.save_fields.specs.declared.shares.Field.{Field}
use Rattle.save_fields.specs.declared.shares.Field.TheVariants.{Setup, Memory, State, Sensor, Pending, Older}

-- the row of each in the table (save_rules/Form.fields)
abbrev pub row_of : Field → ℕ
row_of Setup = 0
row_of Memory = 1
row_of State = 2
row_of Sensor = 3
row_of Pending = 4
row_of Older = 5

-- and the field in a row; from row 6 on, where there is none, the first, as the table has it
abbrev pub field_of : ℕ → Field
field_of t = get_or (Setup ∷ Memory ∷ State ∷ Sensor ∷ Pending ∷ Older ∷ []) t Setup

-- how many bytes some of them take
abbrev pub taken : List Field → List Slot → ℕ
taken fs ss = sum_by (λ f. span (row_of f) ss) fs
