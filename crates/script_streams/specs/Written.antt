-- What a program writes on standard output and on standard error.
-- Assumes nothing.
use Rattle.std.specs.Prelude.{ℕ, List, []}

pub record Written : Type 0 where
  pub output : List ℕ
  pub errors : List ℕ

abbrev pub on_output : List ℕ → Written
on_output bs = record { output = bs; errors = [] }

abbrev pub on_errors : List ℕ → Written
on_errors bs = record { output = []; errors = bs }
