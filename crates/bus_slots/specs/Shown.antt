-- The answer to an act from what the slots show. Nothing is said here that the law does not say.
-- Assumes nothing.
use Rattle.std.specs.Prelude.{ℕ, Bool, cond}
use Rattle.rules.specs.declared.Carried.{Carried}
use Rattle.rules.specs.declared.Carried.TheVariants as carries
use Rattle.rules.specs.declared.Answer.{Answer}
use Rattle.rules.specs.declared.Answer.TheVariants.{Nothing, Ack, Nack, Data}

-- the answer to an act, where ack says whether a slot acknowledges, and byte is the byte read
abbrev pub answer_for : Carried → Bool → ℕ → Answer
answer_for (carries.Byte v) ack byte = cond ack Ack Nack
answer_for (carries.Read more) ack byte = Data byte
answer_for carries.Nothing ack byte = Nothing
