-- Case by case.
use Rattle.std.proofs.Common.{◌≡◌, ◌+◌, refl}
use denote.Enum.Declared.{tag_of}
use Rattle.rules.specs.contracts.Refusal.{the_type}
use Rattle.rules.specs.declared.Refusal.{Refusal}
use Rattle.rules.specs.declared.Refusal.TheVariants.{MemoryLength, UnknownKind, WrongSlot, WrongValue, WrongSetup, WrongState, ProtectedPage, Busy, TooShort, WrongForm}
use Rattle.rules.specs.Events.{refusal_number}
use Rattle.rules.proofs.U8FromRefusal.from.Goals as goal

numbered : (r : Refusal) → tag_of the_type r + 1 ≡ refusal_number r
unfolding refusal_number
numbered MemoryLength = refl
numbered UnknownKind = refl
numbered WrongSlot = refl
numbered WrongValue = refl
numbered WrongSetup = refl
numbered WrongState = refl
numbered ProtectedPage = refl
numbered Busy = refl
numbered TooShort = refl
numbered WrongForm = refl

pub returns : goal.returns
returns c = numbered c.args.r
