-- What a proof takes for the element past the end of an array, which is never read.
-- Assumes nothing.
use mathlib.Core.Bool.{false}
use mathlib.Core.List.{[]}
use Rattle.rules.specs.declared.Pair.{Pair}
use Rattle.rules.specs.declared.Phase.TheVariants.{Idle}
use Rattle.rules.specs.declared.Slot.{Slot}

-- of slots: zeros, empty lists, the first phase
abbrev pub no_slot : Slot
no_slot =
    record {
      kind = 0;
      length = 0;
      left = 0;
      half = 0;
      counter = 0;
      protection = [];
      coming = [];
      voltage = false;
      phase = Idle;
      latch = [];
      marks = [];
      place = 0;
      sensor = record { pointer = 0; configuration = 0; high = 0; low = 0; critical = 0; temperature = 0; resolution = 0; timeout = 0; word = 0; pending = false };
      old = record { permanent = false; lasting = false; pin = false };
    }

-- of pairs
abbrev pub no_pair : Pair
no_pair = record { kind = 0; length = 0 }
