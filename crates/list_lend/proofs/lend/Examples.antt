-- Lists given and told, in full: what is given back, the memory and the output. Each theorem computes.
-- Assumes nothing.
use Prim.Native.Nat.{ℕ}
use mathlib.Core.Path.{◌≡◌, refl}
use mathlib.Core.List.{List, [], ◌∷◌, ◌++◌}
use lib.IntN.{pos}
use lib.ListN.{set, replicate}
use Rattle.rules.specs.declared.Bus.{Bus}
use Rattle.rules.specs.declared.Event.{Event}
use Rattle.rules.specs.Open.{open-all}
use Rattle.rules.specs.Refusals.{setup_of}
use Rattle.rules.specs.Runs.{after}
use Rattle.script_text.specs.Open.{open-text}
use Rattle.script_text.specs.Quoted.{quoted}
use Rattle.list_entry.specs.Lists.{too_few, not_taken, taken, listed, events_of}
use Rattle.list_lend.specs.Given.{given_of}
use Rattle.list_lend.specs.Listed.{blank, is_setups, is_blank, place_line, place_lines, list_text, told_of}

-- a memory of length 1 in slot 0
abbrev bus : Bus
bus = (setup_of (record { kind = 1; length = 1 } ∷ replicate 7 (record { kind = 0; length = 0 }))).bus

abbrev memory : List ℕ
memory = replicate 4096 0xFF

-- start, A0h, 00h, 5Ah, an unknown kind, stop, tick
abbrev event : ℕ → ℕ → Event
event kind value = record { kind = kind; slot = record { 0 = 0 }; value = pos value }

abbrev events : List Event
events = event 1 0 ∷ event 2 0xA0 ∷ event 2 0x00 ∷ event 2 0x5A ∷ event 0 0 ∷ event 4 0 ∷ event 6 0 ∷ []

-- with two places more than events, and with one too few
pub given : given_of bus memory events (replicate 9 blank) (replicate 22 0xEE)
    ≡ (record { bus = (after events (record { bus = bus; memory = memory })).bus; end = 19 }, set memory 0 0x5A, quoted "-\nA\nA\nA\nR2\n-\n-\n.\n.\n" ++ replicate 3 0xEE)
unfolding open-all open-text too_few taken listed events_of is_setups is_blank place_line place_lines list_text told_of given_of
given = refl

pub not-given : given_of bus memory events (replicate 6 blank) (replicate 5 0xEE) ≡ (record { bus = bus; end = 3 }, memory, quoted "R9\n" ++ replicate 2 0xEE)
unfolding open-all open-text too_few not_taken listed events_of list_text told_of given_of
not-given = refl
