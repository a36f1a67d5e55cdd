-- Rows 2, 3 and 4 go by the event and the setup alone: after any run from setup an event is judged as right after setup.
-- Assumes nothing.
use mathlib.Core.Path.{◌≡◌, sym, ◌∙◌, ap}
use mathlib.Core.Bool.{true}
use mathlib.Core.List.{List}
use Prim.Native.Nat.{ℕ}
use lib.ListN.{length}
use borrow.Author.Tests.{eq-eqb}
use Rattle.rules.specs.declared.Bus.{Bus}
use Rattle.rules.specs.declared.Event.{Event}
use Rattle.rules.specs.declared.Pair.{Pair}
use Rattle.rules.specs.Modelled.{memory_bytes}
use Rattle.rules.specs.Refusals.{wrong_length, kinds_of, in_range, ruled_by, ruling, setup_of}
use Rattle.rules.specs.Runs.{Bench, ruling_on, after}
use Rattle.rules.proofs.Range.Kept.{setup-in-range, after-in-range}
use Rattle.rules.proofs.Memory.Protection.{kinds-after}
use Rattle.rules.proofs.Memory.Stored.{memory-length-after}

-- in a state that is in range, with its memory, rows 2, 3 and 4 are left
pub ruling-by-kinds : (b : Bus) (m : List ℕ) (e : Event) → length m ≡ memory_bytes → in_range b ≡ true → ruling b m e ≡ ruled_by (kinds_of b) e
unfolding ruling wrong_length
ruling-by-kinds b m e l v = rw (eq-eqb (length m) memory_bytes l, v)

-- so two states of the same kinds refuse alike
pub refused-alike : (b c : Bus) (m o : List ℕ) (e : Event)
    → length m ≡ memory_bytes → length o ≡ memory_bytes → in_range b ≡ true → in_range c ≡ true → kinds_of b ≡ kinds_of c → ruling b m e ≡ ruling c o e
refused-alike b c m o e l k v w q = ruling-by-kinds b m e l v ∙ ap (λ ks. ruled_by ks e) q ∙ sym (ruling-by-kinds c o e k w)

-- and an event after any run is judged as right after setup
pub ruling-by-setup : (ps : List Pair) (m : List ℕ) (es : List Event) (e : Event) → length m ≡ memory_bytes
    → ruling_on e (after es (record { bus = (setup_of ps).bus; memory = m })) ≡ ruled_by (kinds_of (setup_of ps).bus) e
unfolding ruling_on
ruling-by-setup ps m es e l =
    let x : Bench = record { bus = (setup_of ps).bus; memory = m } in
    ruling-by-kinds (after es x).bus (after es x).memory e (memory-length-after es x ∙ l) (after-in-range es x (setup-in-range ps))
    ∙ ap (λ ks. ruled_by ks e) (kinds-after es x)
