-- What whoever goes on from an event needs of it: the next bench and the answer, each by itself.
-- Assumes nothing.
use mathlib.Core.Path.{◌≡◌, sym, ap}
use mathlib.Core.List.{List}
use Prim.Native.Nat.{ℕ}
use Rattle.rules.specs.declared.Bus.{Bus}
use Rattle.rules.specs.declared.Event.{Event}
use Rattle.rules.specs.declared.Outcome.{Outcome}
use Rattle.rules.specs.Runs.{ruling_on, next, answered, ruled_outcome, event_of}

module _ (b : Bus) (m : List ℕ) (e : Event) (o : Outcome) (n : List ℕ) (p : event_of b m e ≡ (o, n)) where
  pub event-bench : record { bus = o.bus; memory = n } ≡ next e (record { bus = b; memory = m })
  unfolding event_of ruled_outcome next ruling_on
  event-bench = ap (λ (z : Outcome × List ℕ). record { bus = z.0.bus; memory = z.1 }) (sym p)

  pub event-answer : o.answer ≡ answered e (record { bus = b; memory = m })
  unfolding event_of ruled_outcome answered ruling_on
  event-answer = ap (λ (z : Outcome × List ℕ). z.0.answer) (sym p)
