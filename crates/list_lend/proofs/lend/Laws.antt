-- What is told of a list, by what the call gave and left.
-- Assumes nothing.
use mathlib.Core.Path.{◌≡◌, ap, ◌∙◌}
use mathlib.Core.List.{List}
use Prim.Native.Nat.{ℕ}
use Rattle.rules.specs.declared.Answer.{Answer}
use Rattle.rules.specs.declared.Bus.{Bus}
use Rattle.rules.specs.declared.Event.{Event}
use Rattle.rules.specs.declared.Outcome.{Outcome}
use Rattle.list_entry.specs.Lists.{Left, events_of}
use Rattle.list_lend.specs.declared.text.Told.{Told}
use Rattle.list_lend.specs.Listed.{told_of}
use Rattle.list_lend.specs.Given.{given_of}

pub given_by : (b : Bus) (m n out p : List ℕ) (es : List Event) (places left : List Answer) (o : Outcome) (t : Told)
    → events_of b m es places ≡ (o, n, left) → told_of o left out ≡ (t, p) → given_of b m es places out ≡ (t, n, p)
unfolding given_of
given_by b m n out p es places left o t e f =
    ap (λ (l : Left). let z : Told × List ℕ = told_of l.0 l.2 out in (z.0, l.1, z.1)) e ∙ ap (λ (z : Told × List ℕ). (z.0, n, z.1)) f
