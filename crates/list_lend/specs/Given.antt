-- A list given from arrays: what the call on their fronts gives and leaves, and what is told of it.
-- Assumes nothing.
use Rattle.std.specs.Prelude.{ℕ, List}
use Rattle.rules.specs.declared.Answer.{Answer}
use Rattle.rules.specs.declared.Bus.{Bus}
use Rattle.rules.specs.declared.Event.{Event}
use Rattle.list_entry.specs.Lists.{Left, events_of}
use Rattle.list_lend.specs.declared.text.Told.{Told}
use Rattle.list_lend.specs.Listed.{told_of}

unfoldable pub given_of : Bus → List ℕ → List Event → List Answer → List ℕ → Told × List ℕ × List ℕ
given_of b m es places out =
    let l : Left = events_of b m es places in
    let t : Told × List ℕ = told_of l.0 l.2 out in
    (t.0, l.1, t.1)
