-- Any two results that the entry's contract allows are equal: of the contract's own clause.
-- Assumes nothing.
use mathlib.Core.Path.{◌≡◌, refl, sym, ◌∙◌, ap}
use mathlib.Core.List.{List}
use Prim.Native.Nat.{ℕ}
use seplogic.Ra.Ura.{Ura}
use base.Logic.{SProp}
use prog.Memory.{Memory}
use prog.Routine.{Routine}
use types.Logic.{Logic}
use contract.Lifetimes.{Lfts}
use contract.Monad.{Fun, fact}
use denote.Triple.Entry.{Args, Res}
use denote.Triple.Clauses.{AtExit}
use Rattle.rules.specs.declared.Answer.{Answer}
use Rattle.rules.specs.declared.Bus.{Bus}
use Rattle.rules.specs.declared.Event.{Event}
use Rattle.rules.specs.declared.Outcome.{Outcome}
use Rattle.list_entry.specs.Lists.{Left, events_of}
use Rattle.list_entry.specs.contracts.events as events

-- the clause is the equation with the definition
pub events-says : {M : Type 1} {𝓤 : Ura M} (𝓛 : Logic 𝓤) (mem : Memory → SProp 𝓤) (run : Routine → Fun 𝓤) (κs : Lfts 3) (a : Args events.signature κs) (r : Res events.signature κs) (s : AtExit events.ended κs)
    → (events.clauses 𝓛 mem run κs a).ensures tt r s ≡ fact 𝓤 (events_of a.0 a.1.0.now a.1.1.0.now a.1.1.1.0.now ≡ (r, s.1.0.now, s.1.1.1.0.now))
events-says 𝓛 mem run κs a r s = refl

-- events: what is given back, every byte of the lent memory, and every answer place
pub events-decides : (b : Bus) (m : List ℕ) (es : List Event) (places : List Answer) (r q : Outcome) (s o : List ℕ) (ks ls : List Answer)
    → events_of b m es places ≡ (r, s, ks) → events_of b m es places ≡ (q, o, ls) → (r ≡ q) × (s ≡ o) × (ks ≡ ls)
events-decides b m es places r q s o ks ls p t =
    let e = sym p ∙ t in
    (ap (λ (z : Left). z.0) e, ap (λ (z : Left). z.1) e, ap (λ (z : Left). z.2) e)
