-- What no act changes of a bench, no event and no run of events changes: once, for whatever is read off a bench.
-- Assumes nothing.
use Rattle.std.specs.Prelude.{Ok, Err}
use mathlib.Core.Path.{◌≡◌, refl, ◌∙◌}
use mathlib.Core.List.{List, [], ◌∷◌}
use Rattle.rules.specs.declared.Act.{Act}
use Rattle.rules.specs.declared.Event.{Event}
use Rattle.rules.specs.Refusals.{Ruling}
use Rattle.rules.specs.Runs.{Bench, taken, ruling_on, ruled_next, next, after}

module _ {A : Type 0} (F : Bench → A) (same : (a : Act) (x : Bench) → F (taken a x) ≡ F x) where
  same-ruled : (r : Ruling) (x : Bench) → F (ruled_next r x) ≡ F x
  unfolding ruled_next
  same-ruled (Ok a) x = same a x
  same-ruled (Err r) x = refl

  pub same_next : (e : Event) (x : Bench) → F (next e x) ≡ F x
  unfolding next
  same_next e x = same-ruled (ruling_on e x) x

  pub same_after : (es : List Event) (x : Bench) → F (after es x) ≡ F x
  unfolding after
  same_after [] x = refl
  same_after (e ∷ es) x = same_after es (next e x) ∙ same_next e x
