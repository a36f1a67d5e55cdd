-- An arm of a match on the phase that names several phases: what is so at each of them is so at the phase that is matched.
-- Assumes nothing.
use mathlib.Core.List.{List, [], ◌∷◌, map}
use mathlib.Core.Logic.{◌⊎◌, inl, inr}
use mathlib.Core.Path.{◌≡◌, sym, ap, subst}
use lib.ListN.{get_or, drop}
use Rattle.rules.specs.declared.Phase.{Phase}

-- the phase is one of these
abbrev pub Among : List Phase → Phase → Type 0
Among [] p = ⊥
Among (q ∷ []) p = p ≡ q
Among (q ∷ (o ∷ qs)) p = (p ≡ q) ⊎ Among (o ∷ qs) p

-- f and g are the same at each of them
pub arm : {A : Type 0} (qs : List Phase) (f g : Phase → A) (p : Phase) → Among qs p → map f qs ≡ map g qs → f p ≡ g p
arm [] f g p h e = absurd h
arm (q ∷ []) f g p h e = subst (λ (x : Phase). f x ≡ g x) (sym h) (ap (λ l. get_or l 0 (f q)) e)
arm (q ∷ (o ∷ qs)) f g p (inl h) e = subst (λ (x : Phase). f x ≡ g x) (sym h) (ap (λ l. get_or l 0 (f q)) e)
arm (q ∷ (o ∷ qs)) f g p (inr h) e = arm (o ∷ qs) f g p h (ap (λ l. drop 1 l) e)
