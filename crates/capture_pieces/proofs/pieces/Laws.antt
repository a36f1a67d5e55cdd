-- A verdict that is not the accepted one: closed, it stays, and it says so.
-- Assumes nothing.
use Rattle.std.proofs.Common.{◌≡◌, refl, ℕ, false}
use Rattle.capture_rules.specs.declared.Verdict.{Verdict}
use Rattle.capture_rules.specs.declared.Verdict.TheVariants.{Accepted, Differs, Short, Refused}
use Rattle.capture_rules.specs.Capture.{closed}
use Rattle.capture_rules.specs.Agreement.{is_accepted}

-- closed, it stays
pub closed-other : (left : ℕ) (v : Verdict) → (v ≡ Accepted → ⊥) → v ≡ closed left v
unfolding closed
closed-other left Accepted h = absurd (h refl)
closed-other left (Differs k a s) h = refl
closed-other left Short h = refl
closed-other left (Refused r) h = refl

-- and none is accepted
pub accepted-other : (v : Verdict) → (v ≡ Accepted → ⊥) → false ≡ is_accepted v
unfolding is_accepted
accepted-other Accepted h = absurd (h refl)
accepted-other (Differs k a s) h = refl
accepted-other Short h = refl
accepted-other (Refused r) h = refl
