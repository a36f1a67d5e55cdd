-- The definitions in the form in which a function's proof asks for them: a premise for each fact of the way to a return.
-- Assumes nothing.
use mathlib.Core.Path.{◌≡◌, refl, sym}
use mathlib.Core.Bool.{Bool, true, false, cond, ◌&&◌}
use mathlib.Core.List.{List}
use Prim.Native.Nat.{ℕ, ◌+◌}
use native.Mathlib.Numerals.{add-one}
use lib.Dec.{ltb}
use lib.ListN.{length, get_or, set}
use lib.Seq.{set_out}
use Rattle.std.proofs.lemmas.Bool.{ltb-false}
use Rattle.proof_lists.specs.Tests.{cond_cases}
use Rattle.rules.specs.Memory.{put_up_to}

-- the latch is stored one byte a turn
pub put_none : (latch : List ℕ) (marks : List Bool) (at : ℕ) (m : List ℕ) → m ≡ put_up_to latch marks at 0 m
unfolding put_up_to
put_none latch marks at m = refl

-- a byte past the end of the part goes nowhere
within : (b : Bool) (q : List ℕ) (i x : ℕ) → cond (b && ltb i (length q)) (set q i x) q ≡ cond b (set q i x) q
within false q i x = refl
within true q i x =
    cond_cases (λ (r : List ℕ). r ≡ set q i x) (ltb i (length q)) (λ e. refl) (λ e. sym (set_out q i x (ltb-false i (length q) e)))

pub put_step : (latch : List ℕ) (marks : List Bool) (at k : ℕ) (m q : List ℕ) (t : Bool) → q ≡ put_up_to latch marks at k m
    → (get_or marks k false && ltb (at + k) (length q)) ≡ t → cond t (set q (at + k) (get_or latch k 0)) q ≡ put_up_to latch marks at (k + 1) m
unfolding put_up_to
put_step latch marks at k m q t e f = rw (add-one, ← e, ← f) (within (get_or marks k false) q (at + k) (get_or latch k 0))
