-- The word that an exchange with the sensor holds: no temperature changes it.
-- Assumes nothing.
use mathlib.Core.Path.{◌≡◌, refl}
use lib.IntN.{ℤ}
use Rattle.proof_lists.specs.Tests.{cond_cases}
use Rattle.rules.specs.declared.Sensor.{Sensor}
use Rattle.rules.specs.Fields.{with_temperature, with_pending}
use Rattle.rules.specs.Pin.{converted_with_pin}
use Rattle.rules.specs.Sensor.{shut_down, converted}

pub word-fixed : (x : Sensor) (t : ℤ) → (converted_with_pin x t).word ≡ x.word
unfolding converted_with_pin converted with_temperature with_pending
word-fixed x t = cond_cases (λ (y : Sensor). y.word ≡ x.word) (shut_down x) (λ e. refl) (λ e. refl)
