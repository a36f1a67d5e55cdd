-- What a slot that leaves its exchange keeps: all but what the exchange held.
-- Assumes nothing.
use mathlib.Core.Path.{◌≡◌, refl}
use mathlib.Core.Bool.{false}
use Rattle.rules.specs.declared.Slot.{Slot}
use Rattle.rules.specs.Open.{open-fields, open-memory}
use Rattle.rules.specs.Fields.{with_word}
use Rattle.rules.specs.Slot.{standing, let_go}
use Rattle.rules.proofs.Run.Cases.{let-go-cases}

pub record Lasts (s t : Slot) : Type 0 where
  pub kind : t.kind ≡ s.kind
  pub length : t.length ≡ s.length
  pub left : t.left ≡ s.left
  pub half : t.half ≡ s.half
  pub counter : t.counter ≡ s.counter
  pub protection : t.protection ≡ s.protection
  pub voltage : t.voltage ≡ s.voltage
  pub registers : with_word 0 t.sensor ≡ with_word 0 s.sensor
  pub permanent : t.old.permanent ≡ s.old.permanent
  pub pin : t.old.pin ≡ s.old.pin
  pub not-lasting : s.old.lasting ≡ false → t.old.lasting ≡ false

pub let-go-lasts : (s : Slot) → Lasts s (let_go (standing s) s)
unfolding open-memory open-fields
let-go-lasts s =
    let-go-cases (Lasts s) (standing s) s
    (record { kind = refl; length = refl; left = refl; half = refl; counter = refl; protection = refl; voltage = refl; registers = refl; permanent = refl; pin = refl; not-lasting = λ e. e })
    (record { kind = refl; length = refl; left = refl; half = refl; counter = refl; protection = refl; voltage = refl; registers = refl; permanent = refl; pin = refl; not-lasting = λ e. refl })
    (record { kind = refl; length = refl; left = refl; half = refl; counter = refl; protection = refl; voltage = refl; registers = refl; permanent = refl; pin = refl; not-lasting = λ e. e })
    (record { kind = refl; length = refl; left = refl; half = refl; counter = refl; protection = refl; voltage = refl; registers = refl; permanent = refl; pin = refl; not-lasting = λ e. e })
