-- The definitions in the form in which a function's proof asks for them: a premise for each fact of the way to a return.
-- Assumes nothing.
use mathlib.Core.Path.{◌≡◌, refl, sym, ◌∙◌, ap}
use mathlib.Core.Bool.{Bool, true, false, false≢true, cond, ◌&&◌, ◌||◌}
use mathlib.Core.Logic.{⊎_elim}
use Prim.Native.Nat.{ℕ}
use lib.Dec.{eqb}
use Rattle.proof_lists.specs.Tests.{cond_cases, cond_same, or_left_false, or_right_false}
use Rattle.rules.specs.declared.Act.{Act}
use Rattle.rules.specs.declared.Act.TheVariants.{Start, Byte, Read, Stop, Timeout, Tick, Power, Apply}
use Rattle.rules.specs.declared.Applied.{Applied}
use Rattle.rules.specs.declared.Phase.{Phase}
use Rattle.rules.specs.declared.Phase.TheVariants.{Idle, Control, Deaf, MemoryCounter, MemoryData, MemoryRead, HalfSelected, CommandAddress, CommandData, CommandStop, SensorPointer, SensorHigh, SensorLow, SensorReadHigh, SensorReadLow}
use Rattle.rules.specs.declared.Slot.{Slot}
use Rattle.rules.specs.declared.SlotNo.{SlotNo}
use Rattle.rules.specs.Modelled.{absent}
use Rattle.rules.specs.declared.Heard.{Heard}
use Rattle.rules.specs.Control.{heard_by, acks_heard, acks_control, obeyed, controlled}
use Rattle.rules.specs.Fields.{in_phase}
use Rattle.rules.specs.Slot.{traits, standing, let_go, stop_in, byte_in, acks_in, read_in, drives_in, present_next, slot_next, acks, drives, part_next}
use Rattle.rules.proofs.Document.Cycle.{idle-tick, idle-tick-part}
use Rattle.rules.proofs.Run.Cases.{absent-next, present-next, byte_next, read_next}
use Rattle.bus_slots.specs.declared.foreseen.Change.{Change}
use Rattle.bus_slots.specs.declared.foreseen.Change.TheVariants as change
use Rattle.rules.specs.Events.{carried}
use Rattle.bus_slots.specs.Foreseen.{carrying, Unheard, Silent, Foreseen}

-- an exchange that is left in the phase lets something go
abbrev pub holds_in : Phase → Bool
holds_in p = (traits p).sensor || (traits p).command || (traits p).takes

let-go-none : (p : Phase) (s : Slot) → holds_in p ≡ false → let_go p s ≡ s
unfolding let_go
let-go-none p s e =
    let f = or_left_false ((traits p).sensor || (traits p).command) (traits p).takes e in
    rw (or_left_false (traits p).sensor (traits p).command f, or_right_false (traits p).sensor (traits p).command f, or_right_false ((traits p).sensor || (traits p).command) (traits p).takes e)

stop-none : (p : Phase) (s : Slot) → holds_in p ≡ false → stop_in p s ≡ s
unfolding stop_in
stop-none Idle s e = refl
stop-none Control s e = refl
stop-none Deaf s e = refl
stop-none MemoryCounter s e = refl
stop-none MemoryData s e = absurd (false≢true (sym e))
stop-none MemoryRead s e = refl
stop-none HalfSelected s e = refl
stop-none CommandAddress s e = absurd (false≢true (sym e))
stop-none CommandData s e = absurd (false≢true (sym e))
stop-none CommandStop s e = absurd (false≢true (sym e))
stop-none SensorPointer s e = absurd (false≢true (sym e))
stop-none SensorHigh s e = absurd (false≢true (sym e))
stop-none SensorLow s e = absurd (false≢true (sym e))
stop-none SensorReadHigh s e = absurd (false≢true (sym e))
stop-none SensorReadLow s e = absurd (false≢true (sym e))

module _ (n : ℕ) (s : Slot) where
  pub by-act : (c : Change) (a q : Act) → a ≡ q → Foreseen c n q s → Foreseen c n a s
  by-act c a q e h = rw e h

  -- what a start, stop or timeout does to a slot that is absent, holds something, or holds nothing
  passing : (c : Change) (a : Act) (q : Phase) → Silent n a s → (absent s ≡ false → holds_in (standing s) ≡ false → slot_next n a s ≡ in_phase q s)
      → c ≡ cond (absent s) change.Nothing (cond (holds_in (standing s)) change.More (change.To q)) → Foreseen c n a s
  unfolding Foreseen
  passing c a q z h e =
      rw e
      (cond_cases (λ (x : Change). Foreseen x n a s) (absent s) (λ t. (absent-next n a s t, z)) λ f.
      cond_cases (λ (x : Change). Foreseen x n a s) (holds_in (standing s)) (λ t. tt) (λ g. (h f g, z)))

  pub at-start : (c : Change) → c ≡ cond (absent s) change.Nothing (cond (holds_in (standing s)) change.More (change.To Control)) → Foreseen c n Start s
  unfolding part_next present_next
  at-start c e =
      passing c Start Control (record { mute = refl; still = refl; kept = λ m. refl })
      (λ f g. present-next n Start s f ∙ ap (in_phase Control) (let-go-none (standing s) s g)) e

  pub at-stop : (c : Change) → c ≡ cond (absent s) change.Nothing (cond (holds_in (standing s)) change.More (change.To Idle)) → Foreseen c n Stop s
  unfolding part_next present_next
  at-stop c e =
      passing c Stop Idle (record { mute = refl; still = refl; kept = λ m. refl })
      (λ f g. present-next n Stop s f ∙ ap (in_phase Idle) (stop-none (standing s) s g)) e

  pub at-timeout : (c : Change) → c ≡ cond (absent s) change.Nothing (cond (holds_in (standing s)) change.More (change.To Idle)) → Foreseen c n Timeout s
  unfolding part_next present_next
  at-timeout c e =
      passing c Timeout Idle (record { mute = refl; still = refl; kept = λ m. refl })
      (λ f g. present-next n Timeout s f ∙ ap (in_phase Idle) (let-go-none (standing s) s g)) e

  -- a byte that is not acknowledged, in the phase that the slot stands in
  byte-silent : (b : ℕ) (p : Phase) → standing s ≡ p → acks_in p n b s ≡ false → Silent n (Byte b) s
  unfolding part_next acks
  byte-silent b p e f = record { mute = ap (λ (x : Phase). acks_in x n b s) e ∙ f; still = refl; kept = λ m. refl }

  byte-to : (b : ℕ) (p : Phase) (t : Slot) → standing s ≡ p → byte_in p n b s ≡ t → acks_in p n b s ≡ false → (slot_next n (Byte b) s ≡ t) × Silent n (Byte b) s
  byte-to b p t e g f = (byte_next n b s ∙ ap (λ (x : Phase). byte_in x n b s) e ∙ g, byte-silent b p e f)

  byte-idle : (b : ℕ) (q : Phase) → q ≡ standing s → q ≡ Idle → Foreseen change.Nothing n (Byte b) s
  unfolding Foreseen byte_in acks_in
  byte-idle b q e f = byte-to b Idle s (sym e ∙ f) refl refl

  byte-deaf : (b : ℕ) (q : Phase) → q ≡ standing s → q ≡ Deaf → Foreseen change.Nothing n (Byte b) s
  unfolding Foreseen byte_in acks_in
  byte-deaf b q e f = byte-to b Deaf s (sym e ∙ f) refl refl

  pub byte-control : (b : ℕ) (q : Phase) (d : Heard) (k : Bool) → q ≡ standing s → q ≡ Control → d ≡ heard_by n b s → k ≡ (eqb s.left 0 && acks_heard d n s) → k ≡ false
      → Foreseen (change.To Deaf) n (Byte b) s
  unfolding Foreseen byte_in acks_in controlled acks_control
  byte-control b q d k e f w g h =
      let z : acks_control n b s ≡ false = ap (λ (x : Heard). eqb s.left 0 && acks_heard x n s) (sym w) ∙ sym g ∙ h in
      byte-to b Control (in_phase Deaf s) (sym e ∙ f) (ap (λ (x : Bool). cond x (obeyed (heard_by n b s) s) (in_phase Deaf s)) z) z

  -- a read that is not driven
  read_same : (more : Bool) (p : Phase) → standing s ≡ p → read_in p more s ≡ s → drives_in p ≡ false → Foreseen change.Nothing n (Read more) s
  unfolding Foreseen part_next drives
  read_same more p e g f = (
    read_next n more s ∙ ap (λ (x : Phase). read_in x more s) e ∙ g,
    record { mute = refl; still = ap (λ (x : Phase). drives_in x) e ∙ f; kept = λ m. refl },
  )

  read-idle : (more : Bool) (q : Phase) → q ≡ standing s → q ≡ Idle → Foreseen change.Nothing n (Read more) s
  unfolding read_in
  read-idle more q e f = read_same more Idle (sym e ∙ f) refl refl

  read-deaf : (more : Bool) (q : Phase) → q ≡ standing s → q ≡ Deaf → Foreseen change.Nothing n (Read more) s
  unfolding read_in
  read-deaf more q e f = read_same more Deaf (sym e ∙ f) refl refl

  -- a byte or a read at a slot that is idle or deaf
  pub rests : (a : Act) → carrying (carried a) ≡ true → Unheard (standing s) → Foreseen change.Nothing n a s
  rests Start e u = absurd (false≢true e)
  rests (Byte b) e u = ⊎_elim (byte-idle b (standing s) refl) (byte-deaf b (standing s) refl) u
  rests (Read more) e u = ⊎_elim (read-idle more (standing s) refl) (read-deaf more (standing s) refl) u
  rests Stop e u = absurd (false≢true e)
  rests Timeout e u = absurd (false≢true e)
  rests Tick e u = absurd (false≢true e)
  rests (Power k) e u = absurd (false≢true e)
  rests (Apply k x) e u = absurd (false≢true e)

  -- a tick without a write cycle
  pub tick-rests : s.left ≡ 0 → Foreseen change.Nothing n Tick s
  unfolding Foreseen
  tick-rests e = (idle-tick n s e, record { mute = refl; still = refl; kept = λ m. idle-tick-part s m e })

  -- what is applied to another slot
  pub applied-other : (c : Change) (k : SlotNo) (x : Applied) → c ≡ cond (eqb k.0 n) change.More change.Nothing → Foreseen c n (Apply k x) s
  unfolding Foreseen part_next slot_next present_next
  applied-other c k x e =
      rw e (cond_cases (λ (y : Change). Foreseen y n (Apply k x) s) (eqb k.0 n) (λ t. tt)
      (λ f. (rw f (cond_same (absent s) s), record { mute = refl; still = refl; kept = λ m. refl })))

pub both_rest : (n : ℕ) (a : Act) (s : Slot) (c u : Bool) → c ≡ carrying (carried a) → (u ≡ true → Unheard (standing s)) → (c && u) ≡ true → Foreseen change.Nothing n a s
both_rest n a s true u e f g = rests n s a (sym e) (f g)
both_rest n a s false u e f g = absurd (false≢true g)
