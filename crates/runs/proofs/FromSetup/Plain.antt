-- More that holds of every slot after any run from setup: its protection speaks of four blocks, without a sensor its registers are fresh, and of a slot that
-- is no older module (P9) nothing is permanent and no pin is on. Every act keeps it.
-- Assumes nothing.
use Prim.Native.Nat.{ℕ}
use mathlib.Core.Path.{◌≡◌, refl, sym, ◌∙◌, ap}
use mathlib.Core.Bool.{Bool, true, false, false≢true, not, ◌&&◌, ◌||◌}
use mathlib.Core.List.{List}
use lib.Dec.{eqb}
use lib.ListN.{length, length-set}
use Rattle.proof_lists.specs.Each.{Every}
use Rattle.proof_lists.specs.Tests.{cond_cases, by-test, and_right, or_right_false}
use Rattle.rules.specs.declared.Act.{Act}
use Rattle.rules.specs.declared.Act.TheVariants.{Start, Byte, Read, Stop, Timeout, Tick, Power, Apply}
use Rattle.rules.specs.declared.Event.{Event}
use Rattle.rules.specs.declared.Heard.{Heard}
use Rattle.rules.specs.declared.Heard.TheVariants as heard
use Rattle.rules.specs.declared.Pair.{Pair}
use Rattle.rules.specs.declared.Phase.{Phase}
use Rattle.rules.specs.declared.Phase.TheVariants.{Idle, Control, Deaf, MemoryCounter, MemoryData, MemoryRead, HalfSelected, CommandAddress, CommandData, CommandStop, SensorPointer, SensorHigh, SensorLow, SensorReadHigh, SensorReadLow}
use Rattle.rules.specs.declared.Slot.{Slot}
use Rattle.rules.specs.Modelled.{absent, sensing, older}
use Rattle.rules.specs.Open.{open-fields, open-memory}
use Rattle.rules.specs.Fresh.{fresh_sensor, fresh_slot, setup_slot, absent_slot, powered}
use Rattle.rules.specs.Control.{acks_heard, acks_control, obeyed, controlled, heard_by}
use Rattle.rules.specs.Memory.{guarded, any_mark, brought, pin_on}
use Rattle.rules.specs.Power.{power_cut}
use Rattle.rules.specs.Slot.{with_sensor_in, commanding, taking, standing, let_go, lost, byte_in, read_in, stop_in, present_next, slot_next}
use Rattle.rules.specs.Refusals.{setup_of}
use Rattle.rules.specs.Runs.{after}
use Rattle.rules.proofs.Memory.Protection.{Decided, as_before, as_stands, by_protect, by_clear, by_lasting, protection-next, coming-next, kind-next}
use Rattle.rules.proofs.Memory.Stored.{finishes}
use Rattle.rules.proofs.Run.Cases.{next-cases, apply-cases}
use Rattle.runs.proofs.FromSetup.Lasting.{Newer, slot-newer, fresh-newer}
use Rattle.rules.proofs.Run.Everywhere.{Everywhere, after-everywhere, setup-everywhere}

-- "four blocks": those that are protected, and those that will be
pub record FourBlocks (s : Slot) : Type 0 where
  pub stands : length s.protection ≡ 4
  pub comes : length s.coming ≡ 4

four-coming : {n : ℕ} {a : Act} {s : Slot} {stands comes : List Bool} {lasts : Bool} → FourBlocks s → length stands ≡ 4 → Decided n a s stands comes lasts → length comes ≡ 4
four-coming h l (as_before e _) = ap length e ∙ h.comes
four-coming h l (as_stands e _) = ap length e ∙ l
four-coming {s = s} h l (by_protect b k e p a f g _) = ap length g ∙ length-set s.protection k.0 true ∙ h.stands
four-coming h l (by_clear b e p a f g _) = ap length g
four-coming {s = s} h l (by_lasting b e p a f g _) = ap length g ∙ length-set s.protection 0 true ∙ h.stands

four-brought : (s : Slot) → FourBlocks s → length (brought s) ≡ 4
unfolding brought
four-brought s h = cond_cases (λ (l : List Bool). length l ≡ 4) (older s) (λ e. refl) (λ e. h.comes)

pub slot-blocks : (n : ℕ) (a : Act) (s : Slot) → FourBlocks s → FourBlocks (slot_next n a s)
slot-blocks n a s h =
    let p : length (slot_next n a s).protection ≡ 4
    = ap length (protection-next n a s) ∙ cond_cases (λ (l : List Bool). length l ≡ 4) (finishes a s && not (absent s)) (λ e. four-brought s h) (λ e. h.stands) in
    record { stands = p; comes = four-coming h p (coming-next n a s) }

pub fresh-blocks : (kind long : ℕ) → FourBlocks (fresh_slot kind long)
unfolding fresh_slot
fresh-blocks kind long = record { stands = refl; comes = refl }

-- without a sensor its registers are fresh
abbrev pub Plain : Slot → Type 0
Plain s = sensing s ≡ false → s.sensor ≡ fresh_sensor

-- without a sensor a slot stands in no exchange with one
stands-without : (s : Slot) → sensing s ≡ false → with_sensor_in (standing s) ≡ false
unfolding standing
stands-without s e = cond_cases (λ (p : Phase). with_sensor_in p ≡ false) (absent s || (with_sensor_in s.phase && not (sensing s))) (λ h. refl)
    (λ h. by-test (with_sensor_in s.phase) (λ g. absurd (false≢true (sym (or_right_false (absent s) (with_sensor_in s.phase && not (sensing s)) h) ∙ rw (g, e)))) (λ g. g))

-- and every step leaves its registers, save power
module _ (n : ℕ) (s : Slot) (none : sensing s ≡ false) where
  abbrev Keeps : Slot → Type 0
  Keeps r = r.sensor ≡ s.sensor

  let-go-keeps : (p : Phase) → with_sensor_in p ≡ false → Keeps (let_go p s)
  unfolding let_go open-memory open-fields
  let-go-keeps p e = rw e (cond_cases Keeps (commanding p) (λ f. refl) (λ f. cond_cases Keeps (taking p) (λ g. refl) (λ g. refl)))

  obeyed-keeps : (h : Heard) → acks_heard h n s ≡ true → Keeps (obeyed h s)
  unfolding obeyed acks_heard open-fields
  obeyed-keeps (heard.Memory k false) e = refl
  obeyed-keeps (heard.Memory k true) e = refl
  obeyed-keeps (heard.Sensor k false) e = refl
  obeyed-keeps (heard.Sensor k true) e = absurd (false≢true (sym none ∙ and_right (eqb k.0 n) (sensing s) e))
  obeyed-keeps (heard.Protect k) e = refl
  obeyed-keeps heard.ClearAll e = refl
  obeyed-keeps (heard.ReadProtection k) e = refl
  obeyed-keeps (heard.SelectHalf h) e = refl
  obeyed-keeps heard.ReadHalf e = refl
  obeyed-keeps heard.ProtectForEver e = refl
  obeyed-keeps heard.Nothing e = refl

  byte-keeps : (p : Phase) (b : ℕ) → with_sensor_in p ≡ false → Keeps (byte_in p n b s)
  unfolding byte_in controlled acks_control lost let_go open-memory open-fields
  byte-keeps Idle b e = refl
  byte-keeps Control b e = cond_cases Keeps (acks_control n b s) (λ a. obeyed-keeps (heard_by n b s) (and_right (eqb s.left 0) (acks_heard (heard_by n b s) n s) a)) (λ a. refl)
  byte-keeps Deaf b e = refl
  byte-keeps MemoryCounter b e = refl
  byte-keeps MemoryData b e = cond_cases Keeps (guarded s) (λ g. refl) (λ g. refl)
  byte-keeps MemoryRead b e = refl
  byte-keeps HalfSelected b e = refl
  byte-keeps CommandAddress b e = refl
  byte-keeps CommandData b e = refl
  byte-keeps CommandStop b e = refl
  byte-keeps SensorPointer b e = absurd (false≢true (sym e))
  byte-keeps SensorHigh b e = absurd (false≢true (sym e))
  byte-keeps SensorLow b e = absurd (false≢true (sym e))
  byte-keeps SensorReadHigh b e = absurd (false≢true (sym e))
  byte-keeps SensorReadLow b e = absurd (false≢true (sym e))

  read_keeps : (p : Phase) (more : Bool) → with_sensor_in p ≡ false → Keeps (read_in p more s)
  unfolding read_in lost let_go open-memory open-fields
  read_keeps Idle more e = refl
  read_keeps Control more e = refl
  read_keeps Deaf more e = refl
  read_keeps MemoryCounter more e = refl
  read_keeps MemoryData more e = refl
  read_keeps MemoryRead more e = refl
  read_keeps HalfSelected more e = refl
  read_keeps CommandAddress more e = refl
  read_keeps CommandData more e = refl
  read_keeps CommandStop more e = refl
  read_keeps SensorPointer more e = absurd (false≢true (sym e))
  read_keeps SensorHigh more e = absurd (false≢true (sym e))
  read_keeps SensorLow more e = absurd (false≢true (sym e))
  read_keeps SensorReadHigh more e = absurd (false≢true (sym e))
  read_keeps SensorReadLow more e = absurd (false≢true (sym e))

  stop-keeps : (p : Phase) → with_sensor_in p ≡ false → Keeps (stop_in p s)
  unfolding stop_in open-memory open-fields
  stop-keeps Idle e = refl
  stop-keeps Control e = refl
  stop-keeps Deaf e = refl
  stop-keeps MemoryCounter e = refl
  stop-keeps MemoryData e = cond_cases Keeps (any_mark s.marks) (λ g. refl) (λ g. refl)
  stop-keeps MemoryRead e = refl
  stop-keeps HalfSelected e = refl
  stop-keeps CommandAddress e = refl
  stop-keeps CommandData e = refl
  stop-keeps CommandStop e = cond_cases Keeps (pin_on s) (λ g. refl) (λ g. refl)
  stop-keeps SensorPointer e = absurd (false≢true (sym e))
  stop-keeps SensorHigh e = absurd (false≢true (sym e))
  stop-keeps SensorLow e = absurd (false≢true (sym e))
  stop-keeps SensorReadHigh e = absurd (false≢true (sym e))
  stop-keeps SensorReadLow e = absurd (false≢true (sym e))

present-plain : (n : ℕ) (a : Act) (s : Slot) → sensing s ≡ false → s.sensor ≡ fresh_sensor → (present_next n a s).sensor ≡ fresh_sensor
unfolding present_next power_cut powered fresh_slot lost open-memory open-fields
present-plain n Start s e h = let-go-keeps n s e (standing s) (stands-without s e) ∙ h
present-plain n (Byte b) s e h = byte-keeps n s e (standing s) b (stands-without s e) ∙ h
present-plain n (Read more) s e h = read_keeps n s e (standing s) more (stands-without s e) ∙ h
present-plain n Stop s e h = stop-keeps n s e (standing s) (stands-without s e) ∙ h
present-plain n Timeout s e h = let-go-keeps n s e (standing s) (stands-without s e) ∙ h
present-plain n Tick s e h = cond_cases (λ (r : Slot). r.sensor ≡ fresh_sensor) (eqb s.left 1) (λ f. h) (λ f. h)
present-plain n (Power k) s e h = refl
present-plain n (Apply k x) s e h =
    apply-cases (λ (r : Slot). r.sensor ≡ fresh_sensor) s n k x h (λ on. h) (λ on f. let-go-keeps n s e (standing s) (stands-without s e) ∙ h) (λ t f. absurd (false≢true (sym e ∙ f))) (λ on f. h)

pub slot-plain : (n : ℕ) (a : Act) (s : Slot) → Plain s → Plain (slot_next n a s)
unfolding sensing
slot-plain n a s h e =
    let f : eqb s.kind 2 ≡ false = ap (λ (k : ℕ). eqb k 2) (sym (kind-next n a s)) ∙ e in
    next-cases (λ (r : Slot). r.sensor ≡ fresh_sensor) n a s (λ i. h f) (λ i. present-plain n a s f (h f))

-- setup begins with it
fresh-plain : (kind long : ℕ) → Plain (fresh_slot kind long)
unfolding fresh_slot
fresh-plain kind long e = refl

pub setup-plain : (ps : List Pair) → Every Plain (setup_of ps).bus.slots
setup-plain ps = setup-everywhere Plain (λ p g. unfold setup_slot in fresh-plain p.kind _) (unfold absent_slot in fresh-plain 0 0) ps

pub setup-blocks : (ps : List Pair) → Every FourBlocks (setup_of ps).bus.slots
setup-blocks ps = setup-everywhere FourBlocks (λ p g. unfold setup_slot in fresh-blocks p.kind _) (unfold absent_slot in fresh-blocks 0 0) ps

-- Every slot, after any run of events from setup.
pub plain : (ps : List Pair) (m : List ℕ) (es : List Event) → Everywhere Plain (after es (record { bus = (setup_of ps).bus; memory = m }))
plain ps m es = after-everywhere Plain slot-plain es _ (setup-plain ps)

pub four-blocks : (ps : List Pair) (m : List ℕ) (es : List Event) → Everywhere FourBlocks (after es (record { bus = (setup_of ps).bus; memory = m }))
four-blocks ps m es = after-everywhere FourBlocks slot-blocks es _ (setup-blocks ps)

pub setup-newer : (ps : List Pair) → Every Newer (setup_of ps).bus.slots
setup-newer ps = setup-everywhere Newer (λ p g. unfold setup_slot in fresh-newer p.kind _) (unfold absent_slot in fresh-newer 0 0) ps

pub newer : (ps : List Pair) (m : List ℕ) (es : List Event) → Everywhere Newer (after es (record { bus = (setup_of ps).bus; memory = m }))
newer ps m es = after-everywhere Newer slot-newer es _ (setup-newer ps)
