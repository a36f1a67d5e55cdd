-- Document 01, "Exchange and shared event", and what demand 3 strikes out.
-- Assumes nothing.
use Rattle.std.specs.Prelude.{ℕ, ◌/◌, Bool, true, false, not, cond, ◌&&◌, ◌||◌, List, [], ◌∷◌, ◌++◌, eqb, Ok, Err}
use Rattle.std.proofs.Math.Option.{Option, none, some}
use Rattle.std.specs.List.{list_all}
use Rattle.rules.specs.declared.Act.{Act}
use Rattle.rules.specs.declared.Applied.{Applied}
use Rattle.rules.specs.declared.Carried.{Carried}
use Rattle.rules.specs.declared.Carried.TheVariants as carries
use Rattle.rules.specs.declared.Cut.{Cut}
use Rattle.rules.specs.declared.Act.TheVariants.{Start, Byte, Read, Stop, Timeout, Tick, Power, Apply}
use Rattle.rules.specs.declared.Answer.{Answer}
use Rattle.rules.specs.declared.Answer.TheVariants.{Nothing, Ack, Nack, Data}
use Rattle.rules.specs.declared.Event.{Event}
use Rattle.rules.specs.Refusals.{Ruling}
use Rattle.rules.specs.declared.Slot.{Slot}
use Rattle.rules.specs.declared.SlotNo.{SlotNo}
use Rattle.rules.specs.Control.{select_of}
use Rattle.rules.specs.Events.{carried}
use Rattle.rules.specs.Slot.{slot_next, part_next, acks, drives, driven}
use Rattle.rules.specs.Refusals.{ruled_by}
use Rattle.rules.specs.Runs.{Bench, taken, given, next, answered}

-- "refused events anywhere are left out of account": the acts of the events that the kinds let pass
unfoldable pub kept_by : Ruling → List Act → List Act
kept_by (Ok a) r = a ∷ r
kept_by (Err x) r = r

unfoldable pub acts_of : List ℕ → List Event → List Act
acts_of kinds [] = []
acts_of kinds (e ∷ es) = kept_by (ruled_by kinds e) (acts_of kinds es)

-- a run of acts: the bench after it, and the answers in order
unfoldable pub went : List Act → Bench → Bench
went [] x = x
went (a ∷ r) x = went r (taken a x)

unfoldable pub told : List Act → Bench → List Answer
told [] x = []
told (a ∷ r) x = given a x ∷ told r (taken a x)

-- what the bus would show if slot n were the only one, with its 512 bytes: at an act, and over a run
unfoldable pub alone_for : ℕ → Carried → Slot → List ℕ → Answer
alone_for n (carries.Byte v) s m = cond (acks n v s) Ack Nack
alone_for n (carries.Read more) s m = Data (cond (drives s) (driven m s) 0xFF)
alone_for n carries.Nothing s m = Nothing

unfoldable pub shown_alone : ℕ → Act → Slot → List ℕ → Answer
shown_alone n a s m = alone_for n (carried a) s m

unfoldable pub told_alone : ℕ → List Act → Slot → List ℕ → List Answer
told_alone n [] s m = []
told_alone n (a ∷ r) s m = shown_alone n a s m ∷ told_alone n r (slot_next n a s) (part_next a s m)

-- "An exchange runs from a start to the next stop, with only kinds 1, 2, 3 between; a start inside one begins no other": what stands in one
pub data Inside : Type 0 where
  again : Inside
  byte : ℕ → Inside
  read : Bool → Inside

-- "events between them": every other event
pub data Gap : Type 0 where
  stray_byte : ℕ → Gap
  stray_read : Bool → Gap
  stray_stop : Gap
  timeout : Gap
  tick : Gap
  power : Cut → Gap
  apply : SlotNo → Applied → Gap

pub data Item : Type 0 where
  exchange : List Inside → Item
  between : Gap → Item

unfoldable pub inside_act : Inside → Act
inside_act again = Start
inside_act (byte b) = Byte b
inside_act (read more) = Read more

unfoldable pub gap_act : Gap → Act
gap_act (stray_byte b) = Byte b
gap_act (stray_read more) = Read more
gap_act stray_stop = Stop
gap_act timeout = Timeout
gap_act tick = Tick
gap_act (power k) = Power k
gap_act (apply k x) = Apply k x

-- a list of items written out again as a run; `up_to_stop xs r` is the rest of an exchange, its stop, and then `r`
unfoldable pub up_to_stop : List Inside → List Act → List Act
up_to_stop [] r = Stop ∷ r
up_to_stop (x ∷ xs) r = inside_act x ∷ up_to_stop xs r

unfoldable pub item_acts : Item → List Act → List Act
item_acts (exchange xs) r = Start ∷ up_to_stop xs r
item_acts (between g) r = gap_act g ∷ r

unfoldable pub flatten : List Item → List Act
flatten [] = []
flatten (i ∷ is) = item_acts i (flatten is)

-- the parse of a run; none where it is not made of whole exchanges and events between them: "In the runs of demand 3 no start stands outside an
-- exchange"
pub record Rest : Type 0 where
  pub insides : List Inside
  pub items : List Item

unfoldable pub onto : {A : Type 0} {B : Type 0} → (A → B) → Option A → Option B
onto f none = none
onto f (some a) = some (f a)

unfoldable pub opened : Rest → List Item
opened r = exchange r.insides ∷ r.items

unfoldable pub closed : List Item → Rest
closed is = record { insides = []; items = is }

unfoldable pub more : Inside → Rest → Rest
more x r = record { insides = x ∷ r.insides; items = r.items }

unfoldable mutual
  -- between exchanges
  pub items_of : List Act → Option (List Item)
  items_of [] = some []
  items_of (Start ∷ r) = onto opened (within r)
  items_of (Byte b ∷ r) = onto (between (stray_byte b) ∷◌) (items_of r)
  items_of (Read m ∷ r) = onto (between (stray_read m) ∷◌) (items_of r)
  items_of (Stop ∷ r) = onto (between stray_stop ∷◌) (items_of r)
  items_of (Timeout ∷ r) = onto (between timeout ∷◌) (items_of r)
  items_of (Tick ∷ r) = onto (between tick ∷◌) (items_of r)
  items_of (Power k ∷ r) = onto (between (power k) ∷◌) (items_of r)
  items_of (Apply k x ∷ r) = onto (between (apply k x) ∷◌) (items_of r)

  -- inside one
  pub within : List Act → Option Rest
  within [] = none
  within (Start ∷ r) = onto (more again) (within r)
  within (Byte b ∷ r) = onto (more (byte b)) (within r)
  within (Read m ∷ r) = onto (more (read m)) (within r)
  within (Stop ∷ r) = onto closed (items_of r)
  within (Timeout ∷ r) = none
  within (Tick ∷ r) = none
  within (Power k ∷ r) = none
  within (Apply k x ∷ r) = none

-- the control bytes of an exchange: the first byte after the start and after each start inside; `fresh` says that it is still to come.
-- "A read before it [..] and there is then no control byte until the next start."
unfoldable pub controls : Bool → List Inside → List ℕ
controls fresh [] = []
controls fresh (again ∷ xs) = controls true xs
controls true (byte b ∷ xs) = b ∷ controls false xs
controls false (byte b ∷ xs) = controls false xs
controls fresh (read m ∷ xs) = controls false xs

-- a control byte with "1010 or 0011 and select s"
unfoldable pub names : ℕ → ℕ → Bool
names s c = (eqb (c / 16) 0xA || eqb (c / 16) 0x3) && eqb (select_of c).0 s

-- one that "no slot" hears: none of "1010, 0011 or 0110"
unfoldable pub mute : ℕ → Bool
mute c = not (eqb (c / 16) 0xA) && not (eqb (c / 16) 0x3) && not (eqb (c / 16) 0x6)

unfoldable pub some_of : List ℕ → Bool
some_of [] = false
some_of (c ∷ cs) = true

-- "It is addressed to s if it has a control byte and every one in it has 1010 or 0011 and select s"
unfoldable pub addressed : ℕ → List ℕ → Bool
addressed s cs = some_of cs && list_all (names s) cs

-- "to none if no control byte in it has 1010, 0011 or 0110, or there is none"
unfoldable pub to_none : List ℕ → Bool
to_none cs = list_all mute cs

-- addressed to a slot other than s: the first control byte tells which
unfoldable pub to_other : ℕ → List ℕ → Bool
to_other s [] = false
to_other s (c ∷ cs) = not (eqb (select_of c).0 s) && addressed (select_of c).0 (c ∷ cs)

-- "All others are shared"
unfoldable pub shared : List ℕ → Bool
shared [] = false
shared (c ∷ cs) = not (to_none (c ∷ cs)) && not (addressed (select_of c).0 (c ∷ cs))

-- demand 3: "Strike out the refused events, the exchanges addressed to slots other than s or to none, and the pin and temperature events of other
-- slots."
unfoldable pub struck_gap : ℕ → Gap → Bool
struck_gap s (stray_byte b) = false
struck_gap s (stray_read m) = false
struck_gap s stray_stop = false
struck_gap s timeout = false
struck_gap s tick = false
struck_gap s (power k) = false
struck_gap s (apply k x) = not (eqb k.0 s)

unfoldable pub struck : ℕ → Item → Bool
struck s (exchange xs) = to_none (controls true xs) || to_other s (controls true xs)
struck s (between g) = struck_gap s g

unfoldable pub strike : ℕ → List Item → List Item
strike s [] = []
strike s (i ∷ is) = cond (struck s i) (strike s is) (i ∷ strike s is)

-- s's own exchanges, and their answers, exchange by exchange
unfoldable pub own : ℕ → Item → Bool
own s (exchange xs) = addressed s (controls true xs)
own s (between g) = false

unfoldable pub own_told : ℕ → List Item → Bench → List (List Answer)
own_told s [] x = []
own_told s (i ∷ is) x =
    cond (own s i) (told (item_acts i []) x ∷ own_told s is (went (item_acts i []) x))
    (own_told s is (went (item_acts i []) x))

-- of a run the answers of the events that the kinds let pass, in order
unfoldable pub kept_answer : Ruling → Answer → List Answer → List Answer
kept_answer (Ok a) y ys = y ∷ ys
kept_answer (Err n) y ys = ys

unfoldable pub kept_answers : List ℕ → List Event → Bench → List Answer
kept_answers kinds [] x = []
kept_answers kinds (e ∷ es) x = kept_answer (ruled_by kinds e) (answered e x) (kept_answers kinds es (next e x))

-- the answers item by item
unfoldable pub chunks : List Item → Bench → List (List Answer)
chunks [] x = []
chunks (i ∷ is) x = told (item_acts i []) x ∷ chunks is (went (item_acts i []) x)

unfoldable pub concat : List (List Answer) → List Answer
concat [] = []
concat (c ∷ cs) = c ++ concat cs

-- those of s's own exchanges
unfoldable pub own_of : ℕ → List Item → List (List Answer) → List (List Answer)
own_of s [] cs = []
own_of s (i ∷ is) [] = []
own_of s (i ∷ is) (c ∷ cs) = cond (own s i) (c ∷ own_of s is cs) (own_of s is cs)
