-- A plan's records as acts: none is refused, whatever the kinds of the slots, and each byte is acknowledged where slot k acknowledges it.
-- Assumes nothing.
use Rattle.std.specs.Prelude.{Ok}
use Prim.Native.Nat.{ℕ, zero, suc, ◌+◌, ◌*◌, ◌<◌, ◌≤◌}
use native.Mathlib.Omega.{arith}
use native.Mathlib.Nat.{zero-add}
use mathlib.Core.Path.{◌≡◌, refl, sym, ◌∙◌, ap, ap₂}
use mathlib.Core.List.{List, [], ◌∷◌, ◌++◌, map}
use lib.Dec.{eqb}
use lib.ListN.{length, get_or, take, drop, replicate}
use borrow.Author.Tests.{le-ltb}
use Rattle.proof_lists.specs.Each.{Every, any_from-some}
use Rattle.proof_lists.specs.Parts.{part}
use Rattle.proof_lists.specs.Tests.{by-test}
use Rattle.rules.specs.declared.Act.{Act}
use Rattle.rules.specs.declared.Carried.{Carried}
use Rattle.rules.specs.declared.Carried.TheVariants as carries
use Rattle.rules.specs.declared.Act.TheVariants.{Start, Byte, Stop, Tick}
use Rattle.rules.specs.declared.Answer.TheVariants.{Nothing, Ack, Nack}
use Rattle.rules.specs.declared.Event.{Event}
use Rattle.rules.specs.Refusals.{Ruling}
use Rattle.rules.specs.declared.Slot.{Slot}
use Rattle.rules.specs.Modelled.{slot_count}
use Rattle.rules.specs.Events.{carried, act_of, letter_of}
use Rattle.rules.specs.Fresh.{absent_slot}
use Rattle.rules.specs.Slot.{acks}
use Rattle.rules.specs.Bus.{any_ack, shown_for, shown}
use Rattle.rules.specs.Refusals.{unknown_kind, wrong_slot, wrong_value, outside, ruled_for, ruled_by}
use Rattle.rules.specs.Runs.{Bench, taken, given, ruling_on, ruled_next, ruled_answer, next, answered, after, answers}
use Rattle.runs.specs.Exchanges.{kept_by, acts_of, went, told, alone_for, shown_alone, told_alone}
use Rattle.rules.proofs.Memory.Protection.{number-taken}
use Rattle.runs.proofs.TwoClerks.Alone.{slots_of, part_of, slot-taken, part-taken}
use Rattle.runs.proofs.TwoClerks.RunAnswers.{Sound, sound-next, ruled-by-kinds}
use Rattle.plan_rules.specs.Plan.{start, byte, stop, ticks, page_at, page_bytes, page_half, page_counter, selecting, writing, differs, half_before, page_events, pages_before}
use Rattle.plan_rules.specs.Effect.{due}
use Rattle.plan_rules.proofs.Ran.{due_for, due_to}
use Rattle.plan_rules.proofs.Page.{page_acts}
use Rattle.plan_rules.proofs.Steps.{select_acts, acts_before}

module _ (kinds : List ℕ) where
  -- events that are taken for these acts, and are due what the acts are due
  pub data Acted : List Event → List Act → Type 0 where
    none : Acted [] []
    more : {e : Event} {a : Act} {es : List Event} {r : List Act} → ruled_by kinds e ≡ Ok a → due e ≡ due_to a → Acted es r → Acted (e ∷ es) (a ∷ r)

  pub acted-joined : {es fs : List Event} {r v : List Act} → Acted es r → Acted fs v → Acted (es ++ fs) (r ++ v)
  acted-joined none b = b
  acted-joined (more h d a) b = more h d (acted-joined a b)

  -- they are the acts of the run, and due what the events are
  pub acted-acts : {es : List Event} {r : List Act} → Acted es r → acts_of kinds es ≡ r
  unfolding acts_of kept_by
  acted-acts none = refl
  acted-acts (more {e} {a} {es} {r} h d b) = ap (λ (v : Ruling). kept_by v (acts_of kinds es)) h ∙ ap (a ∷◌) (acted-acts b)

  pub acted-due : {es : List Event} {r : List Act} → Acted es r → map due_to r ≡ map due es
  acted-due none = refl
  acted-due (more h d b) = ap₂ ◌∷◌ (sym d) (acted-due b)

  -- the bench after them, and the answers
  pub acted-after : {es : List Event} {r : List Act} (x : Bench) → Sound kinds x → Acted es r → (after es x ≡ went r x) × (answers es x ≡ told r x)
  unfolding after answers went told next answered ruled_next ruled_answer
  acted-after x s none = (refl, refl)
  acted-after x s (more {e} {a} {es} {r} h d b) =
      let v : ruling_on e x ≡ Ok a = ruled-by-kinds kinds e x s ∙ h in
      let i = acted-after (next e x) (sound-next kinds e x s) b in
      (i.0 ∙ ap (λ (w : Ruling). went r (ruled_next w x)) v, ap₂ ◌∷◌ (ap (λ (w : Ruling). ruled_answer w x) v) (i.1 ∙ ap (λ (w : Ruling). told r (ruled_next w x)) v))

  -- the four kinds of a plan
  start-acted : {es : List Event} {r : List Act} → Acted es r → Acted (start ∷ es) (Start ∷ r)
  unfolding ruled_by ruled_for unknown_kind wrong_slot wrong_value act_of due due_for
  start-acted b = more refl refl b

  stop-acted : {es : List Event} {r : List Act} → Acted es r → Acted (stop ∷ es) (Stop ∷ r)
  unfolding ruled_by ruled_for unknown_kind wrong_slot wrong_value act_of due due_for
  stop-acted b = more refl refl b

  pub ticks-acted : (n : ℕ) → Acted (ticks n) (replicate n Tick)
  unfolding ticks ruled_by ruled_for unknown_kind wrong_slot wrong_value act_of due due_for
  ticks-acted zero = none
  ticks-acted (suc n) = more refl refl (ticks-acted n)

  byte-acted : (b : ℕ) {es : List Event} {r : List Act} → b ≤ 255 → Acted es r → Acted (byte b ∷ es) (Byte b ∷ r)
  unfolding ruled_by ruled_for unknown_kind wrong_slot wrong_value outside act_of due due_for
  byte-acted b h a = let v : ruled_by kinds (byte b) ≡ Ok (Byte b) = rw (le-ltb 255 b h, le-ltb b 0 (omega arith)) in more v refl a

  bytes-acted : (bs : List ℕ) → Every (λ b. b ≤ 255) bs → Acted (map byte bs) (map Byte bs)
  bytes-acted [] h = none
  bytes-acted (b ∷ bs) h = byte-acted b h.0 (bytes-acted bs h.1)

-- the bytes of a page are bytes
pub every_take : (P : ℕ → Type 0) (n : ℕ) (l : List ℕ) → Every P l → Every P (take n l)
every_take P zero l h = tt
every_take P (suc n) [] h = tt
every_take P (suc n) (x ∷ l) h = (h.0, every_take P n l h.1)

pub every_drop : (P : ℕ → Type 0) (n : ℕ) (l : List ℕ) → Every P l → Every P (drop n l)
every_drop P zero l h = h
every_drop P (suc n) [] h = tt
every_drop P (suc n) (x ∷ l) h = every_drop P n l h.1

pub every-part : (P : ℕ → Type 0) (w q : ℕ) (l : List ℕ) → Every P l → Every P (part w q l)
unfolding part
every-part P w zero l h = every_take P w l h
every-part P w (suc q) l h = every-part P w q (drop w l) (every_drop P w l h)

-- a plan's pages
module _ (kinds : List ℕ) (old image : List ℕ) (s : Slot) (k : ℕ) (below : k < slot_count) (bytes : Every (λ b. b ≤ 255) image) where
  selecting-acted : (now h : ℕ) → h ≤ 1 → Acted kinds (selecting now h) (select_acts now h)
  unfolding selecting select_acts
  selecting-acted now h l = by-test (eqb h now) (λ e. rw e none) (λ e. rw e (start-acted kinds (byte-acted kinds _ (omega arith) (stop-acted kinds none))))

  writing-acted : (p : ℕ) → Acted kinds (writing k (page_counter p) (page_at p image) s.length) (page_acts k (page_counter p) (page_at p image) s.length)
  unfolding writing
  writing-acted p =
      start-acted kinds (byte-acted kinds (0xA0 + 2 * k) (omega arith) (byte-acted kinds (page_counter p) (unfold page_counter in omega arith)
      (acted-joined kinds (bytes-acted kinds (page_at p image) (unfold page_at in every-part (λ b. b ≤ 255) page_bytes p image bytes)) (stop-acted kinds (ticks-acted kinds s.length)))))

  pub pages-acted : (p : ℕ) → p ≤ 32 → Acted kinds (pages_before old image s k p) (acts_before old image s k p)
  unfolding pages_before page_events acts_before
  pages-acted zero h = none
  pages-acted (suc p) h = acted-joined kinds (pages-acted p (omega arith)) (by-test (differs old image p)
      (λ d. rw d (acted-joined kinds (selecting-acted (half_before old image s p) (page_half p) (unfold page_half in omega arith)) (writing-acted p)))
      (λ d. rw d none))

-- what the slot itself acknowledges, the bus acknowledges
abbrev head_of : {A : Type 0} → A → List A → A
head_of d [] = d
head_of d (y ∷ ys) = y

abbrev tail_of : {A : Type 0} → List A → List A
tail_of [] = []
tail_of (y ∷ ys) = ys

module _ (k : ℕ) where
  heard-for : (c : Carried) (x : Bench) → k < length (slots_of x) → alone_for k c (get_or (slots_of x) k absent_slot) (part_of k x) ≡ due_for c → shown_for c x.bus x.memory ≡ due_for c
  unfolding shown_for alone_for due_for any_ack letter_of
  heard-for (carries.Byte v) x h e = by-test (acks k v (get_or (slots_of x) k absent_slot))
      (λ t. rw (any_from-some (λ n s. acks n v s) 0 (slots_of x) absent_slot k h (rw zero-add t)))
      (λ t. let f : letter_of Nack ≡ letter_of Ack = ap letter_of (rw t at e) in absurd (omega (arith, f)))
  heard-for (carries.Read b) x h e = let f = ap letter_of e in absurd (omega (arith, f))
  heard-for carries.Nothing x h e = refl

  one-heard : (a : Act) (x : Bench) → k < length (slots_of x) → shown_alone k a (get_or (slots_of x) k absent_slot) (part_of k x) ≡ due_to a → given a x ≡ due_to a
  unfolding given shown shown_alone
  one-heard a x h e = heard-for (carried a) x h e

  pub all-heard : (r : List Act) (x : Bench) → k < length (slots_of x)
      → told_alone k r (get_or (slots_of x) k absent_slot) (part_of k x) ≡ map due_to r → told r x ≡ map due_to r
  unfolding told told_alone
  all-heard [] x h e = refl
  all-heard (a ∷ r) x h e =
      ap₂ ◌∷◌ (one-heard a x h (ap (head_of Nothing) e))
      (all-heard r (taken a x) (rw number-taken h)
      (ap₂ (told_alone k r) (slot-taken absent_slot k a x h) (part-taken absent_slot k a x h) ∙ ap tail_of e))
