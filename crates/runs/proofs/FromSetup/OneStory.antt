-- There is one story of a change: in a run, the stop that began the cycle which runs at its end is one, and the byte of the command which stands at its end is
-- one. So what `Story` tells of a change is settled by the run: which stop, which byte, and what the command asked for.
-- Assumes nothing.
use Prim.Native.Nat.{ℕ}
use native.Mathlib.Omega.{arith}
use mathlib.Core.Path.{◌≡◌, refl, sym, ◌∙◌, ap, ap₂, subst}
use mathlib.Core.Bool.{Bool, true, false, false≢true}
use mathlib.Core.List.{List, [], ◌∷◌, ◌++◌}
use lib.ListN.{set}
use Rattle.rules.specs.declared.Act.{Act}
use Rattle.rules.specs.declared.Act.TheVariants.{Start, Byte, Stop, Tick, Apply}
use Rattle.rules.specs.declared.Applied.TheVariants.{Voltage}
use Rattle.rules.specs.declared.BlockNo.{BlockNo}
use Rattle.rules.specs.declared.Heard.{Heard}
use Rattle.rules.specs.declared.Phase.{Phase}
use Rattle.rules.specs.declared.Phase.TheVariants.{Idle, Control, Deaf, MemoryData, CommandStop}
use Rattle.rules.specs.declared.Slot.{Slot}
use Rattle.rules.specs.Open.{open-all}
use Rattle.rules.specs.Fresh.{fresh_slot, fresh_sensor, fresh_older}
use Rattle.rules.specs.Control.{heard_by}
use Rattle.rules.specs.Slot.{commanding, taking, standing, slot_next}
use Rattle.rules.specs.Runs.{slot_after}
use Rattle.runs.proofs.FromSetup.Lasting.{fresh-lasts}
use Rattle.runs.proofs.FromSetup.Reached.{rests, Reach, some}
use Rattle.runs.proofs.FromSetup.Together.{ticks-outside, outside-not}
use Rattle.runs.proofs.FromSetup.Story.{Commanded, Cycling, Throughout, Asks, protect, clear, lasting, Asked, CommandBegun, PageBegun, run-reach, stands-outside}

-- what holds throughout a run holds after each beginning of it
throughout-at : (P : Slot → Type 0) (n : ℕ) (r q : List Act) (s : Slot) → Throughout P n (r ++ q) s → P (slot_after n r s)
unfolding Throughout slot_after
throughout-at P n [] [] s h = h
throughout-at P n [] (a ∷ q) s h = h.0
throughout-at P n (a ∷ r) q s h = throughout-at P n r q (slot_next n a s) h.1

module _ (P : Slot → Type 0) (n : ℕ) where
  -- so what has held since the act b holds at each later place of the run
  later-on : (b a : Act) (l r q : List Act) (s : Slot) → b ∷ l ≡ a ∷ (r ++ q) → Throughout P n l (slot_next n b s) → P (slot_after n r (slot_next n a s))
  later-on b a l r q s p h =
      let same : b ≡ a = cc in
      let rest : l ≡ r ++ q = cc in
      throughout-at P n r q (slot_next n a s) (subst (λ (c : Act). Throughout P n (r ++ q) (slot_next n c s)) same (subst (λ (v : List Act). Throughout P n v (slot_next n b s)) rest h))

  -- Two places of one run at which P does not hold, and since which it has held to the end, are one.
  one_place : (e f : List Act) (b c : Act) (l m : List Act) (s : Slot) → e ++ b ∷ l ≡ f ++ c ∷ m
      → (P (slot_after n e s) → ⊥) → (P (slot_after n f s) → ⊥)
      → Throughout P n l (slot_next n b (slot_after n e s)) → Throughout P n m (slot_next n c (slot_after n f s)) → e ≡ f
  unfolding slot_after
  one_place [] [] b c l m s p x y h k = refl
  one_place [] (a ∷ f) b c l m s p x y h k = absurd (y (later-on b a l f (c ∷ m) s p h))
  one_place (a ∷ e) [] b c l m s p x y h k = absurd (x (later-on c a m e (b ∷ l) s (sym p) k))
  one_place (a ∷ e) (d ∷ f) b c l m s p x y h k =
      let same : d ≡ a = cc in
      let rest : e ++ b ∷ l ≡ f ++ c ∷ m = cc in
      ap₂ ◌∷◌ (sym same) (one_place e f b c l m (slot_next n a s) rest x (subst (λ (g : Act). P (slot_after n f (slot_next n g s)) → ⊥) same y)
      h (subst (λ (g : Act). Throughout P n m (slot_next n c (slot_after n f (slot_next n g s)))) same k))

-- and the act there is one
same-act : (e f : List Act) (b c : Act) (l m : List Act) → e ≡ f → e ++ b ∷ l ≡ f ++ c ∷ m → b ≡ c
same-act [] [] b c l m q p = cc
same-act [] (a ∷ f) b c l m q p = cc
same-act (a ∷ e) [] b c l m q p = cc
same-act (a ∷ e) (d ∷ f) b c l m q p = let next : e ≡ f = cc in let rest : e ++ b ∷ l ≡ f ++ c ∷ m = cc in same-act e f b c l m next rest

-- what a command asks for is settled by its byte and what stands
asks-one : {h g : Heard} {p o q r : List Bool} → Asks h p q → Asks g o r → h ≡ g → p ≡ o → q ≡ r
asks-one (protect k p) (protect j o) e f = let same : k ≡ j = cc in ap₂ (λ (x : List Bool) (i : BlockNo). set x i.0 true) f same
asks-one (protect k p) (clear o) e f = cc
asks-one (clear p) (protect j o) e f = cc
asks-one (clear p) (clear o) e f = refl
asks-one (protect k p) (lasting o) e f = cc
asks-one (clear p) (lasting o) e f = cc
asks-one (lasting p) (protect j o) e f = cc
asks-one (lasting p) (clear o) e f = cc
asks-one (lasting p) (lasting o) e f = ap (λ (x : List Bool). set x 0 true) f

-- in an exchange no cycle runs
in-exchange : (f : Phase → Bool) → f Idle ≡ false → f Deaf ≡ false → f Control ≡ false → (s : Slot) → Reach s → f (standing s) ≡ true → Cycling s → ⊥
in-exchange f i d c s reach e l = outside-not f i d c (standing s) (stands-outside s (ticks-outside s reach l)) e

module _ (n : ℕ) (s₀ : Slot) where
  abbrev at : List Act → Slot
  at r = slot_after n r s₀

  -- The command that stands at a run's end was begun by one byte, and asks for one thing.
  one_byte : {r o : List Act} {q p : List Bool} → r ≡ o → (h : Asked n s₀ r q) (g : Asked n s₀ o p) → h.earlier ≡ g.earlier
  one_byte e h g = one_place Commanded n h.earlier g.earlier (Byte h.byte) (Byte g.byte) h.later g.later s₀ (sym h.parts ∙ e ∙ g.parts)
      (none (at h.earlier) h.awaited) (none (at g.earlier) g.awaited) h.stood g.stood
    where
      none : (s : Slot) → standing s ≡ Control → Commanded s → ⊥
      none s e c = false≢true (sym (ap commanding e) ∙ c)

  one-asked : {r o : List Act} {q p : List Bool} → r ≡ o → Asked n s₀ r q → Asked n s₀ o p → q ≡ p
  one-asked e h g =
      let place : h.earlier ≡ g.earlier = one_byte e h g in
      let act : Byte h.byte ≡ Byte g.byte = same-act h.earlier g.earlier _ _ h.later g.later place (sym h.parts ∙ e ∙ g.parts) in
      let byte : h.byte ≡ g.byte = cc in
      asks-one h.asks g.asks (ap₂ (λ (b : ℕ) (r : List Act). heard_by n b (at r)) byte place) (ap (λ (r : List Act). (at r).protection) place)

  module _ (reach : Reach s₀) where
    -- The command's cycle that runs at a run's end: one stop began it, one byte began the command, and it brings one protection.
    pub one-command : {r : List Act} {q p : List Bool} (h : CommandBegun n s₀ r q) (g : CommandBegun n s₀ r p)
        → (h.earlier ≡ g.earlier) × (h.asked.earlier ≡ g.asked.earlier) × (q ≡ p)
    one-command h g =
        let stop : h.earlier ≡ g.earlier
        = one_place Cycling n h.earlier g.earlier Stop Stop h.later g.later s₀ (sym h.parts ∙ g.parts) (none h.earlier h.ready) (none g.earlier g.ready) h.ran g.ran in
        (stop, one_byte stop h.asked g.asked, one-asked stop h.asked g.asked)
      where
        none : (e : List Act) → standing (at e) ≡ CommandStop → Cycling (at e) → ⊥
        none e p = in-exchange commanding refl refl refl (at e) (run-reach n e s₀ reach) (ap commanding p)

    -- And the page's: one stop began it.
    pub one-page : {r : List Act} {s t : Slot} (h : PageBegun n s₀ r s) (g : PageBegun n s₀ r t) → h.earlier ≡ g.earlier
    one-page h g =
        one_place Cycling n h.earlier g.earlier Stop Stop h.later g.later s₀ (sym h.parts ∙ g.parts) (none h.earlier h.taking) (none g.earlier g.taking) h.ran g.ran
      where
        none : (e : List Act) → standing (at e) ≡ MemoryData → Cycling (at e) → ⊥
        none e p = in-exchange taking refl refl refl (at e) (run-reach n e s₀ reach) (ap taking p)

-- A run with two commands, of a memory in slot 0 with a cycle of two ticks: block 0 is protected and its cycle ends; then block 1, whose cycle has one tick left.
abbrev command : ℕ → List Act
command b = Start ∷ Byte b ∷ Byte 0x00 ∷ Byte 0x00 ∷ []

abbrev first : List Act
first = Apply (record { 0 = 0 }) (Voltage true) ∷ command 0x62 ++ Stop ∷ Tick ∷ Tick ∷ []

abbrev run : List Act
run = first ++ command 0x68 ++ Stop ∷ Tick ∷ []

abbrev both_blocks : List Bool
both_blocks = true ∷ true ∷ false ∷ false ∷ []

-- the story of the second command can be told,
second : CommandBegun 0 (fresh_slot 1 2) run both_blocks
unfolding open-all Throughout slot_after
second = record {
  earlier = first ++ command 0x68;
  later = Tick ∷ [];
  parts = refl;
  asked = record {
    earlier = first ++ Start ∷ [];
    byte = 0x68;
    later = Byte 0x00 ∷ Byte 0x00 ∷ [];
    parts = refl;
    awaited = refl;
    acked = refl;
    asks = protect (record { 0 = 1 }) (true ∷ false ∷ false ∷ false ∷ []);
    stood = (refl, (refl, refl));
  };
  ready = refl;
  ran = (λ e. omega arith, λ e. omega arith);
}

-- and no other: not that of the first, whose cycle ended in between.
memory-reach : Reach (fresh_slot 1 2)
unfolding fresh_slot fresh_sensor fresh_older
memory-reach = some (λ e. omega arith) (λ e. omega arith) (rests (record { no-ticks = refl; no-bytes = refl; no-marks = refl; steady = refl; no_place = refl; no_word = refl })) (fresh-lasts 1 2)

pub only-second : (q : List Bool) (h : CommandBegun 0 (fresh_slot 1 2) run q)
    → (h.earlier ≡ first ++ command 0x68) × (h.asked.earlier ≡ first ++ Start ∷ []) × (q ≡ both_blocks)
unfolding second
only-second q h = one-command 0 (fresh_slot 1 2) memory-reach h second
