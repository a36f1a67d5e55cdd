-- P9, from setup: of an older module bit 0 alone is protected or to come, set if permanent or to be so; so what a cycle's end brings is what was to come.
-- Of every other slot nothing is permanent, and no pin is on.
-- Assumes nothing.
use Prim.Native.Nat.{ℕ, ◌/◌}
use mathlib.Core.Path.{◌≡◌, refl, sym, ◌∙◌, ap, subst}
use mathlib.Core.Bool.{Bool, true, false, false≢true, not, cond, ◌&&◌, ◌||◌, and-false}
use mathlib.Core.List.{List, [], ◌∷◌}
use lib.Dec.{eqb}
use Rattle.proof_lists.specs.Tests.{cond_cases, by-test, or_cases}
use Rattle.rules.specs.declared.Act.{Act}
use Rattle.rules.specs.declared.Act.TheVariants.{Start, Byte, Read, Stop, Timeout, Tick, Power, Apply}
use Rattle.rules.specs.declared.Applied.TheVariants.{Voltage, Temperature, WriteProtect}
use Rattle.rules.specs.declared.Heard.{Heard}
use Rattle.rules.specs.declared.Heard.TheVariants.{Memory, Sensor, Protect, ClearAll, ReadProtection, SelectHalf, ReadHalf, ProtectForEver, Nothing}
use Rattle.rules.specs.declared.Older.{Older}
use Rattle.rules.specs.declared.Slot.{Slot}
use Rattle.rules.specs.Control.{select_of, is_read, command_of, heard_of, raised_command, own_command, older_command, heard_by}
use Rattle.rules.specs.Fresh.{fresh_older, fresh_slot}
use Rattle.rules.specs.Memory.{permanent_then, brought}
use Rattle.rules.specs.Modelled.{absent, older}
use Rattle.rules.specs.Slot.{slot_next}
use Rattle.rules.proofs.Document.Commands.{newer-heard}
use Rattle.rules.proofs.Memory.Protection.{Decided, as_before, as_stands, by_protect, by_clear, by_lasting, pressed, protection-next, permanent-next, coming-next, pin-next, kind-next}
use Rattle.rules.proofs.Memory.Stored as stored
use Rattle.rules.proofs.Memory.Stored.{finishes}

-- four blocks of which the first alone may be protected
abbrev pub alone : Bool → List Bool
alone b = b ∷ false ∷ false ∷ false ∷ []

-- now and to come; permanent, and to be so
pub record Bits (protection coming : List Bool) (permanent lasting : Bool) : Type 0 where
  pub now : Bool
  pub then : Bool
  pub stands : protection ≡ alone now
  pub comes : coming ≡ alone then
  pub set-now : permanent ≡ true → now ≡ true
  pub set_then : permanent ≡ true → then ≡ true
  pub will : lasting ≡ true → then ≡ true

abbrev pub Lasts : Slot → Type 0
Lasts s = older s ≡ true → Bits s.protection s.coming s.old.permanent s.old.lasting

-- so what the end of a cycle brings is what was to come
pub brings : (s : Slot) → Lasts s → brought s ≡ s.coming
unfolding brought permanent_then
brings s h = by-test (older s)
    (λ o. let b = h o in rw (o, b.comes) (ap alone (settled b.then s.old.permanent s.old.lasting b.set_then b.will)))
    (λ o. rw o)
  where
    settled : (t p l : Bool) → (p ≡ true → t ≡ true) → (l ≡ true → t ≡ true) → (t || (p || l)) ≡ t
    settled true p l f g = refl
    settled false true l f g = sym (f refl)
    settled false false true f g = sym (g refl)
    settled false false false f g = refl

-- what an older module's byte can ask for: a protect of block 0; nothing that decides, once it is permanent
abbrev alike : Heard → Bool → Type 0
alike (Memory k r) p = Unit {0}
alike (Sensor k r) p = Unit {0}
alike (Protect k) p = (k.0 ≡ 0) × (p ≡ false)
alike ClearAll p = p ≡ false
alike (ReadProtection k) p = Unit {0}
alike (SelectHalf h) p = ⊥
alike ReadHalf p = ⊥
alike ProtectForEver p = p ≡ false
alike Nothing p = Unit {0}

families : (b : ℕ) (s : Slot) → (eqb (b / 16) 0x6 ≡ false) → alike (heard_of b) s.old.permanent
unfolding heard_of
families b s e =
    cond_cases P (eqb (b / 16) 0xA) (λ f. tt) λ f.
    cond_cases P (eqb (b / 16) 0x3) (λ f. tt) λ f.
    rw e tt
  where
    P : Heard → Type 0
    P h = alike h s.old.permanent

asked : (n b : ℕ) (s : Slot) → older s ≡ true → alike (heard_by n b s) s.old.permanent
unfolding heard_by older_command raised_command own_command
asked n b s o = rw o (by-test (eqb (b / 16) 0x6) (λ e. rw e (by-test s.old.permanent (λ p. rw p tt) (λ p. rw p (own p)))) (λ e. rw e (families b s e)))
  where
    P : Heard → Type 0
    P h = alike h false

    own : s.old.permanent ≡ false → P (cond s.voltage (raised_command b) (own_command n b))
    own p = cond_cases P s.voltage
        (λ e. cond_cases P (eqb b 0x62) (λ e. (refl, refl)) λ e. cond_cases P (eqb b 0x66) (λ e. refl) λ e. cond_cases P (eqb b 0x63 || eqb b 0x67) (λ e. tt) (λ e. tt))
        (λ e. cond_cases P (eqb (select_of b).0 n) (λ e. cond_cases P (is_read b) (λ e. tt) (λ e. refl)) (λ e. tt))

-- every act keeps it
module _ (n : ℕ) (a : Act) (s : Slot) (o : older s ≡ true) (b : Bits s.protection s.coming s.old.permanent s.old.lasting) where
  abbrev ends : Bool
  ends = finishes a s && not (absent s)

  abbrev r : Slot
  r = slot_next n a s

  abbrev now_then : Bool
  now_then = cond ends b.then b.now

  protected : r.protection ≡ alone now_then
  protected = protection-next n a s ∙ by-test ends (λ e. rw e (brings s (λ o. b) ∙ b.comes)) (λ e. rw e b.stands)

  -- what is permanent after it was, or was to be
  was : r.old.permanent ≡ true → (ends ≡ true → permanent_then s ≡ true) × (ends ≡ false → s.old.permanent ≡ true)
  was p = (λ e. sym (permanent-next n a s ∙ rw e) ∙ p, λ e. sym (permanent-next n a s ∙ rw e) ∙ p)

  to-be : permanent_then s ≡ true → b.then ≡ true
  unfolding permanent_then
  to-be p = or_cases s.old.permanent s.old.lasting p b.set_then b.will

  kept-now : r.old.permanent ≡ true → now_then ≡ true
  kept-now p = by-test ends (λ e. rw e (to-be ((was p).0 e))) (λ e. rw e (b.set-now ((was p).1 e)))

  kept_then : r.old.permanent ≡ true → b.then ≡ true
  kept_then p = by-test ends (λ e. to-be ((was p).0 e)) (λ e. b.set_then ((was p).1 e))

  -- a control byte ends no cycle
  byte-calm : (v : ℕ) → a ≡ Byte v → s.old.permanent ≡ false → r.old.permanent ≡ true → ⊥
  unfolding finishes stored.ends
  byte-calm v e p q = false≢true (sym p ∙ (was q).1 (ap (λ (x : Act). finishes x s && not (absent s)) e))

  decided : (coming : List Bool) (lasting : Bool) → Decided n a s r.protection coming lasting → Bits r.protection coming r.old.permanent lasting
  decided coming lasting (as_before c l) = record {
    now = now_then;
    then = b.then;
    stands = protected;
    comes = c ∙ b.comes;
    set-now = kept-now;
    set_then = kept_then;
    will = λ e. b.will (sym l ∙ e);
  }
  decided coming lasting (as_stands c l) = record {
    now = now_then;
    then = now_then;
    stands = protected;
    comes = c ∙ protected;
    set-now = kept-now;
    set_then = kept-now;
    will = λ e. absurd (false≢true (sym l ∙ e));
  }
  decided coming lasting (by_protect v k e p f g c l) =
      let w : (k.0 ≡ 0) × (s.old.permanent ≡ false) = subst (λ (h : Heard). alike h s.old.permanent) g (asked n v s o) in record {
        now = now_then;
        then = true;
        stands = protected;
        comes = c ∙ rw (w.0, b.stands);
        set-now = kept-now;
        set_then = λ e. refl;
        will = λ e. refl;
      }
  decided coming lasting (by_clear v e p f g c l) =
      let w : s.old.permanent ≡ false = subst (λ (h : Heard). alike h s.old.permanent) g (asked n v s o) in record {
        now = now_then;
        then = false;
        stands = protected;
        comes = c;
        set-now = kept-now;
        set_then = λ q. absurd (byte-calm v e w q);
        will = λ q. absurd (false≢true (sym l ∙ q));
      }
  decided coming lasting (by_lasting v e p f g c l) = record {
    now = now_then;
    then = true;
    stands = protected;
    comes = c ∙ rw b.stands;
    set-now = kept-now;
    set_then = λ e. refl;
    will = λ e. refl;
  }

pub slot-lasts : (n : ℕ) (a : Act) (s : Slot) → Lasts s → Lasts (slot_next n a s)
unfolding older
slot-lasts n a s h e =
    let o : eqb s.kind 3 ≡ true = ap (λ (k : ℕ). eqb k 3) (sym (kind-next n a s)) ∙ e in
    decided n a s o (h o) _ _ (coming-next n a s)

pub fresh-lasts : (kind long : ℕ) → Lasts (fresh_slot kind long)
unfolding fresh_slot fresh_older
fresh-lasts kind long o = record {
  now = false;
  then = false;
  stands = refl;
  comes = refl;
  set-now = λ e. e;
  set_then = λ e. e;
  will = λ e. e;
}

-- OTHER SLOTS: nothing of it is there
abbrev pub Newer : Slot → Type 0
Newer s = older s ≡ false → s.old ≡ fresh_older

-- document 01 has no lasting form
abbrev pub for_ever : Heard → Bool
for_ever (Memory k r) = false
for_ever (Sensor k r) = false
for_ever (Protect k) = false
for_ever ClearAll = false
for_ever (ReadProtection k) = false
for_ever (SelectHalf h) = false
for_ever ReadHalf = false
for_ever ProtectForEver = true
for_ever Nothing = false

never-asked : (b : ℕ) → for_ever (heard_of b) ≡ false
unfolding heard_of command_of
never-asked b =
    cond_cases P (eqb (b / 16) 0xA) (λ e. refl) λ e.
    cond_cases P (eqb (b / 16) 0x3) (λ e. refl) λ e.
    cond_cases P (eqb (b / 16) 0x6) (λ e.
    cond_cases P (eqb b 0x62) (λ e. refl) λ e.
    cond_cases P (eqb b 0x68) (λ e. refl) λ e.
    cond_cases P (eqb b 0x6A) (λ e. refl) λ e.
    cond_cases P (eqb b 0x60) (λ e. refl) λ e.
    cond_cases P (eqb b 0x66) (λ e. refl) λ e.
    cond_cases P (eqb b 0x63) (λ e. refl) λ e.
    cond_cases P (eqb b 0x69) (λ e. refl) λ e.
    cond_cases P (eqb b 0x6B) (λ e. refl) λ e.
    cond_cases P (eqb b 0x61) (λ e. refl) λ e.
    cond_cases P (eqb b 0x6C) (λ e. refl) λ e.
    cond_cases P (eqb b 0x6E) (λ e. refl) λ e.
    cond_cases P (eqb b 0x6D) (λ e. refl) λ e.
    refl)
    (λ e. refl)
  where
    P : Heard → Type 0
    P h = for_ever h ≡ false

-- so only an older module is asked for it
pub asked-of-older : (n b : ℕ) (s : Slot) → for_ever (heard_by n b s) ≡ true → older s ≡ true
asked-of-older n b s e = by-test (older s) (λ o. o) (λ o. absurd (false≢true (sym (never-asked b) ∙ ap for_ever (sym (newer-heard b n s o)) ∙ e)))

still-none : (n : ℕ) (a : Act) (s : Slot) (stands comes : List Bool) (lasts : Bool) → older s ≡ false → s.old ≡ fresh_older → Decided n a s stands comes lasts → lasts ≡ false
unfolding fresh_older
still-none n a s stands comes lasts o f (as_before c l) = l ∙ ap (λ (x : Older). x.lasting) f
still-none n a s stands comes lasts o f (as_stands c l) = l
still-none n a s stands comes lasts o f (by_protect v k e p g h c l) = l
still-none n a s stands comes lasts o f (by_clear v e p g h c l) = l
still-none n a s stands comes lasts o f (by_lasting v e p g h c l) = absurd (false≢true (sym (never-asked v) ∙ ap for_ever (sym (newer-heard v n s o) ∙ h)))

unmoved : (n : ℕ) (a : Act) (s : Slot) → older s ≡ false → pressed n a s ≡ s.old.pin
unfolding pressed
unmoved n Start s o = refl
unmoved n (Byte b) s o = refl
unmoved n (Read more) s o = refl
unmoved n Stop s o = refl
unmoved n Timeout s o = refl
unmoved n Tick s o = refl
unmoved n (Power k) s o = refl
unmoved n (Apply k (Voltage on)) s o = refl
unmoved n (Apply k (Temperature t)) s o = refl
unmoved n (Apply k (WriteProtect on)) s o = rw (o, and-false (eqb k.0 n))

pub slot-newer : (n : ℕ) (a : Act) (s : Slot) → Newer s → Newer (slot_next n a s)
unfolding older fresh_older permanent_then
slot-newer n a s h e =
    let o : eqb s.kind 3 ≡ false = ap (λ (k : ℕ). eqb k 3) (sym (kind-next n a s)) ∙ e in
    let f : s.old ≡ fresh_older = h o in
    let p : (slot_next n a s).old.permanent ≡ false
    = permanent-next n a s ∙ cond_cases (λ (x : Bool). x ≡ false) (finishes a s && not (absent s)) (λ e. ap (λ (x : Older). x.permanent || x.lasting) f) (λ e. ap (λ (x : Older). x.permanent) f) in
    let l : (slot_next n a s).old.lasting ≡ false = still-none n a s _ _ _ o f (coming-next n a s) in
    let q : (slot_next n a s).old.pin ≡ false = pin-next n a s ∙ unmoved n a s o ∙ ap (λ (x : Older). x.pin) f in
    made _ p l q
  where
    made : (x : Older) → x.permanent ≡ false → x.lasting ≡ false → x.pin ≡ false → x ≡ record { permanent = false; lasting = false; pin = false }
    made x p l q = ap (λ (b : Bool). record { permanent = b; lasting = x.lasting; pin = x.pin }) p
        ∙ ap (λ (b : Bool). record { permanent = false; lasting = b; pin = x.pin }) l
        ∙ ap (λ (b : Bool). record { permanent = false; lasting = false; pin = b }) q

pub fresh-newer : (kind long : ℕ) → Newer (fresh_slot kind long)
unfolding fresh_slot
fresh-newer kind long o = refl
