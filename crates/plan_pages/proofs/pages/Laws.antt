-- The definitions in the form in which a loop's turn asks for them.
-- Assumes nothing.
use mathlib.Core.Path.{◌≡◌, refl, sym, ◌∙◌, ap, ap₂}
use mathlib.Core.Bool.{Bool, true, ◌||◌, or-false}
use mathlib.Core.List.{List, [], ◌∷◌, ◌++◌}
use Prim.Native.Nat.{ℕ, zero, suc, ◌+◌, ◌-◌, ◌*◌, ◌<◌, ◌≤◌}
use native.Mathlib.Nat.{add-zero, zero-add}
use native.Mathlib.Omega.{arith}
use lib.ListN.{take, drop, replicate}
use Rattle.std.specs.List.{list_any, range_with_len}
use Rattle.std.proofs.lemmas.List.Folds.{list_any-append}
use Rattle.proof_lists.specs.Parts.{part-flat}
use Rattle.rules.specs.declared.Act.TheVariants.{Tick}
use Rattle.rules.specs.declared.Slot.{Slot}
use Rattle.rules.specs.Memory.{ticked_part}
use Rattle.rules.specs.Slot.{slot_next, part_next}
use Rattle.rules.specs.Refusals.{slot_in_range}
use Rattle.rules.specs.Runs.{slot_after, part_after}
use Rattle.rules.proofs.Range.Kept.{facts, test, byte_fits, slot_kept}
use Rattle.plan_rules.specs.Plan.{page_at, barred, barred_before}

-- a tick keeps the range
pub tick-kept : (s r : Slot) → slot_in_range s ≡ true → r ≡ slot_next 0 Tick s → slot_in_range r ≡ true
unfolding byte_fits
tick-kept s r h e = ap slot_in_range e ∙ test _ (slot_kept 0 Tick s refl (facts s h))

pub ticks-kept : (n : ℕ) (s : Slot) → slot_in_range s ≡ true → slot_in_range (slot_after 0 (replicate n Tick) s) ≡ true
unfolding slot_after
ticks-kept zero s h = h
ticks-kept (suc n) s h = ticks-kept n (slot_next 0 Tick s) (tick-kept s (slot_next 0 Tick s) h refl)

-- one tick of those to come
pub slot_step : (i : ℕ) (s r z : Slot) → i < 5 → r ≡ slot_next 0 Tick s → slot_after 0 (replicate (5 - i) Tick) s ≡ z → slot_after 0 (replicate (5 - (i + 1)) Tick) r ≡ z
unfolding slot_after
slot_step i s r z h e f =
    let k : 5 - i ≡ suc (5 - (i + 1)) = omega arith in
    ap (slot_after 0 (replicate (5 - (i + 1)) Tick)) e ∙ sym (ap (λ (n : ℕ). slot_after 0 (replicate n Tick) s) k) ∙ f

pub part_step : (i : ℕ) (s r : Slot) (m q z : List ℕ) → i < 5 → r ≡ slot_next 0 Tick s → q ≡ ticked_part s m → part_after 0 (replicate (5 - i) Tick) s m ≡ z
    → part_after 0 (replicate (5 - (i + 1)) Tick) r q ≡ z
unfolding part_after part_next
part_step i s r m q z h e g f =
    let k : 5 - i ≡ suc (5 - (i + 1)) = omega arith in
    ap₂ (part_after 0 (replicate (5 - (i + 1)) Tick)) e g ∙ sym (ap (λ (n : ℕ). part_after 0 (replicate n Tick) s m) k) ∙ f

-- after the last
pub slot-last : (i : ℕ) (s z : Slot) → 5 ≤ i → slot_after 0 (replicate (5 - i) Tick) s ≡ z → s ≡ z
unfolding slot_after
slot-last i s z h f = let k : 5 - i ≡ 0 = omega arith in sym (ap (λ (n : ℕ). slot_after 0 (replicate n Tick) s) k) ∙ f

pub part-last : (i : ℕ) (s : Slot) (m z : List ℕ) → 5 ≤ i → part_after 0 (replicate (5 - i) Tick) s m ≡ z → m ≡ z
unfolding part_after
part-last i s m z h f = let k : 5 - i ≡ 0 = omega arith in sym (ap (λ (n : ℕ). part_after 0 (replicate n Tick) s m) k) ∙ f

-- a page as the code cuts it out
pub page-cut : (p w : ℕ) (m : List ℕ) → w ≡ 16 → take w (drop (16 * p) m) ≡ page_at p m
unfolding page_at
page-cut p w m e = ap (λ (n : ℕ). take n (drop (16 * p) m)) e ∙ sym (part-flat 16 p m)

-- some page of the first ones is barred: of the list of their numbers, and as the definition goes over them
range-more : (a n : ℕ) → range_with_len a (suc n) ≡ range_with_len a n ++ (a + n) ∷ []
range-more a zero = rw add-zero
range-more a (suc n) = let e : a + 1 + n ≡ a + suc n = omega arith in ap (a ∷◌) (range-more (a + 1) n ∙ ap (λ (k : ℕ). range_with_len (a + 1) n ++ k ∷ []) e)

pub any-barred : (old image : List ℕ) (s : Slot) (n : ℕ) → list_any (barred old image s) (range_with_len 0 n) ≡ barred_before old image s n
unfolding barred_before
any-barred old image s zero = refl
any-barred old image s (suc n) =
    let t : ℕ → Bool = barred old image s in
    ap (list_any t) (range-more 0 n) ∙ list_any-append t (range_with_len 0 n) ((0 + n) ∷ [])
    ∙ ap₂ ◌||◌ (any-barred old image s n) (or-false (t (0 + n)) ∙ ap t (zero-add n))
