-- What is struck out for slot k does nothing to it: over a run, slot k alone sees what is left of the run and nothing else.
-- Assumes nothing.
use Prim.Native.Nat.{ℕ}
use mathlib.Core.Path.{◌≡◌, refl, sym, ◌∙◌, ap, subst}
use mathlib.Core.Bool.{Bool, true, false≢true, not, cond, ◌&&◌, ◌||◌}
use mathlib.Core.List.{List, [], ◌∷◌}
use lib.Dec.{eqb}
use borrow.Author.Tests.{not-true}
use Rattle.proof_lists.specs.Tests.{cond_cases, by-test}
use Rattle.rules.specs.declared.Act.{Act}
use Rattle.rules.specs.declared.Act.TheVariants.{Start, Byte, Read, Stop, Timeout, Tick, Power, Apply}
use Rattle.rules.specs.declared.Answer.{Answer}
use Rattle.rules.specs.declared.Phase.{Phase}
use Rattle.rules.specs.declared.Phase.TheVariants.{Idle, Control, Deaf}
use Rattle.rules.specs.declared.Slot.{Slot}
use Rattle.rules.specs.Modelled.{absent, sensing}
use Rattle.rules.specs.Open.{open-fields}
use Rattle.rules.specs.Fields.{in_phase}
use Rattle.rules.specs.Fresh.{fresh_slot, powered}
use Rattle.rules.specs.Memory.{emptied, ended, ticked}
use Rattle.rules.specs.Power.{power_cut}
use Rattle.rules.specs.Slot.{with_sensor_in, standing, commanding, let_go, byte_in, read_in, present_next, slot_next, part_next}
use Rattle.rules.specs.Runs.{slot_after, part_after}
use Rattle.runs.specs.Exchanges.{told_alone, stray_byte, stray_read, stray_stop, timeout, tick, power, apply, Item, exchange, between, gap_act, up_to_stop, item_acts, struck_gap, struck, strike, own}
use Rattle.runs.proofs.TwoClerks.Classes.{struck-not-own}
use Rattle.runs.proofs.TwoClerks.Foreign.{struck-unheard, started-waits, absent-after, as_it_was, same-part, ends-idle}
use Rattle.rules.proofs.Memory.Protection.{still-present}
use Rattle.rules.proofs.Run.Cases.{next-cases, present-next, apply-cases}

-- between exchanges a slot is idle
abbrev pub Idles : Slot → Type 0
Idles s = s.phase ≡ Idle

-- an idle slot stands idle, or counts as deaf
idle-stands : (P : Phase → Type 0) (s : Slot) → Idles s → P Idle → P Deaf → P (standing s)
unfolding standing
idle-stands P s e i d = cond_cases P (absent s || (with_sensor_in s.phase && not (sensing s))) (λ f. d) (λ f. subst P (sym e) i)

pub idle-same : (s : Slot) → Idles s → in_phase Idle s ≡ s
unfolding in_phase
idle-same s e = ap (λ (p : Phase). in_phase p s) (sym e)

pub idle-let-go : (s : Slot) → Idles s → let_go (standing s) s ≡ s
unfolding let_go
idle-let-go s e = idle-stands (λ p. let_go p s ≡ s) s e refl refl

idle-byte : (n b : ℕ) (s : Slot) → Idles s → byte_in (standing s) n b s ≡ s
unfolding byte_in
idle-byte n b s e = idle-stands (λ p. byte_in p n b s ≡ s) s e refl refl

idle-read : (m : Bool) (s : Slot) → Idles s → read_in (standing s) m s ≡ s
unfolding read_in
idle-read m s e = idle-stands (λ p. read_in p m s ≡ s) s e refl refl

-- what an item does to the slot alone, and to its bytes
unfoldable pub item_slot : ℕ → Item → Slot → Slot
item_slot n i s = slot_after n (item_acts i []) s

unfoldable pub item_part : ℕ → Item → Slot → List ℕ → List ℕ
item_part n i s m = part_after n (item_acts i []) s m

-- idle goes on, whatever the item
idle-calm : (s : Slot) → Idles s → commanding (standing s) ≡ true → ⊥
idle-calm s e c = idle-stands (λ p. commanding p ≡ true → ⊥) s e false≢true false≢true c

idle-ticked : (s : Slot) → Idles s → Idles (ticked s)
unfolding ticked ended emptied open-fields
idle-ticked s e = cond_cases Idles (eqb s.left 1) (λ f. e) (λ f. e)

idle-next : (n : ℕ) (a : Act) (s : Slot) → Idles s → Idles (present_next n a s) → Idles (slot_next n a s)
idle-next n a s e f = next-cases Idles n a s (λ h. e) (λ h. f)

pub idle-item : (n : ℕ) (i : Item) (s : Slot) → Idles s → Idles (item_slot n i s)
unfolding item_slot item_acts slot_after gap_act present_next power_cut powered fresh_slot open-fields
idle-item n (exchange xs) s e = by-test (absent s)
    (λ a. ap (λ (t : Slot). t.phase) (absent-after n (Start ∷ up_to_stop xs []) s a) ∙ e) (λ a. ends-idle n xs _ (still-present n Start s a))
idle-item n (between (stray_byte b)) s e = idle-next n (Byte b) s e (ap (λ (t : Slot). t.phase) (idle-byte n b s e) ∙ e)
idle-item n (between (stray_read m)) s e = idle-next n (Read m) s e (ap (λ (t : Slot). t.phase) (idle-read m s e) ∙ e)
idle-item n (between stray_stop) s e = idle-next n Stop s e refl
idle-item n (between timeout) s e = idle-next n Timeout s e refl
idle-item n (between tick) s e = idle-next n Tick s e (idle-ticked s e)
idle-item n (between (power k)) s e = idle-next n (Power k) s e refl
idle-item n (between (apply k x)) s e = idle-next n (Apply k x) s e (apply-cases Idles s n k x e (λ on. e) (λ on c. absurd (idle-calm s e c)) (λ t f. e) (λ on f. e))

-- what is struck out leaves an idle slot and its bytes as they are
struck-slot : (n : ℕ) (i : Item) (s : Slot) → Idles s → struck n i ≡ true → item_slot n i s ≡ s
unfolding item_slot item_acts slot_after gap_act present_next struck struck_gap
struck-slot n (exchange xs) s e p = by-test (absent s) (λ a. absent-after n (Start ∷ up_to_stop xs []) s a)
    (λ a. ap (slot_after n (up_to_stop xs [])) (present-next n Start s a ∙ ap (in_phase Control) (idle-let-go s e))
    ∙ as_it_was n true xs (in_phase Control s) (unfold absent in_phase in a) (started-waits s a) (struck-unheard n xs p)
    ∙ again-idle)
  where
    again-idle : in_phase Idle (in_phase Control s) ≡ s
    again-idle = unfold in_phase in idle-same s e
struck-slot n (between (stray_byte b)) s e p = absurd (false≢true p)
struck-slot n (between (stray_read m)) s e p = absurd (false≢true p)
struck-slot n (between stray_stop) s e p = absurd (false≢true p)
struck-slot n (between timeout) s e p = absurd (false≢true p)
struck-slot n (between tick) s e p = absurd (false≢true p)
struck-slot n (between (power k)) s e p = absurd (false≢true p)
struck-slot n (between (apply k x)) s e p =
    next-cases (λ (r : Slot). r ≡ s) n (Apply k x) s (λ a. refl) (λ a. rw (not-true (eqb k.0 n) p))

struck-part : (n : ℕ) (i : Item) (s : Slot) (m : List ℕ) → struck n i ≡ true → item_part n i s m ≡ m
unfolding item_part item_acts part_after gap_act part_next struck struck_gap
struck-part n (exchange xs) s m p = same-part n xs _ m
struck-part n (between (stray_byte b)) s m p = refl
struck-part n (between (stray_read b)) s m p = refl
struck-part n (between stray_stop) s m p = refl
struck-part n (between timeout) s m p = refl
struck-part n (between tick) s m p = absurd (false≢true p)
struck-part n (between (power k)) s m p = absurd (false≢true p)
struck-part n (between (apply k x)) s m p = refl

-- the slot alone, item by item: its state, its bytes, the answers to its own exchanges
unfoldable pub slot_items : ℕ → List Item → Slot → Slot
slot_items n [] s = s
slot_items n (i ∷ is) s = slot_items n is (item_slot n i s)

unfoldable pub part_items : ℕ → List Item → Slot → List ℕ → List ℕ
part_items n [] s m = m
part_items n (i ∷ is) s m = part_items n is (item_slot n i s) (item_part n i s m)

unfoldable pub own_alone : ℕ → List Item → Slot → List ℕ → List (List Answer)
own_alone n [] s m = []
own_alone n (i ∷ is) s m =
    cond (own n i) (told_alone n (item_acts i []) s m ∷ own_alone n is (item_slot n i s) (item_part n i s m))
    (own_alone n is (item_slot n i s) (item_part n i s m))

module _ (n : ℕ) where
  pub strike-slot : (is : List Item) (s : Slot) → Idles s → slot_items n is s ≡ slot_items n (strike n is) s
  unfolding slot_items strike
  strike-slot [] s e = refl
  strike-slot (i ∷ is) s e = by-test (struck n i)
      (λ p. rw (p, struck-slot n i s e p) (strike-slot is s e))
      (λ p. rw p (strike-slot is (item_slot n i s) (idle-item n i s e)))

  pub strike-part : (is : List Item) (s : Slot) (m : List ℕ) → Idles s → part_items n is s m ≡ part_items n (strike n is) s m
  unfolding part_items strike
  strike-part [] s m e = refl
  strike-part (i ∷ is) s m e = by-test (struck n i)
      (λ p. rw (p, struck-slot n i s e p, struck-part n i s m p) (strike-part is s m e))
      (λ p. rw p (strike-part is (item_slot n i s) (item_part n i s m) (idle-item n i s e)))

  pub strike-own : (is : List Item) (s : Slot) (m : List ℕ) → Idles s → own_alone n is s m ≡ own_alone n (strike n is) s m
  unfolding own_alone strike
  strike-own [] s m e = refl
  strike-own (i ∷ is) s m e = by-test (struck n i)
      (λ p. rw (p, struck-not-own n i p, struck-slot n i s e p, struck-part n i s m p) (strike-own is s m e))
      (λ p. rw p (ap (λ t. cond (own n i) (told_alone n (item_acts i []) s m ∷ t) t) (strike-own is (item_slot n i s) (item_part n i s m) (idle-item n i s e))))
