-- Two runs of acts, made of whole exchanges and of acts between them, of which the same is left for slot k, end alike for slot k, and its own
-- exchanges got the same answers. The proof is of one run at a time: slot k on the bench is slot k alone over the struck-out run.
-- Assumes nothing.
use Prim.Native.Nat.{ℕ, ◌<◌}
use mathlib.Core.Path.{◌≡◌, refl, sym, ◌∙◌, ap, ap₂, subst}
use mathlib.Core.Bool.{true, false≢true}
use mathlib.Core.List.{List, [], ◌∷◌}
use lib.ListN.{length}
use Rattle.std.specs.List.{list_all}
use Rattle.proof_lists.specs.Tests.{by-test, and_right}
use Rattle.rules.specs.declared.Act.{Act}
use Rattle.rules.specs.declared.Act.TheVariants.{Start}
use Rattle.rules.specs.declared.Slot.{Slot}
use Rattle.rules.specs.Runs.{Bench, taken}
use Rattle.runs.specs.Exchanges.{went, told, told_alone, Inside, Item, exchange, between, inside_act, up_to_stop, item_acts, flatten, controls, names, some_of, addressed, own, own_told, strike}
use Rattle.rules.proofs.Memory.Protection.{number-taken}
use Rattle.runs.proofs.TwoClerks.Alone.{slots_of, part_of, slot_at, SilentFor, SilentOver, slot-went, part-went, told-one}
use Rattle.runs.proofs.TwoClerks.Foreign.{all_named, silent}
use Rattle.runs.proofs.TwoClerks.Struck.{Idles, item_slot, item_part, slot_items, part_items, own_alone, strike-slot, strike-part, strike-own}

-- a run, item by item
went-stop : (xs : List Inside) (r : List Act) (x : Bench) → went (up_to_stop xs r) x ≡ went r (went (up_to_stop xs []) x)
unfolding went up_to_stop
went-stop [] r x = refl
went-stop (i ∷ xs) r x = went-stop xs r (taken (inside_act i) x)

went-item : (i : Item) (r : List Act) (x : Bench) → went (item_acts i r) x ≡ went r (went (item_acts i []) x)
unfolding went item_acts
went-item (exchange xs) r x = went-stop xs r (taken Start x)
went-item (between g) r x = refl

pub number-went : (r : List Act) (x : Bench) → length (slots_of (went r x)) ≡ length (slots_of x)
unfolding went
number-went [] x = refl
number-went (a ∷ r) x = number-went r (taken a x) ∙ number-taken a x

module _ (d : Slot) (k : ℕ) where
  slot-items : (is : List Item) (x : Bench) → k < length (slots_of x) → slot_at d k (went (flatten is) x) ≡ slot_items k is (slot_at d k x)
  unfolding flatten slot_items item_slot went
  slot-items [] x h = refl
  slot-items (i ∷ is) x h =
      rw (went-item i (flatten is) x)
      (slot-items is (went (item_acts i []) x) (rw (number-went (item_acts i []) x) h) ∙ ap (slot_items k is) (slot-went d k (item_acts i []) x h))

  part-items : (is : List Item) (x : Bench) → k < length (slots_of x) → part_of k (went (flatten is) x) ≡ part_items k is (slot_at d k x) (part_of k x)
  unfolding flatten part_items item_slot item_part went
  part-items [] x h = refl
  part-items (i ∷ is) x h =
      rw (went-item i (flatten is) x)
      (part-items is (went (item_acts i []) x) (rw (number-went (item_acts i []) x) h)
      ∙ ap₂ (part_items k is) (slot-went d k (item_acts i []) x h) (part-went d k (item_acts i []) x h))

  -- in an exchange of k's own all others are silent, whatever state they were in, so the answers are k's
  told-own : (i : Item) (x : Bench) → k < length (slots_of x) → own k i ≡ true → told (item_acts i []) x ≡ told_alone k (item_acts i []) (slot_at d k x) (part_of k x)
  unfolding item_acts own addressed SilentOver SilentFor
  told-own (exchange xs) x h e =
      told-one d k (Start ∷ up_to_stop xs []) x h
      (λ i l ne.
      (tt, silent i xs _ (all_named i k (λ q. ne (sym q)) (controls true xs) (and_right (some_of (controls true xs)) (list_all (names k) (controls true xs)) e))))
  told-own (between g) x h e = absurd (false≢true e)

  own-items : (is : List Item) (x : Bench) → k < length (slots_of x) → own_told k is x ≡ own_alone k is (slot_at d k x) (part_of k x)
  unfolding own_told own_alone item_slot item_part
  own-items [] x h = refl
  own-items (i ∷ is) x h =
      let rest : own_told k is (went (item_acts i []) x) ≡ own_alone k is (item_slot k i (slot_at d k x)) (item_part k i (slot_at d k x) (part_of k x))
      = own-items is (went (item_acts i []) x) (rw (number-went (item_acts i []) x) h)
      ∙ ap₂ (own_alone k is) (slot-went d k (item_acts i []) x h) (part-went d k (item_acts i []) x h) in
      by-test (own k i) (λ e. rw e (ap₂ ◌∷◌ (told-own i x h e) rest)) (λ e. rw e rest)

  -- two benches that agree on slot k, which is idle
  pub record Agree (x y : Bench) : Type 0 where
    pub in-first : k < length (slots_of x)
    pub in-second : k < length (slots_of y)
    pub idle : Idles (slot_at d k x)
    pub slot : slot_at d k x ≡ slot_at d k y
    pub bytes : part_of k x ≡ part_of k y

  -- after two runs: the slot, its bytes, the answers to its own exchanges
  pub record EndAlike (x y : Bench) (is js : List Item) : Type 0 where
    pub slot : slot_at d k (went (flatten is) x) ≡ slot_at d k (went (flatten js) y)
    pub bytes : part_of k (went (flatten is) x) ≡ part_of k (went (flatten js) y)
    pub answers : own_told k is x ≡ own_told k js y

  pub apart : (x y : Bench) (is js : List Item) → Agree x y → strike k is ≡ strike k js → EndAlike x y is js
  apart x y is js a e =
      let i : Idles (slot_at d k y) = subst Idles a.slot a.idle in
      record {
        slot =
            slot-items is x a.in-first ∙ strike-slot k is _ a.idle ∙ ap₂ (slot_items k) e a.slot
            ∙ sym (slot-items js y a.in-second ∙ strike-slot k js _ i);
        bytes =
            part-items is x a.in-first ∙ strike-part k is _ _ a.idle
            ∙ (λ t. part_items k (e t) (a.slot t) (a.bytes t))
            ∙ sym (part-items js y a.in-second ∙ strike-part k js _ _ i);
        answers =
            own-items is x a.in-first ∙ strike-own k is _ _ a.idle
            ∙ (λ t. own_alone k (e t) (a.slot t) (a.bytes t))
            ∙ sym (own-items js y a.in-second ∙ strike-own k js _ _ i);
      }
