-- An exchange none of whose control bytes slot n hears: the slot is silent in it, and an idle slot is as it was after it.
-- Assumes nothing.
use Prim.Native.Nat.{ℕ, ◌/◌}
use native.Mathlib.Omega.{arith}
use mathlib.Core.Path.{◌≡◌, refl, sym, ◌∙◌, ap, ap₂, subst}
use mathlib.Core.Bool.{Bool, true, false, not, ◌&&◌, ◌||◌, and-false}
use mathlib.Core.List.{List, [], ◌∷◌}
use lib.Dec.{eqb}
use borrow.Author.Tests.{eqb-true, eqb-false, ne_eqb, not-true}
use Rattle.std.specs.List.{list_all}
use Rattle.proof_lists.specs.Tests.{cond_cases, by-test, and_left, and_right, or_cases}
use Rattle.rules.specs.declared.Act.{Act}
use Rattle.rules.specs.declared.Carried.{Carried}
use Rattle.rules.specs.declared.Carried.TheVariants as carries
use Rattle.rules.specs.declared.Act.TheVariants.{Start, Byte, Read, Stop}
use Rattle.rules.specs.declared.Phase.{Phase}
use Rattle.rules.specs.declared.Phase.TheVariants.{Idle, Control, Deaf}
use Rattle.rules.specs.declared.Slot.{Slot}
use Rattle.rules.specs.Modelled.{absent, older}
use Rattle.rules.specs.Fields.{in_phase}
use Rattle.rules.specs.Control.{select_of, heard_of, acks_heard, acks_control, controlled, heard_by}
use Rattle.rules.specs.Memory.{emptied, abandoned, cancelled}
use Rattle.rules.specs.Open.{open-fields}
use Rattle.rules.specs.Events.{carried}
use Rattle.rules.specs.Slot.{standing, let_go, byte_in, acks_in, read_in, drives_in, stop_in, present_next, slot_next, part_next, acks, drives}
use Rattle.rules.specs.Runs.{slot_after, part_after}
use Rattle.runs.specs.Exchanges.{Inside, again, byte, read, exchange, inside_act, up_to_stop, controls, names, mute, some_of, addressed, to_none, to_other, struck}
use Rattle.rules.proofs.Run.Cases.{let-go-cases, absent-next, present-next}
use Rattle.rules.proofs.Memory.Stored.{absent-part}
use Rattle.rules.proofs.Memory.Protection.{still-present}
use Rattle.runs.proofs.TwoClerks.Alone.{SilentFor, SilentOver}

-- slot n does not hear the control byte, whatever state it is in
abbrev pub Unheard : ℕ → ℕ → Type 0
Unheard n c = (s : Slot) → acks_heard (heard_by n c s) n s ≡ false

abbrev pub NoneHeard : ℕ → List ℕ → Type 0
NoneHeard n [] = Unit {0}
NoneHeard n (c ∷ cs) = Unheard n c × NoneHeard n cs

mute-unheard : (n c : ℕ) → mute c ≡ true → Unheard n c
unfolding mute heard_by heard_of acks_heard
mute-unheard n c e s =
    let a : Bool = not (eqb (c / 16) 0xA) in
    let b : Bool = not (eqb (c / 16) 0x3) in
    let d : Bool = not (eqb (c / 16) 0x6) in
    let f : eqb (c / 16) 0xA ≡ false = not-true _ (and_left a b (and_left (a && b) d e)) in
    let g : eqb (c / 16) 0x3 ≡ false = not-true _ (and_right a b (and_left (a && b) d e)) in
    let h : eqb (c / 16) 0x6 ≡ false = not-true _ (and_right (a && b) d e) in
    rw (f, g, h, and-false (older s))

named-unheard : (n t c : ℕ) → (t ≡ n → ⊥) → names t c ≡ true → Unheard n c
unfolding names heard_by heard_of acks_heard
named-unheard n t c ne e s =
    let m : Bool = eqb (c / 16) 0xA in
    let x : Bool = eqb (c / 16) 0x3 in
    let f : (select_of c).0 ≡ t = eqb-true (select_of c).0 t (and_right (m || x) (eqb (select_of c).0 t) e) in
    let g : eqb (select_of c).0 n ≡ false = rw f (ne_eqb t n ne) in
    or_cases m x (and_left (m || x) (eqb (select_of c).0 t) e)
    (λ p. rw (ne_eqb (c / 16) 0x6 (let q : c / 16 ≡ 10 = eqb-true (c / 16) 0xA p in omega arith), and-false (older s), p, g))
    (λ p. let q : c / 16 ≡ 3 = eqb-true (c / 16) 0x3 p in rw (ne_eqb (c / 16) 0x6 (omega arith), and-false (older s), ne_eqb (c / 16) 0xA (omega arith), p, g))

all-mute : (n : ℕ) (cs : List ℕ) → list_all mute cs ≡ true → NoneHeard n cs
all-mute n [] e = tt
all-mute n (c ∷ cs) e = (mute-unheard n c (and_left (mute c) (list_all mute cs) e), all-mute n cs (and_right (mute c) (list_all mute cs) e))

pub all_named : (n t : ℕ) → (t ≡ n → ⊥) → (cs : List ℕ) → list_all (names t) cs ≡ true → NoneHeard n cs
all_named n t ne [] e = tt
all_named n t ne (c ∷ cs) e =
    (named-unheard n t c ne (and_left (names t c) (list_all (names t) cs) e), all_named n t ne cs (and_right (names t c) (list_all (names t) cs) e))

to-other : (n : ℕ) (cs : List ℕ) → to_other n cs ≡ true → NoneHeard n cs
unfolding to_other addressed some_of
to-other n [] e = tt
to-other n (c ∷ cs) e =
    let p : Bool = not (eqb (select_of c).0 n) in
    let q : Bool = list_all (names (select_of c).0) (c ∷ cs) in
    all_named n (select_of c).0 (eqb-false _ _ (not-true _ (and_left p q e))) (c ∷ cs) (and_right p q e)

pub struck-unheard : (n : ℕ) (xs : List Inside) → struck n (exchange xs) ≡ true → NoneHeard n (controls true xs)
unfolding struck to_none
struck-unheard n xs e = or_cases _ _ e (all-mute n (controls true xs)) (to-other n (controls true xs))

-- a slot that awaits the control byte, `fresh`, or hears nothing more; an absent one never hears anything
pub data Waits (s : Slot) : Bool → Type 0 where
  deaf : {fresh : Bool} → standing s ≡ Deaf → Waits s fresh
  awaits : standing s ≡ Control → Waits s true

stands-deaf : (s : Slot) → standing (in_phase Deaf s) ≡ Deaf
unfolding standing in_phase
stands-deaf s = cond_cases (λ (p : Phase). p ≡ Deaf) (absent (in_phase Deaf s) || false) (λ e. refl) (λ e. refl)

pub started-waits : (s : Slot) → absent s ≡ false → Waits (in_phase Control s) true
unfolding absent standing in_phase
started-waits s e = awaits (rw e)

-- an unheard control byte gets no ACK, and leaves the slot deaf
unheard-nack : (n c : ℕ) (s : Slot) → Unheard n c → acks_control n c s ≡ false
unfolding acks_control
unheard-nack n c s u = rw (u s) (by-test (eqb s.left 0) (λ e. rw e) (λ e. rw e))

unheard-deaf : (n c : ℕ) (s : Slot) → Unheard n c → controlled n c s ≡ in_phase Deaf s
unfolding controlled
unheard-deaf n c s u = rw (unheard-nack n c s u)

-- a slot that waits holds nothing to let go
let-go-none : (s : Slot) {fresh : Bool} → Waits s fresh → let_go (standing s) s ≡ s
unfolding let_go
let-go-none s (deaf e) = ap (λ p. let_go p s) e
let-go-none s (awaits e) = ap (λ p. let_go p s) e

-- an absent slot is as it was after any run, and silent in it
pub absent-after : (n : ℕ) (r : List Act) (s : Slot) → absent s ≡ true → slot_after n r s ≡ s
unfolding slot_after
absent-after n [] s e = refl
absent-after n (a ∷ r) s e = ap (slot_after n r) (absent-next n a s e) ∙ absent-after n r s e

pub absent-parts : (n : ℕ) (r : List Act) (s : Slot) (m : List ℕ) → absent s ≡ true → part_after n r s m ≡ m
unfolding part_after
absent-parts n [] s m e = refl
absent-parts n (a ∷ r) s m e = ap₂ (part_after n r) (absent-next n a s e) (absent-part a s m e) ∙ absent-parts n r s m e

absent-once : (n : ℕ) (c : Carried) (s : Slot) → standing s ≡ Deaf → SilentFor n c s
unfolding SilentFor acks acks_in drives
absent-once n (carries.Byte b) s e = ap (λ p. acks_in p n b s) e
absent-once n (carries.Read m) s e = ap drives_in e
absent-once n carries.Nothing s e = tt

absent-silent : (n : ℕ) (r : List Act) (s : Slot) → absent s ≡ true → SilentOver n r s
unfolding SilentOver
absent-silent n [] s e = tt
absent-silent n (a ∷ r) s e =
    (absent-once n (carried a) s (unfold standing in rw e), subst (SilentOver n r) (sym (absent-next n a s e)) (absent-silent n r s e))

-- after the exchange a present slot is idle, and otherwise as it was
pub as_it_was : (n : ℕ) (fresh : Bool) (xs : List Inside) (s : Slot) → absent s ≡ false → Waits s fresh → NoneHeard n (controls fresh xs)
    → slot_after n (up_to_stop xs []) s ≡ in_phase Idle s
unfolding slot_after up_to_stop inside_act present_next controls byte_in read_in stop_in in_phase absent
as_it_was n fresh [] s a (deaf e) u = present-next n Stop s a ∙ ap (λ p. in_phase Idle (stop_in p s)) e
as_it_was n true [] s a (awaits e) u = present-next n Stop s a ∙ ap (λ p. in_phase Idle (stop_in p s)) e
as_it_was n fresh (again ∷ xs) s a w u =
    ap (slot_after n (up_to_stop xs [])) (present-next n Start s a ∙ ap (in_phase Control) (let-go-none s w))
    ∙ as_it_was n true xs (in_phase Control s) a (started-waits s a) u
as_it_was n true (byte c ∷ xs) s a (deaf e) u =
    ap (slot_after n (up_to_stop xs [])) (present-next n (Byte c) s a ∙ ap (λ p. byte_in p n c s) e) ∙ as_it_was n false xs s a (deaf e) u.1
as_it_was n true (byte c ∷ xs) s a (awaits e) u =
    ap (slot_after n (up_to_stop xs [])) (present-next n (Byte c) s a ∙ ap (λ p. byte_in p n c s) e ∙ unheard-deaf n c s u.0)
    ∙ as_it_was n false xs (in_phase Deaf s) a (deaf (stands-deaf s)) u.1
as_it_was n false (byte c ∷ xs) s a (deaf e) u =
    ap (slot_after n (up_to_stop xs [])) (present-next n (Byte c) s a ∙ ap (λ p. byte_in p n c s) e) ∙ as_it_was n false xs s a (deaf e) u
as_it_was n true (read m ∷ xs) s a (awaits e) u =
    ap (slot_after n (up_to_stop xs [])) (present-next n (Read m) s a ∙ ap (λ p. read_in p m s) e)
    ∙ as_it_was n false xs (in_phase Deaf s) a (deaf (stands-deaf s)) u
as_it_was n fresh (read m ∷ xs) s a (deaf e) u =
    ap (slot_after n (up_to_stop xs [])) (present-next n (Read m) s a ∙ ap (λ p. read_in p m s) e) ∙ as_it_was n false xs s a (deaf e) u

-- a start does not make a present slot absent
let-go-present : (s : Slot) → absent s ≡ false → absent (let_go (standing s) s) ≡ false
unfolding absent cancelled abandoned emptied open-fields
let-go-present s a = let-go-cases (λ (r : Slot). absent r ≡ false) (standing s) s a a a a

started-present : (s : Slot) → absent s ≡ false → absent (in_phase Control (let_go (standing s) s)) ≡ false
unfolding absent in_phase
started-present s a = let-go-present s a

-- and it said nothing
module _ (n : ℕ) where
  -- one step on, to a slot that is known
  on : (xs : List Inside) {s t : Slot} → s ≡ t → SilentOver n (up_to_stop xs []) t → SilentOver n (up_to_stop xs []) s
  on xs e h = subst (SilentOver n (up_to_stop xs [])) (sym e) h

  present-silent : (fresh : Bool) (xs : List Inside) (s : Slot) → absent s ≡ false → Waits s fresh → NoneHeard n (controls fresh xs) → SilentOver n (up_to_stop xs []) s
  unfolding SilentOver SilentFor up_to_stop inside_act present_next controls acks acks_in byte_in drives read_in in_phase absent
  present-silent fresh [] s a w u = (tt, tt)
  present-silent fresh (again ∷ xs) s a w u =
      (tt, on xs (present-next n Start s a ∙ ap (in_phase Control) (let-go-none s w)) (present-silent true xs (in_phase Control s) a (started-waits s a) u))
  present-silent true (byte c ∷ xs) s a (deaf e) u =
      (ap (λ p. acks_in p n c s) e, on xs (present-next n (Byte c) s a ∙ ap (λ p. byte_in p n c s) e) (present-silent false xs s a (deaf e) u.1))
  present-silent true (byte c ∷ xs) s a (awaits e) u = (
    ap (λ p. acks_in p n c s) e ∙ unheard-nack n c s u.0,
    on xs (present-next n (Byte c) s a ∙ ap (λ p. byte_in p n c s) e ∙ unheard-deaf n c s u.0) (present-silent false xs (in_phase Deaf s) a (deaf (stands-deaf s)) u.1),
  )
  present-silent false (byte c ∷ xs) s a (deaf e) u =
      (ap (λ p. acks_in p n c s) e, on xs (present-next n (Byte c) s a ∙ ap (λ p. byte_in p n c s) e) (present-silent false xs s a (deaf e) u))
  present-silent true (read m ∷ xs) s a (awaits e) u =
      (ap drives_in e, on xs (present-next n (Read m) s a ∙ ap (λ p. read_in p m s) e) (present-silent false xs (in_phase Deaf s) a (deaf (stands-deaf s)) u))
  present-silent fresh (read m ∷ xs) s a (deaf e) u =
      (ap drives_in e, on xs (present-next n (Read m) s a ∙ ap (λ p. read_in p m s) e) (present-silent false xs s a (deaf e) u))

  -- from a start on, whatever the slot was in
  pub silent : (xs : List Inside) (s : Slot) → NoneHeard n (controls true xs) → SilentOver n (up_to_stop xs []) (slot_next n Start s)
  unfolding present_next
  silent xs s u = by-test (absent s)
      (λ a. on xs (absent-next n Start s a) (absent-silent n (up_to_stop xs []) s a))
      (λ a. on xs (present-next n Start s a) (present-silent true xs (in_phase Control (let_go (standing s) s)) (started-present s a) (started-waits (let_go (standing s) s) (let-go-present s a)) u))

-- no exchange touches the memory, and every exchange ends idle
pub same-part : (n : ℕ) (xs : List Inside) (s : Slot) (m : List ℕ) → part_after n (up_to_stop xs []) s m ≡ m
unfolding part_after up_to_stop inside_act part_next
same-part n [] s m = refl
same-part n (again ∷ xs) s m = same-part n xs _ m
same-part n (byte c ∷ xs) s m = same-part n xs _ m
same-part n (read b ∷ xs) s m = same-part n xs _ m

pub ends-idle : (n : ℕ) (xs : List Inside) (s : Slot) → absent s ≡ false → (slot_after n (up_to_stop xs []) s).phase ≡ Idle
unfolding slot_after up_to_stop inside_act present_next in_phase
ends-idle n [] s a = ap (λ (t : Slot). t.phase) (present-next n Stop s a)
ends-idle n (again ∷ xs) s a = ends-idle n xs _ (still-present n Start s a)
ends-idle n (byte c ∷ xs) s a = ends-idle n xs _ (still-present n (Byte c) s a)
ends-idle n (read b ∷ xs) s a = ends-idle n xs _ (still-present n (Read b) s a)
