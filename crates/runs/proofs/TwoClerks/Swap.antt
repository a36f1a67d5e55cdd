-- "So two neighbouring exchanges to different slots may change places": the whole bench is the same after both runs, and every item of the two
-- runs got the same answers, those two exchanges, the shared ones and the events between them included.
-- Assumes nothing.
use Prim.Native.Nat.{ℕ, suc, ◌<◌}
use mathlib.Core.Path.{◌≡◌, refl, sym, ◌∙◌, ap, ap₂}
use mathlib.Core.Logic.{◌⊎◌, inl, inr}
use mathlib.Core.Bool.{true, false, cond}
use mathlib.Core.List.{List, [], ◌∷◌, ◌++◌}
use lib.Dec.{eqb}
use lib.ListN.{length}
use lib.Seq.{ext_get_or}
use borrow.Author.Tests.{eqb-true, eqb-false}
use Rattle.proof_lists.specs.Tests.{by-test}
use Rattle.rules.specs.declared.Act.TheVariants.{Start}
use Rattle.rules.specs.declared.Answer.{Answer}
use Rattle.rules.specs.declared.Pair.{Pair}
use Rattle.rules.specs.Modelled.{slot_count}
use Rattle.rules.specs.Fresh.{absent_slot}
use Rattle.rules.specs.Bus.{memory_next}
use Rattle.rules.specs.Runs.{Bench, taken}
use Rattle.runs.specs.Exchanges.{went, Inside, again, byte, read, Item, exchange, inside_act, up_to_stop, item_acts, flatten, controls, addressed, struck, strike, own, own_told, chunks}
use Rattle.runs.proofs.TwoClerks.Alone.{slots_of, slot-went}
use Rattle.runs.proofs.TwoClerks.Classes.{addressed-struck, addressed-below, struck-not-own}
use Rattle.runs.proofs.TwoClerks.Struck.{Idles, item_slot, idle-item}
use Rattle.runs.proofs.TwoClerks.Apart.{number-went, Agree, EndAlike, apart}
use Rattle.runs.proofs.TwoClerks.Demand3.{slot, begun, setup-number, setup-idle}
use Rattle.runs.proofs.TwoClerks.Joined.{does, says, went-first, went-items, chunks-joined}

-- of two neighbours one is struck out for slot k: what is left does not tell their order
swap-struck : (k : ℕ) (i j : Item) (ys : List Item) → (struck k i ≡ true) ⊎ (struck k j ≡ true) → strike k (i ∷ j ∷ ys) ≡ strike k (j ∷ i ∷ ys)
unfolding strike
swap-struck k i j ys (inl e) = rw e
swap-struck k i j ys (inr e) = rw e

swap-within : (k : ℕ) (xs : List Item) (i j : Item) (ys : List Item) → (struck k i ≡ true) ⊎ (struck k j ≡ true)
    → strike k (xs ++ i ∷ j ∷ ys) ≡ strike k (xs ++ j ∷ i ∷ ys)
unfolding strike
swap-within k [] i j ys e = swap-struck k i j ys e
swap-within k (x ∷ xs) i j ys e = ap (λ zs. cond (struck k x) zs (x ∷ zs)) (swap-within k xs i j ys e)

-- exchanges to two slots: for each slot one of the two is struck out
one-struck : (t u : ℕ) (xs ys : List Inside) → (t ≡ u → ⊥) → addressed t (controls true xs) ≡ true → addressed u (controls true ys) ≡ true
    → (k : ℕ) → (struck k (exchange xs) ≡ true) ⊎ (struck k (exchange ys) ≡ true)
one-struck t u xs ys ne p q k =
    by-test (eqb t k)
    (λ e. inr (addressed-struck u k ys (λ f. ne (eqb-true t k e ∙ sym f)) q))
    (λ e. inl (addressed-struck t k xs (eqb-false t k e) p))

-- a bench of eight slots, all idle: so it is after setup, and between the items of a run
pub record AtRest (x : Bench) : Type 0 where
  pub full : length (slots_of x) ≡ slot_count
  pub idle : (k : ℕ) → k < slot_count → Idles (slot k x)

pub setup-rest : (ps : List Pair) (m : List ℕ) → length ps ≡ slot_count → AtRest (begun ps m)
setup-rest ps m l = record { full = setup-number ps m l; idle = λ k h. setup-idle k ps m l h }

rest-item : (i : Item) (x : Bench) → AtRest x → AtRest (does i x)
unfolding item_slot
rest-item i x z = record {
  full = number-went (item_acts i []) x ∙ z.full;
  idle = λ k h. rw (slot-went absent_slot k (item_acts i []) x (rw z.full h)) (idle-item k i (slot k x) (z.idle k h));
}

pub rest-items : (is : List Item) (x : Bench) → AtRest x → AtRest (went (flatten is) x)
rest-items [] x z = unfold flatten went in z
rest-items (i ∷ is) x z = rw (went-first i is x) (rest-items is (does i x) (rest-item i x z))

-- no exchange reaches the memory
memory-stop : (xs : List Inside) (x : Bench) → (went (up_to_stop xs []) x).memory ≡ x.memory
unfolding went up_to_stop inside_act taken memory_next
memory-stop [] x = refl
memory-stop (again ∷ xs) x = memory-stop xs _
memory-stop (byte b ∷ xs) x = memory-stop xs _
memory-stop (read m ∷ xs) x = memory-stop xs _

memory-exchange : (xs : List Inside) (x : Bench) → (does (exchange xs) x).memory ≡ x.memory
unfolding went item_acts taken memory_next
memory-exchange xs x = memory-stop xs (taken Start x)

agree : (k : ℕ) → k < slot_count → (x : Bench) → AtRest x → Agree absent_slot k x x
agree k h x z = record { in-first = rw z.full h; in-second = rw z.full h; idle = z.idle k h; slot = refl; bytes = refl }

-- the exchange b, addressed to slot u, is answered after the exchange a, which is struck out for u, as without it
own-last : (u : ℕ) (j : Item) (x : Bench) → own u j ≡ true → own_told u (j ∷ []) x ≡ says j x ∷ []
unfolding own_told
own-last u j x e = rw e

own-after : (u : ℕ) (i j : Item) (x : Bench) → own u i ≡ false → own_told u (i ∷ j ∷ []) x ≡ own_told u (j ∷ []) (does i x)
unfolding own_told
own-after u i j x e = rw e

unmoved : (u : ℕ) (a b : List Inside) → struck u (exchange a) ≡ true → addressed u (controls true b) ≡ true → (x : Bench) → AtRest x
    → says (exchange b) (does (exchange a) x) ≡ says (exchange b) x
unfolding strike own
unmoved u a b s g x z =
    let n : EndAlike absent_slot u x x (exchange a ∷ exchange b ∷ []) (exchange b ∷ [])
    = apart absent_slot u x x _ _ (agree u (addressed-below u _ g) x z) (rw s) in
    let one : own_told u (exchange a ∷ exchange b ∷ []) x ≡ own_told u (exchange b ∷ []) (does (exchange a) x) = own-after u (exchange a) (exchange b) x (struck-not-own u (exchange a) s) in
    let f : own_told u (exchange b ∷ []) (does (exchange a) x) ≡ says (exchange b) (does (exchange a) x) ∷ [] = own-last u (exchange b) (does (exchange a) x) g in
    let h : own_told u (exchange b ∷ []) x ≡ says (exchange b) x ∷ [] = own-last u (exchange b) x g in
    let e : says (exchange b) (does (exchange a) x) ∷ [] ≡ says (exchange b) x ∷ [] = sym f ∙ sym one ∙ n.answers ∙ h in
    cc

-- two exchanges to two slots, at a bench at rest
module _ (t u : ℕ) (a b : List Inside) (ne : t ≡ u → ⊥) (f : addressed t (controls true a) ≡ true) (g : addressed u (controls true b) ≡ true) where
  -- each is answered after the other as without it
  pub second-unmoved : (x : Bench) → AtRest x → says (exchange b) (does (exchange a) x) ≡ says (exchange b) x
  second-unmoved x z = unmoved u a b (addressed-struck t u a ne f) g x z

  pub first-unmoved : (x : Bench) → AtRest x → says (exchange a) (does (exchange b) x) ≡ says (exchange a) x
  first-unmoved x z = unmoved t b a (addressed-struck u t b (λ e. ne (sym e)) g) f x z

  -- and the bench after both is the same in either order
  two-slots : (x : Bench) → AtRest x → slots_of (does (exchange b) (does (exchange a) x)) ≡ slots_of (does (exchange a) (does (exchange b) x))
  two-slots x z =
      let l : length (slots_of (does (exchange b) (does (exchange a) x))) ≡ slot_count = (rest-item (exchange b) _ (rest-item (exchange a) x z)).full in
      let m : length (slots_of (does (exchange a) (does (exchange b) x))) ≡ slot_count = (rest-item (exchange a) _ (rest-item (exchange b) x z)).full in
      ext_get_or absent_slot _ _ (l ∙ sym m) (λ k h. each k (rw l at h))
    where
      written : (i j : Item) → went (flatten (i ∷ j ∷ [])) x ≡ does j (does i x)
      written i j = went-first i (j ∷ []) x ∙ went-first j [] (does i x) ∙ unfold flatten went in refl

      each : (k : ℕ) → k < slot_count → slot k (does (exchange b) (does (exchange a) x)) ≡ slot k (does (exchange a) (does (exchange b) x))
      each k h =
          let n : EndAlike absent_slot k x x (exchange a ∷ exchange b ∷ []) (exchange b ∷ exchange a ∷ [])
          = apart absent_slot k x x _ _ (agree k h x z) (swap-struck k (exchange a) (exchange b) [] (one-struck t u a b ne f g k)) in
          ap (slot k) (sym (written (exchange a) (exchange b))) ∙ n.slot ∙ ap (slot k) (written (exchange b) (exchange a))

  pub two-benches : (x : Bench) → AtRest x → does (exchange b) (does (exchange a) x) ≡ does (exchange a) (does (exchange b) x)
  two-benches x z =
      let s : slots_of (does (exchange b) (does (exchange a) x)) ≡ slots_of (does (exchange a) (does (exchange b) x)) = two-slots x z in
      let m : (does (exchange b) (does (exchange a) x)).memory ≡ (does (exchange a) (does (exchange b) x)).memory
      = memory-exchange b _ ∙ memory-exchange a x ∙ sym (memory-exchange a _ ∙ memory-exchange b x) in
      λ i. record { bus = record { slots = s i }; memory = m i }

-- A run made of the items before, a, b and later, and the same with a and b the other way round:
-- the whole bench after them; and the answers, item by item (one list for each item, in the run's order).
pub record Swapped (x : Bench) (before : List Item) (a b : Item) (later : List Item) : Type 0 where
  pub bench : went (flatten (before ++ b ∷ a ∷ later)) x ≡ went (flatten (before ++ a ∷ b ∷ later)) x
  -- the lists of the items before and of those after the two, and those of a and of b
  pub early : List (List Answer)
  pub first : List Answer
  pub second : List Answer
  pub late : List (List Answer)
  pub placed : length early ≡ length before
  pub in_order : chunks (before ++ a ∷ b ∷ later) x ≡ early ++ first ∷ second ∷ late
  pub swapped : chunks (before ++ b ∷ a ∷ later) x ≡ early ++ second ∷ first ∷ late
  -- so every slot's own exchanges got the same answers
  pub own : (k : ℕ) → k < slot_count → own_told k (before ++ b ∷ a ∷ later) x ≡ own_told k (before ++ a ∷ b ∷ later) x

length-chunks : (is : List Item) (x : Bench) → length (chunks is x) ≡ length is
unfolding chunks
length-chunks [] x = refl
length-chunks (i ∷ is) x = ap suc (length-chunks is (does i x))

chunks-two : (i j : Item) (later : List Item) (x : Bench) → chunks (i ∷ j ∷ later) x ≡ says i x ∷ says j (does i x) ∷ chunks later (does j (does i x))
unfolding chunks
chunks-two i j later x = refl

-- two neighbouring exchanges addressed to different slots, in any run of items from any bench at rest
pub swap-items : (x : Bench) → AtRest x → (t u : ℕ) (a b : List Inside) → (t ≡ u → ⊥)
    → addressed t (controls true a) ≡ true → addressed u (controls true b) ≡ true
    → (before later : List Item) → Swapped x before (exchange a) (exchange b) later
swap-items x z t u a b ne f g before later =
    let y : Bench = went (flatten before) x in
    let rests : AtRest y = rest-items before x z in
    let same : does (exchange b) (does (exchange a) y) ≡ does (exchange a) (does (exchange b) y) = two-benches t u a b ne f g y rests in
    record {
      bench = went-items before (exchange b ∷ exchange a ∷ later) x ∙ went-first (exchange b) (exchange a ∷ later) y ∙ went-first (exchange a) later _ ∙ ap (went (flatten later)) (sym same)
          ∙ sym (went-items before (exchange a ∷ exchange b ∷ later) x ∙ went-first (exchange a) (exchange b ∷ later) y ∙ went-first (exchange b) later _);
      early = chunks before x;
      first = says (exchange a) y;
      second = says (exchange b) y;
      late = chunks later (does (exchange b) (does (exchange a) y));
      placed = length-chunks before x;
      in_order = chunks-joined before _ x ∙ ap (λ cs. chunks before x ++ cs) (chunks-two (exchange a) (exchange b) later y ∙ ap (λ c. says (exchange a) y ∷ c ∷ chunks later (does (exchange b) (does (exchange a) y))) (second-unmoved t u a b ne f g y rests));
      swapped = chunks-joined before _ x ∙ ap (λ cs. chunks before x ++ cs) (chunks-two (exchange b) (exchange a) later y ∙ ap₂ (λ c v. says (exchange b) y ∷ c ∷ chunks later v) (first-unmoved t u a b ne f g y rests) (sym same));
      own = λ k h.
          (apart absent_slot k x x _ _ (agree k h x z) (sym (swap-within k before (exchange a) (exchange b) later (one-struck t u a b ne f g k)))).answers;
    }
