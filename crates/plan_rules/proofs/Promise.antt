-- Request P1, put together: what the planner gives for every input, row by row; and what whoever runs the records that it gives has.
-- Assumes nothing.
use Rattle.std.proofs.Common.{Result, Ok, Err}
use Prim.Native.Nat.{ℕ, ◌+◌, ◌*◌, ◌<◌, ◌≤◌}
use native.Mathlib.Omega.{arith}
use mathlib.Core.Path.{◌≡◌, refl, sym, ◌∙◌, ap, ap₂}
use mathlib.Core.Bool.{true, false, not}
use mathlib.Core.List.{List}
use lib.ListN.{length, drop}
use borrow.Author.Tests.{eq-eqb, not-true, not-false}
use Rattle.proof_lists.specs.Tests.{cond_cases}
use Rattle.rules.specs.declared.Bus.{Bus}
use Rattle.rules.specs.declared.Event.{Event}
use Rattle.rules.specs.declared.Refusal.{Refusal}
use Rattle.rules.specs.declared.Slot.{Slot}
use Rattle.rules.specs.declared.SlotNo.{SlotNo}
use Rattle.rules.specs.Modelled.{slot_count}
use Rattle.rules.specs.Events.{refusal_number}
use Rattle.rules.specs.Refusals.{wrong_length, in_range}
use Rattle.rules.specs.Runs.{Bench}
use Rattle.rules.proofs.Memory.Protection.{kinds-after}
use Rattle.rules.proofs.Memory.Stored.{memory-length-after}
use Rattle.rules.proofs.Range.Kept.{after-in-range}
use Rattle.rules.proofs.Range.Judged.{refusal_of, numbered}
use Rattle.plan_rules.specs.Records.{laid, events_in}
use Rattle.plan_rules.specs.Plan.{five_ticks, settled, slot_at, bytes_at, page_count, buffer_bytes, wrong_lengths, no_such_slot, forbidden, plan_events, planned, plan_of, plan_number, plan_value}
use Rattle.plan_rules.specs.Effect.{Typed, differing, selections_before}
use Rattle.plan_rules.proofs.Given.{right-lengths, slot-below, slot-there, slot-present, slot-newer}
use Rattle.plan_rules.proofs.Carried.{Asked}
use Rattle.plan_rules.proofs.Right.{done, Right, NoMore, is_right, does-no-more}
use Rattle.plan_rules.proofs.Neighbours.{Spared, spares}
use Rattle.plan_rules.proofs.Count.{plan-counted, plan-most}
use Rattle.plan_rules.proofs.Again.{Again, planned-again}
use Rattle.plan_rules.proofs.Back.{laid-behind, laid-length, read_back, plan-plain}

module _ (b : Bus) (m : List ℕ) (k : SlotNo) (image buffer : List ℕ) where
  abbrev pub bench : Bench
  bench = record { bus = b; memory = m }

  abbrev pub plan : List Event
  plan = plan_events k.0 bench image

  -- "Order 1, 6, 3, 7; a refusal leaves the buffer unchanged": each row by its number, with those before it in the order not met
  pub data Verdict : Result ℕ Refusal × List ℕ → Type 0 where
    row-1 : {r : Refusal} → refusal_number r ≡ 1 → wrong_lengths m image buffer ≡ true → Verdict (Err r, buffer)
    row-6 : {r : Refusal} → refusal_number r ≡ 6 → wrong_lengths m image buffer ≡ false → in_range b ≡ false → Verdict (Err r, buffer)
    row-3 : {r : Refusal} → refusal_number r ≡ 3 → wrong_lengths m image buffer ≡ false → in_range b ≡ true → no_such_slot k b ≡ true → Verdict (Err r, buffer)
    row-7 : {r : Refusal} → refusal_number r ≡ 7
        → wrong_lengths m image buffer ≡ false → in_range b ≡ true → no_such_slot k b ≡ false → forbidden k.0 bench image ≡ true → Verdict (Err r, buffer)
    no_row : wrong_lengths m image buffer ≡ false → in_range b ≡ true → no_such_slot k b ≡ false → forbidden k.0 bench image ≡ false
        → Verdict (Ok (length plan), laid plan buffer)

  pub judged : Verdict (plan_of b m k image buffer)
  unfolding plan_of planned refusal_number
  judged =
      cond_cases Verdict (wrong_lengths m image buffer) (λ h. row-1 refl h) λ h.
      cond_cases Verdict (not (in_range b)) (λ i. row-6 refl h (not-true (in_range b) i)) λ i.
      cond_cases Verdict (no_such_slot k b) (λ j. row-3 refl h (not-false (in_range b) i) j) λ j.
      cond_cases Verdict (forbidden k.0 bench image) (λ f. row-7 refl h (not-false (in_range b) i) j f) (λ f. no_row h (not-false (in_range b) i) j f)

  -- and no other result meets a row
  abbrev refusing : Refusal → Result ℕ Refusal × List ℕ
  refusing r = (Err r, buffer)

  by_number : (r : Refusal) (n : ℕ) → refusal_number r ≡ n → refusing r ≡ refusing (refusal_of n)
  by_number r n e = ap refusing (sym (numbered r) ∙ ap refusal_of e)

  pub only-verdict : (v : Result ℕ Refusal × List ℕ) → Verdict v → v ≡ plan_of b m k image buffer
  unfolding plan_of planned
  only-verdict v (row-1 {r} n h) = by_number r 1 n ∙ rw h
  only-verdict v (row-6 {r} n h i) = by_number r 6 n ∙ rw (h, i)
  only-verdict v (row-3 {r} n h i j) = by_number r 3 n ∙ rw (h, i, j)
  only-verdict v (row-7 {r} n h i j f) = by_number r 7 n ∙ rw (h, i, j, f)
  only-verdict v (no_row h i j f) = rw (h, i, j, f)

  -- "At most 811 records", whatever is handed in
  pub at_most : plan_value (plan_of b m k image buffer).0 ≤ 811
  at_most = few (plan_of b m k image buffer) judged
    where
      few : (v : Result ℕ Refusal × List ℕ) → Verdict v → plan_value v.0 ≤ 811
      few v (row-1 q h) = unfold plan_value in omega arith
      few v (row-6 q h i) = unfold plan_value in omega arith
      few v (row-3 q h i j) = unfold plan_value in omega arith
      few v (row-7 q h i j f) = unfold plan_value in omega arith
      few v (no_row h i j f) =
          let sizes = right-lengths m image buffer h in
          unfold plan_value in plan-most k.0 bench image sizes.0 i (slot-there k b j) sizes.1

  -- the slot as the five ticks leave it, and its bytes
  abbrev pub now : Slot
  now = slot_at k.0 (settled bench)

  abbrev pub old : List ℕ
  old = bytes_at k.0 (settled bench)

  -- "write script records into a lent buffer [..] so that running them leaves exactly the image in that slot. [..] At most 811 records, their number returned, the
  -- buffer past them unchanged": what holds of a number n that the planner gives, and of the buffer after it. The number is that of five ticks; of a page's
  -- exchange "followed by the slot's own count of ticks", for each page that differs; and of a half's, for each that is selected.
  pub record Promised (n : ℕ) (after' : List ℕ) : Type 0 where
    pub asked : Asked k.0 bench image
    pub number : n ≡ length plan
    pub counted : length plan ≡ 5 + (20 + (slot_at k.0 bench).length) * length (differing old image page_count) + 3 * selections_before old image now page_count
    pub most : n ≤ 811
    pub records : events_in after' n ≡ plan
    pub behind : drop (4 * n) after' ≡ drop (4 * n) buffer
    pub sized : length after' ≡ length buffer
    pub right : Right k.0 bench image
    pub no_more : NoMore k.0 bench image
    pub again : Again k.0 bench image
    pub spared : (i : ℕ) → i < slot_count → Spared k.0 bench image i

  -- the row that a number of records comes from
  refused : (r : Refusal) {c : ℕ} → refusal_number r ≡ c → 0 < c → refusal_number r ≡ 0 → ⊥
  refused r q l z = omega arith

  given-records : (n : ℕ) (v : Result ℕ Refusal × List ℕ) → Verdict v → v.0 ≡ Ok n
      → (wrong_lengths m image buffer ≡ false) × (in_range b ≡ true) × (no_such_slot k b ≡ false) × (forbidden k.0 bench image ≡ false) × (n ≡ length plan) × (v.1 ≡ laid plan buffer)
  unfolding plan_number plan_value
  given-records n v (row-1 {r} q h) e = absurd (refused r q (omega arith) (ap plan_number e))
  given-records n v (row-6 {r} q h i) e = absurd (refused r q (omega arith) (ap plan_number e))
  given-records n v (row-3 {r} q h i j) e = absurd (refused r q (omega arith) (ap plan_number e))
  given-records n v (row-7 {r} q h i j f) e = absurd (refused r q (omega arith) (ap plan_number e))
  given-records n v (no_row h i j f) e = (h, i, j, f, sym (ap plan_value e), refl)

  pub promised : (n : ℕ) → Typed b k image → (plan_of b m k image buffer).0 ≡ Ok n → Promised n (plan_of b m k image buffer).1
  promised n typed e =
      let g = given-records n (plan_of b m k image buffer) judged e in
      let sizes = right-lengths m image buffer g.0 in
      let below = slot-below k b g.2 in
      let present = slot-present k b g.2 m in
      let asked : Asked k.0 bench image = record {
        long = sizes.0;
        ranged = g.1;
        number = typed.slot.slots;
        below = below;
        present = present;
        newer = slot-newer k b g.2 m;
        arrays = unfold slot_at in (typed.slot.latch, typed.slot.marks);
        wanted = sizes.1;
        bytes = typed.bytes;
        allowed = g.3;
      } in
      let few : length plan ≤ 811 = plan-most k.0 bench image sizes.0 g.1 (slot-there k b g.2) sizes.1 in
      record {
        asked = asked;
        number = g.4;
        counted = plan-counted k.0 bench image sizes.0 g.1 (slot-there k b g.2) sizes.1;
        most = let n≡ = g.4 in omega arith;
        records = ap₂ events_in g.5 g.4 ∙ read_back plan buffer (unfold plan_events in plan-plain _ image _ k.0 below typed.bytes) (let s = sizes.2 in omega arith);
        behind = rw (g.4, g.5) (laid-behind plan buffer);
        sized = rw g.5 (laid-length plan buffer);
        right = is_right k.0 bench image asked;
        no_more = does-no-more k.0 bench image asked;
        again = planned-again k.0 bench image asked;
        spared = spares k.0 bench image asked;
      }

  -- asked again after the run, with any buffer, the planner gives the five ticks
  module _ (n : ℕ) (typed : Typed b k image) (e : (plan_of b m k image buffer).0 ≡ Ok n) where
    abbrev then : Bench
    then = done k.0 bench image

    then-long : (other : List ℕ) → length other ≡ buffer_bytes → wrong_lengths then.memory image other ≡ false
    unfolding wrong_lengths wrong_length
    then-long other l =
        let a = (promised n typed e).asked in
        rw (eq-eqb _ _ (memory-length-after plan bench ∙ a.long), eq-eqb _ _ a.wanted, eq-eqb _ _ l)

    then-there : no_such_slot k then.bus ≡ false
    unfolding no_such_slot
    then-there = rw (kinds-after plan bench) (given-records n (plan_of b m k image buffer) judged e).2

    pub given-again : (other : List ℕ) → length other ≡ buffer_bytes → plan_of then.bus then.memory k image other ≡ planned five_ticks other
    unfolding plan_of
    given-again other l =
        let p = promised n typed e in
        rw (then-long other l, after-in-range plan bench p.asked.ranged, then-there, p.again.free, p.again.five)
