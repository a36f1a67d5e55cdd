-- Two neighbouring exchanges to different slots change places in a run of raw events, refused ones anywhere: the two stretches of events change
-- places, and the new run is made of the same items the other way round; the whole bench after it is the same, and every event, a refused one too,
-- got the answer that it got before.
-- Assumes nothing.
use Prim.Native.Nat.{ℕ}
use mathlib.Core.Path.{◌≡◌, sym, ◌∙◌, ap, ap₂}
use mathlib.Core.Bool.{true}
use mathlib.Core.List.{List, [], ◌∷◌, ◌++◌, append_assoc}
use mathlib.Core.Option.{some}
use lib.ListN.{length}
use Rattle.rules.specs.declared.Answer.{Answer}
use Rattle.rules.specs.declared.Event.{Event}
use Rattle.rules.specs.declared.Pair.{Pair}
use Rattle.rules.specs.Modelled.{slot_count, memory_bytes}
use Rattle.rules.specs.Refusals.{kinds_of}
use Rattle.rules.specs.Runs.{Bench, after, answers}
use Rattle.runs.specs.Exchanges.{went, told, Inside, Item, exchange, controls, addressed, kept_answers, concat}
use Rattle.rules.proofs.Range.Kept.{after-in-range}
use Rattle.rules.proofs.Memory.Stored.{memory-length-after}
use Rattle.rules.proofs.Memory.Protection.{kinds-after}
use Rattle.runs.proofs.TwoClerks.Parse.{flatten-items}
use Rattle.runs.proofs.TwoClerks.RunAnswers.{woven, all-answers, run-answers}
use Rattle.runs.proofs.TwoClerks.Demand3.{Ready, Parts, after_items, begun, setup-ready}
use Rattle.runs.proofs.TwoClerks.Joined.{does, says, one-item, after-joined, answers-joined, parts-joined, Halves, halves}
use Rattle.runs.proofs.TwoClerks.Swap.{AtRest, setup-rest, rest-items, first-unmoved, second-unmoved, two-benches, Swapped, swap-items}

-- after any run of raw events a bench is still in range, and the same events are refused
ready-after : (r : List Event) (x : Bench) → Ready x → Ready (after r x)
ready-after r x z = record { sized = memory-length-after r x ∙ z.sized; ranged = after-in-range r x z.ranged }

parts-after : (q r : List Event) (x : Bench) (is : List Item) → Parts x r is → Parts (after q x) r is
parts-after q r x is p = rw (kinds-after q x) p

-- a stretch that is one item does what the item does, and its answers are the item's, with the refusals among them
one-after : (r : List Event) (x : Bench) (i : Item) → Ready x → Parts x r (i ∷ []) → after r x ≡ does i x
one-after r x i z p = after_items x r (i ∷ []) z p ∙ ap (λ acts. went acts x) (one-item i)

one-answers : (r : List Event) (x : Bench) (i : Item) → Ready x → Parts x r (i ∷ []) → answers r x ≡ woven (kinds_of x.bus) r (says i x)
one-answers r x i z p =
    all-answers r x z.sized z.ranged ∙ ap (λ acts. woven (kinds_of x.bus) r (told acts x)) (sym (flatten-items _ (i ∷ []) p) ∙ one-item i)

-- so a stretch is answered after another as without it, where its item is
unmoved-answers : (r q : List Event) (x : Bench) (i j : Item) → Ready x → Parts x r (i ∷ []) → Parts x q (j ∷ []) → says i (does j x) ≡ says i x
    → answers r (after q x) ≡ answers r x
unmoved-answers r q x i j z p o e =
    one-answers r (after q x) i (ready-after q x z) (parts-after q r x (i ∷ []) p)
    ∙ ap₂ (λ kinds (y : Bench). woven kinds r (says i y)) (kinds-after q x) (one-after q x j z o)
    ∙ ap (woven (kinds_of x.bus) r) e
    ∙ sym (one-answers r x i z p)

-- four stretches that parse, joined, two of them being one item each
four-parts : (x : Bench) (before later : List Item) {i j : Item} (v w r q : List Event) → Parts x v before → Parts x w (i ∷ []) → Parts x r (j ∷ []) → Parts x q later
    → Parts x (v ++ w ++ r ++ q) (before ++ i ∷ j ∷ later)
four-parts x before later {i} {j} v w r q pv pw pr pq =
    let p : Parts x (v ++ w ++ r ++ q) (before ++ (i ∷ []) ++ (j ∷ []) ++ later)
    = parts-joined x _ q _ later (parts-joined x _ r _ (j ∷ []) (parts-joined x v w before (i ∷ []) pv pw) pr) pq in
    p ∙ ap some (simp append_assoc)

-- A run of the stretches e, f, s and l, in which f is the exchange a and s the exchange b, and the run with f and s the other way round.
pub record Moved (x : Bench) (e f s l : List Event) (before : List Item) (a b : Item) (later : List Item) : Type 0 where
  -- both are made of whole exchanges and of events between them: the same, but for the places of the two
  pub parts : Parts x (e ++ f ++ s ++ l) (before ++ a ∷ b ∷ later)
  pub parts-swapped : Parts x (e ++ s ++ f ++ l) (before ++ b ∷ a ∷ later)
  -- the whole bench after them: every slot, and every byte of the memory
  pub bench : after (e ++ s ++ f ++ l) x ≡ after (e ++ f ++ s ++ l) x
  -- all answers, event by event: those of the four stretches, and the same with those of f and s the other way round
  pub shows : answers (e ++ f ++ s ++ l) x ≡ answers e x ++ answers f (after e x) ++ answers s (after e x) ++ answers l (after (e ++ f ++ s) x)
  pub shows-swapped : answers (e ++ s ++ f ++ l) x ≡ answers e x ++ answers s (after e x) ++ answers f (after e x) ++ answers l (after (e ++ f ++ s) x)

-- A run r made of the items before, a, b and later has stretches e, f, s and l for which all that is so.
pub record Movable (x : Bench) (r : List Event) (before : List Item) (a b : Item) (later : List Item) : Type 0 where
  pub early : List Event
  pub first : List Event
  pub second : List Event
  pub late : List Event
  pub whole : early ++ first ++ second ++ late ≡ r
  pub moved : Moved x early first second late before a b later

-- Two runs r and q of raw events that need have no event in common, made of the same items, but for the places of a and b: the whole bench, the
-- answers item by item, and the answers of the two runs, refused events left out.
pub record SwappedRuns (x : Bench) (r q : List Event) (before : List Item) (a b : Item) (later : List Item) : Type 0 where
  pub bench : after q x ≡ after r x
  pub items : Swapped x before a b later
  pub shows : kept_answers (kinds_of x.bus) r x ≡ concat (items.early ++ items.first ∷ items.second ∷ items.late)
  pub shows-swapped : kept_answers (kinds_of x.bus) q x ≡ concat (items.early ++ items.second ∷ items.first ∷ items.late)

-- from a bench in range and at rest, with a addressed to slot t and b to another slot u
module _
    (x : Bench)
    (ready : Ready x)
    (rest : AtRest x)
    (t u : ℕ)
    (a b : List Inside)
    (ne : t ≡ u → ⊥)
    (to-t : addressed t (controls true a) ≡ true)
    (to-u : addressed u (controls true b) ≡ true)
    (before later : List Item)
  where
    -- two runs of raw events that parse so, each with refused events of its own
    pub swap : (r q : List Event) → Parts x r (before ++ exchange a ∷ exchange b ∷ later) → Parts x q (before ++ exchange b ∷ exchange a ∷ later)
        → SwappedRuns x r q before (exchange a) (exchange b) later
    swap r q p o =
        let n : Swapped x before (exchange a) (exchange b) later = swap-items x rest t u a b ne to-t to-u before later in
        record {
          bench = after_items x q _ ready o ∙ n.bench ∙ sym (after_items x r _ ready p);
          items = n;
          shows = run-answers r x ready.sized ready.ranged _ p ∙ ap concat n.in_order;
          shows-swapped = run-answers q x ready.sized ready.ranged _ o ∙ ap concat n.swapped;
        }

    -- the stretches of a run of raw events change places
    pub swap-stretches : (e f s l : List Event) → Parts x e before → Parts x f (exchange a ∷ []) → Parts x s (exchange b ∷ []) → Parts x l later
        → Moved x e f s l before (exchange a) (exchange b) later
    swap-stretches e f s l pe pf ps pl =
        let y : Bench = after e x in
        let z : Ready y = ready-after e x ready in
        let rests : AtRest y = rw (after_items x e before ready pe) (rest-items before x rest) in
        let qf : Parts y f (exchange a ∷ []) = parts-after e f x _ pf in
        let qs : Parts y s (exchange b ∷ []) = parts-after e s x _ ps in
        let fs : after s (after f y) ≡ does (exchange b) (does (exchange a) y)
        = one-after s (after f y) (exchange b) (ready-after f y z) (parts-after f s y _ qs) ∙ ap (does (exchange b)) (one-after f y (exchange a) z qf) in
        let sf : after f (after s y) ≡ does (exchange a) (does (exchange b) y)
        = one-after f (after s y) (exchange a) (ready-after s y z) (parts-after s f y _ qf) ∙ ap (does (exchange a)) (one-after s y (exchange b) z qs) in
        let same : after f (after s y) ≡ after s (after f y) = sf ∙ sym (two-benches t u a b ne to-t to-u y rests) ∙ sym fs in
        let first : answers f (after s y) ≡ answers f y = unmoved-answers f s y (exchange a) (exchange b) z qf qs (first-unmoved t u a b ne to-t to-u y rests) in
        let second : answers s (after f y) ≡ answers s y = unmoved-answers s f y (exchange b) (exchange a) z qs qf (second-unmoved t u a b ne to-t to-u y rests) in
        let three : (v w : List Event) → after (e ++ v ++ w) x ≡ after w (after v y) = λ v w. after-joined (e ++ v) w x ∙ ap (after w) (after-joined e v x) in
        let four : (v w : List Event) → after (e ++ v ++ w ++ l) x ≡ after l (after w (after v y)) = λ v w. after-joined (e ++ v ++ w) l x ∙ ap (after l) (three v w) in
        let shown : (v w : List Event) → answers (e ++ v ++ w ++ l) x ≡ answers e x ++ answers v y ++ answers w (after v y) ++ answers l (after w (after v y))
        = λ v w.
        answers-joined (e ++ v ++ w) l x
        ∙ ap₂ (λ (c : List Answer) (k : Bench). c ++ answers l k)
        (answers-joined (e ++ v) w x ∙ ap₂ (λ (c : List Answer) (k : Bench). c ++ answers w k) (answers-joined e v x) (after-joined e v x)) (three v w) in
        record {
          parts = four-parts x before later e f s l pe pf ps pl;
          parts-swapped = four-parts x before later e s f l pe ps pf pl;
          bench = four s f ∙ ap (after l) same ∙ sym (four f s);
          shows = shown f s ∙ ap₂ (λ (c : List Answer) (k : Bench). answers e x ++ answers f y ++ c ++ answers l k) second (sym (three f s));
          shows-swapped = shown s f ∙ ap₂ (λ (c : List Answer) (k : Bench). answers e x ++ answers s y ++ c ++ answers l k) first (same ∙ sym (three f s));
        }

    -- every run that parses so has such stretches
    pub swap-run : (r : List Event) → Parts x r (before ++ exchange a ∷ exchange b ∷ later) → Movable x r before (exchange a) (exchange b) later
    swap-run r p =
        let c : Halves x r before (exchange a ∷ exchange b ∷ later) = halves x r before (exchange a ∷ exchange b ∷ later) p in
        let d : Halves x c.right (exchange a ∷ []) (exchange b ∷ later) = halves x c.right (exchange a ∷ []) (exchange b ∷ later) c.rights in
        let g : Halves x d.right (exchange b ∷ []) later = halves x d.right (exchange b ∷ []) later d.rights in
        record {
          early = c.left;
          first = d.left;
          second = g.left;
          late = g.right;
          whole =
              simp append_assoc (ap (λ v. c.left ++ (d.left ++ v)) g.whole ∙ ap (λ v. c.left ++ v) d.whole ∙ c.whole);
          moved = swap-stretches c.left d.left g.left g.right c.lefts d.lefts g.lefts g.rights;
        }

-- the same from setup, of eight pairs, good or refused, with 4,096 bytes: of four stretches, and of any run that parses so
module _
    (ps : List Pair)
    (m : List ℕ)
    (eight : length ps ≡ slot_count)
    (sized : length m ≡ memory_bytes)
    (t u : ℕ)
    (a b : List Inside)
    (ne : t ≡ u → ⊥)
    (to-t : addressed t (controls true a) ≡ true)
    (to-u : addressed u (controls true b) ≡ true)
    (before later : List Item)
  where
    pub swap-from-setup : (e f s l : List Event)
        → Parts (begun ps m) e before → Parts (begun ps m) f (exchange a ∷ []) → Parts (begun ps m) s (exchange b ∷ []) → Parts (begun ps m) l later
        → Moved (begun ps m) e f s l before (exchange a) (exchange b) later
    swap-from-setup = swap-stretches (begun ps m) (setup-ready ps m sized) (setup-rest ps m eight) t u a b ne to-t to-u before later

    pub swap-run-from-setup : (r : List Event) → Parts (begun ps m) r (before ++ exchange a ∷ exchange b ∷ later)
        → Movable (begun ps m) r before (exchange a) (exchange b) later
    swap-run-from-setup = swap-run (begun ps m) (setup-ready ps m sized) (setup-rest ps m eight) t u a b ne to-t to-u before later
