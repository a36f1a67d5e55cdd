-- What holds of a list in one call.
-- Assumes nothing.
use mathlib.Core.Path.{◌≡◌, refl, sym, ◌∙◌, ap, ap₂}
use mathlib.Core.Bool.{false}
use mathlib.Core.List.{List, [], ◌∷◌, ◌++◌, map, append_assoc, append-nil}
use Prim.Native.Nat.{ℕ, suc, ◌+◌, ◌≤◌, zero-le}
use native.Mathlib.Omega.{arith}
use borrow.Author.Tests.{ltb-true, ltb-false}
use lib.Dec.{ltb}
use lib.ListN.{length, take, drop, replicate, drop_of_length-le, length-append, length-drop}
use lib.Seq.{length-take-le, drop-drop, take_at, drop_at}
use Rattle.proof_lists.specs.Tests.{by-test}
use Rattle.rules.specs.declared.Answer.{Answer}
use Rattle.rules.specs.declared.Answer.TheVariants.{Nothing}
use Rattle.rules.specs.declared.Bus.{Bus}
use Rattle.rules.specs.declared.Event.{Event}
use Rattle.rules.specs.declared.Outcome.{Outcome}
use Rattle.rules.specs.declared.Refusal.{Refusal}
use Rattle.rules.specs.declared.Refusal.TheVariants.{MemoryLength, WrongState}
use Rattle.rules.specs.Refusals.{Ruling}
use Rattle.std.specs.Prelude.{Err}
use Rattle.rules.specs.Modelled.{memory_bytes}
use Rattle.rules.specs.Events.{refusal_number, letter_of, value_of}
use Rattle.rules.specs.Refusals.{in_range}
use Rattle.rules.specs.Runs.{Bench, ruling_on, ruled_next, ruled_answer, next, answered, after, answers, event_of, ruled_outcome}
use Rattle.bus_event.proofs.Laws.{ruling-short, ruling-odd}
use Rattle.bus_event.proofs.Onward.{event-bench, event-answer}
use Rattle.runs.proofs.TwoClerks.Joined.{after-joined, answers-joined}
use Rattle.list_entry.specs.Lists.{Left, taken, events_of, called_twice}
use Rattle.list_entry.proofs.Onward.{not-enough, enough}

-- as many answers as events
pub length-answers : (es : List Event) (x : Bench) → length (answers es x) ≡ length es
unfolding answers
length-answers [] x = refl
length-answers (e ∷ es) x = ap suc (length-answers es (next e x))

-- no events are no change
pub none : (b : Bus) (m : List ℕ) (places : List Answer) → events_of b m [] places ≡ (record { bus = b; answer = Nothing }, m, places)
unfolding taken after answers
none b m places = enough b m [] places zero-le

-- ---- "equal to the events given one by one"
-- one event is the event, its answer at the first place
pub single : (b : Bus) (m : List ℕ) (e : Event) (a : Answer) (places : List Answer) (o : Outcome) (n : List ℕ) → event_of b m e ≡ (o, n)
    → events_of b m (e ∷ []) (a ∷ places) ≡ (record { bus = o.bus; answer = Nothing }, n, o.answer ∷ places)
unfolding taken after answers next answered event_of ruled_outcome ruling_on
single b m e a places o n p =
    enough b m (e ∷ []) (a ∷ places) (omega arith)
    ∙ ap₂ (λ (y : Bench) (c : Answer). (record { bus = y.bus; answer = Nothing }, y.memory, c ∷ places)) (sym (event-bench b m e o n p)) (sym (event-answer b m e o n p))

-- ONE CALL ON A LIST IS THE CALLS ON ANY TWO PARTS OF IT, one after the other
module _ (b : Bus) (m : List ℕ) (es fs : List Event) (places : List Answer) (room : length es + length fs ≤ length places) where
  abbrev x : Bench
  x = record { bus = b; memory = m }

  -- what the first call leaves
  abbrev y : Bench
  y = after es x

  abbrev behind : List Answer
  behind = drop (length es) places

  front_length : length (take (length es) places) ≡ length es
  front_length = length-take-le (length es) places (omega (arith, room))

  first : events_of b m es (take (length es) places) ≡ (record { bus = y.bus; answer = Nothing }, y.memory, answers es x)
  unfolding taken
  first =
      enough b m es (take (length es) places) (omega (arith, front_length))
      ∙ ap (λ (ks : List Answer). (record { bus = y.bus; answer = Nothing }, y.memory, ks))
      (ap (λ (ks : List Answer). answers es x ++ ks) (drop_of_length-le (take (length es) places) {i = length es} (omega (arith, front_length))) ∙ append-nil (answers es x))

  second : events_of y.bus y.memory fs behind ≡ taken y fs behind
  second = enough y.bus y.memory fs behind (omega (arith, room, length-drop (length es) places))

  whole : taken x (es ++ fs) places ≡ (record { bus = (after fs y).bus; answer = Nothing }, (after fs y).memory, answers es x ++ (answers fs y ++ drop (length fs) behind))
  unfolding taken
  whole =
      ap₂ (λ (z : Bench) (ks : List Answer). (record { bus = z.bus; answer = Nothing }, z.memory, ks)) (after-joined es fs x)
      (ap₂ (λ (ks ls : List Answer). ks ++ ls) (answers-joined es fs x) (ap (λ (n : ℕ). drop n places) (length-append es fs) ∙ sym (drop-drop (length fs) (length es) places))
      ∙ append_assoc (answers es x) (answers fs y) (drop (length fs) behind))

  pub parts : events_of b m (es ++ fs) places ≡ called_twice b m es fs places
  unfolding taken
  parts =
      enough b m (es ++ fs) places (omega (arith, room, length-append es fs)) ∙ whole
      ∙ sym (ap (λ (z : Left). let w : Left = events_of z.0.bus z.1 fs behind in (w.0, w.1, z.2 ++ w.2)) first ∙ ap (λ (w : Left). (w.0, w.1, answers es x ++ w.2)) second)

-- ---- the answer places, whether the list is taken or not
module _ (b : Bus) (m : List ℕ) (es : List Event) (places : List Answer) where
  abbrev bench : Bench
  bench = record { bus = b; memory = m }

  abbrev left : List Answer
  left = (events_of b m es places).2

  -- THE ANSWERS ARE THOSE OF THE RUN
  pub answers-first : length es ≤ length places → take (length es) left ≡ answers es bench
  unfolding taken
  answers-first l =
      ap (λ (z : Left). take (length es) z.2) (enough b m es places l)
      ∙ take_at (answers es bench) (drop (length es) places) (length es) (length-answers es bench)

  -- "Answer places past the end of the events are unchanged."
  pub past-unchanged : drop (length es) left ≡ drop (length es) places
  unfolding taken
  past-unchanged =
      by-test (ltb (length places) (length es))
      (λ t. ap (λ (z : Left). drop (length es) z.2) (not-enough b m es places (ltb-true (length places) (length es) t)))
      (λ t. ap (λ (z : Left). drop (length es) z.2) (enough b m es places (ltb-false (length places) (length es) t)) ∙ drop_at (answers es bench) (drop (length es) places) (length es) (length-answers es bench))

  -- there are as many places as before
  pub same-places : length left ≡ length places
  unfolding taken
  same-places =
      by-test (ltb (length places) (length es))
      (λ t. ap (λ (z : Left). length z.2) (not-enough b m es places (ltb-true (length places) (length es) t)))
      (λ t.
      let l : length es ≤ length places = ltb-false (length places) (length es) t in
      ap (λ (z : Left). length z.2) (enough b m es places l)
      ∙ length-append (answers es bench) (drop (length es) places)
      ∙ omega (arith, length-answers es bench, length-drop (length es) places))

-- ---- "refused ones included": where every event is refused, for the memory's length or for the state, nothing but the answers is changed
-- an answer by the paper's letter and value
abbrev said : Answer → ℕ × ℕ
said a = (letter_of a, value_of a)

refused_all : (r : Refusal) (x : Bench) → ((e : Event) → ruling_on e x ≡ Err r) → (es : List Event)
    → (after es x ≡ x) × (map said (answers es x) ≡ replicate (length es) (0x52, refusal_number r))
unfolding after answers next answered ruled_next ruled_answer letter_of value_of
refused_all r x all [] = (refl, refl)
refused_all r x all (e ∷ es) =
    let stays : next e x ≡ x = ap (λ (q : Ruling). ruled_next q x) (all e) in
    let rest = refused_all r x all es in
    (ap (after es) stays ∙ rest.0, ap₂ (λ (p : ℕ × ℕ) (ps : List (ℕ × ℕ)). p ∷ ps) (ap (λ (q : Ruling). said (ruled_answer q x)) (all e)) (ap (λ (y : Bench). map said (answers es y)) stays ∙ rest.1))

module _ (b : Bus) (m : List ℕ) (es : List Event) (places : List Answer) (l : length es ≤ length places) where
  abbrev at : Bench
  at = record { bus = b; memory = m }

  -- every event is answered `R` and the number; the call itself is not refused, and all else is as it was
  pub record AllRefused (n : ℕ) : Type 0 where
    pub call : letter_of (events_of b m es places).0.answer ≡ 0x2D
    pub bus : (events_of b m es places).0.bus ≡ b
    pub memory : (events_of b m es places).1 ≡ m
    pub each : map said (take (length es) (events_of b m es places).2) ≡ replicate (length es) (0x52, n)
    pub past : drop (length es) (events_of b m es places).2 ≡ drop (length es) places

  all-refused : (r : Refusal) → ((e : Event) → ruling_on e at ≡ Err r) → AllRefused (refusal_number r)
  unfolding taken letter_of
  all-refused r all =
      let c = refused_all r at all es in
      let e = enough b m es places l in
      record {
        call = ap (λ (z : Left). letter_of z.0.answer) e;
        bus = ap (λ (z : Left). z.0.bus) e ∙ ap (λ (x : Bench). x.bus) c.0;
        memory = ap (λ (z : Left). z.1) e ∙ ap (λ (x : Bench). x.memory) c.0;
        each = ap (map said) (answers-first b m es places l) ∙ c.1;
        past = past-unchanged b m es places;
      }

  pub wrong-memory : (length m ≡ memory_bytes → ⊥) → AllRefused 1
  unfolding ruling_on refusal_number
  wrong-memory h = all-refused MemoryLength (λ e. ruling-short b m e h)

  pub wrong-state : length m ≡ memory_bytes → in_range b ≡ false → AllRefused 6
  unfolding ruling_on in_range refusal_number
  wrong-state h odd = all-refused WrongState (λ e. ruling-odd b m e (in_range b) h refl odd)
