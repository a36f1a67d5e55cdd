-- Laws of reading and comparing, one field and one share more at each turn; and the entry, row by row.
-- Assumes nothing.
use mathlib.Core.Path.{◌≡◌, refl, sym, ◌∙◌, ap, ap₂}
use mathlib.Core.Bool.{Bool, true, false, not, ◌&&◌, and-false}
use mathlib.Core.List.{List, [], ◌∷◌, ◌++◌}
use Prim.Native.Nat.{ℕ, zero, suc, ◌+◌, ◌-◌, ◌*◌, ◌≤◌, ◌<◌}
use native.Mathlib.Nat.{add-zero}
use native.Mathlib.Numerals.{add-one}
use native.Mathlib.Omega.{arith}
use borrow.Author.Tests.{eq-eqb, ne_eqb, not-true, not-false}
use denote.Enum.Bare.{sameb}
use lib.Dec.{eqb}
use lib.ListN.{length, get_or, set, take, drop, replicate, length-take, length-drop, length-replicate}
use lib.Pointwise.{pointwise}
use lib.Seq.{sets, sets-eq, length-sets, take_at, take_all}
use Rattle.proof_lists.specs.Each.{map_to, map_to-step, get_d_any}
use Rattle.std.proofs.lemmas.Bool.{false≢true}
use Rattle.std.proofs.lemmas.List.Folds.{list_all_more}
use Rattle.std.specs.List.{list_all, starts_with}
use Rattle.proof_lists.specs.Same.{same, stands}
use Rattle.proof_lists.specs.Stores.{pasted}
use Rattle.proof_lists.specs.Tests.{by-test}
use Rattle.script_text.proofs.letters.Laws.{Put}
use Rattle.rules.specs.declared.Answer.TheVariants as answer
use Rattle.rules.specs.declared.Bus.{Bus}
use Rattle.rules.specs.declared.Outcome.{Outcome}
use Rattle.rules.specs.declared.Refusal.TheVariants.{MemoryLength, WrongForm}
use Rattle.rules.specs.declared.Slot.{Slot}
use Rattle.rules.specs.Modelled.{slot_count, slot_bytes, memory_bytes, absent}
use Rattle.rules.specs.Fresh.{absent_slot}
use Rattle.rules.specs.Refusals.{wrong_length, slot_in_range, in_range}
use Rattle.save_rules.specs.Form.{memory_field, fields, field_count, field_at, share_of, is_there, form_of}
use Rattle.save_rules.specs.Reading.{size_in, offset, span, begins, place, tagged, read_shares, read_field, memory_row, bus_in, stored_to, memory_in, accepted, restore_of}
use Rattle.save_rules.proofs.Places.{length-share, fixed-there, span-there, share-within, begins-up, size-most, most_other}
use Rattle.save_fields.specs.contracts.shares.Field as field
use Rattle.save_fields.specs.declared.shares.Field.{Field}
use Rattle.save_fields.specs.declared.shares.Field.TheVariants.{Setup, Memory, State, Sensor, Pending, Older}
use Rattle.save_fields.specs.Rows.{row_of}
use Rattle.save_fields.proofs.offsets.Laws.{size_fits, offset-small, begins-small, all_fields, row_at}
use Rattle.save_restore.specs.Tallied.{share_tallies, shares_tally, head_tallies, field_tallies, fields_tally, tallies}
use Rattle.save_restore.proofs.Tally.{share-any, tallies-same}

-- reading a field, slot by slot
abbrev pub read_by : ℕ → List ℕ → List Slot → ℕ → Slot → Slot
read_by t f ss k s = (field_at t).reads f (place t k ss) s

-- the place of the first share, and of the next
pub place-first : (t : ℕ) (ss : List Slot) → begins t ss + 3 ≡ place t 0 ss
unfolding place offset
place-first t ss = sym (add-zero (begins t ss + 3))

pub place-step : (t k at size : ℕ) (ss : List Slot) (d : Slot) → k < length ss → at ≡ place t k ss → size ≡ (field_at t).size (get_or ss k d).kind → at + size ≡ place t (k + 1) ss
unfolding place offset size_in
place-step t k at size ss d h e f =
    let n : offset t (suc k) ss ≡ offset t k ss + (field_at t).size (get_or ss k absent_slot).kind = refl in
    rw (add-one, e, f, get_d_any ss k d absent_slot h) (omega arith)

pub place-small : (t k : ℕ) (ss : List Slot) → place t k ss ≤ 4099 * t + 3 + slot_bytes * k
unfolding place
place-small t k ss = omega (arith, begins-small t ss, offset-small t k ss)

pub read_step : (t i : ℕ) (f : List ℕ) (ss all : List Slot) (r d : Slot) → i < length ss → all ≡ map_to (read_by t f ss) 0 i ss
    → r ≡ (field_at t).reads f (place t i ss) (get_or ss i d) → set all i r ≡ map_to (read_by t f ss) 0 (i + 1) ss
read_step t i f ss all r d h e p = ap₂ (λ (l : List Slot) (x : Slot). set l i x) e p ∙ map_to-step (read_by t f ss) i ss d h

-- bytes looked for by std's own comparison
pub pointwise-same : (xs ys : List ℕ) → pointwise eqb xs ys ≡ same xs ys
unfolding same
pointwise-same [] [] = refl
pointwise-same [] (y ∷ ys) = refl
pointwise-same (x ∷ xs) [] = refl
pointwise-same (x ∷ xs) (y ∷ ys) = ap (λ b. eqb x y && b) (pointwise-same xs ys)

pub starts-there : (xs ys : List ℕ) (at : ℕ) → starts_with eqb (take (length ys - at) (drop at ys)) xs ≡ stands xs ys at
unfolding stands
starts-there xs ys at =
    ap (λ (l : List ℕ). starts_with eqb l xs) (take_all (length ys - at) (drop at ys) (omega (arith, length-drop at ys))) ∙ pointwise-same xs (take (length xs) (drop at ys))

-- a field is read where its tag stands
pub tagged-by : (t at b tag : ℕ) (f : List ℕ) (ss : List Slot) → at ≡ begins t ss → b ≡ get_or f at 0 → tag ≡ (field_at t).tag → eqb b tag ≡ tagged t f ss
unfolding tagged
tagged-by t at b tag f ss e h g = rw (h, e, g)

pub read-it : (t : ℕ) (f : List ℕ) (b : Bus) (rs : List Slot) (r : Bool) → r ≡ tagged t f b.slots → r ≡ true → rs ≡ read_shares t f b.slots
    → ◌≡◌ {A = Bus} (record { slots = rs }) (record { slots = read_field t f b.slots })
unfolding read_field
read-it t f b rs r e i h = rw (← e, i, h)

pub leave-it : (t : ℕ) (f : List ℕ) (b : Bus) (r : Bool) → r ≡ tagged t f b.slots → r ≡ false → b ≡ record { slots = read_field t f b.slots }
unfolding read_field
leave-it t f b r e i = rw (← e, i)

-- a share stands inside a form that is as long as its slots say
pub share-inside : (t k at n : ℕ) (ss : List Slot) (f : List ℕ) (d : Slot) → t < field_count → is_there t ss ≡ true → k < slot_count → length ss ≡ slot_count → length f ≡ begins field_count ss
    → at ≡ place t k ss → n ≡ (field_at t).size (get_or ss k d).kind → at + n ≤ length f
share-inside t k at n ss f d h i l g w e p =
    let q : n ≡ size_in t (get_or ss k absent_slot) = unfold size_in in p ∙ ap (λ (s : Slot). (field_at t).size s.kind) (get_d_any ss k d absent_slot (omega arith)) in
    omega (arith, share-within ss t k h i l)

-- comparing, share by share and field by field
pub tally-none : (t : ℕ) (ss : List Slot) (f : List ℕ) → true ≡ shares_tally t 0 ss f
unfolding shares_tally
tally-none t ss f = refl

pub tally-step : (t i at : ℕ) (ss : List Slot) (f : List ℕ) (d : Slot) (ok r : Bool) → i < length ss → at ≡ place t i ss → ok ≡ shares_tally t i ss f
    → r ≡ share_tallies t (get_or ss i d) f at → (ok && r) ≡ shares_tally t (i + 1) ss f
unfolding shares_tally
tally-step t i at ss f d ok r h e p q = rw (add-one, p, q, e, get_d_any ss i d absent_slot h)

fields-front : (t : ℕ) (ss : List Slot) (f : List ℕ) → t ≤ field_count → list_all (λ (x : Field). field_tallies (row_of x) ss f) (take t all_fields) ≡ fields_tally t ss f
unfolding fields_tally
fields-front zero ss f h = refl
fields-front (suc t) ss f h =
    let more = rw (add-one t) at (list_all_more (λ (x : Field). field_tallies (row_of x) ss f) all_fields t Setup h) in
    more ∙ ap₂ (λ (b : Bool) (u : ℕ). b && field_tallies u ss f) (fields-front t ss f (omega arith)) (row_at t h)

pub fields-all : (ss : List Slot) (f : List ℕ) → list_all (λ (x : Field). field_tallies (row_of x) ss f) all_fields ≡ fields_tally field_count ss f
fields-all ss f = fields-front field_count ss f (omega arith)

pub field-there : (t : ℕ) (ss : List Slot) (f : List ℕ) (i a b : Bool) → i ≡ is_there t ss → i ≡ true → a ≡ head_tallies t ss f → b ≡ shares_tally t slot_count ss f
    → (a && b) ≡ field_tallies t ss f
unfolding field_tallies
field-there t ss f i a b e h p q = rw (← e, h, p, q)

pub field-none : (t : ℕ) (ss : List Slot) (f : List ℕ) (i : Bool) → i ≡ is_there t ss → i ≡ false → true ≡ field_tallies t ss f
unfolding field_tallies
field-none t ss f i e h = rw (← e, h)

-- a field's head stands inside the form
pub head-within : (t : ℕ) (ss : List Slot) → t < field_count → is_there t ss ≡ true → begins t ss + 3 ≤ begins field_count ss
head-within t ss h i = omega (arith, begins-up ss (suc t) field_count h, span-there t ss i, next)
  where
    next : begins (suc t) ss ≡ begins t ss + span t ss
    next = unfold begins in refl

-- the field of memory, as `==` tells it
memory_told : (x : Field) → sameb field.the_type x Memory ≡ eqb (row_of x) memory_row
memory_told Setup = refl
memory_told Memory = refl
memory_told State = refl
memory_told Sensor = refl
memory_told Pending = refl
memory_told Older = refl

pub of-memory : (x : Field) (r : Bool) → r ≡ sameb field.the_type x Memory → r ≡ true → eqb (row_of x) memory_row ≡ true
of-memory x r e h = sym (memory_told x) ∙ sym e ∙ h

pub not-memory : (x : Field) (r : Bool) → r ≡ sameb field.the_type x Memory → r ≡ false → row_of x ≡ memory_row → ⊥
not-memory x r e h z = false≢true (sym h ∙ e ∙ memory_told x ∙ eq-eqb (row_of x) memory_row z)

-- a share that is not memory has at most fifteen bytes, as many as the table says
pub share-length : (t : ℕ) (s : Slot) → (t ≡ memory_row → ⊥) → length (share_of t s []) ≡ size_in t s
share-length t s h = ap length (share-any t s [] (replicate slot_bytes 0) h) ∙ length-share t s (replicate slot_bytes 0) (length-replicate {A = ℕ} slot_bytes 0)

pub share-short : (t : ℕ) (s : Slot) → (t ≡ memory_row → ⊥) → length (share_of t s []) ≤ 15
share-short t s h = unfold size_in in omega (arith, share-length t s h, size-most t s.kind, most_other t h)

-- what was put at the front of a room, taken from it
pub front-put : (room x o : List ℕ) (n : ℕ) → length x ≤ length room → Put room 0 x n o → take n o ≡ x
front-put room x o n h p =
    let z : 0 + length x ≡ length x = omega arith in
    ap₂ take (p.0 ∙ z) (p.1 ∙ sets-eq x room 0 (omega arith)) ∙ take_at x (drop (0 + length x) room) (length x) refl

-- a share that is not memory, put into a room of sixteen bytes and taken from it
module _ (t : ℕ) (s : Slot) (n : ℕ) (o : List ℕ) (h : t ≡ memory_row → ⊥) (p : Put (replicate 16 0) 0 (share_of t s []) n o) where
  pub room-taken : take n o ≡ share_of t s []
  room-taken = front-put (replicate 16 0) (share_of t s []) o n (omega (arith, share-short t s h)) p

  pub room-sized : length o ≡ 16
  room-sized = ap length p.1 ∙ length-sets (replicate 16 0) 0 (share_of t s [])

  pub taken-sized : (n ≡ size_in t s) × (n ≤ 15) × (length (take n o) ≡ size_in t s)
  taken-sized = (omega (arith, p.0, share-length t s h), omega (arith, p.0, share-short t s h), ap length room-taken ∙ share-length t s h)

pub share-by : (t at n : ℕ) (s : Slot) (f o : List ℕ) (r : Bool) → (t ≡ memory_row → ⊥) → Put (replicate 16 0) 0 (share_of t s []) n o → r ≡ stands (take n o) f at → r ≡ share_tallies t s f at
unfolding share_tallies
share-by t at n s f o r h p q = rw (ne_eqb t memory_row h, ← room-taken t s n o h p) q

-- storing the form's memory, slot by slot
pub stored-none : (f : List ℕ) (ss : List Slot) (m : List ℕ) → m ≡ stored_to 0 f ss m
unfolding stored_to
stored-none f ss m = refl

pub stored-step : (i at n : ℕ) (f : List ℕ) (ss : List Slot) (m o : List ℕ) (d : Slot) → i < length ss → at ≡ place memory_row i ss → n ≡ (field_at memory_row).size (get_or ss i d).kind
    → o ≡ stored_to i f ss m → sets o (slot_bytes * i) (take n (drop at f)) ≡ stored_to (i + 1) f ss m
unfolding stored_to field_at fields memory_field absent
stored-step i at n f ss m o d h e p q = rw (add-one, q, p, e, get_d_any ss i d absent_slot h)
    (by-test (eqb (get_or ss i absent_slot).kind 0) (λ z. rw z) (λ z. rw z))

-- one turn, as the code has it: a part of the memory was lent, and a part of the form copied into it
pub stored-turn : (i at n : ℕ) (f : List ℕ) (ss : List Slot) (m o part : List ℕ) (d : Slot) → i < slot_count → length ss ≡ slot_count → length f ≡ begins field_count ss
    → length o ≡ memory_bytes → at ≡ place memory_row i ss → n ≡ (field_at memory_row).size (get_or ss i d).kind → o ≡ stored_to i f ss m
    → part ≡ take (length (take (at + n - at) (drop at f))) (take (at + n - at) (drop at f))
    ++ drop (length (take (at + n - at) (drop at f))) (take (slot_bytes * i + n - slot_bytes * i) (drop (slot_bytes * i) o))
    → take (slot_bytes * i) o ++ (part ++ drop (slot_bytes * i + n - slot_bytes * i) (drop (slot_bytes * i) o)) ≡ stored_to (i + 1) f ss m
stored-turn i at n f ss m o part d h g w l e p q c =
    let src = take (at + n - at) (drop at f) in
    let inside : at + n ≤ length f = share-inside memory_row i at n ss f d (omega arith) (fixed-there memory_row ss (omega arith)) h g w e p in
    let small : n ≤ slot_bytes = size_fits memory_row (get_or ss i d).kind n p in
    let long : length src ≡ n = rw (length-take, length-drop) (omega arith) in
    let whole : at + n - at ≡ n = omega arith in
    pasted o src part (slot_bytes * i) (slot_bytes * i + n) (omega arith) (omega arith) c
    ∙ ap (λ (k : ℕ). sets o (slot_bytes * i) (take k (drop at f))) whole
    ∙ stored-step i at n f ss m o d (omega arith) e p q

-- the entry, row by row
module _ (b : Bus) (m f : List ℕ) where
  pub restore-memory : (x : Outcome) → (length m ≡ memory_bytes → ⊥) → x ≡ record { bus = b; answer = answer.Refused MemoryLength } → restore_of b m f ≡ (x, m)
  unfolding restore_of wrong_length
  restore-memory x h e = rw (ne_eqb (length m) memory_bytes h, e)

  module _ (told : Bus) (sized : length m ≡ memory_bytes) (is : told ≡ bus_in f) where
    verdict : (r : Bool) → r ≡ (list_all slot_in_range told.slots && tallies told.slots f) → r ≡ accepted f m
    unfolding accepted form_of memory_in in_range
    verdict r e = e ∙ ap₂ ◌&&◌ (ap (λ (x : Bus). list_all slot_in_range x.slots) is) (ap (λ (x : Bus). tallies x.slots f) is ∙ tallies-same (bus_in f).slots f m sized)

    refuses : accepted f m ≡ false → (x : Outcome) → x ≡ record { bus = b; answer = answer.Refused WrongForm } → restore_of b m f ≡ (x, m)
    unfolding restore_of wrong_length
    refuses a x e = rw (eq-eqb (length m) memory_bytes sized, a, e)

    pub restore-long : (n : ℕ) (x : Outcome) → n ≡ begins field_count told.slots → (length f ≡ n → ⊥) → x ≡ record { bus = b; answer = answer.Refused WrongForm }
        → restore_of b m f ≡ (x, m)
    unfolding tallies
    restore-long n x e h p =
        let no : false ≡ tallies told.slots f = rw (ne_eqb (length f) (begins field_count told.slots) (λ z. h (z ∙ sym e))) in
        refuses (sym (verdict false (sym (ap (λ y. list_all slot_in_range told.slots && y) (sym no) ∙ and-false (list_all slot_in_range told.slots))))) x p

    module _ (r q : Bool) (whole : length f ≡ begins field_count told.slots) (ranged : r ≡ list_all slot_in_range told.slots) (same : q ≡ fields_tally field_count told.slots f) where
      both_say : (r && q) ≡ accepted f m
      both_say = verdict (r && q) (ap₂ ◌&&◌ ranged (unfold tallies in rw (eq-eqb (length f) (begins field_count told.slots) whole) same))

      pub restore-departs : (x : Outcome) → not (r && q) ≡ true → x ≡ record { bus = b; answer = answer.Refused WrongForm } → restore_of b m f ≡ (x, m)
      restore-departs x h e = refuses (sym both_say ∙ not-true (r && q) h) x e

      pub restore-accepts : (x : Outcome) (o : List ℕ) → not (r && q) ≡ false → o ≡ stored_to slot_count f told.slots m → x ≡ record { bus = told; answer = answer.Nothing } → restore_of b m f ≡ (x, o)
      unfolding restore_of wrong_length memory_in
      restore-accepts x o h e p = rw (eq-eqb (length m) memory_bytes sized, sym both_say ∙ not-false (r && q) h, e, p, is)
