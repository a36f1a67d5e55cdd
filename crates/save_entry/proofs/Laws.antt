-- Laws of a form that is put piece by piece: one share and one field more, and room for them; and the entry, row by row.
-- Assumes nothing.
use mathlib.Core.Path.{◌≡◌, refl, sym, ◌∙◌, ap}
use mathlib.Core.Bool.{Bool, true, false, not}
use mathlib.Core.List.{List, [], ◌∷◌, ◌++◌}
use Prim.Native.Nat.{ℕ, suc, ◌+◌, ◌*◌, ◌≤◌, ◌<◌}
use native.Mathlib.Numerals.{add-one}
use native.Mathlib.Omega.{arith}
use borrow.Author.Tests.{eq-eqb, ne_eqb, lt-ltb, le-ltb}
use lib.ListN.{length, get_or, take, drop, length-append}
use lib.Seq.{sets, sets-eq}
use denote.Enum.Bare.{sameb}
use Rattle.std.specs.Prelude.{Ok, Err}
use Rattle.proof_lists.specs.Each.{get_d_any}
use Rattle.std.specs.List.{list_all}
use Rattle.proof_lists.specs.Parts.{part, part-flat}
use Rattle.script_text.proofs.letters.Laws.{Put, put_on}
use Rattle.rules.specs.contracts.Phase as phase
use Rattle.rules.specs.declared.Bus.{Bus}
use Rattle.rules.specs.declared.Phase.{Phase}
use Rattle.rules.specs.declared.Phase.TheVariants.{Idle, Control, Deaf, MemoryCounter, MemoryData, MemoryRead, HalfSelected, CommandAddress, CommandData, CommandStop, SensorPointer, SensorHigh, SensorLow, SensorReadHigh, SensorReadLow}
use Rattle.rules.specs.declared.Refusal.TheVariants.{MemoryLength, WrongState, Busy, TooShort}
use Rattle.rules.specs.declared.Slot.{Slot}
use Rattle.rules.specs.Modelled.{slot_count, slot_bytes, memory_bytes}
use Rattle.rules.specs.Fresh.{absent_slot}
use Rattle.rules.specs.Refusals.{wrong_length, slot_in_range, in_range}
use Rattle.save_rules.specs.Form.{word_of, field_count, field_at, share_of, shares, whole_field, is_there, field_bytes, form_to, form_of}
use Rattle.save_rules.specs.Reading.{offset, span, begins}
use Rattle.save_rules.specs.Saving.{is_idle, quiet, all_quiet, save_of}
use Rattle.save_rules.proofs.Places.{length-shares, length_whole, field-there, field-none, length-field, length-form, length-form_of, offset_up, begins-up}

-- any other phase, by its place among the variants, is not idle
pub not-idle : (p : Phase) → (p ≡ Idle → ⊥) → false ≡ is_idle p
unfolding is_idle
not-idle Idle h = absurd (h refl)
not-idle Control h = refl
not-idle Deaf h = refl
not-idle MemoryCounter h = refl
not-idle MemoryData h = refl
not-idle MemoryRead h = refl
not-idle HalfSelected h = refl
not-idle CommandAddress h = refl
not-idle CommandData h = refl
not-idle CommandStop h = refl
not-idle SensorPointer h = refl
not-idle SensorHigh h = refl
not-idle SensorLow h = refl
not-idle SensorReadHigh h = refl
not-idle SensorReadLow h = refl

-- idle, as `==` tells it
pub idle_same : (p : Phase) → sameb phase.the_type p Idle ≡ is_idle p
unfolding is_idle
idle_same Idle = refl
idle_same Control = refl
idle_same Deaf = refl
idle_same MemoryCounter = refl
idle_same MemoryData = refl
idle_same MemoryRead = refl
idle_same HalfSelected = refl
idle_same CommandAddress = refl
idle_same CommandData = refl
idle_same CommandStop = refl
idle_same SensorPointer = refl
idle_same SensorHigh = refl
idle_same SensorLow = refl
idle_same SensorReadHigh = refl
idle_same SensorReadLow = refl

-- nothing is put yet
pub shares-none : (t at : ℕ) (ss : List Slot) (m out : List ℕ) → Put out at (shares t 0 ss m) at out
unfolding shares
shares-none t at ss m out = (omega arith, refl)

pub form-none : (ss : List Slot) (m out : List ℕ) → Put out 0 (form_to 0 ss m) 0 out
unfolding form_to
form-none ss m out = (refl, refl)

-- the 512 bytes of slot k, as the code cuts them out
cut_out : (k n : ℕ) (m : List ℕ) → n ≡ slot_bytes → part slot_bytes k m ≡ take n (drop (slot_bytes * k) m)
cut_out k n m e = rw e (part-flat slot_bytes k m)

module _ (t i n : ℕ) (ss : List Slot) (d : Slot) (m : List ℕ) (h : i < length ss) (e : n ≡ slot_bytes) where
  -- one share more
  next-share : shares t (i + 1) ss m ≡ shares t i ss m ++ share_of t (get_or ss i d) (take n (drop (slot_bytes * i) m))
  unfolding shares
  next-share = rw (add-one, get_d_any ss i absent_slot d h, cut_out i n m e)

  pub shares-step : (at mid end : ℕ) (out o p : List ℕ) → Put out at (shares t i ss m) mid o → Put o mid (share_of t (get_or ss i d) (take n (drop (slot_bytes * i) m))) end p
      → Put out at (shares t (i + 1) ss m) end p
  shares-step at mid end out o p f g = rw next-share (put_on out o p at mid end (shares t i ss m) _ f g)

  -- and its room
  pub share-room : length m ≡ memory_bytes → i < slot_count
      → length (shares t i ss m) + length (share_of t (get_or ss i d) (take n (drop (slot_bytes * i) m))) ≤ length (shares t slot_count ss m)
  share-room l g = omega (
    arith,
    sym (length-append (shares t i ss m) (share_of t (get_or ss i d) (take n (drop (slot_bytes * i) m)))) ∙ ap length (sym next-share),
    length-shares ss m l t (i + 1) (omega arith),
    length-shares ss m l t slot_count (omega arith),
    offset_up ss t (i + 1) slot_count (omega arith),
  )

-- a field: its tag, its length, the shares
pub field_put : (t tag count at one two end : ℕ) (ss : List Slot) (m out o p q : List ℕ) → length m ≡ memory_bytes → tag ≡ (field_at t).tag → count ≡ offset t slot_count ss
    → Put out at (tag ∷ []) one o → Put o one (word_of count) two p → Put p two (shares t slot_count ss m) end q → Put out at (whole_field t ss m) end q
unfolding whole_field
field_put t tag count at one two end ss m out o p q l e f x y z =
    rw (length-shares ss m l t slot_count (omega arith), ← e, ← f)
    (put_on out p q at two end (tag ∷ word_of count) (shares t slot_count ss m) (put_on out o p at one two (tag ∷ []) (word_of count) x y) z)

-- its room, part by part
pub field_room : (t : ℕ) (ss : List Slot) (m : List ℕ) → length m ≡ memory_bytes
    → (length (whole_field t ss m) ≡ 3 + length (shares t slot_count ss m)) × (length (shares t slot_count ss m) ≡ offset t slot_count ss)
field_room t ss m l = let e = length-shares ss m l t slot_count (omega arith) in (omega (arith, length_whole ss m l t, e), e)

-- it is put whole if it is there, and otherwise nothing is
module _ (t : ℕ) (ss : List Slot) (m : List ℕ) (there : Bool) (sized : length m ≡ memory_bytes) (e : there ≡ is_there t ss) where
  pub room-there : (at n : ℕ) → there ≡ true → at + length (field_bytes t ss m) ≤ n → at + length (whole_field t ss m) ≤ n
  room-there at n i h = rw (field-there ss m sized t (sym e ∙ i)) at h

  pub put-there : (at end : ℕ) (out o : List ℕ) → there ≡ true → Put out at (whole_field t ss m) end o → Put out at (field_bytes t ss m) end o
  put-there at end out o i p = rw (field-there ss m sized t (sym e ∙ i)) p

  pub put-none : (at : ℕ) (out : List ℕ) → there ≡ false → Put out at (field_bytes t ss m) at out
  put-none at out i = rw (field-none ss m sized t (sym e ∙ i)) (omega arith, refl)

-- one field more
pub form-step : (t mid end : ℕ) (ss : List Slot) (m out o p : List ℕ) → Put out 0 (form_to t ss m) mid o → Put o mid (field_bytes t ss m) end p
    → Put out 0 (form_to (t + 1) ss m) end p
unfolding form_to
form-step t mid end ss m out o p f g = rw add-one (put_on out o p 0 mid end (form_to t ss m) (field_bytes t ss m) f g)

pub form-room : (t : ℕ) (ss : List Slot) (m : List ℕ) → length m ≡ memory_bytes → t < field_count
    → length (form_to t ss m) + length (field_bytes t ss m) ≤ length (form_to field_count ss m)
form-room t ss m l h = omega (arith, length-form ss m l t, length-field ss m l t, length-form ss m l field_count, begins-up ss (suc t) field_count h, next)
  where
    next : begins (suc t) ss ≡ begins t ss + span t ss
    next = unfold begins in refl

-- the entry, row by row
module _ (b : Bus) (m buffer : List ℕ) where
  pub save-memory : (length m ≡ memory_bytes → ⊥) → save_of b m buffer ≡ (Err MemoryLength, buffer)
  unfolding save_of wrong_length
  save-memory h = rw (ne_eqb (length m) memory_bytes h)

  pub save-state : (r : Bool) → length m ≡ memory_bytes → r ≡ list_all slot_in_range b.slots → not r ≡ true → save_of b m buffer ≡ (Err WrongState, buffer)
  unfolding save_of wrong_length in_range
  save-state r sized ranged e = rw (eq-eqb (length m) memory_bytes sized, ← ranged, e)

  pub save-busy : (r q : Bool) → length m ≡ memory_bytes → r ≡ list_all slot_in_range b.slots → not r ≡ false → q ≡ list_all quiet b.slots → not q ≡ true
      → save_of b m buffer ≡ (Err Busy, buffer)
  unfolding save_of wrong_length in_range all_quiet
  save-busy r q sized ranged e calm f = rw (eq-eqb (length m) memory_bytes sized, ← ranged, e, ← calm, f)

  pub save-short : (r q : Bool) (n : ℕ) → length m ≡ memory_bytes → r ≡ list_all slot_in_range b.slots → not r ≡ false → q ≡ list_all quiet b.slots → not q ≡ false
      → n ≡ begins field_count b.slots → length buffer < n → save_of b m buffer ≡ (Err TooShort, buffer)
  unfolding save_of wrong_length in_range all_quiet
  save-short r q n sized ranged e calm f g h =
      let l : length buffer < length (form_of b m) = omega (arith, length-form_of b m sized) in
      rw (eq-eqb (length m) memory_bytes sized, ← ranged, e, ← calm, f, lt-ltb (length buffer) (length (form_of b m)) l)

  pub save-form : (r q : Bool) (n k : ℕ) (o : List ℕ) → length m ≡ memory_bytes → r ≡ list_all slot_in_range b.slots → not r ≡ false → q ≡ list_all quiet b.slots → not q ≡ false
      → n ≡ begins field_count b.slots → n ≤ length buffer
      → (k ≡ length (form_to field_count b.slots m)) × (o ≡ sets buffer 0 (form_to field_count b.slots m)) → save_of b m buffer ≡ (Ok k, o)
  unfolding save_of wrong_length in_range all_quiet form_of
  save-form r q n k o sized ranged e calm f g h p =
      let form = form_to field_count b.slots m in
      let l : length form ≡ begins field_count b.slots = length-form b.slots m sized field_count in
      let z : 0 + length form ≡ length form = omega arith in
      let s : o ≡ form ++ drop (length form) buffer = p.1 ∙ sets-eq form buffer 0 (omega arith) ∙ ap (λ (j : ℕ). form ++ drop j buffer) z in
      rw (eq-eqb (length m) memory_bytes sized, ← ranged, e, ← calm, f, le-ltb (length buffer) (length form) (omega arith)) (λ i. (Ok (sym p.0 i), sym s i))
