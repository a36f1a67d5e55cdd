-- Where everything stands in a form: which fields are there, how long it is, where each field begins, where each slot's share of it stands; and that
-- these go by what the slots need and by their kinds alone.
-- Assumes nothing.
use Prim.Native.Nat.{ℕ, zero, suc, ◌+◌, ◌-◌, ◌*◌, ◌/◌, ◌%◌, ◌≤◌, ◌<◌}
use native.Mathlib.Nat.{add-zero, zero-add, mul-suc}
use native.Mathlib.Omega.{arith}
use borrow.Author.Tests.{eqb-true, eqb-false, eq-eqb, ne_eqb}
use mathlib.Core.Path.{◌≡◌, refl, sym, ◌∙◌, ap, ap₂}
use mathlib.Core.Bool.{Bool, true, false, false≢true, cond, ◌||◌, or-true}
use mathlib.Core.List.{List, [], ◌∷◌, ◌++◌}
use lib.Dec.{eqb}
use lib.ListN.{length, get_or, take, drop, length-append, length-take, length-drop, length-replicate, get_or-append, get_or-eq_default}
use lib.Seq.{get_or-append-add, get_or-take, get_or-drop, ext_get_or}
use Rattle.proof_lists.specs.Each.{length-map_from, map_from-at}
use Rattle.proof_lists.specs.Parts.{part, length_part}
use Rattle.proof_lists.specs.Tests.{cond_cases, by-test, and_left}
use Rattle.rules.specs.declared.Bus.{Bus}
use Rattle.rules.specs.declared.Slot.{Slot}
use Rattle.rules.specs.Modelled.{slot_count, slot_bytes, memory_bytes, absent, sensing, older, bytes_of}
use Rattle.rules.specs.Fresh.{absent_slot}
use Rattle.save_rules.specs.Form.{word_of, setup_field, memory_field, state_bytes, state_field, registers_to, sensor_bytes, sensor_field, pending_field, older_field, fields, field_count, fixed_count, field_at, share_of, shares, whole_field, needed_to, is_there, field_bytes, form_to, form_of}
use Rattle.save_rules.specs.Reading.{size_in, offset, span, begins, place, tagged, memory_row, read_shares, read_field, read_to}

-- a slot has no more bytes than its 512
pub bytes_most : (kind : ℕ) → bytes_of kind ≤ slot_bytes
unfolding bytes_of
bytes_most kind = cond_cases (λ (n : ℕ). n ≤ slot_bytes) (eqb kind 3) (λ e. omega arith) (λ e. omega arith)

-- a slot's share of a field has as many bytes as the table says for its kind
pub length-share : (t : ℕ) (s : Slot) (p : List ℕ) → length p ≡ slot_bytes → length (share_of t s p) ≡ size_in t s
unfolding share_of size_in field_at fields setup_field memory_field state_field sensor_field pending_field older_field state_bytes sensor_bytes registers_to word_of absent sensing older
length-share zero s p h = refl
length-share (suc zero) s p h = by-test (eqb s.kind 0) (λ e. rw e) (λ e. rw e (length-take (bytes_of s.kind) p ∙ omega (arith, bytes_most s.kind, h)))
length-share (suc (suc zero)) s p h = by-test (eqb s.kind 0) (λ e. rw e) (λ e. rw e)
length-share (suc (suc (suc zero))) s p h = by-test (eqb s.kind 2) (λ e. rw e) (λ e. rw e)
length-share (suc (suc (suc (suc zero)))) s p h = by-test (eqb s.kind 2) (λ e. rw e) (λ e. rw e)
length-share (suc (suc (suc (suc (suc zero))))) s p h = by-test (eqb s.kind 3) (λ e. rw e) (λ e. rw e)
length-share (suc (suc (suc (suc (suc (suc t)))))) s p h = refl

-- "Tags in ascending order, each once": those of the table
pub tags : (t : ℕ) → t < field_count → (field_at t).tag ≡ t + 1
unfolding field_at fields setup_field memory_field state_field sensor_field pending_field older_field
tags zero h = refl
tags (suc zero) h = refl
tags (suc (suc zero)) h = refl
tags (suc (suc (suc zero))) h = refl
tags (suc (suc (suc (suc zero)))) h = refl
tags (suc (suc (suc (suc (suc zero))))) h = refl
tags (suc (suc (suc (suc (suc (suc t)))))) h = absurd (omega arith)

-- P5's fields are needed by every slot
pub fixed : (t : ℕ) (s : Slot) → t < fixed_count → (field_at t).needed s ≡ true
unfolding field_at fields setup_field memory_field state_field sensor_field
fixed zero s h = refl
fixed (suc zero) s h = refl
fixed (suc (suc zero)) s h = refl
fixed (suc (suc (suc zero))) s h = refl
fixed (suc (suc (suc (suc t)))) s h = absurd (omega arith)

-- Which fields are there: one that a slot needs, and no other.
module _ (t : ℕ) (ss : List Slot) where
  abbrev pub Needs : ℕ → Type 0
  Needs k = (field_at t).needed (get_or ss k absent_slot) ≡ true

  -- one of slots 0 to n - 1 that needs it
  pub record Asks (n : ℕ) : Type 0 where
    pub slot : ℕ
    pub below : slot < n
    pub needs : Needs slot

  needed-by : (n k : ℕ) → k < n → Needs k → needed_to t n ss ≡ true
  unfolding needed_to
  needed-by zero k h e = absurd (omega arith)
  needed-by (suc n) k h e = by-test (eqb k n)
      (λ i. ap (λ (j : ℕ). needed_to t n ss || (field_at t).needed (get_or ss j absent_slot)) (sym (eqb-true k n i)) ∙ rw e (or-true (needed_to t n ss)))
      (λ i. rw (needed-by n k (omega (arith, eqb-false k n i)) e))

  asks : (n : ℕ) → needed_to t n ss ≡ true → Asks n
  unfolding needed_to
  asks zero e = absurd (false≢true e)
  asks (suc n) e = by-test ((field_at t).needed (get_or ss n absent_slot))
      (λ h. record { slot = n; below = omega arith; needs = h })
      (λ h. by-test (needed_to t n ss)
      (λ i. let a = asks n i in record { slot = a.slot; below = omega (arith, a.below); needs = a.needs })
      (λ i. absurd (false≢true (sym (rw (i, h)) ∙ e))))

  pub there-by : (k : ℕ) → k < slot_count → Needs k → is_there t ss ≡ true
  unfolding is_there
  there-by k h e = needed-by slot_count k h e

  pub who-asks : is_there t ss ≡ true → Asks slot_count
  unfolding is_there
  who-asks e = asks slot_count e

  pub none-asks : is_there t ss ≡ false → (k : ℕ) → k < slot_count → (field_at t).needed (get_or ss k absent_slot) ≡ false
  none-asks e k h = by-test ((field_at t).needed (get_or ss k absent_slot)) (λ n. absurd (false≢true (sym e ∙ there-by k h n))) (λ n. n)

  pub not_there : ((k : ℕ) → k < slot_count → (field_at t).needed (get_or ss k absent_slot) ≡ false) → is_there t ss ≡ false
  not_there h = by-test (is_there t ss) (λ e. let a = who-asks e in absurd (false≢true (sym (h a.slot a.below) ∙ a.needs))) (λ e. e)

  -- what it takes, there or not
  pub span-there : is_there t ss ≡ true → span t ss ≡ 3 + offset t slot_count ss
  unfolding span
  span-there e = rw e

  pub span_none : is_there t ss ≡ false → span t ss ≡ 0
  unfolding span
  span_none e = rw e

  pub span-most : span t ss ≤ 3 + offset t slot_count ss
  span-most = by-test (is_there t ss) (λ e. omega (arith, span-there e)) (λ e. omega (arith, span_none e))

-- P5's are in every form
pub fixed-there : (t : ℕ) (ss : List Slot) → t < fixed_count → is_there t ss ≡ true
fixed-there t ss h = there-by t ss 0 (omega arith) (fixed t (get_or ss 0 absent_slot) h)

-- each slot has 512 bytes of the memory
pub length-own : (k : ℕ) (m : List ℕ) → k < slot_count → length m ≡ memory_bytes → length (part slot_bytes k m) ≡ slot_bytes
length-own k m h l = rw (length_part, l) (omega arith)

-- what is behind more slots, or more fields, stands no less far
module _ (ss : List Slot) where
  pub offset_up : (t k n : ℕ) → k ≤ n → offset t k ss ≤ offset t n ss
  unfolding offset
  offset_up t k zero h = let e : k ≡ 0 = omega arith in rw e (omega arith)
  offset_up t k (suc n) h = by-test (eqb k (suc n))
      (λ e. let f : k ≡ suc n = eqb-true k (suc n) e in rw f (omega arith))
      (λ e. let f : offset t k ss ≤ offset t n ss = offset_up t k n (omega (arith, eqb-false k (suc n) e)) in omega arith)

  pub begins-up : (t u : ℕ) → t ≤ u → begins t ss ≤ begins u ss
  unfolding begins
  begins-up t zero h = let e : t ≡ 0 = omega arith in rw e (omega arith)
  begins-up t (suc u) h = by-test (eqb t (suc u))
      (λ e. let f : t ≡ suc u = eqb-true t (suc u) e in rw f (omega arith))
      (λ e. let f : begins t ss ≤ begins u ss = begins-up t u (omega (arith, eqb-false t (suc u) e)) in omega arith)

  -- a share stands inside its field, and so inside the form
  pub share-within : (t k : ℕ) → t < field_count → is_there t ss ≡ true → k < slot_count → place t k ss + size_in t (get_or ss k absent_slot) ≤ begins field_count ss
  unfolding place
  share-within t k h there l =
      let o : offset t (suc k) ss ≤ offset t slot_count ss = offset_up t (suc k) slot_count l in
      let s : offset t (suc k) ss ≡ offset t k ss + size_in t (get_or ss k absent_slot) = unfold offset in refl in
      let b : begins (suc t) ss ≤ begins field_count ss = begins-up (suc t) field_count h in
      let e : begins (suc t) ss ≡ begins t ss + span t ss = unfold begins in refl in
      omega (arith, span-there t ss there)

module _ (ss : List Slot) (m : List ℕ) (sized : length m ≡ memory_bytes) where
  -- the shares of the first k slots, the first t fields, and the whole form
  pub length-shares : (t k : ℕ) → k ≤ slot_count → length (shares t k ss m) ≡ offset t k ss
  unfolding shares offset
  length-shares t zero h = refl
  length-shares t (suc k) h =
      length-append (shares t k ss m) _ ∙ ap₂ ◌+◌ (length-shares t k (omega arith)) (length-share t (get_or ss k absent_slot) _ (length-own k m h sized))

  -- a field's three bytes before its contents
  abbrev head : ℕ → List ℕ
  head t = (field_at t).tag ∷ word_of (length (shares t slot_count ss m))

  pub length_whole : (t : ℕ) → length (whole_field t ss m) ≡ 3 + offset t slot_count ss
  unfolding whole_field word_of
  length_whole t = length-append (head t) (shares t slot_count ss m) ∙ ap (λ (n : ℕ). 3 + n) (length-shares t slot_count (omega arith))

  pub field-there : (t : ℕ) → is_there t ss ≡ true → field_bytes t ss m ≡ whole_field t ss m
  unfolding field_bytes
  field-there t e = rw e

  pub field-none : (t : ℕ) → is_there t ss ≡ false → field_bytes t ss m ≡ []
  unfolding field_bytes
  field-none t e = rw e

  pub length-field : (t : ℕ) → length (field_bytes t ss m) ≡ span t ss
  length-field t = by-test (is_there t ss)
      (λ e. ap length (field-there t e) ∙ length_whole t ∙ sym (span-there t ss e))
      (λ e. ap length (field-none t e) ∙ sym (span_none t ss e))

  pub length-form : (t : ℕ) → length (form_to t ss m) ≡ begins t ss
  unfolding form_to begins
  length-form zero = refl
  length-form (suc t) = length-append (form_to t ss m) _ ∙ ap₂ ◌+◌ (length-form t) (length-field t)

  -- the byte j of a field's contents, and of a slot's share among those before it
  contents : (t j : ℕ) → get_or (whole_field t ss m) (3 + j) 0 ≡ get_or (shares t slot_count ss m) j 0
  unfolding whole_field word_of
  contents t j = get_or-append-add (head t) (shares t slot_count ss m) j 0

  last-share : (t k j : ℕ) → k ≤ slot_count → get_or (shares t (suc k) ss m) (offset t k ss + j) 0 ≡ get_or (share_of t (get_or ss k absent_slot) (part slot_bytes k m)) j 0
  unfolding shares
  last-share t k j h =
      ap (λ (n : ℕ). get_or (shares t k ss m ++ share_of t (get_or ss k absent_slot) (part slot_bytes k m)) (n + j) 0) (sym (length-shares t k h))
      ∙ get_or-append-add (shares t k ss m) _ j 0

  -- what stands in the first k shares stands there in the whole field, and what stands in the first t fields, in the whole form
  pub front-of-shares : (t n k i : ℕ) → k ≤ n → n ≤ slot_count → i < offset t k ss → get_or (shares t n ss m) i 0 ≡ get_or (shares t k ss m) i 0
  unfolding shares
  front-of-shares t zero k i h l g = let e : 0 ≡ k = omega arith in ap (λ (j : ℕ). get_or (shares t j ss m) i 0) e
  front-of-shares t (suc n) k i h l g = by-test (eqb k (suc n))
      (λ e. ap (λ (j : ℕ). get_or (shares t j ss m) i 0) (sym (eqb-true k (suc n) e)))
      (λ e.
      let f : k ≤ n = omega (arith, eqb-false k (suc n) e) in
      let o : offset t k ss ≤ offset t n ss = offset_up ss t k n f in
      get_or-append (shares t n ss m) _ 0 i (rw (length-shares t n (omega arith)) (omega arith)) ∙ front-of-shares t n k i f (omega arith) g)

  pub front-of-form : (u t i : ℕ) → t ≤ u → i < begins t ss → get_or (form_to u ss m) i 0 ≡ get_or (form_to t ss m) i 0
  unfolding form_to
  front-of-form zero t i h g = let e : 0 ≡ t = omega arith in ap (λ (j : ℕ). get_or (form_to j ss m) i 0) e
  front-of-form (suc u) t i h g = by-test (eqb t (suc u))
      (λ e. ap (λ (j : ℕ). get_or (form_to j ss m) i 0) (sym (eqb-true t (suc u) e)))
      (λ e.
      let f : t ≤ u = omega (arith, eqb-false t (suc u) e) in
      let o : begins t ss ≤ begins u ss = begins-up ss t u f in
      get_or-append (form_to u ss m) _ 0 i (rw (length-form u) (omega arith)) ∙ front-of-form u t i f g)

  -- byte j of a field that is there: behind the fields before it
  pub in_field : (t j : ℕ) → t < field_count → is_there t ss ≡ true → j < 3 + offset t slot_count ss
      → get_or (form_to field_count ss m) (begins t ss + j) 0 ≡ get_or (whole_field t ss m) j 0
  unfolding form_to begins
  in_field t j h e g =
      front-of-form field_count (suc t) (begins t ss + j) h (omega (arith, span-there t ss e))
      ∙ ap (λ (n : ℕ). get_or (form_to t ss m ++ field_bytes t ss m) (n + j) 0) (sym (length-form t))
      ∙ get_or-append-add (form_to t ss m) (field_bytes t ss m) j 0
      ∙ ap (λ (l : List ℕ). get_or l j 0) (field-there t e)

  -- "one-byte tag, two-byte length with the high byte first": the three bytes before the contents
  pub tag_at : (t : ℕ) → t < field_count → is_there t ss ≡ true → get_or (form_to field_count ss m) (begins t ss) 0 ≡ (field_at t).tag
  unfolding whole_field
  tag_at t h e = rw add-zero at (in_field t 0 h e (omega arith))

  pub high-at : (t : ℕ) → t < field_count → is_there t ss ≡ true → get_or (form_to field_count ss m) (begins t ss + 1) 0 ≡ offset t slot_count ss / 256
  unfolding whole_field word_of
  high-at t h e = in_field t 1 h e (omega arith) ∙ ap (λ (n : ℕ). n / 256) (length-shares t slot_count (omega arith))

  pub low-at : (t : ℕ) → t < field_count → is_there t ss ≡ true → get_or (form_to field_count ss m) (begins t ss + 2) 0 ≡ offset t slot_count ss % 256
  unfolding whole_field word_of
  low-at t h e = in_field t 2 h e (omega arith) ∙ ap (λ (n : ℕ). n % 256) (length-shares t slot_count (omega arith))

  -- Where a field would begin stands its tag, or that of a later one, or the form has ended there (where the byte counts as 0);
  tag-from : (n t : ℕ) → t + n ≡ field_count → get_or (form_to field_count ss m) (begins t ss) 0 ≤ t → get_or (form_to field_count ss m) (begins t ss) 0 ≡ 0
  tag-from zero t e h =
      let f : t ≡ field_count = omega arith in
      get_or-eq_default (form_to field_count ss m) 0 (rw f (omega (arith, length-form field_count)))
  tag-from (suc n) t e h = by-test (is_there t ss)
      (λ i. absurd (omega (arith, tag_at t (omega arith) i, tags t (omega arith))))
      (λ i.
      let b : begins (suc t) ss ≡ begins t ss = unfold begins in rw (span_none t ss i) (omega arith) in
      rw b at (tag-from n (suc t) (omega arith) (rw b (omega arith))))

  -- so its tag stands there exactly if it is there.
  pub tagged-there : (t : ℕ) → t < field_count → tagged t (form_to field_count ss m) ss ≡ is_there t ss
  unfolding tagged
  tagged-there t h = by-test (is_there t ss)
      (λ i. eq-eqb _ (field_at t).tag (tag_at t h i) ∙ sym i)
      (λ i.
      let b : begins (suc t) ss ≡ begins t ss = unfold begins in rw (span_none t ss i) (omega arith) in
      ne_eqb _ (field_at t).tag (λ z.
      let l : get_or (form_to field_count ss m) (begins t ss) 0 ≡ t + 1 = z ∙ tags t h in
      absurd (omega (arith, rw b at (tag-from (field_count - suc t) (suc t) (omega arith) (rw b (omega arith)))))) ∙ sym i)

  -- Each share stands at its place: byte by byte,
  pub share-at : (t k j : ℕ) → t < field_count → is_there t ss ≡ true → k < slot_count → j < size_in t (get_or ss k absent_slot)
      → get_or (form_to field_count ss m) (place t k ss + j) 0 ≡ get_or (share_of t (get_or ss k absent_slot) (part slot_bytes k m)) j 0
  unfolding place
  share-at t k j h e l g =
      let o : offset t (suc k) ss ≤ offset t slot_count ss = offset_up ss t (suc k) slot_count l in
      let s : offset t (suc k) ss ≡ offset t k ss + size_in t (get_or ss k absent_slot) = unfold offset in refl in
      let a : begins t ss + 3 + offset t k ss + j ≡ begins t ss + (3 + (offset t k ss + j)) = omega arith in
      ap (λ (n : ℕ). get_or (form_to field_count ss m) n 0) a
      ∙ in_field t (3 + (offset t k ss + j)) h e (omega arith)
      ∙ contents t (offset t k ss + j)
      ∙ front-of-shares t slot_count (suc k) (offset t k ss + j) l (omega arith) (omega arith)
      ∙ last-share t k j (omega arith)

  -- and as a whole.
  pub share-of-form : (t k : ℕ) → t < field_count → is_there t ss ≡ true → k < slot_count
      → take (size_in t (get_or ss k absent_slot)) (drop (place t k ss) (form_to field_count ss m)) ≡ share_of t (get_or ss k absent_slot) (part slot_bytes k m)
  share-of-form t k h e l =
      let size = size_in t (get_or ss k absent_slot) in
      let own = share_of t (get_or ss k absent_slot) (part slot_bytes k m) in
      let form = form_to field_count ss m in
      let n : length own ≡ size = length-share t (get_or ss k absent_slot) (part slot_bytes k m) (length-own k m l sized) in
      let w : place t k ss + size ≤ begins field_count ss = share-within ss t k h e l in
      let f : length form ≡ begins field_count ss = length-form field_count in
      let c : length (take size (drop (place t k ss) form)) ≡ size = rw (length-take, length-drop) (omega arith) in
      ext_get_or 0 (take size (drop (place t k ss) form)) own (c ∙ sym n)
      (λ i g. get_or-take size (drop (place t k ss) form) i 0 (omega arith) ∙ get_or-drop (place t k ss) form i 0 ∙ share-at t k i h e l (omega arith))

  -- "the memory of present slots": a present slot's own bytes, all 512 or the first 256
  pub bytes-of-form : (k : ℕ) → k < slot_count → absent (get_or ss k absent_slot) ≡ false
      → take (bytes_of (get_or ss k absent_slot).kind) (drop (place memory_row k ss) (form_to field_count ss m))
      ≡ take (bytes_of (get_or ss k absent_slot).kind) (part slot_bytes k m)
  unfolding size_in share_of field_at fields memory_field absent
  bytes-of-form k h a = rw a at (share-of-form memory_row k (omega arith) (fixed-there memory_row ss (omega arith)) h)

-- the whole form of a bench
pub length-form_of : (b : Bus) (m : List ℕ) → length m ≡ memory_bytes → length (form_of b m) ≡ begins field_count b.slots
unfolding form_of
length-form_of b m l = length-form b.slots m l field_count

-- How long things can get: a pair 2 bytes, a memory 512, a state 4, a sensor 15, a pending change 1, an older slot's byte 1; so every length fits in its
-- two bytes.
abbrev pub most_in : ℕ → ℕ
most_in t = get_or (2 ∷ slot_bytes ∷ 4 ∷ 15 ∷ 1 ∷ 1 ∷ []) t 2

pub size-most : (t kind : ℕ) → (field_at t).size kind ≤ most_in t
unfolding field_at fields setup_field memory_field state_field sensor_field pending_field older_field
size-most zero kind = omega arith
size-most (suc zero) kind = by-test (eqb kind 0) (λ e. rw e (omega arith)) (λ e. rw e (bytes_most kind))
size-most (suc (suc zero)) kind = by-test (eqb kind 0) (λ e. rw e (omega arith)) (λ e. rw e (omega arith))
size-most (suc (suc (suc zero))) kind = by-test (eqb kind 2) (λ e. rw e (omega arith)) (λ e. rw e (omega arith))
size-most (suc (suc (suc (suc zero)))) kind = by-test (eqb kind 2) (λ e. rw e (omega arith)) (λ e. rw e (omega arith))
size-most (suc (suc (suc (suc (suc zero))))) kind = by-test (eqb kind 3) (λ e. rw e (omega arith)) (λ e. rw e (omega arith))
size-most (suc (suc (suc (suc (suc (suc t)))))) kind = omega arith

-- the most is a slot's memory, and of the other fields a sensor
pub most-all : (t : ℕ) → most_in t ≤ slot_bytes
most-all zero = omega arith
most-all (suc zero) = omega arith
most-all (suc (suc zero)) = omega arith
most-all (suc (suc (suc zero))) = omega arith
most-all (suc (suc (suc (suc zero)))) = omega arith
most-all (suc (suc (suc (suc (suc zero))))) = omega arith
most-all (suc (suc (suc (suc (suc (suc t)))))) = omega arith

pub most_other : (t : ℕ) → (t ≡ memory_row → ⊥) → most_in t ≤ 15
most_other zero h = omega arith
most_other (suc zero) h = absurd (h refl)
most_other (suc (suc zero)) h = omega arith
most_other (suc (suc (suc zero))) h = omega arith
most_other (suc (suc (suc (suc zero)))) h = omega arith
most_other (suc (suc (suc (suc (suc zero))))) h = omega arith
most_other (suc (suc (suc (suc (suc (suc t)))))) h = omega arith

pub offset-most : (t k : ℕ) (ss : List Slot) → offset t k ss ≤ most_in t * k
unfolding offset size_in
offset-most t zero ss = omega arith
offset-most t (suc k) ss =
    let h = offset-most t k ss in
    let s : (field_at t).size (get_or ss k absent_slot).kind ≤ most_in t = size-most t (get_or ss k absent_slot).kind in
    let m : most_in t * suc k ≡ most_in t * k + most_in t = mul-suc (most_in t) k in
    omega arith

-- A slot has the most in all its fields together with a sensor: 534 bytes. An older one has 272 less before field 6, so that a field 6 does not make
-- up for the sensors that are then missing: a form has at most 4,287 bytes, those of eight sensors with a change pending.
abbrev up_to_five : (ℕ → ℕ) → ℕ
up_to_five f = f 0 + f 1 + f 2 + f 3 + f 4

slot-most : (kind : ℕ) → up_to_five (λ t. (field_at t).size kind) + 272 * (field_at 5).size kind ≤ 534
unfolding field_at fields setup_field memory_field state_field sensor_field pending_field older_field bytes_of
slot-most kind = by-test (eqb kind 0) (λ a. rw (eqb-true kind 0 a) (omega arith)) λ a.
    by-test (eqb kind 2) (λ b. rw (eqb-true kind 2 b) (omega arith)) λ b.
    by-test (eqb kind 3) (λ c. rw (eqb-true kind 3 c) (omega arith)) (λ c. rw (a, b, c) (omega arith))

slots-most : (k : ℕ) (ss : List Slot) → up_to_five (λ t. offset t k ss) + 272 * offset 5 k ss ≤ 534 * k
unfolding offset size_in
slots-most zero ss = omega arith
slots-most (suc k) ss = omega (arith, slots-most k ss, slot-most (get_or ss k absent_slot).kind)

six-size : (s : Slot) → (field_at 5).needed s ≡ true → size_in 5 s ≡ 1
unfolding size_in field_at fields older_field older
six-size s e = rw (and_left (eqb s.kind 3) (s.old.permanent || s.old.pin) e)

six-counts : (ss : List Slot) → is_there 5 ss ≡ true → 1 ≤ offset 5 slot_count ss
unfolding offset
six-counts ss e =
    let a : Asks 5 ss slot_count = who-asks 5 ss e in
    omega (arith, offset_up ss 5 (suc a.slot) slot_count a.below, six-size (get_or ss a.slot absent_slot) a.needs)

six-most : (ss : List Slot) → span 5 ss ≤ 272 * offset 5 slot_count ss
six-most ss = by-test (is_there 5 ss) (λ e. omega (arith, span-there 5 ss e, six-counts ss e)) (λ e. omega (arith, span_none 5 ss e))

pub length_most : (ss : List Slot) → begins field_count ss ≤ 4287
unfolding begins
length_most ss = omega (arith, span-most 0 ss, span-most 1 ss, span-most 2 ss, span-most 3 ss, span-most 4 ss, six-most ss, slots-most slot_count ss)

-- Places go by sizes and needs alone: slots with as many bytes in the fields up to row t, of which the same fields before it are needed, have their
-- shares at the same places there.
module _ (ss rs : List Slot) where
  abbrev pub SameSize : ℕ → Type 0
  SameSize t = (j : ℕ) → j < slot_count → size_in t (get_or ss j absent_slot) ≡ size_in t (get_or rs j absent_slot)

  abbrev pub SameNeed : ℕ → Type 0
  SameNeed t = (j : ℕ) → j < slot_count → (field_at t).needed (get_or ss j absent_slot) ≡ (field_at t).needed (get_or rs j absent_slot)

  same-needed : (t k : ℕ) → k ≤ slot_count → SameNeed t → needed_to t k ss ≡ needed_to t k rs
  unfolding needed_to
  same-needed t zero l h = refl
  same-needed t (suc k) l h = ap₂ ◌||◌ (same-needed t k (omega arith) h) (h k l)

  pub same-there : (t : ℕ) → SameNeed t → is_there t ss ≡ is_there t rs
  unfolding is_there
  same-there t h = same-needed t slot_count (omega arith) h

  pub same-offset : (t k : ℕ) → k ≤ slot_count → SameSize t → offset t k ss ≡ offset t k rs
  unfolding offset
  same-offset t zero l h = refl
  same-offset t (suc k) l h = ap₂ ◌+◌ (same-offset t k (omega arith) h) (h k l)

  -- (the fields before row t are the same in both, whoever needs them)
  pub same-begins : (t : ℕ) → ((u : ℕ) → u < t → SameSize u) → ((u : ℕ) → u < t → is_there u ss ≡ is_there u rs) → begins t ss ≡ begins t rs
  unfolding begins span
  same-begins zero h n = refl
  same-begins (suc t) h n =
      ap₂ ◌+◌ (same-begins t (λ u l. h u (omega arith)) (λ u l. n u (omega arith)))
      (ap₂ (λ (b : Bool) (o : ℕ). cond b (3 + o) 0) (n t (omega arith)) (same-offset t slot_count (omega arith) (h t (omega arith))))

  pub same-tagged : (t : ℕ) (f : List ℕ) → begins t ss ≡ begins t rs → tagged t f ss ≡ tagged t f rs
  unfolding tagged
  same-tagged t f e = ap (λ (at : ℕ). eqb (get_or f at 0) (field_at t).tag) e

  pub same_place : (t k : ℕ) → k ≤ slot_count → ((u : ℕ) → u ≤ t → SameSize u) → ((u : ℕ) → u < t → SameNeed u) → place t k ss ≡ place t k rs
  unfolding place
  same_place t k l h n =
      ap₂ (λ (a b : ℕ). a + 3 + b) (same-begins t (λ u g. h u (omega arith)) (λ u g. same-there u (n u g))) (same-offset t k l (h t (omega arith)))

  -- and sizes by the slots' kinds alone
  module _ (kinds : (j : ℕ) → j < slot_count → (get_or ss j absent_slot).kind ≡ (get_or rs j absent_slot).kind) where
    pub size-by-kinds : (t : ℕ) → SameSize t
    unfolding size_in
    size-by-kinds t j h = ap (λ (k : ℕ). (field_at t).size k) (kinds j h)

    pub begins-by-kinds : (t : ℕ) → ((u : ℕ) → u < t → is_there u ss ≡ is_there u rs) → begins t ss ≡ begins t rs
    begins-by-kinds t n = same-begins t (λ u l. size-by-kinds u) n

    pub place-by-kinds : (t k : ℕ) → k ≤ slot_count → ((u : ℕ) → u < t → SameNeed u) → place t k ss ≡ place t k rs
    place-by-kinds t k l n = same_place t k l (λ u g. size-by-kinds u) n

-- Two benches whose slots have the same shares and the same needs have the same form.
module _ (ss rs : List Slot) (m o : List ℕ) where
  abbrev pub SameShares : Type 0
  SameShares = (t k : ℕ) → k < slot_count → share_of t (get_or ss k absent_slot) (part slot_bytes k m) ≡ share_of t (get_or rs k absent_slot) (part slot_bytes k o)

  same-shares : (t k : ℕ) → k ≤ slot_count → SameShares → shares t k ss m ≡ shares t k rs o
  unfolding shares
  same-shares t zero l h = refl
  same-shares t (suc k) l h = ap₂ ◌++◌ (same-shares t k (omega arith) h) (h t k l)

  pub same-form : (t : ℕ) → SameShares → ((u : ℕ) → SameNeed ss rs u) → form_to t ss m ≡ form_to t rs o
  unfolding form_to field_bytes whole_field
  same-form zero h n = refl
  same-form (suc t) h n = ap₂ ◌++◌ (same-form t h n)
      (ap₂ (λ (b : Bool) (c : List ℕ). cond b ((field_at t).tag ∷ word_of (length c) ++ c) []) (same-there ss rs t (n t)) (same-shares t slot_count (omega arith) h))

-- Reading keeps eight slots, and each field that is read says of slot k what stands at its place for it.
pub length-read_to : (t : ℕ) (f : List ℕ) → length (read_to t f) ≡ slot_count
unfolding read_to read_field read_shares
length-read_to zero f = length-replicate slot_count absent_slot
length-read_to (suc t) f = cond_cases (λ (ss : List Slot). length ss ≡ slot_count) (tagged t f (read_to t f))
    (λ e. length-map_from (λ k s. (field_at t).reads f (place t k (read_to t f)) s) 0 (read_to t f) ∙ length-read_to t f)
    (λ e. length-read_to t f)

pub read_at : (t k : ℕ) (f : List ℕ) → tagged t f (read_to t f) ≡ true → k < slot_count
    → get_or (read_to (suc t) f) k absent_slot ≡ (field_at t).reads f (place t k (read_to t f)) (get_or (read_to t f) k absent_slot)
unfolding read_to read_field read_shares
read_at t k f e h =
    rw e
    (map_from-at (λ k s. (field_at t).reads f (place t k (read_to t f)) s) 0 (read_to t f) k absent_slot (rw (length-read_to t f) h)
    ∙ ap (λ (n : ℕ). (field_at t).reads f (place t n (read_to t f)) (get_or (read_to t f) k absent_slot)) (zero-add k))

pub not-read : (t : ℕ) (f : List ℕ) → tagged t f (read_to t f) ≡ false → read_to (suc t) f ≡ read_to t f
unfolding read_to read_field read_shares
not-read t f e = rw e
