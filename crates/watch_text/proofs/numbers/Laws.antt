-- Where each number of a slot stands among all of them.
-- Assumes nothing.
use mathlib.Core.Path.{◌≡◌, refl, sym, ◌∙◌, ap, subst}
use mathlib.Core.Bool.{Bool, true, false, cond, ◌&&◌, and-true}
use mathlib.Core.List.{List, [], ◌∷◌, ◌++◌, map, append_assoc, append-nil}
use Prim.Native.Nat.{ℕ, zero, suc, ◌+◌, ◌-◌, ◌≤◌, ◌<◌}
use native.Mathlib.Omega.{arith}
use borrow.Author.Tests.{eqb-true, eq-eqb, ne_eqb}
use lib.Dec.{eqb}
use lib.ListN.{length, get_or, take, drop, replicate, length-append, length-map, length-replicate, get_or-append, get_or-map}
use lib.Pointwise.{pointwise}
use lib.Seq.{get_or-append-add, ext_get_or, sets, sets-eq}
use mir.Val.{bool_byte}
use denote.Enum.Declared.{tag_of}
use denote.Param.Members.{Mut}
use Rattle.std.proofs.Common.{drop_of_length-le}
use Rattle.std.specs.Array.{MapsFrom, IsMapOf}
use Rattle.std.specs.Fn.{Called}
use Rattle.proof_lists.specs.Same.{same, same_refl, same-append, stands-end, stands-whole}
use Rattle.proof_lists.specs.Tests.{by-test}
use Rattle.rules.specs.declared.Older.{Older}
use Rattle.rules.specs.declared.Phase.{Phase}
use Rattle.rules.specs.declared.Phase.TheVariants.{Idle, Control, Deaf, MemoryCounter, MemoryData, MemoryRead, HalfSelected, CommandAddress, CommandData, CommandStop, SensorPointer, SensorHigh, SensorLow, SensorReadHigh, SensorReadLow}
use Rattle.rules.specs.contracts.Phase.{the_type}
use Rattle.rules.specs.declared.Sensor.{Sensor}
use Rattle.rules.specs.declared.Slot.{Slot}
use Rattle.rules.specs.Modelled.{sensing, older}
use Rattle.watch_text.specs.Numbers.{bit, phase_number, plain_numbers, sensor_numbers, pin_numbers, older_numbers, kind_numbers, numbers_of, three, sixty}

-- how many a slot has by its kind, and how many in all
abbrev pub kind_count : ℕ → ℕ
kind_count kind = cond (eqb kind 2) 3 (cond (eqb kind 3) 3 0)

abbrev pub count_of : ℕ → ℕ
count_of kind = 57 + kind_count kind

pub at_most : (kind : ℕ) → kind_count kind ≤ 3
at_most kind = by-test (eqb kind 2) (λ e. rw e (omega arith)) λ e. by-test (eqb kind 3) (λ f. rw (e, f) (omega arith)) λ f. rw (e, f) (omega arith)

-- behind the first n of a list stands what follows them
behind : (xs ys : List ℕ) (n k : ℕ) → length xs ≡ n → n ≤ k → get_or (xs ++ ys) k 0 ≡ get_or ys (k - n) 0
behind xs ys n k e h =
    let f : length xs + (k - n) ≡ k = omega arith in
    sym (ap (λ i. get_or (xs ++ ys) i 0) f) ∙ get_or-append-add xs ys (k - n) 0

-- bits in front of a list
among : (bs : List Bool) (ys : List ℕ) (k : ℕ) → k < length bs → get_or (map bit bs ++ ys) k 0 ≡ bit (get_or bs k false)
unfolding bit
among bs ys k h =
    let l : k < length (map bit bs) = rw (length-map bs bit) h in
    get_or-append (map bit bs) ys 0 k l ∙ get_or-map bit bs k false

pub plain-length : (s : Slot) → length (plain_numbers s) ≡ 8
unfolding plain_numbers
plain-length s = refl

pub sensor-length : (x : Sensor) → length (sensor_numbers x) ≡ 9
unfolding sensor_numbers
sensor-length x = refl

pub pin-length : (x : Sensor) → length (pin_numbers x) ≡ 3
unfolding pin_numbers
pin-length x = refl

pub older-length : (x : Older) → length (older_numbers x) ≡ 3
unfolding older_numbers
older-length x = refl

-- the numbers of some bits or bytes, as `map` gives them
module _ {F A B : Type 0} (g : Mut F (A × Unit {0}) B) (h : A → B) (f : F) (step : (x : A) (y : B) (q : F) → Called g f (x, tt) y q → (y ≡ h x) × (q ≡ f))
    (xs : List A) (ys : List B) where
  each : (n i : ℕ) → MapsFrom g f xs ys i n → (k j : ℕ) (d : A) (e : B) → k < n → i + k ≡ j → get_or ys j e ≡ h (get_or xs j d)
  each zero i m k j d e l w = absurd (omega arith)
  each (suc n) i m zero j d e l w =
      let here : i ≡ j = omega arith in rw (← here) (m.4.1 e ∙ (step m.1 m.2 m.0 m.5).0 ∙ ap h (sym (m.3.1 d)))
  each (suc n) i m (suc k) j d e l w =
      each n (i + 1) (subst (λ q. MapsFrom g q xs ys (i + 1) n) (step m.1 m.2 m.0 m.5).1 m.6) k j d e (omega arith) (omega arith)

  pub mapped : (n : ℕ) (d : A) → length xs ≡ n → IsMapOf g f xs ys n → ys ≡ map h xs
  mapped n d l m =
      ext_get_or (h d) ys (map h xs) (m.long ∙ sym l ∙ sym (length-map xs h)) (λ k i.
      each n 0 m.each k k d (h d) (rw (← m.long) i) (omega arith) ∙ sym (get_or-map h xs k d))

-- a bit and a phase as numbers
pub bit-byte : (b : Bool) → bool_byte b ≡ bit b
unfolding bit
bit-byte true = refl
bit-byte false = refl

pub phase-tag : (p : Phase) → tag_of the_type p ≡ phase_number p
unfolding phase_number
phase-tag Idle = refl
phase-tag Control = refl
phase-tag Deaf = refl
phase-tag MemoryCounter = refl
phase-tag MemoryData = refl
phase-tag MemoryRead = refl
phase-tag HalfSelected = refl
phase-tag CommandAddress = refl
phase-tag CommandData = refl
phase-tag CommandStop = refl
phase-tag SensorPointer = refl
phase-tag SensorHigh = refl
phase-tag SensorLow = refl
phase-tag SensorReadHigh = refl
phase-tag SensorReadLow = refl

-- lists compared pair by pair
pub paired : (xs ys : List ℕ) → pointwise eqb xs ys ≡ same xs ys
unfolding same
paired [] [] = refl
paired [] (y ∷ ys) = refl
paired (x ∷ xs) [] = refl
paired (x ∷ xs) (y ∷ ys) = ap (eqb x y &&◌) (paired xs ys)

-- those that a slot has by its kind: with a sensor, of an older module, and of any other kind; at most three
module _ (s : Slot) where
  pub sensing-has : s.kind ≡ 2 → kind_numbers s ≡ pin_numbers s.sensor
  unfolding kind_numbers sensing
  sensing-has e = rw (eq-eqb s.kind 2 e)

  pub older-has : s.kind ≡ 3 → kind_numbers s ≡ older_numbers s.old
  unfolding kind_numbers sensing older
  older-has e = rw (e)

  other-has : (s.kind ≡ 2 → ⊥) → (s.kind ≡ 3 → ⊥) → kind_numbers s ≡ []
  unfolding kind_numbers sensing older
  other-has e f = rw (ne_eqb s.kind 2 e, ne_eqb s.kind 3 f)

  pub other_at : (k : ℕ) → (s.kind ≡ 2 → ⊥) → (s.kind ≡ 3 → ⊥) → 0 ≡ get_or (kind_numbers s) k 0
  other_at k e f = ap (λ (l : List ℕ). get_or l k 0) (sym (other-has e f))

  pub kind-length : length (kind_numbers s) ≡ kind_count s.kind
  unfolding kind_numbers sensing older
  kind-length =
      by-test (eqb s.kind 2) (λ e. rw e (pin-length s.sensor)) λ e.
      by-test (eqb s.kind 3) (λ f. rw (e, f) (older-length s.old)) λ f. rw (e, f)

-- the parts of a slot's numbers
abbrev behind_marks : Slot → List ℕ
behind_marks s = sensor_numbers s.sensor ++ kind_numbers s

abbrev behind_latch : Slot → List ℕ
behind_latch s = map bit s.marks ++ behind_marks s

abbrev behind_coming : Slot → List ℕ
behind_coming s = s.latch ++ behind_latch s

abbrev behind_protection : Slot → List ℕ
behind_protection s = map bit s.coming ++ behind_coming s

-- arrays as long as their types say
abbrev pub Sized : Slot → Type 0
Sized s = (length s.protection ≡ 4) × (length s.coming ≡ 4) × (length s.latch ≡ 16) × (length s.marks ≡ 16)

module _ (s : Slot) (k : ℕ) where
  pub plain_at : k < 8 → get_or (numbers_of s) k 0 ≡ get_or (plain_numbers s) k 0
  unfolding numbers_of
  plain_at h = get_or-append (plain_numbers s) _ 0 k (rw (plain-length s) h)

  module _ (z : Sized s) where
    from-8 : 8 ≤ k → get_or (numbers_of s) k 0 ≡ get_or (map bit s.protection ++ behind_protection s) (k - 8) 0
    unfolding numbers_of
    from-8 h = behind (plain_numbers s) _ 8 k (plain-length s) h

    from-12 : 12 ≤ k → get_or (numbers_of s) k 0 ≡ get_or (behind_protection s) (k - 12) 0
    from-12 h =
        let e : k - 8 - 4 ≡ k - 12 = omega arith in
        from-8 (omega arith) ∙ behind (map bit s.protection) (behind_protection s) 4 (k - 8) (length-map s.protection bit ∙ z.0) (omega arith)
        ∙ ap (λ i. get_or (behind_protection s) i 0) e

    from-16 : 16 ≤ k → get_or (numbers_of s) k 0 ≡ get_or (behind_coming s) (k - 16) 0
    from-16 h =
        let e : k - 12 - 4 ≡ k - 16 = omega arith in
        from-12 (omega arith) ∙ behind (map bit s.coming) (behind_coming s) 4 (k - 12) (length-map s.coming bit ∙ z.1) (omega arith)
        ∙ ap (λ i. get_or (behind_coming s) i 0) e

    from-32 : 32 ≤ k → get_or (numbers_of s) k 0 ≡ get_or (behind_latch s) (k - 32) 0
    from-32 h =
        let e : k - 16 - 16 ≡ k - 32 = omega arith in
        from-16 (omega arith) ∙ behind s.latch (behind_latch s) 16 (k - 16) z.2 (omega arith) ∙ ap (λ i. get_or (behind_latch s) i 0) e

    pub protection-at : 8 ≤ k → k < 12 → bit (get_or s.protection (k - 8) false) ≡ get_or (numbers_of s) k 0
    protection-at h l = sym (from-8 h ∙ among s.protection (behind_protection s) (k - 8) (rw z.0 (omega arith)))

    pub coming-at : 12 ≤ k → k < 16 → bit (get_or s.coming (k - 12) false) ≡ get_or (numbers_of s) k 0
    coming-at h l = sym (from-12 h ∙ among s.coming (behind_coming s) (k - 12) (rw z.1 (omega arith)))

    pub latch-at : 16 ≤ k → k < 32 → get_or s.latch (k - 16) 0 ≡ get_or (numbers_of s) k 0
    latch-at h l = sym (from-16 h ∙ get_or-append s.latch (behind_latch s) 0 (k - 16) (rw z.2 (omega arith)))

    pub mark-at : 32 ≤ k → k < 48 → bit (get_or s.marks (k - 32) false) ≡ get_or (numbers_of s) k 0
    mark-at h l = sym (from-32 h ∙ among s.marks (behind_marks s) (k - 32) (rw z.3 (omega arith)))

    from-48 : 48 ≤ k → get_or (numbers_of s) k 0 ≡ get_or (behind_marks s) (k - 48) 0
    from-48 h =
        let e : k - 32 - 16 ≡ k - 48 = omega arith in
        from-32 (omega arith) ∙ behind (map bit s.marks) (behind_marks s) 16 (k - 32) (length-map s.marks bit ∙ z.3) (omega arith)
        ∙ ap (λ i. get_or (behind_marks s) i 0) e

    pub sensor-at : 48 ≤ k → k < 57 → get_or (sensor_numbers s.sensor) (k - 48) 0 ≡ get_or (numbers_of s) k 0
    sensor-at h l =
        sym (from-48 h ∙ get_or-append (sensor_numbers s.sensor) (kind_numbers s) 0 (k - 48) (rw (sensor-length s.sensor) (omega arith)))

    pub kind_at : 57 ≤ k → get_or (kind_numbers s) (k - 57) 0 ≡ get_or (numbers_of s) k 0
    kind_at h =
        let e : k - 48 - 9 ≡ k - 57 = omega arith in
        sym (from-48 (omega arith) ∙ behind (sensor_numbers s.sensor) (kind_numbers s) 9 (k - 48) (sensor-length s.sensor) (omega arith)
        ∙ ap (λ i. get_or (kind_numbers s) i 0) e)

pub numbers-length : (s : Slot) → Sized s → length (numbers_of s) ≡ count_of s.kind
unfolding numbers_of
numbers-length s z =
    simp (length-append, length-map) (rw (plain-length s, sensor-length s.sensor, kind-length s, z.0, z.1, z.2, z.3) (omega arith))

pub sixty-at : (xs : List ℕ) (k : ℕ) → get_or (sixty xs) k 0 ≡ get_or xs k 0
unfolding sixty
sixty-at xs k = padded xs (60 - length xs) k
  where
    noughts : (n k : ℕ) → ◌≡◌ {A = ℕ} (get_or (replicate n 0) k 0) 0
    noughts zero k = refl
    noughts (suc n) zero = refl
    noughts (suc n) (suc k) = noughts n k

    padded : (xs : List ℕ) (n k : ℕ) → get_or (xs ++ replicate n 0) k 0 ≡ get_or xs k 0
    padded [] n k = noughts n k
    padded (x ∷ xs) n zero = refl
    padded (x ∷ xs) n (suc k) = padded xs n k

sixty-length : (xs : List ℕ) → length xs ≤ 60 → length (sixty xs) ≡ 60
unfolding sixty
sixty-length xs h = rw (length-append, length-replicate) (omega arith)

-- two slots: of one kind, they have as many numbers; of two, they differ in the first
sixty-alike : (xs ys : List ℕ) → length xs ≡ length ys → same (sixty xs) (sixty ys) ≡ same xs ys
unfolding sixty
sixty-alike xs ys l =
    let n : List ℕ = replicate (60 - length xs) 0 in
    ap (λ i. same (sixty xs) (ys ++ replicate (60 - i) 0)) (sym l) ∙ same-append xs n ys n l ∙ ap (same xs ys &&◌) (same_refl n) ∙ and-true (same xs ys)

sixty-other : (s t : Slot) → eqb s.kind t.kind ≡ false → same (sixty (numbers_of s)) (sixty (numbers_of t)) ≡ same (numbers_of s) (numbers_of t)
unfolding sixty numbers_of plain_numbers same
sixty-other s t e = rw e

pub sixty-same : (s t : Slot) → Sized s → Sized t → same (sixty (numbers_of s)) (sixty (numbers_of t)) ≡ same (numbers_of s) (numbers_of t)
unfolding sensing
sixty-same s t y z =
    by-test (eqb s.kind t.kind)
    (λ e.
    let k : s.kind ≡ t.kind = eqb-true s.kind t.kind e in
    sixty-alike (numbers_of s) (numbers_of t) (numbers-length s y ∙ ap count_of k ∙ sym (numbers-length t z)))
    (sixty-other s t)

-- part by part: those of its kind are three, with noughts
pub sixty-parts : (s : Slot) → Sized s
    → plain_numbers s ++ (map bit s.protection ++ (map bit s.coming ++ (s.latch ++ (map bit s.marks ++ (sensor_numbers s.sensor ++ three (kind_numbers s))))))
    ≡ sixty (numbers_of s)
unfolding numbers_of three sixty
sixty-parts s z =
    let n : 60 - length (numbers_of s) ≡ 3 - length (kind_numbers s) = rw (numbers-length s z, kind-length s) (let h = at_most s.kind in omega arith) in
    rw (n) (simp append_assoc refl)

-- a list of as many, stored over all of them
pub all-stored : (n : ℕ) (xs : List ℕ) → length xs ≡ n → sets (replicate n 0) 0 xs ≡ xs
all-stored n xs e =
    sets-eq xs (replicate n 0) 0 (rw length-replicate (omega arith)) ∙ ap (xs ++◌) (drop_of_length-le (replicate n 0) (rw length-replicate (omega arith))) ∙ append-nil xs

pub sixty-full : (s : Slot) → Sized s → length (sixty (numbers_of s)) ≡ 60
sixty-full s z = sixty-length (numbers_of s) (rw (numbers-length s z) (let h = at_most s.kind in omega arith))

-- whether the first k of two lists of 60 are the same, as a loop over them has it; docs/PORT.md names what it ends with
pub record Alike (xs ys : List ℕ) (k : ℕ) (all : Bool) : Type 0 where
  pub within : k ≤ 60
  pub first : length xs ≡ 60
  pub second : length ys ≡ 60
  pub says : all ≡ same (take k xs) (take k (drop 0 ys))

pub alike_all : (s t : Slot) (k : ℕ) (all : Bool) → Sized s → Sized t → Alike (sixty (numbers_of s)) (sixty (numbers_of t)) k all → 60 ≤ k
    → all ≡ same (numbers_of s) (numbers_of t)
alike_all s t k all y z g h =
    g.says ∙ stands-end (sixty (numbers_of s)) (sixty (numbers_of t)) 0 k (omega (arith, g.within, g.first))
    ∙ stands-whole (sixty (numbers_of s)) (sixty (numbers_of t)) (g.first ∙ sym g.second) ∙ sixty-same s t y z
