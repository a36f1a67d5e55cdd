-- The records laid into a buffer read back, as the script program reads them, as the events that they were made of; behind them the buffer is what it was.
-- Assumes nothing.
use Prim.Native.Nat.{ℕ, zero, suc, ◌+◌, ◌*◌, ◌/◌, ◌%◌, ◌<◌, ◌≤◌}
use native.Mathlib.Omega.{arith}
use mathlib.Core.Path.{◌≡◌, refl, sym, ◌∙◌, ap, ap₂, subst}
use mathlib.Core.List.{List, [], ◌∷◌, ◌++◌, map}
use lib.Dec.{eqb}
use lib.ListN.{length, get_or, set, take, drop, get_or-append}
use lib.Seq.{sets, sets-eq, length-sets, drop-set-lt, take_all, take-suc}
use borrow.Author.Tests.{lt-ltb}
use Rattle.proof_lists.specs.Each.{Every, every-at}
use Rattle.proof_lists.specs.Tests.{by-test}
use Rattle.rules.specs.declared.Event.{Event}
use Rattle.rules.specs.declared.Slot.{Slot}
use Rattle.rules.specs.Modelled.{slot_count}
use Rattle.script_text.specs.Records.{value_at, record_at}
use Rattle.plan_rules.specs.Records.{word_of, record_of, records_of, laid, events_in}
use Rattle.plan_rules.specs.Plan.{event, byte, stop, tick, ticks, five_ticks, page_at, page_bytes, page_half, page_counter, selecting, writing, differs, half_before, page_events, pages_before}
use Rattle.plan_rules.proofs.Acted.{every-part}

-- an event of a plan: a kind that is a byte, and a value that is no word below zero
pub record Plain (e : Event) : Type 0 where
  pub kind : ℕ
  pub value : ℕ
  pub low : kind ≤ 255
  pub small : value < 32768
  pub is : e ≡ event kind value

-- the byte n of what follows four bytes
after-four : (a b c d n i : ℕ) (bs : List ℕ) → n ≡ suc (suc (suc (suc i))) → get_or (a ∷ b ∷ c ∷ d ∷ bs) n 0 ≡ get_or bs i 0
after-four a b c d n i bs e = rw e

record-after : (a b c d at : ℕ) (bs : List ℕ) → record_at (a ∷ b ∷ c ∷ d ∷ bs) (at + 4) ≡ record_at bs at
unfolding record_at
record-after a b c d at bs = rw (
  after-four a b c d (at + 4) at bs (omega arith),
  after-four a b c d (at + 4 + 1) (at + 1) bs (omega arith),
  after-four a b c d (at + 4 + 2) (at + 2) bs (omega arith),
  after-four a b c d (at + 4 + 3) (at + 3) bs (omega arith),
)

-- the first record
record-first : (kind value : ℕ) (bs : List ℕ) → value < 32768 → record_at (record_of (event kind value) ++ bs) 0 ≡ event kind value
unfolding record_at record_of word_of value_at
record-first kind value bs h =
    let e : value / 256 * 256 + value % 256 ≡ value = omega arith in
    rw (lt-ltb (value / 256) 128 (omega arith), e)

record-back : (es : List Event) (bs : List ℕ) (d : Event) → Every Plain es → (i : ℕ) → i < length es → record_at (records_of es ++ bs) (4 * i) ≡ get_or es i d
unfolding records_of record_of
record-back [] bs d h i l = absurd (omega arith)
record-back (e ∷ es) bs d h zero l =
    let p = h.0 in
    subst (λ (v : Event). record_at (record_of v ++ (records_of es ++ bs)) 0 ≡ v) (sym p.is) (record-first p.kind p.value (records_of es ++ bs) p.small)
record-back (e ∷ es) bs d h (suc i) l =
    let n : 4 * suc i ≡ 4 * i + 4 = omega arith in
    rw n (record-after _ _ _ _ (4 * i) (records_of es ++ bs)) ∙ record-back es bs d h.1 i (omega arith)

pub records-length : (es : List Event) → length (records_of es) ≡ 4 * length es
unfolding records_of record_of
records-length [] = refl
records-length (e ∷ es) = let i = records-length es in omega arith

-- the buffer that they are laid into: the records, and what stood behind them
laid-is : (es : List Event) (buffer : List ℕ) → 4 * length es ≤ length buffer → laid es buffer ≡ records_of es ++ drop (4 * length es) buffer
unfolding laid
laid-is es buffer l =
    let f = records-length es in
    let e : 0 + length (records_of es) ≡ 4 * length es = omega arith in
    sets-eq (records_of es) buffer 0 (omega arith) ∙ ap (λ (n : ℕ). records_of es ++ drop n buffer) e

-- of any buffer, long enough or not: what stands behind the records, and the length, are what they were
behind-sets : (vs l : List ℕ) (i n : ℕ) → i + length vs ≤ n → drop n (sets l i vs) ≡ drop n l
behind-sets [] l i n h = refl
behind-sets (v ∷ vs) l i n h = behind-sets vs (set l i v) (suc i) n (omega arith) ∙ drop-set-lt n l i v (omega arith)

pub laid-behind : (es : List Event) (buffer : List ℕ) → drop (4 * length es) (laid es buffer) ≡ drop (4 * length es) buffer
unfolding laid
laid-behind es buffer = let f = records-length es in behind-sets (records_of es) buffer 0 (4 * length es) (omega arith)

pub laid-length : (es : List Event) (buffer : List ℕ) → length (laid es buffer) ≡ length buffer
unfolding laid
laid-length es buffer = length-sets buffer 0 (records_of es)

-- all of them, from the buffer
events-back : (es : List Event) (buffer : List ℕ) → Every Plain es → 4 * length es ≤ length buffer → (n : ℕ) → n ≤ length es → events_in (laid es buffer) n ≡ take n es
unfolding events_in
events-back es buffer h l zero m = refl
events-back es buffer h l (suc n) m =
    ap₂ (λ (v : List Event) (r : Event). v ++ r ∷ []) (events-back es buffer h l n (omega arith))
    (ap (λ (b : List ℕ). record_at b (4 * n)) (laid-is es buffer l) ∙ record-back es (drop (4 * length es) buffer) tick h n m)
    ∙ sym (take-suc es n tick m)

pub read_back : (es : List Event) (buffer : List ℕ) → Every Plain es → 4 * length es ≤ length buffer → events_in (laid es buffer) (length es) ≡ es
read_back es buffer h l = events-back es buffer h l (length es) (omega arith) ∙ take_all (length es) es (omega arith)

-- the bytes of the records are bytes
records-small : (es : List Event) → Every Plain es → Every (λ b. b ≤ 255) (records_of es)
unfolding records_of record_of word_of
records-small [] h = tt
records-small (e ∷ es) h =
    let p = h.0 in
    rw p.is (p.low, (omega arith, (omega arith, (omega arith, records-small es h.1))))

pub small_at : (es : List Event) (buffer : List ℕ) → Every Plain es → 4 * length es ≤ length buffer → (i : ℕ) → i < 4 * length es → get_or (laid es buffer) i 0 ≤ 255
small_at es buffer h l i b =
    let f : i < length (records_of es) = rw (records-length es) b in
    rw (laid-is es buffer l, get_or-append (records_of es) (drop (4 * length es) buffer) 0 i f) (every-at (λ n. n ≤ 255) i (records_of es) 0 f (records-small es h))

-- every event of a plan is one of those
every_append : (es fs : List Event) → Every Plain es → Every Plain fs → Every Plain (es ++ fs)
every_append [] fs h g = g
every_append (e ∷ es) fs h g = (h.0, every_append es fs h.1 g)

plain : (kind value : ℕ) → kind ≤ 255 → value < 32768 → Plain (event kind value)
plain kind value l h = record { kind = kind; value = value; low = l; small = h; is = refl }

ticks-plain : (n : ℕ) → Every Plain (ticks n)
unfolding ticks
ticks-plain zero = tt
ticks-plain (suc n) = (plain 6 0 (omega arith) (omega arith), ticks-plain n)

bytes-plain : (bs : List ℕ) → Every (λ b. b ≤ 255) bs → Every Plain (map byte bs)
bytes-plain [] h = tt
bytes-plain (b ∷ bs) h = (plain 2 b (omega arith) (let l = h.0 in omega arith), bytes-plain bs h.1)

module _ (old image : List ℕ) (s : Slot) (k : ℕ) (below : k < slot_count) (bytes : Every (λ b. b ≤ 255) image) where
  selecting-plain : (now h : ℕ) → h ≤ 1 → Every Plain (selecting now h)
  unfolding selecting
  selecting-plain now h l = by-test (eqb h now) (λ e. rw e tt) (λ e. rw e (plain 1 0 (omega arith) (omega arith), (plain 2 (0x6C + 2 * h) (omega arith) (omega arith), (plain 4 0 (omega arith) (omega arith), tt))))

  writing-plain : (p : ℕ) → Every Plain (writing k (page_counter p) (page_at p image) s.length)
  unfolding writing
  writing-plain p = (
    plain 1 0 (omega arith) (omega arith),
    (
      plain 2 (0xA0 + 2 * k) (omega arith) (omega arith),
      (
        plain 2 (page_counter p) (omega arith) (unfold page_counter in omega arith),
        every_append (map byte (page_at p image)) (stop ∷ ticks s.length) (bytes-plain (page_at p image) (unfold page_at in every-part (λ b. b ≤ 255) page_bytes p image bytes)) (plain 4 0 (omega arith) (omega arith), ticks-plain s.length),
      ),
    ),
  )

  pages-plain : (p : ℕ) → p ≤ 32 → Every Plain (pages_before old image s k p)
  unfolding pages_before page_events
  pages-plain zero h = tt
  pages-plain (suc p) h = every_append (pages_before old image s k p) _ (pages-plain p (omega arith)) (by-test (differs old image p)
      (λ d. rw d (every_append (selecting (half_before old image s p) (page_half p)) _ (selecting-plain (half_before old image s p) (page_half p) (unfold page_half in omega arith)) (writing-plain p)))
      (λ d. rw d tt))

  pub plan-plain : Every Plain (five_ticks ++ pages_before old image s k 32)
  unfolding five_ticks
  plan-plain = every_append (ticks 5) (pages_before old image s k 32) (ticks-plain 5) (pages-plain 32 (omega arith))
