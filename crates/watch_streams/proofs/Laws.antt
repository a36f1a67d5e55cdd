-- The steps as the code takes them, and read after read.
-- Assumes nothing.
use mathlib.Core.Path.{◌≡◌, refl, sym, ◌∙◌, ap, ap₂}
use mathlib.Core.Bool.{Bool, true, false, not, false≢true}
use mathlib.Core.List.{List, [], ◌∷◌, ◌++◌}
use Prim.Native.Nat.{ℕ, ◌+◌, ◌≤◌, ◌<◌}
use native.Mathlib.Nat.{zero-add}
use native.Mathlib.Omega.{arith}
use borrow.Author.Tests.{lt-ltb, le-ltb, ltb-true, ltb-false}
use lib.Dec.{ltb}
use Rattle.std.proofs.Common.{Result, Ok, Err}
use lib.ListN.{length, take, length-append}
use lib.Seq.{sets, length-take-le}
use Rattle.rules.specs.declared.Answer.{Answer}
use Rattle.rules.specs.declared.Bus.{Bus}
use Rattle.rules.specs.declared.Event.{Event}
use Rattle.rules.specs.Runs.{Bench, next, answered}
use Rattle.script_text.specs.Records.{record_at}
use Rattle.script_text.specs.Letters.{line_of}
use Rattle.script_text.proofs.letters.Laws.{Put, put_on}
use Rattle.script_turns.specs.Frame.{last_line, finish_of}
use Rattle.script_turns.proofs.frame.Laws.{last-length}
use Rattle.script_streams.specs.Reading.{most_reads}
use Rattle.watch_text.specs.Lines.{change_lines, bench_lines}
use Rattle.watch_streams.specs.Texts.{record_text}
use Rattle.watch_streams.specs.Steps.{cut, read_text, read_next, step_of, onward}
use Rattle.watch_streams.specs.Reading.{bench_left, out_left, UpToLast, Exhausted, Watched}

-- fewer bytes than a record has
pub cut_by : (x : Bench) (bs out o : List ℕ) (end : ℕ) → length bs < 4 → finish_of (length bs) out ≡ (end, o)
    → (step_of x bs out ≡ (end, x, o)) × (end ≤ 6)
unfolding step_of read_text read_next finish_of
cut_by x bs out o end h e =
    let c : cut bs ≡ true = lt-ltb (length bs) 4 h in
    let k : length (last_line (length bs)) ≡ end = ap (λ (z : ℕ × List ℕ). z.0) e in
    (rw c (λ i. ((e i).0, x, (e i).1)), omega (arith, last-length (length bs)))

-- a record: its line, and those of the slots
pub step_by : (x : Bench) (bs out : List ℕ) (e : Event) (a : Answer) (y : Bench) (o p : List ℕ) (line end : ℕ)
    → 4 ≤ length bs → e ≡ record_at bs 0 → y ≡ next e x → a ≡ answered e x
    → Put out 0 (line_of a) line o → Put o line (change_lines x.bus.slots y.bus.slots) end p → step_of x bs out ≡ (end, y, p)
unfolding step_of read_text read_next record_text
step_by x bs out e a y o p line end h f n w k l =
    let c : cut bs ≡ false = le-ltb (length bs) 4 h in
    let after : y ≡ next (record_at bs 0) x = n ∙ ap (λ (v : Event). next v x) f in
    let t : line_of a ++ change_lines x.bus.slots y.bus.slots ≡ record_text (record_at bs 0) x =
    ap₂ (λ (v : List ℕ) (z : Bench). v ++ change_lines x.bus.slots z.bus.slots) (ap line_of (w ∙ ap (λ (v : Event). answered v x) f)) after in
    let q : Put out 0 (record_text (record_at bs 0) x) end p =
    rw t at (put_on out o p 0 line end (line_of a) (change_lines x.bus.slots y.bus.slots) k l) in
    let j : length (record_text (record_at bs 0) x) ≡ end = sym (q.0 ∙ zero-add _) in
    rw c (λ i. (j i, sym after i, sym q.1 i))

-- where the telling went well, more is waited for behind a whole record alone
same-ok : {E : Type 0} {a b : Bool} → ◌≡◌ {A = Result Bool E} (Ok a) (Ok b) → a ≡ b
same-ok h = grind arith

err-not-ok : {E : Type 0} {e : E} {b : Bool} → ◌≡◌ {A = Result Bool E} (Err e) (Ok b) → ⊥
err-not-ok h = grind arith

onward-is : {T E : Type 0} (t : Result T E) (n : ℕ) (b : Bool) → onward t n ≡ Ok b → not (ltb n 4) ≡ b
onward-is (Ok u) n b h = same-ok h
onward-is (Err e) n b h = absurd (err-not-ok h)

negated : (a b : Bool) → not a ≡ b → a ≡ not b
negated true b h = ap not h
negated false b h = ap not h

pub onward-cut : {T E : Type 0} (t : Result T E) (n : ℕ) (b : Bool) → onward t n ≡ Ok b → b ≡ false → n < 4
onward-cut t n b h f = ltb-true n 4 (negated (ltb n 4) b (onward-is t n b h) ∙ ap not f)

pub onward-whole : {T E : Type 0} (t : Result T E) (n : ℕ) (b : Bool) → onward t n ≡ Ok b → b ≡ true → 4 ≤ n
onward-whole t n b h f = ltb-false n 4 (negated (ltb n 4) b (onward-is t n b h) ∙ ap not f)

-- reads that were all whole records
unfoldable pub Each : List (List ℕ) → Type 0
Each [] = Unit {0}
Each (c ∷ cs) = (length c ≡ 4) × Each cs

each_more : (cs : List (List ℕ)) (c : List ℕ) → Each cs → length c ≡ 4 → Each (cs ++ c ∷ [])
unfolding Each
each_more [] c a e = (e, tt)
each_more (d ∷ cs) c a e = (a.0, each_more cs c a.1 e)

each_last : (cs : List (List ℕ)) → Each cs → UpToLast cs
unfolding Each UpToLast
each_last [] a = tt
each_last (c ∷ []) a = omega (arith, a.0)
each_last (c ∷ d ∷ cs) a = (a.0, each_last (d ∷ cs) a.1)

-- and one more
last_more : (cs : List (List ℕ)) (c : List ℕ) → Each cs → length c ≤ 4 → UpToLast (cs ++ c ∷ [])
unfolding Each UpToLast
last_more [] c a h = h
last_more (d ∷ []) c a h = (a.0, h)
last_more (d ∷ e ∷ cs) c a h = (a.0, last_more (e ∷ cs) c a.1 h)

over-more : (cs : List (List ℕ)) (c : List ℕ) → Each cs → cut c ≡ true → Exhausted (cs ++ c ∷ [])
unfolding Each Exhausted
over-more [] c a h = h
over-more (d ∷ []) c a h = (a.0, h)
over-more (d ∷ e ∷ cs) c a h = (a.0, over-more (e ∷ cs) c a.1 h)

bench-more : (x : Bench) (cs : List (List ℕ)) (c : List ℕ) → bench_left x (cs ++ c ∷ []) ≡ read_next (bench_left x cs) c
unfolding bench_left
bench-more x [] c = refl
bench-more x (d ∷ cs) c = bench-more (read_next x d) cs c

out-more : (x : Bench) (out : List ℕ) (cs : List (List ℕ)) (c : List ℕ) → out_left x out (cs ++ c ∷ []) ≡ sets (out_left x out cs) 0 (read_text (bench_left x cs) c)
unfolding out_left bench_left
out-more x out [] c = refl
out-more x out (d ∷ cs) c = out-more (read_next x d) (sets out 0 (read_text x d)) cs c

-- the first lines, of the bench as it is seen
pub first-lines : (x : Bench) (b : Bus) (m out first : List ℕ) → record { bus = b; memory = m } ≡ x → first ≡ sets out 0 (bench_lines b)
    → first ≡ sets out 0 (bench_lines x.bus)
first-lines x b m out first e f = f ∙ ap (λ (y : Bench). sets out 0 (bench_lines y.bus)) e

-- what the reads so far led to, where they go on
pub record Ongoing (x : Bench) (out₀ : List ℕ) (y : Bench) (out : List ℕ) (number : ℕ) : Type 0 where
  pub reads : List (List ℕ)
  pub bench : y ≡ bench_left x reads
  pub put : out ≡ out_left x out₀ reads
  pub made : length reads ≡ number
  pub whole : Each reads

pub ongoing-none : (x : Bench) (out : List ℕ) → Ongoing x out x out 0
unfolding bench_left out_left Each
ongoing-none x out = record { reads = []; bench = refl; put = refl; made = refl; whole = tt }

-- where the first lines could not be written there is no read
pub watched-none : (x : Bench) (out first : List ℕ) → first ≡ sets out 0 (bench_lines x.bus) → Watched x out false x first
unfolding bench_left out_left UpToLast
watched-none x out first f = record { reads = []; bench = refl; put = f; before = tt; over = λ e _. absurd (false≢true e) }

module _ (x : Bench) (out first : List ℕ) (f : first ≡ sets out 0 (bench_lines x.bus)) (y : Bench) (o : List ℕ) (number : ℕ) (a : Ongoing x first y o number) where
  -- one read more: it is of four bytes at most
  module _ (four : List ℕ) (n : ℕ) (h : n ≤ length four) (l : length four ≡ 4) (end : ℕ) (z : Bench) (p : List ℕ) (e : step_of y (take n four) o ≡ (end, z, p)) where
    came-length : length (take n four) ≡ n
    came-length = length-take-le n four h

    more-bench : z ≡ bench_left x (a.reads ++ take n four ∷ [])
    unfolding step_of
    more-bench = sym (ap (λ (v : ℕ × Bench × List ℕ). v.1) e) ∙ ap (λ (v : Bench). read_next v (take n four)) a.bench ∙ sym (bench-more x a.reads (take n four))

    more-put : p ≡ out_left x first (a.reads ++ take n four ∷ [])
    unfolding step_of
    more-put =
        sym (ap (λ (v : ℕ × Bench × List ℕ). v.2) e)
        ∙ ap₂ (λ (u : List ℕ) (v : Bench). sets u 0 (read_text v (take n four))) a.put a.bench ∙ sym (out-more x first a.reads (take n four))

    pub ongoing-more : 4 ≤ n → Ongoing x first z p (number + 1)
    ongoing-more k = record {
      reads = a.reads ++ take n four ∷ [];
      bench = more-bench;
      put = more-put;
      made = length-append a.reads (take n four ∷ []) ∙ ap (◌+ 1) a.made;
      whole = each_more a.reads (take n four) a.whole (omega (arith, came-length));
    }

    -- and then the end, of the input or of the telling
    pub watched-by : (told : Bool) → (told ≡ true → n < 4) → Watched x out told z p
    watched-by told t = record {
      reads = a.reads ++ take n four ∷ [];
      bench = more-bench;
      put = more-put ∙ ap (λ (u : List ℕ). out_left x u (a.reads ++ take n four ∷ [])) f;
      before = last_more a.reads (take n four) a.whole (omega (arith, came-length));
      over = λ d _. over-more a.reads (take n four) a.whole (lt-ltb (length (take n four)) 4 (rw came-length (t d)));
    }

  -- more reads than any input has
  pub watched-over : number ≡ most_reads → Watched x out true y o
  watched-over k = record {
    reads = a.reads;
    bench = a.bench;
    put = a.put ∙ ap (λ (u : List ℕ). out_left x u a.reads) f;
    before = each_last a.reads a.whole;
    over = λ _ n. absurd (n (a.made ∙ k));
  }
