-- The program writes `written_for` of its input, in whatever reads that comes.
-- Assumes nothing.
use mathlib.Core.Path.{◌≡◌, refl, sym, ◌∙◌, ap, ap₂}
use mathlib.Core.Bool.{true, false, cond}
use mathlib.Core.List.{List, [], ◌++◌, append-nil}
use Prim.Native.Nat.{ℕ, ◌+◌, ◌%◌, ◌<◌, ◌≤◌}
use native.Mathlib.Omega.{arith}
use borrow.Author.Tests.{lt-ltb, le-ltb, ltb-true, ltb-false}
use lib.Dec.{ltb}
use lib.ListN.{length, get_or, take, drop, length-append, get_or-append}
use lib.Seq.{sets, length-take-le, take_all, take_at, drop_at, drop-drop}
use Rattle.std.specs.List.{list_all}
use Rattle.proof_lists.specs.Tests.{by-test}
use Rattle.rules.specs.declared.Bus.{Bus}
use Rattle.rules.specs.declared.SlotNo.{SlotNo}
use Rattle.rules.specs.Refusals.{good_pair, setup_of}
use Rattle.rules.specs.Runs.{Bench}
use Rattle.script_text.specs.Records.{pairs_of}
use Rattle.script_text.proofs.records.Laws.{pairs-of}
use Rattle.script_text.specs.Letters.{short_line}
use Rattle.bus_bench.specs.Beginning.{begun as opened}
use Rattle.script_turns.specs.Frame.{cut_setup, first_line, goes_on, begin_of}
use Rattle.script_turns.proofs.frame.Onward.{first-none}
use Rattle.script_turns.proofs.frame.Laws.{first-length, written}
use Rattle.script_turns.specs.Script.{records_in, bench_to}
use Rattle.script_turns.specs.Program.{Read, input_of, followed}
use Rattle.script_streams.specs.Reading.{Ran, turns_leave, begun}
use Rattle.script_streams.proofs.reading.Whole.{turns-left}
use Rattle.plan.specs.Asked.{end_text, answer_of, asked_bench, answer_to, written_for}
use Rattle.plan.specs.Program.{serve_writes, plan_writes}
use Rattle.plan.specs.Went.{Served}
use Rattle.plan.proofs.Laws.{text-fits}

-- what is written is the first line, and where it goes on what follows
writes-by : (head m slot image buf out : List ℕ) (rs : List Read) → 6 ≤ length out
    → plan_writes head m slot image rs buf out
    ≡ first_line head ++ cond (goes_on head) (serve_writes (setup_of (pairs_of head)).bus m slot image rs buf (sets out 0 (first_line head))) []
unfolding plan_writes begin_of followed opened
writes-by head m slot image buf out rs room =
    by-test (goes_on head)
    (λ g. rw (g, first-none head g))
    (λ g. rw g (written out (first_line head) (omega (arith, first-length head)) ∙ sym (append-nil (first_line head))))

-- AN INPUT THAT ENDS IN THE SETUP
pub writes-cut-setup : (head m slot image buf out : List ℕ) (rs : List Read) → length head < 16 → 6 ≤ length out
    → plan_writes head m slot image rs buf out ≡ written_for head
unfolding first_line goes_on cut_setup written_for
writes-cut-setup head m slot image buf out rs l room = writes-by head m slot image buf out rs room ∙ rw (lt-ltb (length head) 16 l)

-- what is written after a good setup and the records
serve-ends : (b : Bus) (m slot image buf out : List ℕ) (rs : List Read) → 9000 ≤ length out
    → serve_writes b m slot image rs buf out
    ≡ end_text (bench_to (record { bus = b; memory = m }) (input_of rs) (records_in (input_of rs))) (record { 0 = get_or slot 0 0 }) image (length m + length slot + length image) (length (input_of rs) % 4)
unfolding serve_writes answer_of
serve-ends b m slot image buf out rs room =
    let x : Bench = record { bus = b; memory = m } in
    let k : SlotNo = record { 0 = get_or slot 0 0 } in
    let n : ℕ = length m + length slot + length image in
    let t = turns-left (begun x buf out) [] rs refl (omega arith) refl in
    let r : Ran = turns_leave (begun x buf out) rs in
    let f : length (end_text r.bench k image n r.held) ≤ length r.out = omega (arith, text-fits r.bench k image n r.held, t.2) in
    written r.out (end_text r.bench k image n r.held) f ∙ ap₂ (λ y i. end_text y k image n i) t.0 t.1

-- AN INPUT THAT ENDS IN MEMORY, SLOT OR IMAGE
pub writes-cut : (head m slot image buf out : List ℕ) (rs : List Read) → length head ≡ 16 → length m + length slot + length image < 4609 → 9000 ≤ length out
    → plan_writes head m slot image rs buf out ≡ written_for (head ++ (m ++ (slot ++ image)))
unfolding first_line goes_on cut_setup written_for end_text
writes-cut head m slot image buf out rs l c room =
    let more : List ℕ = m ++ (slot ++ image) in
    let n : length (head ++ more) ≡ 16 + (length m + (length slot + length image)) =
    length-append head more ∙ rw (length-append m (slot ++ image), length-append slot image, l) in
    let a : ltb (length (head ++ more)) 16 ≡ false = le-ltb (length (head ++ more)) 16 (omega arith) in
    let b : ltb (length (head ++ more)) 4625 ≡ true = lt-ltb (length (head ++ more)) 4625 (omega arith) in
    let d : ltb (length head) 16 ≡ false = le-ltb (length head) 16 (omega arith) in
    let s : ltb (length m + length slot + length image) 4609 ≡ true = lt-ltb (length m + length slot + length image) 4609 c in
    by-test (list_all good_pair (pairs_of head))
    (λ g. writes-by head m slot image buf out rs (omega arith)
    ∙ rw (pairs-of head more l, a, b, d, g) (serve-ends (setup_of (pairs_of head)).bus m slot image buf out rs room ∙ rw s))
    (λ g. writes-by head m slot image buf out rs (omega arith) ∙ simp (pairs-of head more l, a, b, d, g))

-- ANY OTHER: setup, memory, slot and image are whole, the records come in reads of any sizes, and what is written is `written_for` of it all
pub writes-whole : (head m slot image buf out : List ℕ) (rs : List Read) → length head ≡ 16 → length m ≡ 4096 → length slot ≡ 1 → length image ≡ 512
    → 9000 ≤ length out → plan_writes head m slot image rs buf out ≡ written_for (head ++ (m ++ (slot ++ (image ++ input_of rs))))
unfolding first_line goes_on cut_setup written_for answer_to asked_bench end_text
writes-whole head m slot image buf out rs lh lm ls li room =
    let more : List ℕ = input_of rs in
    let bs : List ℕ = head ++ (m ++ (slot ++ (image ++ more))) in
    let n : length bs ≡ 4625 + length more =
    length-append head (m ++ (slot ++ (image ++ more)))
    ∙ rw (length-append m (slot ++ (image ++ more)), length-append slot (image ++ more), length-append image more, lh, lm, ls, li) (omega arith) in
    let a : ltb (length bs) 16 ≡ false = le-ltb (length bs) 16 (omega arith) in
    let b : ltb (length bs) 4625 ≡ false = le-ltb (length bs) 4625 (omega arith) in
    let d : ltb (length head) 16 ≡ false = le-ltb (length head) 16 (omega arith) in
    let s : ltb (length m + length slot + length image) 4609 ≡ false = le-ltb (length m + length slot + length image) 4609 (omega arith) in
    let p : pairs_of bs ≡ pairs_of head = pairs-of head (m ++ (slot ++ (image ++ more))) lh in
    let d₁ : drop 16 bs ≡ m ++ (slot ++ (image ++ more)) = drop_at head (m ++ (slot ++ (image ++ more))) 16 lh in
    let d₂ : drop 4112 bs ≡ slot ++ (image ++ more) = sym (drop-drop 4096 16 bs) ∙ ap (drop 4096) d₁ ∙ drop_at m (slot ++ (image ++ more)) 4096 lm in
    let d₃ : drop 4113 bs ≡ image ++ more = sym (drop-drop 1 4112 bs) ∙ ap (drop 1) d₂ ∙ drop_at slot (image ++ more) 1 ls in
    let d₄ : drop 4625 bs ≡ more = sym (drop-drop 512 4113 bs) ∙ ap (drop 512) d₃ ∙ drop_at image more 512 li in
    let t₁ : take 4096 (drop 16 bs) ≡ m = ap (take 4096) d₁ ∙ take_at m (slot ++ (image ++ more)) 4096 lm in
    let t₂ : get_or (drop 4112 bs) 0 0 ≡ get_or slot 0 0 = ap (λ (z : List ℕ). get_or z 0 0) d₂ ∙ get_or-append slot (image ++ more) 0 0 (omega arith) in
    let t₃ : take 512 (drop 4113 bs) ≡ image = ap (take 512) d₃ ∙ take_at image more 512 li in
    by-test (list_all good_pair (pairs_of head))
    (λ g. writes-by head m slot image buf out rs (omega arith)
    ∙ rw (a, b, d, p, g, d₄, t₁, t₂, t₃) (serve-ends (setup_of (pairs_of head)).bus m slot image buf out rs room ∙ rw s))
    (λ g. writes-by head m slot image buf out rs (omega arith) ∙ simp (a, b, d, p, g))

-- an input that is cut before the records, whatever is made of it
cut_short : (x : Bench) (k : SlotNo) (image out o : List ℕ) (came left end : ℕ) → ltb came 4609 ≡ true → answer_of x k image came left out ≡ (end, o) → 9000 ≤ length out
    → take end o ≡ short_line
unfolding answer_of end_text
cut_short x k image out o came left end c a room =
    ap (λ (z : ℕ × List ℕ). take z.0 z.1) (sym a) ∙ rw c (written out short_line (omega arith))

cut-serve : (b : Bus) (m slot image buf out : List ℕ) (rs : List Read) → 9000 ≤ length out → length m + length slot + length image < 4609
    → serve_writes b m slot image rs buf out ≡ short_line
unfolding end_text
cut-serve b m slot image buf out rs room c = serve-ends b m slot image buf out rs room ∙ rw (lt-ltb (length m + length slot + length image) 4609 c)

-- WHAT THE CODE DOES BEHIND THE SETUP (`serve` and its contract): of the bytes that came as memory, slot and image, and of some reads, this is written
pub served : (x : Bench) (out o : List ℕ) (end : ℕ) (s : Served x out end o) → 9000 ≤ length out
    → take end o
    ≡ serve_writes x.bus (take s.bytes s.memory) (take s.number s.slot) (take s.wanted s.image) s.ended.reached.reads s.ended.buf out
unfolding serve_writes
served x out o end s room =
    let rs : List Read = s.ended.reached.reads in
    let buf : List ℕ = s.ended.buf in
    let r : Ran = turns_leave (begun (record { bus = x.bus; memory = s.memory }) buf out) rs in
    let k : SlotNo = record { 0 = get_or s.slot 0 0 } in
    let came : ℕ = s.bytes + s.number + s.wanted in
    let a : answer_of r.bench k s.image came r.held r.out ≡ (end, o) =
    ap (λ (z : Ran). answer_of z.bench k s.image came z.held z.out) s.ended.reached.turned
    ∙ ap (λ (i : ℕ). answer_of s.bench k s.image came i s.left) (sym s.ended.told) ∙ s.answered in
    by-test (ltb came 4609)
    (λ c. cut_short r.bench k s.image r.out o came r.held end c a (omega (arith, (turns-left (begun (record { bus = x.bus; memory = s.memory }) buf out) [] rs refl (omega arith) refl).2))
    ∙ sym (cut-serve x.bus (take s.bytes s.memory) (take s.number s.slot) (take s.wanted s.image) buf out rs room
    (rw (length-take-le s.bytes s.memory (omega arith), length-take-le s.number s.slot (omega arith), length-take-le s.wanted s.image (omega arith)) (ltb-true came 4609 c))))
    (λ c.
    let l : 4609 ≤ came = ltb-false came 4609 c in
    let u : take s.bytes s.memory ≡ s.memory = take_all s.bytes s.memory (omega arith) in
    let v : take s.number s.slot ≡ s.slot = take_all s.number s.slot (omega arith) in
    let w : take s.wanted s.image ≡ s.image = take_all s.wanted s.image (omega arith) in
    let n : came ≡ length s.memory + length s.slot + length s.image = omega arith in
    rw (u, v, w)
    (ap (λ (z : ℕ × List ℕ). take z.0 z.1) (sym a)
    ∙ ap (λ (i : ℕ). take (answer_of r.bench k s.image i r.held r.out).0 (answer_of r.bench k s.image i r.held r.out).1) n))
