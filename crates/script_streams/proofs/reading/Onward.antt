-- Reads one after another: a read as what came and what stands behind it, and one read more.
-- Assumes nothing.
use mathlib.Core.Path.{◌≡◌, refl, sym, ◌∙◌, ap, ap₂}
use mathlib.Core.Bool.{true, false≢true}
use mathlib.Core.List.{List, [], ◌∷◌, ◌++◌}
use Prim.Native.Nat.{ℕ, ◌+◌, ◌%◌, ◌<◌, ◌≤◌}
use native.Mathlib.Omega.{arith}
use borrow.Author.Tests.{lt-ltb}
use lib.Dec.{ltb}
use lib.ListN.{length, take, drop, take-append-drop, length-drop, length-append}
use lib.Seq.{length-take-le}
use Rattle.std.proofs.Common.{Option, Some, None}
use Rattle.std.specs.Prelude.{IfSome, IsSome}
use Rattle.rules.specs.Runs.{Bench}
use Rattle.script_turns.specs.declared.turns.Turned.{Turned}
use Rattle.script_turns.specs.Frame.{finish_of}
use Rattle.script_turns.specs.Steps.{turn_of}
use Rattle.script_turns.specs.Program.{Read, read_into, input_of, Fits}
use Rattle.script_streams.specs.Reading.{brought, Ran, turns_leave, begun, Reached, UpToLast, most_reads, Ended, finished_by, Served}
use Rattle.script_streams.proofs.reading.Whole.{turns-left}

-- the read that left a buffer
module _ (buf read : List ℕ) (held n : ℕ) where
  abbrev came : Read
  came = record { came = take n (drop held read); behind = drop n (drop held read) }

  came-into : take held read ≡ take held buf → read_into buf held came ≡ read
  unfolding read_into
  came-into e = ap₂ ◌++◌ (sym e) (take-append-drop n (drop held read)) ∙ take-append-drop held read

  came-length : held + n ≤ length read → length came.came ≡ n
  came-length h = length-take-le n (drop held read) (rw (length-drop held read) (omega arith))

-- a turn over it
pub turned-by : (q : Ran) (read : List ℕ) (n : ℕ) (t : Turned) (y : Bench) (moved written : List ℕ) → take q.held read ≡ take q.held q.buf
    → turn_of q.bench read q.held n q.out ≡ (t, y, moved, written) → q.held + n ≤ length read
    → turns_leave q (came q.buf read q.held n ∷ []) ≡ record { bench = y; buf = moved; held = t.held; came = ltb 0 n; out = written }
unfolding turns_leave
turned-by q read n t y moved written k e h =
    let c : Read = came q.buf read q.held n in
    let l : length c.came ≡ n = came-length q.buf read q.held n h in
    let z : brought c ≡ ltb 0 n = ap (ltb 0) l in
    let p : turn_of q.bench (read_into q.buf q.held c) q.held (length c.came) q.out ≡ (t, y, moved, written) =
    ap₂ (λ (b : List ℕ) (i : ℕ). turn_of q.bench b q.held i q.out) (came-into q.buf read q.held n k) l ∙ e in
    λ i. record { bench = (p i).1; buf = (p i).2; held = (p i).0.held; came = z i; out = (p i).3 }

-- no read yet, and one more
pub reached-none : (q : Ran) → Reached q q
unfolding turns_leave
reached-none q = record { reads = []; turned = refl }

pub reached-more : (q r s : Ran) (a : Reached q r) (p : Read) → turns_leave r (p ∷ []) ≡ s → Reached q s
unfolding turns_leave
reached-more q r s a p e = record { reads = a.reads ++ p ∷ []; turned = more a.reads q p ∙ ap (λ (z : Ran). turns_leave z (p ∷ [])) a.turned ∙ e }
  where
    more : (rs : List Read) (q : Ran) (r : Read) → turns_leave q (rs ++ r ∷ []) ≡ turns_leave (turns_leave q rs) (r ∷ [])
    more [] q r = refl
    more (p ∷ rs) q r = more rs _ r

-- reads that all brought something, and one more
unfoldable pub Each : List Read → Type 0
Each [] = Unit {0}
Each (r ∷ rs) = (brought r ≡ true) × Each rs

each_more : (rs : List Read) (r : Read) → Each rs → brought r ≡ true → Each (rs ++ r ∷ [])
unfolding Each
each_more [] r a e = (e, tt)
each_more (p ∷ rs) r a e = (a.0, each_more rs r a.1 e)

each_last : (rs : List Read) → Each rs → UpToLast rs
unfolding Each UpToLast
each_last [] a = tt
each_last (p ∷ []) a = tt
each_last (p ∷ r ∷ rs) a = (a.0, each_last (r ∷ rs) a.1)

last_more : (rs : List Read) (r : Read) → Each rs → UpToLast (rs ++ r ∷ [])
unfolding Each UpToLast
last_more [] r a = tt
last_more (p ∷ []) r a = (a.0, tt)
last_more (p ∷ s ∷ rs) r a = (a.0, last_more (s ∷ rs) r a.1)

-- reads that fit, and one more behind what is then held
fits_more : (room held : ℕ) (rs : List Read) (r : Read) → held < 4 → Fits room held rs → (held + length (input_of rs)) % 4 + length r.came ≤ room
    → Fits room held (rs ++ r ∷ [])
unfolding Fits input_of
fits_more room held [] r h f l = (omega arith, tt)
fits_more room held (p ∷ rs) r h f l = (
  f.0,
  fits_more room ((held + length p.came) % 4) rs r (omega arith) f.1 (omega (arith, length-append p.came (input_of rs))),
)

-- where the reads go on: all had room and brought something
pub record Ongoing (x : Bench) (buf₀ out₀ : List ℕ) (number : ℕ) (y : Bench) (buf : List ℕ) (held : ℕ) (out : List ℕ) : Type 0 where
  pub reached : Reached (begun x buf₀ out₀) (record { bench = y; buf = buf; held = held; came = true; out = out })
  pub fits : Fits 65536 0 reached.reads
  pub each : Each reached.reads
  pub made : length reached.reads ≡ number

pub ongoing-none : (x : Bench) (buf out : List ℕ) → Ongoing x buf out 0 x buf 0 out
unfolding Each Fits reached-none
ongoing-none x buf out = record { reached = reached-none _; fits = tt; each = tt; made = refl }

-- one read more
module _ (x : Bench) (buf₀ out₀ : List ℕ) (number : ℕ) (y : Bench) (buf : List ℕ) (held : ℕ) (out : List ℕ)
    (a : Ongoing x buf₀ out₀ number y buf held out)
    (read : List ℕ) (n : ℕ) (t : Turned) (z : Bench) (moved written : List ℕ)
    (k : take held read ≡ take held buf) (e : turn_of y read held n out ≡ (t, z, moved, written)) (h : held + n ≤ length read) (f : length read ≡ 65536) where
  next : Read
  next = came buf read held n

  next-came : length next.came ≡ n
  unfolding next
  next-came = came-length buf read held n h

  next-reached : Reached (begun x buf₀ out₀) (record { bench = z; buf = moved; held = t.held; came = ltb 0 n; out = written })
  next-reached = reached-more _ _ _ a.reached next (unfold next in turned-by (record { bench = y; buf = buf; held = held; came = true; out = out }) read n t z moved written k e h)

  next-fits : Fits 65536 0 (a.reached.reads ++ next ∷ [])
  next-fits =
      let w = turns-left (begun x buf₀ out₀) [] a.reached.reads refl (omega arith) refl in
      let i : held ≡ length (input_of a.reached.reads) % 4 = sym (ap (λ (z : Ran). z.held) a.reached.turned) ∙ w.1 in
      fits_more 65536 0 a.reached.reads next (omega arith) a.fits (omega (arith, next-came))

  pub ongoing-more : 0 < n → Ongoing x buf₀ out₀ (number + 1) z moved t.held written
  unfolding next-reached reached-more
  ongoing-more o =
      let b : ltb 0 n ≡ true = lt-ltb 0 n o in
      record {
        reached = record { reads = next-reached.reads; turned = next-reached.turned ∙ ap (λ c. record { bench = z; buf = moved; held = t.held; came = c; out = written }) b };
        fits = next-fits;
        each = each_more a.reached.reads next a.each (ap (ltb 0) next-came ∙ b);
        made = length-append a.reached.reads (next ∷ []) ∙ ap (◌+ 1) a.made;
      }

  -- and then the end, of the input or of the telling
  pub ended_by : (end : Option ℕ) → IfSome end (λ i. i ≡ t.held) → (IsSome end → n ≡ 0) → Ended x out₀ end z written
  unfolding next-reached reached-more
  ended_by end w o = record {
    buf = buf₀;
    moved = moved;
    held = t.held;
    came = ltb 0 n;
    reached = next-reached;
    fits = next-fits;
    before = last_more a.reached.reads next a.each;
    told = w;
    over = λ s c. absurd (nothing (o s) c);
  }
    where
      nothing : n ≡ 0 → ltb 0 n ≡ true → ⊥
      nothing i c = false≢true (sym (ap (ltb 0) i) ∙ c)

pub ended-over : (x : Bench) (buf₀ out₀ : List ℕ) (number : ℕ) (y : Bench) (buf : List ℕ) (held : ℕ) (out : List ℕ) → Ongoing x buf₀ out₀ number y buf held out
    → number ≡ most_reads → Ended x out₀ (Some held) y out
ended-over x buf₀ out₀ number y buf held out a e = record {
  buf = buf₀;
  moved = buf;
  held = held;
  came = true;
  reached = a.reached;
  fits = a.fits;
  before = each_last a.reached.reads a.each;
  told = refl;
  over = λ _ _. a.made ∙ e;
}

-- the last line, or none after a write that failed
module _ (x : Bench) (out : List ℕ) (y : Bench) (left : List ℕ) where
  pub served-told : (held end : ℕ) (written : List ℕ) → Ended x out (Some held) y left → finish_of held left ≡ (end, written) → Served x out y written
  unfolding finished_by
  served-told held end written e f = record { end = Some held; left = left; ended = e; finished = sym (ap (λ (z : ℕ × List ℕ). z.1) f) }

  pub served-untold : Ended x out None y left → Served x out y left
  unfolding finished_by
  served-untold e = record { end = None; left = left; ended = e; finished = refl }
