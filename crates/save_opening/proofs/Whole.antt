-- What a program that begins so has written, in whatever reads its input comes: where nothing follows all of it, and where something may, that nothing is
-- written yet, and what is begun with is what the form restores to.
-- Assumes nothing.
use mathlib.Core.Path.{◌≡◌, refl, sym, ◌∙◌, ap, ap₂}
use mathlib.Core.Bool.{Bool, true, false, false≢true}
use mathlib.Core.List.{List, [], ◌++◌, append-nil}
use Prim.Native.Nat.{ℕ, ◌<◌, ◌≤◌}
use native.Mathlib.Omega.{arith}
use borrow.Author.Tests.{lt-ltb, le-ltb, ltb-true, ltb-false}
use lib.Dec.{ltb}
use lib.ListN.{length, take, drop, length-append, drop_of_length-le, get_or-append}
use lib.Seq.{take_at, drop_at}
use Rattle.std.proofs.Common.{Result, Ok, Err}
use Rattle.proof_lists.specs.Tests.{by-test}
use Rattle.rules.specs.Refusals.{empty_bus}
use Rattle.script_text.specs.Letters.{short_line, refusal_line}
use Rattle.rules.specs.Runs.{Bench}
use Rattle.script_turns.specs.Frame.{starting_memory}
use Rattle.script_turns.proofs.frame.Laws.{written}
use Rattle.save_rules.specs.Reading.{accepted, restored}
use Rattle.save_rules.proofs.Back.{restores-form}
use Rattle.save_opening.specs.Opened.{Opened}
use Rattle.save_opening.specs.Opening.{bad_form_line, form_bytes, too_long, wanted_bytes, stopped_by, begun_by, begin_of, opened_by}
use Rattle.save_opening.proofs.Laws.{bad-form, starting-length, restores-none}

-- the length stands in the first four bytes
bytes-first : (head more : List ℕ) → length head ≡ 4 → form_bytes (head ++ more) ≡ form_bytes head
unfolding form_bytes
bytes-first head more l =
    rw (get_or-append head more 0 0 (omega arith), get_or-append head more 0 1 (omega arith), get_or-append head more 0 2 (omega arith), get_or-append head more 0 3 (omega arith))

long-first : (head more : List ℕ) → length head ≡ 4 → too_long (head ++ more) ≡ too_long head
unfolding too_long
long-first head more l = ap (ltb 65535) (bytes-first head more l)

-- what is due for each sort of input: `k` has it for a form that came whole, and for what stands behind it
module _ (k : List ℕ → List ℕ → List ℕ) where
  by-cut-length : (bs : List ℕ) → length bs < 4 → opened_by k bs ≡ short_line
  unfolding opened_by
  by-cut-length bs l = rw (lt-ltb (length bs) 4 l)

  module _ (head more : List ℕ) (l : length head ≡ 4) where
    whole : ltb (length (head ++ more)) 4 ≡ false
    whole = le-ltb (length (head ++ more)) 4 (rw (length-append head more) (omega arith))

    by-too-long : too_long head ≡ true → opened_by k (head ++ more) ≡ bad_form_line
    unfolding opened_by
    by-too-long t = rw (whole, long-first head more l, t)

    by-cut : too_long head ≡ false → length more < form_bytes head → opened_by k (head ++ more) ≡ short_line
    unfolding opened_by
    by-cut t c = rw (whole, long-first head more l, t, drop_at head more 4 l, bytes-first head more l, lt-ltb (length more) (form_bytes head) c)

  pub by_form : (head form more : List ℕ) → length head ≡ 4 → too_long head ≡ false → length form ≡ form_bytes head
      → opened_by k (head ++ (form ++ more)) ≡ k form more
  unfolding opened_by
  by_form head form more l t n =
      let d : drop 4 (head ++ (form ++ more)) ≡ form ++ more = drop_at head (form ++ more) 4 l in
      let u : ltb (length (form ++ more)) (form_bytes head) ≡ false =
      le-ltb (length (form ++ more)) (form_bytes head) (rw (length-append form more) (omega arith)) in
      rw (whole head (form ++ more) l, long-first head (form ++ more) l, t, d, bytes-first head (form ++ more) l, u, take_at form more (form_bytes head) n, drop_at form more (form_bytes head) n)

is_bench : Result Bench ℕ → Bool
is_bench (Ok x) = true
is_bench (Err end) = false

bench_in : Result Bench ℕ → Bench → Bench
bench_in (Ok x) y = x
bench_in (Err end) y = y

put_by : Result Bench ℕ → List ℕ → List ℕ
put_by (Ok x) o = []
put_by (Err end) o = take end o

-- THE BEGINNING, of the contract of `open`
module _ (out o : List ℕ) (r : Result Bench ℕ) (p : Opened out r o) where
  abbrev head : List ℕ
  head = p.head

  abbrev form : List ℕ
  form = p.form

  goes-on : is_bench r ≡ is_bench (begin_of head form out).0
  goes-on = sym (ap (λ (b : Result Bench ℕ × List ℕ). is_bench b.0) p.begun)

  puts : put_by r o ≡ put_by (begin_of head form out).0 (begin_of head form out).1
  puts = sym (ap (λ (b : Result Bench ℕ × List ℕ). put_by b.0 b.1) p.begun)

  -- a form that came whole
  pub record Came : Type 0 where
    pub four : length head ≡ 4
    pub short : too_long head ≡ false
    pub whole : length form ≡ form_bytes head

  -- WHERE NOTHING FOLLOWS: the input ends in the length or in the form, or the length is too large or the form refused, whatever is behind it
  first : 6 ≤ length out → (k : List ℕ → List ℕ → List ℕ) → ((more : List ℕ) → accepted form starting_memory ≡ false → k form more ≡ bad_form_line) → is_bench r ≡ false
      → (more : List ℕ) → (length head < 4 → more ≡ []) × (length form < wanted_bytes head → more ≡ []) → put_by r o ≡ opened_by k (head ++ (form ++ more))
  unfolding begin_of stopped_by begun_by refusal_line wanted_bytes is_bench put_by
  first room k bad e more over =
      by-test (ltb (length head) 4)
      (λ c.
      let l : length head < 4 = ltb-true (length head) 4 c in
      let f : form ≡ [] = drop_of_length-le form (rw c at p.fits.1) in
      puts ∙ rw c (written out short_line room
      ∙ sym (ap (opened_by k) (ap₂ (λ (f i : List ℕ). head ++ (f ++ i)) f (over.0 l) ∙ append-nil head) ∙ by-cut-length k head l)))
      λ c.
      let l : length head ≡ 4 = let h = ltb-false (length head) 4 c in omega (arith, h, p.fits.0) in
      by-test (too_long head)
      (λ t. puts ∙ rw (c, t) (written out bad_form_line (omega arith) ∙ sym (by-too-long k head (form ++ more) l t)))
      λ t.
      by-test (ltb (length form) (form_bytes head))
      (λ f.
      let h : length form < form_bytes head = ltb-true (length form) (form_bytes head) f in
      let n : more ≡ [] = over.1 (rw (c, t) h) in
      puts ∙ rw (c, t, f) (written out short_line room
      ∙ sym (ap (λ (z : List ℕ). opened_by k (head ++ z)) (ap (form ++◌) n ∙ append-nil form) ∙ by-cut k head form l t h)))
      λ f.
      let n : length form ≡ form_bytes head = let h = ltb-false (length form) (form_bytes head) f in omega (arith, h, rw (c, t) at p.fits.1) in
      let g : accepted form starting_memory ≡ false =
      by-test (accepted form starting_memory)
      (λ g. absurd (false≢true (sym e ∙ goes-on ∙ rw (c, t, f, restores-form empty_bus starting_memory form starting-length g)))) (λ g. g) in
      puts ∙ rw (c, t, f, restores-none form g, bad-form) (written out bad_form_line (omega arith)
      ∙ sym (by_form k head form more l t n ∙ bad more g))

  -- WHERE SOMETHING MAY FOLLOW: nothing is put and the output is as it was, the form came whole and is accepted, and the bench is what it restores to
  pub record Restored (x : Bench) : Type 0 where
    pub came : Came
    pub good : accepted form starting_memory ≡ true
    pub kept : o ≡ out
    pub bench : x ≡ restored form starting_memory

  restores : (x : Bench) → is_bench r ≡ true → bench_in r x ≡ x → Restored x
  unfolding begin_of stopped_by begun_by refusal_line wanted_bytes restored is_bench bench_in
  restores x e y =
      let b : is_bench (begin_of head form out).0 ≡ true = sym goes-on ∙ e in
      by-test (ltb (length head) 4) (λ c. absurd (false≢true (rw c at b))) λ c.
      by-test (too_long head) (λ t. absurd (false≢true (rw (c, t) at b))) λ t.
      by-test (ltb (length form) (form_bytes head)) (λ f. absurd (false≢true (rw (c, t, f) at b))) λ f.
      let l : length head ≡ 4 = let h = ltb-false (length head) 4 c in omega (arith, h, p.fits.0) in
      let n : length form ≡ form_bytes head = let h = ltb-false (length form) (form_bytes head) f in omega (arith, h, rw (c, t) at p.fits.1) in
      by-test (accepted form starting_memory)
      (λ g.
      let s = restores-form empty_bus starting_memory form starting-length g in
      record {
        came = record { four = l; short = t; whole = n };
        good = g;
        kept = sym (ap (λ (z : Result Bench ℕ × List ℕ). z.1) p.begun) ∙ rw (c, t, f, s);
        bench = sym y ∙ sym (ap (λ (z : Result Bench ℕ × List ℕ). bench_in z.0 x) p.begun) ∙ rw (c, t, f, s);
      })
      (λ g. absurd (false≢true (rw (c, t, f, restores-none form g, bad-form) at b)))

-- so in the one case
pub writes-first : (out o : List ℕ) (end : ℕ) (p : Opened out (Err end) o) → 6 ≤ length out → (k : List ℕ → List ℕ → List ℕ)
    → ((more : List ℕ) → accepted p.form starting_memory ≡ false → k p.form more ≡ bad_form_line)
    → (more : List ℕ) → (length p.head < 4 → more ≡ []) × (length p.form < wanted_bytes p.head → more ≡ [])
    → take end o ≡ opened_by k (p.head ++ (p.form ++ more))
unfolding is_bench put_by
writes-first out o end p room k bad more over = first out o (Err end) p room k bad refl more over

-- and in the other
pub goes-restored : (out o : List ℕ) (x : Bench) (p : Opened out (Ok x) o) → Restored out o (Ok x) p x
unfolding is_bench bench_in
goes-restored out o x p = restores out o (Ok x) p x refl refl
