-- What each branch of the code gives is what the beginning's definition says.
-- Assumes nothing.
use mathlib.Core.Path.{◌≡◌, refl, sym, ◌∙◌, ap}
use mathlib.Core.Bool.{Bool, true, false, false≢true}
use mathlib.Core.List.{List, [], ◌∷◌}
use Prim.Native.Nat.{ℕ, ◌≤◌, ◌<◌}
use native.Mathlib.Omega.{arith}
use borrow.Author.Tests.{lt-ltb, le-ltb, eq-eqb}
use lib.ListN.{length, length-replicate}
use lib.Seq.{sets}
use Rattle.std.proofs.Common.{Ok, Err}
use Rattle.proof_lists.specs.Tests.{by-test}
use Rattle.rules.specs.declared.Answer.{Answer}
use Rattle.rules.specs.declared.Answer.TheVariants as answer
use Rattle.rules.specs.declared.Answer.TheVariants.{Refused}
use Rattle.rules.specs.declared.Outcome.{Outcome}
use Rattle.rules.specs.declared.Refusal.{Refusal}
use Rattle.rules.specs.declared.Refusal.TheVariants.{WrongForm}
use Rattle.rules.specs.Events.{letter_of, refusal_number}
use Rattle.rules.specs.Modelled.{memory_bytes}
use Rattle.rules.specs.Refusals.{wrong_length, in_range, good_pair, empty_bus, setup_of}
use Rattle.rules.specs.Runs.{Bench}
use Rattle.rules.proofs.Range.Kept.{setup-in-range}
use Rattle.bus_bench.specs.Beginning.{begun}
use Rattle.script_text.specs.Decimal.{digit, decimal_in, decimal}
use Rattle.script_text.specs.Letters.{digits_of, line_of, short_line, refusal_line}
use Rattle.script_text.proofs.letters.Laws.{Put, at_front}
use Rattle.script_turns.specs.Frame.{starting_memory}
use Rattle.save_rules.specs.Reading.{bus_in, memory_in, accepted, restore_of}
use Rattle.save_rules.proofs.Back.{restores-form}
use Rattle.save_rules.proofs.Once.{accepted-in-range}
use Rattle.save_opening.specs.Opening.{bad_form_line, form_bytes, too_long, wanted_bytes, stopped_by, begun_by, begin_of}

-- the line of a form that is refused
pub bad-form : line_of (Refused WrongForm) ≡ bad_form_line
unfolding line_of letter_of digits_of refusal_number decimal decimal_in digit
bad-form = refl

-- how much is read as the form
module _ (head : List ℕ) where
  pub wanted-cut : length head < 4 → (0 ≡ wanted_bytes head) × (0 ≤ 65535)
  unfolding wanted_bytes
  wanted-cut h = (rw (lt-ltb (length head) 4 h), omega arith)

  pub wanted-none : (size : ℕ) → 4 ≤ length head → size ≡ form_bytes head → 65535 < size → (0 ≡ wanted_bytes head) × (0 ≤ 65535)
  unfolding wanted_bytes too_long
  wanted-none size h e l = (rw (le-ltb (length head) 4 h, sym e, lt-ltb 65535 size l), omega arith)

  pub wanted-all : (size : ℕ) → 4 ≤ length head → size ≡ form_bytes head → size ≤ 65535 → (size ≡ wanted_bytes head) × (size ≤ 65535)
  unfolding wanted_bytes too_long
  wanted-all size h e l = (rw (le-ltb (length head) 4 h, sym e, le-ltb 65535 size l), l)

-- the beginning: a length that is cut, one that is too large, and a form that is cut
module _ (head form out o : List ℕ) where
  pub begin-cut : (end : ℕ) → length head < 4 → (end ≡ 6) × (o ≡ sets out 0 short_line) → begin_of head form out ≡ (Err end, o)
  unfolding begin_of stopped_by
  begin-cut end h p = rw (lt-ltb (length head) 4 h, p.0, p.1)

  pub begin-long : (size end : ℕ) → 4 ≤ length head → size ≡ form_bytes head → 65535 < size → Put out 0 (line_of (Refused WrongForm)) end o
      → begin_of head form out ≡ (Err end, o)
  unfolding begin_of stopped_by too_long
  begin-long size end h e l p =
      let w = at_front out o end (line_of (Refused WrongForm)) p in
      let a : end ≡ length bad_form_line = w.0 ∙ ap length bad-form in
      let b : o ≡ sets out 0 bad_form_line = w.1 ∙ ap (sets out 0) bad-form in
      rw (le-ltb (length head) 4 h, sym e, lt-ltb 65535 size l, a, b)

  pub begin-short : (size end : ℕ) → 4 ≤ length head → size ≡ form_bytes head → size ≤ 65535 → length form < size
      → (end ≡ 6) × (o ≡ sets out 0 short_line) → begin_of head form out ≡ (Err end, o)
  unfolding begin_of stopped_by too_long
  begin-short size end h e l c p = rw (le-ltb (length head) 4 h, sym e, le-ltb 65535 size l, lt-ltb (length form) size c, p.0, p.1)

-- memory as it starts
pub starting-length : length starting_memory ≡ memory_bytes
unfolding starting_memory
starting-length = length-replicate {A = ℕ} memory_bytes 0xFF

-- a form that is refused
pub restores-none : (form : List ℕ) → accepted form starting_memory ≡ false
    → restore_of empty_bus starting_memory form ≡ (record { bus = empty_bus; answer = Refused WrongForm }, starting_memory)
unfolding restore_of wrong_length
restores-none form a = rw (eq-eqb (length starting_memory) memory_bytes starting-length, a)

-- the bus of a bench that nothing is restored to is in range
pub empty-in-range : in_range empty_bus ≡ true
unfolding setup_of good_pair
empty-in-range = setup-in-range (record { kind = 4; length = 0 } ∷ [])

is_nothing : Answer → Bool
is_nothing answer.Nothing = true
is_nothing _ = false

why_of : Answer → Refusal
why_of (answer.Refused r) = r
why_of _ = WrongForm

-- and a form that was read, from the bench that it is restored to
module _ (form p : List ℕ) (x : Outcome) (y : Bench) (f : y ≡ begun empty_bus) (g : restore_of y.bus y.memory form ≡ (x, p)) where
  restores : restore_of empty_bus starting_memory form ≡ (x, p)
  unfolding starting_memory begun
  restores = ap (λ (z : Bench). restore_of z.bus z.memory form) (sym f) ∙ g

  -- one that is accepted
  module _ (n : (r : Refusal) → x.answer ≡ Refused r → ⊥) where
    good : accepted form starting_memory ≡ true
    good =
        by-test (accepted form starting_memory) (λ a. a)
        (λ a. absurd (n WrongForm (ap (λ (z : Outcome × List ℕ). z.0.answer) (sym restores ∙ restores-none form a))))

    back : ◌≡◌ {A = Outcome × List ℕ} (x, p) (record { bus = bus_in form; answer = answer.Nothing }, memory_in form starting_memory)
    back = sym restores ∙ restores-form empty_bus starting_memory form starting-length good

    pub restored-in-range : in_range x.bus ≡ true
    restored-in-range = ap (λ (z : Outcome × List ℕ). in_range z.0.bus) back ∙ accepted-in-range form starting_memory good

    pub begin-good : (head out : List ℕ) (size : ℕ) → 4 ≤ length head → size ≡ form_bytes head → size ≤ 65535 → size ≤ length form
        → begin_of head form out ≡ (Ok (record { bus = x.bus; memory = p }), out)
    unfolding begin_of begun_by too_long refusal_line
    begin-good head out size h e l c =
        rw (le-ltb (length head) 4 h, sym e, le-ltb 65535 size l, le-ltb (length form) size c, restores-form empty_bus starting_memory form starting-length good)
        (ap (λ (z : Outcome × List ℕ). (Ok (record { bus = z.0.bus; memory = z.1 }), out)) (sym back))

  -- one that is not
  pub begin-bad : (why : Refusal) → x.answer ≡ Refused why → (head out o : List ℕ) (size end : ℕ) → 4 ≤ length head → size ≡ form_bytes head → size ≤ 65535
      → size ≤ length form → Put out 0 (line_of (Refused why)) end o → begin_of head form out ≡ (Err end, o)
  unfolding begin_of begun_by too_long refusal_line is_nothing why_of
  begin-bad why r head out o size end h e l c q =
      by-test (accepted form starting_memory)
      (λ a.
      let s : ◌≡◌ {A = Outcome × List ℕ} (x, p) (record { bus = bus_in form; answer = answer.Nothing }, memory_in form starting_memory) =
      sym restores ∙ restores-form empty_bus starting_memory form starting-length a in
      absurd (false≢true (ap is_nothing (sym r ∙ ap (λ (z : Outcome × List ℕ). z.0.answer) s))))
      (λ a.
      let s : Refused why ≡ Refused WrongForm = sym r ∙ ap (λ (z : Outcome × List ℕ). z.0.answer) (sym restores ∙ restores-none form a) in
      let w = at_front out o end (line_of (Refused why)) q in
      let t : line_of (Refused why) ≡ bad_form_line = ap line_of s ∙ bad-form in
      rw (le-ltb (length head) 4 h, sym e, le-ltb 65535 size l, le-ltb (length form) size c, restores-none form a, bad-form, w.0, w.1, t))
