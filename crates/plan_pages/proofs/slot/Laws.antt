-- The definitions in the form in which a function's proof asks for them: a premise for each fact of the way to a return.
-- Assumes nothing.
use Rattle.std.proofs.Common.{Ok, Err, MutBor}
use mathlib.Core.Path.{◌≡◌, sym, ◌∙◌, ap, ap₂}
use mathlib.Core.Bool.{Bool, true, false}
use mathlib.Core.List.{List, ◌++◌}
use Prim.Native.Nat.{ℕ}
use native.Mathlib.Nat.{zero-add}
use lib.ListN.{length}
use Rattle.rules.specs.declared.Event.{Event}
use Rattle.rules.specs.declared.Refusal.TheVariants.{ProtectedPage}
use Rattle.rules.specs.declared.Slot.{Slot}
use Rattle.plan_rules.specs.Records.{laid}
use Rattle.plan_rules.specs.Plan.{ticks, five_ticks, page_count, barred_before, pages_before, planned}
use Rattle.plan_pages.specs.declared.records.Plan.{Plan}
use Rattle.plan_pages.specs.Laid.{with_laid}
use Rattle.plan_pages.proofs.records.Laws.{laid_then}
use Rattle.plan_pages.specs.Alone.{alone_of}

-- a plan of no records, over a buffer
abbrev pub plan_over : MutBor (List ℕ) → Plan
plan_over b = record { buffer = b; count = 0 }

-- the slot by itself
module _ (t s : Slot) (k : ℕ) (o old image b : List ℕ) (settled : t ≡ s) (stored : o ≡ old) where
  same-plan : alone_of s k old image b ≡ alone_of t k o image b
  same-plan = ap₂ (λ (x : Slot) (m : List ℕ). alone_of x k m image b) (sym settled) (sym stored)

  pub alone-barred : (q : Bool) → q ≡ barred_before o image t page_count → q ≡ true → alone_of s k old image b ≡ (Err ProtectedPage, b)
  unfolding alone_of
  alone-barred q e f = same-plan ∙ rw (← e, f)

  pub alone-laid : (q : Bool) (u : MutBor (List ℕ)) (p : Plan) → q ≡ barred_before o image t page_count → q ≡ false → u.now ≡ b
      → p ≡ with_laid (pages_before o image t k page_count) (with_laid (ticks 5) (plan_over u)) → alone_of s k old image b ≡ (Ok p.count, p.buffer.now)
  unfolding alone_of planned laid five_ticks
  alone-laid q u p e f g h =
      let es : List Event = ticks 5 ++ pages_before o image t k page_count in
      let j : p ≡ with_laid es (plan_over u) = h ∙ laid_then (ticks 5) (pages_before o image t k page_count) (plan_over u) in
      same-plan ∙ rw (← e, f) (ap (λ (l : List ℕ). planned es l) (sym g) ∙ ap₂ (λ (n : ℕ) (l : List ℕ). (Ok n, l)) (sym (ap (λ (x : Plan). x.count) j ∙ zero-add (length es))) (sym (ap (λ (x : Plan). x.buffer.now) j)))
