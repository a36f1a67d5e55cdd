-- What a setup gives, as the bench that it makes or the refusal.
-- Assumes nothing.
use mathlib.Core.Path.{◌≡◌, sym, ◌∙◌, ap}
use mathlib.Core.Bool.{Bool, true, false, false≢true}
use mathlib.Core.List.{List}
use Rattle.std.proofs.Common.{Ok, Err}
use Rattle.std.specs.List.{list_all}
use Rattle.proof_lists.specs.Tests.{by-test}
use Rattle.rules.specs.declared.Answer.{Answer}
use Rattle.rules.specs.declared.Answer.TheVariants as answer
use Rattle.rules.specs.declared.Outcome.{Outcome}
use Rattle.rules.specs.declared.Pair.{Pair}
use Rattle.rules.specs.declared.Refusal.{Refusal}
use Rattle.rules.specs.declared.Refusal.TheVariants.{WrongSetup}
use Rattle.rules.specs.Refusals.{good_pair, setup_of}
use Rattle.bus_bench.specs.Beginning.{begun, set_up_of}

is_nothing : Answer → Bool
is_nothing answer.Nothing = true
is_nothing _ = false

why_of : Answer → Refusal
why_of (answer.Refused r) = r
why_of _ = WrongSetup

-- a setup that is refused, and one that is not
pub set-up-refused : (ps : List Pair) (o : Outcome) (r : Refusal) → o ≡ setup_of ps → o.answer ≡ answer.Refused r → Err r ≡ set_up_of ps
unfolding setup_of set_up_of is_nothing why_of
set-up-refused ps o r e f =
    let a : answer.Refused r ≡ (setup_of ps).answer = sym f ∙ ap (λ (z : Outcome). z.answer) e in
    by-test (list_all good_pair ps)
    (λ g. let n : answer.Refused r ≡ answer.Nothing = rw g at a in absurd (false≢true (ap is_nothing n)))
    (λ g. let n : answer.Refused r ≡ answer.Refused WrongSetup = rw g at a in rw g (ap (λ z. Err (why_of z)) n))

pub set-up-good : (ps : List Pair) (o : Outcome) → o ≡ setup_of ps → ((r : Refusal) → o.answer ≡ answer.Refused r → ⊥) → Ok (begun o.bus) ≡ set_up_of ps
unfolding setup_of set_up_of
set-up-good ps o e n =
    by-test (list_all good_pair ps)
    (λ g. rw (e, g))
    (λ g. let a : o.answer ≡ (setup_of ps).answer = ap (λ (z : Outcome). z.answer) e in absurd (n WrongSetup (rw g at a)))
