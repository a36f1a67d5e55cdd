-- The answers of a run are those of its events one by one: an event that is refused does nothing, so the others go and answer as their acts do without it; and those answers fall into the items of the parse. A refused one is answered with its refusal.
-- Assumes nothing.
use Rattle.std.specs.Prelude.{Ok, Err}
use Prim.Native.Nat.{ℕ}
use mathlib.Core.Path.{◌≡◌, refl, sym, ◌∙◌, ap}
use mathlib.Core.Bool.{true, cond}
use mathlib.Core.List.{List, [], ◌∷◌, ◌++◌}
use mathlib.Core.Option.{some}
use lib.ListN.{length}
use Rattle.rules.specs.declared.Act.{Act}
use Rattle.rules.specs.declared.Act.TheVariants.{Start}
use Rattle.rules.specs.declared.Answer.{Answer}
use Rattle.rules.specs.declared.Answer.TheVariants as answer
use Rattle.rules.specs.declared.Event.{Event}
use Rattle.rules.specs.Refusals.{Ruling}
use Rattle.rules.specs.Modelled.{memory_bytes}
use Rattle.rules.specs.Refusals.{kinds_of, in_range, ruled_by}
use Rattle.rules.specs.Runs.{Bench, taken, given, ruling_on, ruled_next, ruled_answer, next, answered, after, answers}
use Rattle.runs.specs.Exchanges.{kept_answer, kept_answers, chunks, concat, own_of, kept_by, acts_of, went, told, Inside, Item, exchange, between, inside_act, up_to_stop, item_acts, flatten, items_of, own, own_told}
use Rattle.rules.proofs.Range.Kept.{next-in-range}
use Rattle.rules.proofs.Memory.Protection.{kinds-next}
use Rattle.rules.proofs.Range.Rulings.{ruling-by-kinds}
use Rattle.rules.proofs.Memory.Stored.{memory-length-next}
use Rattle.runs.proofs.TwoClerks.Parse.{flatten-items}

-- one event, however it is ruled: the bench, and the answer
went-kept : (v : Ruling) (r : List Act) (x : Bench) → went r (ruled_next v x) ≡ went (kept_by v r) x
unfolding went kept_by ruled_next
went-kept (Ok a) r x = refl
went-kept (Err n) r x = refl

told-kept : (v : Ruling) (r : List Act) (x : Bench) → kept_answer v (ruled_answer v x) (told r (ruled_next v x)) ≡ told (kept_by v r) x
unfolding told kept_by kept_answer ruled_next ruled_answer
told-kept (Ok a) r x = refl
told-kept (Err n) r x = refl

-- the answers of a run's acts, and among them the refusals of its refused events, in the run's order
unfoldable pub woven_by : Ruling → (List Answer → List Answer) → List Answer → List Answer
woven_by (Ok a) f [] = f []
woven_by (Ok a) f (y ∷ ys) = y ∷ f ys
woven_by (Err n) f ys = answer.Refused n ∷ f ys

unfoldable pub woven : List ℕ → List Event → List Answer → List Answer
woven kinds [] ys = []
woven kinds (e ∷ es) ys = woven_by (ruled_by kinds e) (woven kinds es) ys

woven-one : (v : Ruling) (f : List Answer → List Answer) (r : List Act) (x : Bench) → woven_by v f (told (kept_by v r) x) ≡ ruled_answer v x ∷ f (told r (ruled_next v x))
unfolding woven_by told kept_by ruled_answer ruled_next
woven-one (Ok a) f r x = refl
woven-one (Err n) f r x = refl

-- a bench that meets neither row 1 nor row 6, with slots of these kinds
pub record Sound (kinds : List ℕ) (x : Bench) : Type 0 where
  pub long : length x.memory ≡ memory_bytes
  pub ranged : in_range x.bus ≡ true
  pub alike : kinds_of x.bus ≡ kinds

module _ (kinds : List ℕ) where
  pub sound-next : (e : Event) (x : Bench) → Sound kinds x → Sound kinds (next e x)
  sound-next e x s = record {
    long = memory-length-next e x ∙ s.long;
    ranged = next-in-range e x s.ranged;
    alike = kinds-next e x ∙ s.alike;
  }

  pub ruled-by-kinds : (e : Event) (x : Bench) → Sound kinds x → ruling_on e x ≡ ruled_by kinds e
  unfolding ruling_on
  ruled-by-kinds e x s = ruling-by-kinds x.bus x.memory e s.long s.ranged ∙ ap (λ ks. ruled_by ks e) s.alike

  after-sound : (es : List Event) (x : Bench) → Sound kinds x → after es x ≡ went (acts_of kinds es) x
  unfolding after next went acts_of
  after-sound [] x s = refl
  after-sound (e ∷ es) x s =
      after-sound es (next e x) (sound-next e x s)
      ∙ ap (λ v. went (acts_of kinds es) (ruled_next v x)) (ruled-by-kinds e x s)
      ∙ went-kept (ruled_by kinds e) (acts_of kinds es) x

  answers-sound : (es : List Event) (x : Bench) → Sound kinds x → kept_answers kinds es x ≡ told (acts_of kinds es) x
  unfolding kept_answers next answered told acts_of
  answers-sound [] x s = refl
  answers-sound (e ∷ es) x s =
      ap (kept_answer (ruled_by kinds e) (answered e x)) (answers-sound es (next e x) (sound-next e x s))
      ∙ ap (λ v. kept_answer (ruled_by kinds e) (ruled_answer v x) (told (acts_of kinds es) (ruled_next v x))) (ruled-by-kinds e x s)
      ∙ told-kept (ruled_by kinds e) (acts_of kinds es) x

  -- with the refused events: each of those is answered with its refusal, the others as their acts are
  answers-woven : (es : List Event) (x : Bench) → Sound kinds x → answers es x ≡ woven kinds es (told (acts_of kinds es) x)
  unfolding answers next answered woven acts_of
  answers-woven [] x s = refl
  answers-woven (e ∷ es) x s =
      ap (answered e x ∷◌) (answers-woven es (next e x) (sound-next e x s))
      ∙ ap (λ v. ruled_answer v x ∷ woven kinds es (told (acts_of kinds es) (ruled_next v x))) (ruled-by-kinds e x s)
      ∙ sym (woven-one (ruled_by kinds e) (woven kinds es) (acts_of kinds es) x)

told-stop : (xs : List Inside) (r : List Act) (x : Bench) → told (up_to_stop xs r) x ≡ told (up_to_stop xs []) x ++ told r (went (up_to_stop xs []) x)
unfolding told went up_to_stop
told-stop [] r x = refl
told-stop (y ∷ ys) r x = ap (given (inside_act y) x ∷◌) (told-stop ys r (taken (inside_act y) x))

told-item : (i : Item) (r : List Act) (x : Bench) → told (item_acts i r) x ≡ told (item_acts i []) x ++ told r (went (item_acts i []) x)
unfolding told went item_acts
told-item (exchange xs) r x = ap (given Start x ∷◌) (told-stop xs r (taken Start x))
told-item (between g) r x = refl

-- together they are the answers of the run
pub told-chunks : (is : List Item) (x : Bench) → told (flatten is) x ≡ concat (chunks is x)
unfolding told flatten chunks concat
told-chunks [] x = refl
told-chunks (i ∷ is) x = told-item i (flatten is) x ∙ ap (told (item_acts i []) x ++◌) (told-chunks is (went (item_acts i []) x))

pub own-chunks : (s : ℕ) (is : List Item) (x : Bench) → own_told s is x ≡ own_of s is (chunks is x)
unfolding own_told chunks own_of
own-chunks s [] x = refl
own-chunks s (i ∷ is) x = ap (λ cs. cond (own s i) (told (item_acts i []) x ∷ cs) cs) (own-chunks s is (went (item_acts i []) x))

module _ (es : List Event) (x : Bench) (long : length x.memory ≡ memory_bytes) (ranged : in_range x.bus ≡ true) where
  sound : Sound (kinds_of x.bus) x
  sound = record { long = long; ranged = ranged; alike = refl }

  -- the bench after the run, and the answers
  pub after_kept : after es x ≡ went (acts_of (kinds_of x.bus) es) x
  after_kept = after-sound (kinds_of x.bus) es x sound

  pub answers-kept : kept_answers (kinds_of x.bus) es x ≡ told (acts_of (kinds_of x.bus) es) x
  answers-kept = answers-sound (kinds_of x.bus) es x sound

  -- all of them, those of refused events too
  pub all-answers : answers es x ≡ woven (kinds_of x.bus) es (told (acts_of (kinds_of x.bus) es) x)
  all-answers = answers-woven (kinds_of x.bus) es x sound

  -- item by item
  pub run-answers : (is : List Item) → items_of (acts_of (kinds_of x.bus) es) ≡ some is → kept_answers (kinds_of x.bus) es x ≡ concat (chunks is x)
  run-answers is p = answers-kept ∙ ap (λ r. told r x) (sym (flatten-items _ is p)) ∙ told-chunks is x
