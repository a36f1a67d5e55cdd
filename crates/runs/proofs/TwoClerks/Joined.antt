-- Runs joined end to end, and cut in two: of raw events, of acts, of items.
-- Assumes nothing.
use Rattle.std.specs.Prelude.{Ok, Err}
use Prim.Native.Nat.{ℕ}
use native.Mathlib.Omega.{arith}
use mathlib.Core.Path.{◌≡◌, refl, sym, ◌∙◌, ap, ap₂}
use mathlib.Core.List.{List, [], ◌∷◌, ◌++◌, append_assoc}
use Rattle.rules.specs.declared.Act.{Act}
use Rattle.rules.specs.declared.Act.TheVariants.{Start}
use Rattle.rules.specs.declared.Answer.{Answer}
use Rattle.rules.specs.declared.Event.{Event}
use Rattle.rules.specs.Refusals.{Ruling}
use Rattle.rules.specs.Refusals.{kinds_of, ruled_by}
use Rattle.rules.specs.Runs.{Bench, taken, next, answered, after, answers}
use Rattle.runs.specs.Exchanges.{kept_by, acts_of, went, told, Inside, Item, exchange, between, inside_act, up_to_stop, item_acts, flatten, items_of, chunks}
use Rattle.runs.proofs.TwoClerks.Parse.{items-flatten, flatten-items}
use Rattle.runs.proofs.TwoClerks.Demand3.{Parts}

-- what an item does to the bench, and what the bus shows in it, event by event
abbrev pub does : Item → Bench → Bench
does i x = went (item_acts i []) x

abbrev pub says : Item → Bench → List Answer
says i x = told (item_acts i []) x

-- two runs of raw events one after the other: the bench, and the answers
pub after-joined : (r q : List Event) (x : Bench) → after (r ++ q) x ≡ after q (after r x)
unfolding after
after-joined [] q x = refl
after-joined (e ∷ r) q x = after-joined r q (next e x)

pub answers-joined : (r q : List Event) (x : Bench) → answers (r ++ q) x ≡ answers r x ++ answers q (after r x)
unfolding answers after
answers-joined [] q x = refl
answers-joined (e ∷ r) q x = ap (answered e x ∷◌) (answers-joined r q (next e x))

-- their acts, refused events left out
acts-one : (v : Ruling) (r q : List Act) → kept_by v (r ++ q) ≡ kept_by v r ++ q
unfolding kept_by
acts-one (Ok a) r q = refl
acts-one (Err n) r q = refl

acts-joined : (kinds : List ℕ) (r q : List Event) → acts_of kinds (r ++ q) ≡ acts_of kinds r ++ acts_of kinds q
unfolding acts_of
acts-joined kinds [] q = refl
acts-joined kinds (e ∷ r) q = ap (kept_by (ruled_by kinds e)) (acts-joined kinds r q) ∙ acts-one (ruled_by kinds e) (acts_of kinds r) (acts_of kinds q)

went-joined : (r q : List Act) (x : Bench) → went (r ++ q) x ≡ went q (went r x)
unfolding went
went-joined [] q x = refl
went-joined (a ∷ r) q x = went-joined r q (taken a x)

-- items written out
stop-joined : (xs : List Inside) (r : List Act) → up_to_stop xs r ≡ up_to_stop xs [] ++ r
unfolding up_to_stop
stop-joined [] r = refl
stop-joined (y ∷ ys) r = ap (inside_act y ∷◌) (stop-joined ys r)

item-joined : (i : Item) (r : List Act) → item_acts i r ≡ item_acts i [] ++ r
unfolding item_acts
item-joined (exchange xs) r = ap (Start ∷◌) (stop-joined xs r)
item-joined (between g) r = refl

-- one item by itself
pub one-item : (i : Item) → flatten (i ∷ []) ≡ item_acts i []
unfolding flatten
one-item i = refl

pub went-first : (i : Item) (is : List Item) (x : Bench) → went (flatten (i ∷ is)) x ≡ went (flatten is) (does i x)
unfolding flatten
went-first i is x = rw (item-joined i (flatten is)) (went-joined (item_acts i []) (flatten is) x)

pub went-items : (is js : List Item) (x : Bench) → went (flatten (is ++ js)) x ≡ went (flatten js) (went (flatten is) x)
went-items [] js x = unfold flatten went in refl
went-items (i ∷ is) js x = went-first i (is ++ js) x ∙ went-items is js (does i x) ∙ ap (went (flatten js)) (sym (went-first i is x))

-- the answers item by item
pub chunks-joined : (is js : List Item) (x : Bench) → chunks (is ++ js) x ≡ chunks is x ++ chunks js (went (flatten is) x)
unfolding chunks flatten went
chunks-joined [] js x = refl
chunks-joined (i ∷ is) js x =
    ap (says i x ∷◌) (chunks-joined is js (does i x) ∙ ap (λ (y : Bench). chunks is (does i x) ++ chunks js y) (sym (went-first i is x)))

flatten-joined : (is js : List Item) → flatten (is ++ js) ≡ flatten is ++ flatten js
unfolding flatten
flatten-joined [] js = refl
flatten-joined (i ∷ is) js = ap (item_acts i) (flatten-joined is js) ∙ regroup
  where
    regroup : item_acts i (flatten is ++ flatten js) ≡ item_acts i (flatten is) ++ flatten js
    regroup = rw (item-joined i (flatten is ++ flatten js), item-joined i (flatten is)) (sym (append_assoc (item_acts i []) (flatten is) (flatten js)))

-- two runs that parse, joined, parse into the items of both
pub parts-joined : (x : Bench) (r q : List Event) (is js : List Item) → Parts x r is → Parts x q js → Parts x (r ++ q) (is ++ js)
parts-joined x r q is js p o =
    let kinds : List ℕ = kinds_of x.bus in
    let w : acts_of kinds (r ++ q) ≡ flatten (is ++ js)
    = acts-joined kinds r q ∙ ap₂ (λ (a b : List Act). a ++ b) (sym (flatten-items _ is p)) (sym (flatten-items _ js o)) ∙ sym (flatten-joined is js) in
    ap items_of w ∙ items-flatten (is ++ js)

-- a run whose acts fall into two stretches falls into two stretches itself, wherever its refused events stand
pub record Cut (kinds : List ℕ) (r : List Event) (ls bs : List Act) : Type 0 where
  pub left : List Event
  pub right : List Event
  pub whole : left ++ right ≡ r
  pub lefts : acts_of kinds left ≡ ls
  pub rights : acts_of kinds right ≡ bs

module _ (kinds : List ℕ) where
  cut-one : (e : Event) (r : List Event) (v : Ruling) → ruled_by kinds e ≡ v → (a : Act) (ls bs : List Act) → kept_by v (acts_of kinds r) ≡ a ∷ (ls ++ bs)
      → ((cs ds : List Act) → acts_of kinds r ≡ cs ++ ds → Cut kinds r cs ds) → Cut kinds (e ∷ r) (a ∷ ls) bs
  unfolding kept_by acts_of
  cut-one e r (Ok b) w a ls bs p more =
      let rest : acts_of kinds r ≡ ls ++ bs = cc in
      let same : b ≡ a = cc in
      let c : Cut kinds r ls bs = more ls bs rest in
      record { left = e ∷ c.left; right = c.right; whole = ap (e ∷◌) c.whole; lefts = rw w (ap₂ ◌∷◌ same c.lefts); rights = c.rights }
  cut-one e r (Err n) w a ls bs p more =
      let c : Cut kinds r (a ∷ ls) bs = more (a ∷ ls) bs p in
      record { left = e ∷ c.left; right = c.right; whole = ap (e ∷◌) c.whole; lefts = rw w c.lefts; rights = c.rights }

  pub cut : (r : List Event) (ls bs : List Act) → acts_of kinds r ≡ ls ++ bs → Cut kinds r ls bs
  unfolding acts_of
  cut [] [] bs p = record { left = []; right = []; whole = refl; lefts = refl; rights = p }
  cut [] (a ∷ ls) bs p = absurd (let z : ◌≡◌ {A = ℕ} 0 1 = cc in omega arith)
  cut (e ∷ r) [] bs p = record { left = []; right = e ∷ r; whole = refl; lefts = refl; rights = p }
  cut (e ∷ r) (a ∷ ls) bs p = cut-one e r (ruled_by kinds e) refl a ls bs p (λ cs ds q. cut r cs ds q)

-- so a run that parses is cut between any two of its items
pub record Halves (x : Bench) (r : List Event) (is js : List Item) : Type 0 where
  pub left : List Event
  pub right : List Event
  pub whole : left ++ right ≡ r
  pub lefts : Parts x left is
  pub rights : Parts x right js

pub halves : (x : Bench) (r : List Event) (is js : List Item) → Parts x r (is ++ js) → Halves x r is js
halves x r is js p =
    let c : Cut (kinds_of x.bus) r (flatten is) (flatten js) = cut (kinds_of x.bus) r (flatten is) (flatten js) (sym (flatten-items _ (is ++ js) p) ∙ flatten-joined is js) in
    record {
      left = c.left;
      right = c.right;
      whole = c.whole;
      lefts = ap items_of c.lefts ∙ items-flatten is;
      rights = ap items_of c.rights ∙ items-flatten js;
    }
