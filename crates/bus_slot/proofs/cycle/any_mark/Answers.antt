-- Whether some mark is set, by the list of them alone.
use Rattle.std.proofs.Common.{◌≡◌, ◌∙◌, ap, refl, ℕ, suc, Bool, ◌||◌, List, [], ◌∷◌, rules, tests}
use Rattle.std.specs.List.{list_any}
use Rattle.std.proofs.lemmas.Iterator.{YieldsList-from_slice}
use Rattle.std.proofs.lemmas.Iterator.Search.{any_from_yields_List}
use Rattle.proof_lists.specs.Each.{any_from}
use Rattle.rules.specs.Memory.{any_mark}
use Rattle.bus_slot.proofs.cycle.any_mark.Goals as goal

any-list : (n : ℕ) (xs : List Bool) → list_any (λ m. m) xs ≡ any_from (λ i m. m) n xs
unfolding any_from
any-list n [] = refl
any-list n (x ∷ xs) = ap (λ (b : Bool). x || b) (any-list (suc n) xs)

pub returns : goal.returns
unfolding any_mark
returns c = any_from_yields_List (λ m. m) _ _ _ c.any.ensures.ran (YieldsList-from_slice c.args.marks cc) (λ x b q k. search (rules, tests)) ∙ any-list 0 c.args.marks
