-- The first row that has the byte, or none.
use Rattle.std.proofs.Common.{◌≡◌, Option, Some, None, rules, Bor, tests}
use Rattle.std.specs.Option.{MatchOption, option_map, option_map_or}
use Rattle.std.proofs.lemmas.Iterator.{YieldsList-from_slice}
use Rattle.std.proofs.lemmas.Iterator.Search.{find_from_yields_List}
use Rattle.rules.specs.declared.Heard.{Heard}
use Rattle.rules.specs.declared.Heard.TheVariants.{Nothing}
use Rattle.bus_control.specs.declared.Row.{Row}
use Rattle.bus_control.specs.Rows.{has, asks}
use Rattle.bus_control.proofs.look_up.Goals as goal

asked : {Q : Bor Row → Type 0} (o : Option (Bor Row)) (r : Heard) (m : Option Row) → option_map (λ x. x.now) o ≡ m → MatchOption o (r ≡ Nothing) Q
    → ((x : Bor Row) → Q x → r ≡ x.now.1) → r ≡ option_map_or asks m Nothing
asked None r m e h g = rw (← e) h
asked (Some x) r m e h g = rw (← e) (g x h)

pub returns : goal.returns
returns c = asked c.find.result _ _ (find_from_yields_List (has c.args.b) _ _ _ c.find.ensures.ran (YieldsList-from_slice c.args.rows.now cc) (λ x b q k. search (rules, tests)))
    c.map_or.ensures (λ x q. search rules)
