-- The counter, and behind it the page.
use Rattle.std.proofs.Common.{◌≡◌, ◌+◌, ◌-◌, ◌*◌, ◌∷◌, ◌∙◌, ap, ℕ, append-nil, arith}
use Rattle.plan_rules.specs.Plan.{page_at}
use Rattle.plan_pages.proofs.pages.Laws.{page-cut}
use Rattle.plan_pages.proofs.writes.sent.Goals as goal

pub returns : goal.returns
returns c =
    let a = c.args in
    let p = c.from-from.result in
    let w : 16 * p + 16 - 16 * p ≡ 16 = omega arith in
    ap (a.counter ∷◌) (append-nil _ ∙ c.copy_from_slice.ensures.after ∙ page-cut p _ _ w ∙ ap (λ (n : ℕ). page_at n a.image.now) c.from-from.ensures)
