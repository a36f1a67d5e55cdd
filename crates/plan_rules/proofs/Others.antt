-- What a plan does at the other slots: a page written to slot k passes a slot that is not k by, and one that is in no cycle feels no tick.
-- Assumes nothing.
use Prim.Native.Nat.{ℕ, ◌+◌, ◌*◌, ◌<◌}
use native.Mathlib.Omega.{arith}
use mathlib.Core.Path.{◌≡◌, refl, sym, ◌∙◌, ap, ap₂, subst}
use mathlib.Core.Bool.{true, false}
use mathlib.Core.List.{List, [], ◌∷◌, ◌++◌, map}
use lib.ListN.{replicate}
use borrow.Author.Tests.{ne_eqb}
use Rattle.rules.specs.declared.Act.{Act}
use Rattle.rules.specs.declared.Act.TheVariants.{Start, Byte, Stop, Tick}
use Rattle.rules.specs.declared.Phase.TheVariants.{Idle, Control}
use Rattle.rules.specs.declared.Slot.{Slot}
use Rattle.rules.specs.Modelled.{slot_count, absent}
use Rattle.rules.specs.Open.{open-fields}
use Rattle.rules.specs.Fields.{in_phase}
use Rattle.rules.specs.Control.{acks_heard}
use Rattle.rules.specs.Slot.{standing, let_go, present_next, part_next}
use Rattle.rules.specs.Runs.{slot_after, part_after}
use Rattle.runs.specs.Exchanges.{Inside, byte, inside_act, up_to_stop, controls}
use Rattle.rules.proofs.Run.Joined.{slots-joined, parts-joined}
use Rattle.rules.proofs.Document.Commands.{heard-alike}
use Rattle.rules.proofs.Document.Cycle.{idle-slot, idle-part}
use Rattle.rules.proofs.Run.Cases.{present-next}
use Rattle.runs.proofs.TwoClerks.Foreign.{Unheard, NoneHeard, started-waits, absent-after, absent-parts, as_it_was, same-part}
use Rattle.plan_rules.specs.Effect.{leaving}
use Rattle.plan_rules.proofs.Page.{page_acts, bytes_acts, own-heard}
use Rattle.plan_rules.proofs.LetGo.{let-go-lasts}

-- a run that leaves a slot's bytes as they are
pub record Passed (n : ℕ) (r : List Act) (s : Slot) (m : List ℕ) (t : Slot) : Type 0 where
  pub slot : slot_after n r s ≡ t
  pub part : part_after n r s m ≡ m

pub passed_none : (n : ℕ) (s : Slot) (m : List ℕ) → Passed n [] s m s
unfolding slot_after part_after
passed_none n s m = record { slot = refl; part = refl }

pub passed-joined : {n : ℕ} {r v : List Act} {s t u : Slot} {m : List ℕ} → Passed n r s m t → Passed n v t m u → Passed n (r ++ v) s m u
passed-joined {n} {r} {v} {s} {t} {u} {m} a b = record {
  slot = slots-joined n r v s ∙ ap (slot_after n v) a.slot ∙ b.slot;
  part = parts-joined n r v s m ∙ ap₂ (part_after n v) a.slot a.part ∙ b.part;
}

-- an absent slot is as it was after any run, and so are its bytes
pub absent-passed : (n : ℕ) (r : List Act) (s : Slot) (m : List ℕ) → absent s ≡ true → Passed n r s m s
absent-passed n r s m e = record { slot = absent-after n r s e; part = absent-parts n r s m e }

-- in no cycle ticks do nothing
pub ticks-passed : (n j : ℕ) (s : Slot) (m : List ℕ) → s.left ≡ 0 → Passed n (replicate j Tick) s m s
ticks-passed n j s m e = record { slot = idle-slot n j s e; part = idle-part n j s m e }

-- a page's exchange, as the parse has it
abbrev insides : ℕ → ℕ → List ℕ → List Inside
insides k c bs = byte (0xA0 + 2 * k) ∷ byte c ∷ map byte bs

up-to-stop : (bs : List ℕ) (r : List Act) → bytes_acts bs ++ Stop ∷ r ≡ up_to_stop (map byte bs) [] ++ r
unfolding up_to_stop inside_act
up-to-stop [] r = refl
up-to-stop (b ∷ bs) r = ap (Byte b ∷◌) (up-to-stop bs r)

none_after : (n : ℕ) (bs : List ℕ) → NoneHeard n (controls false (map byte bs))
unfolding controls
none_after n [] = tt
none_after n (b ∷ bs) = none_after n bs

module _ (k : ℕ) (below : k < slot_count) (n : ℕ) (other : n ≡ k → ⊥) where
  unheard : Unheard n (0xA0 + 2 * k)
  unfolding acks_heard
  unheard s = rw (heard-alike (0xA0 + 2 * k) n s (λ e. omega (arith, below, e)), own-heard k below) (ne_eqb k n (λ e. other (sym e)))

  pub page-passed : (c : ℕ) (bs : List ℕ) (count : ℕ) (s : Slot) (m : List ℕ) → absent s ≡ false → s.left ≡ 0
      → Passed n (page_acts k c bs count) s m (leaving s)
  unfolding absent leaving slot_after part_after present_next part_next up_to_stop inside_act controls open-fields
  page-passed c bs count s m here rests =
      let u : Slot = let_go (standing s) s in
      let there : absent u ≡ false = rw (let-go-lasts s).kind here in
      let acts : page_acts k c bs count ≡ (Start ∷ up_to_stop (insides k c bs) []) ++ replicate count Tick
      = ap (λ (r : List Act). Start ∷ Byte (0xA0 + 2 * k) ∷ Byte c ∷ r) (up-to-stop bs (replicate count Tick)) in
      let exchange : Passed n (Start ∷ up_to_stop (insides k c bs) []) s m (in_phase Idle u)
      = record {
        slot = ap (slot_after n (up_to_stop (insides k c bs) [])) (present-next n Start s here)
            ∙ as_it_was n true (insides k c bs) (in_phase Control u) there (started-waits u there) (unheard, none_after n bs);
        part = same-part n (insides k c bs) _ m;
      } in
      subst (λ (r : List Act). Passed n r s m (in_phase Idle u)) (sym acts)
      (passed-joined exchange (ticks-passed n count (in_phase Idle u) m ((let-go-lasts s).left ∙ rests)))
