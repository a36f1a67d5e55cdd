-- Laws of places: sums and tests over slots and fields as the law says them, and how far they reach.
-- Assumes nothing.
use Rattle.std.proofs.Common.{◌≡◌, ℕ, zero, suc, ◌+◌, ◌*◌, ◌<◌, ◌≤◌, true, false, ◌||◌, List, [], ◌∷◌, length, get_or, take, refl, sym, ◌∙◌, ap, add-one, sum_by, lit<, arith}
use Rattle.std.proofs.lemmas.List.{take_all}
use Rattle.std.proofs.lemmas.List.Folds.{list_any_more}
use Rattle.std.proofs.lemmas.List.Sums.{fold_more}
use Rattle.std.specs.List.{list_any}
use Rattle.rules.specs.declared.Slot.{Slot}
use Rattle.rules.specs.Modelled.{slot_count, slot_bytes}
use Rattle.rules.specs.Fresh.{absent_slot}
use Rattle.save_rules.specs.Form.{field_count, field_at, needed_to, is_there}
use Rattle.save_rules.specs.Reading.{size_in, offset, span, begins}
use Rattle.save_rules.proofs.Places.{span-most, size-most, most-all}
use Rattle.save_fields.specs.declared.shares.Field.{Field}
use Rattle.save_fields.specs.declared.shares.Field.TheVariants.{Setup, Memory, State, Sensor, Pending, Older}
use Rattle.save_fields.specs.Rows.{row_of, taken}

-- a slot has at most its 512 bytes in a field
pub size_fits : (t kind n : ℕ) → n ≡ (field_at t).size kind → n ≤ slot_bytes
size_fits t kind n e = omega (arith, size-most t kind, most-all t)

pub offset-small : (t k : ℕ) (ss : List Slot) → offset t k ss ≤ slot_bytes * k
unfolding offset size_in
offset-small t zero ss = omega arith
offset-small t (suc k) ss = omega (arith, offset-small t k ss, size_fits t (get_or ss k absent_slot).kind ((field_at t).size (get_or ss k absent_slot).kind) refl)

pub span_small : (t n : ℕ) (ss : List Slot) → n ≡ span t ss → n ≤ 4099
span_small t n ss e = omega (arith, span-most t ss, offset-small t slot_count ss)

pub begins-small : (t : ℕ) (ss : List Slot) → begins t ss ≤ 4099 * t
unfolding begins
begins-small zero ss = omega arith
begins-small (suc t) ss = omega (arith, begins-small t ss, span_small t (span t ss) ss refl)

-- whether some slot needs the field
needed-front : (t k : ℕ) (ss : List Slot) → k ≤ length ss → list_any (field_at t).needed (take k ss) ≡ needed_to t k ss
unfolding needed_to
needed-front t zero ss h = refl
needed-front t (suc k) ss h =
    let more = rw (add-one k) at (list_any_more (field_at t).needed ss k absent_slot (omega arith)) in
    more ∙ ap (λ b. b || (field_at t).needed (get_or ss k absent_slot)) (needed-front t k ss (omega arith))

pub any-needed : (t : ℕ) (ss : List Slot) → length ss ≡ slot_count → list_any (field_at t).needed ss ≡ is_there t ss
unfolding is_there
any-needed t ss l = ap (list_any (field_at t).needed) (sym (take_all slot_count ss (omega arith))) ∙ needed-front t slot_count ss (omega arith)

-- how many bytes slots have in it
offset-front : (t k : ℕ) (ss : List Slot) → k ≤ length ss → sum_by (λ (s : Slot). (field_at t).size s.kind) (take k ss) ≡ offset t k ss
unfolding offset size_in
offset-front t zero ss h = refl
offset-front t (suc k) ss h =
    let more = rw (add-one k) at (fold_more (λ a (s : Slot). a + (field_at t).size s.kind) 0 ss k absent_slot (omega arith)) in
    more ∙ ap (λ n. n + (field_at t).size (get_or ss k absent_slot).kind) (offset-front t k ss (omega arith))

pub offset-all : (t : ℕ) (ss : List Slot) → sum_by (λ (s : Slot). (field_at t).size s.kind) ss ≡ offset t (length ss) ss
offset-all t ss = ap (sum_by (λ (s : Slot). (field_at t).size s.kind)) (sym (take_all (length ss) ss (omega arith))) ∙ offset-front t (length ss) ss (omega arith)

-- what a field takes
pub spans : (t n : ℕ) (ss : List Slot) → is_there t ss ≡ true → n ≡ offset t slot_count ss → 3 + n ≡ span t ss
unfolding span
spans t n ss i f = rw (i, f)

pub spans-none : (t : ℕ) (ss : List Slot) → is_there t ss ≡ false → 0 ≡ span t ss
unfolding span
spans-none t ss i = rw i

-- the fields before one, or all of them
abbrev pub all_fields : List Field
all_fields = Setup ∷ Memory ∷ State ∷ Sensor ∷ Pending ∷ Older ∷ []

pub begins-front : (t : ℕ) (ss : List Slot) → t ≤ field_count → taken (take t all_fields) ss ≡ begins t ss
unfolding begins
begins-front zero ss h = refl
begins-front (suc zero) ss h = refl
begins-front (suc (suc zero)) ss h = refl
begins-front (suc (suc (suc zero))) ss h = refl
begins-front (suc (suc (suc (suc zero)))) ss h = refl
begins-front (suc (suc (suc (suc (suc zero))))) ss h = refl
begins-front (suc (suc (suc (suc (suc (suc zero)))))) ss h = refl
begins-front (suc (suc (suc (suc (suc (suc (suc t))))))) ss h = absurd (omega arith)

pub row_below : (f : Field) → row_of f < field_count
row_below Setup = lit< tt
row_below Memory = lit< tt
row_below State = lit< tt
row_below Sensor = lit< tt
row_below Pending = lit< tt
row_below Older = lit< tt

-- the fields stand in the order of the rows
pub row_at : (t : ℕ) → t < field_count → row_of (get_or all_fields t Setup) ≡ t
row_at zero h = refl
row_at (suc zero) h = refl
row_at (suc (suc zero)) h = refl
row_at (suc (suc (suc zero))) h = refl
row_at (suc (suc (suc (suc zero)))) h = refl
row_at (suc (suc (suc (suc (suc zero))))) h = refl
row_at (suc (suc (suc (suc (suc (suc t)))))) h = absurd (omega arith)
