-- A form compared with what a saving of these slots gives, field by field and share by share, as the code does it. The bytes of memory are the
-- form's own, whatever they are, and are not looked at.
-- Assumes nothing.
use Rattle.std.specs.Prelude.{ℕ, zero, suc, Bool, true, cond, ◌&&◌, ◌||◌, List, [], ◌∷◌, eqb, length, get_or}
use Rattle.proof_lists.specs.Same.{stands}
use Rattle.rules.specs.declared.Slot.{Slot}
use Rattle.rules.specs.Modelled.{slot_count}
use Rattle.rules.specs.Fresh.{absent_slot}
use Rattle.save_rules.specs.Form.{word_of, field_count, field_at, share_of, is_there}
use Rattle.save_rules.specs.Reading.{offset, begins, place, memory_row}

-- a slot's share of a field, from a place on
unfoldable pub share_tallies : ℕ → Slot → List ℕ → ℕ → Bool
share_tallies t s f at = eqb t memory_row || stands (share_of t s []) f at

-- those of slots 0 to k - 1
unfoldable pub shares_tally : ℕ → ℕ → List Slot → List ℕ → Bool
shares_tally t zero ss f = true
shares_tally t (suc k) ss f = shares_tally t k ss f && share_tallies t (get_or ss k absent_slot) f (place t k ss)

-- its tag and its length, before them
unfoldable pub head_tallies : ℕ → List Slot → List ℕ → Bool
head_tallies t ss f = stands ((field_at t).tag ∷ word_of (offset t slot_count ss)) f (begins t ss)

-- a field, if it is there
unfoldable pub field_tallies : ℕ → List Slot → List ℕ → Bool
field_tallies t ss f = cond (is_there t ss) (head_tallies t ss f && shares_tally t slot_count ss f) true

-- the fields in rows 0 to t - 1
unfoldable pub fields_tally : ℕ → List Slot → List ℕ → Bool
fields_tally zero ss f = true
fields_tally (suc t) ss f = fields_tally t ss f && field_tallies t ss f

-- the whole, and nothing behind it
unfoldable pub tallies : List Slot → List ℕ → Bool
tallies ss f = eqb (length f) (begins field_count ss) && fields_tally field_count ss f
