-- Bundles of definitions, for `unfolding` lines: to unfold a bundle is to unfold what its own line names.
-- Assumes nothing.
use Rattle.proof_lists.specs.Same
use Rattle.rules.specs.Fresh
use Rattle.rules.specs.Open.{open-all}
use Rattle.script_text.specs.Records
use Rattle.save_rules.specs.Form
use Rattle.save_rules.specs.Saving
use Rattle.save_rules.specs.Reading

-- the form of a bench
unfoldable pub open-form : Unit {0}
unfolding Form.word_of Form.word_at Form.bits_of Form.bits_in Form.setup_field Form.memory_field Form.state_bytes Form.state_from Form.state_field
    Form.registers_to Form.sensor_bytes Form.sensor_from Form.sensor_field Form.pending_field Form.older_byte Form.older_from Form.older_field
    Form.fields Form.field_at Form.share_of Form.shares Form.whole_field Form.needed_to Form.is_there Form.field_bytes Form.form_to Form.form_of
open-form = tt

-- everything: saving and reading of known values compute
unfoldable pub open-saved : Unit {0}
unfolding open-all open-form Same.same Fresh.at_rest Records.pair_at Saving.is_idle Saving.quiet Saving.all_quiet Saving.save_of Reading.size_in
    Reading.offset Reading.span Reading.begins Reading.place Reading.tagged Reading.read_shares Reading.read_field Reading.read_to Reading.bus_in
    Reading.stored_to Reading.memory_in Reading.restored Reading.accepted Reading.restore_of
open-saved = tt
