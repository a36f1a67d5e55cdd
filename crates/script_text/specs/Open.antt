-- A bundle of definitions, for `unfolding` lines: to unfold a bundle is to unfold what its own line names.
-- Assumes nothing.
use Rattle.rules.specs.Events
use Rattle.script_text.specs.Decimal
use Rattle.script_text.specs.Letters
use Rattle.script_text.specs.Quoted
use Rattle.script_text.specs.Records

-- pairs, records and lines of known values compute
unfoldable pub open-text : Unit {0}
unfolding Events.refusal_number Events.letter_of Events.value_of Decimal.digit Decimal.decimal_in Decimal.decimal Letters.hex_digit Letters.digits_of
    Letters.line_of Letters.refusal_line Quoted.quoted Records.pair_at Records.pairs_to Records.pairs_of Records.value_at Records.record_at
open-text = tt
