-- Lines of the listing, computed: a record's, with every digit, the number's, and the text of a plan and of a refusal as a whole.
-- Assumes nothing.
use Rattle.std.proofs.Common.{Ok, Err}
use mathlib.Core.Path.{◌≡◌, refl}
use mathlib.Core.List.{List, [], ◌∷◌}
use Prim.Native.Nat.{ℕ}
use Rattle.rules.specs.declared.Refusal.TheVariants.{ProtectedPage}
use Rattle.rules.specs.Events.{letter_of, refusal_number}
use Rattle.script_text.specs.Decimal.{digit, decimal_in, decimal}
use Rattle.script_text.specs.Letters.{hex_digit, digits_of, line_of}
use Rattle.plan_pages.specs.Listing.{count_line, hex_byte, record_line, record_lines, text_of}

-- A4h from the master: `020000A4`
pub byte-line : record_line (0x02 ∷ 0x00 ∷ 0x00 ∷ 0xA4 ∷ []) 0 ≡ 0x30 ∷ 0x32 ∷ 0x30 ∷ 0x30 ∷ 0x30 ∷ 0x30 ∷ 0x41 ∷ 0x34 ∷ 0x0A ∷ []
unfolding record_line hex_byte hex_digit
byte-line = refl

-- `0` and `811`
pub none-line : count_line 0 ≡ 0x30 ∷ 0x0A ∷ []
unfolding count_line decimal decimal_in digit
none-line = refl

pub most-line : count_line 811 ≡ 0x38 ∷ 0x31 ∷ 0x31 ∷ 0x0A ∷ []
unfolding count_line decimal decimal_in digit
most-line = refl

-- two records, which have all sixteen digits, and a buffer that goes on behind them: `2`, `01234567`, `89ABCDEF`
pub two_records : text_of (Ok 2) (0x01 ∷ 0x23 ∷ 0x45 ∷ 0x67 ∷ 0x89 ∷ 0xAB ∷ 0xCD ∷ 0xEF ∷ 0xEE ∷ 0xEE ∷ 0xEE ∷ 0xEE ∷ [])
    ≡ 0x32 ∷ 0x0A
    ∷ 0x30 ∷ 0x31 ∷ 0x32 ∷ 0x33 ∷ 0x34 ∷ 0x35 ∷ 0x36 ∷ 0x37 ∷ 0x0A
    ∷ 0x38 ∷ 0x39 ∷ 0x41 ∷ 0x42 ∷ 0x43 ∷ 0x44 ∷ 0x45 ∷ 0x46 ∷ 0x0A ∷ []
unfolding text_of count_line record_lines record_line hex_byte hex_digit decimal decimal_in digit
two_records = refl

-- `R7`, alone, whatever stands in the buffer
pub refused-text : (buffer : List ℕ) → text_of (Err ProtectedPage) buffer ≡ 0x52 ∷ 0x37 ∷ 0x0A ∷ []
unfolding text_of line_of digits_of letter_of refusal_number decimal decimal_in digit
refused-text buffer = refl
