-- Document 01, "What is modelled": the sizes, and a slot's part of the memory.
-- Assumes nothing.
use Rattle.std.specs.Prelude.{ℕ, ◌*◌, ◌+◌, ◌/◌, Bool, cond, eqb}
use Rattle.rules.specs.declared.Slot.{Slot}
use Rattle.rules.specs.declared.Address.{Address}
use Rattle.rules.specs.declared.BlockNo.{BlockNo}

-- "A bus with slots 0 to 7."
abbrev pub slot_count : ℕ
slot_count = 8

-- "Memory is one lent buffer of 4,096 bytes, 512 for each slot in slot order."
abbrev pub memory_bytes : ℕ
memory_bytes = 4096

abbrev pub slot_bytes : ℕ
slot_bytes = 512

-- "a kind (0 absent, 1 memory, 2 memory with sensor)"
unfoldable pub absent : Slot → Bool
absent s = eqb s.kind 0

unfoldable pub sensing : Slot → Bool
sensing s = eqb s.kind 2

-- P9: "New part, slot kind 3": an older module
unfoldable pub older : Slot → Bool
older s = eqb s.kind 3

-- "256 bytes", at the beginning of its 512; the other kinds have them all
unfoldable pub bytes_of : ℕ → ℕ
bytes_of kind = cond (eqb kind 3) 256 slot_bytes

-- "Address = 256 x half + counter; block = address / 128."
unfoldable pub address_of : Slot → Address
address_of s = record { 0 = 256 * s.half + s.counter }

unfoldable pub block_of : Address → BlockNo
block_of a = record { 0 = a.0 / 128 }

-- "its 16-byte page": where the page of an address begins
unfoldable pub page_of : Address → Address
page_of a = record { 0 = a.0 / 16 * 16 }
