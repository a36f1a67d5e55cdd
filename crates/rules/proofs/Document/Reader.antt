-- Document 01, the block reader: the block lies in the memory, and its 128 bytes are given.
-- Assumes nothing.
use Prim.Native.Nat.{ℕ, ◌+◌, ◌*◌, ◌<◌, ◌≤◌}
use native.Mathlib.Omega.{arith}
use mathlib.Core.Path.{◌≡◌, refl}
use mathlib.Core.Bool.{true, Bool, false, not, ◌&&◌, ◌||◌}
use mathlib.Core.List.{List, [], ◌∷◌, ◌++◌}
use lib.Dec.{eqb, ltb}
use lib.ListN.{length, get_or, drop, length-take, length-drop, replicate}
use lib.Seq.{get_or-take, get_or-drop}
use borrow.Author.Tests.{eqb-true, not-false, ltb-false}
use Rattle.proof_lists.specs.Tests.{or_left_false, or_right_false}
use Rattle.rules.specs.declared.BlockNo.{BlockNo}
use Rattle.rules.specs.declared.Bus.{Bus}
use Rattle.rules.specs.declared.SlotNo.{SlotNo}
use Rattle.rules.specs.Refusals.{wrong_length, in_range, kinds_of, kind_at}
use Rattle.rules.specs.Reader.{no_block, block_bytes}
use Rattle.rules.specs.Open.{open-all}
use Rattle.rules.specs.Fields.{in_half}
use Rattle.rules.specs.Fresh.{fresh_slot, absent_slot}

-- the block reader: the block lies in the memory, and its 128 bytes are given
pub block-fits : (b : Bus) (m : List ℕ) (n : SlotNo) (k : BlockNo) → no_block b m n k ≡ false → 512 * n.0 + 128 * k.0 + 128 ≤ length m
unfolding no_block wrong_length
block-fits b m n k e =
    let w : Bool = wrong_length m in
    let i : Bool = not (in_range b) in
    let s : Bool = ltb 7 n.0 in
    let a : Bool = eqb (kind_at (kinds_of b) n) 0 in
    let o : Bool = ltb 3 k.0 in
    let y : Bool = eqb (kind_at (kinds_of b) n) 3 && ltb 1 k.0 in
    let e₄ = or_left_false (w || i || s || a || o) y e in
    let e₃ = or_left_false (w || i || s) a (or_left_false (w || i || s || a) o e₄) in
    let whole : length m ≡ 4096 = eqb-true (length m) 4096 (not-false (eqb (length m) 4096) (or_left_false w i (or_left_false (w || i) s e₃))) in
    let slot : n.0 ≤ 7 = ltb-false 7 n.0 (or_right_false (w || i) s e₃) in
    let block : k.0 ≤ 3 = ltb-false 3 k.0 (or_right_false (w || i || s || a) o e₄) in
    omega arith

pub block-length : (b : Bus) (m : List ℕ) (n : SlotNo) (k : BlockNo) → no_block b m n k ≡ false → length (block_bytes b m n k) ≡ 128
unfolding block_bytes
block-length b m n k e = rw e (simp (length-take, length-drop) (omega (arith, block-fits b m n k e)))

pub block_at : (b : Bus) (m : List ℕ) (n : SlotNo) (k : BlockNo) (i : ℕ) → no_block b m n k ≡ false → i < 128
    → get_or (block_bytes b m n k) i 0 ≡ get_or m (512 * n.0 + 128 * k.0 + i) 0
unfolding block_bytes
block_at b m n k i e h = rw (e, get_or-take 128 (drop (512 * n.0 + 128 * k.0) m) i 0 h, get_or-drop)

-- "With a wrong memory length, a state as in row 6, an absent slot, a slot above 7 or a block above 3 it gets an empty part."
pub block_none : (b : Bus) (m : List ℕ) (n : SlotNo) (k : BlockNo) → no_block b m n k ≡ true → block_bytes b m n k ≡ []
unfolding block_bytes
block_none b m n k e = rw e

-- each cause by itself, and none: memory's length, half of slot 7, slot, block (slots 0, 1 and 7 are present, the others are not; slot 1 is an older
-- module, whose "blocks 2 and 3 [are] read as empty parts")
abbrev trying : ℕ → ℕ → ℕ → ℕ → Bool
trying bytes half n k =
    no_block (record { slots = fresh_slot 1 1 ∷ fresh_slot 3 1 ∷ replicate 5 absent_slot ++ in_half half (fresh_slot 2 5) ∷ [] }) (replicate bytes 0xFF) (record { 0 = n }) (record { 0 = k })

pub empty-parts :
    trying 4096 1 0 0 ∷ trying 4096 1 7 3 ∷ trying 4095 1 7 3 ∷ trying 4097 1 7 3 ∷ trying 4096 2 0 0 ∷ trying 4096 1 6 0 ∷ trying 4096 1 8 0 ∷ trying 4096 1 7 4
    ∷ trying 4096 1 1 0 ∷ trying 4096 1 1 1 ∷ trying 4096 1 1 2 ∷ trying 4096 1 1 3 ∷ []
    ≡ false ∷ false ∷ true ∷ true ∷ true ∷ true ∷ true ∷ true ∷ false ∷ false ∷ true ∷ true ∷ []
unfolding no_block open-all
empty-parts = refl
