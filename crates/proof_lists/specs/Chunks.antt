-- A list cut into chunks of one size: what chunk i is.
-- Assumes nothing.
use Rattle.std.proofs.Common.{◌≡◌, sym, ◌∙◌, ap, ℕ, zero, suc, ◌*◌, ◌<◌, List, [], get_or, take, drop, drop-drop, add_comm, mul-zero, mul-suc, arith}
use Rattle.std.specs.Simd.{first_chunks}

pub chunk-at : (size k i : ℕ) (bs : List ℕ) → i < k → get_or (first_chunks size k bs) i [] ≡ take size (drop (size * i) bs)
chunk-at size zero i bs h = absurd (omega arith)
chunk-at size (suc k) zero bs h = rw mul-zero
chunk-at size (suc k) (suc i) bs h =
    chunk-at size k i (drop size bs) (omega arith)
    ∙ ap (take size) (drop-drop (size * i) size bs ∙ ap (λ (n : ℕ). drop n bs) (add_comm size (size * i) ∙ sym (mul-suc size i)))
