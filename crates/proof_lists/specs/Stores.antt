-- Bytes stored one after the other into a list, and copied over it.
-- Assumes nothing.
use Rattle.std.specs.Prelude.{◌≡◌, List, [], ◌∷◌, ◌++◌, ℕ, suc, ◌+◌, ◌-◌, ◌≤◌, length, set, take, drop}
use Rattle.std.proofs.Common.{sym, ◌∙◌, ap, ap₂, append-nil, append_assoc, add-zero, add-suc, suc-add, arith, length-take, length-drop, drop_of_length-le, take_all, drop-drop}
use Rattle.std.proofs.lemmas.List.Edits.{sets, sets-eq}

-- stores after stores
pub sets-append : (l : List ℕ) (i : ℕ) (p q : List ℕ) → sets l i (p ++ q) ≡ sets (sets l i p) (i + length p) q
sets-append l i [] q = rw add-zero
sets-append l i (a ∷ p) q = sets-append (set l i a) (suc i) p q
    ∙ ap (λ (n : ℕ). sets (sets (set l i a) (suc i) p) n q) (suc-add i (length p) ∙ sym (add-suc i (length p)))

-- bytes copied over as many, or fewer
pub all-copied : (all part own : List ℕ) → all ≡ take (length part) part ++ drop (length part) own → length own ≤ length part → all ≡ part
all-copied all part own e h = e ∙ ap₂ ◌++◌ (take_all (length part) part (omega arith)) (drop_of_length-le own h) ∙ append-nil part

-- the same the other way round: a copy that fills the whole
pub copied-over : (all part own : List ℕ) → all ≡ part → length own ≤ length part → all ≡ take (length part) part ++ drop (length part) own
copied-over all part own e h = e ∙ sym (ap₂ ◌++◌ (take_all (length part) part (omega arith)) (drop_of_length-le own h) ∙ append-nil part)

-- bytes copied over a part of a list, from `at` up to `to`, as the code lends it: they are stored one after the other
pub pasted : (out src part : List ℕ) (at to : ℕ) → to ≡ at + length src → to ≤ length out
    → part ≡ take (length src) src ++ drop (length src) (take (to - at) (drop at out))
    → take at out ++ (part ++ drop (to - at) (drop at out)) ≡ sets out at src
pasted out src part at to h l e =
    let own : length (take (to - at) (drop at out)) ≤ length src = simp (length-take, length-drop) (omega arith) in
    let n : at + (to - at) ≡ at + length src = omega arith in
    ap (λ (q : List ℕ). take at out ++ (q ++ drop (to - at) (drop at out))) (all-copied part src (take (to - at) (drop at out)) e own)
    ∙ ap (λ (q : List ℕ). take at out ++ (src ++ q)) (drop-drop (to - at) at out ∙ ap (λ (k : ℕ). drop k out) n)
    ∙ sym (sets-eq src out at (omega arith) ∙ append_assoc (take at out) src (drop (at + length src) out))
