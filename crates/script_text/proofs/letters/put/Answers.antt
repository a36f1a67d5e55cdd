-- The part of the output as long as the text, copied over.
use mathlib.Core.Path.{◌≡◌, refl, sym, ◌∙◌}
use mathlib.Core.List.{List, ◌++◌, append_assoc}
use Prim.Native.Nat.{ℕ, ◌+◌, ◌≤◌}
use native.Mathlib.Omega.{arith}
use lib.ListN.{length, take, drop}
use lib.Seq.{sets, sets-eq, drop-drop}
use Rattle.script_text.proofs.letters.put.Goals as goal

pasted : {A : Type 0} (out part text : List A) (at k : ℕ) → at + length text ≤ length out → k ≡ length text → part ≡ text
    → take at out ++ (part ++ drop k (drop at out)) ≡ sets out at text
pasted out part text at k h e p =
    rw (p, e, drop-drop (length text) at out) (sym (sets-eq text out at h ∙ append_assoc (take at out) text (drop (at + length text) out)))

pub returns : goal.returns
returns g c = (refl, pasted c.args.out.now _ c.args.text.now _ _ c.requires (omega arith) c.copy_from_slice.ensures.after)
