-- An array's `map` gives the list's, where each call gives what a function of the element gives.
-- Assumes nothing.
use Rattle.std.proofs.Common.{◌≡◌, sym, ◌∙◌, ℕ, ◌<◌, List, length, map}
use Rattle.std.proofs.lemmas.List.{ext_get_or, get_or-map, length-map}
use Rattle.std.specs.Array.{IsMapOf}
use Rattle.std.specs.Fn.{Called}
use denote.Param.Members.{Mut}

pub same_from_map : {F A B : Type 0} {g : Mut F (A × Unit {0}) B} {f : F} {xs : List A} {ys : List B} {n : ℕ} (h : A → B) (d : A)
    → length xs ≡ n → IsMapOf g f xs ys n → ((p : F) (x : A) (y : B) (q : F) → Called g p (x, tt) y q → y ≡ h x) → ys ≡ map h xs
same_from_map {xs = xs} {ys = ys} h d l m calls =
    ext_get_or (h d) ys (map h xs) (m.long ∙ sym l ∙ sym (length-map xs h)) (λ i w.
    let within : i < length xs = rw (l, ← m.long) w in
    let call = m.at i d (h d) (rw (← m.long) w) in
    calls _ _ _ _ call.2 ∙ sym (get_or-map h xs i d (h d) within))
