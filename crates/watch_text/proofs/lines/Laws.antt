-- Names with a number behind each, put one behind the other, as the code does it, are the text of the definition; and so are lines.
-- Assumes nothing.
use mathlib.Core.Path.{◌≡◌, refl, sym, ◌∙◌, ap}
use mathlib.Core.Bool.{Bool, true, false, false≢true, cond, not}
use mathlib.Core.List.{List, [], ◌∷◌, ◌++◌, map, append_assoc, append-nil}
use Prim.Native.Nat.{ℕ, zero, suc, ◌+◌, ◌-◌, ◌≤◌, ◌<◌, min}
use Prim.Native.String.{String}
use native.Mathlib.Nat.{zero-add}
use native.Mathlib.Numerals.{add-one}
use native.Mathlib.Omega.{arith}
use lib.Dec.{eqb}
use lib.ListN.{length, get_or, take, drop, replicate, length-append, length-map, length-drop, length-replicate, get_or-map}
use Rattle.std.proofs.Common.{take_all}
use Rattle.std.proofs.lemmas.List.{map-append}
use Rattle.std.proofs.lemmas.List.FromFn.{length-enumerate_from, get_or-enumerate_from}
use Rattle.std.proofs.lemmas.Slice.Zip.{length-zip, get_or-zip}
use Rattle.std.specs.List.{enumerate_from, zip}
use lib.Seq.{sets, length-sets, get_or-drop}
use Rattle.proof_lists.specs.Each.{get_d_any}
use Rattle.std.specs.List.{list_all}
use Rattle.proof_lists.specs.Tests.{by-test, and_left, and_right}
use Rattle.rules.specs.declared.Bus.{Bus}
use Rattle.rules.specs.declared.Slot.{Slot}
use Rattle.rules.specs.Modelled.{sensing, older}
use Rattle.rules.specs.Fresh.{absent_slot}
use Rattle.rules.specs.Refusals.{empty_bus}
use Rattle.script_text.specs.Decimal.{decimal}
use Rattle.script_text.specs.Quoted.{quoted}
use Rattle.script_text.proofs.letters.Decimal.{decimal-one, digits-most}
use Rattle.script_text.proofs.letters.Laws.{Put, put_on}
use Rattle.watch_text.specs.Numbers.{numbers_of, sixty}
use Rattle.watch_text.proofs.numbers.Laws.{count_of, at_most}
use Rattle.watch_text.specs.Lines.{common_names, pin_names, older_names, kind_names, names, signed, number_text, number_texts, text_of, texts_of, slot_line, change_line, change_lines_to, change_lines, bench_lines}

-- a text put character by character, with the next of some numbers behind each sign; docs/PORT.md names what it comes to
abbrev pub sign : ℕ → Bool
sign c = eqb c 0x3D

unfoldable pub told : List ℕ → List ℕ → List ℕ
told [] ns = []
told (c ∷ cs) ns = (c ∷ cond (sign c) (decimal (get_or ns 0 0)) []) ++ told cs (drop (cond (sign c) 1 0) ns)

-- characters that are no sign stay as they are
plain : (xs ys ns : List ℕ) → list_all (λ c. not (sign c)) xs ≡ true → told (xs ++ ys) ns ≡ xs ++ told ys ns
unfolding told
plain [] ys ns h = refl
plain (x ∷ xs) ys ns h =
    let e : sign x ≡ false = off (sign x) (and_left (not (sign x)) (list_all (λ c. not (sign c)) xs) h) in
    rw e (ap (x ∷◌) (plain xs ys ns (and_right (not (sign x)) (list_all (λ c. not (sign c)) xs) h)))
  where
    off : (b : Bool) → not b ≡ true → b ≡ false
    off true e = absurd (false≢true e)
    off false e = refl

-- so with a number for each name it is the definition's text
pub told_names : (ss : List String) (ns : List ℕ) → list_all (λ name. list_all (λ c. not (sign c)) (quoted name)) ss ≡ true → length ns ≡ length ss
    → told (signed ss) ns ≡ number_texts ss ns
unfolding told signed number_texts number_text
told_names [] ns h l = refl
told_names (name ∷ ss) [] h l = absurd (omega arith)
told_names (name ∷ ss) (n ∷ ns) h l =
    let a : Bool = list_all (λ c. not (sign c)) (quoted name) in
    let b : Bool = list_all (λ s. list_all (λ c. not (sign c)) (quoted s)) ss in
    let i : told (signed ss) ns ≡ number_texts ss ns = told_names ss ns (and_right a b h) (omega arith) in
    let t : told (0x3D ∷ signed ss) (n ∷ ns) ≡ (0x3D ∷ decimal n) ++ number_texts ss ns = ap (λ (l : List ℕ). (0x3D ∷ decimal n) ++ l) i in
    let p : told (quoted name ++ (0x3D ∷ signed ss)) (n ∷ ns) ≡ (quoted name ++ (0x3D ∷ decimal n)) ++ number_texts ss ns =
    plain (quoted name) (0x3D ∷ signed ss) (n ∷ ns) (and_left a b h) ∙ ap (quoted name ++◌) t
    ∙ sym (append_assoc (quoted name) (0x3D ∷ decimal n) (number_texts ss ns)) in
    ap (λ (l : List ℕ). 0x20 ∷ l) p

-- names in quotes by their bytes
pub texts-quoted : (ss : List String) (ns : List ℕ) → texts_of (map quoted ss) ns ≡ number_texts ss ns
unfolding texts_of text_of number_texts number_text
texts-quoted [] ns = refl
texts-quoted (name ∷ ss) [] = refl
texts-quoted (name ∷ ss) (n ∷ ns) = ap (number_text name n ++◌) (texts-quoted ss ns)

-- names behind others have the numbers that are left, and numbers that no name is for are not put
texts-append : (xs ys : List (List ℕ)) (ns : List ℕ) → length xs ≤ length ns → texts_of (xs ++ ys) ns ≡ texts_of xs ns ++ texts_of ys (drop (length xs) ns)
unfolding texts_of
texts-append [] ys ns h = refl
texts-append (x ∷ xs) ys [] h = absurd (omega arith)
texts-append (x ∷ xs) ys (n ∷ ns) h =
    ap (text_of x n ++◌) (texts-append xs ys ns (omega arith)) ∙ sym (append_assoc (text_of x n) (texts_of xs ns) (texts_of ys (drop (length xs) ns)))

texts-enough : (xs : List (List ℕ)) (ns ms : List ℕ) → length xs ≤ length ns → texts_of xs (ns ++ ms) ≡ texts_of xs ns
unfolding texts_of
texts-enough [] ns ms h = refl
texts-enough (x ∷ xs) [] ms h = absurd (omega arith)
texts-enough (x ∷ xs) (n ∷ ns) ms h = ap (text_of x n ++◌) (texts-enough xs ns ms (omega arith))

-- so many of them, the next, and those behind it
abbrev pub front : List (List ℕ) → List ℕ → ℕ → List ℕ
front xs ns k = texts_of (take k xs) (take k ns)

texts-split : (xs : List (List ℕ)) (ns : List ℕ) (k : ℕ) → k < length xs → k < length ns
    → texts_of xs ns ≡ front xs ns k ++ (text_of (get_or xs k []) (get_or ns k 0) ++ texts_of (drop (suc k) xs) (drop (suc k) ns))
unfolding texts_of
texts-split [] ns k h l = absurd (omega arith)
texts-split (x ∷ xs) [] k h l = absurd (omega arith)
texts-split (x ∷ xs) (n ∷ ns) zero h l = refl
texts-split (x ∷ xs) (n ∷ ns) (suc k) h l =
    ap (text_of x n ++◌) (texts-split xs ns k (omega arith) (omega arith))
    ∙ sym (append_assoc (text_of x n) (front xs ns k) (text_of (get_or xs k []) (get_or ns k 0) ++ texts_of (drop (suc k) xs) (drop (suc k) ns)))

texts-next : (xs : List (List ℕ)) (ns : List ℕ) (k : ℕ) → k < length xs → k < length ns
    → front xs ns (suc k) ≡ front xs ns k ++ text_of (get_or xs k []) (get_or ns k 0)
unfolding texts_of
texts-next [] ns k h l = absurd (omega arith)
texts-next (x ∷ xs) [] k h l = absurd (omega arith)
texts-next (x ∷ xs) (n ∷ ns) zero h l = append-nil (text_of x n)
texts-next (x ∷ xs) (n ∷ ns) (suc k) h l =
    ap (text_of x n ++◌) (texts-next xs ns k (omega arith) (omega arith)) ∙ sym (append_assoc (text_of x n) (front xs ns k) (text_of (get_or xs k []) (get_or ns k 0)))

-- a name by its place
pub name-at : {A : Type 0} (f : A → List ℕ) (xs : List A) (k : ℕ) (x : A) → k < length xs → x ≡ get_or xs k x → f x ≡ get_or (map f xs) k []
name-at f xs k x h e = ap f e ∙ sym (get_or-map f xs k x) ∙ get_d_any (map f xs) k (f x) [] (rw length-map h)

-- the next has room where all have, and is put behind the others; with no next they are all
module _ (xs : List (List ℕ)) (ns out₀ out : List ℕ) (from k at : ℕ) (g : Put out₀ from (front xs ns k) at out) (h : k < length xs) (l : k < length ns) where
  pub next-room : from + length (texts_of xs ns) ≤ length out₀ → at + length (text_of (get_or xs k []) (get_or ns k 0)) ≤ length out
  next-room r =
      let t : List ℕ = text_of (get_or xs k []) (get_or ns k 0) in
      let u : List ℕ = texts_of (drop (suc k) xs) (drop (suc k) ns) in
      let e = ap length (texts-split xs ns k h l) ∙ length-append (front xs ns k) (t ++ u) in
      rw (g.1, length-sets) (omega (arith, g.0, r, e, length-append t u))

  pub next-put : (end : ℕ) (o : List ℕ) → Put out at (text_of (get_or xs k []) (get_or ns k 0)) end o → Put out₀ from (front xs ns (k + 1)) end o
  next-put end o p = rw (add-one, texts-next xs ns k h l) (put_on out₀ out o from at end (front xs ns k) (text_of (get_or xs k []) (get_or ns k 0)) g p)

pub front-all : (xs : List (List ℕ)) (ns : List ℕ) (k : ℕ) → k ≡ min (length xs) (length ns) → front xs ns k ≡ texts_of xs ns
unfolding texts_of
front-all [] ns zero e = refl
front-all [] ns (suc k) e = absurd (omega arith)
front-all (x ∷ xs) [] zero e = refl
front-all (x ∷ xs) [] (suc k) e = absurd (omega arith)
front-all (x ∷ xs) (n ∷ ns) zero e = absurd (omega arith)
front-all (x ∷ xs) (n ∷ ns) (suc k) e = ap (text_of x n ++◌) (front-all xs ns k (omega arith))

-- a number of two bytes has at most five digits, so with its name, space and sign it has seven characters more than its name
pub number-room : (n : ℕ) → n < 65536 → length (decimal n) ≤ 5
number-room n h = digits-most 4 n (omega arith)

abbrev pub Small : List ℕ → Type 0
Small ns = (i : ℕ) → get_or ns i 0 < 65536

small-take : (k : ℕ) (ns : List ℕ) → Small ns → Small (take k ns)
small-take zero ns h i = omega arith
small-take (suc k) [] h i = omega arith
small-take (suc k) (n ∷ ns) h zero = h 0
small-take (suc k) (n ∷ ns) h (suc i) = small-take k ns (λ j. h (suc j)) i

abbrev pub room : List (List ℕ) → ℕ
room [] = 0
room (x ∷ xs) = length x + 7 + room xs

pub texts-room : (xs : List (List ℕ)) (ns : List ℕ) → Small ns → length (texts_of xs ns) ≤ room xs
unfolding texts_of text_of
texts-room [] ns h = omega arith
texts-room (x ∷ xs) [] h = omega arith
texts-room (x ∷ xs) (n ∷ ns) h =
    let a = length-append (0x20 ∷ x) (0x3D ∷ decimal n) in
    let b = length-append ((0x20 ∷ x) ++ (0x3D ∷ decimal n)) (texts_of xs ns) in
    omega (arith, a, b, number-room n (h 0), texts-room xs ns (λ i. h (suc i)))

-- THE NAMES OF A SLOT: those of its kind stand behind the others
kind-names : (P : List String → Type 0) (s : Slot) → P pin_names → P older_names → P [] → P (kind_names s)
unfolding kind_names sensing older
kind-names P s f g h = by-test (eqb s.kind 2) (λ e. rw e f) λ e. by-test (eqb s.kind 3) (λ o. rw (e, o) g) λ o. rw (e, o) h

pub common-room : (ns : List ℕ) → Small ns → length (texts_of (map quoted common_names) ns) ≤ 768
unfolding common_names quoted
common-room ns h = texts-room (map quoted common_names) ns h

module _ (s : Slot) where
  -- as many as numbers
  as_many : length (names s) ≡ count_of s.kind
  unfolding names common_names pin_names older_names kind_names sensing older
  as_many = by-test (eqb s.kind 2) (λ e. rw e) λ e. by-test (eqb s.kind 3) (λ o. rw (e, o)) λ o. rw (e, o)

  -- with noughts behind the numbers: the names that every slot has, and those of its kind
  pub slot-texts : (ns : List ℕ) → length ns ≡ count_of s.kind
      → texts_of (map quoted common_names) (sixty ns) ++ texts_of (map quoted (kind_names s)) (take 3 (drop 57 (sixty ns))) ≡ number_texts (names s) ns
  unfolding names common_names sixty
  slot-texts ns l =
      let m : length (map quoted (names s)) ≡ length ns = length-map (names s) quoted ∙ as_many ∙ sym l in
      let c : length (sixty ns) ≡ 60 = rw (length-append, length-replicate) (omega (arith, l, at_most s.kind)) in
      ap (λ vs. texts_of (map quoted common_names) (sixty ns) ++ texts_of (map quoted (kind_names s)) vs) (take_all 3 (drop 57 (sixty ns)) (rw length-drop (omega (arith, c))))
      ∙ sym (texts-append (map quoted common_names) (map quoted (kind_names s)) (sixty ns) (omega (arith, c)))
      ∙ sym (ap (λ xs. texts_of xs (sixty ns)) (map-append quoted common_names (kind_names s)))
      ∙ texts-enough (map quoted (names s)) ns (replicate (60 - length ns) 0) (omega (arith, m)) ∙ texts-quoted (names s) ns

  pub own-room : (ns : List ℕ) → Small ns → length (texts_of (map quoted (kind_names s)) (take 3 (drop 57 ns))) ≤ 50
  unfolding pin_names older_names quoted
  own-room ns h =
      let vs : List ℕ = take 3 (drop 57 ns) in
      let g : Small vs = small-take 3 (drop 57 ns) (λ i. rw get_or-drop (h (57 + i))) in
      kind-names (λ ss. length (texts_of (map quoted ss) vs) ≤ 50) s (omega (arith, texts-room (map quoted pin_names) vs g))
      (omega (arith, texts-room (map quoted older_names) vs g)) (omega (arith, texts-room [] vs g))

-- a text put at a place, with the place after it, which is so many bytes further at most
abbrev pub Within : ℕ → List ℕ → ℕ → List ℕ → ℕ → List ℕ → Type 0
Within most out at text end o = (end ≡ at + length text) × (o ≡ sets out at text) × (end ≤ at + most)

-- a slot's number is one digit
pub slot-room : (n : ℕ) → n < 10 → length (decimal n) ≡ 1
slot-room n h = ap length (decimal-one n h)

-- a slot's line, put piece by piece
pub line-by : (n : ℕ) (s : Slot) (out o p q : List ℕ) (at first last end : ℕ) → Put out at (decimal n) first o → Put o first (number_texts (names s) (numbers_of s)) last p
    → Put p last (0x0A ∷ []) end q → Put out at (slot_line n s) end q
unfolding slot_line
line-by n s out o p q at first last end f g h =
    put_on out o q at first end (decimal n) (number_texts (names s) (numbers_of s) ++ 0x0A ∷ []) f
    (put_on o p q first last end (number_texts (names s) (numbers_of s)) (0x0A ∷ []) g h)

-- eight slots, each as it was and as it is, one by one: which the next is
pub slot-turn : (was is : List Slot) (k n : ℕ) (a b : Slot) → k < length (enumerate_from 0 (zip was is))
    → (n, (a, b)) ≡ get_or (enumerate_from 0 (zip was is)) k (n, (a, b))
    → (k < length was) × (k < length is) × (n ≡ k) × (get_or was k a ≡ a) × (get_or is k b ≡ b)
slot-turn was is k n a b h e =
    let l : length (enumerate_from 0 (zip was is)) ≡ min (length was) (length is) = length-enumerate_from 0 (zip was is) ∙ length-zip was is in
    let i : k < length was = omega (arith, l) in
    let j : k < length is = omega (arith, l) in
    let p = e ∙ get_or-enumerate_from 0 (zip was is) k (n, (a, b)) (rw length-zip (omega arith)) in
    let q = ap (λ (x : ℕ × (Slot × Slot)). x.1) p ∙ get_or-zip was is k (a, b) i j in
    (i, j, ap (λ (x : ℕ × (Slot × Slot)). x.0) p ∙ zero-add k, sym (ap (λ (x : Slot × Slot). x.0) q), sym (ap (λ (x : Slot × Slot). x.1) q))

pub slots-eight : (was is : List Slot) → length was ≡ 8 → length is ≡ 8 → length (enumerate_from 0 (zip was is)) ≡ 8
slots-eight was is h l = length-enumerate_from 0 (zip was is) ∙ length-zip was is ∙ rw (h, l)

-- one slot more, whatever would stand behind the last
pub changes-step : (n at mid end : ℕ) (was is : List Slot) (d e : Slot) (out o p : List ℕ) → n < length was → n < length is
    → Put out at (change_lines_to n was is) mid o → Put o mid (change_line n (get_or was n d) (get_or is n e)) end p
    → Put out at (change_lines_to (n + 1) was is) end p
unfolding change_lines_to
changes-step n at mid end was is d e out o p h l f g =
    let q : Put o mid (change_line n (get_or was n absent_slot) (get_or is n absent_slot)) end p =
    rw (get_d_any was n absent_slot d h, get_d_any is n absent_slot e l) g in
    rw add-one (put_on out o p at mid end (change_lines_to n was is) (change_line n (get_or was n absent_slot) (get_or is n absent_slot)) f q)

pub changes-none : (was is : List Slot) → change_lines_to 0 was is ≡ []
unfolding change_lines_to
changes-none was is = refl

-- all slots of a bench
pub bench-by : (b none : Bus) (out o : List ℕ) (end : ℕ) → none ≡ empty_bus → Within 24880 out 0 (change_lines none.slots b.slots) end o
    → (end ≡ length (bench_lines b)) × (o ≡ sets out 0 (bench_lines b)) × (end ≤ 24880)
unfolding bench_lines
bench-by b none out o end e p =
    let t : change_lines none.slots b.slots ≡ change_lines empty_bus.slots b.slots = ap (λ (n : Bus). change_lines n.slots b.slots) e in
    (p.0 ∙ zero-add (length (change_lines none.slots b.slots)) ∙ ap length t, p.1 ∙ ap (sets out 0) t, omega (arith, p.2))
