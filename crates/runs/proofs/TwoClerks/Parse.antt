-- The parse of a run into exchanges and the events between them is right: a run written from items parses into them, and one that parses is written from what it parses into.
-- Assumes nothing.
use mathlib.Core.Path.{◌≡◌, refl, sym, ◌∙◌, ap}
use mathlib.Core.List.{List, [], ◌∷◌}
use mathlib.Core.Option.{Option, none, some, none-ne-some, some-injective}
use Rattle.rules.specs.declared.Act.{Act}
use Rattle.rules.specs.declared.Act.TheVariants.{Start, Byte, Read, Stop, Timeout, Tick, Power, Apply}
use Rattle.runs.specs.Exchanges.{Inside, again, byte, read, Gap, stray_byte, stray_read, stray_stop, timeout, tick, power, apply, Item, exchange, between, inside_act, gap_act, up_to_stop, item_acts, flatten, Rest, onto, opened, closed, more, items_of, within}

-- how the parse takes one act: inside an exchange, and between two
within-inside : (x : Inside) (r : List Act) → within (inside_act x ∷ r) ≡ onto (more x) (within r)
unfolding inside_act within
within-inside again r = refl
within-inside (byte b) r = refl
within-inside (read m) r = refl

items-gap : (g : Gap) (r : List Act) → items_of (gap_act g ∷ r) ≡ onto (between g ∷◌) (items_of r)
unfolding gap_act items_of
items-gap (stray_byte b) r = refl
items-gap (stray_read m) r = refl
items-gap stray_stop r = refl
items-gap timeout r = refl
items-gap tick r = refl
items-gap (power k) r = refl
items-gap (apply k x) r = refl

-- a run written from items parses into them
within-stop : (xs : List Inside) (r : List Act) (is : List Item) → items_of r ≡ some is → within (up_to_stop xs r) ≡ some (record { insides = xs; items = is })
unfolding within up_to_stop onto closed more
within-stop [] r is e = ap (onto closed) e
within-stop (x ∷ xs) r is e = within-inside x (up_to_stop xs r) ∙ ap (onto (more x)) (within-stop xs r is e)

pub items-flatten : (is : List Item) → items_of (flatten is) ≡ some is
unfolding items_of flatten item_acts onto opened
items-flatten [] = refl
items-flatten (exchange xs ∷ is) = ap (onto opened) (within-stop xs (flatten is) is (items-flatten is))
items-flatten (between g ∷ is) = items-gap g (flatten is) ∙ ap (onto (between g ∷◌)) (items-flatten is)

-- and a run that parses is written from what it parses into
onto-some : {A : Type 0} {B : Type 0} (f : A → B) (o : Option A) (y : B) → onto f o ≡ some y → (x : A) × (o ≡ some x) × (f x ≡ y)
unfolding onto
onto-some f none y e = absurd (none-ne-some _ e)
onto-some f (some x) y e = (x, refl, some-injective _ _ e)

-- the rest of an exchange and what follows it, written out
written : Rest → List Act
written t = up_to_stop t.insides (flatten t.items)

-- one act, where the acts after it are known to be written so
module _ (r : List Act) where
  gap-first : (g : Gap) (is : List Item) → ((js : List Item) → items_of r ≡ some js → flatten js ≡ r) → onto (between g ∷◌) (items_of r) ≡ some is
      → flatten is ≡ gap_act g ∷ r
  unfolding flatten item_acts
  gap-first g is back e = let (js, p, q) = onto-some (between g ∷◌) (items_of r) is e in ap flatten (sym q) ∙ ap (gap_act g ∷◌) (back js p)

  inside-first : (x : Inside) (t : Rest) → ((u : Rest) → within r ≡ some u → written u ≡ r) → onto (more x) (within r) ≡ some t
      → written t ≡ inside_act x ∷ r
  unfolding written up_to_stop more
  inside-first x t back e = let (u, p, q) = onto-some (more x) (within r) t e in ap written (sym q) ∙ ap (inside_act x ∷◌) (back u p)

mutual
  unfolding items_of within flatten item_acts up_to_stop inside_act gap_act written opened closed

  pub flatten-items : (r : List Act) (is : List Item) → items_of r ≡ some is → flatten is ≡ r
  flatten-items [] is e = ap flatten (sym (some-injective _ _ e))
  flatten-items (Start ∷ r) is e = let (t, p, q) = onto-some opened (within r) is e in ap flatten (sym q) ∙ ap (Start ∷◌) (stop-within r t p)
  flatten-items (Byte b ∷ r) is e = gap-first r (stray_byte b) is (flatten-items r) e
  flatten-items (Read m ∷ r) is e = gap-first r (stray_read m) is (flatten-items r) e
  flatten-items (Stop ∷ r) is e = gap-first r stray_stop is (flatten-items r) e
  flatten-items (Timeout ∷ r) is e = gap-first r timeout is (flatten-items r) e
  flatten-items (Tick ∷ r) is e = gap-first r tick is (flatten-items r) e
  flatten-items (Power k ∷ r) is e = gap-first r (power k) is (flatten-items r) e
  flatten-items (Apply k x ∷ r) is e = gap-first r (apply k x) is (flatten-items r) e

  stop-within : (r : List Act) (t : Rest) → within r ≡ some t → written t ≡ r
  stop-within [] t e = absurd (none-ne-some _ e)
  stop-within (Start ∷ r) t e = inside-first r again t (stop-within r) e
  stop-within (Byte b ∷ r) t e = inside-first r (byte b) t (stop-within r) e
  stop-within (Read m ∷ r) t e = inside-first r (read m) t (stop-within r) e
  stop-within (Stop ∷ r) t e = let (is, p, q) = onto-some closed (items_of r) t e in ap written (sym q) ∙ ap (Stop ∷◌) (flatten-items r is p)
  stop-within (Timeout ∷ r) t e = absurd (none-ne-some _ e)
  stop-within (Tick ∷ r) t e = absurd (none-ne-some _ e)
  stop-within (Power k ∷ r) t e = absurd (none-ne-some _ e)
  stop-within (Apply k x ∷ r) t e = absurd (none-ne-some _ e)
