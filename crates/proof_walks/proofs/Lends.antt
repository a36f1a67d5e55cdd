-- The front of a local array lent as a slice for the lifetime of a call, and the array whole again.
--     Rest                     the elements behind the first k, in memory
--     lends_shr, shr-back      the first k are lent as a `&κ [T]`; after the end of κ the array is as it was
--                              `lends_shr` takes T's law of what a `&` holds (`Shares` of denote.Shares) and tokens within κ, which come back
--     lends_shr_free           the same with no token, where each element is lent so (`Lent` of denote.Lends), as where T is Copy
--     lends-mut, mut_back      they are lent as a `&κ mut [T]`; after the end of κ the array has the slice's last elements in front
-- Where k is n, the whole array is lent.
-- Assumes `Logic`.
use mathlib.Core.Path.{◌≡◌, refl, sym, ◌∙◌, subst}
use Prim.Native.Nat.{ℕ, ◌+◌, ◌≤◌}
use mathlib.Core.List.{List, [], ◌∷◌, ◌++◌}
use lib.ListN.{length, take, drop as dropped, take-append-drop}
use lib.Seq.{length-take-le}
use seplogic.Ra.Ura.{Ura}
use base.Fraction.{full_share}
use mir.Syntax.{Lifetime, ty_array}
use mir.Val.{Val}
use base.Logic.{SProp, ent, sep, ex}
use base.Fml.{Lft, GName, Fml, Incl, fsep, fat, fdead, feq, flent}
use ghost.Rules.{Toks, span}
use types.Logic.{Logic, sem, lfts}
use types.Kit.{‵, raw, move, join, ◌⊛◌, some, later, ◌$◌, ◌∵◌, !, qed, by, use1, use2, drop, rewrite, split, pick, fsplit, fjoin, fpick, fpack, feq_l, feq_i, await, updating, now as at_once, show, done}
use types.SemTy.{cells, Arr}
use types.Share.{arr_parts, parts}
use types.Tokens.{lent_back}
use denote.RattleType.{RattleType}
use denote.Shadow.{pure_i}
use denote.Laws.{Is, Tells, shows}
use denote.Lends.{Lent, Lent-nothing, Lent-both, lent_cut}
use denote.Shares.{Shares}
use denote.Memory.{mem, shares, shared_of, cell_at, part_at, lone, part_of}
use denote.Array.{Array, array_vals, Array-Tells}
use denote.ArrayMemory.{Single, Array-apart, Array-whole}
use denote.Struct.Steps.{spelt}
use denote.Steps.{only}
use denote.Slice.{slice_val, MutSlice, ShrSlice, Room, finally, shr_slice_at, elements_shared}
use denote.Lend.{Held, lends_slice, lends_shr_slice, slice_back}
use denote.Index.{row, whole_in, whole_out}
use borrow.Table.Elements.{at, cut_app, join_app, same_len}
use borrow.Rule.Array.Share.{Room-take}

module _ {M : Type 1} {𝓤 : Ura M} (𝓛 : Logic 𝓤) (R : RattleType) (one : Single R.mir) (vals : R.Denot → List Val) (tells : Tells R (Is R) vals) (n k : ℕ) (upto : k ≤ n) (room : Room R n) (b : ℕ) where
  open 𝓛 use {H, A}

  abbrev ⟦◌⟧ : Fml → SProp 𝓤
  ⟦ P ⟧ = sem 𝓛 P

  abbrev ◌∗◌ : SProp 𝓤 → SProp 𝓤 → SProp 𝓤
  P ∗ Q = sep 𝓤 P Q

  infixr 35 ◌∗◌
  -- the array in its block, at the value v, and what it owns
  abbrev Cell : Val → Fml
  Cell v = fat full_share (ty_array (lone R.mir) n) b 0 v

  abbrev Own : List R.Denot → Val → Fml
  Own ys v = (Array R n).own_val ys (v ∷ [])

  abbrev array_val : List R.Denot → Val
  array_val ys = only (array_vals vals ys)

  -- the first elements in memory, and the others
  abbrev Front : List R.Denot → Fml
  Front zs = cells (mem R) zs b 0

  abbrev pub Rest : List R.Denot → Fml
  Rest ys = cells (mem R) (dropped k ys) b (at 0 (mem R).size (length (take k ys)))

  -- k elements as a `&` has them
  abbrev pub Parts : List R.Denot → Fml
  Parts zs = (arr_parts (shares R) k).part full_share zs b 0

  front-len : (ys : List R.Denot) → length ys ≡ n → length (take k ys) ≡ k
  front-len ys l = length-take-le k ys (subst (λ (m : ℕ). k ≤ m) (sym l) upto)

  cuts : (ys : List R.Denot) (v : Val) → ent 𝓤 (⟦ Cell v ⟧ ∗ ⟦ Own ys v ⟧) (⟦ Front (take k ys) ⟧ ∗ ⟦ Rest ys ⟧)
  unfolding part_of
  cuts ys v =
      qed 𝓛 (‵ (Cell v) ∷ ‵ (Own ys v) ∷ []) ∵ use1 𝓛 (‵ (cell_at full_share (Array R n).mir (v ∷ []) b 0)) (𝓛.laws.at_raw full_share (ty_array (lone R.mir) n) b 0 v) $ fjoin ! $
      fpack ! (List Val) (λ vs. fsep (cell_at full_share (Array R n).mir vs b 0) ((Array R n).own_val ys vs)) (v ∷ []) $
      use1 𝓛 (‵ ((arr_parts (shares R) n).part full_share ys b 0)) (Array-apart 𝓛 R full_share one n ys b 0) $ fsplit ! $ drop ! $
      use1 𝓛 (‵ (cells (mem R) ys b 0)) (whole_in 𝓛 R ys b 0) $ rewrite ! 0 (λ (zs : List R.Denot). ‵ (cells (mem R) zs b 0)) (sym (take-append-drop k ys)) refl $
      by ! (cut_app 𝓛 (mem R) (take k ys) (dropped k ys) b 0)

  joins : (ys zs : List R.Denot) → length ys ≡ n → length zs ≡ k → ent 𝓤 (⟦ Front zs ⟧ ∗ ⟦ Rest ys ⟧) (⟦ Cell (array_val (zs ++ dropped k ys)) ⟧ ∗ ⟦ Own (zs ++ dropped k ys) (array_val (zs ++ dropped k ys)) ⟧)
  unfolding part_of
  joins ys zs l e =
      let all : List R.Denot = zs ++ dropped k ys in
      let same : length zs ≡ length (take k ys) = e ∙ sym (front-len ys l) in
      qed 𝓛 (‵ (Front zs) ∷ ‵ (Rest ys) ∷ []) ∵ rewrite ! 1 (λ (m : ℕ). ‵ (cells (mem R) (dropped k ys) b (at 0 (mem R).size m))) (sym same) refl $
      use2 𝓛 (‵ (cells (mem R) all b 0)) (join_app 𝓛 (mem R) zs (dropped k ys) b 0) $ use1 𝓛 (‵ (row R full_share all b 0)) (whole_out 𝓛 R all b 0) $
      feq_i ! ℕ (length all) n (same_len k ys zs same ∙ l) $ fjoin ! $ use1 𝓛 (‵ (part_at (Array R n) full_share all b 0)) (Array-whole 𝓛 R full_share n all b 0) $ fpick ! (λ vs. fsplit ! $
      spelt ! (Array R n) (Is (Array R n)) (shows 𝓛 (Array R n)) (array_vals vals) (Array-Tells R vals tells n) full_share all vs b 0 $
      use1 𝓛 (‵ (Cell (array_val all))) (𝓛.laws.raw_at full_share (ty_array (lone R.mir) n) b 0 (array_val all)) $ done !)

  -- elements side by side are lent with no token where each is
  each_lent : ((x : R.Denot) (c o : ℕ) → Lent 𝓛 (part_at R full_share x c o) (shared_of R x c o)) → (zs : List R.Denot) (o : ℕ) → Lent 𝓛 (parts (mem R) (shares R) full_share zs b o) (elements_shared R zs b o)
  each_lent law [] o = Lent-nothing 𝓛
  each_lent law (z ∷ zs) o =
      Lent-both 𝓛 (part_at R full_share z b o) (parts (mem R) (shares R) full_share zs b (o + (mem R).size)) (shared_of R z b o) (elements_shared R zs b (o + (mem R).size))
      (law z b o) (each_lent law zs (o + (mem R).size))

  module _ (ℓ : Lifetime) (κ : Lft) (ys : List R.Denot) (l : length ys ≡ n) where
    -- the first k lent as a `&`, what comes back of them, and the others
    abbrev LentShr : ℕ → SProp 𝓤
    LentShr m = ⟦ (ShrSlice ℓ κ R).own_val (record { ref_ptr = (b, 0); now = take k ys }) (slice_val (b, 0) m ∷ []) ⟧ ∗ ⟦ flent κ ((arr_parts (shares R) m).part full_share (take k ys) b 0) ⟧ ∗ ⟦ Rest ys ⟧

    pub lends_shr : (α : Lft) → Shares 𝓛 R α → (ts : Toks) → Incl (span ts) α → Incl (span ts) κ
        → (v : Val) → ent 𝓤 (⟦ Cell v ⟧ ∗ ⟦ Own ys v ⟧ ∗ lfts 𝓛 ts) (H.⇛ (LentShr k ∗ lfts 𝓛 ts))
    lends_shr α law ts within_law within v = subst (λ (m : ℕ). ent 𝓤 (⟦ Cell v ⟧ ∗ ⟦ Own ys v ⟧ ∗ lfts 𝓛 ts) (H.⇛ (LentShr m ∗ lfts 𝓛 ts))) (front-len ys l) (
        let m : ℕ = length (take k ys) in
        qed 𝓛 (‵ (Cell v) ∷ ‵ (Own ys v) ∷ raw (lfts 𝓛 ts) ∷ []) ∵ updating ! $ use2 𝓛 (‵ (Front (take k ys)) ⊛ ‵ (Rest ys)) (cuts ys v) $ split ! $
        use1 𝓛 (‵ (row R full_share (take k ys) b 0)) (whole_out 𝓛 R (take k ys) b 0) $ feq_i ! ℕ m m refl $ fjoin ! $ move ! (0 ∷ 2 ∷ []) $
        use2 𝓛 (later ((‵ ((ShrSlice ℓ κ R).own_val (record { ref_ptr = (b, 0); now = take k ys }) (slice_val (b, 0) m ∷ [])) ⊛ ‵ (flent κ ((arr_parts (shares R) m).part full_share (take k ys) b 0))) ⊛ raw (lfts 𝓛 ts)))
        (lends_shr_slice 𝓛 R ℓ κ full_share (take k ys) b 0 (Room-take R n k ys l room) α law ts within_law within) $ await ! tt $ split ! $ split ! $ at_once ! $
        move ! (1 ∷ 3 ∷ []) $ join ! $ move ! (1 ∷ 0 ∷ []) $ join ! $ done !)

    pub lends_shr_free : ((x : R.Denot) (c o : ℕ) → Lent 𝓛 (part_at R full_share x c o) (shared_of R x c o)) → (v : Val) → ent 𝓤 (⟦ Cell v ⟧ ∗ ⟦ Own ys v ⟧) (H.⇛ (LentShr k))
    lends_shr_free law v = subst (λ (m : ℕ). ent 𝓤 (⟦ Cell v ⟧ ∗ ⟦ Own ys v ⟧) (H.⇛ (LentShr m))) (front-len ys l) (
        let zs : List R.Denot = take k ys in
        let m : ℕ = length zs in
        let Row : Fml = parts (mem R) (shares R) full_share zs b 0 in
        let Whole : Fml = (arr_parts (shares R) m).part full_share zs b 0 in
        let AsMany : Fml = feq ℕ m m in
        qed 𝓛 (‵ (Cell v) ∷ ‵ (Own ys v) ∷ []) ∵ updating ! $ use2 𝓛 (‵ (Front zs) ⊛ ‵ (Rest ys)) (cuts ys v) $ split ! $
        use1 𝓛 (‵ (row R full_share zs b 0)) (whole_out 𝓛 R zs b 0) $ feq_i ! ℕ m m refl $ fjoin ! $
        use1 𝓛 (later (‵ (elements_shared R zs b 0 κ) ⊛ (‵ AsMany ⊛ ‵ (flent κ Whole)))) (lent_cut 𝓛 Whole Row AsMany (elements_shared R zs b 0)
        (qed 𝓛 (‵ Whole ∷ []) {P = ⟦ Row ⟧ ∗ ⟦ AsMany ⟧} (fsplit ! $ move ! (1 ∷ 0 ∷ []) $ done !))
        (qed 𝓛 (‵ Row ∷ ‵ AsMany ∷ []) {P = ⟦ Whole ⟧} (move ! (1 ∷ 0 ∷ []) $ fjoin ! $ done !))
        (qed 𝓛 (‵ AsMany ∷ []) {P = ⟦ AsMany ⟧ ∗ ⟦ AsMany ⟧} (feq_l ! (λ e. feq_i ! ℕ m m e $ feq_i ! ℕ m m e $ done !)))
        (each_lent law zs 0) κ) $ await ! tt $ split ! $ move ! (1 ∷ []) $ split ! $ drop ! $ move ! (1 ∷ 0 ∷ []) $
        pure_i ! (shr_slice_at R (record { ref_ptr = (b, 0); now = zs }) (slice_val (b, 0) m ∷ [])) (tt, (tt, tt)) (refl, Room-take R n k ys l room) $ fjoin ! $ at_once ! $ done !)

    pub shr-back : ent 𝓤 (A.dead κ ∗ ⟦ flent κ (Parts (take k ys)) ⟧ ∗ ⟦ Rest ys ⟧) (H.⇛ (⟦ Cell (array_val ys) ⟧ ∗ ⟦ Own ys (array_val ys) ⟧))
    shr-back = subst (λ (zs : List R.Denot). ent 𝓤 (A.dead κ ∗ ⟦ flent κ (Parts (take k ys)) ⟧ ∗ ⟦ Rest ys ⟧) (H.⇛ (⟦ Cell (array_val zs) ⟧ ∗ ⟦ Own zs (array_val zs) ⟧))) (take-append-drop k ys) (
        qed 𝓛 (‵ (fdead κ) ∷ ‵ (flent κ (Parts (take k ys))) ∷ ‵ (Rest ys) ∷ []) ∵ updating ! $ lent_back ! tt $ at_once ! $ fsplit ! $ drop ! $
        use1 𝓛 (‵ (Front (take k ys))) (whole_in 𝓛 R (take k ys) b 0) $ by ! (joins ys (take k ys) l (front-len ys l)))

    -- the first k lent as a `&mut`
    abbrev LentMut : ℕ → GName → SProp 𝓤
    LentMut m γ = ⟦ (MutSlice ℓ κ R).own_val (record { ref_ptr = (b, 0); ghost_name = γ; now = take k ys }) (slice_val (b, 0) m ∷ []) ⟧ ∗ ⟦ flent κ (Held R m b 0 γ) ⟧ ∗ ⟦ Rest ys ⟧

    pub lends-mut : (v : Val) → ent 𝓤 (⟦ Cell v ⟧ ∗ ⟦ Own ys v ⟧) (H.⇛ (ex 𝓤 (LentMut k)))
    lends-mut v = subst (λ (m : ℕ). ent 𝓤 (⟦ Cell v ⟧ ∗ ⟦ Own ys v ⟧) (H.⇛ (ex 𝓤 (LentMut m)))) (front-len ys l) (
        let m : ℕ = length (take k ys) in
        qed 𝓛 (‵ (Cell v) ∷ ‵ (Own ys v) ∷ []) ∵ updating ! $ use2 𝓛 (‵ (Front (take k ys)) ⊛ ‵ (Rest ys)) (cuts ys v) $ split ! $
        use1 𝓛 (later (some (λ (γ : GName). ‵ ((MutSlice ℓ κ R).own_val (record { ref_ptr = (b, 0); ghost_name = γ; now = take k ys }) (slice_val (b, 0) m ∷ [])) ⊛ ‵ (flent κ (Held R m b 0 γ)))))
        (lends_slice 𝓛 R ℓ κ (take k ys) b 0 (Room-take R n k ys l room)) $ await ! tt $ pick ! (λ γ. split ! $ at_once ! $ show ! (LentMut m) γ $ done !))

    pub mut_back : (γ : GName) (zs : List R.Denot) → ent 𝓤 (A.dead κ ∗ (⟦ flent κ (Held R k b 0 γ) ⟧ ∗ ⟦ finally R γ zs ⟧) ∗ ⟦ Rest ys ⟧) (H.⇛ (⟦ Cell (array_val (zs ++ dropped k ys)) ⟧ ∗ ⟦ Own (zs ++ dropped k ys) (array_val (zs ++ dropped k ys)) ⟧))
    mut_back γ zs =
        qed 𝓛 (‵ (fdead κ) ∷ (‵ (flent κ (Held R k b 0 γ)) ⊛ ‵ (finally R γ zs)) ∷ ‵ (Rest ys) ∷ []) ∵ updating ! $
        use2 𝓛 (later (‵ ((Arr (mem R) k).own_at zs b 0))) (slice_back 𝓛 R κ γ zs k b 0) $ await ! tt $ fsplit ! $ feq_l ! (λ e. at_once ! $ by ! (joins ys zs l e))
