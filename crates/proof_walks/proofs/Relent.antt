-- A `&mut [T]` that is lent again for the lifetime of a call, and comes back, for a walk by hand, which has a reference's machine value beside it.
--     Kept             what the holder keeps meanwhile: that there is room, the lender's right at κ', its own borrow at κ, open, which holds [κ]_q, and both halves of its ghost variable
--     lends_again      the `&κ mut [T]` at ys ∗ [κ]_q  ⊢ ⇛ ∃ δ. the `&κ' mut [T]` at ys under δ ∗ Kept δ ys
--     comes_back       [†κ'] ∗ Kept δ ys ∗ finally δ zs  ⊢ ⇛ (the `&κ mut [T]` at zs ∗ [κ]_q)
-- As `lends_again` and `comes_back` of denote.Lend are for a `&mut T`.
-- Assumes `Logic`.
use mathlib.Core.Path.{◌≡◌, refl, sym, ◌∙◌, ap, subst}
use Prim.Native.Nat.{ℕ, ◌*◌, ◌^◌, ◌<◌}
use mathlib.Core.List.{List, [], ◌∷◌}
use lib.ListN.{length, length-map}
use seplogic.Ra.Ura.{Ura}
use mir.Syntax.{Lifetime}
use mir.Val.{Val}
use base.Logic.{ent, sep, ex}
use base.Fml.{Lft, GName, Share, Fml, fsep, flft, fdead, fbor, fobor, fobs, fauth, flent}
use types.Logic.{Logic, sem}
use types.Kit.{‵, ◌$◌, ◌∵◌, !, qed, move, keep, use2, rewrite, fsplit, fsplit3, fjoin, fpick, fpack, feq_l, feq_i, flt_l, flt_i, frame, updating, now as at_once, show, done}
use types.Tokens.{name_new, res_agree, bor_new, lent_back}
use types.Mut.{open_ref, close_ref}
use types.SemTy.{SemTy, Arr}
use types.Hole.{Holey, here, fills_l, settle}
use denote.RattleType.{RattleType}
use denote.Memory.{mem}
use denote.Ref.{MutBor}
use denote.Shadow.{pure_l, pure_i}
use denote.Slice.{slice_val, MutSlice, Holeys, heres, room, finally, coded_holeys, mut_slice_at}
use denote.Lend.{Held}

module _ (R : RattleType) (κ κ' : Lft) (q : Share) (γ : GName) (b o : ℕ) where
  abbrev named : GName → List R.Denot → MutBor (List R.Denot)
  named δ ys = record { ref_ptr = (b, o); ghost_name = δ; now = ys }

  -- n elements, and what a ghost name records of elements
  abbrev Elements : ℕ → SemTy
  Elements n = Arr (Holey (mem R)) n

  -- what the holder keeps meanwhile
  abbrev pub Kept : GName → List R.Denot → Fml
  Kept δ ys =
      fsep (room R (length ys)) (fsep (flent κ' (Held R (length ys) b o δ)) (fsep (fobor κ q (Held R (length ys) b o γ))
      (fsep (fobs γ ((coded_holeys R).code (heres R ys))) (fauth γ ((coded_holeys R).code (heres R ys))))))

  module _ {M : Type 1} {𝓤 : Ura M} (𝓛 : Logic 𝓤) (ℓ : Lifetime) (ys : List R.Denot) where
    open 𝓛 use {H, A}

    abbrev vals : List Val
    vals = slice_val (b, o) (length ys) ∷ []

    pub lends_again : ent 𝓤 (sep 𝓤 (sem 𝓛 ((MutSlice ℓ κ R).own_val (named γ ys) vals)) (A.lft κ q)) (H.⇛ (ex 𝓤 (λ (δ : GName). sep 𝓤 (sem 𝓛 ((MutSlice ℓ κ' R).own_val (named δ ys) vals)) (sem 𝓛 (Kept δ ys)))))
    lends_again =
        qed 𝓛 (‵ ((MutSlice ℓ κ R).own_val (named γ ys) vals) ∷ ‵ (flft κ q) ∷ []) ∵ updating ! $ fsplit ! $ pure_l ! (mut_slice_at R (named γ ys) vals) (λ p.
        fsplit ! $ open_ref ! tt (Elements (length ys)) $
        name_new ! tt ((coded_holeys R).code (heres R ys)) (λ δ. move ! (2 ∷ 1 ∷ []) $ fjoin ! $
        fpack ! (Holeys R) (λ hs. fsep ((Elements (length ys)).own_at hs b o) (fauth δ ((coded_holeys R).code hs))) (heres R ys) $ bor_new ! tt κ' $
        -- [the borrow at κ'; the lender's right; obs δ; the open borrow at κ; obs γ; auth γ]
        at_once ! $ show ! (λ (δ' : GName). sep 𝓤 (sem 𝓛 ((MutSlice ℓ κ' R).own_val (named δ' ys) vals)) (sem 𝓛 (Kept δ' ys))) δ $
        move ! (2 ∷ 0 ∷ []) $ fjoin ! $ pure_i ! (mut_slice_at R (named δ ys) vals) (tt, (tt, tt)) p $ fjoin ! $ frame ! $
        move ! (2 ∷ 3 ∷ []) $ fjoin ! $ move ! (2 ∷ 0 ∷ []) $ fjoin ! $ move ! (1 ∷ 0 ∷ []) $ fjoin ! $
        flt_i ! (length ys * (mem R).size) (2 ^ 63) p.1.1 $ flt_i ! (length ys) (2 ^ 64) p.1.0 $ fjoin ! $ fjoin ! $ done !))

    pub comes_back : (δ : GName) (zs : List R.Denot) → ent 𝓤 (sep 𝓤 (A.dead κ') (sep 𝓤 (sem 𝓛 (Kept δ ys)) (sem 𝓛 (finally R δ zs)))) (H.⇛ (sep 𝓤 (sem 𝓛 ((MutSlice ℓ κ R).own_val (named γ zs) vals)) (A.lft κ q)))
    comes_back δ zs =
        qed 𝓛 (‵ (fdead κ') ∷ ‵ (Kept δ ys) ∷ ‵ (finally R δ zs) ∷ []) ∵ updating ! $ move ! (1 ∷ []) $ fsplit3 ! $
        fsplit ! $ flt_l ! (λ few. flt_l ! (λ small.
        -- [the lender's right; the open borrow with obs γ and auth γ; κ' is dead; finally]
        move ! (2 ∷ 0 ∷ []) $ lent_back ! tt $ fpick ! (λ us. fsplit ! $
        -- [the elements at us; auth δ us; the open borrow with obs γ and auth γ; finally]
        move ! (3 ∷ []) $ fpick ! (λ hs. fsplit ! $ move ! (0 ∷ 3 ∷ []) $ res_agree ! (coded_holeys R) (λ e.
        -- [res δ hs; auth δ us; hs agrees with zs; the elements at us; the open borrow with obs γ and auth γ]
        rewrite ! 2 (λ (h : Holeys R). ‵ (fills_l (mem R) h zs)) e refl $ move ! (2 ∷ 3 ∷ []) $
        use2 𝓛 (‵ ((Elements (length ys)).own_at (heres R zs) b o)) (settle 𝓛 (mem R) (length ys) us zs b o) $ fsplit ! $ feq_l ! (λ l.
        let as_many : length ys ≡ length zs = sym (sym (length-map zs (here (mem R))) ∙ l) in
        feq_i ! ℕ (length (heres R zs)) (length ys) l $ fjoin ! $ move ! (3 ∷ []) $ fsplit3 ! $ move ! (3 ∷ 0 ∷ 1 ∷ 2 ∷ []) $ close_ref ! tt (Elements (length ys)) (heres R zs) $
        -- [obs γ at zs; the borrow; the token; res δ; auth δ]
        rewrite ! 1 (λ (n : ℕ). ‵ (fbor κ (Held R n b o γ))) as_many refl $ fjoin ! $
        pure_i ! (mut_slice_at R (named γ zs) vals) (tt, (tt, tt))
        (ap (λ (n : ℕ). slice_val (b, o) n ∷ []) as_many, (subst (λ (n : ℕ). n < 2 ^ 64) as_many few, subst (λ (n : ℕ). n * (mem R).size < 2 ^ 63) as_many small)) $
        fjoin ! $ at_once ! $ frame ! $ keep ! (0 ∷ []) $ done !))))))
