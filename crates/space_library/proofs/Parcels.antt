-- A parcel, and the machine value that it is.
use Rattle.std.proofs.Common.{◌≡◌, ℕ, List, [], ◌∷◌, ◌++◌, refl, subst}
use mathlib.Core.Bool.{true, ◌&&◌}
use lib.Dec.{T}
use seplogic.Ra.Ura.{Ura}
use mir.Syntax.{impl, tnil, dnil}
use mir.Raw.{raw as bare}
use mir.Val.{Val, vptr, vstruct, vcons, vnil, of_list, has_ty, WT}
use base.Logic.{never, fst∗}
use types.Logic.{Logic, sem}
use types.Kit.{Item, Goal, Seq, Step, step, ‵, ◌$◌, move, drop, fsplit, fjoin, fpick, fpack, feq_i, feq_l}
use denote.RattleType.{RattleType, Valss}
use denote.Builtin.{RawPtr}
use denote.Memory.{lone}
use denote.RawPtr.{Ptr, block_ptr, null_ptr, ptr_val, in_a_block}
use denote.Steps.{nothing}
use denote.Param.{layout}
use denote.Param.Laws.{Laws}
use denote.Struct.Struct.{within}
use denote.Struct.Owning.{shape}
use Rattle.std.specs.declared.alloc.Allocator.{Ghosts}
use Rattle.std.specs.Box.Ownership.{box_owns}
use Rattle.std.proofs.alloc.Calls.{Al, handle_tells}
use Rattle.std.proofs.cell.Inside.{Good}
use Rattle.std.proofs.ResultValues.{and_tt}
use Rattle.space_library.specs.contracts.parcel.Parcel as parcel

-- the machine value of a parcel with this pointer and this allocator
abbrev pub word : Val → Val → Val
word at heap = vstruct (vcons at (vcons heap vnil))

module _ (R A : RattleType) (L : Laws A) (g : Ghosts A.Denot) where
  abbrev pub Parcel : RattleType
  Parcel = parcel.the_row R A g

  abbrev pub allocator : Al
  allocator = record { row = A; laws = L; g = g; d = impl [] tnil dnil; drops = impl [] tnil dnil }

  pub word_good : (b o : ℕ) (heap : Val) → Good (layout A) heap → T (has_ty (layout A) heap && true) × WT (word (vptr b o) heap)
  word_good b o heap good = (and_tt (has_ty (layout A) heap) good.0, (tt, (good.1, tt)))

  module _ {M : Type 1} {𝓤 : Ura M} {𝓛 : Logic 𝓤} {K : Type 0} {Γ : List (Item 𝓤)} {G : Goal 𝓤 𝓛.H} where
    -- A parcel owns its box, whose pointer leads into a block, and its allocator.
    pub parcel_out : K → (p : Parcel.Denot) (vs : List Val)
        → ((b o : ℕ) (heap : Val) → p.at ≡ block_ptr b o → vs ≡ word (vptr b o) heap ∷ [] → Good (layout A) heap
        → Seq K 𝓛 (‵ (box_owns (g.dealloc_token p.alloc) R (block_ptr b o) p.value) ∷ ‵ (A.own_val p.alloc (heap ∷ [])) ∷ Γ) G)
        → Seq K 𝓛 (‵ (Parcel.own_val p vs) ∷ Γ) G
    parcel_out t p vs k =
        fsplit t $ fpick t (λ fields. fsplit t $ feq_l t (λ all. fsplit t $ feq_l t (λ first. fsplit t $
        handle_tells allocator t p.alloc fields.1.0 (λ heap second good. move t (1 ∷ []) $ drop t $ move t (1 ∷ []) $
        in_a_block t p.at (λ at. box_owns (g.dealloc_token p.alloc) R at p.value)
        (fst∗ 𝓤 (never 𝓤) (sem 𝓛 (g.dealloc_token p.alloc (bare (lone R.mir)) null_ptr))) (λ b o there.
        k b o heap there
        (subst (λ (at : Ptr). vs ≡ word (ptr_val at) heap ∷ []) there
        (subst (λ (ws : List Val). vs ≡ vstruct (of_list (ptr_val p.at ∷ (ws ++ []))) ∷ []) second
        (subst (λ (ws : List Val). vs ≡ vstruct (of_list (ws ++ (fields.1.0 ++ []))) ∷ []) first all))) good)))))

    pub parcel_in : K → (b o : ℕ) (heap : Val) (a : A.Denot) (x : R.Denot)
        → Step K 𝓛 (‵ (Parcel.own_val (record { at = block_ptr b o; alloc = a; value = x }) (word (vptr b o) heap ∷ [])) ∷ Γ) G
        (‵ (box_owns (g.dealloc_token a) R (block_ptr b o) x) ∷ ‵ (A.own_val a (heap ∷ [])) ∷ Γ) G
    parcel_in t b o heap a x = step (λ s. let v : Val = word (vptr b o) heap in
        nothing t $ move t (2 ∷ 0 ∷ []) $ fjoin t $ feq_i t (List Val) (vptr b o ∷ []) (vptr b o ∷ []) refl $ fjoin t $
        feq_i t (List Val) (v ∷ []) (v ∷ []) refl $ fjoin t $
        fpack t (Valss (RawPtr ∷ A ∷ [])) (within (shape (parcel.the_type R A g)) (block_ptr b o, (a, tt)) (v ∷ []))
        (vptr b o ∷ [], (heap ∷ [], tt)) $ fjoin t $ s)
