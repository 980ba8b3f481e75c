-- A handle, and the machine value that it is.
use Rattle.std.proofs.Common.{◌≡◌, ℕ, List, [], ◌∷◌, ◌++◌, refl, ap, ◌∙◌}
use seplogic.Ra.Ura.{Ura}
use mir.Raw.{raw as bare}
use mir.Val.{Val, vstruct, vcons, vnil, of_list}
use base.Fraction.{full_share}
use base.Logic.{ent, guard, never, via, fst∗, snd∗, guard_i}
use types.Logic.{Logic, sem}
use types.Kit.{Item, Goal, Seq, Step, step, ‵, given, ◌$◌, drop, fsplit, fjoin, fpick, fpack, feq_i, feq_l, use1, learn}
use contract.Monad.{fact_use}
use denote.RattleType.{Valss}
use denote.Builtin.{RawPtr}
use denote.Memory.{lone}
use denote.RawPtr.{Ptr, block_ptr, null_ptr, ptr_val, in_a_block, lies_at, Testable}
use denote.Steps.{nothing}
use denote.Struct.Struct.{within}
use denote.Struct.Owning.{shape}
use Rattle.std.specs.Prelude.{None, Some}
use Rattle.std.specs.contracts.impls.GlobalAllocator.TheImpl.{ghosts}
use Rattle.std.proofs.GlobalToken.{dealloc_token-Testable}
use Rattle.space_library.specs.Held.{Held, the_heap, held_at, held_in}
use Rattle.space_library.specs.declared.handle.Handle.{Handle}
use Rattle.space_library.specs.contracts.handle.Handle.{the_row, the_type}
use Rattle.space.specs.contracts.tuples.Space.{the_row as space}

-- the machine value of a handle with this pointer
abbrev pub word : Ptr → Val
word p = vstruct (vcons (ptr_val p) vnil)

-- Where something is held, the pointer may be compared with null.
tested : {M : Type 1} {𝓤 : Ura M} (𝓛 : Logic 𝓤) (p : Ptr) (x : space.Denot)
    → ent 𝓤 (sem 𝓛 (held_at p x)) (guard 𝓤 (Testable p) (sem 𝓛 (held_at p x)))
tested {𝓤 = 𝓤} 𝓛 p x =
    fact_use 𝓤 (Testable p)
    (via 𝓤 _ (snd∗ 𝓤 (sem 𝓛 (lies_at space full_share p x)) (sem 𝓛 (ghosts.dealloc_token the_heap (bare (lone space.mir)) p)))
    (dealloc_token-Testable 𝓛 the_heap (bare (lone space.mir)) p))
    (guard_i 𝓤 (Testable p) (sem 𝓛 (held_at p x)))

module _ {M : Type 1} {𝓤 : Ura M} {𝓛 : Logic 𝓤} {K : Type 0} {Γ : List (Item 𝓤)} {G : Goal 𝓤 𝓛.H} where
  -- A handle owns what its pointer holds, and nothing else.
  pub handle_out : K → (h : Handle) (vs : List Val)
      → (vs ≡ word h.at ∷ [] → Seq K 𝓛 (‵ (held_in h.at h.held) ∷ Γ) G) → Seq K 𝓛 (‵ (the_row.own_val h vs) ∷ Γ) G
  handle_out t h vs k =
      fsplit t $ fpick t (λ fields. fsplit t $ feq_l t (λ all. fsplit t $ feq_l t (λ first. drop t $
      k (all ∙ ap (λ (ws : List Val). vstruct (of_list (ws ++ [])) ∷ []) first))))

  pub handle_in : K → (p : Ptr) (held : Held)
      → Step K 𝓛 (‵ (the_row.own_val (record { at = p; held = held }) (word p ∷ [])) ∷ Γ) G (‵ (held_in p held) ∷ Γ) G
  handle_in t p held = step (λ s.
      nothing t $ feq_i t (List Val) (ptr_val p ∷ []) (ptr_val p ∷ []) refl $ fjoin t $
      feq_i t (List Val) (word p ∷ []) (word p ∷ []) refl $ fjoin t $
      fpack t (Valss (RawPtr ∷ [])) (within (shape the_type) (p, tt) (word p ∷ [])) (ptr_val p ∷ [], tt) $ fjoin t $ s)

  -- Either nothing is held, and the pointer is null, or a box.
  pub either_held : K → (p : Ptr) (held : Held)
      → (p ≡ null_ptr → held ≡ None → Seq K 𝓛 Γ G)
      → ((b o : ℕ) (x : space.Denot) → p ≡ block_ptr b o → held ≡ Some x → Testable (block_ptr b o) → Seq K 𝓛 (‵ (held_at (block_ptr b o) x) ∷ Γ) G)
      → Seq K 𝓛 (‵ (held_in p held) ∷ Γ) G
  either_held t p None none some = feq_l t (λ is. none is refl)
  either_held t p (Some x) none some =
      in_a_block t p (λ q. held_at q x) (fst∗ 𝓤 (never 𝓤) (sem 𝓛 (ghosts.dealloc_token the_heap (bare (lone space.mir)) null_ptr))) (λ b o there.
      use1 𝓛 (given (Testable (block_ptr b o)) (‵ (held_at (block_ptr b o) x))) (tested 𝓛 (block_ptr b o) x) $ learn t (λ may. some b o x there refl may))
