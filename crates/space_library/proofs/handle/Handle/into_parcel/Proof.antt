-- `into_parcel` asks whether the pointer is null, and else makes a parcel of it.
use Rattle.std.proofs.Common.{◌≡◌, List, [], ◌∷◌, ◌++◌, refl, sym, ap, ◌∙◌, subst, lit<}
use mir.Val.{Val, vptr, vcons, vnil}
use base.Logic.{SProp, ent, emp, id⊢}
use base.Fml.{ftrue}
use prog.Wp.{WpFn}
use types.Kit.{‵, raw, ◌⊛◌, at_ret, ◌$◌, ◌∵◌, !, qed, by, move, keep, split, fsplit, fjoin, suffices, use0, use1}
use types.Run.{stop, fld, lit, of_opd, bin, no_more, and_then, first, branches, exec, returns, enter}
use types.ByLocal.{alloc_all, pass_all, free_all, look_at, get, get_in, sets, sets_last, env}
use types.Match.{live}
use types.Part.{agg, sub, whole}
use contract.Monad.{fact, fact_i}
use contract.Running.{tables}
use denote.Exit.{yes}
use denote.Param.{layout}
use denote.RattleType.{RattleType, owns}
use denote.Signature.{types_at, type_at, plain}
use denote.RawPtr.{Ptr, block_ptr, null_ptr, tests_null}
use denote.Steps.{nothing}
use denote.Triple.Walked.{Stays, stay_dropped, Goes-dropped, walk_of}
use Rattle.std.specs.Prelude.{None, Some}
use Rattle.std.specs.contracts.alloc.Global as heap
use Rattle.std.proofs.alloc.Global.TheLaws as heap_laws
use Rattle.std.specs.contracts.impls.GlobalAllocator.TheImpl.{ghosts}
use Rattle.std.proofs.ResultValues.{and_tt}
use Rattle.std.proofs.alloc.Calls.{handle_tells}
use Rattle.std.proofs.alloc.Shapes.{after}
use Rattle.std.proofs.cell.Inside.{Good}
use Rattle.std.proofs.option.Made.{Some-of, none_of}
use Rattle.std.proofs.raw_atomic.Walks.{proved_at, leaves}
use Rattle.space_library.specs.Held.{parcel_value}
use Rattle.space_library.proofs.Handles.{word, handle_out, either_held}
use Rattle.space_library.proofs.Parcels.{word as parcel_word, word_good, Parcel, allocator, parcel_in}
use Rattle.space.specs.contracts.tuples.Space.{the_row as space}
use Rattle.space_library.specs.contracts.handle.Handle as handle
use Rattle.space_library.specs.contracts.handle.Handle.into_parcel.{ended, clauses}
use Rattle.space_library.specs.contracts.handle.Handle.into_parcel.Key.{name as #self}
use Rattle.space_library.proofs.handle.Handle.into_parcel.Statement.{statement}
use Rattle.space_library.proofs.handle.Handle.into_parcel.Code as code

pub into_parcel_spec : {M : Type 1} → statement M
into_parcel_spec 𝓤 𝓛 𝓜 𝓡 wired =
    let 𝓣 = tables 𝓤 𝓛.H 𝓜 𝓡 𝓡.env in let c = clauses 𝓛 𝓜.mem 𝓡.returns in let fn = code.function in
    let Self : RattleType = handle.the_row in let Z : RattleType = heap.the_row in let LZ = heap_laws.the_row_laws in
    let Given : RattleType = Parcel space Z LZ ghosts in
    let hs : Stays ended.signature.params ended.kept = (stay_dropped (plain (λ _. Self)) yes, (stay_dropped (plain (λ _. Z)) yes, tt)) in
    proved_at 𝓛 ended hs c 𝓜 𝓡
    (Goes-dropped 𝓛 0 (plain (λ _. Self)) yes (λ κs x f. refl), (Goes-dropped 𝓛 0 (plain (λ _. Z)) yes (λ κs x f. refl), tt))
    #self fn (code.unfolded 𝓤 𝓛.H 𝓜 𝓡 wired) (λ z are.
    let h = z.0.3.0 in let a = z.0.3.1.0 in
    let Post : Val → SProp 𝓤 = (walk_of 𝓛 ended hs c).post z in
    let Run : List Val → SProp 𝓤 = λ ws. WpFn 𝓤 𝓛.H 𝓣.C 𝓣.Λ fn ws Post in
    let Out : RattleType = type_at ended.signature.result z.0.0 in
    qed 𝓛 ((‵ ftrue ⊛ ‵ (owns (types_at ended.signature.params z.0.0) z.0.3 z.0.4)) ∷ raw ((c z.0.0 z.0.3).requires z.1) ∷ []) ∵
    split ! $ move ! (1 ∷ []) $ fsplit ! $ move ! (1 ∷ []) $ fsplit ! $ handle_tells (allocator space Z LZ ghosts) ! a z.0.4.1.0 (λ free second good.
    move ! (2 ∷ []) $ handle_out ! h z.0.4.0 (λ is_word. either_held ! h.at h.held
    -- [the allocator; ..]: the pointer is null
    (λ at held.
    let ws : List Val = word null_ptr ∷ free ∷ [] in
    let all : z.0.4.0 ++ (z.0.4.1.0 ++ []) ≡ ws = (λ i. is_word i ++ (second i ++ [])) ∙ ap (λ (p : Ptr). word p ∷ free ∷ []) at in
    let told : parcel_value {A = Z.Denot} None ≡ h.held = sym held in
    suffices ! (Run ws) (subst (λ (us : List Val). ent 𝓤 (Run ws) (Run us)) (sym all) (id⊢ 𝓤 (Run ws))) $
    enter ! 𝓣.C 𝓣.Λ fn ws Post $ alloc_all ! (λ l. pass_all ! refl ((tt, (record { fits = lit< tt }, tt)), (good, tt)) $ let Ev = env fn.locals l in
    sets ! (of_opd ! (get_in ! (fld ! refl (stop !)) (sub ! 0 refl (whole !)))) refl (tt, record { fits = lit< tt }) $
    sets ! (bin ! (get ! refl) (lit ! tt) tt) refl (tt, tt) $ first ! $ branches ! (get ! refl)
    (λ _. sets_last ! (agg ! (and_then ! (lit ! tt) (no_more !))) refl (tt, (record { fits = lit< tt }, tt)) $
    exec ! 𝓣.C 𝓣.Λ Ev (after 3 fn.body) (at_ret Ev Post) $ sets ! (of_opd ! (get ! refl)) refl (tt, (record { fits = lit< tt }, tt)) $
    use0 𝓛 (‵ (Out.own_val None (live 0 vnil ∷ []))) (none_of 𝓛 Given) $
    use0 𝓛 (raw (fact 𝓤 (parcel_value {A = Z.Denot} None ≡ h.held))) (fact_i 𝓤 _ (emp 𝓤) told) $ nothing ! $ nothing ! $ fjoin ! $ nothing ! $ fjoin ! $ nothing ! $
    returns ! (look_at ! 0 refl) $ free_all ! refl $ keep ! (0 ∷ 1 ∷ 3 ∷ 2 ∷ []) $ by ! (leaves 𝓛 ended hs c z (live 0 vnil) None (tt, (tt, tt)) (tt, (tt, tt))))
    (λ wrong. absurd wrong)))
    -- [the box; the allocator; ..]
    (λ b o x at held may.
    let ws : List Val = word (block_ptr b o) ∷ free ∷ [] in
    let all : z.0.4.0 ++ (z.0.4.1.0 ++ []) ≡ ws = (λ i. is_word i ++ (second i ++ [])) ∙ ap (λ (p : Ptr). word p ∷ free ∷ []) at in
    let made : Val = parcel_word (vptr b o) free in let typed = word_good space Z LZ ghosts b o free good in
    let v : Val = live 1 (vcons made vnil) in let d : Given.Denot = record { at = block_ptr b o; alloc = a; value = x } in
    let full : Good (layout Out) v = (and_tt _ typed.0, (record { fits = lit< tt }, (typed.1, tt))) in
    let told : parcel_value (Some d) ≡ h.held = sym held in
    suffices ! (Run ws) (subst (λ (us : List Val). ent 𝓤 (Run ws) (Run us)) (sym all) (id⊢ 𝓤 (Run ws))) $
    enter ! 𝓣.C 𝓣.Λ fn ws Post $ alloc_all ! (λ l. pass_all ! refl ((tt, (tt, tt)), (good, tt)) $ let Ev = env fn.locals l in
    sets ! (of_opd ! (get_in ! (fld ! refl (stop !)) (sub ! 0 refl (whole !)))) refl (tt, tt) $
    sets ! (bin ! (get ! refl) (lit ! tt) (tests_null (block_ptr b o) may)) refl (tt, tt) $ first ! $ branches ! (get ! refl) (λ wrong. absurd wrong)
    (λ _. sets ! (of_opd ! (get ! refl)) refl (tt, tt) $ sets ! (agg ! (and_then ! (get ! refl) (and_then ! (get ! refl) (no_more !)))) refl typed $
    sets_last ! (agg ! (and_then ! (lit ! tt) (and_then ! (get ! refl) (no_more !)))) refl full $
    exec ! 𝓣.C 𝓣.Λ Ev (after 3 fn.body) (at_ret Ev Post) $ sets ! (of_opd ! (get ! refl)) refl full $ parcel_in space Z LZ ghosts ! b o free a x $
    use1 𝓛 (‵ (Out.own_val (Some d) (v ∷ []))) (Some-of 𝓛 Given d made) $
    use0 𝓛 (raw (fact 𝓤 (parcel_value (Some d) ≡ h.held))) (fact_i 𝓤 _ (emp 𝓤) told) $ nothing ! $ nothing ! $ fjoin ! $ nothing ! $ fjoin ! $ nothing ! $
    returns ! (look_at ! 0 refl) $ free_all ! refl $ keep ! (0 ∷ 1 ∷ 3 ∷ 2 ∷ []) $ by ! (leaves 𝓛 ended hs c z v (Some d) (tt, (tt, tt)) (tt, (tt, tt)))))))))
