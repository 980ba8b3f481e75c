-- It asks the counter, and refuses or gives the answer of the memory below it. Assumes `Logic`.
use Rattle.std.proofs.Common.{◌≡◌, ℕ, ◌+◌, ◌^◌, ◌<◌, true, false, List, [], ◌∷◌, Ok, Err, refl, ap, w64, Bor}
use Rattle.std.specs.Prelude.{Bool}
use seplogic.Ra.Ura.{Ura}
use mir.Syntax.{Ty, Args, Fn, a_type, dnil, dcons}
use mir.Val.{Val, vint, vptr}
use mir.MapTy.{inst_fn}
use base.Logic.{SProp, ent, sep, id⊢}
use base.Fml.{Lft, Share, ftrue, flft, fsep}
use prog.Memory.{Memory, size, align, capped, up}
use prog.Routine.{Routine}
use prog.Wp.{WpFn, Tables}
use types.Logic.{Logic, sem}
use contract.BorrowLft.{◌⊑◌, ⊑_trans}
use contract.Monad.{Fun, fact}
use contract.Running.{tables, tables_of}
use sound.WpLaws.{fm_of, WpFn-mono}
use types.Part.{agg}
use types.Run.{
  lit,
  stop,
  fld,
  addr,
  no_more,
  and_then,
  first,
  branches,
  skips,
  exec,
  returns,
  returns_within,
  enter,
}
use denote.Exit.{yes}
use denote.RattleType.{RattleType, owns}
use denote.Memory.{hidden_shr}
use denote.Ref.{shr_vals}
use denote.Opens.{unhide}
use denote.Param.{bounded, param}
use denote.Plain.{uint_vals, uint_Tells}
use denote.Signature.{Slot, plain, types_at}
use denote.Steps.{heard, nothing, only}
use denote.Triple.Clauses.{Ended, Clauses}
use denote.Triple.Spec.{triple_of}
use denote.Triple.Statement.{Contract, Triple}
use denote.Triple.Table.{entered, cited}
use denote.Triple.Walked.{Stays, stay_dropped, walk_of, ends_at, walked, Goes-dropped, walk_Meets}
use types.Kit.{
  ⋆,
  by,
  ‵,
  raw,
  ◌⊛◌,
  some,
  later,
  at_ret,
  ◌$◌,
  ◌∵◌,
  !,
  qed,
  move,
  keep,
  drop,
  pick,
  feq_i,
  feq_l,
  use0,
  use1,
  use2,
  split,
  join,
  fsplit,
  fjoin,
  suffices,
  await,
  done,
}
use types.ByLocal.{alloc_all, pass_all, free_all, look_at, get, through, sets, lands_as, env}
use denote.RawPtr.{block_ptr}
use denote.Builtin.{bool, u64, usize, RefOf}
use denote.Triple.Call.{calls_at}
use Rattle.std.proofs.alloc.Calls.{
  Al,
  α,
  seen,
  Answer,
  answer_val,
  Answer-typed,
  Answer-Ok,
  Answer-err,
  takes_key,
  Takes,
  at_takes,
  Answered,
  Takes-goes,
  Takes-gives,
  answers,
}
use Rattle.std.proofs.VecSteps.Shapes.{after}
use Rattle.std.specs.contracts.cell.Cell as cell
use Rattle.tuple_tests.specs.contracts.refusing.is_refused as question
use Rattle.tuple_tests.proofs.refusing.is_refused.Symbol as asked
use Rattle.tuple_tests.proofs.refusing.is_refused.Met as asks_met
use Rattle.tuple_tests.specs.contracts.refusing.Refusing as refusing
use Rattle.tuple_tests.specs.contracts.refusing.RefusingAllocator.allocate as F
use Rattle.tuple_tests.specs.contracts.refusing.RefusingAllocator.allocate.Key as key
use Rattle.tuple_tests.proofs.refusing.RefusingAllocator.allocate.Statement.{statement}
use Rattle.tuple_tests.proofs.refusing.RefusingAllocator.allocate.Code as code

-- The type of the counter.
abbrev Counter : RattleType
Counter = cell.the_row u64

module _ {M : Type 1} {𝓤 : Ura M} (𝓛 : Logic 𝓤) (at_mem : Memory → SProp 𝓤) (run : Routine → Fun 𝓤) where
  abbrev Asks : Contract 𝓤
  Asks = triple_of 𝓛 question.signature (question.spec 𝓛 at_mem run)

  -- It is asked of the counter at a place, which is lent for a lifetime.
  abbrev asks_at : Lft → Share → ℕ × ℕ → Asks.Ghost
  asks_at κ q place = (
    (
      (κ, tt),
      (q, tt),
      tt,
      (record { ref_ptr = place; now = record { value = tt } }, tt),
      (vptr place.0 place.1 ∷ [], tt),
    ),
    tt,
  )

  module _ (κ : Lft) (q : Share) (place : ℕ × ℕ) where
    open 𝓛 use {A}

    may_ask : ent 𝓤 (sep 𝓤 (sem 𝓛 (hidden_shr Counter κ (record { value = tt }) place.0 place.1)) (A.lft κ q))
        (Asks.pre (asks_at κ q place))
    may_ask =
        qed 𝓛 (‵ (hidden_shr Counter κ (record { value = tt }) place.0 place.1) ∷ ‵ (flft κ q) ∷ []) ∵
        feq_i ! (List Val) (vptr place.0 place.1 ∷ []) (vptr place.0 place.1 ∷ []) refl $ fjoin ! $ nothing ! $
        move ! (1 ∷ []) $ fjoin ! $
        nothing ! $ move ! (2 ∷ []) $ join ! $ join ! $ nothing ! $ move ! (1 ∷ []) $ done !

module _ (B : Al) where
  abbrev args : Args
  args = bounded (a_type ∷ []) (B.row, tt) (dcons B.d (dcons B.drops dnil))

  abbrev here : Fn
  here = inst_fn args code.function

  abbrev self : Slot 2
  self = RefOf (0 ∷ []) tt (plain (λ _. refusing.the_row (param 0 B.row))) (λ _. tt)

  abbrev number : Slot 2
  number = plain (λ _. usize)

  abbrev ended : Ended
  ended = F.ended B.row B.g B.d B.drops

  abbrev stayed : Stays ended.signature.params ended.kept
  stayed = (stay_dropped self yes, (stay_dropped number yes, (stay_dropped number yes, tt)))

module _ (B : Al) {M : Type 1} {𝓤 : Ura M} (𝓛 : Logic 𝓤) (at_mem : Memory → SProp 𝓤) (run : Routine → Fun 𝓤)
    (𝓣 : Tables 𝓤 𝓛.H)
    (takes : Triple 𝓤 (𝓣.C (takes_key B)) (Takes B 𝓛 at_mem run)) (asks : Triple 𝓤 (𝓣.C asked.name)
    (Asks 𝓛 at_mem run)) where
  open 𝓛 use {H}

  abbrev clauses : Clauses 𝓤 (ended B)
  clauses = F.clauses B.row B.g B.d B.drops 𝓛 at_mem run

  module _ (κ ρ : Lft) (q s : Share) (within : κ ⊑ ρ) (r : Bor (refusing.the_row B.row).Denot) (n a : ℕ)
      (τ : Ty) where
    abbrev bound : (walk_of 𝓛 (ended B) (stayed B) clauses).Ghost
    bound = (
      (
        (κ, (ρ, tt)),
        (q, (s, tt)),
        (within, tt),
        (r, (n, (a, tt))),
        (
          shr_vals r,
          (
            vint w64 n ∷ [],
            (vint w64 a ∷ [], tt),
          ),
        ),
      ),
      τ,
    )

    abbrev behind : B.row.Denot
    behind = r.now.inner

    abbrev given : List Val
    given = vptr r.ref_ptr.0 r.ref_ptr.1 ∷ vint w64 n ∷ vint w64 a ∷ []

    abbrev Post : Val → SProp 𝓤
    Post = (walk_of 𝓛 (ended B) (stayed B) clauses).post bound

    -- The end of a walk that has no block to hand over.
    refuses : ent 𝓤 (⋆ 𝓛 (‵ (flft κ q) ∷ (‵ (flft ρ s) ⊛ ‵ ftrue) ∷ [])) (Post (answer_val false 0 0))
    refuses =
        qed 𝓛 (‵ (flft κ q) ∷ (‵ (flft ρ s) ⊛ ‵ ftrue) ∷ []) ∵ nothing ! $
        suffices ! _ (ends_at 𝓛 (ended B) (stayed B) clauses bound (answer_val false 0 0) (Err (record {}))
        (tt, (tt, (tt, tt))) (tt, (tt, (tt, tt)))) $
        use0 𝓛 (‵ (Answer.own_val (Err (record {})) (answer_val false 0 0 ∷ []))) (Answer-err 𝓛) $
        nothing ! $ nothing ! $ fjoin ! $ nothing ! $ fjoin ! $ nothing ! $ fjoin ! $ join ! $
        move ! (2 ∷ 3 ∷ []) $ join ! $ join ! $ done !

    walk : n < 2 ^ 64 → a < 2 ^ 64 → ent 𝓤 ((walk_of 𝓛 (ended B) (stayed B) clauses).pre bound)
        (WpFn 𝓤 H 𝓣.C 𝓣.Λ (here B) given Post)
    walk fn fa =
        let at_behind : ℕ × ℕ = (r.ref_ptr.0, r.ref_ptr.1 + up (align (α B)) 0) in
        let at_counter : ℕ × ℕ = (r.ref_ptr.0, r.ref_ptr.1 + up 8 (up (align (α B)) 0 + size (α B))) in
        let y : (Takes B 𝓛 at_mem run).Ghost = at_takes B 𝓛 at_mem run κ q at_behind behind n a τ in
        let Said : Type 0 = (capped (size τ) ≡ n) × (capped (align τ) ≡ a) in
        qed 𝓛 (((‵ (flft κ q) ⊛ ‵ (flft ρ s) ⊛ ‵ ftrue) ⊛ ‵ (owns (types_at
        (ended B).signature.params bound.0.0) bound.0.3 bound.0.4)) ∷ (raw (fact 𝓤 (ρ ⊑ B.row.lives)) ⊛ raw
        (fact 𝓤 Said)) ∷ []) ∵
        move ! (1 ∷ []) $ split ! $ heard ! (ρ ⊑ B.row.lives) (λ le. heard ! Said (λ said.
        split ! $ split ! $ move ! (2 ∷ []) $ fsplit ! $ fsplit ! $ move ! (1 ∷ []) $ unhide ! $ fsplit ! $
        fsplit ! $ use1 𝓛 (‵ (seen B κ at_behind behind)) (id⊢ 𝓤 _) $ move ! (1 ∷ []) $ fsplit ! $
        keep ! (0 ∷ 6 ∷ 2 ∷ 7 ∷ []) $
        enter ! 𝓣.C 𝓣.Λ (here B) given _ $
        alloc_all ! (λ l. pass_all ! refl ((tt, tt), ((tt, record { fits = fn }), ((tt, record { fits = fa }), tt))) $
        sets ! (addr ! (through ! refl (fld ! refl (stop !)))) refl (tt, tt) $
        use2 𝓛 (raw ((Asks 𝓛 at_mem run).pre (asks_at 𝓛 at_mem run κ q at_counter)))
        (may_ask 𝓛 at_mem run κ q at_counter) $
        calls_at ! (fm_of 𝓤 H 𝓛.laws 𝓣) (Asks 𝓛 at_mem run) asks (asks_at 𝓛 at_mem run κ q at_counter)
        (and_then ! (get ! refl) (no_more !)) (λ u.
        use1 𝓛 (later (some (λ (z : Bool). ((‵ (flft κ q) ⊛ ‵ ftrue) ⊛ ‵ (bool.own_val z (u ∷ []))) ⊛ some (λ
        (ws : Unit {0} × Unit {0}). ‵ (fsep ftrue ftrue) ⊛ ‵ ftrue)))) (id⊢ 𝓤 _) $ await ! tt $ pick ! (λ z.
        split ! $ split ! $ split ! $ move ! (2 ∷ []) $ feq_l ! (λ is. lands_as ! (ap only is) refl (tt, tt) $
        first ! $ branches ! (get ! refl)
        (λ _. sets ! (agg ! (no_more !)) refl (tt, tt) $
        sets ! (agg ! (and_then ! (lit ! tt) (and_then ! (get ! refl) (no_more !)))) refl (Answer-typed false 0 0) $
        returns_within ! Post refl (look_at ! 0 refl) $ free_all ! refl $ keep ! (0 ∷ 4 ∷ []) $ by ! refuses)
        (λ _. skips ! $ exec ! 𝓣.C 𝓣.Λ (env (here B).locals l) (after 3 (here B).body) (at_ret _ Post) $
        move ! (1 ∷ 2 ∷ []) $ drop ! $ drop ! $ move ! (1 ∷ []) $
        sets ! (addr ! (through ! refl (fld ! refl (stop !)))) refl (tt, tt) $
        use2 𝓛 (raw ((Takes B 𝓛 at_mem run).pre y))
        (Takes-goes B 𝓛 at_mem run κ q at_behind behind (⊑_trans κ ρ B.row.lives within le) n a τ said.0 said.1 fn fa) $
        calls_at ! (fm_of 𝓤 H 𝓛.laws 𝓣) (Takes B 𝓛 at_mem run) takes y (and_then ! (get ! refl)
        (and_then ! (get ! refl) (and_then ! (get ! refl) (no_more !)))) (λ v.
        use1 𝓛 (later (raw (Answered B 𝓛 at_mem run behind τ v) ⊛ ‵ (flft κ q)))
        (Takes-gives B 𝓛 at_mem run κ q at_behind behind n a τ v) $ await ! tt $ split ! $
        answers B ! at_mem run behind τ v
        (λ b o is_block. fjoin ! $ lands_as ! is_block refl (Answer-typed true b o) $
        returns ! (look_at ! 0 refl) $ free_all ! refl $
        suffices ! _ (ends_at 𝓛 (ended B) (stayed B) clauses bound (answer_val true b o) (Ok (block_ptr b o))
        (tt, (tt, (tt, tt))) (tt, (tt, (tt, tt)))) $
        use0 𝓛 (‵ (Answer.own_val (Ok (block_ptr b o)) (answer_val true b o ∷ []))) (Answer-Ok 𝓛 b o) $
        nothing ! $ nothing ! $ fjoin ! $ nothing ! $ fjoin ! $ nothing ! $ fjoin ! $ join ! $
        move ! (2 ∷ 3 ∷ []) $ join ! $ join ! $ done !)
        (λ is_none. lands_as ! is_none refl (Answer-typed false 0 0) $ returns ! (look_at ! 0 refl) $
        free_all ! refl $ by ! refuses)))))))))

pub allocate_spec : {M : Type 1} → statement M
unfolding tables_of
allocate_spec 𝓤 𝓛 𝓜 𝓡 wired Y L g d d' met _ =
    let B : Al = record { row = Y; laws = L; g = g; d = d; drops = d' } in
    let 𝓣 : Tables 𝓤 𝓛.H = tables_of 𝓤 𝓛.H 𝓜 (tables 𝓤 𝓛.H 𝓜 𝓡 𝓡.env) in
    let c = F.clauses Y g d d' 𝓛 𝓜.mem 𝓡.returns in
    let goes = Goes-dropped 𝓛 2 (number B) yes (λ κs x f. refl) in
    entered 𝓤 𝓛.H (triple_of 𝓛 (F.signature Y) (F.spec Y g d d' 𝓛 𝓜.mem 𝓡.returns)) 𝓣.C 𝓣.Λ (key.name (args B))
    (here B) (code.unfolded 𝓤 𝓛.H 𝓜 𝓡 wired (Y, tt) d d')
    (walk_Meets 𝓛 (ended B) (stayed B)
    (Goes-dropped 𝓛 2 (self B) yes (λ κs x f. refl), (goes, (goes, tt))) c (WpFn 𝓤 𝓛.H 𝓣.C 𝓣.Λ (here B))
    (WpFn-mono 𝓤 𝓛.H 𝓛.laws 𝓣 (here B))
    (walked 𝓛 (ended B) (stayed B) c (WpFn 𝓤 𝓛.H 𝓣.C 𝓣.Λ (here B))
    (λ κs. (shr_vals, (uint_vals w64, (uint_vals w64, tt))))
    (λ κs. ((λ r vs s. s.0), (uint_Tells w64, (uint_Tells w64, tt))))
    (λ κs qs bounds x τ are. walk B 𝓛 𝓜.mem 𝓡.returns 𝓣 (met.allocate d')
    (cited 𝓤 𝓛.H _ 𝓜 𝓡 𝓡.env asked.name (𝓡.env asked.name) refl (asks_met.met 𝓤 𝓛 𝓜 𝓡
    (code.calls-tuple_tests::refusing::is_refused 𝓡.env wired)))
    κs.0 κs.1.0 qs.0 qs.1.0 bounds.0 x.0 x.1.0 x.1.1.0 τ are.1.0.1 are.1.1.0.1)))
