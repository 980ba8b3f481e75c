use Rattle.std.proofs.Common.{◌≡◌, ◌≢◌, Bool, true, false, ◌/◌, ◌%◌, ℕ, List, [], set, map, length, ap, sym, subst, ◌∙◌, arith}
use Rattle.std.proofs.lemmas.Bool.Decides.{Decides-eqb}
use Rattle.std.proofs.lemmas.List.{length-set}
use Rattle.std.proofs.lemmas.Result.{MatchResult-from_err}
use Rattle.std.proofs.lemmas.Slice.Eq.{slice_eq-Decides}
use Rattle.std.specs.Arc.{arc_value}
use Rattle.std.specs.Bool.{Decides}
use Rattle.partition_tree.specs.Parts.{AreFull, pages_in, part_digest}
use Rattle.partition_tree.proofs.Holding.{set_there}
use Rattle.partition_tree.proofs.Standing.{parts_kept, pages_written, full_written, digests_written}
use Rattle.partition_tree.proofs.tree.Tree.set_page.Goals as goal

pub returns-then-eq-clause-ok : goal.returns-then-eq-clause-ok
returns-then-eq-clause-ok c =
    let decided = slice_eq-Decides Decides-eqb c.page.result.now c.args.text.now _ c.eq.ensures in
    set_there _ c.args.i [] c.args.text.now (sym c.page.ensures.text ∙ decided.0 c.if-eq.true)

-- the page has another text if the test says so
other : (xs ys : List ℕ) (r : Bool) → Decides r (xs ≡ ys) → r ≡ false → xs ≢ ys
other xs ys r decided off e =
    let on = decided.1 e in
    let both : true ≡ false = sym on ∙ off in
    cc

pub returns-in_err-text-clause-same : goal.returns-in_err-text-clause-same
returns-in_err-text-clause-same c e =
    let decided = slice_eq-Decides Decides-eqb c.page.result.now c.args.text.now _ c.eq.ensures in
    absurd (other _ _ _ decided c.if-eq.false (c.page.ensures.text ∙ e))

pub returns-in_err-put-clause-same : goal.returns-in_err-put-clause-same
returns-in_err-put-clause-same c e =
    let decided = slice_eq-Decides Decides-eqb c.page.result.now c.args.text.now _ c.eq.ensures in
    absurd (other _ _ _ decided c.if-eq.false (c.page.ensures.text ∙ e))

pub invariant_of-self : goal.invariant_of-self
invariant_of-self c =
    let owners = c.self.inside.parts.items in
    let all : length owners ≡ 32 = c.self.invariant.0 in
    let was = c.index_mut.ensures.value in
    let same = parts_kept owners (c.args.i / 32) _ _ (omega arith) was c.in_err-put.ensures.err in (
      rw length-set all,
      subst AreFull (sym same) c.self.invariant.1,
      c.self.invariant.2 ∙ ap (map part_digest) (sym same),
      c.self.invariant.3,
    )

pub returns-in_err-put-clause-err : goal.returns-in_err-put-clause-err
returns-in_err-put-clause-err c =
    let all : length c.self.inside.parts.items ≡ 32 = c.self.invariant.0 in
    let was = c.index_mut.ensures.value in
    let same = parts_kept _ (c.args.i / 32) _ c.put.new.part (omega arith) was c.in_err-put.ensures.err in
    let failed = c.from_residual-in_err-put in
    MatchResult-from_err failed.result _ _ failed.ensures.0 (λ _. ap pages_in same ∙ c.self.view_is)

pub invariant_of-self-2 : goal.invariant_of-self-2
invariant_of-self-2 c =
    let owners = c.self.inside.parts.items in
    let all : length owners ≡ 32 = c.self.invariant.0 in
    let was = c.index_mut.ensures.value in
    let is = c.in_ok-put.ensures.ok ∙ ap (set (arc_value c.index_mut.result.now) (c.args.i % 32)) c.in_ok-text.ensures.items in
    let inner = c.self.inside.inner in
    let digest = c.digest.ensures ∙ ap part_digest c.deref.ensures in (
      rw length-set all,
      full_written owners c.args.i _ _ c.args.text.now all c.self.invariant.1 c.requires was is,
      c.set.ensures ∙ digests_written owners (c.args.i / 32) _ _ inner _ (omega arith) c.self.invariant.2 c.index.ensures digest,
      c.digest-self-inside.ensures,
    )

pub returns-clause-ok : goal.returns-clause-ok
returns-clause-ok c =
    let owners = c.self.inside.parts.items in
    let was = c.index_mut.ensures.value in
    let is = c.in_ok-put.ensures.ok ∙ ap (set (arc_value c.index_mut.result.now) (c.args.i % 32)) c.in_ok-text.ensures.items in
    pages_written owners c.args.i _ _ c.args.text.now c.self.invariant.0 c.self.invariant.1 c.requires was is
    ∙ ap (λ (pages : List (List ℕ)). set pages c.args.i c.args.text.now) c.self.view_is
