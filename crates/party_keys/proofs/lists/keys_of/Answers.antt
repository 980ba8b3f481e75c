use Rattle.std.proofs.Common.{◌≡◌, arith, ◌+◌, ◌++◌, length, length-append, ◌∙◌, ap, subst, sym}
use Rattle.std.specs.Prelude.{[], ◌∷◌, All}
use Rattle.std.proofs.lemmas.Result.{err_from_is_err_and}
use Rattle.std.proofs.lemmas.List.Elements.{All-nil, All-cons, All-append}
use Rattle.party_keys.specs.PartyData.{IsKey}
use Rattle.party_keys.proofs.Listed.{one_more, no_key}
use Rattle.party_keys.proofs.Refusals.{because}
use Rattle.party_keys.proofs.lists.keys_of.Goals as goal

pub returns-in_err-key_in : goal.returns-in_err-key_in
returns-in_err-key_in c =
    let p = err_from_is_err_and c.from_residual.result c.from_residual.ensures.1 in
    rw (p.1, p.2) (because c.in_err-key_in.field-0.0
    (λ none keys have are. no_key c.args.items.now c.loop-index.index c.index-items-index.result c.loop-index-test.true c.index-items-index.is none keys have)
    (c.in_err-key_in.ensures {u = tt}))

pub loop-index-preserved : goal.loop-index-preserved
loop-index-preserved c =
    let pushed = (c.in_ok-push.ensures {u = tt}).items in
    let key = c.in_ok-key_in.ensures {u = tt} in
    let xs = c.loop-index.keys.items in
    let x = c.in_ok-key_in.field-0 in (
      one_more c.args.items.now c.loop-index.index c.index-items-index.result xs c.push.new.self.items x c.loop-index-test.true c.index-items-index.is c.loop-index.invariant.0 key.0 pushed,
      (
        ap length pushed ∙ length-append xs (x ∷ []) ∙ ap (λ n. n + 1) c.loop-index.invariant.1.0,
        subst (All IsKey) (sym pushed) (All-append IsKey xs (x ∷ []) c.loop-index.invariant.1.1 (All-cons IsKey x [] key.1 (All-nil IsKey))),
      ),
    )
