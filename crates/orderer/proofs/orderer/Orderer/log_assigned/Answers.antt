use Rattle.std.proofs.Common.{rules, ◌≡◌, ℕ, ◌+◌, suc, [], length, refl, sym, ap, ◌∙◌, subst, arith}
use Rattle.std.specs.Vec.Iter.{into_iter_items}
use Rattle.std.proofs.lemmas.List.{nil_from_length}
use Rattle.ordering.specs.Log.{is_in_marks}
use Rattle.wire_format.specs.Lists.{Each}
use Rattle.wire_format.specs.Spelling.{IsBatch}
use Rattle.view_change.specs.Sets.{texts_of}
use Rattle.orderer.specs.State.{OrdererData}
use Rattle.orderer.specs.EnterView.{LogsBatches}
use Rattle.orderer.proofs.EnteringViews.{log_passed, log_added, all_logged}
use Rattle.orderer.proofs.Parties.{party_kept, party_kept_twice}
use Rattle.orderer.proofs.orderer.Orderer.log_assigned.Goals as goal

pub loop-batch-init : goal.loop-batch-init
loop-batch-init c =
    let gives : into_iter_items c.into_iter-batch-iterator.result ≡ c.args.batches.items = search rules in
    record {
      can_next = tt;
      is_finite = tt;
      party = party_kept c.args.self.now;
      assigned = refl;
      batches = subst (λ xs. Each (IsBatch 0) (texts_of xs)) (sym gives) c.requires.batches;
      count = ap (λ (n : ℕ). c.args.start.0 + n) (ap length gives);
      left = λ new h. subst (λ xs. LogsBatches (suc c.args.start.0) (texts_of xs) c.args.self.now new) gives h;
    }

pub overflow_add-number : goal.overflow_add-number
overflow_add-number c =
    let e = ap length c.in-Some.ensures.steps.0 in
    let k = c.loop-batch.invariant.count in
    let r = c.requires.fits in
    omega (arith, e, k, r)

pub log_batch-requires-clause-batch : goal.log_batch-requires-clause-batch
log_batch-requires-clause-batch c = (subst (λ xs. Each (IsBatch 0) (texts_of xs)) c.in-Some.ensures.steps.0 c.loop-batch.invariant.batches).0

-- no number here is above those that the new view assigned
pub log_batch-requires-clause-some : goal.log_batch-requires-clause-some
log_batch-requires-clause-some c above =
    let e = ap length c.in-Some.ensures.steps.0 in
    let k = c.loop-batch.invariant.count in
    let same = c.loop-batch.invariant.assigned in
    let most = c.requires.assigned in
    absurd (omega (arith, e, k, same, most, above))

pub loop-batch-preserved : goal.loop-batch-preserved
loop-batch-preserved c = record {
  can_next = tt;
  is_finite = tt;
  party = c.loop-batch.invariant.party;
  assigned = c.loop-batch.invariant.assigned;
  batches = (subst (λ xs. Each (IsBatch 0) (texts_of xs)) c.in-Some.ensures.steps.0 c.loop-batch.invariant.batches).1;
  count = (let e = ap length c.in-Some.ensures.steps.0 in let k = c.loop-batch.invariant.count in omega (arith, e, k));
  left = log_passed (suc c.args.start.0) (texts_of c.args.batches.items) c.args.self.now c.loop-batch.self c.loop-batch.number.0 (into_iter_items c.loop-batch.batch-iterator) (into_iter_items c.next.new.self) c.in-Some.batch c.in-Some.ensures.steps.0 c.loop-batch.invariant.left
      (ap (λ (o : OrdererData). is_in_marks o.log (c.loop-batch.number.0 + 1)) (sym c.self.view_is) ∙ sym c.if-is_in_marks.ensures);
}

pub loop-batch-preserved-in-Continue-1 : goal.loop-batch-preserved-in-Continue-1
loop-batch-preserved-in-Continue-1 c = record {
  can_next = tt;
  is_finite = tt;
  party = party_kept_twice _ _ _ c.loop-batch.invariant.party c.in_ok-log_batch.ensures.party;
  assigned = ap (λ (o : OrdererData). o.assigned) c.in_ok-log_batch.ensures.ok.2 ∙ c.loop-batch.invariant.assigned;
  batches = (subst (λ xs. Each (IsBatch 0) (texts_of xs)) c.in-Some.ensures.steps.0 c.loop-batch.invariant.batches).1;
  count = (let e = ap length c.in-Some.ensures.steps.0 in let k = c.loop-batch.invariant.count in omega (arith, e, k));
  left = log_added (suc c.args.start.0) (texts_of c.args.batches.items) c.args.self.now c.loop-batch.self c.loop-batch.number.0 (into_iter_items c.loop-batch.batch-iterator) (into_iter_items c.next.new.self) c.in-Some.batch c.in-Some.ensures.steps.0 c.loop-batch.invariant.left
      c.log_batch.new.self (ap (λ (o : OrdererData). is_in_marks o.log (c.loop-batch.number.0 + 1)) (sym c.self.view_is) ∙ sym c.if-is_in_marks.ensures) c.in_ok-log_batch.ensures.ok;
}

pub returns-in_err-log_batch-clause-party : goal.returns-in_err-log_batch-clause-party
returns-in_err-log_batch-clause-party c = party_kept_twice _ _ _ c.loop-batch.invariant.party c.in_err-log_batch.ensures.party

pub returns-clause-ok : goal.returns-clause-ok
returns-clause-ok c =
    let items = into_iter_items c.loop-batch.batch-iterator in
    let counted = c.loop-batch.batch-iterator.rest.ok.0 in
    let ended = c.in-None.ensures.steps.0 in
    let none : items ≡ [] = nil_from_length items (omega (arith, counted, ended)) in
    all_logged (suc c.args.start.0) (texts_of c.args.batches.items) c.args.self.now c.loop-batch.self
    c.loop-batch.number.0 items none c.loop-batch.invariant.left

pub returns-clause-party : goal.returns-clause-party
returns-clause-party c = c.loop-batch.invariant.party
