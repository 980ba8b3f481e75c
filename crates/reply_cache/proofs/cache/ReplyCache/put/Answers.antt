use Rattle.std.proofs.Common.{None, sym, ap, ◌∙◌, arith}
use Rattle.std.proofs.lemmas.List.{get_or_past}
use Rattle.tuple_codec.specs.OperationView.{outcome_of}
use Rattle.reply_cache.specs.Replies.{last_of, with_reply}
use Rattle.reply_cache.specs.ReplyView.{kept_if_any}
use Rattle.reply_cache.proofs.Slots.{on_err, last-padded, padded-set, AreSlots-set, AreReplies-padded}
use Rattle.reply_cache.proofs.cache.ReplyCache.put.Goals as goal

pub returns-in_err-reach-clause-valid : goal.returns-in_err-reach-clause-valid
returns-in_err-reach-clause-valid c = AreReplies-padded c.reach.new.slots.items c.reach.ensures.slots

pub returns-in_err-reach-clause-memory : goal.returns-in_err-reach-clause-memory
returns-in_err-reach-clause-memory c =
    let slots = c.self.inside.slots.items in
    let past = (c.in_err-reach.ensures {u = tt}).memory in
    on_err c.from_residual.result (λ other l. sym (ap (λ rs. last_of rs other) c.self.view_is) ∙ last-padded slots other ∙ ap kept_if_any (get_or_past slots other None (omega arith)))

pub invariant_of-self-2 : goal.invariant_of-self-2
invariant_of-self-2 c =
    AreSlots-set c.reach.new.slots.items c.args.client.number (record { timestamp = c.args.timestamp; number = c.args.number; answer = c.args.answer }) c.reach.ensures.slots
    (record { first = c.requires.timestamp; timestamp_fits = omega arith; number_fits = omega arith; answer = c.note_valid.ensures }) ((c.in_ok-reach.ensures {u = tt}).long)

pub returns-clause-ok : goal.returns-clause-ok
returns-clause-ok c =
    let few = c.reach.ensures.slots.few in
    padded-set c.reach.new.slots.items c.args.client.number (record { timestamp = c.args.timestamp; number = c.args.number; answer = c.args.answer }) ((c.in_ok-reach.ensures {u = tt}).long) few
    ∙ ap (λ rs. with_reply rs c.args.client.number (record { timestamp = c.args.timestamp; number = c.args.number; outcome = outcome_of c.args.answer })) (c.reach.ensures.same ∙ c.self.view_is)

pub returns-clause-valid : goal.returns-clause-valid
returns-clause-valid c =
    AreReplies-padded _ (AreSlots-set c.reach.new.slots.items c.args.client.number (record { timestamp = c.args.timestamp; number = c.args.number; answer = c.args.answer }) c.reach.ensures.slots
    (record { first = c.requires.timestamp; timestamp_fits = omega arith; number_fits = omega arith; answer = c.note_valid.ensures }) ((c.in_ok-reach.ensures {u = tt}).long))
