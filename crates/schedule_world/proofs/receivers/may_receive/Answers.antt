use Rattle.std.proofs.Common.{◌≤◌, ◌∙◌, length, sym, rules}
use Rattle.std.proofs.lemmas.Bool.{both_ways}
use Rattle.schedule_world.proofs.Meant.{are_receivers, receivers_parties, receivers_ascend}
use Rattle.schedule_world.proofs.receivers.may_receive.Goals as goal

pub returns-then-are_parties-clause-value : goal.returns-then-are_parties-clause-value
returns-then-are_parties-clause-value c =
    let some : 1 ≤ length c.args.receivers.now = search rules in
    let few : length c.args.receivers.now ≤ 10 = search rules in (
      λ e. are_receivers c.args.config.now c.args.receivers.now some few (sym c.are_parties.ensures ∙ c.if-are_parties.true) (sym c.ascend.ensures ∙ e),
      λ h. c.ascend.ensures ∙ receivers_ascend c.args.config.now c.args.receivers.now h,
    )

pub returns-else-are_parties-clause-value : goal.returns-else-are_parties-clause-value
returns-else-are_parties-clause-value c =
    (λ e. absurd (both_ways _ c.if-are_parties.false e), λ h. c.are_parties.ensures ∙ receivers_parties c.args.config.now c.args.receivers.now h)
