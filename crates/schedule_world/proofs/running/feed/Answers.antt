use Rattle.std.proofs.Common.{sym, ◌∙◌, subst}
use Rattle.terms.specs.Parties.{party_number}
use Rattle.protocol.specs.System.Trace.Entry.{Got}
use Rattle.schedule_world.specs.Moving.{InputComes}
use Rattle.schedule_world.proofs.Taking.{leads_feed}
use Rattle.schedule_world.proofs.running.feed.Goals as goal

pub returns-clause-takes : goal.returns-clause-takes
returns-clause-takes c =
    leads_feed c.args.config.now c.args.stage.now c.feed.new.self (party_number c.args.party) c.args.bytes.now (sym c.is_correct.ensures ∙ c.if-not-is_correct.false)
    (subst (λ b. InputComes c.args.config.now (Got (party_number c.args.party) b) c.args.stage.now c.feed.new.self) (c.in_ok-new.ensures ∙ c.in_ok-copy.ensures.items) c.in_ok-feed.ensures.comes)
