use Rattle.std.proofs.Common.{◌∙◌}
use Rattle.terms.specs.Parties.{party_number}
use Rattle.schedule_world.proofs.Showing.{adds_more_meant, own_more}
use Rattle.schedule_world.proofs.stage.Stage.add_outputs.Goals as goal

pub loop-output-preserved : goal.loop-output-preserved
loop-output-preserved c = (
  adds_more_meant c.args.config.now (party_number c.args.party) c.loop-output.yielded c.in-Some.output c.args.self.now c.loop-output.self c.add_output.new.self c.loop-output.invariant.0 c.in_ok-add_output.ensures.adds,
  own_more (party_number c.args.party) c.loop-output.yielded c.in-Some.output c.loop-output.invariant.1 c.in_ok-add_output.ensures.own,
  record {
    replicas = c.in_ok-add_output.ensures.kept.replicas ∙ c.loop-output.invariant.2.replicas;
    stage_clients = c.in_ok-add_output.ensures.kept.stage_clients ∙ c.loop-output.invariant.2.stage_clients;
  },
)
