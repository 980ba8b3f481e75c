use Rattle.std.proofs.Common.{refl}
use Rattle.terms.specs.Parties.{party_number}
use Rattle.schedule_world.specs.declared.stage.Stage.{Stage}
use Rattle.schedule_world.proofs.Flushed.{delivers}
use Rattle.schedule_world.proofs.stage.Stage.deliver.Goals as goal

pub returns-clause-delivers : goal.returns-clause-delivers
returns-clause-delivers c =
    let mid : Stage = record {
      replicas = c.args.self.now.replicas;
      stage_clients = c.args.self.now.stage_clients;
      pool = c.note_delivered.new.self;
      trace = c.args.self.now.trace;
      accepted = c.args.self.now.accepted;
    } in
    delivers c.args.config.now c.args.self.now mid c.feed.new.self c.args.frame (party_number c.args.party) c.in_ok-bytes.bytes c.in_ok-bytes.ensures c.note_delivered.ensures refl refl refl refl
    c.in_ok-feed.ensures.comes
