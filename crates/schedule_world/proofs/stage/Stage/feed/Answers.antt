use Rattle.std.proofs.Common.{◌≡◌, ◌<◌, ◌+◌, true, sym, ap, ◌∙◌, subst, arith}
use Rattle.terms.specs.Parties.{party_number}
use Rattle.protocol.specs.System.Configuration.{is_correct}
use Rattle.protocol.specs.System.Trace.Entry.{Got}
use Rattle.replica.specs.declared.replica.Event.TheVariants as replica_events
use Rattle.client_cert.specs.declared.client.Event.TheVariants as client_events
use Rattle.schedule_world.specs.Moving.{InputComes}
use Rattle.schedule_world.proofs.Standing.{from_replica, from_client}
use Rattle.schedule_world.proofs.stage.Stage.feed.Goals as goal
use Rattle.schedule_world.proofs.stage.Stage.feed.Goals.{in-Replica, in-Client}

pub returns-clause-comes : goal.returns-clause-comes
returns-clause-comes c = elim c.match-party.branch [
  | in-Replica w ↦
      let low : w.in-Replica.replica.0 < 256 = omega arith in
      let same = w.party-is in
      let there = w.party-is ∙ sym w.in-Replica.is in
      let correct = subst (λ p. is_correct c.args.config.now (party_number p) ≡ true) (sym there) c.requires.correct in
      subst (λ p. InputComes c.args.config.now (Got (party_number p) c.args.bytes) c.args.self.now c.add_outputs.new.self) there
      (from_replica c.args.config.now c.args.self.now c.match-party.self w.step_replica-outputs.new.self c.add.new.self c.add_outputs.new.self (party_number c.match-party.party) w.in-Replica.replica.0
      (replica_events.Got w.as_slice.result) c.match-party.outputs.items w.step_replica-outputs.result.items (Got (party_number c.match-party.party) c.args.bytes) c.requires.placed
      (ap party_number same) low correct
      w.step_replica-outputs.ensures.moves w.step_replica-outputs.ensures.stage_clients w.step_replica-outputs.ensures.kept w.self-is (ap (λ v. v.items) w.outputs-is)
      (ap (λ p. Got (party_number p) c.args.bytes) same ∙ ap (Got w.in-Replica.replica.0) (sym w.as_slice.ensures.value))
      c.in_ok-add.ensures.adds c.add.ensures.kept c.in_ok-add_outputs.ensures.adds c.in_ok-add_outputs.ensures.own c.add_outputs.ensures.kept)
  | in-Client w ↦
      let same = w.party-is in
      let there = w.party-is ∙ sym w.in-Client.is in
      let correct = subst (λ p. is_correct c.args.config.now (party_number p) ≡ true) (sym there) c.requires.correct in
      subst (λ p. InputComes c.args.config.now (Got (party_number p) c.args.bytes) c.args.self.now c.add_outputs.new.self) there
      (from_client c.args.config.now c.args.self.now c.match-party.self w.step_client-outputs.new.self c.add.new.self c.add_outputs.new.self (party_number c.match-party.party) w.in-Client.client.number
      (client_events.Got w.as_slice-in-Client.result) c.match-party.outputs.items w.step_client-outputs.result.items (Got (party_number c.match-party.party) c.args.bytes) c.requires.placed
      (ap party_number same) correct
      w.step_client-outputs.ensures.moves w.step_client-outputs.ensures.replicas w.step_client-outputs.ensures.kept w.self-is (ap (λ v. v.items) w.outputs-is)
      (ap (λ p. Got (party_number p) c.args.bytes) same ∙ ap (Got (256 + w.in-Client.client.number)) (sym w.as_slice-in-Client.ensures.value))
      c.in_ok-add.ensures.adds c.add.ensures.kept c.in_ok-add_outputs.ensures.adds c.in_ok-add_outputs.ensures.own c.add_outputs.ensures.kept)
]
