use Rattle.std.proofs.Common.{refl}
use Rattle.std.proofs.lemmas.Bool.{both_ways}
use Rattle.schedule_world.proofs.stage.new_stage_client.Goals as goal

pub returns : goal.returns
returns c = record {
  number = c.new-client.ensures.number;
  fits = (
    c.new-client.ensures.fits c.args.config.now (rw (c.own_ring-ring.ensures, c.in_ok-share.ensures, c.requires.keys) refl),
    refl,
    λ stopped. absurd (both_ways c.new-client.result.stopped c.new-client.ensures.runs stopped),
  );
}
