use Rattle.std.proofs.Common.{◌≡◌, ◌*◌, ◌∙◌, ap, arith, refl}
use Rattle.sha2.specs.Sha256.{add_state, compress, rounds}
use Rattle.hash_lanes.specs.Lanes.{lane}
use Rattle.hash_lanes.proofs.lanes.compress_same.Goals as goal

pub rounds-init : goal.rounds-init
unfolding rounds
rounds-init c = record { shape = c.requires.state; after = λ n lt. refl }

pub rounds-preserved : goal.rounds-preserved
rounds-preserved c = record {
  shape = c.eight_steps-v.ensures.shape;
  after = λ n lt.
      let b = c.args.block.now in
      c.eight_steps-v.ensures.lanes n lt b (lane n c.args.state.now) (c.same_group.ensures.lanes n lt b c.schedule-words.ensures) (c.rounds.invariant.after n lt);
}

pub returns-clause-lanes : goal.returns-clause-lanes
unfolding compress
returns-clause-lanes c = λ l lt.
    let done : 8 * c.rounds.turn ≡ 64 = omega arith in
    let ran = rw done at (c.rounds.invariant.after l lt) in
    c.add.ensures.lanes l lt ∙ ap (add_state (lane l c.args.state.now)) ran
