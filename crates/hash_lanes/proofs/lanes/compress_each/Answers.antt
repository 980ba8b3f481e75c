use Rattle.std.proofs.Common.{◌≡◌, ℕ, List, ◌*◌, ◌<◌, ◌∙◌, ap, arith, refl}
use Rattle.sha2.specs.Sha256.{add_state, compress, rounds}
use Rattle.hash_lanes.specs.Lanes.{lane}
use Rattle.hash_lanes.specs.Rounds.{HoldsBlock}
use Rattle.hash_lanes.proofs.Vectors.{zeros}
use Rattle.hash_lanes.proofs.lanes.compress_each.Goals as goal

pub load-requires-clause-shape : goal.load-requires-clause-shape
load-requires-clause-shape c = zeros 64

pub rounds-init : goal.rounds-init
unfolding rounds
rounds-init c = record { shape = c.requires.state; after = λ n lt b holds. refl }

pub rounds-preserved : goal.rounds-preserved
rounds-preserved c = record {
  shape = c.eight_steps-v.ensures.shape;
  after = λ n lt b holds.
      c.eight_steps-v.ensures.lanes n lt b (lane n c.args.state.now) (c.own_group.ensures.lanes n lt b holds) (c.rounds.invariant.after n lt b holds);
}

pub returns : goal.returns
unfolding compress
returns c =
    let done : 8 * c.rounds.turn ≡ 64 = omega arith in
    let ends : (l : ℕ) → l < 4 → (b : List ℕ) → HoldsBlock b (lane l c.load.new.words) → lane l c.add.new.state ≡ compress (lane l c.args.state.now) b =
    λ l lt b holds.
    let ran = rw done at (c.rounds.invariant.after l lt b (c.extend.ensures.lanes l lt b holds)) in
    c.add.ensures.lanes l lt ∙ ap (add_state (lane l c.args.state.now)) ran in
    record {
      first = ends 0 (omega arith) c.args.p.now c.load.ensures.first;
      second = ends 1 (omega arith) c.args.q.now c.load.ensures.second;
      third = ends 2 (omega arith) c.args.r.now c.load.ensures.third;
      fourth = ends 3 (omega arith) c.args.s.now c.load.ensures.fourth;
      shape = c.add.ensures.shape;
    }
