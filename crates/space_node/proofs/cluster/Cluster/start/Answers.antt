use Rattle.space_node.proofs.Drilled.{refused_alike}
use Rattle.space_node.proofs.cluster.Cluster.start.Goals as goal

pub returns : goal.returns
returns g c = record {
  faulty = refused_alike _ c.args.config.now c.new-none.result.items c.new-none.ensures.items c.start_with_drills.ensures.drills;
  clients = c.start_with_drills.ensures.clients;
}
