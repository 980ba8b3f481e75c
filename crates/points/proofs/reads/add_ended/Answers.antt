use Rattle.std.proofs.Common.{reverse}
use Rattle.std.specs.Prelude.{option_map}
use Rattle.std.proofs.lemmas.Result.{on_ok_weaker}
use Rattle.signing.specs.Publics.{knows}
use Rattle.points.specs.PointView.{placing_of}
use Rattle.points.proofs.Holding.{adds_ended, adds_not}
use Rattle.points.proofs.reads.add_ended.Goals as goal

pub returns-then-not-may_end-clause-adds : goal.returns-then-not-may_end-clause-adds
returns-then-not-may_end-clause-adds c =
    adds_not (knows c.args.ring.now c.args.publics.now) (reverse c.args.places.now.rises.items) c.args.scans.now.entries c.args.entry.now c.args.rank c.args.reads.now (c.may_end.ensures c.if-not-may_end.true)

pub returns-clause-adds : goal.returns-clause-adds
returns-clause-adds c =
    on_ok_weaker c.add.result
    (adds_ended (knows c.args.ring.now c.args.publics.now) (reverse c.args.places.now.rises.items) c.args.scans.now.entries c.args.entry.now c.args.rank (option_map placing_of c.in_ok-read.read) c.args.reads.now c.add.new.self c.in_ok-read.ensures.read)
    c.add.ensures
