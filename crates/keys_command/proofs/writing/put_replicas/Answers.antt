use Rattle.std.proofs.Common.{◌≡◌, ◌+◌, arith, refl}
use Rattle.keys_command.proofs.Filed.{files_more, puts_none}
use Rattle.keys_command.proofs.writing.put_replicas.Goals as goal

pub loop-replica-preserved : goal.loop-replica-preserved
loop-replica-preserved g c =
    let n = c.loop-replica.replica in
    let p : 0 + n ≡ n = omega arith in
    files_more c.args.config.now (g.F.Folder.files c.args.folder.now) (g.F.Folder.files c.loop-replica.folder) (g.F.Folder.files c.put_file.new.folder) 0 n n p
    c.loop-replica.invariant (c.in_ok-put_file.ensures {u = tt})
