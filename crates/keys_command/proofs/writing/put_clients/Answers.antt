use Rattle.std.proofs.Common.{◌≡◌, ◌+◌, arith, refl}
use Rattle.terms.specs.declared.parties.TheConstants.{FIRST_CLIENT}
use Rattle.keys_command.proofs.Filed.{files_more, puts_none}
use Rattle.keys_command.proofs.writing.put_clients.Goals as goal

pub loop-number-preserved : goal.loop-number-preserved
loop-number-preserved g c =
    let n = c.loop-number.number in
    let p : FIRST_CLIENT + n ≡ FIRST_CLIENT + n = omega arith in
    files_more c.args.config.now (g.F.Folder.files c.args.folder.now) (g.F.Folder.files c.loop-number.folder) (g.F.Folder.files c.put_file.new.folder) FIRST_CLIENT n (FIRST_CLIENT + n) p
    c.loop-number.invariant (c.in_ok-put_file.ensures {u = tt})
