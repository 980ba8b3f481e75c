use Rattle.replica_command.proofs.Ends.{not_served, served}
use Rattle.replica_command.proofs.serving.serve_file.Goals as goal

pub returns-in-Err : goal.returns-in-Err
returns-in-Err g c =
    not_served (g.F.Read.remaining c.args.file) c.in-Err.fault (g.R.Read.remaining c.args.reader) (g.W.Write.contents c.args.writer.now) (rw c.in-Err.is at c.read_keys.ensures)

pub returns-in-Ok : goal.returns-in-Ok
returns-in-Ok g c =
    served (g.F.Read.remaining c.args.file) c.in-Ok.keys c.serve_replica.result (g.R.Read.remaining c.args.reader) (g.W.Write.contents c.args.writer.now)
    (g.W.Write.contents c.serve_replica.new.writer) (rw c.in-Ok.is at c.read_keys.ensures) c.serve_replica.ensures
