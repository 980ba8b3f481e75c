use Rattle.std.specs.List.{range_with_len}
use Rattle.keys_command.specs.Files.{NoneHasFile}
use Rattle.keys_command.proofs.writing.refuse_replicas.Given as goal

abbrev pub invariant-loop-replica : goal.invariant-loop-replica
invariant-loop-replica g l = NoneHasFile (g.F.Folder.files l.folder) (range_with_len 0 l.replica)
