use Rattle.std.proofs.Common.{map}
use Rattle.std.specs.List.{range_with_len}
use Rattle.keys_command.specs.Files.{file_of}
use Rattle.keys_command.specs.Folders.{Puts}
use Rattle.keys_command.proofs.writing.put_replicas.Given as goal

abbrev pub invariant-loop-replica : goal.invariant-loop-replica
invariant-loop-replica g l = Puts (g.F.Folder.files l.initial.folder) (g.F.Folder.files l.folder) (map (file_of l.config) (range_with_len 0 l.replica))
