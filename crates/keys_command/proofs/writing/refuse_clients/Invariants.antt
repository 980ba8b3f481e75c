use Rattle.std.specs.List.{range_with_len}
use Rattle.keys_command.specs.Files.{NoneHasFile}
use Rattle.keys_command.proofs.writing.refuse_clients.Given as goal

abbrev pub invariant-loop-number : goal.invariant-loop-number
invariant-loop-number g l = NoneHasFile (g.F.Folder.files l.folder) (range_with_len 256 l.number)
