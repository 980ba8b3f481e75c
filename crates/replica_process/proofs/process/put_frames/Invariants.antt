use Rattle.std.proofs.Common.{Some, drop}
use Rattle.replica_process.specs.Texts.{FrontIsWritten, outputs_text}
use Rattle.replica_process.proofs.process.put_frames.Given as goal

-- the records of the outputs so far were appended
abbrev pub invariant-loop-output : goal.invariant-loop-output
invariant-loop-output l = FrontIsWritten (Some l.fn.text.items) (Some l.text.items) (outputs_text l.outputs) (outputs_text (drop l.output-index l.outputs))
