use Rattle.std.proofs.Common.{◌≡◌, ◌++◌, drop}
use Rattle.client_process.specs.Texts.{outputs_text}
use Rattle.client_process.proofs.process.put_frames.Given as goal

abbrev pub invariant-loop-output : goal.invariant-loop-output
invariant-loop-output l =
    l.text.items ++ outputs_text (drop l.output-index l.outputs) ≡ l.fn.text.items ++ outputs_text l.outputs
