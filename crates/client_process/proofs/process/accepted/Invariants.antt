use Rattle.std.proofs.Common.{◌≡◌, drop}
use Rattle.client_process.specs.Texts.{accepted_of}
use Rattle.client_process.proofs.process.accepted.Given as goal

-- none is among those before
abbrev pub invariant-loop-output : goal.invariant-loop-output
invariant-loop-output l = accepted_of (drop l.output-index l.outputs) ≡ accepted_of l.outputs
