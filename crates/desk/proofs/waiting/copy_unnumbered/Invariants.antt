use Rattle.std.proofs.Common.{◌≡◌, take}
use Rattle.wire_format.specs.Views.{texts_of}
use Rattle.desk.specs.Waiting.{all_unnumbered, texts}
use Rattle.desk.proofs.waiting.copy_unnumbered.Given as goal

abbrev pub invariant-loop-request : goal.invariant-loop-request
invariant-loop-request l = texts_of l.frames.items ≡ texts (take 16 (all_unnumbered (take l.request-index l.requests)))
