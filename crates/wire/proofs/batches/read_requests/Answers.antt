use Rattle.std.proofs.Common.{◌∙◌, ◌∷◌, [], ap, refl, arith, length, length-append}
use Rattle.wire_format.specs.Reading.{passing, piece_at, is_request, anyhow}
use Rattle.wire.proofs.Steps.{goes_on}
use Rattle.wire.proofs.batches.read_requests.Goals as goal

pub loop-i-preserved : goal.loop-i-preserved
loop-i-preserved c = record {
  reads = goes_on (passing is_request piece_at) anyhow (λ f. f.now) _ _ c.loop-i.requests.items _ c.in_ok-frame.frame _ _ (omega arith) c.in_ok-frame.ensures refl c.push.ensures.items ∙ c.loop-i.invariant.reads;
  number = omega (arith, ap length c.push.ensures.items, length-append c.loop-i.requests.items (c.in_ok-frame.frame ∷ []), c.loop-i.invariant.number);
}
