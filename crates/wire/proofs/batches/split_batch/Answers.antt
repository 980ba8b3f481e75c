use Rattle.std.proofs.Common.{◌≡◌, ◌-◌, ◌∷◌, [], ap, refl, arith, ◌∙◌, length, length-append}
use Rattle.wire_format.specs.Reading.{passing, piece_at, is_request, anyhow}
use Rattle.wire.proofs.Requesting.{starts, some_bytes, no_piece, a_request}
use Rattle.wire.proofs.Steps.{goes_on}
use Rattle.wire.proofs.batches.split_batch.Goals as goal

pub unreachable-requires : goal.unreachable-requires
unreachable-requires c = some_bytes c.args.text.now c.requires c.in_default.ensures

pub loop-i-init : goal.loop-i-init
loop-i-init c =
    let all : c.in-Some.count - 0 ≡ c.in-Some.count = omega arith in
    let s = starts c.args.text.now c.in-Some.front.now c.in-Some.count c.requires c.in-Some.ensures in
    record { reads = rw (all, c.new-requests.ensures) s.1; number = ap length c.new-requests.ensures; few = s.0 }

pub unreachable-requires-in_default-read_piece : goal.unreachable-requires-in_default-read_piece
unreachable-requires-in_default-read_piece c =
    no_piece c.in-Some.count c.loop-i._i c.loop-i.requests.items c.loop-i.rest.now _ c.loop-i-test.true c.loop-i.invariant.reads c.in_default-read_piece.ensures

pub loop-i-preserved : goal.loop-i-preserved
loop-i-preserved c =
    let x = c.in-Some-read_piece in
    let found = a_request c.in-Some.count c.loop-i._i c.loop-i.requests.items c.loop-i.rest.now _ c.loop-i-test.true c.loop-i.invariant.reads x.frame.now x.after.now x.ensures in
    record {
      reads = goes_on (passing is_request piece_at) anyhow (λ f. f.now) _ _ c.loop-i.requests.items _ x.frame _ _ c.loop-i-test.true found refl c.push.ensures.items ∙ c.loop-i.invariant.reads;
      number = omega (arith, ap length c.push.ensures.items, length-append c.loop-i.requests.items (x.frame ∷ []), c.loop-i.invariant.number);
      few = c.loop-i.invariant.few;
    }
