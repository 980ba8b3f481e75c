use Rattle.std.proofs.Common.{◌≡◌, ◌-◌, [], map, length}
use Rattle.wire_format.specs.Reading.{passing, more_at, anyhow, piece_at, is_request}
use Rattle.wire.proofs.batches.read_requests.Given as goal

abbrev pub invariant-loop-i : goal.invariant-loop-i
invariant-loop-i l = record {
  reads : more_at (passing is_request piece_at) anyhow (l.count - l._i) (map (λ f. f.now) l.requests.items) l.rest ≡ more_at (passing is_request piece_at) anyhow l.count [] l.initial.rest;
  number : length l.requests.items ≡ l._i;
}
