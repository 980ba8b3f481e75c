use Rattle.std.proofs.Common.{◌≡◌, ◌-◌, ◌≤◌, [], map, length, Some}
use Rattle.wire_format.specs.Reading.{passing, more_at, anyhow, piece_at, is_request}
use Rattle.wire_format.specs.Words.{requests_of}
use Rattle.wire.proofs.batches.split_batch.Given as goal

abbrev pub invariant-loop-i : goal.invariant-loop-i
invariant-loop-i l = record {
  reads : more_at (passing is_request piece_at) anyhow (l.count - l._i) (map (λ f. f.now) l.requests.items) l.rest ≡ Some (requests_of l.text, []);
  number : length l.requests.items ≡ l._i;
  few : l.count ≤ 16;
}
