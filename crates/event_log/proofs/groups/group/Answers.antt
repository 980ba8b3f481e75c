use Rattle.std.proofs.Common.{◌++◌, List, ℕ, length, ◌∙◌, ap}
use Rattle.std.specs.Int.{w32, w64, to_be_bytes}
use Rattle.event_log.proofs.Making.{three_made, group_made, rest_shown}
use Rattle.event_log.proofs.groups.group.Goals as goal

pub returns : goal.returns
returns c =
    let items1 = c.extend_from_slice.new.self.items in
    let items2 = c.extend_from_slice-2.new.self.items in
    let items3 = c.extend_from_slice-3.new.self.items in
    let items4 = c.extend_from_slice-4.new.self.items in
    let mark = to_be_bytes w64 c.args.owner.mark in
    let number = to_be_bytes w64 c.args.number in
    let count = to_be_bytes w32 (length c.args.events.now) in
    group_made c.args.owner c.args.number c.args.events.now items3 items4 _ _ c.digest_of-check.result
    (three_made mark number count _ items1 items2 items3 c.in_ok-group.ensures.items
    (c.in_ok-extend_from_slice.ensures.items ∙ ap (λ (l : List ℕ). c.in_ok-group.group.items ++ l) c.to_be_bytes.ensures)
    (c.in_ok-extend_from_slice-2.ensures.items ∙ ap (λ (l : List ℕ). items1 ++ l) c.to_be_bytes-2.ensures)
    (c.in_ok-extend_from_slice-3.ensures.items ∙ ap (λ (l : List ℕ). items2 ++ l) c.to_be_bytes-3.ensures))
    c.in_ok-extend_from_slice-4.ensures.items
    (rest_shown c.deref.result.now items4 8 c.deref.ensures.value) c.digest_of-check.ensures.value
    (c.in_ok-extend_from_slice-5.ensures.items ∙ ap (λ (l : List ℕ). items4 ++ l) c.to_be_bytes-4.ensures)
