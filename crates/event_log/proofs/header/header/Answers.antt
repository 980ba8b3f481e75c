use Rattle.std.proofs.Common.{◌++◌, List, ℕ, ◌∙◌, ap}
use Rattle.std.specs.Int.{w64, to_be_bytes}
use Rattle.event_log.specs.declared.header.TheConstants.{FORM}
use Rattle.event_log.proofs.Making.{three_made, header_made}
use Rattle.event_log.proofs.header.header.Goals as goal

pub returns : goal.returns
returns c =
    let items0 = c.in_ok-header.header.items in
    let items1 = c.extend_from_slice.new.self.items in
    let items2 = c.extend_from_slice-2.new.self.items in
    let items3 = c.extend_from_slice-3.new.self.items in
    header_made c.args.owner items3 c.deref.result.now c.extend_from_slice-4.new.self.items c.digest_of-check.result
    (three_made (to_be_bytes w64 FORM) (to_be_bytes w64 c.args.owner.mark) (to_be_bytes w64 c.args.owner.key) items0 items1 items2 items3 c.in_ok-header.ensures.items
    (c.in_ok-extend_from_slice.ensures.items ∙ ap (λ (l : List ℕ). items0 ++ l) c.to_be_bytes.ensures)
    (c.in_ok-extend_from_slice-2.ensures.items ∙ ap (λ (l : List ℕ). items1 ++ l) c.to_be_bytes-2.ensures)
    (c.in_ok-extend_from_slice-3.ensures.items ∙ ap (λ (l : List ℕ). items2 ++ l) c.to_be_bytes-3.ensures))
    c.digest_of-check.ensures.value c.deref.ensures.value
    (c.in_ok-extend_from_slice-4.ensures.items ∙ ap (λ (l : List ℕ). items3 ++ l) c.to_be_bytes-4.ensures)
