use Rattle.std.proofs.Common.{◌∙◌}
use Rattle.std.specs.Slice.Iter.{chunks_rest}
use Rattle.std.proofs.lemmas.List.{map-append}
use Rattle.wire_format.specs.Spelling.{IsMac}
use Rattle.authenticator.proofs.Digests.{each_append}
use Rattle.authenticator.proofs.Entries.{entries-group}
use Rattle.authenticator.proofs.ring.Ring.entries.Goals as goal

pub loop-group-preserved : goal.loop-group-preserved
loop-group-preserved c =
    let split = c.in-Some.ensures.steps in
    let longer = c.in-Ok.ensures.ok in
    let new = entries-group c.loop-group.self.keys c.args.sender c.args.text.now c.loop-group.entries.items _ _ c.in-Some.group.now
    (chunks_rest c.next.new.self) (chunks_rest c.loop-group.group-iterator) c.group_entries-made.ensures.made longer split.1.0 in
    record {
      made = rw c.group_entries-made.ensures.same (new ∙ c.loop-group.invariant.made);
      formed = rw (longer, map-append) (each_append IsMac _ _ c.loop-group.invariant.formed c.group_entries-made.ensures.formed);
      size = split.0 ∙ c.loop-group.invariant.size;
      same = c.group_entries-made.ensures.same ∙ c.loop-group.invariant.same;
    }
