use Rattle.std.proofs.Common.{◌∙◌, sym}
use Rattle.log_tests.proofs.disks.read_log.Goals as goal

pub end-requires-clause-restarted : goal.end-requires-clause-restarted
end-requires-clause-restarted g c file left =
    let inv = c.loop-texts.invariant in
    c.requires.restarted file (inv.crash file (c.next_group.ensures.crash file left)) ∙ sym (c.next_group.ensures.seen ∙ inv.seen)
