use Rattle.std.proofs.Common.{sym, ap, ◌∙◌, subst, length, arith}
use Rattle.wire_format.specs.Lists.{Each}
use Rattle.wire_format.specs.Spelling.{IsDigest}
use Rattle.frame_endpoint.proofs.messages.meta_message.Goals as goal

pub returns-clause-may : goal.returns-clause-may
returns-clause-may c =
    let same = (c.in_ok-digests.ensures {u = tt}).items in
    (omega arith, c.requires.part, c.requires.index, ap length same ∙ c.told-digests, subst (Each IsDigest) (sym same) c.note_digests.ensures)
