use Rattle.std.proofs.Common.{length, map, refl}
use Rattle.std.proofs.lemmas.List.{take-map, take_at}
use Rattle.wire_format.specs.Spelling.{IsMac}
use Rattle.wire_format.specs.Views.{mac_data}
use Rattle.authenticator.proofs.Digests.{each_take}
use Rattle.authenticator.proofs.Entries.{entries-front}
use Rattle.authenticator.proofs.ring.Ring.group_entries.Goals as goal

pub returns-clause-made : goal.returns-clause-made
returns-clause-made c =
    entries-front _ _ _ (length c.args.group.now) c.args.group.now _ c.four_entries.result c.four_entries.ensures.made
    (rw c.copy_from_slice.ensures.after (take_at c.args.group.now _ _ refl))

pub returns-clause-formed : goal.returns-clause-formed
returns-clause-formed c =
    rw (← take-map) (each_take IsMac (length c.args.group.now) (map mac_data c.four_entries.result) c.four_entries.ensures.formed)
