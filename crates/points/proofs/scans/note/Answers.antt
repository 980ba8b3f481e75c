use Rattle.std.proofs.Common.{ap, ◌∙◌}
use Rattle.points.specs.Scanning.{scan_after_entry}
use Rattle.points.proofs.Noting.{notes_own, notes_none}
use Rattle.points.proofs.scans.note.Goals as goal

pub returns-in-Ok : goal.returns-in-Ok
returns-in-Ok c =
    notes_own c.in-Some.client.number c.args.position c.args.entry.now c.args.scans.now.entries _ c.scan_after-scan.result (c.in-Some.ensures)
    ((c.in-Ok.ensures {u = tt}).updates.0) (c.scan_after-scan.ensures ∙ ap (scan_after_entry c.args.position c.args.entry.now) c.scan_of.ensures)

pub returns-in_default : goal.returns-in_default
returns-in_default c = notes_none c.args.position c.args.entry.now c.args.scans.now.entries c.in_default.ensures
