use Rattle.std.proofs.Common.{◌≡◌, ◌+◌, Option, reverse, sym, ap, ◌∙◌, subst}
use Rattle.std.specs.Prelude.{option_map, IfOk}
use Rattle.std.proofs.lemmas.Result.{IfOk-weaker}
use Rattle.events.specs.EntryView.{entry_of_kind}
use Rattle.tuple_codec.specs.Operations.{Outcome}
use Rattle.tuple_codec.specs.OperationView.{outcome_of}
use Rattle.points.specs.declared.point.Placed.{Placed}
use Rattle.signing.specs.Publics.{knows}
use Rattle.points.specs.Places.{position_in}
use Rattle.points.specs.PointView.{placing_of}
use Rattle.points.specs.Scanning.{EntryEndsRead, scan_data, read_by_scan}
use Rattle.points.proofs.Ending.{ended}
use Rattle.points.proofs.reads.read_ended.Goals as goal

pub returns-in-Accepted-clause-read : goal.returns-in-Accepted-clause-read
returns-in-Accepted-clause-read c =
    let found = reverse c.args.places.now.rises.items in
    let answer = outcome_of c.in-Accepted.answer.value in
    IfOk-weaker c.read_at.result
    (λ (r : Option Placed). option_map placing_of r ≡ read_by_scan (knows c.args.ring.now c.args.publics.now) (position_in found) (256 + c.in-Accepted.client.number) c.in-Accepted.timestamp.0 answer (scan_data c.scan_of-scan.result))
    (λ (r : Option Placed). EntryEndsRead (knows c.args.ring.now c.args.publics.now) found c.args.scans.now.entries c.args.entry.now (option_map placing_of r))
    (λ r h. ended (knows c.args.ring.now c.args.publics.now) found c.args.scans.now.entries c.args.entry.now c.in-Accepted.client.number c.in-Accepted.timestamp.0 answer _ _
    (ap entry_of_kind (sym c.in-Accepted.is) ∙ c.kind.ensures.says) c.scan_of-scan.ensures h)
    (subst (λ (a : Outcome). IfOk c.read_at.result (λ r. option_map placing_of r ≡ read_by_scan (knows c.args.ring.now c.args.publics.now) (position_in found) (256 + c.in-Accepted.client.number) c.in-Accepted.timestamp.0 a (scan_data c.scan_of-scan.result)))
    (ap outcome_of c.deref.ensures) c.read_at.ensures.read)
