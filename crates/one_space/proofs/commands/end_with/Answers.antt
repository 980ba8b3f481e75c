use Rattle.std.proofs.Common.{refl}
use Rattle.one_space.specs.declared.complaints.Complaint.TheVariants as complaints
use Rattle.one_space.proofs.commands.end_with.Goals as goal

pub returns-in-Read : goal.returns-in-Read
returns-in-Read g c =
    rw c.in-Read.is (record { complaint = complaints.Unreadable c.args.path; of = refl; status_is = c.complain.ensures.status; said = c.complain.ensures.said })
