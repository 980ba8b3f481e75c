use Rattle.replica.proofs.ReadMarks.{marked_are_requests, marked_are_replies, replies_are_marked}
use Rattle.replica.proofs.parted_laws.marks_tell_reads.Goals as goal

pub returns : goal.returns
returns c = record { requests = marked_are_requests; replies = marked_are_replies; marked = replies_are_marked }
