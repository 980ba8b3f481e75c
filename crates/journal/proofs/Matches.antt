-- Lists that are known equal by the tie, or compared whole, with the newest entry first.
use Rattle.std.proofs.Common.{◌≡◌, ◌==◌, ℕ, List, Option, ap, sym, ◌∙◌}
use Rattle.std.specs.Prelude.{reverse}
use Rattle.protocol.specs.System.Trace.{Entry, party_of, history_of}
use Rattle.journal.specs.Comparing.{ordering_of}
use Rattle.protocol.specs.System.Reads.{orders, without_reads}
use Rattle.journal.specs.Ties.{Knot, TiesJournal, SeenHasHistory, SeenShowsAll, IsTiedHistory}
use Rattle.journal.proofs.Turned.{filtered_turned}

pub known : (tie : Option Knot) (seen : Option (List (List Entry))) (p : ℕ) (entries history : List Entry) → SeenShowsAll history_of tie seen p → TiesJournal tie entries → SeenHasHistory history_of seen p history
    → history_of p (reverse entries) ≡ reverse history
known tie seen p entries history shows ties marks =
    filtered_turned (λ (e : Entry). party_of e == p) entries history (shows entries history ties marks)

pub ordering_known : (tie : Option Knot) (seen : Option (List (List Entry))) (p : ℕ) (history ordering : List Entry) → SeenShowsAll ordering_of tie seen p → IsTiedHistory tie p history → SeenHasHistory ordering_of seen p ordering
    → without_reads (reverse history) ≡ reverse ordering
ordering_known tie seen p history ordering shows tied marks =
    filtered_turned orders history ordering (ap without_reads (sym tied.2) ∙ shows tied.0 ordering tied.1 marks)
