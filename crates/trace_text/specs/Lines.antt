-- The lines of entries.
use Rattle.std.specs.Prelude.{ℕ, List, ◌++◌, codes}
use Rattle.std.specs.Fmt.{decimal}
use Rattle.tuple_codec.specs.Operations.{Operation, Outcome}
use Rattle.tuple_text.specs.Written.{operation_written, outcome_text}
use Rattle.protocol.specs.System.Trace.{Entry}
use Rattle.protocol.specs.System.Trace.Entry.{Invoke, Got, Tick, Executed, Installed, Sent, Accepted}
use Rattle.trace_text.specs.Frames.{party_text, short, calls_text, shown_frame, receivers_text}

-- a word, a client and the timestamp of its call
abbrev pub of_call : List ℕ → ℕ → ℕ → List ℕ
of_call word client timestamp = word ++ codes " c" ++ decimal client ++ codes " time " ++ decimal timestamp ++ codes " "

abbrev pub invoke_line : ℕ → ℕ → Operation → List ℕ
invoke_line client timestamp op = of_call (codes "invoke") client timestamp ++ operation_written op

abbrev pub got_line : ℕ → List ℕ → List ℕ
got_line party bytes = codes "got " ++ party_text party ++ codes " " ++ shown_frame bytes

abbrev pub tick_line : ℕ → List ℕ
tick_line party = codes "tick " ++ party_text party

-- a word, a replica and a number
abbrev pub replica_and_number : List ℕ → ℕ → ℕ → List ℕ
replica_and_number word replica number = word ++ codes " r" ++ decimal replica ++ codes " number " ++ decimal number
    ++ codes " "

abbrev pub executed_line : ℕ → ℕ → List ℕ → List ℕ
executed_line replica number batch = replica_and_number (codes "executed") replica number ++ calls_text batch

abbrev pub installed_line : ℕ → ℕ → List ℕ → List ℕ
installed_line replica number root = replica_and_number (codes "installed") replica number ++ codes "root "
    ++ short root

abbrev pub sent_line : ℕ → List ℕ → List ℕ
sent_line party bytes =
    codes "sent " ++ party_text party ++ codes " " ++ shown_frame bytes ++ codes " to " ++ receivers_text bytes

abbrev pub accepted_line : ℕ → ℕ → Outcome → List ℕ
accepted_line client timestamp outcome = of_call (codes "accepted") client timestamp ++ outcome_text outcome

abbrev pub entry_line : Entry → List ℕ
entry_line (Invoke client timestamp op) = invoke_line client timestamp op
entry_line (Got party bytes) = got_line party bytes
entry_line (Tick party) = tick_line party
entry_line (Executed replica number batch) = executed_line replica number batch
entry_line (Installed replica number root) = installed_line replica number root
entry_line (Sent party bytes) = sent_line party bytes
entry_line (Accepted client timestamp outcome) = accepted_line client timestamp outcome
