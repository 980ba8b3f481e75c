-- What a transfer took, entry by entry.
use Rattle.std.specs.Prelude.{◌≡◌, ℕ, ◌≤◌, ◌<◌, List, ◌∷◌, Option, Some, None, option_and_then}
use Rattle.terms.specs.declared.state.Level.{Level}
use Rattle.terms.specs.declared.state.Level.TheVariants as levels
use Rattle.wire_format.specs.Messages.{fetch as Fetch, page as Page}
use Rattle.wire_format.specs.Words.{said}
use Rattle.signing.specs.AuthenticBody.{authentic}
use Rattle.protocol.specs.System.Configuration.{Configuration, members}
use Rattle.protocol.specs.System.Trace.{Entry, Once}
use Rattle.protocol.specs.System.Trace.Entry.{Got, Tick, Executed, Installed, Sent}
use Rattle.protocol.specs.Replica.Transfers.{place_from, fetching, asked_last, took}

-- The page that was asked for last is taken, where the event goes on for its number.
abbrev pub AnswersAreTaken : Type 0
AnswersAreTaken =
    (c : Configuration) (me sender k i : ℕ) (past : List Entry) (bytes text : List ℕ)
    → authentic (members c me) me bytes ≡ Some (record { sender = sender; message = Page k i text })
    → asked_last past ≡ Some (k, (levels.Page, i))
    → took c me (Some k) (Got me bytes ∷ past) i ≡ Some text

-- No other is, for any place, whatever the event goes on with:
abbrev pub OthersAreLeft : Type 0
OthersAreLeft =
    (c : Configuration) (me k i : ℕ) (past : List Entry) (bytes : List ℕ)
    → ((sender : ℕ) (text : List ℕ)
    → authentic (members c me) me bytes ≡ Some (record { sender = sender; message = Page k i text })
    → asked_last past ≡ Some (k, (levels.Page, i)) → ⊥)
    → took c me (Some k) (Got me bytes ∷ past) i ≡ took c me None past i

-- a place's digests or page were received for it, where it was asked for last.
abbrev pub FetchIsAnswered : Configuration → ℕ → ℕ → List ℕ → List Entry → Entry → Type 0
FetchIsAnswered c me i text past (Got p bytes) =
    (sender k : ℕ)
    × (authentic (members c me) me bytes ≡ Some (record { sender = sender; message = Page k i text }))
    × (asked_last past ≡ Some (k, (levels.Page, i)))
FetchIsAnswered c me i text past _ = ⊥

abbrev pub TakenWereAsked : Type 0
TakenWereAsked =
    (c : Configuration) (me i : ℕ) (next : Option ℕ) (past : List Entry) (text : List ℕ)
    → took c me next past i ≡ Some text
    → Once (FetchIsAnswered c me i text) past

-- Nor is one where the event goes on with nothing.
abbrev pub DropsAreLeft : Type 0
DropsAreLeft =
    (c : Configuration) (me i : ℕ) (past : List Entry) (bytes : List ℕ)
    → took c me None (Got me bytes ∷ past) i ≡ took c me None past i

-- A fetch tells for what number its event goes on; all else that is sent tells nothing; a tick takes nothing.
abbrev pub FetchesTell : Type 0
FetchesTell =
    (c : Configuration) (me k index i : ℕ) (level : Level) (next : Option ℕ) (past : List Entry) (bytes : List ℕ)
    → said bytes ≡ Some (record { sender = me; message = Fetch k level index })
    → took c me next (Sent me bytes ∷ past) i ≡ took c me (Some k) past i

abbrev pub OutputsTellNothing : Type 0
OutputsTellNothing =
    (c : Configuration) (me p i : ℕ) (next : Option ℕ) (past : List Entry) (bytes : List ℕ)
    → option_and_then place_from (said bytes) ≡ None
    → took c me next (Sent p bytes ∷ past) i ≡ took c me next past i

abbrev pub TicksTakeNothing : Type 0
TicksTakeNothing =
    (c : Configuration) (me p i : ℕ) (next : Option ℕ) (past : List Entry)
    → took c me next (Tick p ∷ past) i ≡ took c me None past i

-- A transfer ends where a state is installed, and where its number is executed, and not before.
abbrev pub InstallationsEnd : Type 0
InstallationsEnd =
    (c : Configuration) (me r n i : ℕ) (next : Option ℕ) (root : List ℕ) (past : List Entry)
    → took c me next (Installed r n root ∷ past) i ≡ None

abbrev pub ExecutionsEnd : Type 0
ExecutionsEnd =
    (c : Configuration) (me r n i : ℕ) (next : Option ℕ) (batch : List ℕ) (past : List Entry) → fetching past ≤ n
    → took c me next (Executed r n batch ∷ past) i ≡ None

abbrev pub ExecutionsLeave : Type 0
ExecutionsLeave =
    (c : Configuration) (me r n i : ℕ) (next : Option ℕ) (batch : List ℕ) (past : List Entry) → n < fetching past
    → took c me next (Executed r n batch ∷ past) i ≡ took c me next past i
