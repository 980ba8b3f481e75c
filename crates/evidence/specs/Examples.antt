-- Small histories that the definitions accept, with frames left symbolic: their spelling and their authenticity are
-- given.
use Rattle.std.specs.Prelude.{◌≡◌, ◌≢◌, ℕ, true, false, List, [], ◌∷◌, Some}
use Rattle.terms.specs.Parties.{client_party}
use Rattle.sha2.specs.Sha256.{sha256}
use Rattle.tuple_codec.specs.Operations.{Operation, IsOperation}
use Rattle.protocol.specs.System.Configuration.{Configuration, IsConfiguration, is_correct_client, members}
use Rattle.wire_format.specs.Messages.{FrameData as Frame, ViewChangeData, pre_prepare as PrePrepare, prepare as Prepare, commit as Commit}
use Rattle.signing.specs.AuthenticBody.{authentic}
use Rattle.signing.specs.Publics.{derived_publics}
use Rattle.wire_format.specs.Words.{frame_of, said, receivers_of}
use Rattle.protocol.specs.System.Frames.{IsSealed}
use Rattle.protocol.specs.System.Trace.{Entry}
use Rattle.protocol.specs.System.Trace.Entry.{Invoke, Got, Executed, Sent}
use Rattle.protocol.specs.Replica.Selection.{null_batch, signed_change, may_select}
use Rattle.protocol.specs.Replica.Certificates.{are_genuine, Committed}
use Rattle.protocol.specs.Replica.RightReplica.{SafeReplica, others}
use Rattle.protocol.specs.Client.RightClient.{IsRequest, first_mode}
use Rattle.protocol.specs.System.Run.{IsRun}

-- four replicas, none of them faulty
abbrev pub four : ℕ → List ℕ → Configuration
four clients seed =
    record {
      faults = 1;
      clients = clients;
      seed = seed;
      publics = derived_publics seed 1;
      period = 16;
      faulty_replicas = [];
      faulty_clients = [];
    }

-- What replica 1 gets and sends for the first batch in view 0: the primary's pre-prepare, prepares of 1 and 2, and
-- commits of 1, 0 and 2.
pub record IsFirstBatch (c : Configuration)
    (batch pre_prepare own_prepare other_prepare own_commit first_commit second_commit : List ℕ) : Type 0 where
  pub proposed : authentic (members c 1) 1 pre_prepare ≡ Some (record { sender = 0; message = PrePrepare 0 1 batch })
  pub genuine : are_genuine c 1 batch ≡ true
  pub prepares : said own_prepare ≡ Some (record { sender = 1; message = Prepare 0 1 (sha256 batch) })
  pub other_prepares : authentic (members c 1) 1 other_prepare
      ≡ Some (record { sender = 2; message = Prepare 0 1 (sha256 batch) })
  pub commits : said own_commit ≡ Some (record { sender = 1; message = Commit 0 1 (sha256 batch) })
  pub first_commits : authentic (members c 1) 1 first_commit
      ≡ Some (record { sender = 0; message = Commit 0 1 (sha256 batch) })
  pub second_commits : authentic (members c 1) 1 second_commit
      ≡ Some (record { sender = 2; message = Commit 0 1 (sha256 batch) })
  pub prepare_sealed : (frame : Frame) → frame_of own_prepare ≡ Some frame
      → IsSealed c frame × (receivers_of frame.authenticator ≡ others c 1)
  pub commit_sealed : (frame : Frame) → frame_of own_commit ≡ Some frame
      → IsSealed c frame × (receivers_of frame.authenticator ≡ others c 1)

-- its history, the newest first, up to the quorum of commits
abbrev pub history_of_first_batch :
    (pre_prepare own_prepare other_prepare own_commit first_commit second_commit : List ℕ) → List Entry
history_of_first_batch pre_prepare own_prepare other_prepare own_commit first_commit second_commit =
    Got 1 second_commit ∷ Got 1 first_commit ∷ Sent 1 own_commit ∷ Got 1 other_prepare ∷ Sent 1 own_prepare
    ∷ Got 1 pre_prepare ∷ []

-- Then the batch is committed, and a right replica executes it.
abbrev pub FirstBatchExecutes : Type 0
FirstBatchExecutes =
    (clients : ℕ) (seed batch pre_prepare own_prepare other_prepare own_commit first_commit second_commit : List ℕ)
    → IsFirstBatch (four clients seed) batch pre_prepare own_prepare other_prepare own_commit first_commit second_commit
    → Committed (four clients seed) 1
    (history_of_first_batch pre_prepare own_prepare other_prepare own_commit first_commit second_commit) 0 1 batch
    × SafeReplica (four clients seed) 1
    (Executed 1 1 batch
    ∷ history_of_first_batch pre_prepare own_prepare other_prepare own_commit first_commit second_commit)

-- A trace in which a correct client has invoked an operation and asked all replicas for it, and nothing has come yet,
-- is a run.
abbrev pub FirstCallIsRun : Type 0
FirstCallIsRun =
    (c : Configuration) → IsConfiguration c → (k : ℕ) (op : Operation) (request : List ℕ)
    → is_correct_client c (client_party k) ≡ true → IsOperation op
    → IsRequest c (client_party k) (first_mode op) (record { timestamp = 1; op = op }) request
    → IsRun c (Sent (client_party k) request ∷ Invoke k 1 op ∷ [])

-- ---- over a view change

-- the view change for view 1 of each of three replicas that hold the first batch prepared in view 0
abbrev pub holding : List ℕ → List ℕ → ViewChangeData
holding batch root = record {
  view = 1;
  low = 0;
  checkpoints = record { number = 0; digest = root } ∷ [];
  prepared = record { number = 1; digest = sha256 batch; view = 0 } ∷ [];
  pre_prepared = record { number = 1; digest = sha256 batch; view = 0 } ∷ [];
}

-- The new view over their view changes that starts at 0 and has the batch for number 1 meets the rules.
abbrev pub PreparedIsSelected : Type 0
PreparedIsSelected =
    (clients : ℕ) (seed batch root a b d : List ℕ)
    → signed_change (four clients seed) a ≡ Some (1, holding batch root)
    → signed_change (four clients seed) b ≡ Some (2, holding batch root)
    → signed_change (four clients seed) d ≡ Some (3, holding batch root)
    → may_select (four clients seed)
    (record { view = 1; changes = a ∷ b ∷ d ∷ []; start = 0; root = root; batches = batch ∷ [] }) ≡ true

-- Without a batch for that number it does not.
abbrev pub EmptyIsNotSelected : Type 0
EmptyIsNotSelected =
    (clients : ℕ) (seed batch root a b d : List ℕ)
    → signed_change (four clients seed) a ≡ Some (1, holding batch root)
    → signed_change (four clients seed) b ≡ Some (2, holding batch root)
    → signed_change (four clients seed) d ≡ Some (3, holding batch root)
    → may_select (four clients seed)
    (record { view = 1; changes = a ∷ b ∷ d ∷ []; start = 0; root = root; batches = [] }) ≡ false

-- Nor with the null batch there, if its digest is another.
abbrev pub NullIsNotSelected : Type 0
NullIsNotSelected =
    (clients : ℕ) (seed batch root a b d : List ℕ) → sha256 batch ≢ sha256 null_batch
    → signed_change (four clients seed) a ≡ Some (1, holding batch root)
    → signed_change (four clients seed) b ≡ Some (2, holding batch root)
    → signed_change (four clients seed) d ≡ Some (3, holding batch root)
    → may_select (four clients seed)
    (record { view = 1; changes = a ∷ b ∷ d ∷ []; start = 0; root = root; batches = null_batch ∷ [] }) ≡ false

-- Replica 3 lies: it lists another batch as prepared. Over its view change and those of two that tell the truth
-- neither batch is selected; with a third that tells the truth the prepared one is.
abbrev pub LieIsNotSelected : Type 0
LieIsNotSelected =
    (clients : ℕ) (seed batch lie root a b d : List ℕ) → sha256 batch ≢ sha256 lie
    → signed_change (four clients seed) a ≡ Some (1, holding batch root)
    → signed_change (four clients seed) b ≡ Some (2, holding batch root)
    → signed_change (four clients seed) d ≡ Some (3, holding lie root)
    → may_select (four clients seed)
    (record { view = 1; changes = a ∷ b ∷ d ∷ []; start = 0; root = root; batches = lie ∷ [] }) ≡ false

abbrev pub TruthWaits : Type 0
TruthWaits =
    (clients : ℕ) (seed batch lie root a b d : List ℕ) → sha256 batch ≢ sha256 lie
    → signed_change (four clients seed) a ≡ Some (1, holding batch root)
    → signed_change (four clients seed) b ≡ Some (2, holding batch root)
    → signed_change (four clients seed) d ≡ Some (3, holding lie root)
    → may_select (four clients seed)
    (record { view = 1; changes = a ∷ b ∷ d ∷ []; start = 0; root = root; batches = batch ∷ [] }) ≡ false

abbrev pub TruthIsSelected : Type 0
TruthIsSelected =
    (clients : ℕ) (seed batch lie root a b d e : List ℕ) → sha256 batch ≢ sha256 lie
    → signed_change (four clients seed) e ≡ Some (0, holding batch root)
    → signed_change (four clients seed) a ≡ Some (1, holding batch root)
    → signed_change (four clients seed) b ≡ Some (2, holding batch root)
    → signed_change (four clients seed) d ≡ Some (3, holding lie root)
    → may_select (four clients seed)
    (record { view = 1; changes = e ∷ a ∷ b ∷ d ∷ []; start = 0; root = root; batches = batch ∷ [] }) ≡ true
