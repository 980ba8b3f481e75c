-- Entries beside ordering: they bring nothing that counts.
use Rattle.std.specs.Prelude.{◌≡◌, ℕ, List, [], ◌∷◌, Some, None, option_and_then, ⊤}
use Rattle.wire_format.specs.Words.{said}
use Rattle.protocol.specs.Replica.RightReplica.{HasSeen}
use Rattle.wire_format.specs.Messages.{BodyData as Body, MessageData as Message, request as Request, reply as Reply}
use Rattle.protocol.specs.System.Configuration.{Configuration}
use Rattle.protocol.specs.System.Trace.{Entry}
use Rattle.protocol.specs.Replica.Certificates.{view, target, low, logged, prepare_of, commit_of, checkpoints_of, brought, new_view_in, change_sent, checkpoint_in, installed_at, batch_from, prepare_from, commit_from, change_at, latest_change}
use Rattle.protocol.specs.Replica.Transfers.{fetch_sent, fetching, asked_last}
use Rattle.protocol.specs.Replica.Owed.{IsSending}
use Rattle.protocol.specs.System.Reads.{without_reads}

-- requests and replies order nothing
abbrev pub OrdersNothing : Message → Type 0
OrdersNothing message = elim message [ Request t mode op ↦ ⊤ | Reply client t mode number answer ↦ ⊤ | _ ↦ ⊥ ]

-- nothing that the entry brings counts
pub record BringsNothing (c : Configuration) (me : ℕ) (e : Entry) : Type 0 where
  pub view : new_view_in c e ≡ None
  pub change : change_sent e ≡ 0
  pub checkpoint : checkpoint_in c e ≡ None
  pub installed : installed_at e ≡ 0
  pub batch : (v i : ℕ) → option_and_then (batch_from c me v i) (brought c e) ≡ None
  pub prepare : (s v i : ℕ) → option_and_then (prepare_from c s v i) (brought c e) ≡ None
  pub commit : (s v i : ℕ) → option_and_then (commit_from s v i) (brought c e) ≡ None
  pub fetch : fetch_sent e ≡ 0
  pub asked : (past : List Entry) → asked_last (e ∷ past) ≡ asked_last past
  pub latest : (past : List Entry) (s : ℕ) → change_at c past e s ≡ 0
  pub says : (message : Message) → IsSending me message e → OrdersNothing message
  pub seen : (past : List Entry) (frame : List ℕ) (body : Body) → HasSeen frame past e → said frame ≡ Some body
      → OrdersNothing body.message

-- the first history is the second without some idle entries
pub data LeavesOut (c : Configuration) (me : ℕ) : List Entry → List Entry → Type 0 where
  none : LeavesOut c me [] []
  both : (e : Entry) (g h : List Entry) → LeavesOut c me g h → LeavesOut c me (e ∷ g) (e ∷ h)
  beside : (e : Entry) (g h : List Entry) → BringsNothing c me e → LeavesOut c me g h → LeavesOut c me g (e ∷ h)

-- both histories certify the same
pub record CertifySame (c : Configuration) (me : ℕ) (g h : List Entry) : Type 0 where
  pub target : target h ≡ target g
  pub view : view c h ≡ view c g
  pub checkpoints : (s : ℕ) → checkpoints_of c h s ≡ checkpoints_of c g s
  pub low : low c me h ≡ low c me g
  pub logged : (v i : ℕ) → logged c me h v i ≡ logged c me g v i
  pub prepares : (v i s : ℕ) → prepare_of c me h v i s ≡ prepare_of c me g v i s
  pub commits : (v i s : ℕ) → commit_of c me h v i s ≡ commit_of c me g v i s
  pub fetching : fetching h ≡ fetching g
  pub asked : asked_last h ≡ asked_last g
  pub latest : (s : ℕ) → latest_change c h s ≡ latest_change c g s

-- ---- laws

-- A history without its reads leaves out idle entries.
abbrev pub ReadsAreIdle : Type 0
ReadsAreIdle = (c : Configuration) (me : ℕ) (history : List Entry) → LeavesOut c me (without_reads history) history

-- A history and the one without some idle entries certify the same.
abbrev pub WordsStay : Type 0
WordsStay = (c : Configuration) (me : ℕ) (g h : List Entry) → LeavesOut c me g h → CertifySame c me g h
