-- What the premises of the laws leave open: each is met wherever the system model meets it, and says no more
-- (Castro and Liskov, TOCS 2002, on the system model).
use Rattle.std.specs.Prelude.{◌≡◌, ◌≢◌, ◌↔◌, ℕ, suc, ◌+◌, ◌<◌, ◌⊎◌, Bool, true, false, not, List, [], ◌∷◌, length, Option, Some, None, ⊤, All, AllPairs}
use Rattle.std.specs.List.{concat}
use Rattle.std.specs.Option.{option_map_or}
use Rattle.terms.specs.Parties.{client_party}
use Rattle.terms.specs.declared.parties.TheConstants.{MAX_CLIENTS}
use Rattle.tuple_codec.specs.Operations.{Operation, IsOperation}
use Rattle.partition_tree.specs.Digests.{inner_digests, page_digests}
use Rattle.wire_format.specs.Messages.{BodyData as Body, MessageData as Message, pre_prepare as PrePrepare, new_view as NewView, meta as Meta, page as Page}
use Rattle.protocol.specs.System.Configuration.{Configuration, IsConfiguration, replicas, is_correct_replica, is_correct_client, is_correct, primary, members, signers}
use Rattle.wire_format.specs.Words.{said}
use Rattle.signing.specs.AuthenticBody.{authentic, signed_body}
use Rattle.signing.specs.Publics.{derived_publics}
use Rattle.protocol.specs.System.Trace.{Entry, history_of, Once, Always, Has, frames_in, SendsBody, Unforged}
use Rattle.protocol.specs.System.Trace.Entry.{Invoke, Got, Tick, Executed, Installed, Sent}
use Rattle.protocol.specs.Replica.Selection.{null_batch}
use Rattle.protocol.specs.Replica.State.{opening, page_text, pages_of}
use Rattle.protocol.specs.Replica.RightReplica.{SafeReplica}
use Rattle.protocol.specs.System.Texts.{IsText}
use Rattle.protocol.specs.Client.RightClient.{open_call, last_call, IsClient}
use Rattle.protocol.specs.Replica.Owed.{IsReplica}
use Rattle.protocol.specs.System.Run.{IsRun}
use Rattle.wire_format.specs.Lists.{Each}

-- ---- configurations

-- Ten replicas of which any three are faulty, 256 clients of which any are, and the longest period.
abbrev pub widest : (seed faulty_replicas faulty_clients : List ℕ) → Configuration
widest seed faulty_replicas faulty_clients =
    record {
      faults = 3;
      clients = 256;
      seed = seed;
      publics = derived_publics seed 3;
      period = 16;
      faulty_replicas = faulty_replicas;
      faulty_clients = faulty_clients;
    }

abbrev pub WidestIsValid : Type 0
WidestIsValid =
    (seed faulty_replicas faulty_clients : List ℕ) → length seed ≡ 32
    → length faulty_replicas ≡ 3 → All (λ r. r < 10) faulty_replicas → AllPairs (λ r s. r ≢ s) faulty_replicas
    → All (λ k. k < MAX_CLIENTS) faulty_clients → AllPairs (λ k l. k ≢ l) faulty_clients
    → IsConfiguration (widest seed faulty_replicas faulty_clients)

-- Four replicas and one client, none of them faulty, and the shortest period.
abbrev pub narrowest : List ℕ → Configuration
narrowest seed =
    record {
      faults = 1;
      clients = 1;
      seed = seed;
      publics = derived_publics seed 1;
      period = 1;
      faulty_replicas = [];
      faulty_clients = [];
    }

abbrev pub NarrowestIsValid : Type 0
NarrowestIsValid = (seed : List ℕ) → length seed ≡ 32 → IsConfiguration (narrowest seed)

-- ---- who is correct

-- A replica is correct exactly if it is none of the faulty ones,
abbrev pub ReplicasAreCorrect : Type 0
ReplicasAreCorrect =
    (c : Configuration) (r : ℕ)
    → (is_correct_replica c r ≡ true) ↔ ((r < replicas c) × (Has (λ s. s ≡ r) c.faulty_replicas → ⊥))

-- and so is a client;
abbrev pub ClientsAreCorrect : Type 0
ClientsAreCorrect =
    (c : Configuration) (k : ℕ)
    → (is_correct_client c (client_party k) ≡ true) ↔ ((k < c.clients) × (Has (λ l. l ≡ k) c.faulty_clients → ⊥))

-- a correct party is one of the two.
abbrev pub CorrectAreBoth : Type 0
CorrectAreBoth =
    (c : Configuration) (p : ℕ)
    → (is_correct c p ≡ true) ↔
    ((is_correct_replica c p ≡ true) ⊎ ((k : ℕ) × (p ≡ client_party k) × (is_correct_client c (client_party k) ≡ true)))

-- ---- primaries

-- Each replica is the primary of the view of its own number,
abbrev pub EachIsPrimary : Type 0
EachIsPrimary = (c : Configuration) (r : ℕ) → r < replicas c → primary c r ≡ r

-- and again as many views later as there are replicas.
abbrev pub PrimariesReturn : Type 0
PrimariesReturn = (c : Configuration) (view : ℕ) → primary c (view + replicas c) ≡ primary c view

-- ---- runs

-- In a run each correct replica's history is all that a correct replica's is,
abbrev pub RunsHaveReplicas : Type 0
RunsHaveReplicas =
    (c : Configuration) (trace : List Entry) → IsRun c trace → (p : ℕ) → is_correct_replica c p ≡ true
    → IsReplica c p (history_of p trace)

-- and each correct client's a correct client's.
abbrev pub RunsHaveClients : Type 0
RunsHaveClients =
    (c : Configuration) (trace : List Entry) → IsRun c trace → (p : ℕ) → is_correct_client c p ≡ true
    → IsClient c p (history_of p trace)

-- Whatever a correct party gets, and whenever it is ticked, the trace is a run still: the party may have stopped.
abbrev pub RunsGoOn : Type 0
RunsGoOn =
    (c : Configuration) (trace : List Entry) → IsRun c trace → (p : ℕ) → is_correct c p ≡ true
    → IsRun c (Tick p ∷ trace) × ((bytes : List ℕ) → IsRun c (Got p bytes ∷ trace))

-- A safe replica takes them too, and goes on.
abbrev pub ReplicasGoOn : Type 0
ReplicasGoOn =
    (c : Configuration) (me : ℕ) (past : List Entry) → SafeReplica c me past
    → SafeReplica c me (Tick me ∷ past) × ((bytes : List ℕ) → SafeReplica c me (Got me bytes ∷ past))

-- The trace is a run still if a correct client with no open call invokes any operation within the limits.
abbrev pub RunsTakeCalls : Type 0
RunsTakeCalls =
    (c : Configuration) → IsConfiguration c → (trace : List Entry) → IsRun c trace → (k : ℕ) (op : Operation)
    → is_correct_client c (client_party k) ≡ true
    → IsOperation op → open_call (history_of (client_party k) trace) ≡ None
    → IsRun c (Invoke k (suc (last_call (history_of (client_party k) trace))) op ∷ trace)

-- ---- bytes that a party may receive in an unforged trace

-- Each entry but one in which a party gets bytes leaves a trace unforged.
abbrev pub OthersAreUnforged : Type 0
OthersAreUnforged =
    (c : Configuration) (e : Entry) (trace : List Entry) → Unforged c trace
    → ((p : ℕ) (bytes : List ℕ) → e ≢ Got p bytes) → Unforged c (e ∷ trace)

-- No body, or one of a sender that is faulty, or that sent it.
abbrev pub MayBeTaken : Configuration → List Entry → Option Body → Type 0
MayBeTaken c past None = ⊤
MayBeTaken c past (Some body) = (is_correct c body.sender ≡ false) ⊎ Once (SendsBody body) past

-- Each body that the party receives from the frame, or that the frame carries signed, is such.
abbrev pub MayBeGot : Configuration → ℕ → List Entry → List ℕ → Type 0
MayBeGot c me past bytes =
    MayBeTaken c past (authentic (members c me) me bytes) × MayBeTaken c past (signed_body (signers c) bytes)

-- Frames of which each may be got, any party may get,
abbrev pub FramesMayBeGot : Type 0
FramesMayBeGot =
    (c : Configuration) (me : ℕ) (bytes : List ℕ) (trace : List Entry) → Unforged c trace
    → Each (MayBeGot c me trace) (frames_in bytes)
    → Unforged c (Got me bytes ∷ trace)

-- and a faulty one any bytes.
abbrev pub FaultyReceiveAnything : Type 0
FaultyReceiveAnything =
    (c : Configuration) (me : ℕ) (bytes : List ℕ) (trace : List Entry) → Unforged c trace → is_correct c me ≡ false
    → Unforged c (Got me bytes ∷ trace)

-- ---- the texts whose digests must differ

-- The opening state's pages, and the digests under its root.
abbrev pub IsOpeningText : List ℕ → Type 0
IsOpeningText text =
    ((i : ℕ) × (text ≡ page_text opening i))
    ⊎ ((text ≡ concat (inner_digests (pages_of opening)))
    ⊎ ((j : ℕ) × (j < 32) × (text ≡ concat (page_digests (pages_of opening) j))))

-- The message has the text: its batch, one of its batches, or its digests one after another.
abbrev pub HasText : List ℕ → Message → Type 0
HasText text message = elim message [
  | PrePrepare view number batch ↦ batch ≡ text
  | NewView new ↦ Has (λ x. x ≡ text) new.batches
  | Meta number level index digests ↦ concat digests ≡ text
  | _ ↦ ⊥
]

abbrev pub SaysText : List ℕ → List ℕ → Type 0
SaysText text bytes = (body : Body) × (said bytes ≡ Some body) × HasText text body.message

-- A party receives or sends a frame that says the text.
abbrev pub BringsText : List ℕ → List Entry → Entry → Type 0
BringsText text past (Got p bytes) = SaysText text bytes
BringsText text past (Sent p bytes) = SaysText text bytes
BringsText text past _ = ⊥

abbrev pub is_page : Body → Bool
is_page body = elim body.message [ Page number index text ↦ true | _ ↦ false ]

-- The entry is no execution and no installation, and no party receives a page.
abbrev pub is_quiet : Entry → Bool
is_quiet e = elim e [
  | Got p bytes ↦ not (option_map_or is_page (said bytes) false)
  | Executed r number batch ↦ false
  | Installed r number root ↦ false
  | _ ↦ true
]

-- As long as all entries are such there are only the null batch, the opening state's texts, and what frames bring.
abbrev pub TextsAreFew : Type 0
TextsAreFew =
    (c : Configuration) (trace : List Entry) (text : List ℕ) → Always (λ past e. is_quiet e ≡ true) trace
    → IsText c trace text
    → (text ≡ null_batch) ⊎ (IsOpeningText text ⊎ Once (BringsText text) trace)
