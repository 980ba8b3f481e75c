-- A quorum of checkpoints above the executed number starts a transfer, and so does a new view that starts there. The
-- replica fetches the root in the event that completes the quorum, or takes the new view (Castro and Liskov, TOCS 2002,
-- on state transfer).
use Rattle.std.specs.Prelude.{◌≡◌, ℕ, ◌≤◌, ◌<◌, ◌⊎◌, true, false, List, [], ◌∷◌, filter, nat_lt, Some, None}
use Rattle.terms.specs.declared.state.Level.TheVariants as levels
use Rattle.wire_format.specs.Messages.{MessageData as Message, CheckpointEntryData as CheckpointEntry, fetch as Fetch}
use Rattle.protocol.specs.System.Configuration.{Configuration}
use Rattle.protocol.specs.System.Trace.{Entry, Once, Has}
use Rattle.protocol.specs.Replica.Certificates.{checkpoint_in, checkpoints_of, count_checkpoints}
use Rattle.protocol.specs.Replica.Transfers.{fetching}
use Rattle.protocol.specs.Replica.Owed.{IsSending, SendsMessage, StartsAhead, has_number}
use Rattle.replica_histories.specs.Running.{Start, after_outputs, IsOnItsWay}
use Rattle.replica_histories.specs.Transfers.{HasQuorum}

-- An entry brings a checkpoint of this number and root that counts: it is its sender's first of the number, and the
-- sender has no three greater ones.
pub record BringsRoot (c : Configuration) (past : List Entry) (e : Entry) (k : ℕ) (root : List ℕ) : Type 0 where
  pub sender : ℕ
  pub brings : checkpoint_in c e ≡ Some (sender, record { number = k; digest = root })
  pub first : has_number k (checkpoints_of c past sender) ≡ false
  pub kept : has_number k (checkpoints_of c (e ∷ past) sender) ≡ true

-- The state of the number is to be fetched: a quorum of checkpoints has this root for it, or a new view started there,
-- above the fetched number then.
abbrev pub IsToFetch : Configuration → List Entry → ℕ → List ℕ → Type 0
IsToFetch c history k root = HasQuorum c history k root ⊎ Once (StartsAhead c k) history

-- Between events: such a state above the executed number was fetched, or one above it.
abbrev pub QuorumsFetched : Configuration → ℕ → List Entry → Type 0
QuorumsFetched c number history =
    (k : ℕ) (root : List ℕ) → IsToFetch c history k root → number < k → k ≤ fetching history

-- Within an event: such a state was fetched before, or the event has sent the fetch of its root, or that fetch is due.
abbrev pub FetchesQuorums : Configuration → ℕ → Start → ℕ → List Message → List Entry → Type 0
FetchesQuorums c me s number due outputs =
    (k : ℕ) (root : List ℕ) → IsToFetch c (after_outputs s outputs) k root → number < k
    → (k ≤ fetching s.before) ⊎ IsOnItsWay me due outputs (Fetch k levels.Root 0)

-- ---- laws

-- An entry can complete a quorum only for the checkpoint that it brings, and only if that counts.
abbrev pub QuorumsGrow : Type 0
QuorumsGrow =
    (c : Configuration) (past : List Entry) (e : Entry) (k : ℕ) (root : List ℕ)
    → HasQuorum c (e ∷ past) k root → HasQuorum c past k root ⊎ BringsRoot c past e k root

-- An entry that brings no checkpoint leaves all counts.
abbrev pub CountsStay : Type 0
CountsStay =
    (c : Configuration) (past : List Entry) (e : Entry) (checkpoint : CheckpointEntry) → checkpoint_in c e ≡ None
    → count_checkpoints c (e ∷ past) checkpoint ≡ count_checkpoints c past checkpoint

-- Nor does one count, above a mark, if it leaves each sender's checkpoints above the mark.
abbrev pub UnchangedBringNone : Type 0
UnchangedBringNone =
    (c : Configuration) (mark : ℕ) (past : List Entry) (e : Entry) (k : ℕ) (root : List ℕ)
    → ((s : ℕ) → filter (λ m. nat_lt mark m.number) (checkpoints_of c (e ∷ past) s)
    ≡ filter (λ m. nat_lt mark m.number) (checkpoints_of c past s))
    → BringsRoot c past e k root → k ≤ mark

-- At first there is no quorum.
abbrev pub QuorumsFirst : Type 0
QuorumsFirst = (c : Configuration) (number : ℕ) → QuorumsFetched c number []

-- An entry keeps this under two conditions. The state of a quorum that it completes is fetched, and so is the state at
-- the start of a new view that it takes.
abbrev pub QuorumsStay : Type 0
QuorumsStay =
    (c : Configuration) (number later : ℕ) (past : List Entry) (e : Entry) → number ≤ later
    → ((k : ℕ) (root : List ℕ) → BringsRoot c past e k root → HasQuorum c (e ∷ past) k root → later < k
    → k ≤ fetching (e ∷ past))
    → ((k : ℕ) → StartsAhead c k past e → later < k → k ≤ fetching (e ∷ past))
    → QuorumsFetched c number past → QuorumsFetched c later (e ∷ past)

-- An input begins an event so under two conditions. The fetch is due for a quorum that it completes, and for the start
-- of a new view that it brings.
abbrev pub QuorumsBegin : Type 0
QuorumsBegin =
    (c : Configuration) (me : ℕ) (s : Start) (number : ℕ) (due : List Message) → QuorumsFetched c number s.before
    → ((k : ℕ) (root : List ℕ) → BringsRoot c s.before s.input k root → HasQuorum c (s.input ∷ s.before) k root
    → number < k → (k ≤ fetching s.before) ⊎ Has (λ x. x ≡ Fetch k levels.Root 0) due)
    → ((k : ℕ) → StartsAhead c k s.before s.input → number < k → Has (λ x. x ≡ Fetch k levels.Root 0) due)
    → FetchesQuorums c me s number due []

-- An output keeps this under three conditions. A checkpoint that it brings is at or below the executed number. The
-- fetch of the start of a new view that it sends is due. Each message that is due no more is the one that it sends.
abbrev pub QuorumsGoOn : Type 0
QuorumsGoOn =
    (c : Configuration) (me : ℕ) (s : Start) (number later : ℕ) (due rest : List Message) (outputs : List Entry)
    (e : Entry)
    → number ≤ later → ((k : ℕ) (root : List ℕ) → BringsRoot c (after_outputs s outputs) e k root → k ≤ later)
    → ((k : ℕ) → StartsAhead c k (after_outputs s outputs) e → later < k → Has (λ x. x ≡ Fetch k levels.Root 0) rest)
    → ((message : Message) → Has (λ x. x ≡ message) due → Has (λ x. x ≡ message) rest ⊎ IsSending me message e)
    → FetchesQuorums c me s number due outputs → FetchesQuorums c me s later rest (e ∷ outputs)

-- If nothing is due any more, all is fetched; and if nothing so high was fetched before, the event sent the fetch.
abbrev pub QuorumsEnd : Type 0
QuorumsEnd =
    (c : Configuration) (me : ℕ) (s : Start) (number : ℕ) (outputs : List Entry)
    → FetchesQuorums c me s number [] outputs
    → QuorumsFetched c number (after_outputs s outputs)
    × ((k : ℕ) (root : List ℕ) → IsToFetch c (after_outputs s outputs) k root → number < k → fetching s.before < k
    → SendsMessage me (Fetch k levels.Root 0) outputs)
