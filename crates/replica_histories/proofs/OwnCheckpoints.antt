-- The latest checkpoint of the replica's own: which entries leave it, and that a new one becomes it.
use Rattle.std.proofs.Common.{◌≡◌, ◌≢◌, ℕ, ◌≤◌, Bool, true, false, cond, List, [], ◌∷◌, Option, Some, None, slice_get, take, refl, sym, ap, ◌∙◌, subst, arith}
use Rattle.std.specs.Prelude.{◌==◌, nat_lt, option_and_then}
use Rattle.std.specs.Bool.{then_some}
use Rattle.std.proofs.lemmas.Bool.{eq-eqb, ne_eqb, eqb-true, eqb-false, ltb-false}
use Rattle.std.proofs.lemmas.Slice.Eq.{bytes_eq-Decides}
use Rattle.wire_format.specs.Messages.{BodyData as Body, MessageData as Message, CheckpointEntryData as CheckpointEntry, checkpoint as Checkpoint}
use Rattle.wire_format.specs.Words.{said}
use Rattle.signing.specs.AuthenticBody.{authentic}
use Rattle.protocol.specs.System.Configuration.{Configuration, is_number, members}
use Rattle.protocol.specs.System.Trace.{Entry, Has}
use Rattle.protocol.specs.System.Trace.Entry.{Got, Sent}
use Rattle.protocol.specs.Replica.Certificates.{checkpoint_from, checkpoint_in, insert_checkpoint, with_checkpoint, checkpoints_of, lists_checkpoint}
use Rattle.protocol.specs.Replica.State.{State, root_of}
use Rattle.protocol.specs.Replica.RightReplica.{MayCheckpoint}
use Rattle.protocol.specs.Replica.Owed.{latest_checkpoint}
use Rattle.protocol.proofs.Words.Options.{some_injective}
use Rattle.protocol.proofs.Words.Elements.{has_some}
use Rattle.replica_histories.specs.Changes.{CheckpointsAreLatest}
use Rattle.replica_histories.proofs.Speaking.{heard_other}
use Rattle.replica_histories.proofs.Checking.{own_said, said_may, said_listed}
use Rattle.replica_histories.proofs.TransfersAnswering.{Distinct, distinct}

-- ---- entries that leave it

pub none_first : (c : Configuration) (me : ℕ) → latest_checkpoint c me [] ≡ None
unfolding checkpoints_of
none_first c me = refl

-- an entry without a checkpoint
pub none_later : (c : Configuration) (me : ℕ) (past : List Entry) (e : Entry) → checkpoint_in c e ≡ None → latest_checkpoint c me (e ∷ past) ≡ latest_checkpoint c me past
unfolding checkpoints_of
none_later c me past e none = ap (λ (o : Option (ℕ × CheckpointEntry)). slice_get (with_checkpoint me o (checkpoints_of c past me)) 0) none

-- a checkpoint of others
of_other : (me sender : ℕ) (message : Message) (checkpoints : List CheckpointEntry) → sender ≢ me → with_checkpoint me (checkpoint_from (record { sender = sender; message = message })) checkpoints ≡ checkpoints
of_other me sender (Checkpoint number root) checkpoints other = go (is_number number)
  where
    go : (b : Bool) → with_checkpoint me (then_some b (let y : ℕ × CheckpointEntry = (sender, record { number = number; digest = root }) in y)) checkpoints ≡ checkpoints
    go true = rw (ne_eqb sender me other) refl
    go false = refl
of_other me sender _ checkpoints other = refl

-- received bytes
pub got_later : (c : Configuration) (me : ℕ) (past : List Entry) (bytes : List ℕ) → latest_checkpoint c me (Got me bytes ∷ past) ≡ latest_checkpoint c me past
unfolding checkpoints_of
got_later c me past bytes = go (authentic (members c me) me bytes) refl
  where
    go : (o : Option Body) → authentic (members c me) me bytes ≡ o
        → slice_get (with_checkpoint me (option_and_then checkpoint_from o) (checkpoints_of c past me)) 0 ≡ slice_get (checkpoints_of c past me) 0
    go None is = refl
    go (Some body) is = ap (λ (ms : List CheckpointEntry). slice_get ms 0) (of_other me body.sender body.message (checkpoints_of c past me) (heard_other c me bytes body is))

-- the latest, sent again
first_stays : (entry : CheckpointEntry) (ms : List CheckpointEntry) → slice_get ms 0 ≡ Some entry → slice_get (take 3 (insert_checkpoint entry ms)) 0 ≡ slice_get ms 0
first_stays entry [] is = absurd cc
first_stays entry (m ∷ ms) is =
    let same : m ≡ entry = some_injective m entry is in
    rw (eq-eqb m.number entry.number (ap (λ (x : CheckpointEntry). x.number) same)) refl

-- whether a sent message is no checkpoint, or the latest one
abbrev pub IsNoLater : Configuration → ℕ → List Entry → Message → Type 0
IsNoLater c me past message =
    (k : ℕ) (root : List ℕ) → message ≡ Checkpoint k root → latest_checkpoint c me past ≡ Some (record { number = k; digest = root })

pub sent_later : (c : Configuration) (me : ℕ) (past : List Entry) (bytes : List ℕ) (message : Message) → said bytes ≡ Some (record { sender = me; message = message }) → IsNoLater c me past message
    → latest_checkpoint c me (Sent me bytes ∷ past) ≡ latest_checkpoint c me past
unfolding checkpoints_of
sent_later c me past bytes message says news =
    ap (λ (o : Option Body). slice_get (with_checkpoint me (option_and_then checkpoint_from o) (checkpoints_of c past me)) 0) says ∙ of message news
  where
    of : (m : Message) → IsNoLater c me past m → slice_get (with_checkpoint me (checkpoint_from (record { sender = me; message = m })) (checkpoints_of c past me)) 0 ≡ slice_get (checkpoints_of c past me) 0
    of (Checkpoint k root) is = go (is_number k)
      where
        go : (b : Bool) → slice_get (with_checkpoint me (then_some b (let y : ℕ × CheckpointEntry = (me, record { number = k; digest = root }) in y)) (checkpoints_of c past me)) 0 ≡ slice_get (checkpoints_of c past me) 0
        go true = rw (eq-eqb me me refl) (first_stays (record { number = k; digest = root }) (checkpoints_of c past me) (is k root refl))
        go false = refl
    of _ is = refl

-- ---- the new one becomes it

-- none is above the entry, and one of its number is alike
abbrev AreBelow : CheckpointEntry → List CheckpointEntry → Type 0
AreBelow entry ms = (m : CheckpointEntry) → lists_checkpoint m ms ≡ true → (m.number ≤ entry.number) × (m.number ≡ entry.number → m.digest ≡ entry.digest)

says_first : (m : CheckpointEntry) (ms : List CheckpointEntry) → lists_checkpoint m (m ∷ ms) ≡ true
says_first m ms = rw (eq-eqb m.number m.number refl, (bytes_eq-Decides m.digest m.digest).1 refl) refl

inserts_first : (entry : CheckpointEntry) (ms : List CheckpointEntry) → AreBelow entry ms → slice_get (take 3 (insert_checkpoint entry ms)) 0 ≡ Some entry
inserts_first entry [] below = refl
inserts_first entry (m ∷ ms) below = go (m.number == entry.number) refl
  where
    own : (m.number ≤ entry.number) × (m.number ≡ entry.number → m.digest ≡ entry.digest)
    own = below m (says_first m ms)

    alike : m.number ≡ entry.number → m ≡ entry
    alike n =
        ap (λ (k : ℕ). let y : CheckpointEntry = record { number = k; digest = m.digest } in y) n
        ∙ ap (λ (d : List ℕ). let y : CheckpointEntry = record { number = entry.number; digest = d } in y) (own.1 n)

    later : (m.number == entry.number) ≡ false → (b : Bool) → nat_lt m.number entry.number ≡ b → slice_get (take 3 (cond b (entry ∷ m ∷ ms) (m ∷ insert_checkpoint entry ms))) 0 ≡ Some entry
    later e true l = refl
    later e false l =
        let over = ltb-false m.number entry.number l in
        let most = own.0 in
        absurd (eqb-false m.number entry.number e (omega (arith, over, most)))

    go : (b : Bool) → (m.number == entry.number) ≡ b
        → slice_get (take 3 (cond b (m ∷ ms) (cond (nat_lt m.number entry.number) (entry ∷ m ∷ ms) (m ∷ insert_checkpoint entry ms)))) 0 ≡ Some entry
    go true e = ap Some (alike (eqb-true m.number entry.number e))
    go false e = later e (nat_lt m.number entry.number) refl

pub checkpoints_are_latest : CheckpointsAreLatest
unfolding checkpoints_of
checkpoints_are_latest c me past point entry bytes leaves may number within says =
    subst (λ (o : Option (ℕ × CheckpointEntry)). slice_get (with_checkpoint me o (checkpoints_of c past me)) 0 ≡ Some entry)
    (sym (said_listed c me entry.number entry.digest (Sent me bytes) within says))
    (rw (eq-eqb me me refl) (inserts_first entry (checkpoints_of c past me) below))
  where
    own : Distinct point.snapshots point.state.number
    own = distinct c me past point leaves

    below : AreBelow entry (checkpoints_of c past me)
    below m h = (at_most, alike)
      where
        was : MayCheckpoint c past point m.number m.digest
        was = said_may c me m.number m.digest past point leaves (own_said c me m past point leaves h)

        s : (st : State) × Has (λ z. z ≡ st) point.snapshots × ((st.number ≡ m.number) × (root_of st ≡ m.digest))
        s = has_some (λ st. (st.number ≡ m.number) × (root_of st ≡ m.digest)) point.snapshots was.state

        t : (st : State) × Has (λ z. z ≡ st) point.snapshots × ((st.number ≡ entry.number) × (root_of st ≡ entry.digest))
        t = has_some (λ st. (st.number ≡ entry.number) × (root_of st ≡ entry.digest)) point.snapshots may.state

        at_most : m.number ≤ entry.number
        at_most = let is = s.2.0 in let most = own.below s.0 s.1 in let here = number in omega (arith, is, most, here)

        alike : m.number ≡ entry.number → m.digest ≡ entry.digest
        alike same = sym s.2.1 ∙ ap root_of (own.one s.0 t.0 s.1 t.1 (s.2.0 ∙ same ∙ sym t.2.0)) ∙ t.2.1
