-- Entries of frames that a replica gets or sends beside ordering are idle.
use Rattle.std.proofs.Common.{◌≡◌, ℕ, inl, inr, Bool, true, false, cond, List, [], ◌∷◌, refl, ap, ◌∙◌, Option, Some, None}
use Rattle.std.specs.Prelude.{option_and_then, not, ◌==◌, ◌&&◌, nat_lt}
use Rattle.std.specs.Option.{option_map_or}
use Rattle.quorum.specs.Votes.{or_else}
use Rattle.wire_format.specs.Messages.{BodyData as Body, MessageData as Message, ViewChangeData, request as Request, reply as Reply}
use Rattle.protocol.specs.System.Configuration.{Configuration, members, signers}
use Rattle.wire_format.specs.Words.{said, carried}
use Rattle.signing.specs.AuthenticBody.{authentic, signed_body}
use Rattle.protocol.specs.System.Trace.{Entry, Once, Has, frames_in}
use Rattle.protocol.specs.System.Trace.Entry.{Got, Sent}
use Rattle.protocol.specs.Replica.Selection.{change_in, signed_change, is_within}
use Rattle.protocol.specs.Replica.Certificates.{new_view_from, change_from, checkpoint_from, batch_from, prepare_from, commit_from, view}
use Rattle.protocol.specs.Replica.Transfers.{place_from, fetch_sent, asked_last}
use Rattle.protocol.proofs.Words.Linking.{heard_said, signed_said}
use Rattle.protocol.specs.System.Reads.{is_beside, without_reads}
use Rattle.replica.specs.Reads.{is_read_reply, is_read_request}
use Rattle.replica.specs.Idle.{OrdersNothing, BringsNothing, LeavesOut}
use Rattle.replica.proofs.ReadMarks.{marked_are_requests, marked_are_replies}
use Rattle.replica.specs.Idle.LeavesOut.{none, both, beside}

-- quiet messages bring nothing that counts
module _ (c : Configuration) (me sender : ℕ) where
  no_view : (m : Message) → OrdersNothing m → new_view_from c (record { sender = sender; message = m }) ≡ None
  no_view (Request t mode op) h = refl
  no_view (Reply client t mode number answer) h = refl
  no_view _ h = absurd h

  no_checkpoint : (m : Message) → OrdersNothing m → checkpoint_from (record { sender = sender; message = m }) ≡ None
  no_checkpoint (Request t mode op) h = refl
  no_checkpoint (Reply client t mode number answer) h = refl
  no_checkpoint _ h = absurd h

  no_change : (m : Message) → OrdersNothing m → change_from (record { sender = sender; message = m }) ≡ 0
  no_change (Request t mode op) h = refl
  no_change (Reply client t mode number answer) h = refl
  no_change _ h = absurd h

  no_change_in : (m : Message) → OrdersNothing m → change_in (record { sender = sender; message = m }) ≡ None
  no_change_in (Request t mode op) h = refl
  no_change_in (Reply client t mode number answer) h = refl
  no_change_in _ h = absurd h

  no_batch : (v i : ℕ) (m : Message) → OrdersNothing m → batch_from c me v i (record { sender = sender; message = m }) ≡ None
  no_batch v i (Request t mode op) h = refl
  no_batch v i (Reply client t mode number answer) h = refl
  no_batch v i _ h = absurd h

  no_prepare : (s v i : ℕ) (m : Message) → OrdersNothing m → prepare_from c s v i (record { sender = sender; message = m }) ≡ None
  no_prepare s v i (Request t mode op) h = refl
  no_prepare s v i (Reply client t mode number answer) h = refl
  no_prepare s v i _ h = absurd h

  no_commit : (s v i : ℕ) (m : Message) → OrdersNothing m → commit_from s v i (record { sender = sender; message = m }) ≡ None
  no_commit s v i (Request t mode op) h = refl
  no_commit s v i (Reply client t mode number answer) h = refl
  no_commit s v i _ h = absurd h

  no_place : (m : Message) → OrdersNothing m → place_from (record { sender = sender; message = m }) ≡ None
  no_place (Request t mode op) h = refl
  no_place (Reply client t mode number answer) h = refl
  no_place _ h = absurd h

  no_fetch : (p : ℕ) (bytes : List ℕ) (m : Message) → OrdersNothing m → said bytes ≡ Some (record { sender = sender; message = m }) → fetch_sent (Sent p bytes) ≡ 0
  no_fetch p bytes (Request t mode op) h is = rw is refl
  no_fetch p bytes (Reply client t mode number answer) h is = rw is refl
  no_fetch p bytes _ h is = absurd h

nothing : {A : Type 0} (f : Body → Option A) (o : Option Body) → ((body : Body) → OrdersNothing body.message → f body ≡ None) → ((body : Body) → o ≡ Some body → OrdersNothing body.message) → option_and_then f o ≡ None
nothing f None gone quiet = refl
nothing f (Some body) gone quiet = gone body (quiet body refl)

-- quiet frames carry none
none_carried : (frame : List ℕ) (m : Message) → OrdersNothing m → Has (λ x. x ≡ frame) (carried m) → ⊥
none_carried frame (Request t mode op) q h = h
none_carried frame (Reply client t mode number answer) q h = h
none_carried frame _ q h = absurd q

only_whole : (whole frame : List ℕ) → ((b : Body) → said whole ≡ Some b → OrdersNothing b.message) → Has (λ x. x ≡ frame) (frames_in whole) → whole ≡ frame
only_whole whole frame quiet (inl is) = is
only_whole whole frame quiet (inr h) = absurd (go (said whole) quiet h)
  where
    go : (o : Option Body) → ((b : Body) → o ≡ Some b → OrdersNothing b.message) → Has (λ x. x ≡ frame) (option_map_or (λ (b : Body). carried b.message) o []) → ⊥
    go None q h = h
    go (Some b) q h = none_carried frame b.message (q b refl) h

module _ (c : Configuration) (me p : ℕ) (bytes : List ℕ) where
  module _ (all : (body : Body) → said bytes ≡ Some body → OrdersNothing body.message) where
    quiet : (body : Body) → authentic (members c p) p bytes ≡ Some body → OrdersNothing body.message
    quiet body is = all body (heard_said c p bytes body is)

    signed_quiet : (body : Body) → signed_body (signers c) bytes ≡ Some body → OrdersNothing body.message
    signed_quiet body is = all body (signed_said c bytes body is)

    no_signed : signed_change c bytes ≡ None
    no_signed = nothing change_in (signed_body (signers c) bytes) (λ body q. no_change_in c me body.sender body.message q) signed_quiet

    pub got_idle : BringsNothing c me (Got p bytes)
    got_idle = record {
      view = nothing (new_view_from c) (authentic (members c p) p bytes) (λ body q. no_view c me body.sender body.message q) quiet;
      change = refl;
      checkpoint = nothing checkpoint_from (authentic (members c p) p bytes) (λ body q. no_checkpoint c me body.sender body.message q) quiet;
      installed = refl;
      batch = λ v i. nothing (batch_from c me v i) (authentic (members c p) p bytes) (λ body q. no_batch c me body.sender v i body.message q) quiet;
      prepare = λ s v i. nothing (prepare_from c s v i) (authentic (members c p) p bytes) (λ body q. no_prepare c me body.sender s v i body.message q) quiet;
      commit = λ s v i. nothing (commit_from s v i) (authentic (members c p) p bytes) (λ body q. no_commit c me body.sender s v i body.message q) quiet;
      fetch = refl;
      asked = λ past. refl;
      latest = λ past s. ap (λ (o : Option (ℕ × ViewChangeData)). option_map_or (λ (x : ℕ × ViewChangeData). cond ((x.0 == s) && nat_lt (view c past) x.1.view && is_within c x.1) x.1.view 0) o 0) no_signed;
      says = λ message h. absurd h;
      seen = λ past frame body has is. all body (ap said (only_whole bytes frame all has) ∙ is);
    }

  module _ (said_quiet : (b : Body) → said bytes ≡ Some b → OrdersNothing b.message) where
    no_change_sent : (o : Option Body) → ((b : Body) → o ≡ Some b → OrdersNothing b.message) → option_map_or change_from o 0 ≡ 0
    no_change_sent None q = refl
    no_change_sent (Some b) q = no_change c me b.sender b.message (q b refl)

    no_fetch_sent : (o : Option Body) → said bytes ≡ o → ((b : Body) → o ≡ Some b → OrdersNothing b.message) → fetch_sent (Sent p bytes) ≡ 0
    no_fetch_sent None is q = rw is refl
    no_fetch_sent (Some b) is q = no_fetch c me b.sender p bytes b.message (q b refl) is

    pub sent_idle : BringsNothing c me (Sent p bytes)
    sent_idle = record {
      view = nothing (new_view_from c) (said bytes) (λ body q. no_view c me body.sender body.message q) said_quiet;
      change = no_change_sent (said bytes) said_quiet;
      checkpoint = nothing checkpoint_from (said bytes) (λ body q. no_checkpoint c me body.sender body.message q) said_quiet;
      installed = refl;
      batch = λ v i. nothing (batch_from c me v i) (said bytes) (λ body q. no_batch c me body.sender v i body.message q) said_quiet;
      prepare = λ s v i. nothing (prepare_from c s v i) (said bytes) (λ body q. no_prepare c me body.sender s v i body.message q) said_quiet;
      commit = λ s v i. nothing (commit_from s v i) (said bytes) (λ body q. no_commit c me body.sender s v i body.message q) said_quiet;
      fetch = no_fetch_sent (said bytes) refl said_quiet;
      asked = λ past. ap (λ (o : Option _). or_else o (asked_last past)) (nothing place_from (said bytes) (λ body q. no_place c me body.sender body.message q) said_quiet);
      latest = λ past s. refl;
      says = λ message h. said_quiet (record { sender = me; message = message }) h;
      seen = λ past frame body has is. said_quiet body (ap said (only_whole bytes frame said_quiet has) ∙ is);
    }

pub read_is_quiet : (m : Message) (s : ℕ) → is_read_request (record { sender = s; message = m }) ≡ true → OrdersNothing m
read_is_quiet (Request t mode op) s h = tt
read_is_quiet _ s h = absurd cc

pub reply_is_quiet : (m : Message) (s : ℕ) → is_read_reply (record { sender = s; message = m }) ≡ true → OrdersNothing m
reply_is_quiet (Reply client t mode number answer) s h = tt
reply_is_quiet _ s h = absurd cc

-- an entry beside ordering is idle
pub beside_idle : (c : Configuration) (me : ℕ) (e : Entry) → is_beside e ≡ true → BringsNothing c me e
beside_idle c me (Got p bytes) h = got_idle c me p bytes (λ body is. read_is_quiet body.message body.sender (marked_are_requests bytes body h is))
beside_idle c me (Sent p bytes) h = sent_idle c me p bytes (λ body is. reply_is_quiet body.message body.sender (marked_are_replies bytes body h is))
beside_idle c me _ h = absurd cc

pub parted : (c : Configuration) (me : ℕ) (h : List Entry) → LeavesOut c me (without_reads h) h
parted c me [] = none
parted c me (e ∷ past) = go (is_beside e) refl (parted c me past)
  where
    go : (b : Bool) → is_beside e ≡ b → LeavesOut c me (without_reads past) past → LeavesOut c me (cond (not b) (e ∷ without_reads past) (without_reads past)) (e ∷ past)
    go true is p = beside e (without_reads past) past (beside_idle c me e is) p
    go false is p = both e (without_reads past) past p

-- ---- entries that happened once

pub once_over : (c : Configuration) (me : ℕ) (P : List Entry → Entry → Type 0) → ((e : Entry) (g h : List Entry) → LeavesOut c me g h → P g e → P h e) → (g h : List Entry) → LeavesOut c me g h → Once P g → Once P h
once_over c me P over _ _ none k = k
once_over c me P over _ _ (both e g h p) (inl k) = inl (over e g h p k)
once_over c me P over _ _ (both e g h p) (inr k) = inr (once_over c me P over g h p k)
once_over c me P over _ _ (beside e g h idle p) k = inr (once_over c me P over g h p k)

pub once_back : (c : Configuration) (me : ℕ) (P : List Entry → Entry → Type 0) → ((e : Entry) (g h : List Entry) → LeavesOut c me g h → P h e → P g e) → ((e : Entry) (h : List Entry) → BringsNothing c me e → P h e → ⊥)
    → (g h : List Entry) → LeavesOut c me g h → Once P h → Once P g
once_back c me P back not_idle _ _ none k = k
once_back c me P back not_idle _ _ (both e g h p) (inl k) = inl (back e g h p k)
once_back c me P back not_idle _ _ (both e g h p) (inr k) = inr (once_back c me P back not_idle g h p k)
once_back c me P back not_idle _ _ (beside e g h idle p) (inl k) = absurd (not_idle e h idle k)
once_back c me P back not_idle _ _ (beside e g h idle p) (inr k) = once_back c me P back not_idle g h p k
