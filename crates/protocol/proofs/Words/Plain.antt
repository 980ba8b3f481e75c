-- Plain entries: those that bring no new view, no view change, no checkpoint and no installation. They leave the
-- view, the target and the low mark as they are, and log at most what they propose.
use Rattle.std.specs.Option.{option_map_or}
use Rattle.std.proofs.Common.{◌≡◌, ℕ, Bool, true, false, cond, List, ◌∷◌, refl, ap, ◌∙◌, arith, Option, Some, None}
use Rattle.std.specs.Prelude.{option_and_then, ⊤}
use Rattle.std.specs.Bool.{then_some}
use Rattle.protocol.specs.System.Configuration.{Configuration, members}
use Rattle.wire_format.specs.Messages.{BodyData as Body, MessageData as Message, CheckpointEntryData as CheckpointEntry, NewViewData, request as Request, pre_prepare as PrePrepare, prepare as Prepare, commit as Commit, reply as Reply, fetch as Fetch, meta as Meta, page as Page, checkpoint as Checkpoint, view_change as ViewChange, new_view as NewView}
use Rattle.signing.specs.AuthenticBody.{authentic}
use Rattle.wire_format.specs.Words.{said}
use Rattle.protocol.specs.System.Trace.{Entry}
use Rattle.protocol.specs.System.Trace.Entry.{Got, Sent}
use Rattle.protocol.specs.Replica.Certificates.{view, view_after, target, is_later, change_from, change_sent, new_view_in, new_view_from, taken, checkpoint_from, checkpoint_in, is_stable, stable_at, installed_at, started_at, low, is_in_marks, assigned_batch, assigned_proposal, entry_proposal, proposal}
use Rattle.protocol.proofs.Words.Options.{or_else_second}

pub record Plain (c : Configuration) (past : List Entry) (e : Entry) : Type 0 where
  pub view : new_view_in c e ≡ None
  pub change : change_sent e ≡ 0
  pub checkpoint : checkpoint_in c e ≡ None
  pub installed : installed_at e ≡ 0

-- ---- by the message that is received or sent

-- messages that are no checkpoint, view change or new view
abbrev pub IsPlain : Message → Type 0
IsPlain message = elim message [ Request t mode op ↦ ⊤ | PrePrepare v i batch ↦ ⊤ | Prepare v i digest ↦ ⊤ | Commit v i digest ↦ ⊤ | Reply client t mode number answer ↦ ⊤ | Fetch k level index ↦ ⊤ | Meta k level index digests ↦ ⊤ | Page k index text ↦ ⊤ | _ ↦ ⊥ ]

none_begins : (c : Configuration) (sender : ℕ) (message : Message) → IsPlain message → new_view_from c (record { sender = sender; message = message }) ≡ None
none_begins c sender (NewView new) h = absurd h
none_begins c sender _ h = refl

none_checks : (sender : ℕ) (message : Message) → IsPlain message → checkpoint_from (record { sender = sender; message = message }) ≡ None
none_checks sender (Checkpoint k root) h = absurd h
none_checks sender _ h = refl

none_changes : (sender : ℕ) (message : Message) → IsPlain message → change_from (record { sender = sender; message = message }) ≡ 0
none_changes sender (ViewChange change) h = absurd h
none_changes sender _ h = refl

pub heard_plain : (c : Configuration) (past : List Entry) (p : ℕ) (bytes : List ℕ) (body : Body) → authentic (members c p) p bytes ≡ Some body → IsPlain body.message → Plain c past (Got p bytes)
heard_plain c past p bytes body h o = record {
  view = ap (option_and_then (new_view_from c)) h ∙ none_begins c body.sender body.message o;
  change = refl;
  checkpoint = ap (option_and_then checkpoint_from) h ∙ none_checks body.sender body.message o;
  installed = refl;
}

pub said_plain : (c : Configuration) (past : List Entry) (p : ℕ) (bytes : List ℕ) (body : Body) → said bytes ≡ Some body → IsPlain body.message → Plain c past (Sent p bytes)
said_plain c past p bytes body h o = record {
  view = ap (option_and_then (new_view_from c)) h ∙ none_begins c body.sender body.message o;
  change = ap (λ (b : Option Body). option_map_or change_from b 0) h ∙ none_changes body.sender body.message o;
  checkpoint = ap (option_and_then checkpoint_from) h ∙ none_checks body.sender body.message o;
  installed = refl;
}

-- ---- what stays

-- an entry without checkpoint, installation and new view leaves the low mark
pub low_same : (c : Configuration) (me : ℕ) (past : List Entry) (e : Entry) → checkpoint_in c e ≡ None → installed_at e ≡ 0 → new_view_in c e ≡ None → low c me (e ∷ past) ≡ low c me past
unfolding low
low_same c me past e no_checkpoint no_installation no_view =
    let stable : stable_at c me past e ≡ 0 = ap (λ (o : Option (ℕ × CheckpointEntry)). option_map_or (λ (x : ℕ × CheckpointEntry). cond (is_stable c me (e ∷ past) x.1) x.1.number 0) o 0) no_checkpoint in
    let started : started_at c past e ≡ 0 =
    ap (λ (o : Option NewViewData). option_map_or (λ (new : NewViewData). new.start) (option_and_then (λ (new : NewViewData). then_some (is_later (view c past) (target past) new) new) o) 0) no_view in
    omega arith

pub taken_none : (c : Configuration) (past : List Entry) (e : Entry) → Plain c past e → taken c past e ≡ None
taken_none c past e q = ap (option_and_then (λ (new : NewViewData). then_some (is_later (view c past) (target past) new) new)) q.view

pub plain_view : (c : Configuration) (past : List Entry) (e : Entry) → Plain c past e → view c (e ∷ past) ≡ view c past
unfolding view
plain_view c past e q = ap (view_after (view c past) (target past)) q.view

pub plain_target : (c : Configuration) (past : List Entry) (e : Entry) → Plain c past e → target (e ∷ past) ≡ target past
plain_target c past e q = let none = q.change in omega arith

pub plain_low : (c : Configuration) (me : ℕ) (past : List Entry) (e : Entry) → Plain c past e → low c me (e ∷ past) ≡ low c me past
plain_low c me past e q = low_same c me past e q.checkpoint q.installed q.view

-- no new view, so no batch but that of a pre-prepare
pub plain_assigned : (c : Configuration) (me : ℕ) (past : List Entry) (e : Entry) (v i : ℕ) → Plain c past e → assigned_proposal c me past e v i ≡ None
plain_assigned c me past e v i q = nothing (is_in_marks c (low c me (e ∷ past)) i) (option_and_then (assigned_batch v i) (taken c past e)) (ap (option_and_then (assigned_batch v i)) (taken_none c past e q))
  where
    nothing : (b : Bool) (o : Option (List ℕ)) → o ≡ None → cond b o None ≡ None
    nothing true o h = h
    nothing false o h = refl

pub plain_proposal : (c : Configuration) (me : ℕ) (past : List Entry) (e : Entry) (v i : ℕ) → Plain c past e → proposal c me past e v i ≡ entry_proposal c me past e v i
plain_proposal c me past e v i q = or_else_second (assigned_proposal c me past e v i) (entry_proposal c me past e v i) (plain_assigned c me past e v i q)
