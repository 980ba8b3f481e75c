-- The desk answers a fetch from the kept states.
use Rattle.std.proofs.Common.{◌≡◌, ◌≢◌, ℕ, ◌≤◌, ◌⊎◌, inl, inr, List, [], ◌∷◌, Some, refl, sym, ap, subst, true, ◌∙◌}
use Rattle.terms.specs.declared.parties.Party.TheVariants as parties
use Rattle.terms.specs.declared.parties.ReplicaId.{ReplicaId}
use Rattle.terms.specs.declared.state.Level.{Level}
use Rattle.terms.specs.declared.state.Level.TheVariants as levels
use Rattle.wire_format.specs.Lists.{Each}
use Rattle.wire_format.specs.Messages.{BodyData as Body, MessageData as Message, fetch as FetchMessage}
use Rattle.wire_format.specs.Spelling.{IsMessage, last_index}
use Rattle.wire_format.specs.Views.{message_data}
use Rattle.wire_format.specs.declared.messages.Fetch.{Fetch}
use Rattle.wire_format.specs.declared.messages.Message.{Message as WireMessage}
use Rattle.wire_format.specs.declared.messages.Message.TheVariants as messages
use Rattle.authenticator.specs.Membership.{Membership}
use Rattle.signing.specs.AuthenticBody.{authentic}
use Rattle.signing.proofs.AuthenticBody.{authentic_was_opened}
use Rattle.frame_endpoint.specs.Endpoint.{SealsForOne}
use Rattle.events.specs.declared.output.Output.{Output}
use Rattle.events.specs.Outputs.{entry_of, IsSentAsMeant}
use Rattle.protocol.specs.System.Configuration.{Configuration, members}
use Rattle.protocol.specs.System.Frames.{IsOutgoing}
use Rattle.protocol.specs.System.Trace.{Entry, Has}
use Rattle.protocol.specs.System.Trace.Entry.{Got, Sent}
use Rattle.replica_histories.specs.Questions.{AnswersInput}
use Rattle.replica_histories.specs.Desk.{Snapshot}
use Rattle.replica_histories.specs.Changes.{IsNoNews}
use Rattle.replica_histories.specs.Events.{IsTaken}
use Rattle.replica_histories.proofs.ChangesKept.{sent_keep}
use Rattle.replica_histories.specs.TransfersAnswers.{answer_by}
use Rattle.replica_histories.proofs.Answering.{parts_fit, kept_fetches_count, parts_suffice, other_numbers_owe_none}
use Rattle.replica_histories.proofs.TransfersAnswering.{outgoing_to_one}
use Rattle.replica.specs.declared.taking.DueWork.TheVariants as due_work
use Rattle.wire_format.specs.Spelling.{is_signed}
use Rattle.replica.specs.State.{BothPartsData, AreOne, Gives, heard}
use Rattle.orderer.specs.Fitting.{given, FitsEvent}
use Rattle.replica.specs.Entering.{event_of, TakesBytes}
use Rattle.desk.specs.Fetching.{SendsPart, HasKept, KeepsNoState}
use Rattle.desk.specs.DeskOf.{desk_of}
use Rattle.replica.specs.BothParts.{BothPartsMatchHistory, me_of}
use Rattle.replica.proofs.Beginning.{heard_by, rests}
use Rattle.replica.proofs.Beside.{begins}
use Rattle.orderer.proofs.Staying.{EmitsOne, emits_one, AssignsNoNumber, fits_on, sent_beside}
use Rattle.orderer.proofs.Parties.{same_log}
use Rattle.replica.proofs.Parties.{one_self}

-- a received fetch is of a place
within_level : (m : Membership) (me : ℕ) (bytes : List ℕ) (s k index : ℕ) (level : Level)
    → authentic m me bytes ≡ Some (record { sender = s; message = FetchMessage k level index }) → index ≤ last_index level
within_level m me bytes s k index level h =
    let o = authentic_was_opened m me bytes _ h in
    (subst (λ (b : Body). IsMessage b.message) o.body_is o.opens.spelled.valid.message).1

-- so is a fetch message of the program
pub fetch_within : (m : Membership) (me : ℕ) (bytes : List ℕ) (s : ℕ) (message : WireMessage) (fetch : Fetch) → authentic m me bytes ≡ Some (record { sender = s; message = message_data message })
    → message ≡ messages.Fetch fetch → fetch.index ≤ last_index fetch.level
fetch_within m me bytes s message fetch h is =
    within_level m me bytes s fetch.number.0 fetch.index fetch.level (h ∙ ap (λ (x : WireMessage). Some (record { sender = s; message = message_data x })) is)

-- a served part is no proposal
no_number : (pages : List (List ℕ)) (k index : ℕ) (level : Level) → AssignsNoNumber (answer_by pages k level index)
no_number pages k index levels.Root = tt
no_number pages k index _ = tt

-- and nothing new for view changes
no_news : (c : Configuration) (me : ℕ) (past : List Entry) (pages : List (List ℕ)) (k index : ℕ) (level : Level) → IsNoNews c me past (answer_by pages k level index)
no_news c me past pages k index levels.Root = tt
no_news c me past pages k index _ = tt

-- and not signed
never_signed : {A : Type 0} (pages : List (List ℕ)) (k index : ℕ) (level : Level) → is_signed (answer_by pages k level index) ≡ true → A
never_signed pages k index levels.Root signed = absurd cc
never_signed pages k index _ signed = absurd cc

none_of : (k : ℕ) (xs : List Snapshot) → Each (λ x. x.number ≢ k) xs → Has (λ x. x.number ≡ k) xs → ⊥
none_of k [] each has = absurd has
none_of k (x ∷ xs) each (inl e) = each.0 e
none_of k (x ∷ xs) each (inr h) = none_of k xs each.1 h

of_number : (k : ℕ) (pages : List (List ℕ)) (xs : List Snapshot) → Has (λ x. x ≡ record { number = k; pages = pages }) xs → Has (λ x. x.number ≡ k) xs
of_number k pages [] has = absurd has
of_number k pages (x ∷ xs) (inl e) = inl (ap (λ (s : Snapshot). s.number) e)
of_number k pages (x ∷ xs) (inr h) = inr (of_number k pages xs h)

module _ (r : BothPartsData) (one : AreOne r.orderer r.desk) (sender : ReplicaId) (fetch : Fetch) (bytes : List ℕ) (outs : List Output)
    (receives : heard r.orderer bytes ≡ Some (record { sender = sender.0; message = FetchMessage fetch.number.0 fetch.level fetch.index })) where
  abbrev k : ℕ
  k = fetch.number.0

  abbrev body : Body
  body = record { sender = sender.0; message = FetchMessage k fetch.level fetch.index }

  module _ (c : Configuration) (past : List Entry) (runs : BothPartsMatchHistory c r past) (known : Gives c r.orderer) where
    receives_in : authentic (members c (me_of r)) (me_of r) bytes ≡ Some body
    receives_in = heard_by r one c bytes body known receives

    started : FitsEvent c (me_of r) (event_of c r past runs bytes) r.orderer (desk_of c r.desk) r.desk.waiting [] []
    started = begins r one c past runs bytes body receives_in (record { log = tt; call = refl; asks = λ st. refl; views = refl; changes = tt })

    abbrev Left : List Output → Type 0
    Left os = FitsEvent c (me_of r) (event_of c r past runs bytes) r.orderer (desk_of c r.desk) r.desk.waiting [] os
        × AnswersInput c (me_of r) past (Got (me_of r) bytes) (given (me_of r) os) runs.holds.of_desk.point r.desk.executed.state.number
        × ((os ≡ []) ⊎ IsTaken c (me_of r) (event_of c r past runs bytes))

    kept_none : KeepsNoState r.desk k → Left []
    kept_none none = (
      started,
      other_numbers_owe_none c (me_of r) (desk_of c r.desk) r.orderer.log past (Got (me_of r) bytes) [] sender.0 k fetch.index r.desk.executed.state.number fetch.level runs.holds receives_in
          (none_of k r.desk.snapshots none),
      inl refl,
    )

    abbrev part_of : List (List ℕ) → Message
    part_of pages = answer_by pages k fetch.level fetch.index

    gives : (pages : List (List ℕ)) (output : Output) → HasKept r.desk k pages → SealsForOne r.desk.membership r.desk.me (answer_by pages k fetch.level fetch.index) (parties.Replica sender) output
        → Left (output ∷ [])
    gives pages output kept seals = (
      fits_on c (me_of r) (event_of c r past runs bytes) r.orderer r.orderer (desk_of c r.desk) r.desk.waiting [] [] [] (output ∷ []) (Sent (me_of r) seals.bytes)
          one_given
          (sent_beside c (me_of r) (part_of pages) (sender.0 ∷ []) seals.bytes (Got (me_of r) bytes ∷ past) (no_number pages k fetch.index fetch.level) is_outgoing)
          (sent_keep c (me_of r) (Got (me_of r) bytes ∷ past) (part_of pages) seals.bytes is_outgoing.says (no_news c (me_of r) (Got (me_of r) bytes ∷ past) pages k fetch.index fetch.level) (never_signed pages k fetch.index fetch.level))
          (same_log r.orderer.log) refl refl refl refl started
          (parts_fit c (me_of r) (event_of c r past runs bytes) (desk_of c r.desk) r.orderer.log [] [] (record { number = k; pages = pages }) sender.0 fetch.index fetch.level seals.bytes has
          (inl receives_in) (λ given. given) is_outgoing started.fits),
      subst (λ (es : List Entry). AnswersInput c (me_of r) past (Got (me_of r) bytes) es runs.holds.of_desk.point r.desk.executed.state.number) (sym one_given.is)
          (parts_suffice c (me_of r) (desk_of c r.desk) r.orderer.log past (Got (me_of r) bytes) (Sent (me_of r) seals.bytes ∷ []) (record { number = k; pages = pages }) sender.0 fetch.index r.desk.executed.state.number fetch.level
          runs.holds has receives_in (inl (outgoing_to_one c (me_of r) sender.0 (part_of pages) seals.bytes is_outgoing))),
      inr (
        body,
        receives_in,
        kept_fetches_count c (me_of r) (desk_of c r.desk) r.orderer.log past bytes sender.0 k fetch.index fetch.level runs.holds (of_number k pages r.desk.snapshots has),
      ),
    )
      where
        sends : entry_of (me_of r) output ≡ Sent (me_of r) seals.bytes
        sends = subst (λ (m : ℕ). entry_of m output ≡ Sent m seals.bytes) one.0 seals.sends

        one_given : EmitsOne c (me_of r) [] (output ∷ []) (Sent (me_of r) seals.bytes)
        one_given = emits_one c (me_of r) [] (output ∷ []) output (Sent (me_of r) seals.bytes) refl sends (subst (λ (m : ℕ). IsSentAsMeant c m output) one.0 (seals.meant c runs.is_desk.members_are))

        is_outgoing : IsOutgoing c (me_of r) (part_of pages) (sender.0 ∷ []) seals.bytes
        is_outgoing = subst (λ (m : ℕ). IsOutgoing c m (part_of pages) (sender.0 ∷ []) seals.bytes) one.0 (seals.is_outgoing c runs.is_desk.members_are)

        has : Has (λ x. x ≡ record { number = k; pages = pages }) r.desk.snapshots
        has = kept

    left : SendsPart r.desk sender fetch [] outs → Left outs
    left (inl (same, none)) = subst Left (sym same) (kept_none none)
    left (inr (pages, output, kept, seals, same)) = subst Left (sym same) (gives pages output kept seals)

  -- The desk sends a kept part to whoever asks, and nothing else is left to do.
  pub answers : SendsPart r.desk sender fetch [] outs → TakesBytes bytes r due_work.Nothing r outs
  answers part = record {
    party = one_self r;
    begins = λ c past runs known. let l = left c past runs known part in (
      record {
        is = runs.is_desk;
        fits = subst (λ (m : ℕ). FitsEvent c m (event_of c r past runs bytes) r.orderer (desk_of c r.desk) r.desk.waiting [] outs) (sym one.0) l.0;
      },
      (rests c r past runs, runs.all, l.1, l.2),
      runs.nothing_begins,
    );
  }
