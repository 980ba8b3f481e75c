-- The desk answers a read from the executed state.
use Rattle.std.proofs.Common.{◌≡◌, ℕ, ◌+◌, ◌⊎◌, inl, inr, true, false, List, [], ◌∷◌, Option, Some, None, refl, sym, ap, ◌∙◌, subst}
use Rattle.tuple_codec.specs.Operations.{Operation}
use Rattle.space.specs.Applying.{is_read_only}
use Rattle.wire_format.specs.Messages.{BodyData as Body, MessageData as Message}
use Rattle.signing.specs.AuthenticBody.{authentic}
use Rattle.events.specs.declared.output.Output.{Output}
use Rattle.events.specs.Outputs.{entry_of, IsSentAsMeant}
use Rattle.protocol.specs.System.Configuration.{Configuration, members}
use Rattle.protocol.specs.System.Frames.{IsOutgoing}
use Rattle.protocol.specs.System.Trace.{Entry}
use Rattle.protocol.specs.System.Trace.Entry.{Got, Sent}
use Rattle.replica_histories.specs.Questions.{AnswersInput, read_from, read_reply}
use Rattle.replica_histories.specs.Events.{IsTaken}
use Rattle.replica_histories.proofs.Answering.{reads_fit, reads_suffice, other_operations_owe_none}
use Rattle.replica_histories.proofs.ChangesKept.{sent_keep}
use Rattle.replica.specs.declared.taking.DueWork.TheVariants as due_work
use Rattle.replica.specs.State.{BothPartsData, AreOne, Gives}
use Rattle.orderer.specs.Fitting.{given, FitsEvent}
use Rattle.replica.specs.Entering.{event_of, TakesBytes}
use Rattle.desk.specs.Reading.{AnswersRead, ReceivesNoRead, AnswersBytes}
use Rattle.desk.specs.DeskOf.{desk_of}
use Rattle.replica.specs.BothParts.{BothPartsMatchHistory, me_of}
use Rattle.replica.proofs.Beginning.{rests, silent_dropped}
use Rattle.replica.proofs.Beside.{begins}
use Rattle.orderer.proofs.Staying.{EmitsOne, emits_one, fits_on, sent_beside}
use Rattle.orderer.proofs.Parties.{same_log}
use Rattle.replica.proofs.Parties.{one_self}

-- what the desk hears is authentic in the configuration
heard_at_desk : (r : BothPartsData) → AreOne r.orderer r.desk → (c : Configuration) (past : List Entry) → BothPartsMatchHistory c r past → (bytes : List ℕ) (o : Option Body) → authentic r.desk.membership r.desk.me bytes ≡ o
    → authentic (members c (me_of r)) (me_of r) bytes ≡ o
heard_at_desk r one c past runs bytes o h = subst (λ (n : ℕ). authentic (members c n) n bytes ≡ o) one.0 (ap (λ m. authentic m r.desk.me bytes) runs.is_desk.members_are ∙ h)

-- ---- a received request is to be answered beside the order

module _ (r : BothPartsData) (one : AreOne r.orderer r.desk) (client t : ℕ) (op : Operation) (bytes : List ℕ) (receives : authentic r.desk.membership r.desk.me bytes ≡ Some (read_from client t op)) where
  module _ (c : Configuration) (past : List Entry) (runs : BothPartsMatchHistory c r past) (known : Gives c r.orderer) where
    abbrev me : ℕ
    me = me_of r

    is_authentic_to : authentic (members c me) me bytes ≡ Some (read_from client t op)
    is_authentic_to = heard_at_desk r one c past runs bytes (Some (read_from client t op)) receives

    started : FitsEvent c me (event_of c r past runs bytes) r.orderer (desk_of c r.desk) r.desk.waiting [] []
    started = begins r one c past runs bytes (read_from client t op) is_authentic_to (record { log = tt; call = refl; asks = λ st. refl; views = refl; changes = tt })

    abbrev Left : List Output → Type 0
    Left outs = FitsEvent c me (event_of c r past runs bytes) r.orderer (desk_of c r.desk) r.desk.waiting [] outs
        × AnswersInput c me past (Got me bytes) (given me outs) runs.holds.of_desk.point r.desk.executed.state.number
        × ((outs ≡ []) ⊎ IsTaken c me (event_of c r past runs bytes))

    -- other requests get no answer
    drops : is_read_only op ≡ false → Left []
    drops unread = (started, other_operations_owe_none c me (desk_of c r.desk) r.orderer.log past (Got me bytes) [] client t r.desk.executed.state.number op runs.holds is_authentic_to unread, inl refl)

    abbrev reply : Message
    reply = read_reply r.desk.executed.state client t op

    -- and a read its answer
    gives : is_read_only op ≡ true → (output : Output) (sent : List ℕ) → entry_of me output ≡ Sent me sent → IsSentAsMeant c me output → IsOutgoing c me reply (client ∷ []) sent → Left (output ∷ [])
    gives is output sent sends meant is_outgoing = (
      fits_on c me (event_of c r past runs bytes) r.orderer r.orderer (desk_of c r.desk) r.desk.waiting [] [] [] (output ∷ []) (Sent me sent) one_given
          (sent_beside c me reply (client ∷ []) sent (Got me bytes ∷ past) tt is_outgoing)
          (sent_keep c me (Got me bytes ∷ past) reply sent is_outgoing.says tt (λ signed. absurd cc))
          (same_log r.orderer.log) refl refl refl refl started
          (reads_fit c me (event_of c r past runs bytes) (desk_of c r.desk) r.orderer.log [] [] client t op sent (inl is_authentic_to) is (λ given. given) is_outgoing started.fits),
      subst (λ (es : List Entry). AnswersInput c me past (Got me bytes) es runs.holds.of_desk.point r.desk.executed.state.number) (sym one_given.is)
          (reads_suffice c me (desk_of c r.desk) r.orderer.log past (Got me bytes) (Sent me sent ∷ []) client t r.desk.executed.state.number op runs.holds is_authentic_to (inl is_outgoing.says)),
      inr (read_from client t op, is_authentic_to, is),
    )
      where
        one_given : EmitsOne c me [] (output ∷ []) (Sent me sent)
        one_given = emits_one c me [] (output ∷ []) output (Sent me sent) refl sends meant

  -- in whatever event, nothing else is left to do
  takes : (outs : List Output)
      → ((c : Configuration) (past : List Entry) (runs : BothPartsMatchHistory c r past) (known : Gives c r.orderer) → Left c past runs known outs) → TakesBytes bytes r due_work.Nothing r outs
  takes outs left = record {
    party = one_self r;
    begins = λ c past runs known. let l = left c past runs known in (
      record {
        is = runs.is_desk;
        fits = subst (λ (m : ℕ). FitsEvent c m (event_of c r past runs bytes) r.orderer (desk_of c r.desk) r.desk.waiting [] outs) (sym one.0) l.0;
      },
      (rests c r past runs, runs.all, l.1, l.2),
      runs.nothing_begins,
    );
  }

  takes_no_read : is_read_only op ≡ false → TakesBytes bytes r due_work.Nothing r []
  takes_no_read unread = takes [] (λ c past runs known. drops c past runs known unread)

-- ---- a client's read

module _ (r : BothPartsData) (one : AreOne r.orderer r.desk) (bytes : List ℕ) (outs : List Output) (a : AnswersRead r.desk bytes [] outs) where
  abbrev client : ℕ
  client = 256 + a.client.number

  takes_read : TakesBytes bytes r due_work.Nothing r outs
  takes_read = subst (λ (os : List Output). TakesBytes bytes r due_work.Nothing r os) (sym a.says.given_is)
      (takes r one client a.timestamp a.op bytes a.receives (a.says.output ∷ []) (λ c past runs known.
      gives r one client a.timestamp a.op bytes a.receives c past runs known a.is_read a.says.output a.says.sends_frame.bytes (sends c) (meant c past runs) (is_outgoing c past runs)))
    where
      sends : (c : Configuration) → entry_of (me_of r) a.says.output ≡ Sent (me_of r) a.says.sends_frame.bytes
      sends c = subst (λ (m : ℕ). entry_of m a.says.output ≡ Sent m a.says.sends_frame.bytes) one.0 a.says.sends_frame.sends

      meant : (c : Configuration) (past : List Entry) → BothPartsMatchHistory c r past → IsSentAsMeant c (me_of r) a.says.output
      meant c past runs = subst (λ (m : ℕ). IsSentAsMeant c m a.says.output) one.0 (a.says.sends_frame.meant c runs.is_desk.members_are)

      is_outgoing : (c : Configuration) (past : List Entry) → BothPartsMatchHistory c r past
          → IsOutgoing c (me_of r) (read_reply r.desk.executed.state client a.timestamp a.op) (client ∷ []) a.says.sends_frame.bytes
      is_outgoing c past runs =
          subst (λ (m : ℕ). IsOutgoing c m (read_reply r.desk.executed.state client a.timestamp a.op) (client ∷ []) a.says.sends_frame.bytes) one.0 (a.says.sends_frame.is_outgoing c runs.is_desk.members_are)

-- ---- whatever asks

pub answers_bytes : (r : BothPartsData) (bytes : List ℕ) (outs : List Output) → AreOne r.orderer r.desk → AnswersBytes r.desk bytes [] outs → TakesBytes bytes r due_work.Nothing r outs
answers_bytes r bytes outs one (inl a) = takes_read r one bytes outs a
answers_bytes r bytes outs one (inr (none, same)) = subst (λ (os : List Output). TakesBytes bytes r due_work.Nothing r os) (sym same) (dropped none)
  where
    dropped : ReceivesNoRead r.desk bytes → TakesBytes bytes r due_work.Nothing r []
    dropped (inl silent) = silent_dropped r bytes one (λ c past runs known. heard_at_desk r one c past runs bytes None silent)
    dropped (inr (k, t, op, receives, unread)) = takes_no_read r one k t op bytes receives unread
