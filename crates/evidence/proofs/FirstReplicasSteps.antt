-- The steps of a replica over the first operation: the points between its entries, and that it may send what it sends.
use Rattle.std.proofs.Common.{◌≡◌, ℕ, ◌+◌, ◌<◌, Bool, true, false, cond, not, filter, ◌&&◌, List, [], ◌∷◌, ◌++◌, refl, sym, ap, ◌∙◌, subst, arith, Option, Some, None, eqb-true}
use Rattle.std.specs.Prelude.{◌==◌, ◌%◌, nat_lt, fold, option_and_then}
use Rattle.std.specs.Option.{option_map_or}
use Rattle.std.specs.List.{list_any, range_with_len}
use Rattle.std.proofs.lemmas.Bool.{ltb-false}
use Rattle.sha2.specs.Sha256.{sha256}
use Rattle.tuple_codec.specs.Operations.{Operation}
use Rattle.reply_cache.specs.Replies.{no_replies}
use Rattle.protocol.specs.System.Configuration.{Configuration, IsConfiguration, members}
use Rattle.terms.specs.declared.order.Mode.TheVariants as modes
use Rattle.wire_format.specs.Messages.{BodyData as Body, MessageData as Message, FrameData as Frame, macs, request as Request, pre_prepare as PrePrepare, prepare as Prepare, commit as Commit, reply as Reply}
use Rattle.wire_format.specs.Words.{carried, requests_of, receivers_of}
use Rattle.signing.specs.AuthenticBody.{authentic}
use Rattle.protocol.specs.System.Frames.{IsSealed}
use Rattle.protocol.specs.System.Trace.{Entry, Once, Has}
use Rattle.protocol.specs.System.Trace.Entry.{Sent}
use Rattle.protocol.specs.Replica.Certificates.{are_genuine}
use Rattle.protocol.specs.Replica.State.{State, Call, Ran, call_in, call_of, opening, execute, kept_by, last_time, run_frame, run_call, ran_in, ran_by}
use Rattle.protocol.specs.Replica.RightReplica.{Point, first_point, waiting_after, with_waiting, still_waiting, snapshots_after, executed_point, IsFor, IsAddressed, HasSeen, MaySendMessage, MaySend, SentInEvent}
use Rattle.evidence.specs.Examples.{four}
use Rattle.evidence.specs.FirstOperation.{FirstFrames, IsFrameFrom, AreFirstFrames, first_answer}
use Rattle.protocol.proofs.Points.Keeping.{executed_times}
use Rattle.protocol.proofs.Words.Options.{some_injective}
use Rattle.protocol.proofs.Words.Elements.{has_of_any}
use Rattle.wire_format.specs.Lists.{Each}
use Rattle.protocol.proofs.Words.Leaving.{executed_number}
use Rattle.protocol.proofs.Words.Outgoing.{macs_have_no_leaf}

abbrev pub point_of : State → List Ran → List Call → Point
point_of st ran waiting = record { state = st; snapshots = opening ∷ []; ran = ran; waiting = waiting }

-- ---- what the frames say

abbrev pub asks : Operation → Body
asks op = record { sender = 256; message = Request 1 modes.Ordered op }

abbrev pub proposes : List ℕ → Body
proposes batch = record { sender = 0; message = PrePrepare 0 1 batch }

abbrev pub prepares : List ℕ → ℕ → Body
prepares batch r = record { sender = r; message = Prepare 0 1 (sha256 batch) }

abbrev pub commits : List ℕ → ℕ → Body
commits batch r = record { sender = r; message = Commit 0 1 (sha256 batch) }

abbrev pub replies : Operation → ℕ → Body
replies op r = record { sender = r; message = Reply 256 1 modes.Ordered 1 (first_answer op) }

-- ---- the points: the request waits, then it ran

abbrev pub the_call : Operation → Call
the_call op = record { client = 0; timestamp = 1; op = op }

abbrev pub the_ran : Operation → Ran
the_ran op = record { call = the_call op; kept = kept_by opening 1 (the_call op) }

abbrev pub after : Configuration → List ℕ → State
after c batch = execute c opening batch

abbrev pub waits : Operation → Point
waits op = point_of opening [] (the_call op ∷ [])

abbrev pub ran : Configuration → Operation → List ℕ → Point
ran c op batch = point_of (after c batch) (the_ran op ∷ []) []

abbrev pub done : Configuration → List ℕ → Point
done c batch = point_of (after c batch) [] []

-- whether the replica r gets what s sends to the others
abbrev pub gets_from : ℕ → ℕ → Bool
gets_from s r = list_any (λ o. o == r) (filter (λ o. not (o == s)) (range_with_len 0 4))

-- a replica's part in the operation
pub record Part : Type 0 where
  pub clients : ℕ
  pub seed : List ℕ
  pub op : Operation
  pub batch : List ℕ
  pub frames : FirstFrames
  pub setting : IsConfiguration (four clients seed)
  pub are_frames : AreFirstFrames (four clients seed) op batch frames
  pub me : ℕ
  pub member : list_any (λ r. r == me) (range_with_len 0 4) ≡ true
  pub within : me < 4

pub is_among : (p : ℕ) (xs : List ℕ) → list_any (λ r. r == p) xs ≡ true → Has (λ r. r ≡ p) xs
is_among p xs h = has_of_any (λ (r : ℕ). r ≡ p) (λ (r : ℕ). r == p) (λ r t. eqb-true r p t) xs h

module _ (o : Part) where
  abbrev clients : ℕ
  clients = o.clients

  abbrev seed : List ℕ
  seed = o.seed

  abbrev op : Operation
  op = o.op

  abbrev batch : List ℕ
  batch = o.batch

  abbrev me : ℕ
  me = o.me

  abbrev c : Configuration
  c = four clients seed

  pub hears_request : authentic (members c me) me o.frames.request ≡ Some (asks op)
  hears_request = o.are_frames.asks.is_authentic_to me (is_among me (range_with_len 0 4) o.member)

  pub genuine : are_genuine c me batch ≡ true
  genuine = rw o.are_frames.requests (rw hears_request refl)

  pub calls : call_in c (asks op) ≡ Some (the_call op)
  calls = go (nat_lt 256 (256 + clients)) refl
    where
      go : (b : Bool) → nat_lt 256 (256 + clients) ≡ b → cond (true && b) (Some (the_call op)) None ≡ Some (the_call op)
      go true e = refl
      go false e = absurd (let f = ltb-false 256 (256 + clients) e in let g = o.setting.some_clients in omega arith)

  pub called : call_of c o.frames.request ≡ Some (the_call op)
  called = ap (option_and_then (call_in c)) o.are_frames.asks.says ∙ calls

  pub after_number : (after c batch).number ≡ 1
  after_number = executed_number c opening batch

  after_time : last_time (after c batch) 0 ≡ 1
  unfolding no_replies
  after_time =
      executed_times c opening batch 0
      ∙ ap (λ (frames : List (List ℕ)). last_time (fold (run_frame c 1) opening frames) 0) o.are_frames.requests
      ∙ ap (λ (call : Option Call). last_time (option_map_or (run_call opening 1) call opening) 0) called

  pub moves_request : waits op ≡ record first_point { ran = []; waiting = waiting_after c me first_point o.frames.request }
  unfolding no_replies
  moves_request =
      sym (ap (point_of opening []) (ap (λ (body : Option Body). option_map_or (with_waiting opening []) (option_and_then (call_in c) body) []) hears_request ∙ ap (λ (call : Option Call). option_map_or (with_waiting opening []) call []) calls))

  -- a message other than a request changes no waiting request
  pub moves_quiet : (st : State) (rans : List Ran) (waiting : List Call) (bytes : List ℕ) (body : Body) → authentic (members c me) me bytes ≡ Some body → call_in c body ≡ None
      → point_of st [] waiting ≡ record (point_of st rans waiting) { ran = []; waiting = waiting_after c me (point_of st rans waiting) bytes }
  moves_quiet st rans waiting bytes body h none =
      sym (ap (point_of st []) (ap (λ (o : Option Body). option_map_or (with_waiting st waiting) (option_and_then (call_in c) o) waiting) h ∙ ap (λ (call : Option Call). option_map_or (with_waiting st waiting) call waiting) none))

  pub moves_executed : ran c op batch ≡ executed_point c (waits op) 1 batch
  unfolding no_replies
  moves_executed =
      sym (ap (λ (ss : List State). made ss (ran_in c 1 opening (requests_of batch)) (still_waiting (after c batch) (the_call op ∷ []))) states
      ∙ ap (λ (rs : List Ran). made (opening ∷ []) rs (still_waiting (after c batch) (the_call op ∷ []))) rans
      ∙ ap (made (opening ∷ []) (the_ran op ∷ [])) (ap (λ (t : ℕ). cond (nat_lt t 1) (the_call op ∷ []) []) after_time))
    where
      made : List State → List Ran → List Call → Point
      made ss rs cs = record { state = after c batch; snapshots = ss; ran = rs; waiting = cs }

      states : snapshots_after c (after c batch) (opening ∷ []) ≡ opening ∷ []
      states = ap (λ (n : ℕ). cond (n % 16 == 0) (after c batch ∷ opening ∷ []) (opening ∷ [])) after_number

      rans : ran_in c 1 opening (requests_of batch) ≡ the_ran op ∷ []
      rans = ap (ran_in c 1 opening) o.are_frames.requests ∙ ap (λ (call : Option Call). option_map_or (ran_by opening 1) call [] ++ []) called

  -- ---- what the replica sends

  pub may_send : (past : List Entry) (point : Point) (bytes : List ℕ) (message : Message) (receivers : List ℕ) → IsFrameFrom c me message receivers bytes
      → ((rs : List ℕ) → rs ≡ receivers → IsFor c me past message rs) → Each (λ frame. Once (HasSeen frame) past) (carried message)
      → MaySendMessage c me past point (Sent me bytes) bytes message → (SentInEvent bytes past → ⊥) → MaySend c me past point (Sent me bytes) bytes
  may_send past point bytes message receivers f for seen allowed once = record {
    body = record { sender = me; message = message };
    says = f.says;
    own = refl;
    seen = seen;
    allowed = allowed;
    is_sealed = λ frame is.
        let same : f.frame ≡ frame = some_injective f.frame frame (sym f.spells ∙ is) in
        subst (λ (y : Frame). IsSealed c y × IsAddressed c me past message y.authenticator) same (f.is_sealed, addressed);
    leaf = macs_have_no_leaf past bytes f.frame f.entries f.spells f.has_macs;
    once = once;
  }
    where
      addressed : IsAddressed c me past message f.frame.authenticator
      addressed = subst (IsAddressed c me past message) (sym f.has_macs) (for (receivers_of (macs f.entries)) (sym (ap receivers_of f.has_macs) ∙ f.is_for))
