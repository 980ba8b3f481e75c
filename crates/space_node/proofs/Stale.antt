-- The answers of a stale replica.
use Rattle.std.proofs.Common.{◌≡◌, ℕ, ◌+◌, List, [], ◌∷◌, Option, sym, ap, ◌∙◌, subst}
use Rattle.std.specs.Prelude.{Result, Ok, Err, IfOk, IfSome}
use Rattle.std.specs.Result.{result_ok}
use Rattle.terms.specs.Parties.{party_number}
use Rattle.terms.specs.declared.parties.Party.{Party}
use Rattle.space.specs.Applying.{no_tuples, outcome}
use Rattle.space.specs.Births.{SpaceState, empty_state, tuples_of}
use Rattle.wire_format.specs.Messages.{MessageData}
use Rattle.wire_format.specs.declared.messages.Reply.{Reply}
use Rattle.authenticator.specs.Membership.{Membership}
use Rattle.read_only.specs.Answering.{RepliesToRead, read_reply, reply_data}
use Rattle.read_only.specs.Receiving.{AuthenticatesRead}
use Rattle.read_only.specs.declared.answering.Shelf.{Shelf}
use Rattle.read_only.specs.declared.receiving.ReadRequest.{ReadRequest}
use Rattle.frame_endpoint.specs.Endpoint.{IsSealedOutgoing, SealsForOne}
use Rattle.events.specs.declared.output.Output.{Output}
use Rattle.space_node.specs.Drills.{IsStale}

-- a property of the result holds of it as an option
pub if_some : {T E : Type 0} (r : Result T E) (o : Option T) (P Q : T → Type 0) → o ≡ result_ok r → ((x : T) → P x → Q x) → IfOk r P → IfSome o Q
if_some (Ok x) o P Q is f p = subst (λ o. IfSome o Q) (sym is) (f x p)
if_some (Err e) o P Q is f p = subst (λ o. IfSome o Q) (sym is) tt

module _ (m : Membership) (me : ℕ) (bytes : List ℕ) (shelf : Shelf) (request : ReadRequest) (reply : Reply)
    (receives : AuthenticatesRead m me bytes request.client.number request.timestamp.0 request.op.now) (answers : RepliesToRead shelf request reply)
    (empty : shelf.space.now ≡ empty_state) (number : shelf.number.0 ≡ 0) where
  says : reply_data reply ≡ read_reply request.client.number request.timestamp.0 0 (outcome no_tuples request.client.number receives.op)
  says =
      (answers receives.op receives.spelled).says
      ∙ (ap (λ (n : ℕ). read_reply request.client.number request.timestamp.0 n (outcome (tuples_of shelf.space.now) request.client.number receives.op)) number
      ∙ ap (λ (s : SpaceState). read_reply request.client.number request.timestamp.0 0 (outcome (tuples_of s) request.client.number receives.op)) empty)

  pub stale : (message : MessageData) (receiver : Party) (output : Output) → message ≡ reply_data reply → party_number receiver ≡ 256 + request.client.number
      → SealsForOne m me message receiver output → IsStale m me bytes output
  stale message receiver output said who sealed = record {
    client = request.client.number;
    timestamp = request.timestamp.0;
    op = receives.op;
    receives = receives.receives;
    read = (answers receives.op receives.spelled).read;
    answers = subst (λ (x : MessageData). IsSealedOutgoing m me x ((256 + request.client.number) ∷ []) output) (said ∙ says)
        (subst (λ (p : ℕ). IsSealedOutgoing m me message (p ∷ []) output) who sealed);
  }
