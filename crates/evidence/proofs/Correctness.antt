-- What holds of each history of a correct party.
use Rattle.std.proofs.Common.{◌≡◌, ℕ, true, ap, subst}
use Rattle.std.specs.Prelude.{All}
use Rattle.wire_format.specs.Messages.{BodyData as Body, FrameData as Frame, AuthenticatorData as Authenticator, macs, signature, request as Request}
use Rattle.authenticator.specs.Authentic.{mac_of}
use Rattle.signing.specs.AuthenticBody.{has_signature}
use Rattle.protocol.specs.System.Configuration.{Configuration, members}
use Rattle.evidence.specs.Correct.{ClientsHaveOwn, SealsRequests, AsksItsCall, ReplicasAreSafe, ClientsAreSafe}
use Rattle.protocol.proofs.Words.Reacting.{is_replica_right, is_client_right, asks_its_call as call_asked}
use Rattle.protocol.proofs.Points.Reading.{own_entries}
use Rattle.evidence.proofs.Knowing.{body_of_frame}
use Rattle.evidence.proofs.RefusingRuns.{asked_by}

pub replicas_are_safe : ReplicasAreSafe
replicas_are_safe c me history right = is_replica_right c me history right

pub clients_are_safe : ClientsAreSafe
clients_are_safe c me history right = is_client_right c me history right

-- ---- own entries

pub clients_have_own : ClientsHaveOwn
clients_have_own c me history right = own_entries c me history (is_client_right c me history right)

-- ---- what a client sends is its call's request, and sealed

pub asks_its_call : AsksItsCall
asks_its_call c me bytes past right = call_asked c me bytes past right

abbrev IsSealedBy : Configuration → Frame → Authenticator → Type 0
IsSealedBy c frame authenticator = elim authenticator [ macs entries ↦ All (λ x. x.mac ≡ mac_of (members c frame.body.sender).keys x.receiver frame.body) entries | signature s ↦ has_signature c.publics frame ≡ true ]

pub seals_requests : SealsRequests
seals_requests c me bytes frame entries past is authenticator right =
    let asked = asked_by c me bytes past right in
    let asking : Body = record { sender = me; message = Request asked.call.timestamp asked.mode asked.call.op } in
    let own : frame.body.sender ≡ me = ap (λ (b : Body). b.sender) (body_of_frame bytes frame asking is asked.request.says) in
    subst (λ (p : ℕ). All (λ x. x.mac ≡ mac_of (members c p).keys x.receiver frame.body) entries) own
    (subst (λ (p : Authenticator). IsSealedBy c frame p) authenticator (asked.request.is_sealed frame is).0)
