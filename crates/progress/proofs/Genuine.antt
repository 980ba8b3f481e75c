-- Each replica receives what a correct client seals for all, so a batch of such requests is authentic to each.
use Rattle.std.proofs.Common.{◌≡◌, ℕ, ◌+◌, ◌<◌, ◌≤◌, true, List, refl, sym, ap, subst, arith}
use Rattle.std.specs.Prelude.{is_some}
use Rattle.std.proofs.lemmas.Bool.{and_parts, ltb-true}
use Rattle.terms.specs.declared.order.Mode.TheVariants as modes
use Rattle.wire_format.specs.Messages.{request as Request}
use Rattle.wire_format.specs.Words.{requests_of}
use Rattle.signing.specs.AuthenticBody.{authentic}
use Rattle.protocol.specs.System.Configuration.{Configuration, IsConfiguration, replicas, is_replica, is_client, is_correct_replica, is_correct_client, members}
use Rattle.protocol.specs.System.Trace.{Has}
use Rattle.protocol.specs.Client.RightClient.{OpenCall, IsRequest}
use Rattle.protocol.proofs.Words.Elements.{all_of_each}
use Rattle.evidence.proofs.Knowing.{DoExchange, clients_exchange}
use Rattle.progress.specs.Normal.{CorrectRequestsAreGenuine}
use Rattle.progress.proofs.Receiving.{Heard, sealed_is_authentic}
use Rattle.progress.proofs.Answering.{in_range}

request_is_heard : (c : Configuration) → IsConfiguration c → (k : ℕ) (call : OpenCall) (bytes : List ℕ) → is_correct_client c (256 + k) ≡ true → IsRequest c (256 + k) modes.Ordered call bytes
    → (r : ℕ) → is_correct_replica c r ≡ true → Heard c (256 + k) r (Request call.timestamp modes.Ordered call.op) bytes
request_is_heard c setting k call bytes client request r correct =
    sealed_is_authentic c (256 + k) r (Request call.timestamp modes.Ordered call.op) bytes request.says
    (λ frame is plain.
    let s = request.is_sealed frame is in
    let l = small in
    (s.0, subst (λ (xs : List ℕ). Has (λ x. x ≡ r) xs) (sym s.1) (in_range 0 (replicas c) r (omega arith) (omega arith))))
    refl (and_parts (is_client c (256 + k)) _ client).0 both
  where
    small : r < replicas c
    small = ltb-true r (replicas c) (and_parts (is_replica c r) _ correct).0

    both : DoExchange c (256 + k) r
    both =
        let few : replicas c ≤ 256 = (let m = setting.most in omega arith) in
        clients_exchange c few (256 + k) r (and_parts (is_client c (256 + k)) _ client).0 (and_parts (is_replica c r) _ correct).0

pub correct_requests_are_genuine : CorrectRequestsAreGenuine
correct_requests_are_genuine c setting batch each r correct =
    all_of_each (λ frame. (k : ℕ) × (call : OpenCall) × (is_correct_client c (256 + k) ≡ true) × IsRequest c (256 + k) modes.Ordered call frame) (λ frame. is_some (authentic (members c r) r frame))
    (λ frame h. ap is_some (request_is_heard c setting h.0 h.1 frame h.2 h.3 r correct).receives) (requests_of batch) each
