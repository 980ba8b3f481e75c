-- A received ordered request is in the frame of one.
use Rattle.std.proofs.Common.{◌≡◌, ℕ, true, List, Some, ap, ◌∙◌}
use Rattle.terms.specs.declared.order.Mode.TheVariants as modes
use Rattle.wire_format.specs.Messages.{BodyData as Body, MessageData as Message, request as Request, pre_prepare, new_view}
use Rattle.wire_format.specs.Spelling.{IsMessage, IsPlain, IsCarried, is_ordered_request}
use Rattle.authenticator.specs.Membership.{Membership}
use Rattle.signing.specs.AuthenticBody.{authentic}
use Rattle.signing.proofs.AuthenticBody.{authentic_was_opened}

request_plain : (message : Message) → is_ordered_request message ≡ true → IsMessage message → IsPlain message
request_plain (Request t modes.Ordered op) k h = h
request_plain (Request t modes.ReadOnly op) k h = absurd cc
request_plain (pre_prepare v i b) k h = absurd cc
request_plain (new_view n) k h = absurd cc
request_plain _ k h = absurd cc

pub request_carried : (m : Membership) (me : ℕ) (bytes : List ℕ) (body : Body) → authentic m me bytes ≡ Some body → is_ordered_request body.message ≡ true → IsCarried is_ordered_request bytes
request_carried m me bytes body h kind =
    let o = authentic_was_opened m me bytes body h in
    let k : is_ordered_request o.frame.body.message ≡ true = ap (λ (b : Body). is_ordered_request b.message) o.body_is ∙ kind in
    let v = o.opens.spelled.valid in
    record {
      frame = o.frame;
      spelled = record {
        valid = record { sender = v.sender; message = request_plain o.frame.body.message k v.message; authenticator = v.authenticator; proved = v.proved; short = v.short };
        spelled = o.opens.spelled.spelled;
      };
      sorted = k;
    }
