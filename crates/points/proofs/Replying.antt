-- The number of a reply.
use Rattle.std.proofs.Common.{◌≡◌, ℕ, ◌+◌, ◌<◌, ◌⊎◌, inl, inr, Bool, true, false, ◌&&◌, Option, None, refl, sym, ap, ap₂, ◌∙◌, subst, arith, eq-eqb, Some, List}
use Rattle.std.specs.Prelude.{◌==◌, option_and_then, option_map, slice_index}
use Rattle.std.specs.Bool.{then_some}
use Rattle.std.proofs.lemmas.Bool.{cases_order, ne_eqb}
use Rattle.terms.specs.declared.order.Mode.TheVariants as modes
use Rattle.terms.specs.declared.order.Number.{Number}
use Rattle.tuple_codec.specs.OperationView.{outcome_of}
use Rattle.wire_format.specs.declared.messages.Message.{Message}
use Rattle.wire_format.specs.declared.messages.Message.TheVariants as messages
use Rattle.wire_format.specs.declared.messages.Reply.{Reply}
use Rattle.wire_format.specs.Messages.{AuthenticatorData, BodyData, MessageData, reply}
use Rattle.wire_format.specs.Spelling.{frame_spelling}
use Rattle.wire_format.specs.Views.{message_data}
use Rattle.protocol.specs.System.Frames.{same_mode}
use Rattle.protocol.specs.Client.RightClient.{Vote}
use Rattle.authenticator.specs.Membership.{Membership}
use Rattle.signing.specs.AuthenticBody.{authentic}
use Rattle.signing.proofs.AuthenticBody.{authentic_was_opened}
use Rattle.points.specs.Scanning.{answers, number_in, read_number}

abbrev pub said_by : ℕ → Message → BodyData
said_by s m = record { sender = s; message = message_data m }

abbrev number_of : Option Number → Option ℕ
number_of o = option_map (λ (n : Number). n.0) o

same_client : (a b : ℕ) → (256 + a == 256 + b) ≡ (a == b)
same_client a b = go (cases_order a b)
  where
    go : (a ≡ b) ⊎ ((a < b) ⊎ (b < a)) → (256 + a == 256 + b) ≡ (a == b)
    go (inl e) = eq-eqb (256 + a) (256 + b) (ap (λ n. 256 + n) e) ∙ sym (eq-eqb a b e)
    go (inr (inl l)) = ne_eqb (256 + a) (256 + b) (λ e. omega arith) ∙ sym (ne_eqb a b (λ e. omega arith))
    go (inr (inr l)) = ne_eqb (256 + a) (256 + b) (λ e. omega arith) ∙ sym (ne_eqb a b (λ e. omega arith))

abbrev vote : Reply → Vote
vote r = record { mode = r.kind; number = r.number.0; answer = outcome_of r.answer }

abbrev number_voted : Bool → Reply → Option ℕ
number_voted b r = option_and_then (λ (v : Vote). then_some (same_mode v.mode modes.ReadOnly) v.number) (then_some b (vote r))

said : (client t s : ℕ) (r : Reply) → number_in (256 + client) t (said_by s (messages.Reply r)) ≡ then_some (answers client t r) r.number.0
said client t s r =
    ap₂ (λ (a b : Bool). number_voted ((a && b) && (r.timestamp.0 == t)) r) (eq-eqb s s refl) (same_client r.client.number client)
    ∙ go (r.client.number == client) (r.timestamp.0 == t)
  where
    go : (a b : Bool) → number_voted ((true && a) && b) r ≡ then_some ((a && b) && same_mode r.kind modes.ReadOnly) r.number.0
    go false b = refl
    go true false = refl
    go true true = refl

pub number_said : (client t s : ℕ) (m : Message) (r : Reply) (b : Bool) (o : Option Number) → m ≡ messages.Reply r → b ≡ answers client t r → o ≡ then_some b r.number
    → number_of o ≡ number_in (256 + client) t (said_by s m)
number_said client t s m r b o e f is =
    ap number_of is ∙ go b ∙ ap (λ x. then_some x r.number.0) f ∙ sym (said client t s r) ∙ sym (ap (λ (x : Message). number_in (256 + client) t (said_by s x)) e)
  where
    go : (b : Bool) → number_of (then_some b r.number) ≡ then_some b r.number.0
    go true = refl
    go false = refl

-- a message that is no reply has none
pub none_said : (p t s : ℕ) (m : Message) → ((r : Reply) → m ≡ messages.Reply r → ⊥) → None ≡ number_in p t (said_by s m)
none_said p t s (messages.Reply r) n = absurd (n r refl)
none_said p t s _ n = refl

-- ---- the byte of the kind

-- A frame whose byte 17 isn't that of reads is no read-only reply: a reply has its kind there.
kinded : (p t s : ℕ) (x : MessageData) (a : AuthenticatorData) → (slice_index (frame_spelling (record { body = record { sender = s; message = x }; authenticator = a })) 17 == 1) ≡ false
    → None ≡ number_in p t (record { sender = s; message = x })
kinded p t s (reply client timestamp modes.ReadOnly number outcome) a e = absurd cc
kinded p t s (reply client timestamp modes.Ordered number outcome) a e = go _
  where
    v : Vote
    v = record { mode = modes.Ordered; number = number; answer = outcome }

    go : (b : Bool) → None ≡ option_and_then (λ (w : Vote). then_some (same_mode w.mode modes.ReadOnly) w.number) (then_some b v)
    go true = refl
    go false = refl
kinded p t s _ a e = refl

pub none_kinded : (m : Membership) (p t : ℕ) (bytes : List ℕ) → (slice_index bytes 17 == 1) ≡ false → None ≡ read_number m p t bytes
none_kinded m p t bytes kind = go (authentic m p bytes) refl
  where
    go : (o : Option BodyData) → authentic m p bytes ≡ o → None ≡ option_and_then (number_in p t) o
    go None e = refl
    go (Some body) e =
        let was = authentic_was_opened m p bytes body e in
        let same : (slice_index (frame_spelling was.frame) 17 == 1) ≡ false = sym (ap (λ bs. slice_index bs 17 == 1) was.opens.spelled.spelled) ∙ kind in
        subst (λ b. None ≡ number_in p t b) was.body_is (kinded p t was.frame.body.sender was.frame.body.message was.frame.authenticator same)
