-- Which replies count at a client.
use Rattle.std.proofs.Common.{◌≡◌, ℕ, Bool, true, false, List, refl, sym, ap, ◌∙◌, ◌&&◌, Option, Some, None, eqb-true, eq-eqb}
use Rattle.std.specs.Prelude.{◌==◌, option_and_then}
use Rattle.std.proofs.lemmas.Bool.{and_parts}
use Rattle.std.specs.Bool.{then_some}
use Rattle.tuple_codec.specs.Operations.{Outcome}
use Rattle.protocol.specs.System.Configuration.{Configuration, members}
use Rattle.terms.specs.declared.order.Mode.{Mode}
use Rattle.terms.specs.declared.order.Mode.TheVariants as modes
use Rattle.wire_format.specs.Messages.{BodyData as Body, MessageData as Message, reply as Reply}
use Rattle.signing.specs.AuthenticBody.{authentic}
use Rattle.protocol.specs.System.Trace.{Entry, Receives}
use Rattle.protocol.specs.System.Trace.Entry.{Invoke, Got}
use Rattle.protocol.specs.Client.RightClient.{Vote, reply_vote, later_vote, latest}
use Rattle.evidence.specs.Clients.{ReceivedIsLatest, LatestStays, CallsForget}

abbrev vote_in : Mode → ℕ → Outcome → Vote
vote_in mode number answer = record { mode = mode; number = number; answer = answer }

-- a vote of its own mode comes first
first : (mode : Mode) (number : ℕ) (answer : Outcome) (earlier : Option Vote) → later_vote mode (Some (vote_in mode number answer)) earlier ≡ Some (vote_in mode number answer)
first modes.Ordered number answer earlier = refl
first modes.ReadOnly number answer earlier = refl

pub received_is_latest : ReceivedIsLatest
unfolding latest
received_is_latest c me s timestamp number mode answer bytes past receives = rw receives (rw (eq-eqb s s refl, eq-eqb me me refl, eq-eqb timestamp timestamp refl) (first mode number answer _))

-- a vote of the other mode leaves it
other : (mode different : Mode) (number : ℕ) (answer : Outcome) (earlier : Option Vote) → (different ≡ mode → ⊥) → later_vote mode (Some (vote_in different number answer)) earlier ≡ earlier
other modes.Ordered modes.Ordered number answer earlier differ = absurd (differ refl)
other modes.ReadOnly modes.ReadOnly number answer earlier differ = absurd (differ refl)
other modes.Ordered modes.ReadOnly number answer earlier differ = refl
other modes.ReadOnly modes.Ordered number answer earlier differ = refl

-- a vote on another call, or of another replica or mode
left : (c : Configuration) (me s timestamp : ℕ) (mode : Mode) (p : ℕ) (bytes : List ℕ) (past : List Entry) (earlier : Option Vote)
    → ((number : ℕ) (answer : Outcome) → Receives c me (record { sender = s; message = Reply me timestamp mode number answer }) past (Got p bytes) → ⊥)
    → (o : Option Body) → authentic (members c me) me bytes ≡ o → later_vote mode (option_and_then (reply_vote me timestamp s) o) earlier ≡ earlier
left c me s timestamp mode p bytes past earlier never None receives = refl
left c me s timestamp mode p bytes past earlier never (Some body) receives = go body.message refl
  where
    reply : (client t : ℕ) (different : Mode) (number : ℕ) (answer : Outcome) → body.message ≡ Reply client t different number answer → (b : Bool) → ((body.sender == s) && (client == me) && (t == timestamp)) ≡ b
        → later_vote mode (then_some b (vote_in different number answer)) earlier ≡ earlier
    reply client t different number answer is true e =
        let k = and_parts ((body.sender == s) && (client == me)) (t == timestamp) e in
        let l = and_parts (body.sender == s) (client == me) k.0 in
        other mode different number answer earlier (λ same. never number answer (receives ∙ ap Some (whole (eqb-true body.sender s l.0) (eqb-true client me l.1) (eqb-true t timestamp k.1) same)))
      where
        whole : body.sender ≡ s → client ≡ me → t ≡ timestamp → different ≡ mode → body ≡ record { sender = s; message = Reply me timestamp mode number answer }
        whole a b d f = rw (sym a, sym b, sym d, sym f) (ap (λ (m : Message). (let x : Body = record { sender = body.sender; message = m } in x)) is)
    reply client t different number answer is false e = refl

    go : (m : Message) → body.message ≡ m → later_vote mode (reply_vote me timestamp s (record body { message = m })) earlier ≡ earlier
    go (Reply client t different number answer) is = reply client t different number answer is ((body.sender == s) && (client == me) && (t == timestamp)) refl
    go _ is = refl

pub latest_stays : LatestStays
unfolding latest
latest_stays c me s timestamp mode (Got p bytes) past no_call never = left c me s timestamp mode p bytes past (latest c me past timestamp mode s) never (authentic (members c me) me bytes) refl
latest_stays c me s timestamp mode (Invoke k t op) past no_call never = absurd (no_call k t op refl)
latest_stays c me s timestamp mode _ past no_call never = refl

pub calls_forget : CallsForget
unfolding latest
calls_forget c me s k timestamp mode op past = refl
