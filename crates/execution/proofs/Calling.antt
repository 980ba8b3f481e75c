-- The calls of frames.
use Rattle.std.proofs.Common.{◌≡◌, ℕ, ◌+◌, ◌-◌, ◌^◌, ◌<◌, ◌≤◌, Bool, true, false, ◌&&◌, List, [], ◌∷◌, length, Option, Some, None, refl, sym, ap, ◌∙◌, subst, arith}
use Rattle.std.specs.Prelude.{option_and_then}
use Rattle.std.proofs.lemmas.Bool.{le-leb, le-ltb, lt-leb, lt-ltb}
use lib.Dec.{eqb, leb, ltb}
use Rattle.terms.specs.Parties.{party_number}
use Rattle.terms.specs.declared.order.Mode.{Mode}
use Rattle.terms.specs.declared.order.Mode.TheVariants as modes
use Rattle.terms.specs.declared.parties.ClientId.{ClientId}
use Rattle.tuple_tree.specs.Values.{AreBytes}
use Rattle.wire.specs.Headers.{IsFrame, HasBody}
use Rattle.wire_format.specs.Lists.{Each}
use Rattle.wire.specs.Marks.{has_type_of_requests}
use Rattle.wire_format.specs.Messages.{BodyData, MessageData, request, pre_prepare}
use Rattle.wire.specs.Requests.{HoldsRequest}
use Rattle.wire_format.specs.Spelling.{message_type}
use Rattle.wire.specs.declared.request_bytes.RequestBytes.{RequestBytes}
use Rattle.wire_format.specs.Words.{requests_of}
use Rattle.wire_format.proofs.Saying.{reads_said}
use Rattle.wire_format.proofs.Telling.{carries_frames, reads_batches}
use Rattle.protocol.specs.System.Configuration.{Configuration, is_client}
use Rattle.protocol.specs.Replica.State.{Call, call_in}
use Rattle.execution.specs.Calls.{HoldsCall, IsCallOfFrame}

-- the call of a frame is that of its body
call_said : (clients : ℕ) (frame : List ℕ) (body : BodyData) (call : Option Call)
    → HasBody frame body → ((c : Configuration) → c.clients ≡ clients → call_in c body ≡ call) → IsCallOfFrame clients frame call
call_said clients frame body call s h = λ c e. ap (option_and_then (call_in c)) (reads_said frame s.0 s.1 ∙ ap Some s.2) ∙ h c e

-- other messages are no calls
no_request : (c : Configuration) (body : BodyData) → eqb (message_type body.message) 0x41 ≡ false → call_in c body ≡ None
no_request c body other = go body.message other
  where
    go : (message : MessageData) → eqb (message_type message) 0x41 ≡ false → call_in c (record { sender = body.sender; message = message }) ≡ None
    go (request timestamp mode op) e = absurd (let g : ⊥ = cc in g)
    go _ e = refl

pub no_call_of_others : (clients : ℕ) (frame : List ℕ) → IsFrame frame → has_type_of_requests frame ≡ false → IsCallOfFrame clients frame None
no_call_of_others clients frame is other =
    call_said clients frame is.0.body None (is.0, is.1, refl) (λ c e. no_request c is.0.body (ap has_type_of_requests (sym is.1.spelled) ∙ other))

module _ (clients : ℕ) (frame : List ℕ) (it : RequestBytes) (holds : HoldsRequest frame it) where
  in_request : (call : Option Call)
      → ((c : Configuration) → c.clients ≡ clients → call_in c (record { sender = party_number it.sender; message = request it.timestamp.0 it.mode holds.op }) ≡ call)
      → IsCallOfFrame clients frame call
  in_request call h = call_said clients frame (record { sender = party_number it.sender; message = request it.timestamp.0 it.mode holds.op }) call holds.body h

  pub no_call_of_reads : it.mode ≡ modes.ReadOnly → IsCallOfFrame clients frame None
  no_call_of_reads e = in_request None (λ c k. ap (λ (m : Mode). call_in c (record { sender = party_number it.sender; message = request it.timestamp.0 m holds.op })) e)

  no_client : (c : Configuration) → is_client c (party_number it.sender) ≡ false → call_in c (record { sender = party_number it.sender; message = request it.timestamp.0 it.mode holds.op }) ≡ None
  no_client c e = go it.mode
    where
      go : (mode : Mode) → call_in c (record { sender = party_number it.sender; message = request it.timestamp.0 mode holds.op }) ≡ None
      go modes.ReadOnly = refl
      go modes.Ordered = rw e refl

  pub no_call_of_replicas : party_number it.sender < 256 → IsCallOfFrame clients frame None
  no_call_of_replicas below = in_request None (λ c k. no_client c (ap (λ b. b && ltb (party_number it.sender) (256 + c.clients)) (lt-leb 256 (party_number it.sender) below)))

  -- only clients of the configuration call
  stranger : (c : Configuration) (sender : ℕ) → 256 + c.clients ≤ sender → is_client c sender ≡ false
  stranger c sender many = go (leb 256 sender)
    where
      over : ltb sender (256 + c.clients) ≡ false
      over = le-ltb sender (256 + c.clients) many

      go : (b : Bool) → (b && ltb sender (256 + c.clients)) ≡ false
      go true = over
      go false = refl

  pub no_call_of_strangers : (number : ℕ) → party_number it.sender ≡ 256 + number → clients ≤ number → IsCallOfFrame clients frame None
  no_call_of_strangers number from many = in_request None (λ c k. no_client c (stranger c (party_number it.sender) (omega (arith, many, k, from))))

  module _ (client : ClientId) (from : party_number it.sender ≡ 256 + client.number) where
    found : (c : Configuration) → c.clients ≡ clients → client.number < clients
        → call_in c (record { sender = 256 + client.number; message = request it.timestamp.0 modes.Ordered holds.op }) ≡ Some (record { client = client.number; timestamp = it.timestamp.0; op = holds.op })
    found c k few =
        let low : leb 256 (256 + client.number) ≡ true = le-leb 256 (256 + client.number) (omega arith) in
        let high : ltb (256 + client.number) (256 + c.clients) ≡ true = lt-ltb (256 + client.number) (256 + c.clients) (omega (arith, few, k)) in
        let back : 256 + client.number - 256 ≡ client.number = omega arith in
        rw (low, high, back) refl

    pub holds_call : client.number < clients → it.mode ≡ modes.Ordered → HoldsCall clients frame client it
    holds_call few ordered = record {
      op = holds.op;
      call = in_request (Some (record { client = client.number; timestamp = it.timestamp.0; op = holds.op })) (λ c k.
          ap (λ (m : Mode). call_in c (record { sender = party_number it.sender; message = request it.timestamp.0 m holds.op })) ordered
          ∙ ap (λ (s : ℕ). call_in c (record { sender = s; message = request it.timestamp.0 modes.Ordered holds.op })) from
          ∙ found c k few);
      spelled = holds.spelled;
      known = few;
    }

-- the requests of a batch are frames
pub requests_are_frames : (text : List ℕ) → AreBytes text → Each IsFrame (requests_of text)
requests_are_frames text bytes = go (requests_of text) refl
  where
    go : (frames : List (List ℕ)) → requests_of text ≡ frames → Each IsFrame (requests_of text)
    go [] e = subst (Each IsFrame) (sym e) tt
    go (x ∷ xs) e =
        let some : 1 ≤ length (requests_of text) = omega (arith, ap length e) in
        let small : 0 < 2 ^ 64 = omega arith in
        carries_frames (pre_prepare 0 0 text) (small, small, reads_batches text bytes some)
