-- The answer to a read, from the executed state.
use Rattle.std.proofs.Common.{◌≡◌, ℕ, ◌+◌, ◌-◌, arith, inl, inr, List, [], Some, refl, sym, ap, ◌∙◌, subst}
use Rattle.terms.specs.declared.order.Mode.TheVariants as modes
use Rattle.tuple_codec.specs.Operations.{IsOperation}
use Rattle.tuple_codec.specs.Reading.{operation_at}
use Rattle.tuple_codec.specs.Spelling.{operation_spelling}
use Rattle.tuple_codec.proofs.Grammar.{one}
use Rattle.tuple_codec.proofs.OperationLaws.{operation_reads}
use Rattle.space.specs.Applying.{is_read_only, outcome}
use Rattle.space.specs.Births.{tuples_of}
use Rattle.wire_format.specs.Messages.{MessageData as Message, reply as Reply}
use Rattle.wire_format.specs.declared.messages.Reply.{Reply as WireReply}
use Rattle.read_only.specs.declared.answering.Shelf.{Shelf}
use Rattle.read_only.specs.declared.receiving.ReadRequest.{ReadRequest}
use Rattle.read_only.specs.Receiving.{AuthenticatesRead}
use Rattle.read_only.specs.Answering as answers
use Rattle.events.specs.declared.output.Output.{Output}
use Rattle.replica_histories.specs.Questions.{read_from, read_reply}
use Rattle.desk.specs.State.{DeskData}
use Rattle.desk.specs.Desking.{SendsToClient, message_of}
use Rattle.desk.specs.Reading.{AnswersBytes}

-- the client that a reply is for
abbrev named : Message → ℕ
named message = elim message [ Reply client t mode number outcome ↦ client | _ ↦ 0 ]

-- The answer to the received read, from the executed state, goes to its client.
pub answered : (d : DeskData) (bytes : List ℕ) (shelf : Shelf) (request : ReadRequest) (reply : WireReply) (before after : List Output)
    → AuthenticatesRead d.membership d.me bytes request.client.number request.timestamp.0 request.op.now → answers.RepliesToRead shelf request reply
    → shelf.space.now ≡ d.executed.state.space → shelf.number.0 ≡ d.executed.state.number
    → SendsToClient d reply.client (message_of reply) before after → AnswersBytes d bytes before after
answered d bytes shelf request reply before after h answer space number says = inl (record {
  client = reply.client;
  timestamp = t;
  op = h.op;
  receives = h.receives ∙ ap (λ k. Some (read_from k t h.op)) (sym same);
  is_read = a.read;
  says = subst (λ (m : Message). SendsToClient d reply.client m before after) said_is says;
})
  where
    t : ℕ
    t = request.timestamp.0

    a : answers.IsReadReply shelf request h.op reply
    a = answer h.op h.spelled

    same : 256 + reply.client.number ≡ 256 + request.client.number
    same = ap named a.says

    client : request.client.number ≡ 256 + reply.client.number - 256
    client = omega (arith, same)

    said_is : message_of reply ≡ read_reply d.executed.state (256 + reply.client.number) t h.op
    said_is = a.says ∙ ap (λ k. Reply k t modes.ReadOnly shelf.number.0 (outcome (tuples_of shelf.space.now) request.client.number h.op)) (sym same)
        ∙ ap (λ n. Reply (256 + reply.client.number) t modes.ReadOnly n (outcome (tuples_of shelf.space.now) request.client.number h.op)) number
        ∙ ap (λ x. Reply (256 + reply.client.number) t modes.ReadOnly d.executed.state.number (outcome (tuples_of x) request.client.number h.op)) space
        ∙ ap (λ i. Reply (256 + reply.client.number) t modes.ReadOnly d.executed.state.number (outcome (tuples_of d.executed.state.space) i h.op)) client

-- What is received, but is no read, is dropped.
pub dropped : (d : DeskData) (bytes : List ℕ) (request : ReadRequest) (before : List Output)
    → AuthenticatesRead d.membership d.me bytes request.client.number request.timestamp.0 request.op.now → answers.SpellsNoRead request.op.now → AnswersBytes d bytes before before
dropped d bytes request before h other =
    inr (inr (256 + request.client.number, request.timestamp.0, h.op, h.receives, ap is_read_only same ∙ other.2), refl)
  where
    same : h.op ≡ other.0
    same = (one IsOperation operation_spelling operation_at operation_reads request.op.now request.op.now [] [] h.op other.0 h.spelled other.1 refl).1
