use Rattle.std.proofs.Common.{◌-◌, ◌∙◌, arith, sym}
use Rattle.execution.proofs.Calling.{holds_call, no_call_of_others, no_call_of_reads, no_call_of_replicas, no_call_of_strangers}
use Rattle.execution.proofs.calls.call_in.Goals as goal

pub returns-then-not-has_type_of_requests-clause-none : goal.returns-then-not-has_type_of_requests-clause-none
returns-then-not-has_type_of_requests-clause-none c none =
    no_call_of_others c.args.clients c.args.frame.now c.requires (sym c.has_type_of_requests.ensures ∙ c.if-not-has_type_of_requests.true)

pub returns-then-sender-lt-FIRST_CLIENT-clause-none : goal.returns-then-sender-lt-FIRST_CLIENT-clause-none
returns-then-sender-lt-FIRST_CLIENT-clause-none c none =
    no_call_of_replicas c.args.clients c.args.frame.now c.request_in-request.result c.request_in-request.ensures (omega (arith, c.number-sender.ensures, c.if-sender-lt-FIRST_CLIENT.true))

pub returns-then-number-clients-clause-none : goal.returns-then-number-clients-clause-none
returns-then-number-clients-clause-none c none =
    no_call_of_strangers c.args.clients c.args.frame.now c.request_in-request.result c.request_in-request.ensures (c.number-sender.result - 256)
    (omega (arith, c.number-sender.ensures, c.if-sender-lt-FIRST_CLIENT.false)) c.if-number-clients.true

pub returns-in-Ordered-clause-some : goal.returns-in-Ordered-clause-some
returns-in-Ordered-clause-some c =
    holds_call c.args.clients c.args.frame.now c.request_in-request.result c.request_in-request.ensures _
    (omega (arith, c.number-sender.ensures, c.if-sender-lt-FIRST_CLIENT.false)) (omega (arith, c.if-number-clients.false)) c.in-Ordered.is

pub returns-in-ReadOnly-clause-none : goal.returns-in-ReadOnly-clause-none
returns-in-ReadOnly-clause-none c none =
    no_call_of_reads c.args.clients c.args.frame.now c.request_in-request.result c.request_in-request.ensures c.in-ReadOnly.is
