use Rattle.std.proofs.Common.{List, ap, ◌∙◌, subst}
use Rattle.events.specs.declared.output.Output.{Output}
use Rattle.replica.specs.State.{BothPartsData}
use Rattle.desk.specs.State.{DeskData}
use Rattle.replica.specs.BothPartsView.{both_parts_data}
use Rattle.replica.specs.declared.taking.DueWork.TheVariants as due_work
use Rattle.desk.specs.declared.arriving.Arrival.TheVariants as arrivals
use Rattle.replica.proofs.Desking.{PaysAgain, pays_kept}
use Rattle.desk.specs.Desking.{HasReply, RequestWaits}
use Rattle.desk.specs.Arriving.{IsArrival}
use Rattle.replica.specs.Entering.{TakesRequest}
use Rattle.replica.proofs.Requests.{all_again, request_kept, request_past, request_again, request_new}
use Rattle.replica.proofs.both_parts.BothParts.on_request.Goals as goal

pub returns-then-branch-clause-ok : goal.returns-then-branch-clause-ok
returns-then-branch-clause-ok c =
    let client = c.args.client in
    let time = c.args.timestamp in
    let frame = c.args.frame.now in
    let d = c.self.inside.desk in
    let outs = c.reply_again.new.outputs.items in
    let new : BothPartsData = both_parts_data (record c.self.inside { desk = c.reply_again.new.self }) in
    subst (λ (a : BothPartsData). TakesRequest client time frame a due_work.Nothing new outs) c.self.view_is
    (request_kept (both_parts_data c.self.inside) client time frame new outs c.self.invariant
    (ap (λ (x : DeskData). both_parts_data (record c.self.inside { desk = x })) c.in_ok-reply_again.ensures.same)
    (subst (λ (x : List Output). PaysAgain d client time x outs) c.requires.first
    (pays_kept d client time c.args.outputs.now.items outs (c.in_ok-reply_again.ensures.again c.if-branch.true)))
    (subst (HasReply d client time) c.if-branch.true c.in_ok-reply_again.ensures.has))

pub returns-in-Past-clause-ok : goal.returns-in-Past-clause-ok
returns-in-Past-clause-ok c =
    let client = c.args.client in
    let time = c.args.timestamp in
    let frame = c.args.frame.now in
    let d = c.self.inside.desk in
    let outs = c.reply_again.new.outputs.items in
    let new : BothPartsData = both_parts_data (record c.self.inside { desk = c.reply_again.new.self }) in
    subst (λ (a : BothPartsData). TakesRequest client time frame a due_work.Nothing new outs) c.self.view_is
    (request_past (both_parts_data c.self.inside) client time frame new outs c.self.invariant
    (ap (λ (x : DeskData). both_parts_data (record c.self.inside { desk = x })) c.in_ok-reply_again.ensures.same)
    (subst (HasReply d client time) c.if-branch.false c.in_ok-reply_again.ensures.has)
    (ap (λ o. o.items) (c.in_ok-reply_again.ensures.silent c.if-branch.false) ∙ c.requires.first)
    (subst (λ (x : DeskData). IsArrival x client time frame arrivals.Past) c.in_ok-reply_again.ensures.same
    c.in-Past.ensures))

pub returns-in_ok-multicast_all_again-in-Waiting-clause-ok : goal.returns-in_ok-multicast_all_again-in-Waiting-clause-ok
returns-in_ok-multicast_all_again-in-Waiting-clause-ok c =
    let client = c.args.client in
    let time = c.args.timestamp in
    let frame = c.args.frame.now in
    let d = c.self.inside.desk in
    let new = c.multicast_all_again.new.self in
    let outs = c.multicast_all_again.new.outputs.items in
    let mid : BothPartsData = both_parts_data (record c.self.inside { desk = c.reply_again.new.self }) in
    subst (λ (a : BothPartsData). TakesRequest client time frame a due_work.Nothing new outs) c.self.view_is
    (request_again (both_parts_data c.self.inside) client time frame new outs c.self.invariant
    (c.in_ok-multicast_all_again-in-Waiting.ensures.same
    ∙ ap (λ (x : DeskData). both_parts_data (record c.self.inside { desk = x })) c.in_ok-reply_again.ensures.same)
    (subst (HasReply d client time) c.if-branch.false c.in_ok-reply_again.ensures.has)
    (subst (λ (x : DeskData). IsArrival x client time frame arrivals.Waiting) c.in_ok-reply_again.ensures.same
    c.in-Waiting.ensures)
    (all_again mid (both_parts_data c.self.inside) new c.reply_again.new.outputs.items outs
    (ap (λ (x : DeskData). both_parts_data (record c.self.inside { desk = x })) c.in_ok-reply_again.ensures.same)
    c.in_ok-multicast_all_again-in-Waiting.ensures.ok
    (ap (λ o. o.items) (c.in_ok-reply_again.ensures.silent c.if-branch.false) ∙ c.requires.first)))

pub returns-in_ok-wait-in-New-clause-ok : goal.returns-in_ok-wait-in-New-clause-ok
returns-in_ok-wait-in-New-clause-ok c =
    let client = c.args.client in
    let time = c.args.timestamp in
    let frame = c.args.frame.now in
    let d = c.self.inside.desk in
    let later = c.wait.new.self in
    let outs = c.reply_again.new.outputs.items in
    let new : BothPartsData = both_parts_data (record c.self.inside { desk = c.wait.new.self }) in
    subst (λ (a : BothPartsData). TakesRequest client time frame a due_work.Waiting new outs) c.self.view_is
    (request_new (both_parts_data c.self.inside) client time frame later outs c.self.invariant
    (subst (HasReply d client time) c.if-branch.false c.in_ok-reply_again.ensures.has)
    (ap (λ o. o.items) (c.in_ok-reply_again.ensures.silent c.if-branch.false) ∙ c.requires.first)
    (subst (λ (x : DeskData). IsArrival x client time frame arrivals.New) c.in_ok-reply_again.ensures.same
    c.in-New.ensures)
    (subst (λ (x : DeskData). RequestWaits client time frame x later) c.in_ok-reply_again.ensures.same
    c.in_ok-wait-in-New.ensures.ok))
