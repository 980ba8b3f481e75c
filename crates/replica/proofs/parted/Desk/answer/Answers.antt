use Rattle.std.proofs.Common.{List, Option, Some, ap, sym, ◌∙◌, subst}
use Rattle.std.proofs.lemmas.Result.{on_ok_weaker}
use Rattle.events.specs.declared.output.Output.{Output}
use Rattle.replica.specs.PartedView.{desk_part}
use Rattle.desk.specs.Reading.{AnswersBytes}
use Rattle.replica.specs.State.{DeskPart}
use Rattle.desk.specs.State.{DeskData}
use Rattle.replica.specs.MemberView.{member_data}
use Rattle.replica.proofs.ReadsLead.{read_leads, read_sends}
use Rattle.replica.proofs.parted.Desk.answer.Goals as goal

pub returns-clause-leads : goal.returns-clause-leads
returns-clause-leads c = λ marks runs. on_ok_weaker c.read.result
    (λ k. rw (← c.self.view_is) (read_leads (desk_part c.self.inside) _ c.in-Some.state c.args.bytes.now c.read.new.outputs.items c.in-Some.is c.self.invariant marks
    (ap (λ (d : DeskData). let p : DeskPart = record { member = member_data c.self.inside.member; holds = Some d } in p) c.read.ensures.same ∙ ap (λ (h : Option DeskData). let p : DeskPart = record { member = member_data c.self.inside.member; holds = h } in p) (sym c.in-Some.is))
    (subst (λ (os : List Output). AnswersBytes c.in-Some.state c.args.bytes.now os c.read.new.outputs.items) c.requires.first k)))
    c.read.ensures.ok

pub returns-clause-meant : goal.returns-clause-meant
returns-clause-meant c = on_ok_weaker c.read.result
    (λ k. rw (← c.self.view_is) (read_sends (desk_part c.self.inside) c.in-Some.state c.args.bytes.now c.read.new.outputs.items c.in-Some.is c.self.invariant
    (subst (λ (os : List Output). AnswersBytes c.in-Some.state c.args.bytes.now os c.read.new.outputs.items) c.requires.first k)))
    c.read.ensures.ok
