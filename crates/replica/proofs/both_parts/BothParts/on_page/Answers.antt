use Rattle.std.proofs.Common.{Bool, false, List, Option, subst, sym}
use Rattle.wire_format.specs.Messages.{page}
use Rattle.events.specs.declared.output.Output.{Output}
use Rattle.replica.specs.declared.taking.DueWork.TheVariants as due_work
use Rattle.replica.specs.State.{BothPartsData}
use Rattle.replica.specs.BothPartsView.{both_parts_data}
use Rattle.replica.specs.Entering.{TakesMessage}
use Rattle.replica.specs.Fetching.{FetchesNextPart, InstallsFetchedState}
use Rattle.desk.specs.Fetching.{TakesPage}
use Rattle.replica.proofs.PartsEnd.{page_installs, page_ends}
use Rattle.desk.specs.declared.transfer.Taken.{Taken}
use Rattle.replica.proofs.Parts.{page_dropped, page_asked}
use Rattle.replica.proofs.both_parts.BothParts.on_page.Goals as goal

pub returns-in_default-clause-ok : goal.returns-in_default-clause-ok
returns-in_default-clause-ok c = rw (← c.self.view_is) (λ bytes h.
    page_dropped (both_parts_data c.self.inside) c.self.invariant bytes c.args.sender.0 c.take_page.new.self c.args.outputs.now.items c.args.message.now h
    (subst (λ (taken : Option Taken). TakesPage c.self.inside.desk c.args.message.now c.take_page.new.self taken) c.in_default.is c.in_ok-taken.ensures.ok) c.requires.first)

pub returns-then-branch-clause-ok : goal.returns-then-branch-clause-ok
returns-then-branch-clause-ok c = rw (← c.self.view_is) (λ bytes h.
    page_asked (both_parts_data c.self.inside) c.self.invariant bytes c.args.sender.0 c.take_page.new.self c.ask_next.new.outputs.items c.args.outputs.now.items c.requires.first c.ask_next.new.self
    (subst (λ (b : Bool). FetchesNextPart (both_parts_data (record c.self.inside { desk = c.take_page.new.self })) c.args.outputs.now.items c.ask_next.new.self c.ask_next.new.outputs.items b) c.if-branch.true c.in_ok-ask_next.ensures.ok)
    c.args.message.now c.in-Some.taken h
    (subst (λ (taken : Option Taken). TakesPage c.self.inside.desk c.args.message.now c.take_page.new.self taken) c.in-Some.is c.in_ok-taken.ensures.ok))

pub returns-then-branch-2-clause-ok : goal.returns-then-branch-2-clause-ok
returns-then-branch-2-clause-ok c =
    let m = c.args.message.now in
    subst (λ (r : BothPartsData). TakesMessage c.args.sender (page m.number.0 m.index m.text.items) r due_work.State c.install.new.self c.install.new.outputs.items) c.self.view_is
    (page_installs (both_parts_data c.self.inside) c.self.invariant c.args.sender m c.in-Some.taken c.take_page.new.self c.ask_next.new.self c.install.new.self c.ask_next.new.outputs.items c.install.new.outputs.items
    (subst (TakesPage c.self.inside.desk m c.take_page.new.self) c.in-Some.is c.in_ok-taken.ensures.ok)
    (subst (λ (os : List Output). FetchesNextPart (both_parts_data (record c.self.inside { desk = c.take_page.new.self })) os c.ask_next.new.self c.ask_next.new.outputs.items false) c.requires.first
    (subst (FetchesNextPart (both_parts_data (record c.self.inside { desk = c.take_page.new.self })) c.args.outputs.now.items c.ask_next.new.self c.ask_next.new.outputs.items) c.if-branch.false c.in_ok-ask_next.ensures.ok))
    (subst (InstallsFetchedState c.ask_next.new.self c.ask_next.new.outputs.items c.install.new.self c.install.new.outputs.items) c.if-branch-2.true c.in_ok-install.ensures.ok))

pub returns-clause-ok : goal.returns-clause-ok
returns-clause-ok c =
    let m = c.args.message.now in
    subst (λ (r : BothPartsData). TakesMessage c.args.sender (page m.number.0 m.index m.text.items) r due_work.Nothing (both_parts_data (record c.self-2.inside { desk = c.put_back.new.self })) c.install.new.outputs.items) c.self.view_is
    (page_ends (both_parts_data c.self.inside) c.self.invariant c.args.sender m c.in-Some.taken c.take_page.new.self c.ask_next.new.self (both_parts_data c.self-2.inside) c.ask_next.new.outputs.items c.install.new.outputs.items
    (subst (TakesPage c.self.inside.desk m c.take_page.new.self) c.in-Some.is c.in_ok-taken.ensures.ok)
    (subst (λ (os : List Output). FetchesNextPart (both_parts_data (record c.self.inside { desk = c.take_page.new.self })) os c.ask_next.new.self c.ask_next.new.outputs.items false) c.requires.first
    (subst (FetchesNextPart (both_parts_data (record c.self.inside { desk = c.take_page.new.self })) c.args.outputs.now.items c.ask_next.new.self c.ask_next.new.outputs.items) c.if-branch.false c.in_ok-ask_next.ensures.ok))
    c.put_back.new.self
    (subst (λ (r : BothPartsData). InstallsFetchedState c.ask_next.new.self c.ask_next.new.outputs.items r c.install.new.outputs.items false) (sym c.self-2.view_is)
    (subst (InstallsFetchedState c.ask_next.new.self c.ask_next.new.outputs.items c.install.new.self c.install.new.outputs.items) c.if-branch-2.false c.in_ok-install.ensures.ok))
    c.put_back.ensures)
