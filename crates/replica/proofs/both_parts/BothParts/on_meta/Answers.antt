use Rattle.std.proofs.Common.{Bool, false, List, subst}
use Rattle.wire_format.specs.Messages.{meta}
use Rattle.events.specs.declared.output.Output.{Output}
use Rattle.replica.specs.declared.taking.DueWork.TheVariants as due_work
use Rattle.replica.specs.State.{BothPartsData}
use Rattle.replica.specs.BothPartsView.{both_parts_data}
use Rattle.replica.specs.Entering.{TakesMessage}
use Rattle.replica.specs.Fetching.{FetchesNextPart, InstallsFetchedState}
use Rattle.replica.proofs.PartsEnd.{digests_install, digests_end}
use Rattle.replica.proofs.Parts.{digests_dropped, digests_asked}
use Rattle.replica.proofs.both_parts.BothParts.on_meta.Goals as goal

pub returns-then-not-take_digests-clause-ok : goal.returns-then-not-take_digests-clause-ok
returns-then-not-take_digests-clause-ok c = rw (← c.self.view_is) (λ bytes h.
    digests_dropped (both_parts_data c.self.inside) c.self.invariant bytes c.args.sender.0 c.take_digests.new.self c.args.outputs.now.items c.args.message.now h c.if-not-take_digests.ensures c.requires.first)

pub returns-then-branch-clause-ok : goal.returns-then-branch-clause-ok
returns-then-branch-clause-ok c = rw (← c.self.view_is) (λ bytes h.
    digests_asked (both_parts_data c.self.inside) c.self.invariant bytes c.args.sender.0 c.take_digests.new.self c.ask_next.new.outputs.items c.args.outputs.now.items c.requires.first c.ask_next.new.self
    (subst (λ (b : Bool). FetchesNextPart (both_parts_data (record c.self.inside { desk = c.take_digests.new.self })) c.args.outputs.now.items c.ask_next.new.self c.ask_next.new.outputs.items b) c.if-branch.true c.in_ok-ask_next.ensures.ok)
    c.args.message.now h c.if-not-take_digests.ensures)

pub returns-then-branch-2-clause-ok : goal.returns-then-branch-2-clause-ok
returns-then-branch-2-clause-ok c =
    let m = c.args.message.now in
    subst (λ (r : BothPartsData). TakesMessage c.args.sender (meta m.number.0 m.level m.index m.digests.items) r due_work.State c.install.new.self c.install.new.outputs.items) c.self.view_is
    (digests_install (both_parts_data c.self.inside) c.self.invariant c.args.sender m c.take_digests.new.self c.ask_next.new.self c.install.new.self c.ask_next.new.outputs.items c.install.new.outputs.items
    c.if-not-take_digests.ensures
    (subst (λ (os : List Output). FetchesNextPart (both_parts_data (record c.self.inside { desk = c.take_digests.new.self })) os c.ask_next.new.self c.ask_next.new.outputs.items false) c.requires.first
    (subst (FetchesNextPart (both_parts_data (record c.self.inside { desk = c.take_digests.new.self })) c.args.outputs.now.items c.ask_next.new.self c.ask_next.new.outputs.items) c.if-branch.false c.in_ok-ask_next.ensures.ok))
    (subst (InstallsFetchedState c.ask_next.new.self c.ask_next.new.outputs.items c.install.new.self c.install.new.outputs.items) c.if-branch-2.true c.in_ok-install.ensures.ok))

pub returns-clause-ok : goal.returns-clause-ok
returns-clause-ok c =
    let m = c.args.message.now in
    subst (λ (r : BothPartsData). TakesMessage c.args.sender (meta m.number.0 m.level m.index m.digests.items) r due_work.Nothing c.install.new.self c.install.new.outputs.items) c.self.view_is
    (digests_end (both_parts_data c.self.inside) c.self.invariant c.args.sender m c.take_digests.new.self c.ask_next.new.self c.install.new.self c.ask_next.new.outputs.items c.install.new.outputs.items
    c.if-not-take_digests.ensures
    (subst (λ (os : List Output). FetchesNextPart (both_parts_data (record c.self.inside { desk = c.take_digests.new.self })) os c.ask_next.new.self c.ask_next.new.outputs.items false) c.requires.first
    (subst (FetchesNextPart (both_parts_data (record c.self.inside { desk = c.take_digests.new.self })) c.args.outputs.now.items c.ask_next.new.self c.ask_next.new.outputs.items) c.if-branch.false c.in_ok-ask_next.ensures.ok))
    (subst (InstallsFetchedState c.ask_next.new.self c.ask_next.new.outputs.items c.install.new.self c.install.new.outputs.items) c.if-branch-2.false c.in_ok-install.ensures.ok))
