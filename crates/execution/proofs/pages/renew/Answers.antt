use Rattle.std.proofs.Common.{◌≡◌, ◌∙◌}
use Rattle.protocol.specs.Replica.State.{pages_of}
use Rattle.execution.specs.Running.{state_with}
use Rattle.execution.proofs.Renewing.{all_set, has_all}
use Rattle.execution.proofs.pages.renew.Goals as goal

pub returns-clause-ok : goal.returns-clause-ok
returns-clause-ok c =
    c.in_ok-set_pages.ensures.ok
    ∙ all_set c.args.number.0 c.args.space.now c.args.replies.now c.args.tree.now c.in_ok-pages.pages.items c.requires c.in_ok-pages.ensures

pub returns-clause-has : goal.returns-clause-has
returns-clause-has c =
    let set : c.set_pages.new.self ≡ pages_of (state_with c.args.number.0 c.args.space.now.state c.args.replies.now.replies) =
    c.in_ok-set_pages.ensures.ok
    ∙ all_set c.args.number.0 c.args.space.now c.args.replies.now c.args.tree.now c.in_ok-pages.pages.items c.requires c.in_ok-pages.ensures in
    has_all c.args.number.0 c.untouch.new.self c.untouch-2.new.self c.set_pages.new.self
    (rw (c.untouch.ensures.state, c.untouch-2.ensures.replies) set) c.untouch.ensures.none
