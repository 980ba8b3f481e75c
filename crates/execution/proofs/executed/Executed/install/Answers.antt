use Rattle.std.proofs.Common.{◌≡◌, ℕ, ◌≤◌, sym, ap, ◌∙◌, subst}
use Rattle.reply_cache.specs.Replies.{Replies, seen_of}
use Rattle.execution.specs.Executed.{ExecutedData}
use Rattle.execution.specs.Running.{state_with}
use Rattle.execution.proofs.Restoring.{keeps_read, none_replaces}
use Rattle.execution.proofs.executed.Executed.install.Goals as goal

pub invariant_of-self : goal.invariant_of-self
invariant_of-self c =
    keeps_read c.args.number.0 c.self.inside.clients c.args.pages c.untouch.new.self c.untouch-2.new.self c.in-Ok.state.0 c.in-Ok.state.1 c.self.invariant.few
    (c.untouch.ensures.state ∙ c.of.ensures.state) (c.untouch-2.ensures.replies ∙ c.of-2.ensures.replies) (c.in-Ok.ensures {u = tt}).found
    c.untouch.ensures.none

pub returns-then-not-none_falls-clause-none : goal.returns-then-not-none_falls-clause-none
returns-then-not-none_falls-clause-none c e =
    let same : c.args.self.now.state.replies ≡ c.replies.result.now = ap (λ (x : ExecutedData). x.state.replies) (sym c.self.view_is) ∙ sym c.replies.ensures in
    none_replaces c.args.self.now.state (state_with c.args.number.0 c.in-Ok.state.0 c.in-Ok.state.1) c.args.number.0 c.args.pages (c.in-Ok.ensures {u = tt}).found
    (λ none. let is = c.none_falls.ensures.1 (subst (λ (rs : Replies). (client : ℕ) → seen_of rs client ≤ seen_of c.in-Ok.state.1 client) same none) in cc)
