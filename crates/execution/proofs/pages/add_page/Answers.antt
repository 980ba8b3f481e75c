use Rattle.std.proofs.Common.{◌≡◌, ◌+◌, List, [], ◌∷◌, ◌++◌, sym, ap, ◌∙◌, subst}
use Rattle.reply_cache.specs.Replies.{Replies}
use Rattle.partition_tree.specs.declared.page.Page.{Page}
use Rattle.protocol.specs.Replica.State.{page_text}
use Rattle.execution.specs.Running.{state_with}
use Rattle.execution.specs.Touching.{is_page_touched, AreRenewed}
use Rattle.execution.proofs.Renewing.{passed_page, renewed_page}
use Rattle.execution.proofs.pages.add_page.Goals as goal

pub returns-then-not-is_touched : goal.returns-then-not-is_touched
returns-then-not-is_touched c =
    let st = state_with c.args.number.0 c.args.space.now.state c.args.replies.now.replies in
    passed_page st (is_page_touched c.args.space.now c.args.replies.now) c.args.pages.now.items c.args.index (sym c.is_touched.ensures ∙ c.if-not-is_touched.true)

pub returns : goal.returns
returns c = λ h.
    let page : Page = record { index = c.args.index; text = c.in_ok-text.text; in_range = c.push-arg-2-1.given.0 } in
    let pushed : c.push.new.self.items ≡ c.args.pages.now.items ++ page ∷ [] = (c.in_ok-push.ensures {u = tt}).items in
    let n = c.args.number.0 in
    let space = c.args.space.now.state in
    let replies = c.args.replies.now.replies in
    let text =
    c.in_ok-text.ensures
    ∙ ap (λ (r : Replies). page_text (state_with n space r) c.args.index) c.replies.ensures in
    let touched = is_page_touched c.args.space.now c.args.replies.now in
    subst (λ (pages : List Page). AreRenewed (state_with n space replies) touched pages (c.args.index + 1)) (sym pushed)
    (renewed_page (state_with n space replies) touched c.args.pages.now.items page text h)
