use Rattle.std.proofs.Common.{None, ap, sym, ◌∙◌, arith}
use Rattle.std.proofs.lemmas.List.{get_or_default, get_or_past}
use Rattle.reply_cache.specs.Replies.{last_of}
use Rattle.reply_cache.specs.ReplyView.{kept_if_any}
use Rattle.reply_cache.proofs.Slots.{last-padded, kept-copied}
use Rattle.reply_cache.proofs.cache.ReplyCache.last.Goals as goal

pub returns-then-client-len : goal.returns-then-client-len
returns-then-client-len c =
    let slots = c.self.inside.slots.items in
    let i = c.args.client.number in
    kept-copied c.as_ref.result c.index.result.now c.as_ref.ensures.value
    ∙ ap kept_if_any (c.index.ensures ∙ get_or_default slots i c.index.result.now None (omega arith))
    ∙ sym (last-padded slots i) ∙ ap (λ rs. last_of rs i) c.self.view_is

pub returns-else-client-len : goal.returns-else-client-len
returns-else-client-len c =
    let slots = c.self.inside.slots.items in
    let i = c.args.client.number in
    sym (ap kept_if_any (get_or_past slots i None (omega arith))) ∙ sym (last-padded slots i) ∙ ap (λ rs. last_of rs i) c.self.view_is
