use Rattle.std.proofs.Common.{◌≡◌, [], map, subst, ◌∙◌, arith}
use Rattle.std.proofs.lemmas.List.{get_or-map, length-map}
use Rattle.std.proofs.lemmas.Result.{err_from_is_err_and}
use Rattle.reply_cache.specs.Replies.{last_of}
use Rattle.reply_cache.specs.ReplyView.{padded}
use Rattle.reply_cache.specs.Reading.{AreRead}
use Rattle.reply_cache.proofs.Fronts.{ArePages-read, ArePages-one, ArePages-each, SpellsReply-of}
use Rattle.reply_cache.proofs.cache.ReplyCache.from_pages.Goals as goal

pub returns-in_err-slot-clause-only : goal.returns-in_err-slot-clause-only
returns-in_err-slot-clause-only c rs are =
    let texts = map (λ page. page.now) c.args.pages.now in
    let i = c.loop-text.text-index in
    let all = are.all in
    let spells = SpellsReply-of texts rs i _ are (omega arith) (get_or-map (λ p. p.now) c.args.pages.now i (record { ref_ptr = (0, 0); now = [] }) [] (omega (arith, length-map c.args.pages.now (λ p. p.now)))) in
    let bad = (c.in_err-slot.ensures {u = tt}).only (last_of rs i) spells in
    let p = err_from_is_err_and c.from_residual.result c.from_residual.ensures.1 in
    rw (p.1, p.2) bad

pub returns-clause-found : goal.returns-clause-found
returns-clause-found c =
    let texts = map (λ page. page.now) c.args.pages.now in
    let end : c.loop-text.text-index ≡ 256 = omega arith in
    ArePages-read texts c.loop-text.slots.items (subst (λ n. AreRead texts c.loop-text.slots.items n) end c.loop-text.invariant) (length-map c.args.pages.now (λ p. p.now) ∙ c.if-pages-ne-MAX_CLIENTS.false)

pub returns-clause-only : goal.returns-clause-only
returns-clause-only c rs are =
    let texts = map (λ page. page.now) c.args.pages.now in
    let end : c.loop-text.text-index ≡ 256 = omega arith in
    ArePages-one texts (padded c.loop-text.slots.items) rs (ArePages-read texts c.loop-text.slots.items (subst (λ n. AreRead texts c.loop-text.slots.items n) end c.loop-text.invariant) are.all) are

pub returns-in_err-slot-clause-memory : goal.returns-in_err-slot-clause-memory
returns-in_err-slot-clause-memory c _ =
    let texts = map (λ page. page.now) c.args.pages.now in
    ArePages-each texts (c.are_pages.ensures.found c.if-not-are_pages.false) (length-map c.args.pages.now (λ p. p.now) ∙ c.if-pages-ne-MAX_CLIENTS.false)

pub returns-in_err-add_slot-clause-memory : goal.returns-in_err-add_slot-clause-memory
returns-in_err-add_slot-clause-memory c _ =
    let texts = map (λ page. page.now) c.args.pages.now in
    ArePages-each texts (c.are_pages.ensures.found c.if-not-are_pages.false) (length-map c.args.pages.now (λ p. p.now) ∙ c.if-pages-ne-MAX_CLIENTS.false)
