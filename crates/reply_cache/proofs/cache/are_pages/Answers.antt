use Rattle.std.proofs.Common.{◌≡◌, [], map, subst, arith}
use Rattle.std.proofs.lemmas.List.{get_or-map}
use Rattle.reply_cache.specs.Replies.{last_of}
use Rattle.reply_cache.specs.Reading.{EachSpelled}
use Rattle.reply_cache.proofs.Fronts.{SpellsReply-of, EachSpelled-more}
use Rattle.reply_cache.proofs.cache.are_pages.Goals as goal

pub returns-then-not-is_page-clause-only : goal.returns-then-not-is_page-clause-only
returns-then-not-is_page-clause-only c rs are =
    let texts = map (λ page. page.now) c.args.pages.now in
    let i = c.loop-text.text-index in
    let spells = SpellsReply-of texts rs i _ are (omega arith) (get_or-map (λ p. p.now) c.args.pages.now i (record { ref_ptr = (0, 0); now = [] }) [] (omega arith)) in
    let is = c.is_page.ensures.only (last_of rs i) spells in
    let other = c.if-not-is_page.true in
    absurd (let g : ⊥ = cc in g)

pub loop-text-preserved : goal.loop-text-preserved
loop-text-preserved c =
    let texts = map (λ page. page.now) c.args.pages.now in
    let i = c.loop-text.text-index in
    EachSpelled-more texts i _ c.loop-text.invariant
    (get_or-map (λ p. p.now) c.args.pages.now i (record { ref_ptr = (0, 0); now = [] }) [] (omega arith)) (c.is_page.ensures.found c.if-not-is_page.false)

pub returns-clause-found : goal.returns-clause-found
returns-clause-found c _ =
    let texts = map (λ page. page.now) c.args.pages.now in
    let end : c.loop-text.text-index ≡ 256 = omega arith in
    subst (EachSpelled texts) end c.loop-text.invariant
