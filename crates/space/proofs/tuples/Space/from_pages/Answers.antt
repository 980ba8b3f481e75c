use Rattle.std.proofs.Common.{map, ◌∙◌}
use Rattle.std.proofs.lemmas.List.{length-map}
use Rattle.space.proofs.Restoring.{ArePages-read, ArePages-one, MayBePages-read}
use Rattle.space.proofs.tuples.Space.from_pages.Goals as goal

pub returns-in_ok-space-in-Some-clause-found : goal.returns-in_ok-space-in-Some-clause-found
returns-in_ok-space-in-Some-clause-found c =
    ArePages-read (map (λ page. page.now) c.args.pages.now) c.args.header.now c.in_ok-space-in-Some.space c.in-Some.head.version c.in-Some.head.number c.in-Some.head.next
    (length-map c.args.pages.now (λ p. p.now) ∙ c.if-pages-ne-PAGES.false) c.in-Some.ensures.found (c.in_ok-space-in-Some.ensures {u = tt}).found

pub returns-in_ok-space-in-Some-clause-only : goal.returns-in_ok-space-in-Some-clause-only
returns-in_ok-space-in-Some-clause-only c s number are =
    let texts = map (λ page. page.now) c.args.pages.now in
    let read = ArePages-read texts c.args.header.now c.in_ok-space-in-Some.space c.in-Some.head.version c.in-Some.head.number c.in-Some.head.next are.all c.in-Some.ensures.found (c.in_ok-space-in-Some.ensures {u = tt}).found in
    ArePages-one texts c.args.header.now c.in_ok-space-in-Some.space s c.in-Some.head.number number read are

pub returns-in_err-space-in-Some-clause-memory : goal.returns-in_err-space-in-Some-clause-memory
returns-in_err-space-in-Some-clause-memory c _ =
    MayBePages-read (map (λ page. page.now) c.args.pages.now) c.args.header.now c.in-Some.head.version c.in-Some.head.number c.in-Some.head.next
    (length-map c.args.pages.now (λ p. p.now) ∙ c.if-pages-ne-PAGES.false) c.in-Some.ensures.found
