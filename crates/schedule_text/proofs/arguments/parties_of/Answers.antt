use Rattle.std.proofs.Common.{map, sym, ap, ◌∙◌, subst}
use Rattle.std.proofs.lemmas.List.{map_push}
use Rattle.terms.specs.Parties.{party_number}
use Rattle.schedule_text.specs.Reading.{PartiesText}
use Rattle.schedule_text.proofs.Parties.{Leaves, leaves_all, at_comma, no_parties, last_party, next_party, behind_comma, fewer}
use Rattle.schedule_text.proofs.arguments.parties_of.Goals as goal

pub loop-party-init : goal.loop-party-init
loop-party-init c =
    subst (λ ps. Leaves (map party_number ps) c.args.word.text.now c.args.word.text.now) (sym c.new-parties.ensures.items) (leaves_all c.args.word.text.now)

pub returns-in_default : goal.returns-in_default
returns-in_default c =
    let a = at_comma c.loop-party.rest.now c.split_at.result.0.now c.split_at.result.1.now c.len_before.result c.len_before.ensures.within c.len_before.ensures.before c.len_before.ensures.found c.split_at.ensures.front c.split_at.ensures.back in
    no_parties (map party_number c.loop-party.parties.items) c.loop-party.rest.now c.args.word.text.now c.split_at.result.0.now c.split_at.result.1.now c.loop-party.invariant a (c.in_default.ensures {u = tt})

pub returns-in-empty : goal.returns-in-empty
returns-in-empty c =
    let a = at_comma c.loop-party.rest.now c.split_at.result.0.now c.split_at.result.1.now c.len_before.result c.len_before.ensures.within c.len_before.ensures.before c.len_before.ensures.found c.split_at.ensures.front c.split_at.ensures.back in
    let items = ap (map party_number) (c.in_ok-push.ensures {u = tt}).items ∙ map_push party_number c.loop-party.parties.items c.in-Some.party in
    subst (λ ps. PartiesText ps c.args.word.text.now) (sym items)
    (last_party (map party_number c.loop-party.parties.items) c.loop-party.rest.now c.args.word.text.now c.split_at.result.0.now c.split_at.result.1.now (party_number c.in-Some.party) c.loop-party.invariant a c.in-empty.len_below (c.in-Some.ensures {u = tt}))

pub loop-party-smaller : goal.loop-party-smaller
loop-party-smaller c =
    let a = at_comma c.loop-party.rest.now c.split_at.result.0.now c.split_at.result.1.now c.len_before.result c.len_before.ensures.within c.len_before.ensures.before c.len_before.ensures.found c.split_at.ensures.front c.split_at.ensures.back in
    fewer c.loop-party.rest.now c.split_at.result.0.now c.split_at.result.1.now a c.in-len1-up.len_at_least

pub loop-party-preserved : goal.loop-party-preserved
loop-party-preserved c =
    let a = at_comma c.loop-party.rest.now c.split_at.result.0.now c.split_at.result.1.now c.len_before.result c.len_before.ensures.within c.len_before.ensures.before c.len_before.ensures.found c.split_at.ensures.front c.split_at.ensures.back in
    let items = ap (map party_number) (c.in_ok-push.ensures {u = tt}).items ∙ map_push party_number c.loop-party.parties.items c.in-Some.party in
    subst (λ ps. Leaves ps (behind_comma c.split_at.result.1.now) c.args.word.text.now) (sym items)
    (next_party (map party_number c.loop-party.parties.items) c.loop-party.rest.now c.args.word.text.now c.split_at.result.0.now c.split_at.result.1.now (party_number c.in-Some.party) c.loop-party.invariant a c.in-len1-up.len_at_least (c.in-Some.ensures {u = tt}))
