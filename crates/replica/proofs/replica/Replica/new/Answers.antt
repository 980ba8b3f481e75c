use Rattle.std.proofs.Common.{List, ℕ, ap₂, ◌∙◌, subst, arith}
use Rattle.authenticator.specs.Membership.{Membership}
use Rattle.signing.specs.Publics.{knows}
use Rattle.desk.specs.Desking.{IsNewDesk}
use Rattle.orderer.specs.Taking.{IsNewOrderer}
use Rattle.replica.proofs.PartsLead.{both_new}
use Rattle.replica.specs.MemberView.{member_data}
use Rattle.replica.proofs.replica.Replica.new.Goals as goal

pub returns-clause-fits : goal.returns-clause-fits
returns-clause-fits c =
    let m : Membership = knows c.args.ring c.args.publics in
    let period : ℕ = c.args.numbers.period in
    let same = c.requires.ring_faults in
    both_new m period c.args.me.0 (member_data c.new-member.result) c.in_ok-orderer.orderer c.in_ok-desk.desk
    (let some = c.requires.some in omega (arith, same, some)) (let few = c.requires.few in omega (arith, same, few)) c.requires.short (let known = c.requires.known in omega (arith, same, known))
    c.new-member.ensures.member
    (subst (λ (k : Membership). IsNewOrderer (knows k c.args.publics) period c.args.me.0 c.in_ok-orderer.orderer) c.new-member.ensures.same c.in_ok-orderer.ensures.made)
    (subst (λ (k : Membership). IsNewDesk k period c.args.me.0 c.in_ok-desk.desk)
    (ap₂ (λ (k : Membership) (publics : List (List ℕ)). knows k publics) (c.in_ok-share.ensures ∙ c.new-member.ensures.same) c.in_ok-share-2.ensures) c.in_ok-desk.ensures.made)
    c.note_changes.ensures
