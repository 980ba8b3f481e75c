use Rattle.std.proofs.Common.{Result, IfOk, refl, sym, ap, ◌∙◌}
use Rattle.std.proofs.lemmas.Result.{IfOk-weaker}
use Rattle.tuple_codec.specs.OperationView.{outcome_of}
use Rattle.authenticator.specs.Membership.{Membership}
use Rattle.signing.specs.Publics.{knows}
use Rattle.client_cert.proofs.Calling.{got_none_leads, got_nothing_leads, got_answer_leads, got_asks_leads}
use Rattle.client_cert.proofs.client.Client.got.Goals as goal

-- a property of the result, and one that follows from it
then_ok : {A E : Type 0} {P Q : A → Type 0} (r : Result A E) → IfOk r P → ((x : A) → P x → Q x) → IfOk r Q
then_ok {P = P} {Q = Q} r h f = IfOk-weaker r P Q f h

pub returns-in-None-clause-leads : goal.returns-in-None-clause-leads
returns-in-None-clause-leads c =
    rw (← c.self.view_is, c.new.ensures.items)
    (got_none_leads _ _ c.args.bytes.now (ap (λ s. s.stopped) c.self.view_is ∙ c.requires) c.in-None.is
    (record { number = refl; membership = refl; calls = refl; call_is = c.in-None.is }))

pub returns-in-Nothing-clause-leads : goal.returns-in-Nothing-clause-leads
returns-in-Nothing-clause-leads c =
    rw (← c.self.view_is, c.new-in-Nothing.ensures.items)
    (got_nothing_leads _ _ c.in-Some.call c.weigh.new.call c.args.bytes.now (ap (λ s. s.stopped) c.self.view_is ∙ c.requires) c.in-Some.is
    (rw c.in-Nothing.is at (c.in_ok-turned-in-Some.ensures.weighs c.self.inside.publics)) (record { number = refl; membership = ap (λ (r : Membership). knows r c.self.inside.publics) c.weigh.ensures.same; calls = refl; call_is = refl }))

pub returns-in-Ask-clause-leads : goal.returns-in-Ask-clause-leads
returns-in-Ask-clause-leads c =
    then_ok c.ask.result c.ask.ensures.asked (λ outs asked. rw (← c.self.view_is)
    (got_asks_leads _ _ _ c.in-Some.call c.weigh.new.call c.args.bytes.now outs.items (ap (λ s. s.stopped) c.self.view_is ∙ c.requires) c.in-Some.is
    (rw c.in-Ask.is at (c.in_ok-turned-in-Some.ensures.weighs c.self.inside.publics)) (rw c.weigh.ensures.same refl) asked))

pub returns-in_ok-outputs-in-Accept-clause-leads : goal.returns-in_ok-outputs-in-Accept-clause-leads
returns-in_ok-outputs-in-Accept-clause-leads c =
    rw (← c.self.view_is)
    (got_answer_leads _ _ c.in-Some.call c.weigh.new.call c.args.bytes.now (outcome_of c.in-Accept.answer) c.in_ok-outputs-in-Accept.outputs.items
    (ap (λ s. s.stopped) c.self.view_is ∙ c.requires) c.in-Some.is (rw c.in-Accept.is at (c.in_ok-turned-in-Some.ensures.weighs c.self.inside.publics)) (rw c.in_ok-outputs-in-Accept.ensures refl)
    (record { number = refl; membership = ap (λ (r : Membership). knows r c.self.inside.publics) c.weigh.ensures.same; calls = refl; call_is = c.put.ensures }))

pub returns-in-None-clause-meant : goal.returns-in-None-clause-meant
returns-in-None-clause-meant c = rw c.new.ensures.items (λ k known. tt)

pub returns-in-Nothing-clause-meant : goal.returns-in-Nothing-clause-meant
returns-in-Nothing-clause-meant c = rw c.new-in-Nothing.ensures.items (λ k known. tt)

pub returns-in-Ask-clause-meant : goal.returns-in-Ask-clause-meant
returns-in-Ask-clause-meant c =
    then_ok c.ask.result c.ask.ensures.asked (λ outs asked. rw (← c.self.view_is) (λ k known. asked.meant k (known ∙ sym (ap (λ (r : Membership). knows r c.self.inside.publics) c.weigh.ensures.same))))

pub returns-in_ok-outputs-in-Accept-clause-meant : goal.returns-in_ok-outputs-in-Accept-clause-meant
returns-in_ok-outputs-in-Accept-clause-meant c = rw c.in_ok-outputs-in-Accept.ensures (λ k known. (tt, tt))
