-- The party of a replica, from one step to the next.
use Rattle.std.proofs.Common.{◌≡◌, refl, sym, ◌∙◌, subst}
use Rattle.frame_endpoint.specs.Endpoint.{EndpointState}
use Rattle.protocol.specs.System.Configuration.{Configuration, members}
use Rattle.orderer.specs.State.{OrdererData}
use Rattle.replica.specs.State.{BothPartsData, Gives}
use Rattle.replica.specs.Going.{IsSameParty, IsOneParty}
use Rattle.orderer.proofs.Parties.{same_orderer, orderers_twice}

pub same_party : (r : BothPartsData) → IsSameParty r r
same_party r = record { orderer = same_orderer r.orderer; me = refl; membership = refl }

pub parties_twice : (a b d : BothPartsData) → IsSameParty a b → IsSameParty b d → IsSameParty a d
parties_twice a b d first then = record {
  orderer = orderers_twice a.orderer b.orderer d.orderer first.orderer then.orderer;
  me = then.me ∙ first.me;
  membership = then.membership ∙ first.membership;
}

-- What a configuration gives a replica, it gives the same replica later.
pub gives_on : (c : Configuration) (a b : OrdererData) → b.endpoint ≡ a.endpoint → Gives c a → Gives c b
gives_on c a b same known = subst (λ (e : EndpointState). members c e.me ≡ e.membership) (sym same) known

-- ---- whatever its view

pub one_self : (r : BothPartsData) → IsOneParty r r
one_self r = record { endpoint = refl; me = refl; membership = refl }

pub one_of_same : (a b : BothPartsData) → IsSameParty a b → IsOneParty a b
one_of_same a b p = record { endpoint = p.orderer.endpoint; me = p.me; membership = p.membership }

pub ones_twice : (a b d : BothPartsData) → IsOneParty a b → IsOneParty b d → IsOneParty a d
ones_twice a b d first then = record {
  endpoint = then.endpoint ∙ first.endpoint;
  me = then.me ∙ first.me;
  membership = then.membership ∙ first.membership;
}
