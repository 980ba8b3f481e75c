use Rattle.std.proofs.Common.{◌≡◌, ◌∙◌, ap, sym, arith, subst}
use Rattle.terms.specs.Parties.{client_party}
use Rattle.terms.specs.declared.parties.TheConstants.{FIRST_CLIENT}
use Rattle.protocol.specs.System.Configuration.{members}
use Rattle.signing.specs.Publics.{knows}
use Rattle.client_command.proofs.serving.client_of.Goals as goal

pub returns : goal.returns
returns c =
    let own = c.requires.own in
    record {
      is_client = omega (arith, own);
      me_is = ap client_party c.start_above.ensures.number ∙ sym own;
      fits = λ d gives. record {
        fits =
            c.start_above.ensures.fits d
            (ap (members d) (sym own) ∙ c.in_ok-ring.ensures.members d gives ∙ ap (knows c.in_ok-ring.ring) (sym c.in_ok-publics.ensures));
        runs = c.start_above.ensures.runs;
      };
    }
