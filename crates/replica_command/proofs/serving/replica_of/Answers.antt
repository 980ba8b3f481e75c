use Rattle.std.proofs.Common.{◌≡◌, ◌∙◌, ap, sym, false, [], ℕ}
use Rattle.std.specs.Prelude.{Result, Ok, Err, IfOk}
use Rattle.protocol.specs.System.Configuration.{Configuration, members}
use Rattle.signing.specs.Publics.{knows}
use Rattle.party_keys.specs.PartyData.{PartyData}
use Rattle.replica.specs.Fits.{Fits, me_of}
use Rattle.replica.specs.State.{ReplicaData, has_stopped}
use Rattle.replica_command.specs.Serving.{BeginsAs, Gives}
use Rattle.replica_command.proofs.serving.replica_of.Goals as goal

begins : {E : Type 0} (k : PartyData) (r : Result ReplicaData E) (A : Configuration → Type 0) → ((c : Configuration) → Gives c k → A c)
    → IfOk r (λ x. (c : Configuration) → A c → Fits c x []) → IfOk r (λ x. me_of x ≡ k.party) → IfOk r (λ x. has_stopped x ≡ false) → IfOk r (BeginsAs k)
begins k (Ok x) A asks fits number runs = record { me_is = number; runs = runs; fits = λ c gives. fits c (asks c gives) }
begins k (Err e) A asks fits number runs = tt

pub returns : goal.returns
returns c =
    let keys = c.args.keys in
    begins keys c.new.result (λ d. (members d c.args.me.0 ≡ knows c.in_ok-ring.ring c.in_ok-publics.publics) × (d.period ≡ c.period.result))
    (λ d gives. (
      ap (members d) (sym c.requires.own) ∙ c.in_ok-ring.ensures.members d gives ∙ ap (knows c.in_ok-ring.ring) (sym c.in_ok-publics.ensures),
      sym (c.period.ensures.value ∙ ap (λ (k : PartyData). k.period) gives),
    ))
    (fits_both (λ d. members d c.args.me.0 ≡ knows c.in_ok-ring.ring c.in_ok-publics.publics) (λ d. d.period ≡ c.period.result) c.new.result c.new.ensures.fits) (number_is c.new.result (sym c.requires.own) c.new.ensures.number) c.new.ensures.runs
  where
    fits_both : {E : Type 0} (A B : Configuration → Type 0) (r : Result ReplicaData E)
        → IfOk r (λ x. (d : Configuration) → A d → B d → Fits d x []) → IfOk r (λ x. (d : Configuration) → A d × B d → Fits d x [])
    fits_both A B (Ok x) fits = λ d both. fits d both.0 both.1
    fits_both A B (Err e) fits = tt

    number_is : {E : Type 0} {n m : ℕ} (r : Result ReplicaData E) → n ≡ m → IfOk r (λ x. me_of x ≡ n) → IfOk r (λ x. me_of x ≡ m)
    number_is (Ok x) same number = number ∙ same
    number_is (Err e) same number = tt
