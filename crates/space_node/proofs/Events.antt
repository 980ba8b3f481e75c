-- Events of parties, and that they are right.
use Rattle.std.proofs.Common.{◌≡◌, ℕ, ◌+◌, ◌-◌, ◌<◌, Bool, true, false, cond, ◌&&◌, not, List, [], ◌∷◌, refl, ap, ◌∙◌, arith}
use Rattle.std.specs.Prelude.{nat_le, nat_lt}
use Rattle.std.proofs.lemmas.Bool.Decides.{nat_tests}
use Rattle.quorum.specs.Quorum.{member}
use Rattle.protocol.specs.System.Configuration.{Configuration, is_correct_replica, is_correct_client}
use Rattle.protocol.specs.System.Reads.{orders, without_reads}
use Rattle.protocol.specs.System.Trace.{Entry}
use Rattle.protocol.specs.Client.RightClient.{IsClient}
use Rattle.events.specs.Outputs.{after_entries}
use Rattle.journal.specs.Histories.{IsRight}

pub neither : (b : Bool) → b ≡ true → b ≡ false → ⊥
neither true t f = cc
neither false t f = cc

pub no_client : (c : Configuration) (p : ℕ) → p < 256 → is_correct_client c p ≡ false
no_client c p low =
    let k : nat_le 256 p ≡ false = grind (arith, nat_tests) in
    ap (λ (b : Bool). (b && nat_lt p (256 + c.clients)) && not (member c.faulty_clients (p - 256))) k

pub right_client : (c : Configuration) (p : ℕ) (h : List Entry) → is_correct_replica c p ≡ false → IsClient c p h → IsRight c p h
right_client c p h none is = record {
  replica = λ at. absurd (neither (is_correct_replica c p) at none);
  client = λ _. is;
}

-- the entries of ordering, after an event
pub ordering_behind : (es past : List Entry) → without_reads (after_entries es past) ≡ after_entries (without_reads es) (without_reads past)
ordering_behind [] past = refl
ordering_behind (e ∷ es) past = ordering_behind es (e ∷ past) ∙ one (orders e) e (without_reads es) (without_reads past)
  where
    one : (b : Bool) (e : Entry) (xs past : List Entry) → after_entries xs (cond b (e ∷ past) past) ≡ after_entries (cond b (e ∷ xs) xs) past
    one true e xs past = refl
    one false e xs past = refl
