-- A new view starts at most at the low mark after it.
use Rattle.std.proofs.Common.{◌≡◌, ℕ, ◌≤◌, max, inl, inr, List, [], ◌∷◌, refl, ap, arith, Option}
use Rattle.std.specs.Option.{option_map_or}
use Rattle.wire_format.specs.Messages.{NewViewData}
use Rattle.protocol.specs.System.Configuration.{Configuration}
use Rattle.protocol.specs.System.Trace.{Entry, Once}
use Rattle.protocol.specs.Replica.Certificates.{low, stable_at, installed_at, started_at}
use Rattle.protocol.specs.Replica.Owed.{StartsAhead}

pub low_next : (c : Configuration) (me : ℕ) (past : List Entry) (e : Entry) → low c me (e ∷ past) ≡ max (low c me past) (max (stable_at c me past e) (max (installed_at e) (started_at c past e)))
unfolding low
low_next c me past e = refl

pub starts_low : (c : Configuration) (me k : ℕ) (history : List Entry) → Once (StartsAhead c k) history → k ≤ low c me history
starts_low c me k [] h = absurd h
starts_low c me k (e ∷ past) (inl h) =
    let start : started_at c past e ≡ h.0.start = ap (λ (o : Option NewViewData). option_map_or (λ (new : NewViewData). new.start) o 0) h.1 in
    let is = h.2 in
    let next = low_next c me past e in
    omega (arith, start, is, next)
starts_low c me k (e ∷ past) (inr h) = let most = starts_low c me k past h in let next = low_next c me past e in omega (arith, most, next)
