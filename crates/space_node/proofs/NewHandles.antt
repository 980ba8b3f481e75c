-- The handles of a new cluster: one of each client.
use Rattle.std.proofs.Common.{◌≡◌, ℕ, zero, suc, ◌+◌, ◌<◌, ◌≤◌, Bool, true, false, cond, List, [], ◌∷◌, ◌++◌, map, refl, sym, ap, ◌∙◌, arith}
use Rattle.std.specs.Prelude.{filter, nat_le, nat_lt}
use Rattle.std.specs.List.{range_with_len}
use Rattle.std.proofs.lemmas.Bool.Decides.{nat_tests}
use Rattle.std.proofs.lemmas.List.{append-nil, map-append}
use Rattle.std.proofs.lemmas.List.Elements.{filter-append}
use Rattle.std.proofs.lemmas.Bool.{or_right}
use Rattle.protocol.specs.System.Configuration.{Configuration, IsConfiguration, replicas as replicas_of, is_correct, is_correct_replica, is_correct_client}
use Rattle.journal.specs.Histories.{correct_of, correct_parties, correct_replicas}
use Rattle.journal.specs.Parts.{Part, fresh}
use Rattle.space_node.specs.Places.{clients_among, clients_of, parties_of, replicas_among}
use Rattle.space_node.specs.PartyStates.{PartyState}
use Rattle.space_node.proofs.NewParties.{correct_client}

-- ---- numbers that pass a test, in a range

abbrev step : Bool → ℕ → List ℕ → List ℕ
step b x xs = cond b (x ∷ xs) xs

all_pass : (t : ℕ → Bool) (a n : ℕ) → ((k : ℕ) → a ≤ k → k < a + n → t k ≡ true) → filter t (range_with_len a n) ≡ range_with_len a n
all_pass t a zero each = refl
all_pass t a (suc n) each =
    let rest : filter t (range_with_len (a + 1) n) ≡ range_with_len (a + 1) n =
    all_pass t (a + 1) n (λ k low high. each k (omega arith) (omega arith)) in
    ap (λ b. step b a (filter t (range_with_len (a + 1) n))) (each a (omega arith) (omega arith)) ∙ ap (λ xs. a ∷ xs) rest

-- ---- clients among parties

pub among_first : (p : ℕ) (ps : List ℕ) → clients_among (p ∷ ps) ≡ clients_among (p ∷ []) ++ clients_among ps
among_first p ps = filter-append (nat_le 256) (p ∷ []) ps

pub a_replica : (p : ℕ) → p < 256 → clients_among (p ∷ []) ≡ []
a_replica p low =
    let no : nat_le 256 p ≡ false = grind (arith, nat_tests) in
    ap (λ b. step b p []) no

-- no low number is a client's, whatever its test says
low_ones : (t : ℕ → Bool) (a n : ℕ) → a + n ≤ 256 → clients_among (filter t (range_with_len a n)) ≡ []
low_ones t a zero low = refl
low_ones t a (suc n) low = one (t a) (low_ones t (a + 1) n (omega arith))
  where
    one : (b : Bool) → clients_among (filter t (range_with_len (a + 1) n)) ≡ [] → clients_among (step b a (filter t (range_with_len (a + 1) n))) ≡ []
    one true none = among_first a (filter t (range_with_len (a + 1) n)) ∙ ap (λ ps. ps ++ clients_among (filter t (range_with_len (a + 1) n))) (a_replica a (omega (arith, low))) ∙ none
    one false none = none

-- if no client is faulty, the clients among the correct parties are all of the configuration's
pub all_clients : (c : Configuration) → IsConfiguration c → c.faulty_clients ≡ [] → clients_among (correct_parties c) ≡ clients_of c
all_clients c valid none =
    let most = valid.most in
    let few : 0 + replicas_of c ≤ 256 = omega arith in
    let high : correct_of c (range_with_len 256 c.clients) ≡ range_with_len 256 c.clients =
    all_pass (is_correct c) 256 c.clients (λ k low below. or_right (is_correct_replica c k) (is_correct_client c k) (correct_client c k none low below)) in
    let kept : clients_among (range_with_len 256 c.clients) ≡ range_with_len 256 c.clients =
    all_pass (nat_le 256) 256 c.clients (λ k low below. grind (arith, nat_tests)) in
    filter-append (nat_le 256) (correct_replicas c) (correct_of c (range_with_len 256 c.clients))
    ∙ (ap (λ ps. ps ++ clients_among (correct_of c (range_with_len 256 c.clients))) (low_ones (is_correct c) 0 (replicas_of c) few)
    ∙ (ap clients_among high ∙ kept))

-- ---- replicas among parties

low_pass : (t : ℕ → Bool) (a n : ℕ) → a + n ≤ 256 → replicas_among (filter t (range_with_len a n)) ≡ filter t (range_with_len a n)
low_pass t a zero low = refl
low_pass t a (suc n) low = one (t a) (low_pass t (a + 1) n (omega arith))
  where
    one : (b : Bool) → replicas_among (filter t (range_with_len (a + 1) n)) ≡ filter t (range_with_len (a + 1) n)
        → replicas_among (step b a (filter t (range_with_len (a + 1) n))) ≡ step b a (filter t (range_with_len (a + 1) n))
    one true same =
        let here : nat_lt a 256 ≡ true = grind (arith, nat_tests) in
        ap (λ b. step b a (replicas_among (filter t (range_with_len (a + 1) n)))) here ∙ ap (λ ps. a ∷ ps) same
    one false same = same

high_none : (t : ℕ → Bool) (a n : ℕ) → 256 ≤ a → replicas_among (filter t (range_with_len a n)) ≡ []
high_none t a zero high = refl
high_none t a (suc n) high = one (t a) (high_none t (a + 1) n (omega arith))
  where
    one : (b : Bool) → replicas_among (filter t (range_with_len (a + 1) n)) ≡ [] → replicas_among (step b a (filter t (range_with_len (a + 1) n))) ≡ []
    one true none =
        let there : nat_lt a 256 ≡ false = grind (arith, nat_tests) in
        ap (λ b. step b a (replicas_among (filter t (range_with_len (a + 1) n)))) there ∙ none
    one false none = none

-- the replicas among the correct parties are the correct replicas
pub all_replicas : (c : Configuration) → IsConfiguration c → replicas_among (correct_parties c) ≡ correct_replicas c
all_replicas c valid =
    let most = valid.most in
    let few : 0 + replicas_of c ≤ 256 = omega arith in
    let high : 256 ≤ 256 = omega arith in
    filter-append (λ p. nat_lt p 256) (correct_replicas c) (correct_of c (range_with_len 256 c.clients))
    ∙ (ap (λ ps. ps ++ replicas_among (correct_of c (range_with_len 256 c.clients))) (low_pass (is_correct c) 0 (replicas_of c) few)
    ∙ (ap (λ ps. correct_replicas c ++ ps) (high_none (is_correct c) 256 c.clients high) ∙ append-nil (correct_replicas c)))

-- ---- shares

pub parties_fresh : (ps : List ℕ) → map (λ (s : Part). s.party) (map fresh ps) ≡ ps
parties_fresh [] = refl
parties_fresh (p ∷ ps) = ap (λ qs. p ∷ qs) (parties_fresh ps)

-- one share more
pub share_more : (done : List Part) (share : Part) (old new : List ℕ) → old ≡ clients_among (map (λ (s : Part). s.party) done)
    → new ≡ old ++ clients_among (share.party ∷ []) → new ≡ clients_among (map (λ (s : Part). s.party) (done ++ share ∷ []))
share_more done share old new was more =
    let parties : map (λ (s : Part). s.party) (done ++ share ∷ []) ≡ map (λ (s : Part). s.party) done ++ share.party ∷ [] =
    map-append (λ (s : Part). s.party) done (share ∷ []) in
    more ∙ (ap (λ ps. ps ++ clients_among (share.party ∷ [])) was
    ∙ (sym (filter-append (nat_le 256) (map (λ (s : Part). s.party) done) (share.party ∷ [])) ∙ ap clients_among (sym parties)))

-- a handle more is made, of the next state
pub handle_more : {E : Type 0} (state : E → PartyState) (done : List E) (end : E) (handles more : List PartyState) (handle : PartyState) → more ≡ handles ++ handle ∷ [] → handle ≡ state end
    → parties_of handles ≡ map (λ e. (state e).party) done → parties_of more ≡ map (λ e. (state e).party) (done ++ end ∷ [])
handle_more state done end handles more handle longer is were =
    ap parties_of longer
    ∙ (map-append (λ (s : PartyState). s.party) handles (handle ∷ [])
    ∙ (ap (λ ps. ps ++ handle.party ∷ []) were
    ∙ (ap (λ (s : PartyState). map (λ e. (state e).party) done ++ s.party ∷ []) is
    ∙ sym (map-append (λ e. (state e).party) done (end ∷ [])))))
