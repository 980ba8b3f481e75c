-- The parties of a configuration, and their first states.
use Rattle.std.proofs.Common.{◌≡◌, ℕ, zero, suc, ◌+◌, ◌-◌, ◌<◌, ◌≤◌, ◌⊎◌, ⊎_elim, Bool, true, false, cond, ◌&&◌, ◌||◌, ◌==◌, not, List, [], ◌∷◌, ◌++◌, length, get_or, map, refl, sym, ap, ◌∙◌, subst, arith}
use Rattle.std.specs.Prelude.{All}
use Rattle.std.specs.List.{range_with_len, remove}
use Rattle.std.proofs.lemmas.Bool.{le-ltb}
use Rattle.std.proofs.lemmas.List.{append-nil, get_or-map, length-map, map-append}
use Rattle.std.proofs.lemmas.List.Elements.{All-cons, All-get_or, All-head, All-nil, All-same, All-tail, filter-append, filter_passes}
use Rattle.std.proofs.lemmas.Bool.Decides.{nat_tests}
use Rattle.quorum.specs.Quorum.{member}
use Rattle.terms.specs.declared.parties.ReplicaId.{ReplicaId}
use Rattle.protocol.specs.System.Configuration.{Configuration, IsConfiguration, replicas as replicas_of, is_replica, is_client, is_correct, is_correct_replica, is_correct_client}
use Rattle.journal.specs.Histories.{correct_of, correct_replicas}
use Rattle.journal.specs.Parts.{Part, fresh}
use Rattle.space_node.specs.Runs.{Serves}
use Rattle.space_node.proofs.Events.{no_client}

-- ---- parties

pub no_replica : (c : Configuration) (p : ℕ) → IsConfiguration c → 256 ≤ p → is_correct_replica c p ≡ false
no_replica c p valid high =
    let most = valid.most in
    let r : is_replica c p ≡ false = le-ltb p (replicas_of c) (omega arith) in
    ap (λ (b : Bool). b && not (member c.faulty_replicas p)) r

right_true : (a b : Bool) → (a && b) ≡ true → b ≡ true
right_true true b e = e
right_true false b e = absurd cc

-- ---- faultless configurations

same : (n : ℕ) → (n == n) ≡ true
same n = grind (arith, nat_tests)

not_it : (b : Bool) (d : Bool) → b ≡ true → not (b || d) ≡ true → ⊥
not_it true d e f = cc
not_it false d e f = cc

pub none_named : (n : ℕ) (test : ℕ → Bool) (named : List ℕ) → All (λ r. r < n) named → ((k : ℕ) → k < n → (test k && not (member named k)) ≡ true) → named ≡ []
none_named n test [] below each = refl
none_named n test (x ∷ named) below each =
    absurd (not_it (x == x) (member named x) (same x) (right_true (test x) (not (member (x ∷ named) x)) (each x (All-head (λ r. r < n) x named below))))

pub correct_client : (c : Configuration) (p : ℕ) → c.faulty_clients ≡ [] → 256 ≤ p → p < 256 + c.clients → is_correct_client c p ≡ true
correct_client c p none high low =
    let r : is_client c p ≡ true = grind (arith, nat_tests) in
    ap (λ (named : List ℕ). is_client c p && not (member named (p - 256))) none ∙ ap (λ (b : Bool). b && true) r

-- each of a list of correct replicas is correct
pub is_served : (c : Configuration) (replicas : List ReplicaId) (i : ℕ) (d : ReplicaId) → Serves c replicas → i < length replicas → is_correct c (get_or replicas i d).0 ≡ true
is_served c replicas i d serves low =
    let all : All (λ p. is_correct c p ≡ true) (map (λ (r : ReplicaId). r.0) replicas) =
    All-same (λ p. is_correct c p ≡ true) (map (λ (r : ReplicaId). r.0) replicas) (correct_replicas c) serves.correct_are
    (filter_passes (is_correct c) (range_with_len 0 (replicas_of c))) in
    let there : i < length (map (λ (r : ReplicaId). r.0) replicas) = subst (λ (n : ℕ). i < n) (sym (length-map replicas (λ (r : ReplicaId). r.0))) low in
    let at : is_correct c (get_or (map (λ (r : ReplicaId). r.0) replicas) i d.0) ≡ true =
    All-get_or (λ p. is_correct c p ≡ true) (map (λ (r : ReplicaId). r.0) replicas) i d.0 there all in
    subst (λ (p : ℕ). is_correct c p ≡ true) (get_or-map (λ (r : ReplicaId). r.0) replicas i d d.0 low) at

-- ---- the correct replicas, one after another

range_from : (a n : ℕ) → range_with_len a (suc n) ≡ range_with_len a n ++ (a + n) ∷ []
range_from a zero = ap (λ (k : ℕ). k ∷ []) (omega arith)
range_from a (suc n) =
    let e : (a + 1) + n ≡ a + suc n = omega arith in
    ap (λ (ks : List ℕ). a ∷ ks) (range_from (a + 1) n ∙ ap (λ (k : ℕ). range_with_len (a + 1) n ++ k ∷ []) e)

range_more : (n : ℕ) → range_with_len 0 (n + 1) ≡ range_with_len 0 n ++ n ∷ []
range_more n =
    let e : n + 1 ≡ suc n = omega arith in
    let z : 0 + n ≡ n = omega arith in
    ap (range_with_len 0) e ∙ (range_from 0 n ∙ ap (λ (k : ℕ). range_with_len 0 n ++ k ∷ []) z)

correct_more : (c : Configuration) (n : ℕ) → correct_of c (range_with_len 0 (n + 1)) ≡ correct_of c (range_with_len 0 n) ++ cond (is_correct c n) (n ∷ []) []
correct_more c n = ap (correct_of c) (range_more n) ∙ filter-append (is_correct c) (range_with_len 0 n) (n ∷ [])

same_correct : (c : Configuration) (n : ℕ) (b : Bool) → n < 256 → is_correct_replica c n ≡ b → is_correct c n ≡ b
same_correct c n b low is =
    ap (λ (x : Bool). is_correct_replica c n || x) (no_client c n low) ∙ (or_false (is_correct_replica c n) ∙ is)
  where
    or_false : (x : Bool) → (x || false) ≡ x
    or_false true = refl
    or_false false = refl

pub one_correct : (c : Configuration) (n : ℕ) (replicas more : List ReplicaId) (replica : ReplicaId) → n < 256 → is_correct_replica c n ≡ true → replica.0 ≡ n
    → more ≡ replicas ++ replica ∷ [] → map (λ (r : ReplicaId). r.0) replicas ≡ correct_of c (range_with_len 0 n)
    → map (λ (r : ReplicaId). r.0) more ≡ correct_of c (range_with_len 0 (n + 1))
one_correct c n replicas more replica low is who grown are =
    ap (map (λ (r : ReplicaId). r.0)) grown
    ∙ (map-append (λ (r : ReplicaId). r.0) replicas (replica ∷ [])
    ∙ (ap (λ (ps : List ℕ). ps ++ replica.0 ∷ []) are
    ∙ (ap (λ (p : ℕ). correct_of c (range_with_len 0 n) ++ p ∷ []) who
    ∙ (ap (λ (b : Bool). correct_of c (range_with_len 0 n) ++ cond b (n ∷ []) []) (sym (same_correct c n true low is))
    ∙ sym (correct_more c n)))))

pub none_correct : (c : Configuration) (n : ℕ) (replicas : List ReplicaId) → n < 256 → is_correct_replica c n ≡ false
    → map (λ (r : ReplicaId). r.0) replicas ≡ correct_of c (range_with_len 0 n)
    → map (λ (r : ReplicaId). r.0) replicas ≡ correct_of c (range_with_len 0 (n + 1))
none_correct c n replicas low is are =
    are ∙ (sym (append-nil (correct_of c (range_with_len 0 n)))
    ∙ (ap (λ (b : Bool). correct_of c (range_with_len 0 n) ++ cond b (n ∷ []) []) (sym (same_correct c n false low is))
    ∙ sym (correct_more c n)))

-- ---- all correct

-- all replicas up to n, or all clients up to it, are correct
abbrev pub AreReplicas : Configuration → ℕ → Type 0
AreReplicas c n = (k : ℕ) → k < n → is_correct_replica c k ≡ true

abbrev pub AreClients : Configuration → ℕ → Type 0
AreClients c n = (k : ℕ) → 256 + k < n → is_correct_client c (256 + k) ≡ true

order : (k n : ℕ) → k < n + 1 → (k < n) ⊎ (k ≡ n)
order k n h = grind arith

pub replicas_more : (c : Configuration) (n : ℕ) → AreReplicas c n → is_correct_replica c n ≡ true → AreReplicas c (n + 1)
replicas_more c n are is k low =
    ⊎_elim (λ (a : k < n). are k a) (λ (a : k ≡ n). subst (λ (j : ℕ). is_correct_replica c j ≡ true) (sym a) is) (order k n low)

pub no_faulty_replica : (c : Configuration) → IsConfiguration c → AreReplicas c (replicas_of c) → c.faulty_replicas ≡ []
no_faulty_replica c valid are = none_named (replicas_of c) (is_replica c) c.faulty_replicas valid.replicas_are are

pub no_faulty_client : (c : Configuration) → IsConfiguration c → AreClients c (256 + c.clients) → c.faulty_clients ≡ []
no_faulty_client c valid are =
    none_named c.clients (λ k. is_client c (256 + k)) c.faulty_clients valid.clients_are
    (λ k low. subst (λ (j : ℕ). (is_client c (256 + k) && not (member c.faulty_clients j)) ≡ true) (omega arith) (are k (omega arith)))

-- ---- new shares

pub all_fresh : (ps : List ℕ) → All (λ (s : Part). s.history ≡ []) (map fresh ps)
all_fresh [] = All-nil (λ (s : Part). s.history ≡ [])
all_fresh (p ∷ ps) = All-cons (λ (s : Part). s.history ≡ []) (fresh p) (map fresh ps) refl (all_fresh ps)

pub without_first : (xs : List Part) (n : ℕ) → n ≡ 0 → All (λ (s : Part). s.history ≡ []) xs → All (λ (s : Part). s.history ≡ []) (remove xs n)
without_first xs n is all = subst (λ (k : ℕ). All (λ (s : Part). s.history ≡ []) (remove xs k)) (sym is) (first xs all)
  where
    first : (xs : List Part) → All (λ (s : Part). s.history ≡ []) xs → All (λ (s : Part). s.history ≡ []) (remove xs 0)
    first [] all = all
    first (x ∷ xs) all = All-tail (λ (s : Part). s.history ≡ []) x xs all
