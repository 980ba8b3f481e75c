-- Laws of `Once`, `Always` and histories.
use Rattle.std.proofs.Common.{◌≡◌, ℕ, ◌⊎◌, inl, inr, Bool, true, false, cond, List, [], ◌∷◌, eqb-true, refl, sym, ◌∙◌, ◌==◌}
use Rattle.std.proofs.lemmas.Bool.{eqb-false}
use Rattle.protocol.specs.System.Trace.{Entry, party_of, is_output, history_of, Once, Always}
use Rattle.protocol.specs.System.Run.{OutputFollows}

pub once_weaker : (P Q : List Entry → Entry → Type 0) → ((past : List Entry) (e : Entry) → P past e → Q past e) → (xs : List Entry) → Once P xs → Once Q xs
once_weaker P Q f [] h = h
once_weaker P Q f (e ∷ past) (inl h) = inl (f past e h)
once_weaker P Q f (e ∷ past) (inr h) = inr (once_weaker P Q f past h)

pub always_weaker : (P Q : List Entry → Entry → Type 0) → ((past : List Entry) (e : Entry) → P past e → Q past e) → (xs : List Entry) → Always P xs → Always Q xs
always_weaker P Q f [] h = h
always_weaker P Q f (e ∷ past) h = (f past e h.0, always_weaker P Q f past h.1)

-- a property of each entry holds at the entry found, and in its past
pub once_always : (P Q : List Entry → Entry → Type 0) (xs : List Entry) → Always P xs → Once Q xs → Once (λ past e. P past e × Q past e × Always P past) xs
once_always P Q [] a h = h
once_always P Q (e ∷ past) a (inl h) = inl (a.0, h, a.1)
once_always P Q (e ∷ past) a (inr h) = inr (once_always P Q past a.1 h)

-- if something happened before some entry, it happened
pub once_once : (Q : List Entry → Entry → Type 0) (xs : List Entry) → Once (λ past e. Once Q past) xs → Once Q xs
once_once Q [] h = h
once_once Q (e ∷ past) (inl h) = inr h
once_once Q (e ∷ past) (inr h) = inr (once_once Q past h)

-- a lasting property of some entry's past holds at the end
pub once_stays : (P : List Entry → Type 0) → ((e : Entry) (past : List Entry) → P past → P (e ∷ past)) → (xs : List Entry) → Once (λ past e. P past) xs → P xs
once_stays P keep [] h = absurd h
once_stays P keep (e ∷ past) (inl h) = keep e past h
once_stays P keep (e ∷ past) (inr h) = keep e past (once_stays P keep past h)

-- the same of a property of the past with the entry
pub once_stays_from : (P : List Entry → Type 0) → ((e : Entry) (past : List Entry) → P past → P (e ∷ past)) → (xs : List Entry) → Once (λ past e. P (e ∷ past)) xs → P xs
once_stays_from P keep [] h = absurd h
once_stays_from P keep (e ∷ past) (inl h) = h
once_stays_from P keep (e ∷ past) (inr h) = keep e past (once_stays_from P keep past h)

-- ---- histories

pub once_in_trace : (Q : List Entry → Entry → Type 0) (p : ℕ) (xs : List Entry) → Once Q (history_of p xs)
    → Once (λ past e. (party_of e ≡ p) × Q (history_of p past) e) xs
once_in_trace Q p [] h = h
once_in_trace Q p (e ∷ xs) h = go (party_of e == p) refl h (once_in_trace Q p xs)
  where
    go : (b : Bool) → (party_of e == p) ≡ b → Once Q (cond b (e ∷ history_of p xs) (history_of p xs))
        → (Once Q (history_of p xs) → Once (λ past e. (party_of e ≡ p) × Q (history_of p past) e) xs)
        → Once (λ past e. (party_of e ≡ p) × Q (history_of p past) e) (e ∷ xs)
    go true is (inl h) below = inl (eqb-true (party_of e) p is, h)
    go true is (inr h) below = inr (below h)
    go false is h below = inr (below h)

pub once_in_history : (Q : List Entry → Entry → Type 0) (p : ℕ) (xs : List Entry) → Once (λ past e. (party_of e ≡ p) × Q (history_of p past) e) xs
    → Once Q (history_of p xs)
once_in_history Q p [] h = h
once_in_history Q p (e ∷ xs) h = go (party_of e == p) refl h (once_in_history Q p xs)
  where
    go : (b : Bool) → (party_of e == p) ≡ b → Once (λ past e. (party_of e ≡ p) × Q (history_of p past) e) (e ∷ xs)
        → (Once (λ past e. (party_of e ≡ p) × Q (history_of p past) e) xs → Once Q (history_of p xs))
        → Once Q (cond b (e ∷ history_of p xs) (history_of p xs))
    go true is (inl h) below = inl h.1
    go true is (inr h) below = inr (below h)
    go false is (inl h) below = absurd (eqb-false (party_of e) p is h.0)
    go false is (inr h) below = below h

-- of two things that happened, one was before the other, or they were one
pub once_order : (P Q : List Entry → Entry → Type 0) (xs : List Entry) → Once P xs → Once Q xs
    → Once (λ past e. P past e × Once Q past) xs ⊎ (Once (λ past e. Q past e × Once P past) xs ⊎ Once (λ past e. P past e × Q past e) xs)
once_order P Q [] h k = absurd h
once_order P Q (e ∷ past) (inl h) (inl k) = inr (inr (inl (h, k)))
once_order P Q (e ∷ past) (inl h) (inr k) = inl (inl (h, k))
once_order P Q (e ∷ past) (inr h) (inl k) = inr (inl (inl (k, h)))
once_order P Q (e ∷ past) (inr h) (inr k) = go (once_order P Q past h k)
  where
    go : Once (λ past e. P past e × Once Q past) past ⊎ (Once (λ past e. Q past e × Once P past) past ⊎ Once (λ past e. P past e × Q past e) past)
        → Once (λ past e. P past e × Once Q past) (e ∷ past) ⊎ (Once (λ past e. Q past e × Once P past) (e ∷ past) ⊎ Once (λ past e. P past e × Q past e) (e ∷ past))
    go (inl h) = inl (inr h)
    go (inr (inl h)) = inr (inl (inr h))
    go (inr (inr h)) = inr (inr (inr h))

-- a property of each entry, with all that happened before seen in the whole
pub always_sees : (P Q : List Entry → Entry → Type 0) (whole xs : List Entry) → ((R : List Entry → Entry → Type 0) → Once R xs → Once R whole)
    → ((past : List Entry) (e : Entry) → P past e → ((R : List Entry → Entry → Type 0) → Once R past → Once R whole) → Q past e) → Always P xs → Always Q xs
always_sees P Q whole [] emb f a = tt
always_sees P Q whole (e ∷ past) emb f a = (f past e a.0 (λ R h. emb R (inr h)), always_sees P Q whole past (λ R h. emb R (inr h)) f a.1)

-- a property of each of a party's entries holds throughout its history
pub always_in_history : (Q : Entry → Type 0) (p : ℕ) (xs : List Entry) → Always (λ past e. party_of e ≡ p → Q e) xs → Always (λ past e. Q e) (history_of p xs)
always_in_history Q p [] a = tt
always_in_history Q p (e ∷ xs) a = go (party_of e == p) refl (always_in_history Q p xs a.1)
  where
    go : (b : Bool) → (party_of e == p) ≡ b → Always (λ past e. Q e) (history_of p xs) → Always (λ past e. Q e) (cond b (e ∷ history_of p xs) (history_of p xs))
    go true is below = (a.0 (eqb-true (party_of e) p is), below)
    go false is below = below

-- an input follows anything
pub input_follows : (e : Entry) (trace : List Entry) → is_output e ≡ false → OutputFollows trace e
input_follows e [] is = is
input_follows e (before ∷ past) is = λ out. let bad : false ≡ true = sym is ∙ out in absurd cc
