-- Laws of lists on which numbering stands: parts of a list, filters, and frames beside their calls.
use Rattle.std.proofs.Common.{◌≡◌, ◌≢◌, ℕ, zero, suc, ◌≤◌, inl, inr, Bool, true, false, cond, List, [], ◌∷◌, ◌++◌, map, take, filter, Some, refl, sym, ap, ◌∙◌}
use Rattle.std.proofs.lemmas.List.Kept.{AllPairs-filter}
use Rattle.wire_format.specs.Lists.{Each}
use Rattle.protocol.specs.System.Configuration.{Configuration}
use Rattle.protocol.specs.System.Trace.{Has}
use Rattle.protocol.specs.Replica.State.{Call, call_of}
use Rattle.protocol.specs.Replica.Owed.{AreDifferent}
use Rattle.protocol.proofs.Words.Options.{some_injective}
use Rattle.protocol.proofs.Words.Elements.{each_mapped}
use Rattle.protocol.proofs.Words.Pairs.{Pairs, pairs_of, all_pairs}
use Rattle.replica_histories.specs.Numbers.{AreCalls}

-- ---- elements of parts

pub each_front : {A : Type 0} (P : A → Type 0) (xs ys : List A) → Each P (xs ++ ys) → Each P xs
each_front P [] ys h = tt
each_front P (x ∷ xs) ys h = (h.0, each_front P xs ys h.1)

pub each_back : {A : Type 0} (P : A → Type 0) (xs ys : List A) → Each P (xs ++ ys) → Each P ys
each_back P [] ys h = h
each_back P (x ∷ xs) ys h = each_back P xs ys h.1

pub has_taken : {A : Type 0} (P : A → Type 0) (n : ℕ) (xs : List A) → Has P (take n xs) → Has P xs
has_taken P zero xs h = absurd h
has_taken P (suc n) [] h = absurd h
has_taken P (suc n) (x ∷ xs) (inl h) = inl h
has_taken P (suc n) (x ∷ xs) (inr h) = inr (has_taken P n xs h)

-- ---- a filtered list, and properties of its elements

pub mapped_kept : {A B : Type 0} (f : A → B) (test : B → Bool) (xs : List A) → map f (filter (λ x. test (f x)) xs) ≡ filter test (map f xs)
mapped_kept f test [] = refl
mapped_kept f test (x ∷ xs) = go (test (f x)) (mapped_kept f test xs)
  where
    go : (b : Bool) → map f (filter (λ y. test (f y)) xs) ≡ filter test (map f xs)
        → map f (cond b (x ∷ filter (λ y. test (f y)) xs) (filter (λ y. test (f y)) xs)) ≡ cond b (f x ∷ filter test (map f xs)) (filter test (map f xs))
    go true h = ap (λ ys. f x ∷ ys) h
    go false h = h

pub each_unmapped : {A B : Type 0} (P : B → Type 0) (f : A → B) (xs : List A) → Each P (map f xs) → Each (λ x. P (f x)) xs
each_unmapped P f [] h = tt
each_unmapped P f (x ∷ xs) h = (h.0, each_unmapped P f xs h.1)

-- ---- each two

pub pairs_kept : {A : Type 0} (R : A → A → Type 0) (test : A → Bool) (xs : List A) → Pairs R xs → Pairs R (filter test xs)
pairs_kept R test xs h = pairs_of R (filter test xs) (AllPairs-filter R test xs (all_pairs R xs h))

pub pairs_mapped : {A B : Type 0} (R : B → B → Type 0) (f : A → B) (xs : List A) → Pairs (λ x y. R (f x) (f y)) xs → Pairs R (map f xs)
pairs_mapped R f [] h = tt
pairs_mapped R f (x ∷ xs) h = (each_mapped (R (f x)) f xs h.0, pairs_mapped R f xs h.1)

pub pairs_unmapped : {A B : Type 0} (R : B → B → Type 0) (f : A → B) (xs : List A) → Pairs R (map f xs) → Pairs (λ x y. R (f x) (f y)) xs
pairs_unmapped R f [] h = tt
pairs_unmapped R f (x ∷ xs) h = (each_unmapped (R (f x)) f xs h.0, pairs_unmapped R f xs h.1)

pub pairs_front : {A : Type 0} (R : A → A → Type 0) (xs ys : List A) → Pairs R (xs ++ ys) → Pairs R xs
pairs_front R [] ys h = tt
pairs_front R (x ∷ xs) ys h = (each_front (R x) xs ys h.0, pairs_front R xs ys h.1)

pub pairs_across : {A : Type 0} (R : A → A → Type 0) (xs ys : List A) → Pairs R (xs ++ ys) → Each (λ x. Each (R x) ys) xs
pairs_across R [] ys h = tt
pairs_across R (x ∷ xs) ys h = (each_back (R x) xs ys h.0, pairs_across R xs ys h.1)

pub pairs_with : {A : Type 0} (R : A → A → Type 0) (xs : List A) (y : A) → Pairs R xs → Each (λ x. R x y) xs → Pairs R (xs ++ y ∷ [])
pairs_with R [] y h e = (tt, tt)
pairs_with R (x ∷ xs) y h e = (with_one xs h.0, pairs_with R xs y h.1 e.1)
  where
    with_one : (zs : List _) → Each (R x) zs → Each (R x) (zs ++ y ∷ [])
    with_one [] k = (e.0, tt)
    with_one (z ∷ zs) k = (k.0, with_one zs k.1)

-- ---- frames and their calls

first_same : {A : Type 0} (x y : A) (xs ys : List A) → x ∷ xs ≡ y ∷ ys → x ≡ y
first_same x y xs ys e = cc

rest_same : {A : Type 0} (x y : A) (xs ys : List A) → x ∷ xs ≡ y ∷ ys → xs ≡ ys
rest_same x y xs ys e = cc

-- it is a call of this client and timestamp, or the frame of one
abbrev pub IsAt : ℕ → ℕ → Call → Type 0
IsAt client timestamp call = (call.client ≡ client) × (call.timestamp ≡ timestamp)

abbrev pub Spells : Configuration → ℕ → ℕ → List ℕ → Type 0
Spells c client timestamp frame = (call : Call) × (call_of c frame ≡ Some call) × (call.client ≡ client) × (call.timestamp ≡ timestamp)

-- it is of this client, and no older than the timestamp
abbrev pub Covers : ℕ → ℕ → Call → Type 0
Covers client timestamp call = (call.client ≡ client) × (timestamp ≤ call.timestamp)

module _ (c : Configuration) where
  pub spelled_at : (client timestamp : ℕ) (frames : List (List ℕ)) (calls : List Call) → AreCalls c frames calls → Has (Spells c client timestamp) frames → Has (IsAt client timestamp) calls
  spelled_at client timestamp [] calls e h = absurd h
  spelled_at client timestamp (frame ∷ frames) [] e h = absurd cc
  spelled_at client timestamp (frame ∷ frames) (x ∷ calls) e (inl (call, is, of_client, at)) =
      let same : call ≡ x = some_injective call x (sym is ∙ first_same (call_of c frame) (Some x) (map (call_of c) frames) (map Some calls) e) in
      inl (ap (λ (y : Call). y.client) (sym same) ∙ of_client, ap (λ (y : Call). y.timestamp) (sym same) ∙ at)
  spelled_at client timestamp (frame ∷ frames) (x ∷ calls) e (inr h) =
      inr (spelled_at client timestamp frames calls (rest_same (call_of c frame) (Some x) (map (call_of c) frames) (map Some calls) e) h)

  pub call_spelled : (call : Call) (frames : List (List ℕ)) (calls : List Call) → AreCalls c frames calls → Has (λ x. x ≡ call) calls → Has (Spells c call.client call.timestamp) frames
  call_spelled call [] [] e h = absurd h
  call_spelled call [] (x ∷ calls) e h = absurd cc
  call_spelled call (frame ∷ frames) [] e h = absurd h
  call_spelled call (frame ∷ frames) (x ∷ calls) e (inl h) =
      inl (call, first_same (call_of c frame) (Some x) (map (call_of c) frames) (map Some calls) e ∙ ap Some h, refl, refl)
  call_spelled call (frame ∷ frames) (x ∷ calls) e (inr h) =
      inr (call_spelled call frames calls (rest_same (call_of c frame) (Some x) (map (call_of c) frames) (map Some calls) e) h)

  -- frames of calls of different clients
  abbrev pub Differ : Call → Call → Type 0
  Differ = λ call twin. call.client ≢ twin.client

  frame_differs : (frame : List ℕ) (call : Call) → call_of c frame ≡ Some call → (frames : List (List ℕ)) (calls : List Call) → AreCalls c frames calls → Each (Differ call) calls → Each (AreDifferent c frame) frames
  frame_differs frame call is [] calls e d = tt
  frame_differs frame call is (other ∷ frames) [] e d = absurd cc
  frame_differs frame call is (other ∷ frames) (x ∷ calls) e d = (
    λ one twin is_one is_twin clients times.
        let first : one ≡ call = some_injective one call (sym is_one ∙ is) in
        let second : twin ≡ x = some_injective twin x (sym is_twin ∙ first_same (call_of c other) (Some x) (map (call_of c) frames) (map Some calls) e) in
        d.0 (ap (λ (y : Call). y.client) (sym first) ∙ clients ∙ ap (λ (y : Call). y.client) second),
    frame_differs frame call is frames calls (rest_same (call_of c other) (Some x) (map (call_of c) frames) (map Some calls) e) d.1,
  )

  pub frames_differ : (frames : List (List ℕ)) (calls : List Call) → AreCalls c frames calls → Pairs Differ calls → Pairs (AreDifferent c) frames
  frames_differ [] calls e d = tt
  frames_differ (frame ∷ frames) [] e d = absurd cc
  frames_differ (frame ∷ frames) (x ∷ calls) e d =
      let rest = rest_same (call_of c frame) (Some x) (map (call_of c) frames) (map Some calls) e in
      (frame_differs frame x (first_same (call_of c frame) (Some x) (map (call_of c) frames) (map Some calls) e) frames calls rest d.0, frames_differ frames calls rest d.1)
