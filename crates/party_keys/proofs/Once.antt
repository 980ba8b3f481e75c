-- A table says the keys of one party at most.
use Rattle.std.proofs.Common.{◌≡◌, ℕ, ℤ, pos, List, [], ◌∷◌, Option, Some, None, refl, ap, sym, ◌∙◌}
use Rattle.std.specs.Prelude.{Ok, Result, codes}
use Rattle.hex.specs.Hex.{decode_sized}
use Rattle.hex.specs.declared.FromHexError.{FromHexError}
use Rattle.toml.specs.Data.{Data, Items, no_items, item, Members, get_member, as_str}
use Rattle.party_keys.specs.PartyData.{PartyData}
use Rattle.party_keys.specs.Reading.{AreKeyTexts, HasKeys, IsFoundSeed, HasSeed, IsKeyText, KeyHasNumber, SaysParty}

same_pos : (o : Option ℤ) (n m : ℕ) → o ≡ Some (pos n) → o ≡ Some (pos m) → n ≡ m
same_pos o n m h k = let e : Some (pos n) ≡ Some (pos m) = sym h ∙ k in cc

pub same_some : {X : Type 0} (o : Option X) (x y : X) → o ≡ Some x → o ≡ Some y → x ≡ y
same_some o x y h k = let e : Some x ≡ Some y = sym h ∙ k in cc

same_ok : {X E : Type 0} (r : Result X E) (x y : X) → r ≡ Ok x → r ≡ Ok y → x ≡ y
same_ok r x y h k = let e : Ok x ≡ Ok y = sym h ∙ k in cc

one_key : (d : Data) (x y : List ℕ) → IsKeyText d x → IsKeyText d y → x ≡ y
one_key d x y h k =
    let same : h.0 ≡ k.0 = same_some (as_str d) h.0 k.0 h.1 k.1 in
    same_ok (decode_sized k.0 32) x y (rw same at h.2) k.2

all_once : (ds : Items) (xs ys : List (List ℕ)) → AreKeyTexts ds xs → AreKeyTexts ds ys → xs ≡ ys
all_once no_items xs ys h k = h ∙ sym k
all_once (item d ds) [] ys h k = absurd h
all_once (item d ds) (x ∷ xs) [] h k = absurd k
all_once (item d ds) (x ∷ xs) (y ∷ ys) h k =
    ap (λ z. z ∷ xs) (one_key d x y h.0 k.0) ∙ ap (λ zs. y ∷ zs) (all_once ds xs ys h.1 k.1)

many_once : (table : Members) (name : List ℕ) (xs ys : List (List ℕ)) → HasKeys table name xs → HasKeys table name ys → xs ≡ ys
many_once table name xs ys h k =
    let same : h.0 ≡ k.0 = same_some _ h.0 k.0 h.1 k.1 in
    all_once k.0 xs ys (rw same at h.2) k.2

seed_once : (o : Option Data) (x y : Option (List ℕ)) → IsFoundSeed x o → IsFoundSeed y o → x ≡ y
seed_once None x y h k = h ∙ sym k
seed_once (Some d) x y h k = h.1 ∙ ap Some (one_key d h.0 k.0 h.2 k.2) ∙ sym k.1

pub same_number : (table : Members) (name : List ℕ) (n m : ℕ) → KeyHasNumber table name n → KeyHasNumber table name m → n ≡ m
same_number table name n m h k = same_pos _ n m h k

pub same_keys : (table : Members) (name : List ℕ) (xs ys : List (List ℕ)) → HasKeys table name xs → HasKeys table name ys → xs ≡ ys
same_keys = many_once

build : (a a' b b' d d' e e' : ℕ) (f f' t t' p p' : List (List ℕ)) (s s' : Option (List ℕ)) → a ≡ a' → b ≡ b' → d ≡ d' → e ≡ e' → f ≡ f' → t ≡ t' → p ≡ p' → s ≡ s'
    → ◌≡◌ {A = PartyData} (record { party = a; faults = b; clients = d; period = e; from = f; to = t; publics = p; seed = s })
    (record { party = a'; faults = b'; clients = d'; period = e'; from = f'; to = t'; publics = p'; seed = s' })
build a a' b b' d d' e e' f f' t t' p p' s s' pa pb pd pe pf pt pp ps = rw (pa, pb, pd, pe, pf, pt, pp, ps) refl

pub parts_same : (j k : PartyData) → j.party ≡ k.party → j.faults ≡ k.faults → j.clients ≡ k.clients → j.period ≡ k.period → j.from ≡ k.from → j.to ≡ k.to → j.publics ≡ k.publics → j.seed ≡ k.seed → j ≡ k
parts_same j k a b d e f t p s = build j.party k.party j.faults k.faults j.clients k.clients j.period k.period j.from k.from j.to k.to j.publics k.publics j.seed k.seed a b d e f t p s

pub same_party : (table : Members) (j k : PartyData) → SaysParty table j → SaysParty table k → j ≡ k
same_party table j k h g =
    let a : j.party ≡ k.party = same_number table (codes "party") j.party k.party h.party g.party in
    let b : j.faults ≡ k.faults = same_number table (codes "f") j.faults k.faults h.faults g.faults in
    let d : j.clients ≡ k.clients = same_number table (codes "clients") j.clients k.clients h.clients g.clients in
    let e : j.period ≡ k.period = same_number table (codes "checkpoint") j.period k.period h.period g.period in
    let f : j.from ≡ k.from = many_once table (codes "from") j.from k.from h.from g.from in
    let t : j.to ≡ k.to = many_once table (codes "to") j.to k.to h.to g.to in
    let p : j.publics ≡ k.publics = many_once table (codes "public") j.publics k.publics h.publics g.publics in
    let s : j.seed ≡ k.seed = seed_once (get_member (codes "signing_seed") table) j.seed k.seed h.seed g.seed in
    parts_same j k a b d e f t p s
