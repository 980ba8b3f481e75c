-- How long a party's file is, and that it is ASCII.
use Rattle.std.proofs.Common.{◌≡◌, ℕ, zero, suc, ◌+◌, ◌*◌, ◌^◌, ◌<◌, ◌≤◌, ◌==◌, nat_lt, eqb-true, eq-eqb, Bool, true, false, cond, List, [], ◌∷◌, ◌++◌, length, Option, Some, None, arith, refl, ap, sym, ◌∙◌, subst, length-append}
use Rattle.std.specs.Prelude.{All, codes, filter, flat_map, not}
use Rattle.std.specs.Fmt.{decimal}
use Rattle.std.specs.List.{list_all, range_with_len}
use Rattle.std.specs.Str.{IsAscii}
use Rattle.std.proofs.lemmas.Bool.{ltb-true}
use Rattle.std.proofs.lemmas.Fmt.{IsAscii-decimal, length-decimal-le}
use Rattle.std.proofs.lemmas.List.FromFn.{length-range_with_len}
use Rattle.std.proofs.lemmas.List.Sums.{AllPass-from_list_all}
use Rattle.std.proofs.lemmas.Str.{IsAscii-append}
use Rattle.std.proofs.lemmas.Str.Ascii.{IsAscii-cons, IsAscii-from_all, IsAscii-nil}
use Rattle.hex.specs.Hex.{encode_lower, lower_digits}
use Rattle.hex.proofs.HexLemmas.{IsAscii-encode_with, length-encode_with}
use Rattle.terms.specs.declared.parties.TheConstants.{FIRST_CLIENT}
use Rattle.authenticator.specs.Dealing.{all_clients, all_replicas, clients_of, other_replicas, others_among, peers}
use Rattle.party_keys.specs.PartyData.{IsKey, PartyData}
use Rattle.party_keys.specs.Text.{file_text, key_text, keys_lines, number_line, seed_line}

-- ---- how many keys

none_out : (me a n : ℕ) → me < a → length (others_among (range_with_len a n) me) ≡ n
none_out me a zero h = refl
none_out me a (suc n) h = go (a == me) refl (none_out me (a + 1) n (omega (arith, h)))
  where
    go : (b : Bool) → (a == me) ≡ b → length (others_among (range_with_len (a + 1) n) me) ≡ n → length (others_among (range_with_len a (suc n)) me) ≡ suc n
    go true e rest = let same = eqb-true a me e in absurd (omega (arith, same, h))
    go false e rest = rw e (ap suc rest)

one_out : (me a n : ℕ) → n ≤ length (others_among (range_with_len a n) me) + 1
one_out me a zero = omega arith
one_out me a (suc n) = go (a == me) refl (one_out me (a + 1) n)
  where
    go : (b : Bool) → (a == me) ≡ b → n ≤ length (others_among (range_with_len (a + 1) n) me) + 1 → suc n ≤ length (others_among (range_with_len a (suc n)) me) + 1
    go true e rest = let same = eqb-true a me e in let out = none_out me (a + 1) n (omega (arith, same)) in rw e (omega (arith, out))
    go false e rest = rw e (omega (arith, rest))

some_out : (me : ℕ) (ps : List ℕ) → length (others_among ps me) ≤ length ps
some_out me [] = omega arith
some_out me (p ∷ ps) = go (p == me) refl (some_out me ps)
  where
    go : (b : Bool) → (p == me) ≡ b → length (others_among ps me) ≤ length ps → length (others_among (p ∷ ps) me) ≤ suc (length ps)
    go true e rest = rw e (omega (arith, rest))
    go false e rest = rw e (omega (arith, rest))

few_clients : (me clients : ℕ) → length (all_clients (clients_of me clients)) ≤ clients
few_clients me clients = go (nat_lt me FIRST_CLIENT) refl
  where
    go : (b : Bool) → nat_lt me FIRST_CLIENT ≡ b → length (all_clients (clients_of me clients)) ≤ clients
    go true e = rw e (omega (arith, length-range_with_len FIRST_CLIENT clients))
    go false e = rw e (omega arith)

pub most_peers : (faults clients me : ℕ) → faults ≤ 3 → clients ≤ 256 → length (peers faults clients me) ≤ 266
most_peers faults clients me f k =
    omega (arith, f, k, length-append (other_replicas faults me) (all_clients (clients_of me clients)), some_out me (all_replicas faults), few_clients me clients, length-range_with_len 0 (3 * faults + 1))

pub some_peers : (faults clients me : ℕ) → 1 ≤ faults → 2 ≤ length (peers faults clients me)
some_peers faults clients me f =
    omega (arith, f, length-append (other_replicas faults me) (all_clients (clients_of me clients)), one_out me 0 (3 * faults + 1))

-- ---- lengths of texts

key_length : (key : List ℕ) → length key ≡ 32 → length (key_text key) ≡ 72
key_length key h =
    omega (arith, h, length-append (encode_lower key) (codes "\","), length-encode_with lower_digits key)

keys_length : (keys : List (List ℕ)) → All IsKey keys → length (flat_map key_text keys) ≡ 72 * length keys
keys_length [] h = refl
keys_length (key ∷ keys) h =
    let here = key_length key (h 0 [] (omega arith)).size in
    let rest = keys_length keys (λ k d p. h (suc k) d (omega (arith, p))) in
    omega (arith, here, rest, length-append (key_text key) (flat_map key_text keys))

lines_length : (name : List ℕ) (keys : List (List ℕ)) → All IsKey keys → length (keys_lines name keys) ≡ length name + 72 * length keys + 7
unfolding keys_lines
lines_length name keys h =
    omega (arith, keys_length keys h, length-append name (codes " = [" ++ (flat_map key_text keys ++ codes "\n]\n")), length-append (flat_map key_text keys) (codes "\n]\n"))

number_length : (name : List ℕ) (n : ℕ) → n < 1000 → length (number_line name n) ≤ length name + 7
unfolding number_line
number_length name n h =
    omega (arith, length-decimal-le 3 n (omega arith) (omega (arith, h)) (omega (arith, h)), length-append name (codes " = " ++ (decimal n ++ 10 ∷ [])), length-append (decimal n) (10 ∷ []))

abbrev pub SeedIsKey : Option (List ℕ) → Type 0
SeedIsKey None = Unit {0}
SeedIsKey (Some seed) = IsKey seed

seed_length : (seed : Option (List ℕ)) → SeedIsKey seed → length (seed_line seed) ≤ 82
unfolding seed_line
seed_length None h = omega arith
seed_length (Some seed) h =
    omega (arith, h.size, length-append (encode_lower seed) (codes "\"\n"), length-encode_with lower_digits seed)

joined : (xs ys : List ℕ) (a b : ℕ) → length xs ≤ a → length ys ≤ b → length (xs ++ ys) ≤ a + b
joined xs ys a b h k = omega (arith, h, k, length-append xs ys)

pub file_length : (k : PartyData) → k.party < 1000 → k.faults < 1000 → k.clients < 1000 → k.period < 1000 → length k.from ≤ 266 → length k.to ≤ 266 → length k.publics ≤ 10
    → All IsKey k.from → All IsKey k.to → All IsKey k.publics → SeedIsKey k.seed → length (file_text k) ≤ 65536
file_length k a b d e f t p from_keys to_keys public_keys seed_key =
    let seven = lines_length (codes "to") k.to to_keys in
    let six = seed_length k.seed seed_key in
    let five = lines_length (codes "public") k.publics public_keys in
    let four = number_length (codes "party") k.party a in
    let three = lines_length (codes "from") k.from from_keys in
    let two = number_length (codes "f") k.faults b in
    let one = number_length (codes "clients") k.clients d in
    let zeroth = number_length (codes "checkpoint") k.period e in
    let whole : length (file_text k) ≤ 17 + (14 + (8 + (20000 + (12 + (1000 + (82 + 20000)))))) =
    joined (number_line (codes "checkpoint") k.period) _ 17 _ zeroth
    (joined (number_line (codes "clients") k.clients) _ 14 _ one
    (joined (number_line (codes "f") k.faults) _ 8 _ two
    (joined (keys_lines (codes "from") k.from) _ 20000 _ (omega (arith, three, f))
    (joined (number_line (codes "party") k.party) _ 12 _ four
    (joined (keys_lines (codes "public") k.publics) _ 1000 _ (omega (arith, five, p))
    (joined (seed_line k.seed) (keys_lines (codes "to") k.to) 82 20000 six (omega (arith, seven, t)))))))) in
    omega (arith, whole)

-- ---- ASCII

literal : (xs : List ℕ) → list_all (λ b. nat_lt b 128) xs ≡ true → IsAscii xs
literal xs h = IsAscii-from_all xs (λ k d p. ltb-true _ 128 (AllPass-from_list_all (λ b. nat_lt b 128) xs h k d p))

digits_ascii : (key : List ℕ) → IsAscii (encode_lower key)
digits_ascii key = IsAscii-encode_with lower_digits key (literal lower_digits refl)

key_ascii : (key : List ℕ) → IsAscii (key_text key)
key_ascii key = IsAscii-append (codes "\n    \"") _ (literal (codes "\n    \"") refl) (IsAscii-append (encode_lower key) (codes "\",") (digits_ascii key) (literal (codes "\",") refl))

keys_ascii : (keys : List (List ℕ)) → IsAscii (flat_map key_text keys)
keys_ascii [] = IsAscii-nil
keys_ascii (key ∷ keys) = IsAscii-append (key_text key) (flat_map key_text keys) (key_ascii key) (keys_ascii keys)

lines_ascii : (name : List ℕ) (keys : List (List ℕ)) → IsAscii name → IsAscii (keys_lines name keys)
unfolding keys_lines
lines_ascii name keys h =
    IsAscii-append name (codes " = [" ++ (flat_map key_text keys ++ codes "\n]\n")) h
    (IsAscii-append (codes " = [") (flat_map key_text keys ++ codes "\n]\n") (literal (codes " = [") refl)
    (IsAscii-append (flat_map key_text keys) (codes "\n]\n") (keys_ascii keys) (literal (codes "\n]\n") refl)))

number_ascii : (name : List ℕ) (n : ℕ) → IsAscii name → n < 1000 → IsAscii (number_line name n)
unfolding number_line
number_ascii name n h small =
    IsAscii-append name (codes " = " ++ (decimal n ++ 10 ∷ [])) h
    (IsAscii-append (codes " = ") (decimal n ++ 10 ∷ []) (literal (codes " = ") refl)
    (IsAscii-append (decimal n) (10 ∷ []) (IsAscii-decimal n (omega (arith, small))) (literal (10 ∷ []) refl)))

seed_ascii : (seed : Option (List ℕ)) → IsAscii (seed_line seed)
unfolding seed_line
seed_ascii None = IsAscii-nil
seed_ascii (Some seed) =
    IsAscii-append (codes "signing_seed = \"") (encode_lower seed ++ codes "\"\n") (literal (codes "signing_seed = \"") refl)
    (IsAscii-append (encode_lower seed) (codes "\"\n") (digits_ascii seed) (literal (codes "\"\n") refl))

pub file_ascii : (k : PartyData) → k.party < 1000 → k.faults < 1000 → k.clients < 1000 → k.period < 1000 → IsAscii (file_text k)
file_ascii k a b d e =
    IsAscii-append (number_line (codes "checkpoint") k.period) _ (number_ascii (codes "checkpoint") k.period (literal (codes "checkpoint") refl) e)
    (IsAscii-append (number_line (codes "clients") k.clients) _ (number_ascii (codes "clients") k.clients (literal (codes "clients") refl) d)
    (IsAscii-append (number_line (codes "f") k.faults) _ (number_ascii (codes "f") k.faults (literal (codes "f") refl) b)
    (IsAscii-append (keys_lines (codes "from") k.from) _ (lines_ascii (codes "from") k.from (literal (codes "from") refl))
    (IsAscii-append (number_line (codes "party") k.party) _ (number_ascii (codes "party") k.party (literal (codes "party") refl) a)
    (IsAscii-append (keys_lines (codes "public") k.publics) _ (lines_ascii (codes "public") k.publics (literal (codes "public") refl))
    (IsAscii-append (seed_line k.seed) _ (seed_ascii k.seed) (lines_ascii (codes "to") k.to (literal (codes "to") refl))))))))
