-- The body that is sealed for all replicas is the client's request.
use Rattle.std.proofs.Common.{◌++◌, length-append, Result, Ok, Err, ◌≡◌, ℕ, zero, suc, ◌+◌, ◌*◌, ◌≤◌, ◌<◌, ◌^◌, true, List, [], ◌∷◌, refl, sym, ap, ◌∙◌, subst, map, length, arith, add-one}
use Rattle.std.specs.Prelude.{nat_lt, IfOk}
use Rattle.std.specs.Int.{w16, w32, w64, to_be_bytes}
use Rattle.std.specs.List.{range_with_len}
use Rattle.std.proofs.lemmas.Bool.{and_from, lt-ltb}
use Rattle.std.proofs.lemmas.List.FromFn.{length-range_with_len}
use Rattle.terms.specs.declared.order.Mode.{Mode}
use Rattle.terms.specs.declared.parties.Party.{Party}
use Rattle.terms.specs.declared.parties.Party.TheVariants as parties
use Rattle.terms.specs.declared.parties.ReplicaId.{ReplicaId}
use Rattle.terms.specs.Parties.{party_number}
use Rattle.tuple_codec.specs.Operations.{Operation, IsOperation}
use Rattle.tuple_codec.specs.Spelling.{operation_spelling}
use Rattle.wire_format.specs.Lists.{ascends, leads}
use Rattle.wire_format.specs.Messages.{BodyData as Body, request as Request}
use Rattle.wire_format.specs.Spelling.{SpellsFrame, body_spelling, fields_spelling, mode_byte}
use Rattle.tuple_codec.proofs.Lengths.{operation_short}
use Rattle.authenticator.specs.Keys.{Keys}
use Rattle.authenticator.specs.Membership.{Membership}
use Rattle.authenticator.specs.Sealing.{sealed_for, IsSealable, IsTooLong}
use Rattle.signing.specs.Publics.{knows}
use Rattle.protocol.specs.System.Configuration.{Configuration, members, replicas}
use Rattle.protocol.proofs.Words.Outgoing.{sealed_is_outgoing}
use Rattle.events.specs.Outputs.{receivers_in}
use Rattle.events.proofs.Meant.{sealed_is_for}
use Rattle.client_cert.specs.Asking.{AsksWith, IsShort}
use Rattle.authenticator.proofs.Sealing.{sealed-short}

abbrev request_body : ℕ → ℕ → Mode → Operation → Body
request_body me t mode op = record { sender = me; message = Request t mode op }

abbrev SpellsSealed : Membership → Body → List ℕ → Type 0
SpellsSealed m body bytes = SpellsFrame bytes (sealed_for m.keys body (range_with_len 0 (3 * m.faults + 1)))

asks_with : (m : Membership) (me t : ℕ) (mode : Mode) (op : Operation) (bytes : List ℕ) → SpellsSealed m (request_body me t mode op) bytes → AsksWith m me mode t op bytes
asks_with m me t mode op bytes spells c known =
    let here : SpellsSealed (members c me) (request_body me t mode op) bytes = subst (λ (x : Membership). SpellsSealed x (request_body me t mode op) bytes) (sym known) spells in
    sealed_is_outgoing c (request_body me t mode op) (range_with_len 0 (3 * c.faults + 1)) bytes here

-- ---- such a request may be sealed

first_below : (a n : ℕ) → leads nat_lt a (range_with_len (a + 1) n) ≡ true
first_below a zero = refl
first_below a (suc n) = lt-ltb a (a + 1) (omega arith)

range_ascends : (a n : ℕ) → ascends nat_lt (range_with_len a n) ≡ true
range_ascends a zero = refl
range_ascends a (suc n) = and_from (leads nat_lt a (range_with_len (a + 1) n)) (ascends nat_lt (range_with_len (a + 1) n)) (first_below a n) (range_ascends (a + 1) n)

pub may_seal : (sender t faults : ℕ) (mode : Mode) (op : Operation) (receivers : List ℕ) → sender < 2 ^ 16 → t < 2 ^ 64 → IsOperation op → faults ≤ 3
    → receivers ≡ range_with_len 0 (3 * faults + 1) → IsSealable (record { sender = sender; message = Request t mode op }) receivers
may_seal sender t faults mode op receivers a b is few all =
    let n : length receivers ≡ 3 * faults + 1 = ap length all ∙ length-range_with_len 0 (3 * faults + 1) in
    record {
      said = record { sender = a; message = (b, is) };
      unsigned = refl;
      some = omega (arith, n);
      few = omega (arith, n);
      ascend = ap (ascends nat_lt) all ∙ range_ascends 0 (3 * faults + 1);
    }

-- ---- and its frame is short

pub request_is_short : (me t : ℕ) (mode : Mode) (op : Operation) → IsOperation op → IsShort (request_body me t mode op)
request_is_short me t mode op is =
    let body = body_spelling (request_body me t mode op) in
    let fields = fields_spelling (Request t mode op) in
    let whole = length-append (to_be_bytes w32 (length body)) body in
    let behind = length-append (to_be_bytes w16 me) fields in
    let rest = length-append (to_be_bytes w64 t) (mode_byte mode ∷ operation_spelling op) in
    let l = operation_short op is in
    omega (arith, whole, behind, rest, l)

-- no receiver among ten makes it too long
pub never_too_long : (keys : Keys) (body : Body) (receivers : List ℕ) → IsShort body → length receivers ≤ 10 → IsTooLong (sealed_for keys body receivers) → ⊥
never_too_long keys body receivers short few long = let l = short in sealed-short keys body receivers (omega (arith, l, few)) long

-- ---- the frame that the program makes

range_more : (a n : ℕ) → range_with_len a (n + 1) ≡ range_with_len a n ++ (a + n) ∷ []
range_more a n = ap (range_with_len a) (add-one n) ∙ go a n
  where
    go : (a n : ℕ) → range_with_len a (suc n) ≡ range_with_len a n ++ (a + n) ∷ []
    go a zero = ap (λ (x : ℕ). x ∷ []) (let e : a ≡ a + 0 = omega arith in e)
    go a (suc n) = ap (λ (xs : List ℕ). a ∷ xs) (go (a + 1) n ∙ ap (λ (x : ℕ). range_with_len (a + 1) n ++ x ∷ []) (let e : a + 1 + n ≡ a + suc n = omega arith in e))

appended : (ps : List Party) (p : Party) → map party_number (ps ++ p ∷ []) ≡ map party_number ps ++ party_number p ∷ []
appended [] p = refl
appended (q ∷ ps) p = ap (λ (xs : List ℕ). party_number q ∷ xs) (appended ps p)

pub replicas_more : (ps : List Party) (r : ReplicaId) → map party_number ps ≡ range_with_len 0 r.0 → map party_number (ps ++ parties.Replica r ∷ []) ≡ range_with_len 0 (r.0 + 1)
replicas_more ps r e = appended ps (parties.Replica r) ∙ ap (λ (xs : List ℕ). xs ++ r.0 ∷ []) e ∙ sym (range_more 0 r.0 ∙ ap (λ (x : ℕ). range_with_len 0 r.0 ++ x ∷ []) (let e : 0 + r.0 ≡ r.0 = omega arith in e))

pub sealed_asks : {V E : Type 0} (r : Result V E) (items : V → List ℕ) (m : Membership) (me t faults : ℕ) (mode : Mode) (op : Operation) → faults ≡ m.faults
    → IfOk r (λ v. SpellsFrame (items v) (sealed_for m.keys (record { sender = me; message = Request t mode op }) (range_with_len 0 (3 * faults + 1))))
    → IfOk r (λ v. (publics : List (List ℕ)) → AsksWith (knows m publics) me mode t op (items v))
sealed_asks (Ok v) items m me t faults mode op e h =
    λ publics. asks_with (knows m publics) me t mode op (items v)
    (subst (λ (f : ℕ). SpellsFrame (items v) (sealed_for m.keys (request_body me t mode op) (range_with_len 0 (3 * f + 1)))) e h)
sealed_asks (Err x) items m me t faults mode op e h = h

-- ---- for whom a request is

-- A request that goes to all replicas goes to those for whom it is.
pub request_goes : (m : Membership) (me t faults : ℕ) (mode : Mode) (op : Operation) (numbers text : List ℕ) → faults ≡ m.faults → numbers ≡ range_with_len 0 (3 * faults + 1) → AsksWith m me mode t op text
    → (c : Configuration) → members c me ≡ m → numbers ≡ receivers_in c me text
request_goes m me t faults mode op numbers text size goes asks c known =
    let count : faults ≡ c.faults = size ∙ ap (λ (x : Membership). x.faults) (sym known) in
    let n : length (range_with_len 0 (3 * c.faults + 1)) ≡ 3 * c.faults + 1 = length-range_with_len 0 (3 * c.faults + 1) in
    goes ∙ ap (λ (f : ℕ). range_with_len 0 (3 * f + 1)) count
    ∙ sym (sealed_is_for c me (Request t mode op) (range_with_len 0 (replicas c)) text (omega (arith, n)) (asks c known))
