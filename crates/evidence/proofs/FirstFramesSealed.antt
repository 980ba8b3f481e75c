-- Sealed frames are authentic to their receivers.
use Rattle.std.proofs.Common.{◌≡◌, ℕ, suc, ◌+◌, ◌^◌, ◌<◌, ◌≤◌, inl, inr, Bool, true, false, List, [], ◌∷◌, map, length, Contains, All, AllPairs, Some, refl, ap, ◌*◌, arith, ◌||◌, length-append}
use Rattle.std.specs.Prelude.{nat_lt, nat_le}
use Rattle.std.proofs.lemmas.Bool.{and_parts, and_from, or_left, or_right, ltb-true, lt-ltb}
use Rattle.std.specs.Int.{w32, to_be_bytes}
use Rattle.std.proofs.lemmas.List.Elements.{All-cons, All-head, All-map, All-nil, All-tail}
use Rattle.wire_format.specs.Lists.{Each, each_spelling, leads, ascends}
use Rattle.wire_format.specs.Messages.{BodyData as Body, MessageData as Message, MacData, FrameData as Frame, request as Request}
use Rattle.wire_format.specs.Spelling.{IsMac, mac_spelling, body_spelling, frame_limit, SpellsFrame}
use Rattle.authenticator.specs.Keys.{Keys, dealt, key_between}
use Rattle.authenticator.specs.Authentic.{mac_of}
use Rattle.authenticator.specs.Membership.{sends}
use Rattle.authenticator.specs.Opening.{Opens}
use Rattle.authenticator.specs.Sealing.{IsSealable, entry_for, sealed_for}
use Rattle.authenticator.proofs.Digests.{hmac_of-digest}
use Rattle.authenticator.specs.Laws.{is_peer}
use Rattle.authenticator.proofs.Entries.{shared-have}
use Rattle.authenticator.proofs.Lengths.{length-hmac_of}
use Rattle.authenticator.proofs.Sealing.{sealed-spells}
use Rattle.signing.proofs.AuthenticBody.{opened_is_authentic}
use Rattle.protocol.specs.System.Configuration.{Configuration, IsConfiguration, replicas, is_replica, is_client, members, signers}
use Rattle.signing.specs.AuthenticBody.{authentic}
use Rattle.protocol.specs.System.Trace.{Has}
use Rattle.protocol.specs.System.Schedule.{is_party, sealed_bytes}
use Rattle.evidence.specs.FirstOperation.{IsFrameFrom, SealedFramesAreAuthentic}
use Rattle.wire_format.proofs.Saying.{reads_frames, reads_said}
use Rattle.protocol.proofs.Words.Elements.{each_has}
use Rattle.evidence.proofs.Knowing.{DoExchange, dealt_is_shared, exchange_apart, own_code, peers_exchange}

-- ---- the entries of an authenticator

are_macs : (keys : Keys) (sender : ℕ) (text : List ℕ) (ps : List ℕ) → Each (λ p. p < 2 ^ 16) ps → Each IsMac (map (entry_for keys sender text) ps)
are_macs keys sender text [] h = tt
are_macs keys sender text (p ∷ ps) h = ((h.0, hmac_of-digest (key_between keys sender p) text), are_macs keys sender text ps h.1)

are_for : (keys : Keys) (sender : ℕ) (text : List ℕ) (ps : List ℕ) → map (λ (x : MacData). x.receiver) (map (entry_for keys sender text) ps) ≡ ps
are_for keys sender text [] = refl
are_for keys sender text (p ∷ ps) = ap (λ qs. p ∷ qs) (are_for keys sender text ps)

entries_length : (keys : Keys) (sender : ℕ) (text : List ℕ) (ps : List ℕ) → length (each_spelling mac_spelling (map (entry_for keys sender text) ps)) ≡ 34 * length ps
entries_length keys sender text [] = refl
entries_length keys sender text (p ∷ ps) =
    simp length-append (omega (arith, length-hmac_of (key_between keys sender p) text, entries_length keys sender text ps))

pub sealed_length : (c : Configuration) (sender : ℕ) (receivers text : List ℕ) → length (sealed_bytes c sender receivers text) ≡ length text + (6 + 34 * length receivers)
sealed_length c sender receivers text =
    simp length-append (omega (arith, entries_length (dealt c.seed) sender text receivers))

has_contains : (p : ℕ) (rs : List ℕ) → Has (λ r. r ≡ p) rs → Contains rs p
has_contains p [] h = absurd h
has_contains p (r ∷ rs) (inl e) = (0, omega arith, e)
has_contains p (r ∷ rs) (inr h) = let k = has_contains p rs h in (suc k.0, omega (arith, k.1), k.2)

-- ---- a body that may be sealed for these parties

pub record MaySeal (c : Configuration) (body : Body) (receivers : List ℕ) : Type 0 where
  pub can : IsSealable body receivers
  pub known : sends (signers c) body.sender body.message ≡ true
  pub peers : Each (DoExchange c body.sender) receivers
  pub parties : Each (λ p. p < 2 ^ 16) receivers
  pub short : length (sealed_bytes c body.sender receivers (body_spelling body)) ≤ frame_limit body.message

module _ (c : Configuration) (body : Body) (receivers : List ℕ) (may : MaySeal c body receivers) where
  abbrev text : List ℕ
  text = body_spelling body

  abbrev sealed : List ℕ
  sealed = sealed_bytes c body.sender receivers text

  abbrev frame : Frame
  frame = sealed_for (dealt c.seed) body receivers

  pub sealed_spells : SpellsFrame sealed frame
  sealed_spells =
      let n = sealed_length c body.sender receivers text in
      let m = length-append (to_be_bytes w32 (length text)) text in
      sealed-spells (dealt c.seed) body receivers sealed (map (entry_for (dealt c.seed) body.sender text) receivers) may.can refl
      (are_macs (dealt c.seed) body.sender text receivers may.parties) (omega (arith, n, m, may.short)) refl

  own_codes : (ps : List ℕ) → Each (DoExchange c body.sender) ps → All (λ p. mac_of (dealt c.seed) p body ≡ mac_of (members c body.sender).keys p body) ps
  own_codes [] h = All-nil (λ (p : ℕ). mac_of (dealt c.seed) p body ≡ mac_of (members c body.sender).keys p body)
  own_codes (p ∷ ps) h =
      All-cons (λ (q : ℕ). mac_of (dealt c.seed) q body ≡ mac_of (members c body.sender).keys q body) p ps (own_code c body.sender p text h.0) (own_codes ps h.1)

  exchanges : (p : ℕ) → Has (λ r. r ≡ p) receivers → DoExchange c body.sender p
  exchanges p among = each_has (DoExchange c body.sender) receivers p may.peers among

  opens : (p : ℕ) → Has (λ r. r ≡ p) receivers → Opens (members c p) p sealed frame
  opens p among = record {
    spelled = sealed_spells;
    sender = may.known;
    proved = shared-have (dealt c.seed) (members c p).keys body.sender text receivers p (has_contains p receivers among) (dealt_is_shared c body.sender p (exchanges p among));
  }

  receives : (p : ℕ) → Has (λ r. r ≡ p) receivers → authentic (members c p) p sealed ≡ Some body
  receives p among =
      opened_is_authentic (members c p) p sealed frame (opens p among) (exchange_apart c body.sender p (exchanges p among))
      (λ signed. absurd (let u = may.can.unsigned in let g : ⊥ = cc in g))

  pub sealed_is_authentic : IsFrameFrom c body.sender body.message receivers sealed
  sealed_is_authentic = record {
    frame = frame;
    entries = map (entry_for (dealt c.seed) body.sender text) receivers;
    spells = (reads_frames sealed frame).1 sealed_spells;
    says = reads_said sealed frame sealed_spells;
    has_macs = refl;
    is_sealed = All-map (λ (x : MacData). x.mac ≡ mac_of (members c body.sender).keys x.receiver body) (entry_for (dealt c.seed) body.sender text) receivers
        (own_codes receivers may.peers);
    is_for = are_for (dealt c.seed) body.sender text receivers;
    is_authentic_to = receives;
  }

-- ---- the law

ascends_of : (ps : List ℕ) → AllPairs (λ p q. p < q) ps → ascends nat_lt ps ≡ true
ascends_of [] h = refl
ascends_of (p ∷ ps) h = and_from (leads nat_lt p ps) (ascends nat_lt ps) (first ps h) (ascends_of ps (λ i j d l m. h (suc i) (suc j) d (omega arith) (omega arith)))
  where
    first : (qs : List ℕ) → AllPairs (λ p q. p < q) (p ∷ qs) → leads nat_lt p qs ≡ true
    first [] h = refl
    first (q ∷ qs) h = lt-ltb p q (h 0 1 0 (omega arith) (omega arith))

client_below : (c : Configuration) → IsConfiguration c → (p : ℕ) → is_client c p ≡ true → p < 2 ^ 16
client_below c valid p h =
    let l : p < 256 + c.clients = ltb-true p (256 + c.clients) (and_parts (nat_le 256 p) (nat_lt p (256 + c.clients)) h).1 in
    let m = valid.clients in
    omega arith

party_below : (c : Configuration) → IsConfiguration c → (p : ℕ) → is_party c p ≡ true → p < 2 ^ 16
party_below c valid p h = go (is_replica c p) refl h
  where
    go : (b : Bool) → is_replica c p ≡ b → (b || is_client c p) ≡ true → p < 2 ^ 16
    go true is h = let l : p < replicas c = ltb-true p (replicas c) is in let m = valid.most in omega arith
    go false is h = client_below c valid p h

parties_below : (c : Configuration) → IsConfiguration c → (ps : List ℕ) → All (λ p. is_party c p ≡ true) ps → Each (λ p. p < 2 ^ 16) ps
parties_below c valid [] h = tt
parties_below c valid (p ∷ ps) h = (party_below c valid p (h 0 0 (omega arith)), parties_below c valid ps (λ k d l. h (suc k) d (omega arith)))

sender_below : (c : Configuration) → IsConfiguration c → (p : ℕ) (m : Message) → sends (signers c) p m ≡ true → p < 2 ^ 16
sender_below c valid p (Request t mode op) h = client_below c valid p h
sender_below c valid p _ h = let l : p < replicas c = ltb-true p (replicas c) h in let m = valid.most in omega arith

sender_takes_part : (c : Configuration) (p : ℕ) (m : Message) → sends (signers c) p m ≡ true → is_party c p ≡ true
sender_takes_part c p (Request t mode op) h = or_right (is_replica c p) (is_client c p) h
sender_takes_part c p _ h = or_left (is_replica c p) (is_client c p) h

all_exchange : (c : Configuration) → IsConfiguration c → (sender : ℕ) → is_party c sender ≡ true → (ps : List ℕ) → All (λ p. is_peer c.faults c.clients sender p ≡ true) ps
    → Each (DoExchange c sender) ps
all_exchange c valid sender party [] h = tt
all_exchange c valid sender party (p ∷ ps) h = (
  peers_exchange c (let m = valid.most in let few : replicas c ≤ 256 = omega arith in few) sender p party
      (All-head (λ (q : ℕ). is_peer c.faults c.clients sender q ≡ true) p ps h),
  all_exchange c valid sender party ps (All-tail (λ (q : ℕ). is_peer c.faults c.clients sender q ≡ true) p ps h),
)

pub sealed_frames_are_authentic : SealedFramesAreAuthentic
sealed_frames_are_authentic c valid sender message receivers known right unsigned are peers short =
    sealed_is_authentic c (record { sender = sender; message = message }) receivers (record {
      can = record {
        said = record { sender = sender_below c valid sender message known; message = right };
        unsigned = unsigned;
        some = are.some;
        few = are.few;
        ascend = ascends_of receivers are.ascend;
      };
      known = known;
      peers = all_exchange c valid sender (sender_takes_part c sender message known) receivers peers;
      parties = parties_below c valid receivers are.parties;
      short = short;
    })
