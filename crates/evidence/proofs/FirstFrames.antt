-- There are frames of the first operation.
use Rattle.std.proofs.Common.{◌≡◌, ℕ, zero, suc, ◌+◌, ◌^◌, ◌<◌, ◌≤◌, Bool, true, false, cond, List, [], ◌∷◌, length, refl, sym, subst, arith, length-append}
use Rattle.std.specs.Prelude.{◌||◌, nat_lt, slice_index}
use Rattle.std.specs.List.{range_with_len}
use Rattle.std.proofs.lemmas.Bool.{lt-ltb}
use Rattle.sha2.specs.Sha256.{sha256, digest_bytes}
use Rattle.sha2.proofs.Facts256.{length-sha256}
use Rattle.std.proofs.Math.Seq.{take-nil}
use Rattle.tuple_tree.specs.Values.{TupleTree, AreBytes}
use Rattle.tuple_codec.specs.Operations.{Operation, out, rdp, inp, cas, rd_all, in_all, upgrade, IsOperation, Outcome, all, refused, IsOutcome, is_version_2}
use Rattle.tuple_codec.specs.Spelling.{outcome_spelling}
use Rattle.tuple_tree.proofs.Readers.{bytes_append}
use Rattle.space.specs.Applying.{is_read_only, is_forbidden, no_tuples, served_outcome}
use Rattle.terms.specs.declared.order.Mode.TheVariants as modes
use Rattle.wire_format.specs.Lists.{Each, ascends}
use Rattle.wire_format.specs.Messages.{BodyData as Body, MessageData as Message, request as Request, pre_prepare as PrePrepare, prepare as Prepare, commit as Commit, reply as Reply}
use Rattle.wire_format.specs.Spelling.{IsDigest, IsMessage, IsBatch, IsCarried, is_ordered_request, is_signed, piece, pieces_spelling, fields_spelling, body_spelling, frame_limit}
use Rattle.tuple_codec.proofs.Lengths.{operation_short}
use Rattle.wire_format.proofs.Telling.{reads_requests}
use Rattle.authenticator.specs.Keys.{dealt}
use Rattle.authenticator.specs.Membership.{sends}
use Rattle.authenticator.specs.Sealing.{sealed_for}
use Rattle.protocol.specs.System.Configuration.{Configuration, IsConfiguration, replicas, is_replica, is_client, signers}
use Rattle.protocol.specs.Replica.RightReplica.{others}
use Rattle.protocol.specs.System.Schedule.{sealed_bytes}
use Rattle.evidence.specs.Examples.{four}
use Rattle.evidence.specs.FirstOperation.{FirstFrames, AreFirstFrames, first_answer, FirstFramesExist}
use Rattle.tuple_tree.proofs.NumberBytes.{no_bytes}
use Rattle.tuple_codec.proofs.SpelledBytes.{bytes_4}
use Rattle.evidence.proofs.Knowing.{DoExchange, clients_exchange, exchange_back}
use Rattle.evidence.proofs.FirstFramesSealed.{MaySeal, sealed_length, sealed_spells, sealed_is_authentic}

-- the answer to an operation on the empty space
abbrev IsShort : Outcome → Type 0
IsShort answer = IsOutcome answer × (length (outcome_spelling answer) ≤ 2)

served_right : (op : Operation) → is_read_only op ≡ false → IsShort (served_outcome no_tuples op)
served_right (out t) h = (tt, omega arith)
served_right (rdp p) h = absurd (let g : ⊥ = cc in g)
served_right (inp p) h = (tt, omega arith)
served_right (cas p t) h = (tt, omega arith)
served_right (rd_all n p) h = absurd (let g : ⊥ = cc in g)
served_right (in_all n p) h = subst (λ (ts : List TupleTree). IsShort (all ts)) (sym (take-nil n)) ((omega arith, tt), omega arith)
served_right upgrade h = (tt, omega arith)

answer_right : (op : Operation) → is_read_only op ≡ false → IsShort (first_answer op)
answer_right op h = go (is_version_2 op || is_forbidden 0 op)
  where
    go : (b : Bool) → IsShort (cond b refused (served_outcome no_tuples op))
    go true = (tt, omega arith)
    go false = served_right op h

-- ---- digests

digest_is_bytes : (h : List ℕ) (n : ℕ) → AreBytes (digest_bytes h n)
unfolding digest_bytes
digest_is_bytes h zero = no_bytes
digest_is_bytes h (suc n) = bytes_append _ _ (digest_is_bytes h n) (bytes_4 (slice_index h n))

pub is_digest : (text : List ℕ) → IsDigest (sha256 text)
unfolding sha256
is_digest text = record { whole = length-sha256 text; bytes = digest_is_bytes _ 8 }

-- ---- the batch of one request

is_batch : (request : List ℕ) → IsCarried is_ordered_request request → IsBatch 1 (pieces_spelling (request ∷ []))
is_batch request carried = record { requests = request ∷ []; whole = refl; enough = omega arith; few = omega arith; each = (carried, tt) }

-- ---- messages that fit a frame

-- 1 to 10 receivers
pub record AreFew (receivers : List ℕ) : Type 0 where
  pub some : 1 ≤ length receivers
  pub few : length receivers ≤ 10
  pub ascend : ascends nat_lt receivers ≡ true
  pub parties : Each (λ p. p < 2 ^ 16) receivers

pub may_seal : (c : Configuration) (sender : ℕ) (message : Message) (receivers : List ℕ) → sender < 2 ^ 16 → sends (signers c) sender message ≡ true → IsMessage message
    → is_signed message ≡ false → AreFew receivers → Each (DoExchange c sender) receivers → frame_limit message ≡ 4194304 → length (fields_spelling message) ≤ 4193900
    → MaySeal c (record { sender = sender; message = message }) receivers
may_seal c sender message receivers small known right unsigned are peers limit short =
    let n = sealed_length c sender receivers (body_spelling (record { sender = sender; message = message })) in
    let few = are.few in
    record {
      can = record { said = record { sender = small; message = right }; unsigned = unsigned; some = are.some; few = are.few; ascend = are.ascend };
      known = known;
      peers = peers;
      parties = are.parties;
      short = omega (arith, n, few, limit, short);
    }

-- the replicas, and for each of them the others
all_few : (clients : ℕ) (seed : List ℕ) → AreFew (range_with_len 0 (replicas (four clients seed)))
all_few clients seed = record { some = omega arith; few = omega arith; ascend = refl; parties = (omega arith, (omega arith, (omega arith, (omega arith, tt)))) }

pub others_few : (clients : ℕ) (seed : List ℕ) (r : ℕ) → r < 4 → AreFew (others (four clients seed) r)
others_few clients seed zero l = record { some = omega arith; few = omega arith; ascend = refl; parties = (omega arith, (omega arith, (omega arith, tt))) }
others_few clients seed (suc zero) l = record { some = omega arith; few = omega arith; ascend = refl; parties = (omega arith, (omega arith, (omega arith, tt))) }
others_few clients seed (suc (suc zero)) l = record { some = omega arith; few = omega arith; ascend = refl; parties = (omega arith, (omega arith, (omega arith, tt))) }
others_few clients seed (suc (suc (suc zero))) l = record { some = omega arith; few = omega arith; ascend = refl; parties = (omega arith, (omega arith, (omega arith, tt))) }
others_few clients seed (suc (suc (suc (suc r)))) l = absurd (omega arith)

-- each replica exchanges frames with the others
pub others_exchange : (clients : ℕ) (seed : List ℕ) (r : ℕ) → r < 4 → Each (DoExchange (four clients seed) r) (others (four clients seed) r)
others_exchange clients seed zero l = ((refl, refl), ((refl, refl), ((refl, refl), tt)))
others_exchange clients seed (suc zero) l = ((refl, refl), ((refl, refl), ((refl, refl), tt)))
others_exchange clients seed (suc (suc zero)) l = ((refl, refl), ((refl, refl), ((refl, refl), tt)))
others_exchange clients seed (suc (suc (suc zero))) l = ((refl, refl), ((refl, refl), ((refl, refl), tt)))
others_exchange clients seed (suc (suc (suc (suc r)))) l = absurd (omega arith)

client_few : AreFew (256 ∷ [])
client_few = record { some = omega arith; few = omega arith; ascend = refl; parties = (omega arith, tt) }

-- ---- the frames

module _ (clients : ℕ) (seed : List ℕ) (op : Operation) (valid : IsConfiguration (four clients seed)) (right : IsOperation op) (writes : is_read_only op ≡ false) where
  abbrev c : Configuration
  c = four clients seed

  abbrev by : ℕ → Message → Body
  by sender message = record { sender = sender; message = message }

  abbrev to_all : List ℕ
  to_all = range_with_len 0 (replicas c)

  abbrev asking : Message
  asking = Request 1 modes.Ordered op

  abbrev request : List ℕ
  request = sealed_bytes c 256 to_all (body_spelling (by 256 asking))

  is_first_client : is_client c 256 ≡ true
  is_first_client = lt-ltb 256 (256 + clients) (let l = valid.some_clients in omega arith)

  asked : (r : ℕ) → is_replica c r ≡ true → DoExchange c 256 r
  asked r replica = clients_exchange c (omega arith) 256 r is_first_client replica

  asks : MaySeal c (by 256 asking) to_all
  asks =
      let l = operation_short op right in
      may_seal c 256 asking to_all (omega arith) is_first_client (omega arith, right) refl (all_few clients seed) (asked 0 refl, (asked 1 refl, (asked 2 refl, (asked 3 refl, tt)))) refl (omega arith)

  is_carried : IsCarried is_ordered_request request
  is_carried =
      let s = sealed_spells c (by 256 asking) to_all asks in
      record {
        frame = sealed_for (dealt seed) (by 256 asking) to_all;
        spelled = record { valid = record { sender = s.valid.sender; message = s.valid.message; authenticator = s.valid.authenticator; proved = s.valid.proved; short = s.valid.short }; spelled = refl };
        sorted = refl;
      }

  abbrev batch : List ℕ
  batch = pieces_spelling (request ∷ [])

  batch_short : length batch ≤ 2500
  batch_short =
      let n = sealed_length c 256 to_all (body_spelling (by 256 asking)) in
      let l = operation_short op right in
      let m = length-append (piece request) [] in
      omega arith

  known : (r : ℕ) → r < 4 → nat_lt r 4 ≡ true
  known r l = lt-ltb r 4 l

  proposes : MaySeal c (by 0 (PrePrepare 0 1 batch)) (others c 0)
  proposes =
      let l = batch_short in
      may_seal c 0 (PrePrepare 0 1 batch) (others c 0) (omega arith) refl (omega arith, omega arith, is_batch request is_carried) refl (others_few clients seed 0 (omega arith)) (others_exchange clients seed 0 (omega arith)) refl (omega arith)

  prepares : (r : ℕ) → r < 4 → MaySeal c (by r (Prepare 0 1 (sha256 batch))) (others c r)
  prepares r below =
      let l = length-sha256 batch in
      may_seal c r (Prepare 0 1 (sha256 batch)) (others c r) (omega arith) (known r below) (omega arith, omega arith, is_digest batch) refl (others_few clients seed r below) (others_exchange clients seed r below) refl (omega arith)

  commits : (r : ℕ) → r < 4 → MaySeal c (by r (Commit 0 1 (sha256 batch))) (others c r)
  commits r below =
      let l = length-sha256 batch in
      may_seal c r (Commit 0 1 (sha256 batch)) (others c r) (omega arith) (known r below) (omega arith, omega arith, is_digest batch) refl (others_few clients seed r below) (others_exchange clients seed r below) refl (omega arith)

  replies : (r : ℕ) → r < 4 → MaySeal c (by r (Reply 256 1 modes.Ordered 1 (first_answer op))) (256 ∷ [])
  replies r below =
      let a = answer_right op writes in
      may_seal c r (Reply 256 1 modes.Ordered 1 (first_answer op)) (256 ∷ []) (omega arith) (known r below) (omega arith, omega arith, omega arith, omega arith, a.0) refl client_few (exchange_back c 256 r (asked r (known r below)), tt) refl (omega (arith, a.1))

  abbrev frames : FirstFrames
  frames = record {
    request = request;
    pre_prepare = sealed_bytes c 0 (others c 0) (body_spelling (by 0 (PrePrepare 0 1 batch)));
    prepare = λ r. sealed_bytes c r (others c r) (body_spelling (by r (Prepare 0 1 (sha256 batch))));
    commit = λ r. sealed_bytes c r (others c r) (body_spelling (by r (Commit 0 1 (sha256 batch))));
    reply = λ r. sealed_bytes c r (256 ∷ []) (body_spelling (by r (Reply 256 1 modes.Ordered 1 (first_answer op))));
  }

  are_first : AreFirstFrames c op batch frames
  are_first = record {
    operation = right;
    writes = writes;
    requests = reads_requests (request ∷ []) (omega arith) (is_carried, tt);
    asks = sealed_is_authentic c (by 256 asking) to_all asks;
    proposes = sealed_is_authentic c (by 0 (PrePrepare 0 1 batch)) (others c 0) proposes;
    prepares = λ r l. sealed_is_authentic c (by r (Prepare 0 1 (sha256 batch))) (others c r) (prepares r l);
    commits = λ r l. sealed_is_authentic c (by r (Commit 0 1 (sha256 batch))) (others c r) (commits r l);
    replies = λ r l. sealed_is_authentic c (by r (Reply 256 1 modes.Ordered 1 (first_answer op))) (256 ∷ []) (replies r l);
  }

  pub exist : (batch : List ℕ) × (w : FirstFrames) × AreFirstFrames c op batch w
  exist = (batch, frames, are_first)

pub first_frames_exist : FirstFramesExist
first_frames_exist clients seed op valid right writes = exist clients seed op valid right writes
