-- The first operation as moves of frames. The frames have numbers, in the order in which the parties send them.
-- Thus computation proves the conditions on each entry.
use Rattle.std.proofs.Common.{◌≡◌, ℕ, zero, suc, ◌+◌, ◌≤◌, ◌<◌, Bool, true, false, List, [], ◌∷◌, refl, subst, arith, ◌||◌, eqb-true}
use Rattle.std.specs.Prelude.{◌==◌, get_or, map, reverse}
use Rattle.std.specs.List.{list_all, range_with_len}
use Rattle.std.proofs.lemmas.Bool.{lt-ltb}
use Rattle.quorum.specs.Quorum.{member}
use Rattle.sha2.specs.Sha256.{sha256}
use Rattle.tuple_codec.specs.Operations.{Operation}
use Rattle.terms.specs.declared.order.Mode.TheVariants as modes
use Rattle.wire_format.specs.Messages.{MessageData as Message, request as Request, pre_prepare as PrePrepare, prepare as Prepare, commit as Commit, reply as Reply}
use Rattle.wire_format.specs.Words.{carried}
use Rattle.protocol.specs.System.Configuration.{Configuration, is_correct}
use Rattle.protocol.specs.System.Trace.{Entry}
use Rattle.protocol.specs.System.Trace.Entry.{Invoke, Got, Executed, Sent, Accepted}
use Rattle.protocol.specs.Replica.RightReplica.{others}
use Rattle.evidence.specs.Examples.{four}
use Rattle.evidence.specs.FirstOperation.{FirstFrames, AreFirstFrames, IsFrameFrom, first_answer, first_trace}
use Rattle.wire_format.specs.Lists.{Each}

-- ---- the four replicas and client 0 take part, each of them correct

abbrev pub is_known : ℕ → Bool
is_known = member (0 ∷ 1 ∷ 2 ∷ 3 ∷ 256 ∷ [])

pub or_cases : (a b : Bool) (X : Type 0) → (a || b) ≡ true → (a ≡ true → X) → (b ≡ true → X) → X
or_cases true b X h f g = f refl
or_cases false b X h f g = g h

pub known_correct : (clients : ℕ) (seed : List ℕ) → 1 ≤ clients → (p : ℕ) → is_known p ≡ true → is_correct (four clients seed) p ≡ true
known_correct clients seed some p h =
    or_cases (0 == p) _ _ h (λ e. is 0 e refl)
    (λ h. or_cases (1 == p) _ _ h (λ e. is 1 e refl)
    (λ h. or_cases (2 == p) _ _ h (λ e. is 2 e refl)
    (λ h. or_cases (3 == p) _ _ h (λ e. is 3 e refl)
    (λ h. or_cases (256 == p) _ _ h (λ e. is 256 e (rw (lt-ltb 256 (256 + clients) (omega (arith, some))) refl)) (λ h. absurd cc)))))
  where
    is : (q : ℕ) → (q == p) ≡ true → is_correct (four clients seed) q ≡ true → is_correct (four clients seed) p ≡ true
    is q e h = subst (λ (r : ℕ). is_correct (four clients seed) r ≡ true) (eqb-true q p e) h

-- ---- frames and moves

-- a frame: whose it is, whom it is for, and the numbers of the frames that it carries
pub record Row : Type 0 where
  pub sender : ℕ
  pub receivers : List ℕ
  pub carries : List ℕ
  pub message : Message
  pub bytes : List ℕ

pub any_row : (P : Row → Type 0) (d : Row) (rs : List Row) → P d → Each P rs → (n : ℕ) → P (get_or rs n d)
any_row P d [] h hs n = h
any_row P d (r ∷ rs) h hs zero = hs.0
any_row P d (r ∷ rs) h hs (suc n) = any_row P d rs h hs.1 n

pub data Move : Type 0 where
  asks : Move
  sends : (frame : ℕ) → Move
  gets : (party frame : ℕ) → Move
  runs : (replica : ℕ) → Move
  accepts : Move

-- the oldest first
abbrev pub moves : List Move
moves =
    asks ∷ sends 0
    ∷ gets 0 0 ∷ sends 1 ∷ gets 1 0 ∷ gets 2 0 ∷ gets 3 0
    ∷ gets 1 1 ∷ sends 2 ∷ gets 2 1 ∷ sends 3 ∷ gets 3 1 ∷ sends 4
    ∷ gets 0 2 ∷ gets 2 2 ∷ sends 5 ∷ gets 3 2 ∷ sends 6
    ∷ gets 0 3 ∷ sends 7 ∷ gets 1 3 ∷ sends 8 ∷ gets 3 3
    ∷ gets 0 4 ∷ gets 1 4 ∷ gets 2 4
    ∷ gets 0 5 ∷ gets 1 5 ∷ gets 3 5
    ∷ gets 0 6 ∷ runs 0 ∷ sends 9
    ∷ gets 1 6 ∷ runs 1 ∷ sends 10 ∷ gets 2 6
    ∷ gets 1 7 ∷ gets 2 7 ∷ runs 2 ∷ sends 11
    ∷ gets 3 7 ∷ runs 3 ∷ sends 12
    ∷ gets 0 8 ∷ gets 2 8 ∷ gets 3 8
    ∷ gets 256 9 ∷ gets 256 10 ∷ gets 256 11 ∷ accepts ∷ gets 256 12
    ∷ []

module _ (clients : ℕ) (seed : List ℕ) (op : Operation) (batch : List ℕ) (w : FirstFrames) where
  abbrev c : Configuration
  c = four clients seed

  abbrev prepare_row : ℕ → Row
  prepare_row r = record { sender = r; receivers = others c r; carries = []; message = Prepare 0 1 (sha256 batch); bytes = w.prepare r }

  abbrev commit_row : ℕ → Row
  commit_row r = record { sender = r; receivers = others c r; carries = []; message = Commit 0 1 (sha256 batch); bytes = w.commit r }

  abbrev reply_row : ℕ → Row
  reply_row r = record { sender = r; receivers = 256 ∷ []; carries = []; message = Reply 256 1 modes.Ordered 1 (first_answer op); bytes = w.reply r }

  abbrev request_row : Row
  request_row = record { sender = 256; receivers = range_with_len 0 4; carries = []; message = Request 1 modes.Ordered op; bytes = w.request }

  abbrev pre_prepare_row : Row
  pre_prepare_row = record { sender = 0; receivers = others c 0; carries = 0 ∷ []; message = PrePrepare 0 1 batch; bytes = w.pre_prepare }

  -- the frames by number
  abbrev pub rows : List Row
  rows =
      request_row ∷ pre_prepare_row ∷ prepare_row 1 ∷ prepare_row 2 ∷ prepare_row 3 ∷ commit_row 2 ∷ commit_row 3 ∷ commit_row 0 ∷ commit_row 1
      ∷ reply_row 0 ∷ reply_row 1 ∷ reply_row 2 ∷ reply_row 3 ∷ []

  abbrev pub row : ℕ → Row
  row n = get_or rows n request_row

  abbrev pub entry_of : Move → Entry
  entry_of asks = Invoke 0 1 op
  entry_of (sends n) = Sent (row n).sender (row n).bytes
  entry_of (gets p n) = Got p (row n).bytes
  entry_of (runs r) = Executed r 1 batch
  entry_of accepts = Accepted 0 1 (first_answer op)

  -- they make the trace
  pub moves_make : map entry_of (reverse moves) ≡ first_trace op batch w
  moves_make = refl

  -- each frame is from its sender for its receivers, and carries what it carries
  pub record IsRow (r : Row) : Type 0 where
    pub from : IsFrameFrom c r.sender r.message r.receivers r.bytes
    pub carries_are : carried r.message ≡ map (λ n. (row n).bytes) r.carries

  pub are_rows : AreFirstFrames c op batch w → Each IsRow rows
  are_rows x = (
    record { from = x.asks; carries_are = refl },
    (
      record { from = x.proposes; carries_are = x.requests },
      (
        prepares 1 (omega arith),
        (
          prepares 2 (omega arith),
          (
            prepares 3 (omega arith),
            (
              commits 2 (omega arith),
              (
                commits 3 (omega arith),
                (
                  commits 0 (omega arith),
                  (
                    commits 1 (omega arith),
                    (replies 0 (omega arith), (replies 1 (omega arith), (replies 2 (omega arith), (replies 3 (omega arith), tt)))),
                  ),
                ),
              ),
            ),
          ),
        ),
      ),
    ),
  )
    where
      prepares : (r : ℕ) → r < 4 → IsRow (prepare_row r)
      prepares r l = record { from = x.prepares r l; carries_are = refl }

      commits : (r : ℕ) → r < 4 → IsRow (commit_row r)
      commits r l = record { from = x.commits r l; carries_are = refl }

      replies : (r : ℕ) → r < 4 → IsRow (reply_row r)
      replies r l = record { from = x.replies r l; carries_are = refl }

  pub is_row : AreFirstFrames c op batch w → (n : ℕ) → IsRow (row n)
  is_row x = any_row IsRow request_row rows (are_rows x).0 (are_rows x)

  -- all are for those who take part
  pub are_known : (n : ℕ) → list_all is_known (row n).receivers ≡ true
  are_known = any_row (λ r. list_all is_known r.receivers ≡ true) request_row rows refl
      (refl, (refl, (refl, (refl, (refl, (refl, (refl, (refl, (refl, (refl, (refl, (refl, (refl, tt)))))))))))))
