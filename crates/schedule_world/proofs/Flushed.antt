-- Deliveries, and flushes.
use Rattle.std.proofs.Common.{◌≡◌, ℕ, suc, ◌⊎◌, inl, inr, Bool, true, false, not, cond, ◌&&◌, List, [], ◌∷◌, map, reverse, Some, refl, sym, ap, ◌∙◌, subst}
use Rattle.std.specs.Prelude.{All, slice_get}
use Rattle.std.proofs.lemmas.Bool.{and_parts}
use Rattle.std.proofs.lemmas.Option.{slice_get_within}
use Rattle.protocol.specs.System.Configuration.{Configuration, is_correct}
use Rattle.protocol.specs.System.Trace.{Entry, AreOutputs}
use Rattle.protocol.specs.System.Trace.Entry.{Got}
use Rattle.protocol.specs.System.Schedule.{Step, Made, World, with_entry, is_delivered, next_receiver, next_pair, pending}
use Rattle.protocol.specs.System.Schedule.Step.{flush}
use Rattle.protocol.proofs.Words.Options.{some_injective, or_else_cases}
use Rattle.schedule_world.specs.declared.stage.Stage.{Stage}
use Rattle.schedule_world.specs.Pooled.{HasBytes, IsFirstWaiting, IsServed, noted}
use Rattle.schedule_world.specs.Stages.{StageIsAt, IsStanding, StageIsAfterSteps, with_entries, acceptance_of}
use Rattle.schedule_world.specs.Moving.{StageIsBehind, InputComes, FrameIsDelivered, LeadsBy}
use Rattle.schedule_world.specs.Reaching.{StepsReachWithin}
use Rattle.schedule_world.proofs.Pools.{pool_bytes, pool_forgets, pool_next, pool_served}
use Rattle.schedule_world.proofs.Reached.{within_output, reaches_within, within_flush, reaches_flushed}

-- the frame was delivered to the party in mid
pub delivers : (c : Configuration) (old mid new : Stage) (frame p : ℕ) (bytes : List ℕ) → HasBytes old.pool frame bytes → mid.pool ≡ noted old.pool frame p
    → mid.trace ≡ old.trace → mid.accepted ≡ old.accepted → mid.replicas ≡ old.replicas → mid.stage_clients ≡ old.stage_clients → InputComes c (Got p bytes) mid new → FrameIsDelivered c frame p old new
delivers c old mid new frame p bytes has forgets trace accepted rs stage_clients comes w st = (
  made.0,
  made.1,
  subst (λ (b : List ℕ). StageIsBehind c (record (with_entry c w (Got p b)) { delivered = (frame, p) ∷ w.delivered }) new) (sym made.2) (comes v stands),
)
  where
    made : (m : Made) × (slice_get w.frames frame ≡ Some m) × (m.bytes ≡ bytes)
    made = pool_bytes c w old.pool frame bytes st.shows.frames has

    v : World
    v = record w { delivered = (frame, p) ∷ w.delivered }

    stands : StageIsAt c v mid
    stands = record {
      shows = record {
        past = ap (λ (x : _). reverse x.items) trace ∙ st.shows.past;
        frames = pool_forgets c w old.pool mid.pool frame p bytes has forgets st.shows.frames;
        accepted = ap (λ (x : _). map acceptance_of x.items) accepted ∙ st.shows.accepted;
      };
      attend = rw (rs, stage_clients) st.attend;
      orderly = st.orderly;
    }

-- ---- how the steps go on

within_outputs : (c : Configuration) (done left : List Step) (entries : List Entry) (w : World) → AreOutputs entries → StepsReachWithin c done left w → StepsReachWithin c done left (with_entries c w entries)
within_outputs c done left [] w are h = h
within_outputs c done left (e ∷ entries) w are h = within_outputs c done left entries (with_entry c w e) are.1 (within_output c done left w e are.0 h)

pub at_behind : (c : Configuration) (done left : List Step) (w : World) (s : Stage) → StepsReachWithin c done left w → StageIsBehind c w s → StageIsAfterSteps c done left s
at_behind c done left w s within behind = record {
  world = with_entries c w behind.outputs;
  stands = behind.stands;
  reaches = reaches_within c done left (with_entries c w behind.outputs) (within_outputs c done left behind.outputs w behind.are within);
}

-- ---- flushes

-- in the midst of a flush: any steps that lead to the old stage lead to this one, with the flush done in part
abbrev pub Flushes : Configuration → Stage → Stage → Type 0
Flushes c old s = (done : List Step) → StageIsAfterSteps c done [] old → StageIsAfterSteps c done (flush ∷ []) s

-- what a flush delivers next is for a correct party
receiver_is_correct : (c : Configuration) (delivered : List (ℕ × ℕ)) (frame : ℕ) (receivers : List ℕ) (x : ℕ × ℕ) → next_receiver c delivered frame receivers ≡ Some x → is_correct c x.1 ≡ true
receiver_is_correct c delivered frame [] x h = absurd cc
receiver_is_correct c delivered frame (q ∷ receivers) x h = go (is_correct c q && not (is_delivered delivered frame q)) refl h (receiver_is_correct c delivered frame receivers x)
  where
    go : (b : Bool) → (is_correct c q && not (is_delivered delivered frame q)) ≡ b → cond b (Some (frame, q)) (next_receiver c delivered frame receivers) ≡ Some x
        → (next_receiver c delivered frame receivers ≡ Some x → is_correct c x.1 ≡ true) → is_correct c x.1 ≡ true
    go true e here later = subst (λ (y : ℕ × ℕ). is_correct c y.1 ≡ true) (some_injective (frame, q) x here) (and_parts (is_correct c q) (not (is_delivered delivered frame q)) e).0
    go false e here later = later here

pair_is_correct : (c : Configuration) (delivered : List (ℕ × ℕ)) (frame : ℕ) (frames : List Made) (x : ℕ × ℕ) → next_pair c delivered frame frames ≡ Some x → is_correct c x.1 ≡ true
pair_is_correct c delivered frame [] x h = absurd cc
pair_is_correct c delivered frame (made ∷ frames) x h =
    go (or_else_cases (next_receiver c delivered frame made.receivers) (next_pair c delivered (suc frame) frames) x h) (pair_is_correct c delivered (suc frame) frames x)
  where
    go : (next_receiver c delivered frame made.receivers ≡ Some x) ⊎ (next_pair c delivered (suc frame) frames ≡ Some x)
        → (next_pair c delivered (suc frame) frames ≡ Some x → is_correct c x.1 ≡ true) → is_correct c x.1 ≡ true
    go (inl here) later = receiver_is_correct c delivered frame made.receivers x here
    go (inr there) later = later there

pub next_is_correct : (c : Configuration) (s : Stage) (n p : ℕ) → IsStanding c s → IsFirstWaiting s.pool n p → is_correct c p ≡ true
next_is_correct c s n p st next = pair_is_correct c st.0.delivered 0 st.0.frames (n, p) (pool_next c st.0 s.pool n p st.1.shows.frames next)

pub flush_more : (c : Configuration) (old s new : Stage) (n p : ℕ) → IsFirstWaiting s.pool n p → FrameIsDelivered c n p s new → Flushes c old s → Flushes c old new
flush_more c old s new n p next delivery h done first =
    let at = h done first in
    let d = delivery at.world at.stands in
    let pends : pending c at.world ≡ Some (n, p) = pool_next c at.world s.pool n p at.stands.shows.frames next in
    at_behind c done (flush ∷ []) (record (with_entry c at.world (Got p d.0.bytes)) { delivered = (n, p) ∷ at.world.delivered }) new
    (within_flush c done at.world at.reaches n p d.0 pends (slice_get_within at.world.frames n d.0 d.1, next_is_correct c s n p (at.world, at.stands) next) d.1) d.2

pub stands_more : (c : Configuration) (s new : Stage) (n p : ℕ) → FrameIsDelivered c n p s new → IsStanding c s → IsStanding c new
stands_more c s new n p delivery st = let d = delivery st.0 st.1 in (with_entries c _ d.2.outputs, d.2.stands)

pub flush_last : (c : Configuration) (old s : Stage) → All IsServed s.pool → Flushes c old s → LeadsBy c flush old s
flush_last c old s served h done first =
    let at = h done first in
    record { world = at.world; stands = at.stands; reaches = reaches_flushed c done at.world at.reaches (pool_served c at.world s.pool at.stands.shows.frames served) }
