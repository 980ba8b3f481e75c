-- The steps that are allowed, and the stages to which they lead.
use Rattle.std.proofs.Common.{◌≡◌, ℕ, ◌+◌, ◌<◌, Bool, true, false, List, [], ◌∷◌, ◌++◌, length, get_or, Option, Some, None, refl, sym, ◌∙◌, subst, arith}
use Rattle.std.specs.Prelude.{is_some}
use Rattle.std.proofs.lemmas.Option.{slice_get_within}
use Rattle.std.proofs.lemmas.Bool.{both_ways}
use Rattle.tuple_codec.specs.Operations.{Operation, IsOperation}
use Rattle.protocol.specs.System.Configuration.{Configuration, is_correct, is_correct_client}
use Rattle.protocol.specs.System.Trace.{history_of}
use Rattle.protocol.specs.System.Trace.Entry.{Invoke, Got, Tick}
use Rattle.protocol.specs.System.Schedule.{World, with_entry, with_frame, sealed_bytes, signed_bytes, IsAllowed}
use Rattle.protocol.specs.System.Schedule.Step.{calls, deliver, feed, seal, sign, ticks}
use Rattle.protocol.specs.Client.RightClient.{open_call}
use Rattle.schedule_world.specs.declared.stage.StageClient.{StageClient}
use Rattle.schedule_world.specs.declared.stage.Stage.{Stage}
use Rattle.schedule_world.specs.Stages.{PartiesArePlaced, StageIsAt}
use Rattle.schedule_world.specs.Moving.{InputComes, CallComes, FrameIsDelivered, FrameIsMade, LeadsBy}
use Rattle.schedule_world.proofs.Pools.{pool_length}
use Rattle.schedule_world.proofs.Reached.{within_call, within_delivery, within_bytes, within_tick, reaches_sealed, reaches_signed}
use Rattle.schedule_world.proofs.Standing.{client_within}
use Rattle.schedule_world.proofs.Flushed.{at_behind}

pub leads_tick : (c : Configuration) (old new : Stage) (p : ℕ) → is_correct c p ≡ true → InputComes c (Tick p) old new → LeadsBy c (ticks p) old new
leads_tick c old new p correct comes done at =
    at_behind c (done ++ ticks p ∷ []) [] (with_entry c at.world (Tick p)) new (within_tick c done at.world at.reaches p correct) (comes at.world at.stands)

pub leads_feed : (c : Configuration) (old new : Stage) (p : ℕ) (text : List ℕ) → is_correct c p ≡ true → InputComes c (Got p text) old new → LeadsBy c (feed p text) old new
leads_feed c old new p text correct comes done at =
    at_behind c (done ++ feed p text ∷ []) [] (with_entry c at.world (Got p text)) new (within_bytes c done at.world at.reaches p text correct) (comes at.world at.stands)

pub leads_delivery : (c : Configuration) (old new : Stage) (frame p : ℕ) → is_correct c p ≡ true → FrameIsDelivered c frame p old new → LeadsBy c (deliver frame p) old new
leads_delivery c old new frame p correct delivery done at =
    let d = delivery at.world at.stands in
    at_behind c (done ++ deliver frame p ∷ []) [] (record (with_entry c at.world (Got p d.0.bytes)) { delivered = (frame, p) ∷ at.world.delivered }) new
    (within_delivery c done at.world at.reaches frame p d.0 (slice_get_within at.world.frames frame d.0 d.1, correct) d.1) d.2

pub leads_seal : (c : Configuration) (old new : Stage) (sender : ℕ) (receivers body bytes : List ℕ) → ((w : World) → IsAllowed c w (seal sender receivers body)) → bytes ≡ sealed_bytes c sender receivers body
    → FrameIsMade c bytes receivers old new → LeadsBy c (seal sender receivers body) old new
leads_seal c old new sender receivers body bytes allowed are frames done at = record {
  world = with_frame at.world (sealed_bytes c sender receivers body) receivers;
  stands = subst (λ b. StageIsAt c (with_frame at.world b receivers) new) are (frames at.world at.stands);
  reaches = reaches_sealed c done at.world at.reaches sender receivers body (allowed at.world);
}

pub leads_sign : (c : Configuration) (old new : Stage) (replica leaf : ℕ) (receivers body bytes : List ℕ) → ((w : World) → IsAllowed c w (sign replica leaf receivers body)) → bytes ≡ signed_bytes c replica leaf body
    → FrameIsMade c bytes receivers old new → LeadsBy c (sign replica leaf receivers body) old new
leads_sign c old new replica leaf receivers body bytes allowed are frames done at = record {
  world = with_frame at.world (signed_bytes c replica leaf body) receivers;
  stands = subst (λ b. StageIsAt c (with_frame at.world b receivers) new) are (frames at.world at.stands);
  reaches = reaches_signed c done at.world at.reaches replica leaf receivers body (allowed at.world);
}

-- ---- calls

pub one_of_them : {X : Type 0} (xs : List X) (k : ℕ) → k < length xs → X
one_of_them [] k within = absurd (omega (arith, within))
one_of_them (x ∷ xs) k within = x

is_none : {A : Type 0} (o : Option A) → is_some o ≡ false → o ≡ None
is_none None e = refl
is_none (Some x) e = absurd cc

is_open : {A : Type 0} (o : Option A) → is_some o ≡ true → o ≡ None → ⊥
is_open None e n = absurd cc
is_open (Some x) e n = cc

open_is : (c : Configuration) (s : Stage) (w : World) (k : ℕ) → PartiesArePlaced c s → is_correct_client c (256 + k) ≡ true → (b : Bool) → ((d : StageClient) → b ≡ is_some (get_or s.stage_clients.items k d).client.call)
    → StageIsAt c w s → is_some (open_call (history_of (256 + k) w.past)) ≡ b
open_is c s w k placed correct b closed st =
    let d = one_of_them s.stage_clients.items k (client_within c s k placed correct) in
    (st.attend.clients k d correct).0.open_is ∙ sym (closed d)

pub call_may : (c : Configuration) (s : Stage) (k : ℕ) (op : Operation) → PartiesArePlaced c s → is_correct_client c (256 + k) ≡ true → ((d : StageClient) → false ≡ is_some (get_or s.stage_clients.items k d).client.call)
    → IsOperation op → (w : World) → StageIsAt c w s → IsAllowed c w (calls k op)
call_may c s k op placed correct closed right w st = (correct, is_none (open_call (history_of (256 + k) w.past)) (open_is c s w k placed correct false closed st), right)

pub call_may_not : (c : Configuration) (s : Stage) (k : ℕ) (op : Operation) → PartiesArePlaced c s → is_correct_client c (256 + k) ≡ true → ((d : StageClient) → true ≡ is_some (get_or s.stage_clients.items k d).client.call)
    → (w : World) → StageIsAt c w s → IsAllowed c w (calls k op) → ⊥
call_may_not c s k op placed correct closed w st may = is_open (open_call (history_of (256 + k) w.past)) (open_is c s w k placed correct true closed st) may.1

pub leads_call : (c : Configuration) (old new : Stage) (k : ℕ) (op : Operation) → ((w : World) → StageIsAt c w old → IsAllowed c w (calls k op)) → CallComes c k op old new → LeadsBy c (calls k op) old new
leads_call c old new k op allowed comes done at =
    let a = allowed at.world at.stands in
    let d = comes at.world at.stands a in
    at_behind c (done ++ calls k op ∷ []) [] (with_entry c at.world (Invoke k d.0 op)) new (within_call c done at.world at.reaches k d.0 op a) d.1

-- ---- steps that are not allowed

pub client_may_not : (c : Configuration) (k : ℕ) (op : Operation) → is_correct_client c (256 + k) ≡ false → (w : World) → IsAllowed c w (calls k op) → ⊥
client_may_not c k op wrong w may = both_ways (is_correct_client c (256 + k)) wrong may.0

pub party_may_not : (c : Configuration) (p : ℕ) → is_correct c p ≡ false → is_correct c p ≡ true → ⊥
party_may_not c p wrong right = both_ways (is_correct c p) wrong right

pub frame_may_not : (c : Configuration) (s : Stage) (w : World) (frame : ℕ) → (frame < length s.pool → ⊥) → StageIsAt c w s → frame < length w.frames → ⊥
frame_may_not c s w frame none st there = let long = pool_length c w s.pool st.shows.frames in none (omega (arith, long, there))
