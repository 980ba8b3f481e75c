-- The points of the first operation.
use Rattle.std.proofs.Common.{◌≡◌, ℕ, not, filter, List, [], ◌∷◌, ◌++◌, map, refl, ap, ◌∙◌, arith, Option, Some}
use Rattle.std.specs.Prelude.{option_and_then}
use Rattle.std.specs.Option.{option_map_or}
use Rattle.tuple_codec.specs.Operations.{Operation}
use Rattle.reply_cache.specs.Replies.{no_replies}
use Rattle.wire_format.specs.Words.{requests_of}
use Rattle.protocol.specs.System.Configuration.{Configuration, IsConfiguration}
use Rattle.terms.specs.declared.order.Mode.TheVariants as modes
use Rattle.protocol.specs.System.Trace.{Entry}
use Rattle.protocol.specs.System.Trace.Entry.{Invoke, Got, Sent}
use Rattle.protocol.specs.Replica.State.{Call, Ran, opening, ran_in, ran_by}
use Rattle.protocol.specs.Client.RightClient.{Vote}
use Rattle.protocol.specs.Space.Linear.{Placing, first_position, last_executed, ordered_point, ordered_points, read_point, read_points, is_double, sorted, points}
use Rattle.evidence.specs.Examples.{four}
use Rattle.evidence.specs.FirstOperation.{FirstFrames, AreFirstFrames, first_answer, first_trace, first_item, FirstOperationHasItsPoint}
use Rattle.evidence.proofs.FirstReplicasSteps.{Part, the_ran, called}
use Rattle.evidence.proofs.FirstClient

module _ (clients : ℕ) (seed : List ℕ) (op : Operation) (batch : List ℕ) (w : FirstFrames) (setting : IsConfiguration (four clients seed))
    (x : AreFirstFrames (four clients seed) op batch w) where
  abbrev c : Configuration
  c = four clients seed

  abbrev trace : List Entry
  trace = first_trace op batch w

  -- ---- no reads: an accepted answer is ordered

  abbrev two : List Entry
  two = Got 256 (w.reply 1) ∷ Got 256 (w.reply 0) ∷ Sent 256 w.request ∷ Invoke 0 1 op ∷ []

  no_reads : read_points c trace trace ≡ []
  no_reads =
      ap (λ (o : Option Vote). option_map_or (λ (point : Placing). point ∷ []) (option_and_then (read_point c trace 256 (record { timestamp = 1; op = op }) (first_answer op) []) o) [] ++ [])
      (FirstClient.newest clients seed op batch w x 2 (omega arith) two)

  -- ---- one request ran

  abbrev part : Part
  part = record { clients = clients; seed = seed; op = op; batch = batch; frames = w; setting = setting; are_frames = x; me = 0; member = refl; within = omega arith }

  pub ran_one : ran_in c 1 opening (requests_of batch) ≡ the_ran op ∷ []
  unfolding no_replies
  ran_one = ap (ran_in c 1 opening) x.requests ∙ ap (λ (call : Option Call). option_map_or (ran_by opening 1) call [] ++ []) (called part)

  -- the third replica executes it
  third : first_position c trace 1 ≡ Some 38
  third = refl

  abbrev point : Placing
  point = record { item = first_item op; number = 1; mode = modes.Ordered }

  ordered : ordered_points c trace opening 1 (last_executed trace) ≡ point ∷ []
  ordered =
      ap (λ (o : Option ℕ). option_map_or (λ position. map (ordered_point position 1) (ran_in c 1 opening (requests_of batch))) o [] ++ []) third
      ∙ ap (λ (rs : List Ran). map (ordered_point 38 1) rs ++ []) ran_one

  pub point_is : points c trace ≡ first_item op ∷ []
  unfolding points
  point_is =
      ap (λ (reads : List Placing). map (λ (y : Placing). y.item) (sorted (filter (λ y. not (is_double reads y)) (ordered_points c trace opening 1 (last_executed trace)) ++ reads))) no_reads
      ∙ ap (λ (ys : List Placing). map (λ (y : Placing). y.item) (sorted (filter (λ y. not (is_double [] y)) ys ++ []))) ordered

pub first_operation_has_its_point : FirstOperationHasItsPoint
first_operation_has_its_point clients seed op batch w setting x = point_is clients seed op batch w setting x
