-- The points of three reads beside the first operation.
use Rattle.std.proofs.Common.{◌≡◌, ℕ, ◌+◌, not, filter, List, [], ◌∷◌, ◌++◌, map, reverse, refl, ap, ◌∙◌, arith, Option, Some}
use Rattle.std.specs.Prelude.{option_and_then}
use Rattle.std.specs.Option.{option_map_or}
use Rattle.tuple_codec.specs.Operations.{Operation, Outcome}
use Rattle.wire_format.specs.Messages.{BodyData as Body}
use Rattle.wire_format.specs.Words.{requests_of}
use Rattle.protocol.specs.System.Configuration.{Configuration, IsConfiguration}
use Rattle.terms.specs.declared.order.Mode.TheVariants as modes
use Rattle.protocol.specs.System.Trace.{Entry}
use Rattle.protocol.specs.System.Trace.Entry.{Invoke, Got, Sent}
use Rattle.protocol.specs.Replica.State.{Ran, opening, ran_in}
use Rattle.protocol.specs.Client.RightClient.{OpenCall, Vote, reply_vote}
use Rattle.protocol.specs.Space.Linear.{Placing, first_position, last_executed, ordered_point, ordered_points, read_point, read_points, is_double, sorted, points}
use Rattle.evidence.specs.Examples.{four}
use Rattle.evidence.specs.FirstOperation.{FirstFrames, AreFirstFrames, first_answer, first_operation}
use Rattle.evidence.specs.FirstReads.{ReadCall, IsReadOf, entries_of_read_call, answered, reads_trace, read_item, ReadsHaveTheirPoints}
use Rattle.evidence.proofs.FirstClient
use Rattle.evidence.proofs.FirstPoint

module _ (clients : ℕ) (seed : List ℕ) (op : Operation) (batch : List ℕ) (w : FirstFrames) (read : ℕ → ReadCall) (setting : IsConfiguration (four clients seed))
    (x : AreFirstFrames (four clients seed) op batch w) where
  abbrev c : Configuration
  c = four clients seed

  abbrev trace : List Entry
  trace = reads_trace op batch w read

  -- what comes before the third read is answered
  abbrev before_3 : List Entry
  before_3 = entries_of_read_call 1 (read 1) ++ entries_of_read_call 2 (read 2) ++ first_operation op batch w ++ entries_of_read_call 3 (read 3)

  abbrev call : Operation → OpenCall
  call o = record { timestamp = 1; op = o }

  abbrev point_at : ℕ → Operation → Outcome → List Entry → Option Vote → List Placing
  point_at p o a past vote = option_map_or (λ (point : Placing). point ∷ []) (option_and_then (read_point c trace p (call o) a past) vote) []

  abbrev vote : ℕ → Vote
  vote k = record { mode = modes.ReadOnly; number = 1; answer = (read k).answer }

  -- the past of an acceptance: what came before, and the replies without it
  abbrev waits : ℕ → List Entry → List Entry
  waits k before =
      Got (256 + k) ((read k).reply 2) ∷ Got (256 + k) ((read k).reply 1) ∷ Got (256 + k) ((read k).reply 0)
      ∷ Sent 2 ((read k).reply 2) ∷ Got 2 (read k).request ∷ Sent 1 ((read k).reply 1) ∷ Got 1 (read k).request ∷ Sent 0 ((read k).reply 0) ∷ Got 0 (read k).request ∷ before

  -- of the first operation's acceptance the call alone
  abbrev past_0 : List Entry
  past_0 = Invoke 0 1 op ∷ reverse (entries_of_read_call 1 (read 1) ++ entries_of_read_call 2 (read 2))

  abbrev past_3 : List Entry
  past_3 = waits 3 (reverse before_3)

  abbrev past_1 : List Entry
  past_1 = waits 1 (reverse (before_3 ++ answered 3 (read 3)))

  abbrev past_2 : List Entry
  past_2 = waits 2 (reverse (before_3 ++ answered 3 (read 3) ++ answered 1 (read 1)))

  abbrev read_of : ℕ → ℕ → Placing
  read_of k position = record { item = read_item k (read k) position; number = 1; mode = modes.ReadOnly }

  abbrev brings : ℕ → Option Body → Option Vote
  brings k o = option_and_then (λ (body : Body). reply_vote (256 + k) 1 body.sender body) o

  abbrev two : List Entry
  two = Got 256 (w.reply 1) ∷ Got 256 (w.reply 0) ∷ Sent 256 w.request ∷ Invoke 0 1 op ∷ []

  reads_are : IsReadOf c 1 (read 1) → IsReadOf c 2 (read 2) → IsReadOf c 3 (read 3) → read_points c trace trace ≡ read_of 2 42 ∷ read_of 1 42 ∷ read_of 3 55 ∷ []
  reads_are one other last =
      ap (λ (o : Option Body). point_at 258 (read 2).op (read 2).answer past_2 (brings 2 o) ++ read_points c trace past_2) (other 2 (omega arith))
      ∙ ap (λ (o : Option Body). read_of 2 42 ∷ point_at 257 (read 1).op (read 1).answer past_1 (brings 1 o) ++ read_points c trace past_1) (one 2 (omega arith))
      ∙ ap (λ (o : Option Body). read_of 2 42 ∷ read_of 1 42 ∷ point_at 259 (read 3).op (read 3).answer past_3 (brings 3 o) ++ read_points c trace past_3) (last 2 (omega arith))
      ∙ ap (λ (o : Option Vote). read_of 2 42 ∷ read_of 1 42 ∷ read_of 3 55 ∷ point_at 256 op (first_answer op) past_0 o ++ []) (FirstClient.newest clients seed op batch w x 2 (omega arith) two)

  third : first_position c trace 1 ≡ Some 42
  third = refl

  abbrev point : Placing
  point = record { item = record { client = 256; timestamp = 1; op = op; answer = first_answer op; position = 42 }; number = 1; mode = modes.Ordered }

  ordered : ordered_points c trace opening 1 (last_executed trace) ≡ point ∷ []
  ordered =
      ap (λ (o : Option ℕ). option_map_or (λ position. map (ordered_point position 1) (ran_in c 1 opening (requests_of batch))) o [] ++ []) third
      ∙ ap (λ (rs : List Ran). map (ordered_point 42 1) rs ++ []) (FirstPoint.ran_one clients seed op batch w setting x)

  pub points_are : IsReadOf c 1 (read 1) → IsReadOf c 2 (read 2) → IsReadOf c 3 (read 3)
      → points c trace ≡ point.item ∷ read_item 1 (read 1) 42 ∷ read_item 2 (read 2) 42 ∷ read_item 3 (read 3) 55 ∷ []
  unfolding points
  points_are one other last =
      ap (λ (reads : List Placing). map (λ (y : Placing). y.item) (sorted (filter (λ y. not (is_double reads y)) (ordered_points c trace opening 1 (last_executed trace)) ++ reads)))
      (reads_are one other last)
      ∙ ap (λ (ys : List Placing). map (λ (y : Placing). y.item) (sorted (filter (λ y. not (is_double (read_of 2 42 ∷ read_of 1 42 ∷ read_of 3 55 ∷ []) y)) ys ++ read_of 2 42 ∷ read_of 1 42 ∷ read_of 3 55 ∷ []))) ordered

pub reads_have_their_points : ReadsHaveTheirPoints
reads_have_their_points clients seed op batch w read setting x one other last = points_are clients seed op batch w read setting x one other last
