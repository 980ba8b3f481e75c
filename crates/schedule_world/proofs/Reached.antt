-- How the steps of a schedule go on.
use Rattle.std.proofs.Common.{◌≡◌, ℕ, true, List, [], ◌∷◌, ◌++◌, Some, None, refl, sym, ap, ◌∙◌, subst, reverse}
use Rattle.std.specs.Prelude.{slice_get}
use Rattle.std.proofs.lemmas.List.{append-nil}
use Rattle.std.proofs.lemmas.Grind.{reverse_onto}
use Rattle.tuple_codec.specs.Operations.{Operation}
use Rattle.protocol.specs.System.Configuration.{Configuration}
use Rattle.protocol.specs.System.Trace.{Entry, is_output}
use Rattle.protocol.specs.System.Trace.Entry.{Invoke, Got, Tick}
use Rattle.protocol.specs.System.Schedule.{Step, Made, World, StepsLead, new_world, with_entry, with_frame, sealed_bytes, signed_bytes, pending, IsAllowed}
use Rattle.protocol.specs.System.Schedule.Step.{calls, deliver, feed, seal, sign, ticks, flush}
use Rattle.protocol.specs.System.Schedule.StepsLead.{ends, gives, called, delivers, gets, ticked, seals, signs, flushes, flushed}
use Rattle.schedule_world.specs.Reaching.{onto, StepsReachWithin, StepsReach}

done_next : (done : List Step) (step : Step) (rest : List Step) → (done ++ step ∷ []) ++ rest ≡ done ++ step ∷ rest
done_next [] step rest = refl
done_next (s ∷ done) step rest = ap (λ (xs : List Step). s ∷ xs) (done_next done step rest)

associates : (xs : List Entry) (e : Entry) (ys : List Entry) → xs ++ e ∷ ys ≡ (xs ++ e ∷ []) ++ ys
associates [] e ys = refl
associates (x ∷ xs) e ys = ap (λ (zs : List Entry). x ∷ zs) (associates xs e ys)

pub onto_reverse : (past entries : List Entry) → onto past entries ≡ reverse past ++ entries
onto_reverse [] entries = refl
onto_reverse (e ∷ past) entries = onto_reverse past (e ∷ entries) ∙ associates (reverse past) e entries ∙ ap (λ (xs : List Entry). xs ++ entries) (sym (reverse_onto past e []))

module _ (c : Configuration) (done : List Step) where
  pub reaches_first : StepsReach c [] [] new_world
  reaches_first rest entries v i g = g

  -- ---- outputs

  pub within_output : (left : List Step) (w : World) (e : Entry) → is_output e ≡ true → StepsReachWithin c done left w → StepsReachWithin c done left (with_entry c w e)
  within_output left w e o h rest entries v g = h rest (e ∷ entries) v (gives o g)

  pub reaches_within : (left : List Step) (w : World) → StepsReachWithin c done left w → StepsReach c done left w
  reaches_within left w h rest entries v i g = h rest entries v g

  -- ---- inputs

  module _ (w : World) (h : StepsReach c done [] w) where
    moved : (step : Step) (rest : List Step) (entries : List Entry) (v : World) → StepsLead c new_world (done ++ step ∷ rest) entries v → StepsLead c new_world ((done ++ step ∷ []) ++ rest) entries v
    moved step rest entries v g = subst (λ (xs : List Step). StepsLead c new_world xs entries v) (sym (done_next done step rest)) g

    pub within_call : (client timestamp : ℕ) (op : Operation) → IsAllowed c w (calls client op) → StepsReachWithin c (done ++ calls client op ∷ []) [] (with_entry c w (Invoke client timestamp op))
    within_call client timestamp op a rest entries v g = moved (calls client op) rest _ v (h (calls client op ∷ rest) (Invoke client timestamp op ∷ entries) v refl (called a g))

    pub within_delivery : (frame party : ℕ) (made : Made) → IsAllowed c w (deliver frame party) → slice_get w.frames frame ≡ Some made
        → StepsReachWithin c (done ++ deliver frame party ∷ []) [] (record (with_entry c w (Got party made.bytes)) { delivered = (frame, party) ∷ w.delivered })
    within_delivery frame party made a is rest entries v g = moved (deliver frame party) rest _ v (h (deliver frame party ∷ rest) (Got party made.bytes ∷ entries) v refl (delivers a is g))

    pub within_bytes : (party : ℕ) (text : List ℕ) → IsAllowed c w (feed party text) → StepsReachWithin c (done ++ feed party text ∷ []) [] (with_entry c w (Got party text))
    within_bytes party text a rest entries v g = moved (feed party text) rest _ v (h (feed party text ∷ rest) (Got party text ∷ entries) v refl (gets a g))

    pub within_tick : (party : ℕ) → IsAllowed c w (ticks party) → StepsReachWithin c (done ++ ticks party ∷ []) [] (with_entry c w (Tick party))
    within_tick party a rest entries v g = moved (ticks party) rest _ v (h (ticks party ∷ rest) (Tick party ∷ entries) v refl (ticked a g))

    -- ---- frames of faulty parties

    pub reaches_sealed : (sender : ℕ) (receivers body : List ℕ) → IsAllowed c w (seal sender receivers body)
        → StepsReach c (done ++ seal sender receivers body ∷ []) [] (with_frame w (sealed_bytes c sender receivers body) receivers)
    reaches_sealed sender receivers body a rest entries v i g = moved (seal sender receivers body) rest _ v (h (seal sender receivers body ∷ rest) entries v i (seals a i g))

    pub reaches_signed : (replica leaf : ℕ) (receivers body : List ℕ) → IsAllowed c w (sign replica leaf receivers body)
        → StepsReach c (done ++ sign replica leaf receivers body ∷ []) [] (with_frame w (signed_bytes c replica leaf body) receivers)
    reaches_signed replica leaf receivers body a rest entries v i g = moved (sign replica leaf receivers body) rest _ v (h (sign replica leaf receivers body ∷ rest) entries v i (signs a i g))

    -- ---- the end

    -- the steps done lead to the world, as a report promises
    pub reaches_end : StepsLead c new_world done (reverse w.past) w
    reaches_end = subst (λ (entries : List Entry). StepsLead c new_world done entries w) (onto_reverse w.past [] ∙ append-nil (reverse w.past)) (subst (λ (xs : List Step). StepsLead c new_world xs (onto w.past []) w) (append-nil done) (h [] [] w tt ends))

  module _ (w : World) (h : StepsReach c done (flush ∷ []) w) where
    pub within_flush : (frame party : ℕ) (made : Made) → pending c w ≡ Some (frame, party) → IsAllowed c w (deliver frame party) → slice_get w.frames frame ≡ Some made
        → StepsReachWithin c done (flush ∷ []) (record (with_entry c w (Got party made.bytes)) { delivered = (frame, party) ∷ w.delivered })
    within_flush frame party made next a is rest entries v g = h rest (Got party made.bytes ∷ entries) v refl (flushes next (delivers a is g))

    pub reaches_flushed : pending c w ≡ None → StepsReach c (done ++ flush ∷ []) [] w
    reaches_flushed none rest entries v i g =
        subst (λ (xs : List Step). StepsLead c new_world xs (onto w.past entries) v) (sym (done_next done flush rest)) (h rest entries v i (flushed i none g))
