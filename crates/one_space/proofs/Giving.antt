-- What a run gives: results, and lines on standard error.
use Rattle.std.proofs.Common.{◌≡◌, ℕ, List, [], ◌∷◌, ◌++◌, Option, None, Some, map, refl, sym, ap, subst, ◌∙◌}
use Rattle.std.proofs.Common.{append_assoc, append-nil}
use Rattle.std.proofs.lemmas.List.{map-append}
use Rattle.std.specs.Io.KnownBytes.{Appends}
use Rattle.std.proofs.KnownBytes.{Appends-nil, Appends-trans}
use Rattle.tuple_codec.specs.Operations.{Operation}
use Rattle.space.specs.Applying.{Contents, outcome, tuples_after}
use Rattle.one_space.specs.Complaints.{Says, refusal_line}
use Rattle.one_space.specs.Endings.{FrontIsWritten, Gives, Left, Scene}
use Rattle.one_space.specs.Run.{Refusal, left_by, result_line, results_of}

-- ---- one operation more

results-more : (ts : Contents) (os : List Operation) (o : Operation) → results_of ts (os ++ o ∷ []) ≡ results_of ts os ++ result_line (outcome (left_by ts os) 0 o)
results-more ts [] o = append-nil (result_line (outcome ts 0 o))
results-more ts (p ∷ os) o =
    ap (λ l. result_line (outcome ts 0 p) ++ l) (results-more (tuples_after ts 0 p) os o)
    ∙ sym (append_assoc (result_line (outcome ts 0 p)) (results_of (tuples_after ts 0 p) os) (result_line (outcome (left_by (tuples_after ts 0 p) os) 0 o)))

left-more : (ts : Contents) (os : List Operation) (o : Operation) → left_by ts (os ++ o ∷ []) ≡ tuples_after (left_by ts os) 0 o
left-more ts [] o = refl
left-more ts (p ∷ os) o = left-more (tuples_after ts 0 p) os o

-- ---- lines on standard error

pub Says-nil : (said : Option (List (List ℕ))) → Says said said []
Says-nil None = tt
Says-nil (Some before) = sym (append-nil before)

pub Says-trans : (old mid new : Option (List (List ℕ))) (one other : List (List ℕ)) → Says old mid one → Says mid new other → Says old new (one ++ other)
Says-trans None mid new one other h k = tt
Says-trans (Some a) None new one other h k = absurd h
Says-trans (Some a) (Some b) None one other h k = absurd k
Says-trans (Some a) (Some b) (Some c) one other h k = k ∙ ap (λ l. l ++ other) h ∙ append_assoc a one other

-- ---- a run

-- Nothing ran yet.
pub gives_nothing : (first : Contents) (scene : Scene) (left : Left) → left.tuples ≡ first → left.pending ≡ [] → Gives first scene scene [] [] left
gives_nothing first scene left tuples none = record {
  done = [];
  wrote = Appends-nil scene.written;
  results = none;
  tuples = tuples;
  told = Says-nil scene.said;
}

module _ (first : Contents) (old new : Scene) (os : List Operation) (rs : List Refusal) (left : Left) (gives : Gives first old new os rs left) where
  pub gives_operation : (o : Operation) (after : Left) → after.tuples ≡ tuples_after left.tuples 0 o → after.pending ≡ left.pending ++ result_line (outcome left.tuples 0 o)
      → Gives first old new (os ++ o ∷ []) rs after
  gives_operation o after tuples pending = record {
    done = gives.done;
    wrote = gives.wrote;
    results =
        ap (λ l. gives.done ++ l) pending ∙ sym (append_assoc gives.done left.pending (result_line (outcome left.tuples 0 o)))
        ∙ ap (λ l. l ++ result_line (outcome left.tuples 0 o)) gives.results
        ∙ ap (λ ts. results_of first os ++ result_line (outcome ts 0 o)) gives.tuples ∙ sym (results-more first os o);
    tuples = tuples ∙ ap (λ ts. tuples_after ts 0 o) gives.tuples ∙ sym (left-more first os o);
    told = gives.told;
  }

  -- The state is the same, whatever counts.
  pub gives_same : (after : Left) → after.tuples ≡ left.tuples → after.pending ≡ left.pending → Gives first old new os rs after
  gives_same after tuples pending = record {
    done = gives.done;
    wrote = gives.wrote;
    results = ap (λ l. gives.done ++ l) pending ∙ gives.results;
    tuples = tuples ∙ gives.tuples;
    told = gives.told;
  }

  -- A front of what was pending went to the writer.
  pub gives_written : (written : Scene) (after : Left) → written.said ≡ new.said → after.tuples ≡ left.tuples → FrontIsWritten new.written written.written left.pending after.pending
      → Gives first old written os rs after
  gives_written written after said tuples moves = record {
    done = gives.done ++ moves.gone;
    wrote = Appends-trans old.written new.written written.written gives.done moves.gone gives.wrote moves.wrote;
    results = append_assoc gives.done moves.gone after.pending ∙ ap (λ l. gives.done ++ l) moves.split ∙ gives.results;
    tuples = tuples ∙ gives.tuples;
    told = subst (λ s. Says old.said s (map refusal_line rs)) (sym said) gives.told;
  }

  -- Refusals were told.
  pub gives_told : (later : Scene) (more : List Refusal) → later.written ≡ new.written → Says new.said later.said (map refusal_line more) → Gives first old later os (rs ++ more) left
  gives_told later more written told = record {
    done = gives.done;
    wrote = subst (λ w. Appends old.written w gives.done) (sym written) gives.wrote;
    results = gives.results;
    tuples = gives.tuples;
    told = subst (Says old.said later.said) (sym (map-append refusal_line rs more)) (Says-trans old.said new.said later.said (map refusal_line rs) (map refusal_line more) gives.told told);
  }
