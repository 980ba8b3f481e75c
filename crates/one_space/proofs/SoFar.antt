-- The lines of a reader's bytes, one after another.
use Rattle.std.proofs.Common.{◌≡◌, ◌≢◌, ℕ, ◌+◌, ◌^◌, ◌<◌, ◌≤◌, List, [], ◌∷◌, ◌++◌, Option, Some, length, refl, sym, ap}
use Rattle.std.proofs.Common.{subst, ◌∙◌, arith, append_assoc, append-nil}
use Rattle.std.specs.Str.Lines.{lines}
use Rattle.tuple_codec.specs.Operations.{Operation}
use Rattle.tuple_text.specs.Lines.{IsLine, IsSkipped}
use Rattle.tuple_text.specs.Faults.{RefusesLine}
use Rattle.tuple_text.specs.declared.faults.LineFault.{LineFault}
use Rattle.tuple_text.specs.declared.faults.LineFault.TheVariants.{NoMemory, TooLong}
use Rattle.one_space.specs.Run.{Ending, complete, refused_at, cut_short, IsHelp, LinesSay, PassesOver, Refusal, refusal}
use Rattle.one_space.specs.Run.{at_end, stops, skips, calls, refuses, passes, helps, is_late}
use Rattle.one_space.specs.NextLines.{BeginsWith, IsNextLine}
use Rattle.one_space.specs.Reading.{ReadSoFar}
use Rattle.one_space.specs.declared.session.Manner.{Manner}
use Rattle.one_space.specs.declared.session.Manner.TheVariants.{Strict, Talks}

-- No line was read yet.
pub unread : (manner : Manner) (bytes : List ℕ) → ReadSoFar manner bytes (Some bytes) 1 [] []
unread manner bytes = record { rest = bytes; left_is = refl; leads = λ more later ending r. r }

module _ (manner : Manner) (bytes : List ℕ) (left : Option (List ℕ)) (n : ℕ) (os : List Operation) (rs : List Refusal) (so_far : ReadSoFar manner bytes left n os rs) where
  -- no line more says an operation
  with_none : (later : List Refusal) (ending : Ending) → LinesSay manner n (lines so_far.rest) [] later ending → LinesSay manner 1 (lines bytes) os (rs ++ later) ending
  with_none later ending r = subst (λ xs. LinesSay manner 1 (lines bytes) xs (rs ++ later) ending) (append-nil os) (so_far.leads [] later ending r)

  with_nothing : (ending : Ending) → LinesSay manner n (lines so_far.rest) [] [] ending → LinesSay manner 1 (lines bytes) os rs ending
  with_nothing ending r = subst (λ xs. LinesSay manner 1 (lines bytes) os xs ending) (append-nil rs) (with_none [] ending r)

  pub at_last : lines so_far.rest ≡ [] → LinesSay manner 1 (lines bytes) os rs complete
  at_last e = with_nothing complete (subst (λ ls. LinesSay manner n ls [] [] complete) (sym e) at_end)

  pub cut : LinesSay manner 1 (lines bytes) os rs cut_short
  cut = with_nothing cut_short stops

  pub late : 2 ^ 48 ≤ n → BeginsWith (λ _. Unit {0}) so_far.rest → LinesSay manner 1 (lines bytes) os (rs ++ refusal n TooLong ∷ []) (refused_at n TooLong)
  late h b =
      with_none (refusal n TooLong ∷ []) (refused_at n TooLong)
      (subst (λ ls. LinesSay manner n ls [] (refusal n TooLong ∷ []) (refused_at n TooLong)) (sym b.split) (is_late h))

  pub refused : (fault : LineFault) (l : List ℕ) (ls : List (List ℕ)) → manner ≡ Strict → n < 2 ^ 48 → fault ≢ NoMemory → RefusesLine fault l → lines so_far.rest ≡ l ∷ ls
      → LinesSay manner 1 (lines bytes) os (rs ++ refusal n fault ∷ []) (refused_at n fault)
  refused fault l ls strict below known refusing split =
      with_none (refusal n fault ∷ []) (refused_at n fault)
      (subst (λ ks. LinesSay manner n ks [] (refusal n fault ∷ []) (refused_at n fault)) (sym split) (refuses strict below known refusing))

  pub past_skipped : (rest : Option (List ℕ)) (l : List ℕ) → n < 2 ^ 48 → IsNextLine l so_far.rest rest → IsSkipped l → ReadSoFar manner bytes rest (n + 1) os rs
  past_skipped rest l below next skipped = record {
    rest = next.rest;
    left_is = next.left_is;
    leads = λ more later ending r. so_far.leads more later ending (subst (λ ls. LinesSay manner n ls more later ending) (sym next.split) (skips below skipped r));
  }

  pub past_operation : (rest : Option (List ℕ)) (l : List ℕ) (o : Operation) → n < 2 ^ 48 → IsNextLine l so_far.rest rest → IsLine o l
      → ReadSoFar manner bytes rest (n + 1) (os ++ o ∷ []) rs
  past_operation rest l o below next is_line = record {
    rest = next.rest;
    left_is = next.left_is;
    leads = λ more later ending r.
        subst (λ xs. LinesSay manner 1 (lines bytes) xs (rs ++ later) ending) (sym (append_assoc os (o ∷ []) more))
        (so_far.leads (o ∷ more) later ending (subst (λ ls. LinesSay manner n ls (o ∷ more) later ending) (sym next.split) (calls o below is_line r)));
  }

  pub past_refused : (rest : Option (List ℕ)) (l others : List ℕ) (fault : LineFault) → n < 2 ^ 48 → rest ≡ Some others → lines so_far.rest ≡ l ∷ lines others
      → PassesOver manner l → fault ≢ NoMemory → RefusesLine fault l → ReadSoFar manner bytes rest (n + 1) os (rs ++ refusal n fault ∷ [])
  past_refused rest l others fault below left_is split over known refusing = record {
    rest = others;
    left_is = left_is;
    leads = λ more later ending r.
        subst (λ xs. LinesSay manner 1 (lines bytes) (os ++ more) xs ending) (sym (append_assoc rs (refusal n fault ∷ []) later))
        (so_far.leads more (refusal n fault ∷ later) ending
        (subst (λ ls. LinesSay manner n ls more (refusal n fault ∷ later) ending) (sym split) (passes over below known refusing r)));
  }

  pub past_help : (rest : Option (List ℕ)) (l others : List ℕ) (fault : LineFault) → n < 2 ^ 48 → rest ≡ Some others → lines so_far.rest ≡ l ∷ lines others
      → manner ≡ Talks → IsHelp l → RefusesLine fault l → ReadSoFar manner bytes rest (n + 1) os rs
  past_help rest l others fault below left_is split talks help refusing = record {
    rest = others;
    left_is = left_is;
    leads = λ more later ending r.
        so_far.leads more later ending (subst (λ ls. LinesSay manner n ls more later ending) (sym split) (helps fault talks help below refusing r));
  }

-- Lines have at most one refusal each, and the first that is one too many has the last one.
pub few_refusals : {manner : Manner} {n : ℕ} {ls : List (List ℕ)} {os : List Operation} {rs : List Refusal} {ending : Ending} → n ≤ 2 ^ 48 → LinesSay manner n ls os rs ending
    → length rs + n ≤ 2 ^ 48 + 1
few_refusals low at_end = omega arith
few_refusals low stops = omega arith
few_refusals low (skips below skipped r) = omega (arith, few_refusals (omega (arith, below)) r)
few_refusals low (calls o below is_line r) = omega (arith, few_refusals (omega (arith, below)) r)
few_refusals low (refuses strict below known refusing) = omega (arith, below)
few_refusals low (passes over below known refusing r) = omega (arith, few_refusals (omega (arith, below)) r)
few_refusals low (helps fault talks help below refusing r) = omega (arith, few_refusals (omega (arith, below)) r)
few_refusals low (is_late high) = omega arith
