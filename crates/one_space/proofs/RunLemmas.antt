-- A run up to one of its lines.
use Rattle.std.proofs.Common.{◌≡◌, ◌≢◌, if◌then◌else◌, append-nil, option_map, inl, inr, ℕ, ◌+◌, ◌-◌, ◌^◌, ◌<◌, ◌≤◌}
use Rattle.std.proofs.Common.{Bool, true, false, cond, List, [], ◌∷◌, ◌++◌, Option, None, Some, IfSome, IfOk, Result}
use Rattle.std.proofs.Common.{Ok, Err, MatchResult, MatchBool, OnOk, IfErr, ◌==◌, length, map, min, refl, sym, ap}
use Rattle.std.proofs.Common.{subst, ◌∙◌, arith}
use Rattle.std.proofs.lemmas.List.{length-append}
use Rattle.std.specs.Str.Lines.{lines}
use Rattle.std.specs.Io.BufRead.{DropsThrough, drop_through}
use Rattle.std.specs.Io.KnownBytes.{Appends, prepend_known}
use Rattle.std.specs.Io.Buffered.{reader_inner, reader_buffer, reader_capacity, reader_remaining}
use Rattle.std.specs.declared.io.buffered.BufReader.{BufReader}
use Rattle.tuple_codec.specs.Operations.{Operation}
use Rattle.tuple_codec.specs.OperationView.{operation_of}
use Rattle.tuple_codec.specs.declared.operations.Op.{Op}
use Rattle.tuple_text.specs.Lines.{IsLine, IsSkipped}
use Rattle.tuple_text.specs.Faults.{RefusesLine}
use Rattle.tuple_text.specs.declared.faults.LineFault.{LineFault}
use Rattle.tuple_text.specs.declared.faults.LineFault.TheVariants.{NoMemory as no_memory, TooLong}
use Rattle.space.specs.Applying.{Contents, outcome, tuples_after}
use Rattle.space.specs.Births.{SpaceState, tuples_of, state_after}
use Rattle.space.proofs.Batches.{next_after}
use Rattle.space.proofs.Keeping.{tuples_of-state_after}
use Rattle.one_space.specs.Complaints.{Says, refusal_line}
use Rattle.one_space.specs.Endings.{Breaks, FrontIsWritten, Gives, IsWriteFault, Left, Runs, Scene, StopsBy}
use Rattle.one_space.specs.Endings.{read_fault_of}
use Rattle.one_space.specs.Moments.{EndsEarly, EndsLate, EndsStrictly, GoesOn, HelpsOrPasses, IsAt, Passes, PassesRead}
use Rattle.one_space.specs.Moments.{Quiets, RunsOperation, Settles, left_with}
use Rattle.one_space.specs.NextLines.{BeginsWith, HoldsLine, IsCutLine, IsNextLine, NextLineFails, ReturnsLine}
use Rattle.one_space.specs.Run.{Ending, complete, refused_at, cut_short, IsHelp, LinesSay, PassesOver, Refusal, refusal}
use Rattle.one_space.specs.Run.{result_line, at_end, stops, skips, calls, refuses, passes, helps, is_late}
use Rattle.one_space.specs.declared.input.NextLine.{NextLine}
use Rattle.one_space.specs.declared.input.NextLine.TheVariants as next
use Rattle.one_space.specs.declared.input.NoLine.{NoLine}
use Rattle.one_space.specs.declared.input.NoLine.TheVariants as no
use Rattle.one_space.specs.declared.once.EndsOnce.{EndsOnce}
use Rattle.one_space.specs.declared.pieces.ReadFault.{ReadFault}
use Rattle.one_space.specs.declared.pieces.ReadFault.TheVariants as pieces
use Rattle.one_space.specs.declared.session.Held.{Held}
use Rattle.one_space.specs.declared.session.LocalFault.{LocalFault}
use Rattle.one_space.specs.declared.session.LocalFault.TheVariants as local
use Rattle.one_space.specs.declared.session.Manner.{Manner}
use Rattle.one_space.specs.declared.session.Manner.TheVariants.{Strict, KeepsGoing, Talks}
use Rattle.one_space.specs.declared.session.Turn.{Turn}
use Rattle.one_space.proofs.Giving.{gives_nothing, gives_operation, gives_same, gives_told, gives_written}
use Rattle.one_space.proofs.SoFar.{unread, at_last, cut, late, refused, past_skipped, past_operation, past_refused}
use Rattle.one_space.proofs.SoFar.{past_help, few_refusals}

-- an operation raises the next birth number by at most 257
pub state_after_next : (s : SpaceState) (o : Operation) → (state_after s 0 o).next ≤ s.next + 257
state_after_next s o = omega (arith, next_after s 0 o)

-- ---- counts of refused lines

counted : (n refused : ℕ) → n ≤ 2 ^ 48 → refused ≡ min n (2 ^ 64 - 1) → refused ≡ n
counted n refused few e = grind arith

-- A run that gave this, and whose count is that of its refusals, ended so.
ended : {manner : Manner} {first : Contents} {bytes : List ℕ} {start now : Scene} {ops : List Operation} {refusals : List Refusal} {left : Left} (ending : Ending)
    → LinesSay manner 1 (lines bytes) ops refusals ending → Gives first start now ops refusals left → left.refused ≡ min (length refusals) (2 ^ 64 - 1)
    → Runs manner first bytes ending start now left
ended {refusals = rs} {left = left} ending said gives count = record {
  ops = _;
  refusals = rs;
  said = said;
  gives = gives;
  count = counted (length rs) left.refused (omega (arith, few_refusals (omega arith) said)) count;
}

one_more : (before after n : ℕ) → before ≡ min n (2 ^ 64 - 1) → after ≡ min (before + 1) (2 ^ 64 - 1) → after ≡ min (n + 1) (2 ^ 64 - 1)
one_more before after n e f = grind arith

pushed : (rs : List Refusal) (r : Refusal) → length (rs ++ r ∷ []) ≡ length rs + 1
pushed rs r = length-append rs (r ∷ [])

-- ---- a run at one of its lines

pub begins : (manner : Manner) (first : Contents) (bytes : List ℕ) (scene : Scene) (left : Left) → left.tuples ≡ first → left.pending ≡ [] → left.refused ≡ 0
    → IsAt manner first bytes scene 1 (Some bytes) scene left
begins manner first bytes scene left tuples none count = record {
  ops = [];
  refusals = [];
  so_far = unread manner bytes;
  gives = gives_nothing first scene left tuples none;
  count = count;
}

pub begins_known : (manner : Manner) (known : Option (List ℕ)) (scene : Scene) (left : Left) → left.pending ≡ [] → left.refused ≡ 0
    → IfSome known (λ bytes. IsAt manner left.tuples bytes scene 1 known scene left)
begins_known manner None scene left none count = tt
begins_known manner (Some bytes) scene left none count = begins manner left.tuples bytes scene left refl none count

module _ (manner : Manner) (first : Contents) (bytes : List ℕ) (start : Scene) (n : ℕ) (known : Option (List ℕ)) (now : Scene) (left : Left) (here : IsAt manner first bytes start n known now left) where
  pub ends_here : lines here.so_far.rest ≡ [] → Runs manner first bytes complete start now left
  ends_here e = ended complete (at_last manner bytes known n here.ops here.refusals here.so_far e) here.gives here.count

  pub cuts_here : Runs manner first bytes cut_short start now left
  cuts_here = ended cut_short (cut manner bytes known n here.ops here.refusals here.so_far) here.gives here.count

  -- some results are pending as before
  pub breaks_here : (pending : List ℕ) → pending ≡ left.pending → Breaks cut_short manner first bytes start now pending
  breaks_here pending e = (left, sym e, cuts_here)

  pub skips_here : (rest : Option (List ℕ)) (l : List ℕ) → n < 2 ^ 48 → IsNextLine l here.so_far.rest rest → IsSkipped l → IsAt manner first bytes start (n + 1) rest now left
  skips_here rest l below next skipped = record {
    ops = here.ops;
    refusals = here.refusals;
    so_far = past_skipped manner bytes known n here.ops here.refusals here.so_far rest l below next skipped;
    gives = here.gives;
    count = here.count;
  }

  pub runs_here : (rest : Option (List ℕ)) (l : List ℕ) (o : Operation) (after : Left) → n < 2 ^ 48 → IsNextLine l here.so_far.rest rest → IsLine o l
      → after.tuples ≡ tuples_after left.tuples 0 o → after.pending ≡ left.pending ++ result_line (outcome left.tuples 0 o) → after.refused ≡ left.refused
      → IsAt manner first bytes start (n + 1) rest now after
  runs_here rest l o after below next is_line tuples pending refused = record {
    ops = here.ops ++ o ∷ [];
    refusals = here.refusals;
    so_far = past_operation manner bytes known n here.ops here.refusals here.so_far rest l o below next is_line;
    gives = gives_operation first start now here.ops here.refusals left here.gives o after tuples pending;
    count = refused ∙ here.count;
  }

-- A run that didn't begin gave nothing.
pub not_begun : (manner : Manner) (known : Option (List ℕ)) (scene : Scene) (left : Left) → left.pending ≡ [] → left.refused ≡ 0
    → IfSome known (λ bytes. Breaks cut_short manner left.tuples bytes scene scene [])
not_begun manner None scene left none count = tt
not_begun manner (Some bytes) scene left none count =
    breaks_here manner left.tuples bytes scene 1 (Some bytes) scene left (begins manner left.tuples bytes scene left refl none count) [] (sym none)

-- The operation of a line ran.
pub operates : (manner : Manner) (first : Contents) (bytes : List ℕ) (start : Scene) (n : ℕ) (known rest : Option (List ℕ)) (now : Scene) (left after : Left)
    (here : IsAt manner first bytes start n known now left) (o : Operation) (l : List ℕ) → n < 2 ^ 48 → IsNextLine l here.so_far.rest rest → IsLine o l
    → (ran : Result Bool LocalFault) → RunsOperation ran o left after
    → MatchResult ran
    (λ more. MatchBool more (IsAt manner first bytes start (n + 1) rest now after) (Runs manner first bytes complete start now after))
    (λ why. StopsBy why manner first bytes start now after.pending)
operates manner first bytes start n known rest now left after here o l below next_line is_line (Ok more) h =
    rw h.0 (runs_here manner first bytes start n known now left here rest l o after below next_line is_line h.1 h.2 h.3)
operates manner first bytes start n known rest now left after here o l below next_line is_line (Err why) h =
    rw h.0 (breaks_here manner first bytes start n known now left here after.pending h.1)

-- A front of the pending results went to the writer.
pub moved : (manner : Manner) (first : Contents) (bytes : List ℕ) (start : Scene) (n : ℕ) (known : Option (List ℕ)) (now later : Scene) (left after : Left)
    → later.said ≡ now.said → after.tuples ≡ left.tuples → after.refused ≡ left.refused → FrontIsWritten now.written later.written left.pending after.pending
    → IsAt manner first bytes start n known now left → IsAt manner first bytes start n known later after
moved manner first bytes start n known now later left after said tuples refused moves here = record {
  ops = here.ops;
  refusals = here.refusals;
  so_far = here.so_far;
  gives = gives_written first start now here.ops here.refusals left here.gives later after said tuples moves;
  count = refused ∙ here.count;
}

-- ---- refused lines

over_long : (manner : Manner) (l : List ℕ) → GoesOn manner → 65537 ≤ length l → PassesOver manner l
over_long Strict l on long = absurd on
over_long KeepsGoing l on long = tt
over_long Talks l on long = λ help. omega (arith, help.short, long)

over_held : (manner : Manner) (buffer l : List ℕ) → HoldsLine buffer l → PassesOver manner buffer → PassesOver manner l
over_held manner buffer l (inl e) over = subst (PassesOver manner) e over
over_held Strict buffer l (inr h) over = absurd over
over_held KeepsGoing buffer l (inr h) over = tt
over_held Talks buffer l (inr h) over = λ help. omega (arith, help.short, h.1)

-- Nothing is no `help`.
no_help : (lead trail : List ℕ) → [] ≡ lead ++ (104 ∷ 101 ∷ 108 ∷ 112 ∷ trail) → ⊥
no_help [] trail e = cc
no_help (x ∷ lead) trail e = cc

help_held : (buffer l : List ℕ) → HoldsLine buffer l → IsHelp buffer → IsHelp l
help_held buffer l (inl e) help = subst IsHelp e help
help_held buffer l (inr h) help = absurd (no_help help.lead help.trail (sym h.0 ∙ help.whole))

-- What was held went to the writer, and some refusals were told.
settled : (first : Contents) (start old new : Scene) (os : List Operation) (rs more : List Refusal) (space : SpaceState) (before after : Held)
    → Appends old.written new.written before.results.items → after.results.items ≡ [] → Says old.said new.said (map refusal_line more)
    → Gives first start old os rs (left_with space before) → Gives first start new os (rs ++ more) (left_with space after)
settled first start old new os rs more space before after wrote none told gives =
    let mid : Scene = record { written = new.written; said = old.said } in
    gives_told first start mid os rs (left_with space after)
    (gives_written first start old os rs (left_with space before) gives mid (left_with space after) refl refl (record {
      gone = before.results.items;
      wrote = wrote;
      split = ap (λ l. before.results.items ++ l) none ∙ append-nil before.results.items;
    }))
    new more refl told

-- the run at a line, and the held results before and after
module _ (manner : Manner) (first : Contents) (bytes : List ℕ) (start : Scene) (n : ℕ) (known : Option (List ℕ)) (old new : Scene) (space : SpaceState) (before after : Held)
    (here : IsAt manner first bytes start n known old (left_with space before)) where
  told_one : (fault : LineFault) → Settles old new before after (refusal_line (refusal n fault) ∷ []) 1 → Gives first start new here.ops (here.refusals ++ refusal n fault ∷ []) (left_with space after)
  told_one fault settles = settled first start old new here.ops here.refusals (refusal n fault ∷ []) space before after settles.wrote settles.none settles.told here.gives

  count_one : (fault : LineFault) → Settles old new before after (refusal_line (refusal n fault) ∷ []) 1 → after.refused ≡ min (length (here.refusals ++ refusal n fault ∷ [])) (2 ^ 64 - 1)
  count_one fault settles =
      one_more before.refused after.refused (length here.refusals) here.count settles.count ∙ ap (λ k. min k (2 ^ 64 - 1)) (sym (pushed here.refusals (refusal n fault)))

  -- The refused line is passed over.
  pub passes_one : (rest : Option (List ℕ)) (l others : List ℕ) (fault : LineFault) → n < 2 ^ 48 → rest ≡ Some others → lines here.so_far.rest ≡ l ∷ lines others
      → PassesOver manner l → fault ≢ no_memory → RefusesLine fault l → Settles old new before after (refusal_line (refusal n fault) ∷ []) 1
      → IsAt manner first bytes start (n + 1) rest new (left_with space after)
  passes_one rest l others fault below left_is split over real refusing settles = record {
    ops = here.ops;
    refusals = here.refusals ++ refusal n fault ∷ [];
    so_far = past_refused manner bytes known n here.ops here.refusals here.so_far rest l others fault below left_is split over real refusing;
    gives = told_one fault settles;
    count = count_one fault settles;
  }

  helps_one : (rest : Option (List ℕ)) (l others : List ℕ) (fault : LineFault) → n < 2 ^ 48 → rest ≡ Some others → lines here.so_far.rest ≡ l ∷ lines others
      → manner ≡ Talks → IsHelp l → RefusesLine fault l → Quiets old new before after → IsAt manner first bytes start (n + 1) rest new (left_with space after)
  helps_one rest l others fault below left_is split talks help refusing quiet = record {
    ops = here.ops;
    refusals = here.refusals;
    so_far = past_help manner bytes known n here.ops here.refusals here.so_far rest l others fault below left_is split talks help refusing;
    gives = subst (λ rs. Gives first start new here.ops rs (left_with space after)) (append-nil here.refusals)
        (settled first start old new here.ops here.refusals [] space before after quiet.wrote quiet.none quiet.told here.gives);
    count = quiet.same ∙ here.count;
  }

  -- The run ends at the refused line.
  ends_at_refusal : (fault : LineFault) → LinesSay manner 1 (lines bytes) here.ops (here.refusals ++ refusal n fault ∷ []) (refused_at n fault)
      → Settles old new before after (refusal_line (refusal n fault) ∷ []) 1 → Breaks (refused_at n fault) manner first bytes start new after.results.items
  ends_at_refusal fault said settles = (left_with space after, refl, ended (refused_at n fault) said (told_one fault settles) (count_one fault settles))

  at_refusal : (line : ℕ) (why fault : LineFault) → line ≡ n → why ≡ fault → Breaks (refused_at n fault) manner first bytes start new after.results.items
      → Breaks (refused_at line why) manner first bytes start new after.results.items
  at_refusal line why fault e f h =
      subst (λ k. Breaks (refused_at k why) manner first bytes start new after.results.items) (sym e)
      (subst (λ w. Breaks (refused_at n w) manner first bytes start new after.results.items) (sym f) h)

  pub late_so : (fault : LocalFault) → n ≡ 2 ^ 48 → BeginsWith (λ _. Unit {0}) here.so_far.rest → EndsLate fault old new before after
      → StopsBy fault manner first bytes start new after.results.items
  late_so (local.Refused line why) e more h =
      let settles = subst (λ k. Settles old new before after (refusal_line (refusal k TooLong) ∷ []) 1) (sym e) h.2 in
      at_refusal line why TooLong (h.0 ∙ sym e) h.1
      (ends_at_refusal TooLong (late manner bytes known n here.ops here.refusals here.so_far (omega (arith, e)) more) settles)
  late_so local.NoMemory e more h = absurd h
  late_so (local.Read error) e more h = absurd h
  late_so (local.Write error) e more h = tt

module _ (turn : Turn) (first : Contents) (bytes : List ℕ) (start : Scene) (known rest : Option (List ℕ)) (old new : Scene) (space : SpaceState) (before after : Held)
    (below : turn.number < 2 ^ 48) (here : IsAt turn.manner first bytes start turn.number known old (left_with space before)) where
  strictly : (why : LocalFault) (fault : LineFault) (l : List ℕ) (ls : List (List ℕ)) → lines here.so_far.rest ≡ l ∷ ls → fault ≢ no_memory → RefusesLine fault l
      → EndsStrictly why turn fault old new before after → StopsBy why turn.manner first bytes start new after.results.items
  strictly (local.Refused line why) fault l ls split real refusing h =
      at_refusal turn.manner first bytes start turn.number known old new space before after here line why fault h.0 h.1
      (ends_at_refusal turn.manner first bytes start turn.number known old new space before after here fault
      (refused turn.manner bytes known turn.number here.ops here.refusals here.so_far fault l ls h.2 below real refusing split) h.3)
  strictly local.NoMemory fault l ls split real refusing h = absurd h
  strictly (local.Read error) fault l ls split real refusing h = absurd h
  strictly (local.Write error) fault l ls split real refusing h = tt

  -- what came of the line: the run is at the next one, or ended there, or stopped
  abbrev pub Comes : Result Bool LocalFault → Type 0
  Comes result =
      MatchResult result
      (λ more. MatchBool more (IsAt turn.manner first bytes start (turn.number + 1) rest new (left_with space after)) (Runs turn.manner first bytes complete start new (left_with space after)))
      (λ why. StopsBy why turn.manner first bytes start new after.results.items)

  goes : (more : Bool) → more ≡ true → IsAt turn.manner first bytes start (turn.number + 1) rest new (left_with space after) → Comes (Ok more)
  goes more e h = rw e h

  pub passes_refused : (fault : LineFault) (buffer l : List ℕ) → IsNextLine l here.so_far.rest rest → fault ≢ no_memory → RefusesLine fault l → HoldsLine buffer l
      → (result : Result Bool LocalFault) → Passes result turn fault buffer old new before after → Comes result
  passes_refused fault buffer l first_line real refusing holds (Ok more) h = goes more h.0 (elim h.1 [
    | inl talk ↦ helps_one turn.manner first bytes start turn.number known old new space before after here rest l first_line.rest fault below first_line.left_is first_line.split
        talk.0 (help_held buffer l holds talk.1) refusing talk.2
    | inr over ↦ passes_one turn.manner first bytes start turn.number known old new space before after here rest l first_line.rest fault below first_line.left_is first_line.split
        (over_held turn.manner buffer l holds over.0) real refusing over.1
  ])
  passes_refused fault buffer l first_line real refusing holds (Err why) h = strictly why fault l (lines first_line.rest) first_line.split real refusing h

  pub stays : new ≡ old → after ≡ before → Breaks cut_short turn.manner first bytes start new after.results.items
  stays e f =
      subst (λ s. Breaks cut_short turn.manner first bytes start s after.results.items) (sym e)
      (breaks_here turn.manner first bytes start turn.number known old (left_with space before) here after.results.items (ap (λ h. h.results.items) f))

-- A line was refused by its first bytes, and its rest was passed.
module _ (turn : Turn) (first : Contents) (bytes : List ℕ) (start : Scene) (known mid rest : Option (List ℕ)) (old new : Scene) (space : SpaceState) (before after : Held)
    (below : turn.number < 2 ^ 48) (here : IsAt turn.manner first bytes start turn.number known old (left_with space before)) (fault : LineFault) (buffer : List ℕ)
    (fails : NextLineFails (no.RefusedEarly fault) here.so_far.rest mid buffer) where
  passed : (left : Option (List ℕ)) → left ≡ Some (drop_through 10 fails.1.rest) → GoesOn turn.manner → Settles old new before after (refusal_line (refusal turn.number fault) ∷ []) 1
      → IsAt turn.manner first bytes start (turn.number + 1) left new (left_with space after)
  passed left e on settles =
      passes_one turn.manner first bytes start turn.number known old new space before after here left fails.0 (drop_through 10 fails.1.rest) fault below e fails.1.split
      (over_long turn.manner fails.0 on fails.4) fails.2 fails.3 settles

  dropped : DropsThrough mid rest 10 → rest ≡ Some (drop_through 10 fails.1.rest)
  dropped drops = subst (λ o. IfSome o (λ xs. rest ≡ Some (drop_through 10 xs))) fails.1.left_is drops

  broken : GoesOn turn.manner → Settles old new before after (refusal_line (refusal turn.number fault) ∷ []) 1 → Breaks cut_short turn.manner first bytes start new after.results.items
  broken on settles =
      breaks_here turn.manner first bytes start (turn.number + 1) (Some (drop_through 10 fails.1.rest)) new (left_with space after) (passed (Some (drop_through 10 fails.1.rest)) refl on settles)
      after.results.items refl

  ends_early : (why : LocalFault) → EndsEarly why turn fault old new before after → StopsBy why turn.manner first bytes start new after.results.items
  ends_early (local.Refused line w) h =
      strictly turn first bytes start known rest old new space before after below here (local.Refused line w) fault fails.0 (lines (drop_through 10 fails.1.rest)) fails.1.split fails.2 fails.3 h
  ends_early local.NoMemory h = broken h.0 h.1
  ends_early (local.Read error) h = broken h.0 h.1
  ends_early (local.Write error) h = tt

  pub passes_early : (result : Result Bool LocalFault)
      → MatchResult result
      (λ more. (more ≡ true) × DropsThrough mid rest 10 × GoesOn turn.manner × Settles old new before after (refusal_line (refusal turn.number fault) ∷ []) 1)
      (λ why. EndsEarly why turn fault old new before after)
      → Comes turn first bytes start known rest old new space before after below here result
  passes_early (Ok more) h = goes turn first bytes start known rest old new space before after below here more h.0 (passed rest (dropped h.1) h.2 h.3)
  passes_early (Err why) h = ends_early why h

-- What came of a line that isn't read.
module _ (turn : Turn) (first : Contents) (bytes : List ℕ) (start : Scene) (known mid rest : Option (List ℕ)) (old new : Scene) (space : SpaceState) (before after : Held)
    (below : turn.number < 2 ^ 48) (here : IsAt turn.manner first bytes start turn.number known old (left_with space before)) (buffer : List ℕ) where
  pub comes_of : (why : NoLine) (result : Result Bool LocalFault) → NextLineFails why here.so_far.rest mid buffer → PassesRead result turn why buffer mid rest old new before after
      → Comes turn first bytes start known rest old new space before after below here result
  comes_of (no.Refused fault) result fails h =
      passes_refused turn first bytes start known rest old new space before after below here fault buffer fails.0 (subst (IsNextLine fails.0 here.so_far.rest) (sym h.1) fails.1) fails.2 fails.3 fails.4
      result h.0
  comes_of (no.RefusedEarly fault) result fails h = passes_early turn first bytes start known mid rest old new space before after below here fault buffer fails result h
  comes_of no.NoMemory result fails h = rw h.0 (stays turn first bytes start known rest old new space before after below here h.1 h.2)
  comes_of (no.Read error) result fails h = rw h.0 (stays turn first bytes start known rest old new space before after below here h.1 h.2)

-- ---- a line that was read

module _ {A : Type 0} (manner : Manner) (first : Contents) (bytes : List ℕ) (start : Scene) (n : ℕ) (known rest : Option (List ℕ)) (now : Scene) (space : SpaceState) (held : Held)
    (here : IsAt manner first bytes start n known now (left_with space held)) (buffer : List ℕ) (result : Result (NextLine A) NoLine)
    (read : IfSome known (λ xs. MatchResult result (λ x. ReturnsLine x xs rest) (λ why. NextLineFails why xs rest buffer))) where
  told : MatchResult result (λ x. ReturnsLine x here.so_far.rest rest) (λ why. NextLineFails why here.so_far.rest rest buffer)
  told = subst (λ o. IfSome o (λ xs. MatchResult result (λ x. ReturnsLine x xs rest) (λ why. NextLineFails why xs rest buffer))) here.so_far.left_is read

  gives_line : (field x : NextLine A) → result ≡ Ok field → field ≡ x → ReturnsLine x here.so_far.rest rest
  gives_line field x e f =
      subst (λ y. ReturnsLine y here.so_far.rest rest) f (subst (λ r. MatchResult r (λ y. ReturnsLine y here.so_far.rest rest) (λ why. NextLineFails why here.so_far.rest rest buffer)) e told)

  pub fails_line : (field why : NoLine) → result ≡ Err field → field ≡ why → NextLineFails why here.so_far.rest rest buffer
  fails_line field why e f =
      subst (λ y. NextLineFails y here.so_far.rest rest buffer) f (subst (λ r. MatchResult r (λ y. ReturnsLine y here.so_far.rest rest) (λ y. NextLineFails y here.so_far.rest rest buffer)) e told)

  pub ends : (field : NextLine A) → result ≡ Ok field → field ≡ next.End → Runs manner first bytes complete start now (left_with space held)
  ends field e f = ends_here manner first bytes start n known now (left_with space held) here (gives_line field next.End e f)

  pub skips_on : (field : NextLine A) → n < 2 ^ 48 → result ≡ Ok field → field ≡ next.Skipped → IsAt manner first bytes start (n + 1) rest now (left_with space held)
  skips_on field below e f =
      let given = gives_line field next.Skipped e f in
      skips_here manner first bytes start n known now (left_with space held) here rest given.0 below given.1 given.2

  pub runs_on : (field : NextLine A) (op : Op A) (later : SpaceState) (after : Held) (ran : Result Bool LocalFault) → n < 2 ^ 48 → result ≡ Ok field → field ≡ next.Operation op
      → RunsOperation ran (operation_of op) (left_with space held) (left_with later after)
      → MatchResult ran
      (λ more. MatchBool more (IsAt manner first bytes start (n + 1) rest now (left_with later after)) (Runs manner first bytes complete start now (left_with later after)))
      (λ why. StopsBy why manner first bytes start now after.results.items)
  runs_on field op later after ran below e f h =
      let given = gives_line field (next.Operation op) e f in
      operates manner first bytes start n known rest now (left_with space held) (left_with later after) here (operation_of op) given.0 below given.1 given.2 ran h

-- ---- a line that is at hand

module _ (turn : Turn) (first : Contents) (bytes : List ℕ) (start : Scene) (known rest : Option (List ℕ)) (old : Scene) (space : SpaceState) (held : Held) (below : turn.number < 2 ^ 48)
    (here : IsAt turn.manner first bytes start turn.number known old (left_with space held)) (l : List ℕ) (there : IfSome known (λ xs. IsNextLine l xs rest)) where
  at_line : IsNextLine l here.so_far.rest rest
  at_line = subst (λ o. IfSome o (λ xs. IsNextLine l xs rest)) here.so_far.left_is there

  pub skips_line : IsSkipped l → IsAt turn.manner first bytes start (turn.number + 1) rest old (left_with space held)
  skips_line skipped = skips_here turn.manner first bytes start turn.number known old (left_with space held) here rest l below at_line skipped

  pub runs_line : (o : Operation) (later : SpaceState) (after : Held) (ran : Result Bool LocalFault) → IsLine o l → RunsOperation ran o (left_with space held) (left_with later after)
      → MatchResult ran
      (λ more. MatchBool more (IsAt turn.manner first bytes start (turn.number + 1) rest old (left_with later after)) (Runs turn.manner first bytes complete start old (left_with later after)))
      (λ why. StopsBy why turn.manner first bytes start old after.results.items)
  runs_line o later after ran is_line h =
      operates turn.manner first bytes start turn.number known rest old (left_with space held) (left_with later after) here o l below at_line is_line ran h

  pub passes_line : (fault : LineFault) (new : Scene) (after : Held) (result : Result Bool LocalFault) → fault ≢ no_memory → RefusesLine fault l → Passes result turn fault l old new held after
      → Comes turn first bytes start known rest old new space held after below here result
  passes_line fault new after result real refusing h =
      passes_refused turn first bytes start known rest old new space held after below here fault l l at_line real refusing (inl refl) result h

-- Nothing was said when the next line was asked for.
pub asked : (manner : Manner) (first : Contents) (bytes : List ℕ) (start : Scene) (n : ℕ) (known : Option (List ℕ)) (now later : Scene) (left : Left) → later.written ≡ now.written
    → Says now.said later.said [] → IsAt manner first bytes start n known now left → IsAt manner first bytes start n known later left
asked manner first bytes start n known now later left written said here = record {
  ops = here.ops;
  refusals = here.refusals;
  so_far = here.so_far;
  gives = subst (λ rs. Gives first start later here.ops rs left) (append-nil here.refusals) (gives_told first start now here.ops here.refusals left here.gives later [] written said);
  count = here.count;
}

-- ---- the end of a run

-- The bytes left after the last possible line.
module _ (manner : Manner) (first : Contents) (bytes : List ℕ) (start : Scene) (n : ℕ) (known : Option (List ℕ)) (now : Scene) (left : Left) (here : IsAt manner first bytes start n known now left)
    (result : Result Bool ReadFault) (more : IfSome known (λ xs. IfOk result (λ is_more. MatchBool is_more (BeginsWith (λ _. Unit {0}) xs) (lines xs ≡ [])))) where
  LeftBehind : Bool → Type 0
  LeftBehind is_more = MatchBool is_more (BeginsWith (λ _. Unit {0}) here.so_far.rest) (lines here.so_far.rest ≡ [])

  left_behind : (field b : Bool) → result ≡ Ok field → field ≡ b → MatchBool b (BeginsWith (λ _. Unit {0}) here.so_far.rest) (lines here.so_far.rest ≡ [])
  left_behind field b e f =
      let Behind : List ℕ → Bool → Type 0 = λ xs is_more. MatchBool is_more (BeginsWith (λ _. Unit {0}) xs) (lines xs ≡ []) in
      subst (Behind here.so_far.rest) f (subst (λ r. IfOk r (Behind here.so_far.rest)) e (subst (λ o. IfSome o (λ xs. IfOk result (Behind xs))) here.so_far.left_is more))

  pub one_too_many : (field : Bool) → result ≡ Ok field → field ≡ true → BeginsWith (λ _. Unit {0}) here.so_far.rest
  one_too_many field e f = left_behind field true e f

  pub none_left : (field : Bool) → result ≡ Ok field → field ≡ false → Runs manner first bytes complete start now left
  none_left field e f = ends_here manner first bytes start n known now left here (left_behind field false e f)

  pub not_read : (fault : ReadFault) → StopsBy (read_fault_of fault) manner first bytes start now left.pending
  not_read pieces.NoMemory = breaks_here manner first bytes start n known now left here left.pending refl
  not_read (pieces.Read error) = breaks_here manner first bytes start n known now left here left.pending refl

-- Nothing is promised if the writer failed.
pub write_stops : (manner : Manner) (first : Contents) (bytes : List ℕ) (start now : Scene) (pending : List ℕ) (fault : LocalFault) → IsWriteFault fault
    → StopsBy fault manner first bytes start now pending
write_stops manner first bytes start now pending (local.Write error) h = tt
write_stops manner first bytes start now pending _ h = absurd h

pub each_known : (P Q : List ℕ → Type 0) (start : Option (List ℕ)) → ((bytes : List ℕ) → P bytes → Q bytes) → IfSome start P → IfSome start Q
each_known P Q None f h = tt
each_known P Q (Some bytes) f h = f bytes h

-- The results that were pending are written too.
module _ (manner : Manner) (first : Contents) (bytes : List ℕ) (start now written : Scene) (said : written.said ≡ now.said) where
  all_written : (ending : Ending) (left after : Left) → Appends now.written written.written left.pending → after.pending ≡ [] → after.tuples ≡ left.tuples → after.refused ≡ left.refused
      → Runs manner first bytes ending start now left → Runs manner first bytes ending start written after
  all_written ending left after appended none tuples refused runs = record {
    ops = runs.ops;
    refusals = runs.refusals;
    said = runs.said;
    gives = gives_written first start now runs.ops runs.refusals left runs.gives written after said tuples
        (record { gone = left.pending; wrote = appended; split = ap (λ l. left.pending ++ l) none ∙ append-nil left.pending });
    count = refused ∙ runs.count;
  }

  pub written_at_last : (left : Left) → Appends now.written written.written left.pending → Runs manner first bytes complete start now left
      → Runs manner first bytes complete start written (record left { pending = [] })
  written_at_last left appended runs = all_written complete left (record left { pending = [] }) appended refl refl refl runs

  breaks_written : (ending : Ending) (pending : List ℕ) → Appends now.written written.written pending → Breaks ending manner first bytes start now pending
      → Breaks ending manner first bytes start written []
  breaks_written ending pending appended h =
      let left = h.0 in (
        record left { pending = [] },
        refl,
        all_written ending left (record left { pending = [] }) (subst (Appends now.written written.written) (sym h.1) appended) refl refl refl h.2,
      )

  pub written_at_fault : (pending : List ℕ) (fault : LocalFault) → Appends now.written written.written pending → StopsBy fault manner first bytes start now pending
      → StopsBy fault manner first bytes start written []
  written_at_fault pending (local.Refused line why) appended h = breaks_written (refused_at line why) pending appended h
  written_at_fault pending local.NoMemory appended h = breaks_written cut_short pending appended h
  written_at_fault pending (local.Read error) appended h = breaks_written cut_short pending appended h
  written_at_fault pending (local.Write error) appended h = tt

-- No refusal is passed over in a strict run that ends well.
none_refused : {n : ℕ} {ls : List (List ℕ)} {os : List Operation} {rs : List Refusal} {ending : Ending} → LinesSay Strict n ls os rs ending → ending ≡ complete → rs ≡ []
none_refused at_end e = refl
none_refused stops e = cc
none_refused (skips below skipped r) e = none_refused r e
none_refused (calls o below is_line r) e = none_refused r e
none_refused (refuses strict below known refusing) e = cc
none_refused (passes over below known refusing r) e = absurd over
none_refused (helps fault talks help below refusing r) e = cc
none_refused (is_late high) e = cc

pub strict_ends : (first : Contents) (bytes : List ℕ) (start now : Scene) (tuples : Contents) (refused : ℕ) → Runs Strict first bytes complete start now (record { tuples = tuples; refused = refused; pending = [] })
    → Runs Strict first bytes complete start now (record { tuples = tuples; refused = 0; pending = [] })
strict_ends first bytes start now tuples refused runs = record {
  ops = runs.ops;
  refusals = runs.refusals;
  said = runs.said;
  gives = gives_same first start now runs.ops runs.refusals _ runs.gives (record { tuples = tuples; refused = 0; pending = [] }) refl refl;
  count = ap length (sym (none_refused runs.said refl));
}

pub of_known : (P : List ℕ → Type 0) (known start : Option (List ℕ)) → known ≡ start → IfSome known P → IfSome start P
of_known P known start e h = subst (λ s. IfSome s P) e h

-- The number of a line is known by another name.
pub at_number : (manner : Manner) (first : Contents) (whole : Option (List ℕ)) (start : Scene) (n m : ℕ) (known : Option (List ℕ)) (now : Scene) (left : Left) → n ≡ m
    → IfSome whole (λ bytes. IsAt manner first bytes start n known now left) → IfSome whole (λ bytes. IsAt manner first bytes start m known now left)
at_number manner first whole start n m known now left e h = subst (λ k. IfSome whole (λ bytes. IsAt manner first bytes start k known now left)) e h

-- A new buffer holds nothing back.
pub new_remaining : {T A : Type 0} (remaining : T → Option (List ℕ)) (reader : BufReader T A) (inner : T) → reader_inner reader ≡ inner → reader_buffer reader ≡ [] → reader_capacity reader ≡ 8192
    → reader_remaining remaining reader ≡ remaining inner
new_remaining remaining reader inner is_inner empty capacity =
    ap (λ n. cond (n == 0) None (prepend_known (reader_buffer reader) (remaining reader.inner))) capacity
    ∙ ap (λ bs. prepend_known bs (remaining reader.inner)) empty ∙ nothing_before (remaining reader.inner) ∙ ap remaining is_inner
  where
    nothing_before : (known : Option (List ℕ)) → prepend_known [] known ≡ known
    nothing_before None = refl
    nothing_before (Some bytes) = refl

-- a reader that has not ended yet
pub not_ended : (known : Option (List ℕ)) → option_map (λ bytes. if false then [] else bytes) known ≡ known
not_ended None = refl
not_ended (Some bytes) = refl

-- What was pending was written at the end, or writing failed.
pub all_ended : (manner : Manner) (first : Contents) (known : Option (List ℕ)) (start now written : Scene) (left : Left) (result : Result (Unit {0}) LocalFault) → written.said ≡ now.said
    → OnOk result (Appends now.written written.written left.pending) → IfErr result IsWriteFault → IfSome known (λ bytes. Runs manner first bytes complete start now left)
    → IfSome known (λ bytes. MatchResult result
    (λ _. Runs manner first bytes complete start written (record left { pending = [] }))
    (λ fault. StopsBy fault manner first bytes start written []))
all_ended manner first None start now written left result said wrote fails runs = tt
all_ended manner first (Some bytes) start now written left (Ok u) said wrote fails runs = written_at_last manner first bytes start now written said left wrote runs
all_ended manner first (Some bytes) start now written left (Err fault) said wrote fails runs = write_stops manner first bytes start written [] fault fails

-- The fault of a run whose results are all written.
pub all_stopped : (manner : Manner) (first : Contents) (known : Option (List ℕ)) (start now written : Scene) (pending : List ℕ) (fault : LocalFault) → written.said ≡ now.said
    → Appends now.written written.written pending → IfSome known (λ bytes. StopsBy fault manner first bytes start now pending)
    → IfSome known (λ bytes. StopsBy fault manner first bytes start written [])
all_stopped manner first known start now written pending fault said wrote stopped =
    each_known _ _ known (λ bytes h. written_at_fault manner first bytes start now written said pending fault wrote h) stopped

pub none_promised : (manner : Manner) (first : Contents) (known : Option (List ℕ)) (start now : Scene) (pending : List ℕ) (fault : LocalFault) → IsWriteFault fault
    → IfSome known (λ bytes. StopsBy fault manner first bytes start now pending)
none_promised manner first None start now pending fault fails = tt
none_promised manner first (Some bytes) start now pending fault fails = write_stops manner first bytes start now pending fault fails

pub once_remaining : {R A : Type 0} (remaining : R → Option (List ℕ)) (input : BufReader (EndsOnce R) A) (once : EndsOnce R) (reader : R)
    → reader_inner input ≡ once → reader_buffer input ≡ [] → reader_capacity input ≡ 8192 → once ≡ record { reader = reader; has_ended = false }
    → reader_remaining (λ r. option_map (λ (bytes : List ℕ). if r.has_ended then [] else bytes) (remaining r.reader)) input ≡ remaining reader
once_remaining remaining input once reader inner empty capacity new =
    new_remaining (λ r. option_map (λ (bytes : List ℕ). if r.has_ended then [] else bytes) (remaining r.reader)) input once inner empty capacity
    ∙ ap (λ r. option_map (λ (bytes : List ℕ). if r.has_ended then [] else bytes) (remaining r.reader)) new ∙ not_ended (remaining reader)

-- ---- what becomes of a refused line

pub over_of : (manner : Manner) (l : List ℕ) → GoesOn manner → (manner ≡ Talks → IsHelp l → ⊥) → PassesOver manner l
over_of Strict l on other = absurd on
over_of KeepsGoing l on other = tt
over_of Talks l on other = other refl

pub unwritten : (why : LocalFault) (turn : Turn) (fault : LineFault) (old new : Scene) (before after : Held) → IsWriteFault why → EndsStrictly why turn fault old new before after
unwritten (local.Write error) turn fault old new before after h = tt
unwritten (local.Refused line why) turn fault old new before after h = absurd h
unwritten local.NoMemory turn fault old new before after h = absurd h
unwritten (local.Read error) turn fault old new before after h = absurd h

pub on_ok : {V E P : Type 0} (result : Result V E) → P → OnOk result P
on_ok (Ok v) p = p
on_ok (Err e) p = tt
