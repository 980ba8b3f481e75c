-- A schedule up to one of its lines.
use Rattle.std.proofs.Common.{◌≡◌, ℕ, ◌+◌, ◌^◌, ◌<◌, ◌≤◌, List, [], ◌∷◌, ◌++◌, Option, None, Some, IfSome, Result, Ok, Err, map, refl, sym, ap, subst, ◌∙◌, append_assoc, append-nil}
use Rattle.std.proofs.lemmas.List.{map-append}
use Rattle.std.specs.Str.Lines.{lines}
use Rattle.schedule_text.specs.declared.fault.Reason.{Reason}
use Rattle.schedule_text.specs.declared.step.Step.{Step}
use Rattle.schedule_text.specs.StepView.{step_of}
use Rattle.schedule_lines.specs.Lines.{Ending, complete, refused_at, LinesSay, at_end, skips, says, refuses, is_late}
use Rattle.schedule_lines.specs.Schedules.{ending_of, steps_in, IsRead}
use Rattle.schedule_lines.specs.Reading.{ReturnsLine, NextLineFails, ReadsLine, IsUnread, KeepsStep, RefusesAt, ReadSoFar}
use Rattle.schedule_lines.specs.declared.reading.LineRefusal.{LineRefusal}
use Rattle.schedule_lines.specs.declared.lines.NextLine.{NextLine}
use Rattle.schedule_lines.specs.declared.lines.NextLine.TheVariants as next
use Rattle.schedule_lines.specs.declared.lines.NoLine.{NoLine}
use Rattle.schedule_lines.specs.declared.lines.NoLine.TheVariants as no
use Rattle.schedule_lines.specs.declared.reading.Schedule.{Schedule}

pub starts : (known : Option (List ℕ)) (s : Schedule) → IsUnread s → IfSome known (λ bytes. ReadSoFar bytes known 1 s)
starts None s empty = tt
starts (Some bytes) s empty = record {
  rest = bytes;
  known_is = refl;
  none = empty.2;
  leads = λ numbers steps ending r.
      subst (λ ns. LinesSay 1 (lines bytes) (ns ++ numbers) (steps_in s ++ steps) ending) (sym empty.1)
      (subst (λ ss. LinesSay 1 (lines bytes) numbers (map step_of ss ++ steps) ending) (sym empty.0) r);
}

-- The bytes left, after the next line was read.
module _ (bytes : List ℕ) (known : Option (List ℕ)) (n : ℕ) (old : Schedule) (before : ReadSoFar bytes known n old)
    (left : Option (List ℕ)) (result : Result NextLine NoLine) (read : IfSome known (λ xs. ReadsLine result xs left)) where
  told : ReadsLine result before.rest left
  told = subst (λ o. IfSome o (λ xs. ReadsLine result xs left)) before.known_is read

  gives : (field x : NextLine) → result ≡ Ok field → field ≡ x → ReturnsLine x before.rest left
  gives field x e f = subst (λ y. ReturnsLine y before.rest left) f (subst (λ r. ReadsLine r before.rest left) e told)

  fails : (field x : NoLine) → result ≡ Err field → field ≡ x → NextLineFails x before.rest
  fails field x e f = subst (λ y. NextLineFails y before.rest) f (subst (λ r. ReadsLine r before.rest left) e told)

  ends_so : (ending : Ending) → LinesSay n (lines before.rest) [] [] ending → LinesSay 1 (lines bytes) old.numbers.items (steps_in old) ending
  ends_so ending r =
      subst (λ ns. LinesSay 1 (lines bytes) ns (steps_in old) ending) (append-nil old.numbers.items)
      (subst (λ ss. LinesSay 1 (lines bytes) (old.numbers.items ++ []) ss ending) (append-nil (steps_in old)) (before.leads [] [] ending r))

  pub ends : (field : NextLine) → result ≡ Ok field → field ≡ next.End → IsRead bytes old
  ends field e f =
      subst (λ o. LinesSay 1 (lines bytes) old.numbers.items (steps_in old) (ending_of o)) (sym before.none)
      (ends_so complete (subst (λ ls. LinesSay n ls [] [] complete) (sym (gives field next.End e f)) at_end))

  pub skips_on : (field : NextLine) → n < 2 ^ 48 → result ≡ Ok field → field ≡ next.Skipped → ReadSoFar bytes left (n + 1) old
  skips_on field below e f =
      let given = gives field next.Skipped e f in
      record {
        rest = given.1.rest;
        known_is = given.1.left_is;
        none = before.none;
        leads = λ numbers steps ending r.
            before.leads numbers steps ending (subst (λ ls. LinesSay n ls numbers steps ending) (sym given.1.split) (skips below given.2 r));
      }

  pub says_on : (new : Schedule) (field : NextLine) (step : Step) → n < 2 ^ 48 → result ≡ Ok field → field ≡ next.Step step
      → KeepsStep step n old new → ReadSoFar bytes left (n + 1) new
  says_on new field step below e f keeps =
      let given = gives field (next.Step step) e f in
      let steps_are : steps_in new ≡ steps_in old ++ step_of step ∷ [] = ap (map step_of) keeps.0 ∙ map-append step_of old.steps.items (step ∷ []) in
      record {
        rest = given.1.rest;
        known_is = given.1.left_is;
        none = keeps.2 ∙ before.none;
        leads = λ numbers steps ending r.
            let said = before.leads (n ∷ numbers) (step_of step ∷ steps) ending
            (subst (λ ls. LinesSay n ls (n ∷ numbers) (step_of step ∷ steps) ending) (sym given.1.split) (says (step_of step) below given.2 r)) in
            subst (λ ns. LinesSay 1 (lines bytes) ns (steps_in new ++ steps) ending)
            (sym (append_assoc old.numbers.items (n ∷ []) numbers) ∙ ap (λ ns. ns ++ numbers) (sym keeps.1))
            (subst (λ ss. LinesSay 1 (lines bytes) (old.numbers.items ++ n ∷ numbers) ss ending)
            (sym (append_assoc (steps_in old) (step_of step ∷ []) steps) ∙ ap (λ ss. ss ++ steps) (sym steps_are)) said);
      }

  refused_by : (new : Schedule) (reason : LineRefusal) → RefusesAt n reason old new → LinesSay n (lines before.rest) [] [] (refused_at n) → IsRead bytes new
  refused_by new reason at r =
      subst (λ o. LinesSay 1 (lines bytes) new.numbers.items (steps_in new) (ending_of o)) (sym at.2)
      (subst (λ ns. LinesSay 1 (lines bytes) ns.items (steps_in new) (refused_at n)) (sym at.1)
      (subst (λ ss. LinesSay 1 (lines bytes) old.numbers.items (map step_of ss.items) (refused_at n)) (sym at.0) (ends_so (refused_at n) r)))

  pub refuses_so : (new : Schedule) (field : NoLine) (byte : ℕ) (why : Reason) (reason : LineRefusal) → n < 2 ^ 48 → result ≡ Err field
      → field ≡ no.Refused byte why → RefusesAt n reason old new → IsRead bytes new
  refuses_so new field byte why reason below e f at =
      let begins = fails field (no.Refused byte why) e f in
      refused_by new reason at (subst (λ ls. LinesSay n ls [] [] (refused_at n)) (sym begins.split) (refuses below begins.holds))

  -- after the last possible line
  late : (l : List ℕ) (others : List (List ℕ)) → 2 ^ 48 ≤ n → lines before.rest ≡ l ∷ others → LinesSay n (lines before.rest) [] [] (refused_at n)
  late l others low split = subst (λ ls. LinesSay n ls [] [] (refused_at n)) (sym split) (is_late low)

  pub late_skipped : (new : Schedule) (field : NextLine) (reason : LineRefusal) → 2 ^ 48 ≤ n → result ≡ Ok field → field ≡ next.Skipped → RefusesAt n reason old new → IsRead bytes new
  late_skipped new field reason low e f at =
      let given = gives field next.Skipped e f in refused_by new reason at (late given.0 (lines given.1.rest) low given.1.split)

  pub late_step : (new : Schedule) (field : NextLine) (step : Step) (reason : LineRefusal) → 2 ^ 48 ≤ n → result ≡ Ok field → field ≡ next.Step step → RefusesAt n reason old new → IsRead bytes new
  late_step new field step reason low e f at =
      let given = gives field (next.Step step) e f in refused_by new reason at (late given.0 (lines given.1.rest) low given.1.split)

  pub late_none : (new : Schedule) (field : NoLine) (byte : ℕ) (why : Reason) (reason : LineRefusal) → 2 ^ 48 ≤ n → result ≡ Err field
      → field ≡ no.Refused byte why → RefusesAt n reason old new → IsRead bytes new
  late_none new field byte why reason low e f at =
      let begins = fails field (no.Refused byte why) e f in refused_by new reason at (late begins.first begins.others low begins.split)

pub each_known : (P Q : List ℕ → Type 0) (start : Option (List ℕ)) → ((bytes : List ℕ) → P bytes → Q bytes) → IfSome start P → IfSome start Q
each_known P Q None f h = tt
each_known P Q (Some bytes) f h = f bytes h
