-- Reports are of a trace's acceptances and of its points.
use Rattle.std.proofs.Common.{◌≡◌, ℕ, suc, ◌≤◌, ◌<◌, inl, inr, List, [], ◌∷◌, length, refl, sym, subst, ◌∙◌, arith, reverse}
use Rattle.std.proofs.lemmas.List.{reverse-reverse}
use mathlib.Core.List.{reverse_aux}
use Rattle.protocol.specs.System.Trace.{Entry, Once, Has}
use Rattle.protocol.specs.System.Trace.Entry.{Invoke, Accepted}
use Rattle.protocol.specs.Space.Linear.{points}
use Rattle.protocol.specs.System.Schedule.{Acceptance, acceptances}
use Rattle.evidence.specs.RefusedSteps.{ReportsExist, IsAcceptance, ReportsAll, ReportsNoOther, PositionsRise, ReportsInOrder, ReportsAreLinear, FirstOperationIsReported}
use Rattle.protocol.proofs.Points.Whole.{points_are_linear, runs_are_of_lives}
use Rattle.evidence.proofs.FirstPoint.{first_operation_has_its_point}
use Rattle.protocol.proofs.Words.Elements.{has_reverse}
use Rattle.wire_format.specs.Lists.{Each}

pub reports_exist : ReportsExist
reports_exist c trace = (reverse (acceptances trace), points c trace, record { accepted_are = refl; points_are = refl })

-- ---- listed acceptances

listed : (a : Acceptance) (trace : List Entry) → Once (IsAcceptance a) trace → Has (λ x. x ≡ a) (acceptances trace)
listed a [] h = h
listed a (Accepted client timestamp answer ∷ past) (inl h) = inl (sym h)
listed a (Accepted client timestamp answer ∷ past) (inr h) = inr (listed a past h)
listed a (_ ∷ past) (inl h) = absurd h
listed a (_ ∷ past) (inr h) = listed a past h

there : (a : Acceptance) (trace : List Entry) → Has (λ x. x ≡ a) (acceptances trace) → Once (IsAcceptance a) trace
there a [] h = h
there a (Accepted client timestamp answer ∷ past) (inl h) = inl (sym h)
there a (Accepted client timestamp answer ∷ past) (inr h) = inr (there a past h)
there a (_ ∷ past) h = inr (there a past h)

pub reports_all : ReportsAll
reports_all c trace accepted items a report once =
    let P : Acceptance → Type 0 = λ x. x ≡ a in
    let whole : Has P (reverse (reverse (acceptances trace))) = subst (λ (xs : List Acceptance). Has P xs) (sym (reverse-reverse (acceptances trace))) (listed a trace once) in
    subst (λ (xs : List Acceptance). Has P xs) (sym report.accepted_are) (has_reverse P (reverse (acceptances trace)) whole)

pub reports_no_other : ReportsNoOther
reports_no_other c trace accepted items a report has =
    let P : Acceptance → Type 0 = λ x. x ≡ a in
    there a trace (has_reverse P (acceptances trace) (subst (λ (xs : List Acceptance). Has P xs) report.accepted_are has))

-- ---- their order

above : (n : ℕ) (later : List Acceptance) → Each (λ b. suc n ≤ b.position) later → Each (λ b. n < b.position) later
above n [] h = tt
above n (b ∷ later) h = (omega (arith, h.0), above n later h.1)

lower : (n : ℕ) (later : List Acceptance) → Each (λ b. suc n ≤ b.position) later → Each (λ b. n ≤ b.position) later
lower n [] h = tt
lower n (b ∷ later) h = (omega (arith, h.0), lower n later h.1)

-- the trace's acceptances, before later ones
rise : (trace : List Entry) (later : List Acceptance) → PositionsRise later → Each (λ b. length trace ≤ b.position) later → PositionsRise (reverse_aux (acceptances trace) later)
rise [] later h l = h
rise (Accepted client timestamp answer ∷ past) later h l =
    rise past (record { position = length past; client = client; timestamp = timestamp; answer = answer } ∷ later) (above (length past) later l, h) (omega arith, lower (length past) later l)
rise (Invoke client timestamp op ∷ past) later h l = rise past later h (lower (length past) later l)
rise (_ ∷ past) later h l = rise past later h (lower (length past) later l)

pub reports_in_order : ReportsInOrder
reports_in_order c trace accepted items report = subst PositionsRise (sym report.accepted_are) (rise trace [] tt tt)

-- ---- the points, and the first operation

pub reports_are_linear : ReportsAreLinear
reports_are_linear c valid trace accepted items run unforged differ report = rw report.points_are (points_are_linear c valid trace (runs_are_of_lives c trace run) unforged differ)

pub first_operation_is_reported : FirstOperationIsReported
first_operation_is_reported clients seed op batch w accepted items report = (report.accepted_are, λ valid frames. report.points_are ∙ first_operation_has_its_point clients seed op batch w valid frames)
