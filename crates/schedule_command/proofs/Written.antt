-- Lines that are written one after another.
use Rattle.std.proofs.Common.{◌≡◌, ℕ, zero, suc, ◌+◌, ◌<◌, ◌≤◌, List, [], ◌∷◌, ◌++◌, Option, Result, Ok, Err, MatchResult, OnOk, IfErr, length, take, get_or, sym, ap, subst, ◌∙◌, arith, append_assoc, append-nil}
use Rattle.std.proofs.lemmas.List.{take_all}
use Rattle.std.proofs.KnownBytes.{Appends-nil, Appends-trans}
use Rattle.std.specs.Io.KnownBytes.{Appends}
use Rattle.one_space.specs.Endings.{FrontIsWritten}
use Rattle.protocol.specs.System.Trace.{Entry}
use Rattle.command_line.specs.declared.Printed.{Printed}
use Rattle.schedule_world.specs.declared.report.Report.{Report}
use Rattle.schedule_command.specs.Texts.{numbered_line, numbered_lines}
use Rattle.schedule_command.specs.Writing.{FailsToWrite, IsOutputFault, IsTextOf}
use Rattle.schedule_command.specs.declared.fault.ScheduleFault.{ScheduleFault}
use Rattle.schedule_command.specs.declared.fault.ScheduleFault.TheVariants as faults

-- nothing is written, and the text is held
pub held_on : (known : Option (List ℕ)) (held text left : List ℕ) → left ≡ held ++ text → FrontIsWritten known known (held ++ text) left
held_on known held text left e = record { gone = []; wrote = Appends-nil known; split = e }

-- all is written, and nothing is held
pub written_out : (old new : Option (List ℕ)) (held text bytes left : List ℕ) → bytes ≡ held ++ text → Appends old new bytes → left ≡ []
    → FrontIsWritten old new (held ++ text) left
written_out old new held text bytes left e wrote none = record {
  gone = bytes;
  wrote = wrote;
  split = ap (λ l. bytes ++ l) none ∙ append-nil bytes ∙ e;
}

-- one text after another
pub writes_more : (first mid last : Option (List ℕ)) (held a b between left : List ℕ) → FrontIsWritten first mid (held ++ a) between → FrontIsWritten mid last (between ++ b) left
    → FrontIsWritten first last (held ++ (a ++ b)) left
writes_more first mid last held a b between left x y = record {
  gone = x.gone ++ y.gone;
  wrote = Appends-trans first mid last x.gone y.gone x.wrote y.wrote;
  split = append_assoc x.gone y.gone left ∙ ap (λ l. x.gone ++ l) y.split ∙ sym (append_assoc x.gone between b) ∙ ap (λ l. l ++ b) x.split ∙ append_assoc held a b;
}

-- more is held behind it
pub held_more : (first mid : Option (List ℕ)) (bytes between more after : List ℕ) → FrontIsWritten first mid bytes between → after ≡ between ++ more
    → FrontIsWritten first mid (bytes ++ more) after
held_more first mid bytes between more after x e = record {
  gone = x.gone;
  wrote = x.wrote;
  split = ap (λ l. x.gone ++ l) e ∙ sym (append_assoc x.gone between more) ∙ ap (λ l. l ++ more) x.split;
}

output_fails : (fault : ScheduleFault) (old new : Option (List ℕ)) → IsOutputFault fault → FailsToWrite fault old new
output_fails faults.NoMemory old new h = tt
output_fails (faults.Write error) old new h = tt
output_fails (faults.Step line reason) old new h = absurd h
output_fails (faults.Configuration fault) old new h = absurd h
output_fails (faults.NoEntry entries) old new h = absurd h
output_fails (faults.TooHigh entries from to) old new h = absurd h
output_fails (faults.TooWide parties most) old new h = absurd h
output_fails (faults.Read error) old new h = absurd h

-- the text that was asked for, once all that is held is written
pub printed_out : (asked : Printed) (report : Report) (result : Result (Unit {0}) ScheduleFault) (first mid last : Option (List ℕ)) (held whole : List ℕ)
    → FrontIsWritten first mid whole held → IsTextOf asked report whole → OnOk result (Appends mid last held) → IfErr result IsOutputFault
    → MatchResult result (λ _. (text : List ℕ) × IsTextOf asked report text × Appends first last text) (λ fault. FailsToWrite fault first last)
printed_out asked report (Ok u) first mid last held whole x text wrote fails =
    (whole, text, subst (Appends first last) x.split (Appends-trans first mid last x.gone held x.wrote wrote))
printed_out asked report (Err fault) first mid last held whole x text wrote fails = output_fails fault first last fails

lines_from : (p : ℕ) (entries : List Entry) (i : ℕ) (d : Entry) → i < length entries
    → numbered_lines p (take (suc i) entries) ≡ numbered_lines p (take i entries) ++ numbered_line (p + i) (get_or entries i d)
lines_from p [] i d below = absurd (omega arith)
lines_from p (e ∷ entries) zero d below = append-nil (numbered_line p e) ∙ ap (λ n. numbered_line n e) (omega arith)
lines_from p (e ∷ entries) (suc i) d below =
    ap (λ l. numbered_line p e ++ l) (lines_from (p + 1) entries i d (omega arith) ∙ ap (λ n. numbered_lines (p + 1) (take i entries) ++ numbered_line n (get_or entries i d)) (omega arith))
    ∙ sym (append_assoc (numbered_line p e) (numbered_lines (p + 1) (take i entries)) (numbered_line (p + suc i) (get_or entries i d)))

-- the lines of one more entry
pub one_line_more : (entries : List Entry) (i : ℕ) (d : Entry) → i < length entries
    → numbered_lines 0 (take (i + 1) entries) ≡ numbered_lines 0 (take i entries) ++ numbered_line i (get_or entries i d)
one_line_more entries i d below =
    let next : i + 1 ≡ suc i = omega arith in
    let place : 0 + i ≡ i = omega arith in
    ap (λ n. numbered_lines 0 (take n entries)) next ∙ lines_from 0 entries i d below ∙ ap (λ n. numbered_lines 0 (take i entries) ++ numbered_line n (get_or entries i d)) place

pub all_lines : (entries : List Entry) (i : ℕ) → length entries ≤ i → numbered_lines 0 (take i entries) ≡ numbered_lines 0 entries
all_lines entries i past = ap (numbered_lines 0) (take_all i entries past)
