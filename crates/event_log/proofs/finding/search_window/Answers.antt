use Rattle.std.proofs.Common.{◌+◌, List, ℕ, Some, None, length, ◌∙◌, sym, ap, subst, arith}
use Rattle.std.specs.Int.{w64, to_be_bytes}
use Rattle.memchr.specs.Find.{FindsNeedle}
use Rattle.event_log.specs.Finding.{JudgesPlace}
use Rattle.event_log.proofs.Finds.{none_in_window, searched_mark}
use Rattle.event_log.proofs.finding.search_window.Goals as goal

pub returns-in-None-clause-finds : goal.returns-in-None-clause-finds
returns-in-None-clause-finds g c clean long =
    let file = g.D.Disk.seen c.args.disk.now in
    let window = c.deref.ensures.value ∙ c.in_ok-read.ensures.read clean in
    none_in_window c.args.owner file c.args.place _ _
    (omega (arith, c.window_len-size.ensures.within, c.requires.inside, long))
    (λ few. omega (arith, c.window_len-size.ensures.all few, c.requires.inside, long))
    c.passed_len.ensures.many
    (subst (λ (w : List ℕ). FindsNeedle w (to_be_bytes w64 c.args.owner.mark) 0 None) window c.in-None.ensures)

pub returns-in_ok-judged-in-Some-clause-finds : goal.returns-in_ok-judged-in-Some-clause-finds
returns-in_ok-judged-in-Some-clause-finds g c clean long =
    let file = g.D.Disk.seen c.args.disk.now in
    let same = c.read.ensures.seen in
    let window = c.deref.ensures.value ∙ c.in_ok-read.ensures.read (c.judge_place.ensures.clean clean) in
    searched_mark c.args.owner file c.args.place _ c.in-Some.step _ _
    (omega (arith, c.window_len-size.ensures.within, c.requires.inside, long))
    (subst (λ (w : List ℕ). FindsNeedle w (to_be_bytes w64 c.args.owner.mark) 0 (Some c.in-Some.step)) window c.in-Some.ensures)
    (subst (λ (f : List ℕ). JudgesPlace c.args.owner f (c.args.place + c.in-Some.step) c.in_ok-judged-in-Some.judged.0 c.in_ok-judged-in-Some.judged.1) same
    (c.in_ok-judged-in-Some.ensures.judges clean (long ∙ sym (ap length same))))
