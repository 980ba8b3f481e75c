use Rattle.std.proofs.Common.{length, ap, ◌∙◌}
use Rattle.std.proofs.lemmas.Bool.{both_ways, eq-eqb}
use Rattle.schedule_text.proofs.Pieces.{next_word}
use Rattle.schedule_text.proofs.words.Words.next.Goals as goal

pub returns : goal.returns
returns c =
    next_word c.args.self.now.rest.now c.pass_blanks.new.self.rest.now c.split_at.result.0.now c.split_at.result.1.now c.pass_blanks-2.new.self.rest.now c.len_before.result
    c.pass_blanks.ensures (λ e. both_ways c.is_empty.result c.if-is_empty.false (c.is_empty.ensures ∙ eq-eqb (length c.pass_blanks.new.self.rest.now) 0 (ap length e)))
    c.len_before.ensures.within c.len_before.ensures.before c.len_before.ensures.found
    c.split_at.ensures.front c.split_at.ensures.back c.pass_blanks-2.ensures
