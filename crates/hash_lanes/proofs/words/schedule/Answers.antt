use Rattle.std.proofs.Common.{rules, sym, ◌∙◌, arith}
use Rattle.sha2.specs.Sha256.{schedule}
use Rattle.sha2.proofs.Schedule256.{slice_index-schedule_first, slice_index-schedule_next}
use Rattle.hash_lanes.proofs.Scheduling.{one_more, seen}
use Rattle.hash_lanes.proofs.words.schedule.Goals as goal

pub loop-i-preserved : goal.loop-i-preserved
loop-i-preserved c = record {
  long = search rules;
  held = one_more _ (schedule c.args.block.now 48) _ _ (omega (arith, c.loop-i.invariant.long)) c.loop-i.invariant.held
      (c.word.ensures ∙ sym (slice_index-schedule_first c.args.block.now 48 c.loop-i.i (omega arith)));
}

pub loop-t-preserved : goal.loop-t-preserved
loop-t-preserved c = record {
  long = search rules;
  held = one_more _ (schedule c.args.block.now 48) _ _ (omega (arith, c.loop-t.invariant.long)) c.loop-t.invariant.held
      (c.next_word.ensures ∙ seen _ (schedule c.args.block.now 48) c.loop-t.t (omega arith) c.loop-t.invariant.held
      ∙ sym (slice_index-schedule_next c.args.block.now 48 c.loop-t.t (omega arith) (omega arith)));
}
