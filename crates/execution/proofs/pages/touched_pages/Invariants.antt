use Rattle.execution.specs.Running.{state_with}
use Rattle.execution.specs.Touching.{AreRenewed, is_page_touched}
use Rattle.execution.proofs.pages.touched_pages.Given as goal

abbrev pub invariant-loop-index : goal.invariant-loop-index
invariant-loop-index l =
    AreRenewed (state_with l.number.0 l.space.state l.replies.replies) (is_page_touched l.space l.replies) l.pages.items l.index
