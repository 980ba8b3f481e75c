use Rattle.std.proofs.Common.{◌≡◌, ◌++◌, drop}
use Rattle.run_command.specs.Results.{results_text}
use Rattle.run_command.proofs.running.results_of.Given as goal

-- with the lines that are left it is the whole text
abbrev pub invariant-loop-answer : goal.invariant-loop-answer
invariant-loop-answer l = l.text.items ++ results_text (drop l.answer-index l.answers) ≡ results_text l.answers
