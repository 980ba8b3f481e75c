use Rattle.std.proofs.Common.{◌≡◌, not, rules, tests}
use Rattle.std.specs.List.{list_any}
use Rattle.std.proofs.lemmas.Iterator.{YieldsList-from_slice}
use Rattle.std.proofs.lemmas.Iterator.Search.{any_from_yields_List}
use Rattle.desk.proofs.WaitingKept.{some_unnumbered, none_unnumbered}
use Rattle.desk.proofs.waiting.Waiting.has_unnumbered.Goals as goal

found : (c : goal.After-any) → c.any.result ≡ list_any (λ r. not r.numbered) c.args.self.now.requests
found c = any_from_yields_List (λ r. not r.numbered) _ _ _ c.any.ensures.ran (YieldsList-from_slice c.args.self.now.requests cc) (λ x b q k. search (rules, tests))

pub returns-clause-some : goal.returns-clause-some
returns-clause-some c = λ e. some_unnumbered c.args.self.now c.any.result (found c) (search (rules, tests, e))

pub returns-clause-none : goal.returns-clause-none
returns-clause-none c = λ e. none_unnumbered c.args.self.now c.any.result (found c) (search (rules, tests, e))
