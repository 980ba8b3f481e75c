-- What the result of adding an item says of the longer list.
use Rattle.std.specs.Prelude.{Result, MatchResult}
use Rattle.tuple_tree.specs.Limits.{RefusesItems}
use Rattle.tuple_tree.specs.Values.{TupleTree, TemplateTree, datum_length, slot_length, IsTuple, IsTemplate}
use Rattle.tuple_tree.specs.declared.limits.Refusal.{Refusal}
use Rattle.tuple_tree.specs.declared.limits.Refused.{Refused}

-- If the item was added, the list is within the limits. Otherwise the refusal names the first limit that the longer
-- list would pass, or memory if it would pass none.
abbrev pub JudgesTuple : {U T : Type 0} → Result U (Refused T) → TupleTree → TupleTree → Type 0
JudgesTuple result new longer = MatchResult result (λ _. IsTuple new) (λ e. RefusesItems datum_length e.refusal longer)

abbrev pub JudgesTemplate : {U T : Type 0} → Result U (Refused T) → TemplateTree → TemplateTree → Type 0
JudgesTemplate result new longer = MatchResult result (λ _. IsTemplate new)
    (λ e. RefusesItems slot_length e.refusal longer)

-- the same of the refusal alone
abbrev pub AddsValue : {U : Type 0} → Result U Refusal → TupleTree → TupleTree → Type 0
AddsValue result new longer = MatchResult result (λ _. IsTuple new)
    (λ refusal. RefusesItems datum_length refusal longer)

abbrev pub AddsField : {U : Type 0} → Result U Refusal → TemplateTree → TemplateTree → Type 0
AddsField result new longer = MatchResult result (λ _. IsTemplate new)
    (λ refusal. RefusesItems slot_length refusal longer)
