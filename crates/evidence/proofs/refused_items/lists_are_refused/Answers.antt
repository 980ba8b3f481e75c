use Rattle.evidence.proofs.RefusingItems
use Rattle.evidence.proofs.refused_items.lists_are_refused.Goals as goal

pub returns : goal.returns
returns c = record {
  answers = RefusingItems.answers_as_one_space;
  accepted = RefusingItems.lists_what_is_accepted;
  called = RefusingItems.lists_what_is_called;
  asked = RefusingItems.lists_what_is_asked;
  none_twice = RefusingItems.lists_none_twice;
  in_order = RefusingItems.places_in_order;
  behind = RefusingItems.places_behind_calls;
  before = RefusingItems.places_before_acceptances;
  linear = RefusingItems.linear_is_all_three;
}
