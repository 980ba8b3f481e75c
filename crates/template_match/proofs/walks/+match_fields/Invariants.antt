use Rattle.std.proofs.Common.{◌≡◌, ◌+◌, ◌-◌, ◌*◌}
use Rattle.template_match.specs.Walks.{behind_both}
use Rattle.template_match.proofs.walks.+match_fields.Given as goal

-- The walk goes on with the fields and values that are left.
abbrev pub invariant-match_fields-loop-i : goal.invariant-match_fields-loop-i
invariant-match_fields-loop-i l = behind_both l.levels (l.count - l._i) l.open l.rest ≡ behind_both l.levels l.count l.fields l.values

abbrev pub decreases-match_fields : goal.decreases-match_fields
decreases-match_fields l = 3 * l.levels + 2

abbrev pub decreases-match_field : goal.decreases-match_field
decreases-match_field l = 3 * l.levels + 1

abbrev pub decreases-match_nested : goal.decreases-match_nested
decreases-match_nested l = 3 * l.levels
