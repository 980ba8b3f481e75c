-- What a replica waits for.
use Rattle.std.specs.Prelude.{Bool, ◌||◌, Option, is_some, option_map}
use Rattle.std.specs.Option.{option_or}
use Rattle.patience.specs.declared.standing.Standing.{Standing}
use Rattle.patience.specs.declared.standing.Wait.{Wait}
use Rattle.patience.specs.declared.standing.Wait.TheVariants.{View, Part, Request}

-- A replica that is inactive waits for the view that it aims at. Else it waits for the part that its transfer awaits, or
-- else for the request that has waited longest, if there is one.
abbrev pub wait_of : Standing → Option Wait
wait_of s = option_or (option_map (λ v. View v) s.view)
    (option_or (option_map (λ x. Part x.0 x.1) s.part) (option_map (λ x. Request x.0 x.1) s.request))

-- At a timeout it may sign a view change if it is inactive or a request waits.
abbrev pub may_sign : Standing → Bool
may_sign s = is_some s.view || is_some s.request
