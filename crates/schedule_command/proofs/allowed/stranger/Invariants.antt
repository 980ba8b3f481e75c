use Rattle.std.proofs.Common.{◌≡◌, true, take}
use Rattle.std.specs.List.{list_all}
use Rattle.terms.specs.Parties.{party_number}
use Rattle.protocol.specs.System.Schedule.{is_party}
use Rattle.schedule_command.proofs.allowed.stranger.Given as goal

-- the configuration has each party that was looked at
abbrev pub invariant-loop-party : goal.invariant-loop-party
invariant-loop-party l = list_all (λ p. is_party l.config (party_number p)) (take l.party-index l.parties) ≡ true
