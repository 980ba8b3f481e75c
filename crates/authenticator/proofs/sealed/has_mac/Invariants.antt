use Rattle.std.proofs.Common.{◌≡◌, drop}
use Rattle.authenticator.specs.Authentic.{has_mac}
use Rattle.authenticator.proofs.sealed.has_mac.Given as goal

-- none of the entries before is this MAC
abbrev pub invariant-loop-i : goal.invariant-loop-i
invariant-loop-i l = has_mac l.party l.mac l.entries ≡ has_mac l.party l.mac (drop l.i l.entries)
