-- Models of the program's types: a set of view changes, the sizes of a configuration, and batches.
use Rattle.std.specs.Prelude.{ℕ, Bool, true, ◌&&◌, not, List, [], map, nat_lt, nat_le, ◌==◌, bytes_eq, Option, Some, Vec}
use Rattle.std.specs.Arc.{arc_value}
use Rattle.std.specs.List.{list_all, list_any}
use Rattle.std.specs.declared.alloc.Global.{Global}
use Rattle.std.specs.declared.sync.Arc.{Arc}
use Rattle.protocol.specs.System.Configuration.{Configuration}
use Rattle.protocol.specs.Replica.Selection.{agrees, vouches, signed_change}
use Rattle.wire_format.specs.Messages.{ViewChangeData}
use Rattle.wire_format.specs.Views.{view_change_data}
use Rattle.view_change.specs.declared.changes.Sizes.{Sizes}
use Rattle.view_change.specs.declared.changes.Change.{Change}
use Rattle.view_change.specs.declared.changes.Rule.{Rule}
use Rattle.view_change.specs.declared.changes.Rule.TheVariants as rules

-- a configuration of these sizes, with these public keys; the rules use nothing else of a configuration
abbrev pub keyed : List (List ℕ) → Sizes → Configuration
keyed publics s =
    record {
      faults = s.faults;
      clients = 1;
      seed = [];
      publics = publics;
      period = s.period;
      faulty_replicas = [];
      faulty_clients = [];
    }

-- where no key matters
abbrev pub sized : Sizes → Configuration
sized s = keyed [] s

-- a view change with its sender
abbrev pub change_pair : Change → ℕ × ViewChangeData
change_pair x = (x.sender.0, view_change_data x.change)

abbrev pub changes_by_sender : List Change → List (ℕ × ViewChangeData)
changes_by_sender xs = map change_pair xs

-- the test of a view change that a rule makes
abbrev pub test_of : Rule → ViewChangeData → Bool
test_of rules.Any vc = true
test_of (rules.LowAtMost start) vc = nat_le vc.low start.0
test_of (rules.Lists number digest) vc =
    list_any (λ checkpoint. (checkpoint.number == number.0) && bytes_eq checkpoint.digest digest) vc.checkpoints
test_of (rules.Agrees number view digest) vc = nat_lt vc.low number.0 && agrees number.0 view digest vc
test_of (rules.Vouches number view digest) vc = vouches number.0 view digest vc
test_of (rules.Nothing number) vc =
    nat_lt vc.low number.0 && list_all (λ batch_entry. not (batch_entry.number == number.0)) vc.prepared

-- the texts of batches
abbrev pub texts_of : List (Arc (List ℕ) Global) → List (List ℕ)
texts_of batches = map arc_value batches

-- the frames that a new view carries, each as a signed view change or none
abbrev pub signed_changes : Configuration → List (Vec ℕ Global) → List (Option (ℕ × ViewChangeData))
signed_changes c frames = map (signed_change c) (map (λ frame. frame.items) frames)

-- each of these, as it is
abbrev pub all_present : List (ℕ × ViewChangeData) → List (Option (ℕ × ViewChangeData))
all_present xs = map Some xs
