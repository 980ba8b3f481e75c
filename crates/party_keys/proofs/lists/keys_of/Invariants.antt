use Rattle.std.proofs.Common.{take}
use Rattle.std.specs.Prelude.{All}
use Rattle.toml.specs.View.{items_view}
use Rattle.party_keys.specs.PartyData.{AreKeys}
use Rattle.party_keys.specs.Reading.{AreKeyTexts}
use Rattle.party_keys.proofs.lists.keys_of.Given as goal

abbrev pub invariant-loop-index : goal.invariant-loop-index
invariant-loop-index l = AreKeyTexts (items_view (take l.index l.items)) l.keys.items × AreKeys l.index l.keys.items
