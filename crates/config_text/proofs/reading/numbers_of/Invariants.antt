use Rattle.std.proofs.Common.{take}
use Rattle.toml.specs.View.{items_view}
use Rattle.config_text.specs.Reading.{AreNumbers}
use Rattle.config_text.specs.Judging.{AreParties}
use Rattle.config_text.proofs.reading.numbers_of.Given as goal

abbrev pub invariant-loop-item : goal.invariant-loop-item
invariant-loop-item l = AreNumbers (items_view (take l.item-index l.items)) l.numbers.items × AreParties l.parties l.numbers.items
