-- The lengths of a body's lists and frames fit into the fields that spell them, as in each body that a party may
-- send.
use Rattle.std.specs.Prelude.{◌<◌, ◌^◌, length}
use Rattle.wire_format.specs.Lists.{Each}
use Rattle.wire_format.specs.Messages.{ViewChangeData, NewViewData, MessageData, request, pre_prepare, prepare, commit}
use Rattle.wire_format.specs.Messages.{checkpoint, view_change, new_view, reply, fetch, meta, page}

pub record ViewChangeFits (c : ViewChangeData) : Type 0 where
  pub checkpoints : length c.checkpoints < 2 ^ 8
  pub prepared : length c.prepared < 2 ^ 16
  pub pre_prepared : length c.pre_prepared < 2 ^ 16

pub record NewViewFits (n : NewViewData) : Type 0 where
  pub changes : length n.changes < 2 ^ 8
  pub frames : Each (λ frame. length frame < 2 ^ 32) n.changes
  pub batches : length n.batches < 2 ^ 8

abbrev pub CountsFit : MessageData → Type 0
CountsFit (view_change c) = ViewChangeFits c
CountsFit (new_view n) = NewViewFits n
CountsFit (request timestamp mode operation) = Unit {0}
CountsFit (pre_prepare view number batch) = Unit {0}
CountsFit (prepare view number digest) = Unit {0}
CountsFit (commit view number digest) = Unit {0}
CountsFit (checkpoint number root) = Unit {0}
CountsFit (reply client timestamp kind number outcome) = Unit {0}
CountsFit (fetch number level index) = Unit {0}
CountsFit (meta number level index digests) = Unit {0}
CountsFit (page number index text) = Unit {0}
