-- The plain values that the fields of a transfer stand for.
use Rattle.state_transfer.specs.declared.transfer.Transfer.TheInside.{Inside}
use Rattle.state_transfer.specs.Transfer.{TransferData}

abbrev pub transfer_data : Inside → TransferData
transfer_data t =
    record {
      number = t.number.0;
      root = t.root;
      held = t.held;
      fetched = t.fetched.items;
      part_digests = t.part_digests;
      page_digests = t.page_digests.items;
      asked = t.asked;
    }
