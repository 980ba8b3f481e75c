use Rattle.std.proofs.Common.{rules}
use Rattle.replica.proofs.Answering.{fetch_within}
use Rattle.replica.proofs.Beginning.{other_dropped}
use Rattle.orderer.proofs.Batches.{heard_batch, heard_batches, heard_digests}
use Rattle.replica.proofs.both_parts.BothParts.on_replica.Goals as goal

pub on_fetch-requires-clause-place : goal.on_fetch-requires-clause-place
on_fetch-requires-clause-place c =
    fetch_within c.args.self.now.orderer.endpoint.membership c.args.self.now.orderer.endpoint.me c.args.frame.now c.args.sender.0 c.args.message c.in-Fetch.message c.requires.authentic c.in-Fetch.is

pub returns : goal.returns
returns c = record {
  ok = rw c.requires.first
      (other_dropped _ c.args.sender c.args.message c.are_one.ensures c.note_replica.ensures (
        c.in_default.not-PrePrepare,
        c.in_default.not-Prepare,
        c.in_default.not-Commit,
        c.in_default.not-Checkpoint,
        c.in_default.not-Fetch,
        c.in_default.not-ViewChange,
        c.in_default.not-NewView,
        c.in_default.not-Meta,
        c.in_default.not-Page,
      ) c.args.frame.now c.requires.authentic);
  party = search rules;
}

pub on_pre_prepare-requires : goal.on_pre_prepare-requires
on_pre_prepare-requires c = record {
  batch = heard_batch c.args.self.now.orderer.endpoint.membership c.args.self.now.orderer.endpoint.me c.args.sender.0 c.args.frame.now c.args.message c.in-PrePrepare.message c.requires.authentic c.in-PrePrepare.is;
}

pub on_new_view-requires-clause-batches : goal.on_new_view-requires-clause-batches
on_new_view-requires-clause-batches c =
    heard_batches c.args.self.now.orderer.endpoint.membership c.args.self.now.orderer.endpoint.me c.args.sender.0 c.args.frame.now c.args.message c.in-NewView.message c.requires.authentic c.in-NewView.is

pub on_meta-requires-clause-said : goal.on_meta-requires-clause-said
on_meta-requires-clause-said c =
    heard_digests c.args.self.now.orderer.endpoint.membership c.args.self.now.orderer.endpoint.me c.args.sender.0 c.args.frame.now c.args.message c.in-Meta.message c.requires.authentic c.in-Meta.is
