use Rattle.std.proofs.Common.{rules, ◌≡◌, arith, sym, ◌∙◌}
use Rattle.std.proofs.lemmas.List.{take_all}
use Rattle.std.proofs.lemmas.Slice.{overwrites}
use Rattle.sha2.specs.Sha256.{digest_bytes}
use Rattle.sha2.proofs.Absorbing256.{digest_more}
use Rattle.hash_lanes.proofs.midstate.digest.Goals as goal

pub each-init : goal.each-init
unfolding digest_bytes
each-init c = search rules

pub each-preserved : goal.each-preserved
each-preserved c = record {
  long = search (rules, overwrites);
  held = digest_more c.each.bytes c.args.words.now _ c.each.i _ c.each.invariant.held (omega arith) (c.copy_from_slice.ensures.after ∙ c.to_be_bytes.ensures);
}

pub returns : goal.returns
returns c =
    let done : c.each.i ≡ 8 = omega arith in
    sym (take_all 32 c.each.bytes (omega arith)) ∙ rw done at c.each.invariant.held
