use Rattle.std.proofs.Common.{◌≡◌, ◌∙◌, ap, sym, arith, subst, ℕ, List}
use Rattle.wire_format.specs.Spelling.{IsBatch}
use Rattle.wire_format.specs.Words.{requests_of}
use Rattle.signing.specs.Publics.{knows}
use Rattle.frame_endpoint.specs.Endpoint.{are_authentic}
use Rattle.frame_endpoint.specs.Frames.{slice_texts}
use Rattle.frame_endpoint.proofs.endpoint.Endpoint.are_genuine.Goals as goal

pub split_batch-frames-requires : goal.split_batch-frames-requires
split_batch-frames-requires c =
    let batch = subst (IsBatch 1) (sym c.deref.ensures.value) c.requires in
    record { requests = batch.requests; whole = batch.whole; enough = omega arith; few = batch.few; each = batch.each }

pub returns-clause-genuine : goal.returns-clause-genuine
returns-clause-genuine c =
    let e : slice_texts c.as_slice.result.now ≡ requests_of c.args.batch.now.text.items = ap slice_texts c.as_slice.ensures.value ∙ c.split_batch-frames.ensures ∙ ap requests_of c.deref.ensures.value in
    rw (← c.self.view_is)
    (subst (λ (xs : List (List ℕ)). c.are_all_authentic.result ≡ are_authentic (knows c.self.inside.ring c.self.inside.publics) c.self.inside.me.0 xs) e c.are_all_authentic.ensures.authentic)
