use Rattle.std.proofs.Common.{◌≡◌, ◌++◌, Some, sym, subst, ap, ◌∙◌}
use Rattle.std.proofs.lemmas.Bool.Decides.{Decides-eqb}
use Rattle.std.proofs.lemmas.Slice.Eq.{strip_prefix_is}
use Rattle.sha2.specs.Hashers.{Holds256}
use Rattle.partition_tree.proofs.text.read_on.Goals as goal

pub returns-in-Some : goal.returns-in-Some
returns-in-Some c =
    let whole : c.args.bytes.now ≡ c.as_slice.result.now ++ c.in-Some.rest.now = strip_prefix_is Decides-eqb c.args.bytes.now c.as_slice.result.now (Some c.in-Some.rest) c.in-Some.ensures.cases in
    let read : c.args.bytes.now ≡ c.text.inside.bytes.items ++ c.in-Some.rest.now = whole ∙ ap (λ bs. bs ++ c.in-Some.rest.now) (c.as_slice.ensures ∙ sym c.text.view_is) in
    subst (Holds256 c.update.new.self) (sym read) (c.update.ensures _ (rw c.copy_of-hasher.ensures c.text.invariant))
