use Rattle.std.proofs.Common.{rules, ◌≡◌, ◌++◌, ◌∷◌, [], subst, sym}
use Rattle.std.proofs.lemmas.List.Elements.{All-push, All-same}
use Rattle.space_node.specs.PartyStates.{IsNew}
use Rattle.space_node.proofs.NewHandles.{handle_more}
use Rattle.space_node.proofs.cluster.new_handles.Goals as goal

pub loop-end-preserved : goal.loop-end-preserved
loop-end-preserved g c =
    let more : c.push.new.self.items ≡ c.loop-end.handles.items ++ c.new.result ∷ [] = search rules in (
      All-same IsNew c.push.new.self.items _ more
          (All-push IsNew c.loop-end.handles.items c.new.result c.loop-end.invariant.0 (subst IsNew (sym c.new.ensures) c.in-Some.end.is_new)),
      handle_more (λ e. e.state) c.loop-end.yielded c.in-Some.end c.loop-end.handles.items c.push.new.self.items c.new.result more c.new.ensures c.loop-end.invariant.1,
    )
