use Rattle.std.proofs.Common.{◌≡◌, ◌-◌, ◌<◌, true, subst, sym}
use Rattle.ordering.specs.Log.{LogData, replicas, is_in_marks}
use Rattle.ordering.specs.LogView.{log_data}
use Rattle.ordering.proofs.Keeping.{in_span, vote_kept}
use Rattle.ordering.proofs.log.Log.add_vote.Goals as goal

pub invariant_of-self : goal.invariant_of-self
invariant_of-self c =
    let m : LogData = log_data c.self.inside in
    let within : is_in_marks m c.args.number.0 ≡ true = subst (λ (x : LogData). is_in_marks x c.args.number.0 ≡ true) (sym c.self.view_is) c.requires.number in
    let known : c.args.vote.sender.0 < replicas m = subst (λ (x : LogData). c.args.vote.sender.0 < replicas x) (sym c.self.view_is) c.requires.sender in
    vote_kept c.args.phase m (c.args.number.0 - m.low - 1) c.args.vote c.add_vote_at.new.slots.items (in_span m c.args.number.0 within) c.self.invariant known c.add_vote_at.ensures
