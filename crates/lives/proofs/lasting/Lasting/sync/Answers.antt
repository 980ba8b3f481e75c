use Rattle.std.proofs.Common.{◌∙◌, ◌++◌, List, map, sym, ap, subst}
use Rattle.std.proofs.lemmas.List.{append-nil}
use Rattle.event_log.proofs.Stands.{stands_keeps}
use Rattle.lives.specs.Events.{Event, logged}
use Rattle.lives.proofs.Lasts.{log_synced}
use Rattle.lives.proofs.lasting.Lasting.sync.Goals as goal

pub returns-then-self-clause-any_moment : goal.returns-then-self-clause-any_moment
returns-then-self-clause-any_moment g c owner synced held file lasts left =
    stands_keeps g.D.Disk.seen g.D.Disk.may_leave owner _ _ (map logged synced) (map logged held) file lasts.log left

pub returns-in_err-sync-clause-any_moment : goal.returns-in_err-sync-clause-any_moment
returns-in_err-sync-clause-any_moment g c owner synced held file lasts left =
    c.sync.ensures.any_moment owner (map logged synced) (map logged held) file lasts.log left

pub returns-clause-any_moment : goal.returns-clause-any_moment
returns-clause-any_moment g c owner synced held file lasts left =
    c.sync.ensures.any_moment owner (map logged synced) (map logged held) file lasts.log left

pub returns-clause-gives : goal.returns-clause-gives
returns-clause-gives g c owner synced held lasts = (
  record {
    machine = subst (λ (h : List Event). g.M.Machine.fits c.args.self.now.machine h) (sym (append-nil (synced ++ held))) lasts.machine;
    log = log_synced g.D.Disk.seen g.D.Disk.may_leave owner _ _ synced held (c.in_ok-sync.ensures.syncs owner (map logged synced) (map logged held) lasts.log);
    given = ap (λ v. v.items) c.replace.ensures.after ∙ c.new.ensures.items;
  },
  ap (λ v. v.items) c.replace.ensures.value ∙ lasts.given,
)
