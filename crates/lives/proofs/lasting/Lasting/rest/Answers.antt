use Rattle.std.proofs.Common.{List, map, ap}
use Rattle.event_log.proofs.Stands.{stands_keeps}
use Rattle.lives.specs.Events.{Event, logged}
use Rattle.lives.proofs.lasting.Lasting.rest.Goals as goal

pub returns-then-self-clause-any_moment : goal.returns-then-self-clause-any_moment
returns-then-self-clause-any_moment g c owner synced held file lasts left =
    stands_keeps g.D.Disk.seen g.D.Disk.may_leave owner _ _ (map logged synced) (map logged held) file lasts.log left

pub returns-in_err-rest-clause-any_moment : goal.returns-in_err-rest-clause-any_moment
returns-in_err-rest-clause-any_moment g c owner synced held file lasts left =
    c.rest.ensures.any_moment owner (map logged synced) (map logged held) file lasts.log left

pub returns-clause-any_moment : goal.returns-clause-any_moment
returns-clause-any_moment g c owner synced held file lasts left =
    c.rest.ensures.any_moment owner (map logged synced) (map logged held) file lasts.log left

pub returns-clause-lasts : goal.returns-clause-lasts
returns-clause-lasts g c owner synced held lasts =
    let rested = c.in_ok-rest.ensures.rests owner (map logged synced) (map logged held) lasts.log in (
      record {
        machine = lasts.machine;
        log = rested.0;
        given = lasts.given;
      },
      λ none. rested.1 (ap (λ (l : List Event). map logged l) none),
    )
