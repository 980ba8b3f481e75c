use Rattle.std.proofs.Common.{◌++◌, List, sym, subst}
use Rattle.std.proofs.lemmas.List.{append-nil}
use Rattle.lives.specs.Events.{Event}
use Rattle.lives.proofs.lasting.Lasting.resume.Goals as goal

pub returns-in-Ok-clause-plays : goal.returns-in-Ok-clause-plays
returns-in-Ok-clause-plays g c clean =
    let all = c.in-Ok.ensures.plays clean in
    record {
      front = all.front;
      last = all.last;
      reads = all.reads;
      group = all.group;
      lasts = record {
        machine = subst (λ (h : List Event). g.M.Machine.fits c.play.new.machine h) (sym (append-nil (all.front ++ all.last))) all.fitted;
        log = all.stands;
        given = c.new.ensures.items;
      };
      given = all.is_given;
    }
