use Rattle.client_process.proofs.Stepping.{links_taken}
use Rattle.client_process.proofs.process.Process.take.Goals as goal

pub returns-in-Came-clause-takes : goal.returns-in-Came-clause-takes
returns-in-Came-clause-takes g c = rw c.in-Came.is c.take_frame.ensures.takes

pub returns-in_ok-end_timer-in-TimerOver-clause-takes : goal.returns-in_ok-end_timer-in-TimerOver-clause-takes
returns-in_ok-end_timer-in-TimerOver-clause-takes g c = rw c.in-TimerOver.is (c.in_ok-end_timer-in-TimerOver.ensures {u = tt}).takes

pub returns-in-Linked-clause-takes : goal.returns-in-Linked-clause-takes
returns-in-Linked-clause-takes g c =
    rw c.in-Linked.is (links_taken g.C.Caller.me g.C.Caller.fits g.met.C.Caller.is_right c.args.self.now c.in-Linked.field-0)
