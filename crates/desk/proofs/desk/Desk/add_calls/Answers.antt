use Rattle.std.proofs.Common.{◌≡◌, ℕ, ◌+◌, List, Bor, option_map, get_or, refl, sym, ap, ◌∙◌, subst, arith}
use Rattle.wire.specs.Headers.{IsFrame}
use Rattle.wire_format.specs.Lists.{Each}
use Rattle.wire_format.proofs.Appending.{each_at}
use Rattle.execution.specs.Calls.{call_data}
use Rattle.execution.specs.Executed.{ExecutedData}
use Rattle.execution.proofs.Calling.{requests_are_frames}
use Rattle.protocol.specs.System.Configuration.{Configuration}
use Rattle.protocol.specs.Replica.State.{call_of}
use Rattle.desk.specs.State.{DeskData}
use Rattle.desk.specs.declared.waiting.AssignedCall.{AssignedCall}
use Rattle.desk.proofs.AssignedCalls.{CallsLeft, frames_in, call_passed, call_added, calls_end}
use Rattle.desk.proofs.desk.Desk.add_calls.Goals.{in-Some+in_ok-push, in_default}
use Rattle.desk.proofs.desk.Desk.add_calls.Goals as goal

pub loop-frame-init : goal.loop-frame-init
loop-frame-init c = λ k e. refl

pub read_call-requires : goal.read_call-requires
read_call-requires c =
    each_at IsFrame (λ (x : Bor (List ℕ)). x.now) c.as_slice-frame-items.result.now c.loop-frame.frame-index _
    (subst (λ (frames : List (Bor (List ℕ))). Each IsFrame (frames_in frames)) (sym c.as_slice-frame-items.ensures.value)
    (subst (Each IsFrame) (sym c.requests-frames.ensures.frames) (requests_are_frames c.args.text.now (λ i. omega (arith, c.type_inv.text i)))))
    c.loop-frame-test.true

pub loop-frame-preserved : goal.loop-frame-preserved
loop-frame-preserved c =
    let clients = c.args.self.now.executed.clients in
    let frames = c.as_slice-frame-items.result.now in
    let i = c.loop-frame.frame-index in
    let known : c.clients.result ≡ clients = c.clients.ensures.value ∙ ap (λ (e : ExecutedData). e.clients) c.deref.ensures ∙ ap (λ (d : DeskData). d.executed.clients) c.self.view_is in
    let found : (k : Configuration) → k.clients ≡ clients → call_of k (get_or frames i _).now ≡ option_map call_data c.in_ok-call.field-0 = λ k e. c.in_ok-call.ensures.found k (e ∙ sym known) in
    let old = c.args.calls.now.items in
    let new = c.loop-frame.calls.items in
    elim c.match-branch-2.branch [
      | in-Some+in_ok-push w ↦ call_added clients frames old new c.match-branch-2.calls.items i _ w.assigned_call.result (call_data w.in-Some.call) c.loop-frame-test.true
          (λ k e. found k e ∙ ap (option_map call_data) w.in-Some.is) (ap (λ (b : AssignedCall). b.client.number) (sym w.assigned_call.ensures)) (ap (λ (b : AssignedCall). b.timestamp.0) (sym w.assigned_call.ensures))
          (ap (λ v. v.items) w.calls-is ∙ w.in_ok-push.ensures.items) c.loop-frame.invariant
      | in_default w ↦ subst (λ (calls : List AssignedCall). CallsLeft clients frames old calls (i + 1)) (sym (ap (λ v. v.items) w.calls-is))
          (call_passed clients frames old new i _ c.loop-frame-test.true (λ k e. found k e ∙ ap (option_map call_data) w.in_default.is) c.loop-frame.invariant)
    ]

pub returns : goal.returns
returns c =
    let all = c.loop-frame-test.false in
    calls_end c.args.self.now.executed.clients c.as_slice-frame-items.result.now c.args.text.now c.args.calls.now.items c.loop-frame.calls.items c.loop-frame.frame-index (omega (arith, all))
    (ap frames_in c.as_slice-frame-items.ensures.value ∙ c.requests-frames.ensures.frames) c.loop-frame.invariant
