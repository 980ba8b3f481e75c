use Rattle.std.proofs.Common.{◌≡◌, ◌+◌, true, refl, sym, ap, ◌∙◌, subst}
use Rattle.tuple_codec.specs.OperationView.{operation_of}
use Rattle.protocol.specs.System.Configuration.{is_correct_client}
use Rattle.schedule_world.specs.Moving.{CallComes}
use Rattle.schedule_world.proofs.Taking.{leads_call, call_may, call_may_not, client_may_not}
use Rattle.schedule_world.proofs.running.call.Goals as goal
use Rattle.schedule_world.proofs.running.call.Goals.{then-not-is_correct_client-via-then-not-is_correct_client, then-not-is_correct_client-via-else-not-is_correct_client+then-is_open}

pub returns-then-not-is_correct_client-clause-takes : goal.returns-then-not-is_correct_client-clause-takes
returns-then-not-is_correct_client-clause-takes c =
    let right = ap (is_correct_client c.args.config.now) (sym c.number.ensures) ∙ sym c.is_correct_client.ensures.value in
    elim c.then-not-is_correct_client.branch [
      | then-not-is_correct_client-via-then-not-is_correct_client w ↦
          (refl, λ v st. client_may_not c.args.config.now c.args.client.number (operation_of c.args.op.now) (right ∙ w.if-not-is_correct_client.true) v)
      | then-not-is_correct_client-via-else-not-is_correct_client+then-is_open w ↦ (
        refl,
        call_may_not c.args.config.now c.args.stage.now c.args.client.number (operation_of c.args.op.now) c.requires.placed (right ∙ w.if-not-is_correct_client.false)
            (λ d. sym w.if-is_open.true ∙ w.is_open.ensures.value d),
      )
    ]

pub returns-clause-takes : goal.returns-clause-takes
returns-clause-takes c =
    let correct : is_correct_client c.args.config.now (256 + c.args.client.number) ≡ true =
    ap (is_correct_client c.args.config.now) (sym c.number.ensures) ∙ sym c.is_correct_client.ensures.value ∙ c.if-not-is_correct_client.false in
    leads_call c.args.config.now c.args.stage.now c.call.new.self c.args.client.number (operation_of c.args.op.now)
    (call_may c.args.config.now c.args.stage.now c.args.client.number (operation_of c.args.op.now) c.requires.placed correct (λ d. sym c.if-is_open.false ∙ c.is_open.ensures.value d) c.note_valid.ensures)
    (subst (λ o. CallComes c.args.config.now c.args.client.number o c.args.stage.now c.call.new.self) c.in_ok-copy.ensures c.in_ok-call.ensures.comes)
