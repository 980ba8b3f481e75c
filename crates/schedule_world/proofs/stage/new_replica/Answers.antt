use Rattle.std.proofs.Common.{◌≡◌, ap, ◌∙◌, List, ℕ}
use Rattle.authenticator.specs.Keys.{signing_seed}
use Rattle.schedule_world.proofs.FirstStage.{own_public}
use Rattle.schedule_world.proofs.stage.new_replica.Goals as goal

pub new-requires-clause-keys : goal.new-requires-clause-keys
new-requires-clause-keys c =
    let seed : c.from_seed-signer.result.seed ≡ signing_seed c.args.config.now.seed c.args.id.0 =
    ap (λ (s : _). s.seed) c.from_seed-signer.ensures ∙ c.signing_seed.ensures ∙ ap (λ (s : List ℕ). signing_seed s c.args.id.0) c.seed.ensures.value in
    own_public c.args.config.now c.faults.ensures.valid c.in_ok-share.field-0 c.args.id.0 c.from_seed-signer.result.seed
    (c.in_ok-share.ensures ∙ c.requires.keys) seed c.requires.known
