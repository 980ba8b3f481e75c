use Rattle.std.proofs.Common.{ap, ◌∙◌, true, false, Bool, List, get_or}
use Rattle.std.proofs.lemmas.List.{set-get_or, set-set}
use Rattle.state_transfer.proofs.laws.putting_back_restores.Goals as goal

pub returns : goal.returns
returns c = λ t page text.
    let mark = get_or t.fetched page false in
    ap (λ (fetched : List Bool). record t { fetched = fetched }) (set-set t.fetched page true mark ∙ set-get_or t.fetched page false)
