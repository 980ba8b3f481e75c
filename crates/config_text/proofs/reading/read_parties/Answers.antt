use Rattle.std.proofs.Common.{◌≡◌, ◌+◌, ◌*◌, ◌<◌, ◌≤◌, length, sym, ap, ◌∙◌, subst, arith}
use Rattle.std.specs.Prelude.{All}
use Rattle.std.proofs.lemmas.Result.{err_from_is_err_and}
use Rattle.toml.specs.View.{table_view}
use Rattle.config_text.proofs.Once.{same_faults, same_clients, same_replicas}
use Rattle.config_text.proofs.Refusals.{because}
use Rattle.config_text.proofs.reading.read_parties.Goals as goal

pub returns-in_err-seed : goal.returns-in_err-seed
returns-in_err-seed c =
    let p = err_from_is_err_and c.from_residual-in_err-seed.result c.from_residual-in_err-seed.ensures.1 in
    rw (p.1, p.2) (because c.in_err-seed.field-0.0 (λ no d says valid. no d.seed says.seed) (c.in_err-seed.ensures {u = tt}))

pub returns-in_err-period : goal.returns-in_err-period
returns-in_err-period c =
    let p = err_from_is_err_and c.from_residual-in_err-period.result c.from_residual-in_err-period.ensures.1 in
    rw (p.1, p.2) (because c.in_err-period.field-0.0 (λ no d says valid. no d.period says.period (valid.period, valid.period_most)) (c.in_err-period.ensures {u = tt}))

pub returns-in_err-faulty_replicas : goal.returns-in_err-faulty_replicas
returns-in_err-faulty_replicas c =
    let p = err_from_is_err_and c.from_residual-in_err-faulty_replicas.result c.from_residual-in_err-faulty_replicas.ensures.1 in
    rw (p.1, p.2) (because c.in_err-faulty_replicas.field-0.0
    (λ no d says valid.
    let same : c.from.result ≡ d.faults = c.from.ensures ∙ same_faults (table_view c.args.table.now) c.in_ok-faults.field-0 d (c.in_ok-faults.ensures {u = tt}).0 says in
    no d.faulty_replicas says.replicas (subst (λ n. All (λ r. r < 3 * n + 1) d.faulty_replicas) (sym same) valid.replicas_are, valid.replicas_differ))
    (c.in_err-faulty_replicas.ensures {u = tt}))

pub returns-then-len-from : goal.returns-then-len-from
returns-then-len-from c d says valid =
    let same : c.from-2.result ≡ d.faults = c.from-2.ensures ∙ same_faults (table_view c.args.table.now) c.in_ok-faults.field-0 d (c.in_ok-faults.ensures {u = tt}).0 says in
    let list = same_replicas (table_view c.args.table.now) c.in_ok-faulty_replicas.faulty_replicas.items d (c.in_ok-faulty_replicas.ensures {u = tt}).0 says in
    omega (arith, same, ap length list, valid.few, c.if-len-from.true, c.len.ensures, c.in_ok-faulty_replicas.faulty_replicas.ok)

pub returns-in_err-faulty_clients : goal.returns-in_err-faulty_clients
returns-in_err-faulty_clients c =
    let p = err_from_is_err_and c.from_residual-in_err-faulty_clients.result c.from_residual-in_err-faulty_clients.ensures.1 in
    rw (p.1, p.2) (because c.in_err-faulty_clients.field-0.0
    (λ no d says valid.
    let same = same_clients (table_view c.args.table.now) c.in_ok-clients.field-0 d (c.in_ok-clients.ensures {u = tt}).0 says in
    no d.faulty_clients says.clients_named (subst (λ n. All (λ k. k < n) d.faulty_clients) (sym same) valid.clients_are, valid.clients_differ))
    (c.in_err-faulty_clients.ensures {u = tt}))
