use Rattle.std.proofs.lemmas.List.Elements.{Contains-append_left, Contains-append_right}
use Rattle.std.proofs.lemmas.Result.{err_from_is_err_and}
use Rattle.authenticator.specs.Dealing.{all_clients, all_replicas}
use Rattle.keys_command.proofs.Filed.{deals, leaves}
use Rattle.keys_command.proofs.writing.write_keys.Goals as goal

pub returns-in_err-refuse_clients : goal.returns-in_err-refuse_clients
returns-in_err-refuse_clients g c =
    let e = err_from_is_err_and c.from_residual-in_err-refuse_clients.result c.from_residual-in_err-refuse_clients.ensures.1 in
    let config = c.args.config.now in
    rw (e.1, e.2) (leaves config (all_clients config.clients) (g.F.Folder.files c.args.folder.now) c.in_err-refuse_clients.field-0.0
    (λ x h. Contains-append_right (all_replicas config.faults) (all_clients config.clients) x h) (c.in_err-refuse_clients.ensures {u = tt}))

pub returns : goal.returns
returns g c =
    deals c.args.config.now (g.F.Folder.files c.args.folder.now) (g.F.Folder.files c.put_replicas.new.folder) (g.F.Folder.files c.put_clients.new.folder) c.put_clients.result
    (c.in_ok-refuse_replicas.ensures {u = tt}) (c.in_ok-refuse_clients.ensures {u = tt}) (c.in_ok-put_replicas.ensures {u = tt}) c.put_clients.ensures
