use Rattle.std.proofs.Common.{sym}
use Rattle.authenticator.specs.Dealing.{all_clients, clients_of, other_replicas}
use Rattle.authenticator.proofs.Dealing.{keys_with-append}
use Rattle.authenticator.proofs.row.deal_by.Goals as goal

pub returns : goal.returns
returns c =
    let seed = c.args.seed.now in
    let me = c.args.me in
    rw (c.in_ok-push_clients.ensures, c.in_ok-push_replicas.ensures, c.clients_of-clients.ensures, c.new-keys.ensures.items)
    (sym (keys_with-append seed me (other_replicas c.args.faults me) (all_clients (clients_of me c.args.clients))))
