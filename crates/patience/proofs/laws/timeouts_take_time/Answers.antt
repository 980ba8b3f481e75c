use Rattle.patience.proofs.Lasting
use Rattle.patience.proofs.laws.timeouts_take_time.Goals as goal

pub returns : goal.returns
returns c = record { time = Lasting.timeouts_take_time }
