use Rattle.space.proofs.Keeping.{read_same}
use Rattle.space.proofs.Versions.{read_outcome}
use Rattle.space.proofs.laws.reads_know_no_client.Goals as goal

pub returns : goal.returns
returns c = λ ts client other o h. (read_outcome ts client other o h, read_same ts client o h)
