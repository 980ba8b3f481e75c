use Rattle.std.proofs.Common.{◌==◌, arith, eqb-true, eq-eqb}
use Rattle.std.specs.Io.Buffered.{reader_buffer, reader_capacity}
use Rattle.one_space.proofs.PieceLemmas.{at_hand}
use Rattle.one_space.proofs.NextLemmas.{next_at}
use Rattle.one_space.proofs.session.Session.answer_at_hand.Goals as goal

pub returns-clause-along : goal.returns-clause-along
returns-clause-along g c =
    let buffer = reader_buffer c.args.reader.now in
    let first = c.requires.place in
    c.answer_whole-answered.ensures.along _ _ (rw c.without_return.ensures (next_at _ _ 65538 c.split_at.result.0.now
    (rw (c.split_at.ensures.front, c.buffer.ensures) (at_hand (reader_capacity c.args.reader.now == 0) buffer _ _ 65538 c.args.place first.0.high
    (λ k below e. first.0.before k (omega arith) below (eq-eqb _ 10 e)) (eqb-true _ 10 first.1) c.consume.ensures.bytes))))
