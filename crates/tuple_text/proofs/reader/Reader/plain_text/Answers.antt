use Rattle.std.proofs.Common.{◌≡◌, ◌-◌, ◌∷◌, length, take, drop, refl, arith}
use Rattle.tuple_text.proofs.PlainText.{first_of, plain_whole}
use Rattle.tuple_text.proofs.reader.Reader.plain_text.Goals as goal

pub returns-clause-some : goal.returns-clause-some
returns-clause-some c =
    let line = c.args.self.now.rest.now in
    let front = take (length line - 1) (drop 1 line) in
    let behind = c.split_at.result.1.now in
    let rest = take (length behind - 1) (drop 1 behind) in
    let opens : line ≡ 34 ∷ front = first_of line 34 (length line - 1) (omega (arith, c.in-34.len_at_least)) (omega arith) refl in
    let closes : behind ≡ 34 ∷ rest = first_of behind 34 (length behind - 1) (omega (arith, c.in-34-behind.len_at_least)) (omega arith) refl in
    plain_whole line front behind rest c.split_at.result.0.now c.plain_len.result opens closes c.plain_len.ensures.within c.plain_len.ensures.plain c.split_at.ensures.front c.split_at.ensures.back
