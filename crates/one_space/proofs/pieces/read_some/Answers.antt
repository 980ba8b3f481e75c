use Rattle.std.proofs.Common.{◌+◌, ◌≤◌, arith, eqb-true, leb-true, length, take, nat_lt, nat_le, IfSome, subst, sym}
use Rattle.std.proofs.Common.{◌∙◌, length-take-le}
use Rattle.std.specs.Io.BufRead.{FillKeeps}
use Rattle.std.proofs.BufReadLemmas.{Consumes_shown}
use Rattle.one_space.specs.Pieces.{TakesPiece}
use Rattle.one_space.proofs.PieceLemmas.{takes_some_known, ended_cases, taken_within, full_of, Ok-injective}
use Rattle.one_space.proofs.pieces.read_some.Goals as goal

pub returns-clause-full : goal.returns-clause-full
returns-clause-full g c = λ e.
    let f = full_of _ _ _ (sym c.piece_end.ensures ∙ Ok-injective e) in
    omega (arith, leb-true _ _ f, c.len-2.ensures)

pub returns-clause-known : goal.returns-clause-known
returns-clause-known g c =
    let shown = c.in-Ok.available.now in
    let count = c.line_len-count.result in
    let most = c.min.result in
    let more = c.from.result in
    let fits : most ≤ length shown = omega (arith, c.min.ensures) in
    let long = length-take-le most shown fits in
    let len = length (take most shown) in
    let within = taken_within count len more (length shown) c.line_len-count.ensures.within (omega (arith, long)) c.from.ensures in
    let rested = c.fill_buf.follows.lender-at-none in
    let filled = subst (FillKeeps _ (g.B.Read.remaining rested) (g.B.BufRead.consumable_len rested)) c.in-Ok.is c.fill_buf.follows.holds-at-none in
    let moved = Consumes_shown _ _ _ _ shown (count + more) within c.in-Ok.ensures.front c.in-Ok.ensures.end filled.0 filled.1 c.consume.ensures.bytes in
    let cases = ended_cases count len more c.from.ensures in
    let after = c.extend_from_slice.new.self.items in
    subst (λ step. IfSome (g.B.Read.remaining c.args.reader.now) (λ xs. TakesPiece step c.args.limit xs (g.B.Read.remaining c.consume.new.self) c.args.piece.now.items after))
    (sym c.piece_end.ensures)
    (takes_some_known c.args.limit most count (count + more) shown c.args.piece.now.items after (g.B.Read.remaining c.args.reader.now) (g.B.Read.remaining c.consume.new.self)
    (nat_lt count len) c.is_empty-is_at_end.result (nat_le c.args.limit c.len-2.result)
    fits c.in_ok-extend_from_slice.ensures.items c.line_len-count.ensures.within c.line_len-count.ensures.before c.line_len-count.ensures.found cases.0 cases.1
    (λ e. eqb-true _ 0 (sym c.is_empty-is_at_end.ensures ∙ e))
    (λ e. omega (arith, leb-true _ _ e, c.len-2.ensures, c.extend_from_slice.new.self.ok))
    moved)
