use Rattle.std.proofs.Common.{rules, inl, refl}
use Rattle.one_space.proofs.session.Held.pass.Goals as goal

pub returns-then-is_help : goal.returns-then-is_help
returns-then-is_help g c =
    let wrote = c.in_ok-write_out.ensures {u = tt} in
    (refl, inl (search rules, c.is_help.ensures.0 c.if-is_help.true, record { wrote = wrote.written; none = wrote.none; told = c.help.ensures; same = refl }))
