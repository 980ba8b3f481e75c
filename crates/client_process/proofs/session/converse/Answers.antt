use Rattle.std.proofs.Common.{refl, ◌∙◌}
use Rattle.std.proofs.lemmas.Result.{err_from_is_err_and}
use Rattle.one_space.proofs.RunLemmas.{once_remaining}
use Rattle.client_process.specs.Endings.{scene_of}
use Rattle.client_process.specs.Texts.{Opening}
use Rattle.client_process.specs.declared.fault.ConverseFault.TheVariants.{NoMemory}
use Rattle.client_process.proofs.Standing.{if_known, at_start, not_begun}
use Rattle.client_process.proofs.session.converse.Goals as goal

pub returns-in-Err : goal.returns-in-Err
returns-in-Err g c k start fits =
    not_begun g.C.Caller.me g.C.Caller.fits g.met.C.Caller.is_right k start NoMemory tt c.args.client fits (g.L.Read.remaining c.args.script) (g.R.Read.remaining c.args.records)
    (scene_of g.F.Write.contents g.W.Write.contents c.args.frames.now c.args.results.now)

pub returns-in_err-records : goal.returns-in_err-records
returns-in_err-records g c k start fits =
    let e = err_from_is_err_and c.from_residual.result c.from_residual.ensures.1 in
    rw e.1 (not_begun g.C.Caller.me g.C.Caller.fits g.met.C.Caller.is_right k start e.0 e.2 c.args.client fits (g.L.Read.remaining c.args.script) (g.R.Read.remaining c.args.records)
    (scene_of g.F.Write.contents g.W.Write.contents c.args.frames.now c.args.results.now))

pub returns : goal.returns
returns g c k start fits =
    let made = c.in-Ok.ensures {u = tt} in
    if_known _ _ (λ text is. if_known _ _ (λ bytes is_too.
    let o : Opening = record { c = k; me = g.C.Caller.me c.args.client; above = start; script = text; records = bytes; start = scene_of g.F.Write.contents g.W.Write.contents c.args.frames.now c.args.results.now } in
    c.run.ensures o (at_start g.C.Caller.me g.C.Caller.fits o _ _
    (record { client = c.args.client; timer = record { number = 0; milliseconds = 0 }; line = c.new-4.result; text = c.new-5.result; told = c.new-6.result })
    (record { me_is = refl; held = fits }) (c.new-5.ensures.items, c.new-6.ensures.items)
    (once_remaining g.L.Read.remaining c.in-Ok.lines c.new.result c.args.script made.inner made.empty made.capacity c.new.ensures ∙ is)
    ((c.in_ok-records.ensures {u = tt}).all ∙ is_too))))
