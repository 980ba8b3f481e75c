use Rattle.std.proofs.Common.{take, ap, ◌∙◌}
use Rattle.tuple_text.specs.Literals.{text_from}
use Rattle.tuple_text.specs.declared.literals.Expected.TheVariants.{Character}
use Rattle.tuple_text.proofs.PlainText.{passes_plain}
use Rattle.tuple_text.proofs.reader.Reader.plain_bytes.Goals as goal

pub returns-clause-ok : goal.returns-clause-ok
returns-clause-ok g c =
    let rest = c.args.self.now.rest.now in
    let n = c.plain_len.result in
    ap (λ s. text_from Character s c.split_at.result.1.now) ((c.in_ok-bytes.ensures {u = tt}).ok ∙ c.split_at.ensures.front)
    ∙ ap (λ r. text_from Character (take n rest) r) c.split_at.ensures.back
    ∙ passes_plain rest n c.plain_len.ensures.within c.plain_len.ensures.plain
