use Rattle.std.proofs.Common.{ap, ◌∙◌, append_assoc, ◌++◌}
use Rattle.std.specs.Prelude.{codes}
use Rattle.picture.specs.Pictures.{picture_head}
use Rattle.picture.proofs.drawing.write_picture.Goals as goal

pub returns-clause-ok : goal.returns-clause-ok
returns-clause-ok c = (
  c.as_str.result.now,
  c.as_str.utf8,
  c.in_ok-extend_from_slice.ensures.items
      ∙ ap (λ t. c.args.out.now.items ++ t)
      (c.as_bytes.ensures.value ∙ c.in_ok-push_str-2.ensures.bytes
      ∙ ap (λ t. t ++ codes "</svg>\n")
      (c.in_ok-push_str.ensures.bytes ∙ ap (λ t. t ++ c.as_str.result.now) c.in_ok-picture.ensures.ok)
      ∙ append_assoc picture_head c.as_str.result.now (codes "</svg>\n")),
)
