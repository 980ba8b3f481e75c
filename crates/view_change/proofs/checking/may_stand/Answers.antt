use Rattle.std.proofs.Common.{[], ◌∷◌, bytes_eq, ap, ◌∙◌}
use Rattle.protocol.specs.Replica.Selection.{may_be_null}
use Rattle.view_change.specs.Sets.{sized, changes_by_sender}
use Rattle.view_change.proofs.Chosen.{stands_or_null, first_decides, last_decides, none_decides}
use Rattle.view_change.proofs.checking.may_stand.Goals as goal

pub returns-then-supported : goal.returns-then-supported
returns-then-supported c =
    first_decides c.stands-supported.result c.is_null-null.result (may_be_null (sized c.args.sizes) (changes_by_sender c.args.set.now) c.args.number.0) c.if-supported.true
    ∙ stands_or_null (sized c.args.sizes) c.args.view.0 c.args.number.0 (changes_by_sender c.args.set.now) c.args.batch.now.text.items c.digest-digest.result c.stands-supported.result c.is_null-null.result c.requires c.digest-digest.ensures c.stands-supported.ensures
    (c.is_null-null.ensures ∙ ap (λ ts. bytes_eq ts (0 ∷ [])) c.deref.ensures.value)

pub returns-then-null : goal.returns-then-null
returns-then-null c =
    c.may_be_null.ensures ∙ (last_decides c.stands-supported.result c.is_null-null.result (may_be_null (sized c.args.sizes) (changes_by_sender c.args.set.now) c.args.number.0) c.if-supported.false c.if-null.true
    ∙ stands_or_null (sized c.args.sizes) c.args.view.0 c.args.number.0 (changes_by_sender c.args.set.now) c.args.batch.now.text.items c.digest-digest.result c.stands-supported.result c.is_null-null.result c.requires c.digest-digest.ensures c.stands-supported.ensures
    (c.is_null-null.ensures ∙ ap (λ ts. bytes_eq ts (0 ∷ [])) c.deref.ensures.value))

pub returns-else-null : goal.returns-else-null
returns-else-null c =
    none_decides c.stands-supported.result c.is_null-null.result (may_be_null (sized c.args.sizes) (changes_by_sender c.args.set.now) c.args.number.0) c.if-supported.false c.if-null.false
    ∙ stands_or_null (sized c.args.sizes) c.args.view.0 c.args.number.0 (changes_by_sender c.args.set.now) c.args.batch.now.text.items c.digest-digest.result c.stands-supported.result c.is_null-null.result c.requires c.digest-digest.ensures c.stands-supported.ensures
    (c.is_null-null.ensures ∙ ap (λ ts. bytes_eq ts (0 ∷ [])) c.deref.ensures.value)
