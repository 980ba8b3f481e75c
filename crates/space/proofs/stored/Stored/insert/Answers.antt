use Rattle.std.proofs.Common.{◌≡◌, ◌<◌, [], ◌∷◌, ◌++◌, Some, None, map, refl, ap, sym, subst, ◌∙◌}
use Rattle.std.specs.Prelude.{All, ◌==◌}
use Rattle.std.specs.Map.{lookup}
use Rattle.std.specs.Ordering.{nat_cmp}
use Rattle.std.specs.BTreeMap.{insert_entry}
use Rattle.space.specs.Prints.{entry_label}
use Rattle.space.specs.Stored.{AreApart}
use Rattle.space.proofs.InOrder.{Puts, inserted_in_order}
use Rattle.space.proofs.Places.{newest_is_new, put_last, distinct_more}
use Rattle.space.proofs.Printed.{labels_more, labelled_same}
use Rattle.space.proofs.stored.Stored.insert.Goals as goal

pub invariant_of-self : goal.invariant_of-self
invariant_of-self c = labelled_same _ _ _ _ c.make_room.ensures.entries c.make_room.ensures.labels c.self.invariant

pub same-tuple : goal.same-tuple
same-tuple c = refl

pub push_reserved-requires : goal.push_reserved-requires
push_reserved-requires c = (c.in_ok-make_room.ensures {u = tt}).labels_room

pub push_reserved-requires-2 : goal.push_reserved-requires-2
push_reserved-requires-2 c = (c.in_ok-make_room.ensures {u = tt}).room

pub invariant_of-self-2 : goal.invariant_of-self-2
invariant_of-self-2 c =
    let es = c.self.inside.entries.items in
    let new = c.args.birth in
    let none_there : lookup (λ k. new == k) es ≡ None = newest_is_new es new (subst (λ s. All (λ e. e.0 < new) s.entries) (sym c.self.view_is) c.requires) in
    let pushed : c.push_reserved-2.new.self.items ≡ es ++ (new, c.args.tuple) ∷ [] =
    c.push_reserved-2.ensures.items ∙ ap (λ xs. xs ++ (new, c.args.tuple) ∷ []) c.make_room.ensures.entries in
    record {
      apart = subst AreApart (sym pushed) (distinct_more es new c.args.tuple c.self.invariant.apart none_there);
      kept =
          c.push_reserved.ensures.items ∙ ap (λ ps. ps ++ c.label_of.result ∷ []) c.make_room.ensures.labels
          ∙ ap (λ n. c.self.inside.labels.items ++ n ∷ []) c.label_of.ensures
          ∙ labels_more es c.self.inside.labels.items (new, c.args.tuple) c.self.invariant.kept ∙ ap (map entry_label) (sym pushed);
    }

pub returns-clause-entries : goal.returns-clause-entries
returns-clause-entries c =
    let es = c.self.inside.entries.items in
    let new = c.args.birth in
    let none_there : lookup (λ k. new == k) es ≡ None = newest_is_new es new (subst (λ s. All (λ e. e.0 < new) s.entries) (sym c.self.view_is) c.requires) in
    let all = c.push_reserved-2.new.self.items in
    let pushed : all ≡ es ++ (new, c.args.tuple) ∷ [] = c.push_reserved-2.ensures.items ∙ ap (λ xs. xs ++ (new, c.args.tuple) ∷ []) c.make_room.ensures.entries in
    let put : Puts es all new (Some c.args.tuple) = subst (λ xs. Puts es xs new (Some c.args.tuple)) (sym pushed) (put_last es new c.args.tuple c.self.invariant.apart none_there) in
    inserted_in_order es all new c.args.tuple put
    ∙ ap (λ s. insert_entry nat_cmp s.entries new c.args.tuple) c.self.view_is
