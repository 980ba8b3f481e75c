-- The walk along the bytes of a whole template and of a whole tuple decides whether they match.
use Rattle.std.proofs.Common.{◌≡◌, ℕ, Bool, true, false, List, [], Option, Some, None, cond, ap, sym, refl, ◌∙◌, arith}
use Rattle.std.proofs.Common.{append-nil}
use Rattle.tuple_tree.specs.Items.{none, with_last, how_many}
use Rattle.tuple_tree.specs.Values.{slot_length, TemplateTree, TupleTree, IsTemplate, IsTuple}
use Rattle.tuple_tree.specs.Reading.{◌>>=◌, item_at, more}
use Rattle.tuple_tree.specs.Spelling.{datum_spelling, slot_spelling, items_spelling}
use Rattle.tuple_tree.specs.Loose.{loose_slot_at}
use Rattle.tuple_tree.proofs.Loosening.{IsLooseSlot, loosen_slot, loosen_items, loose_slot_leaves}
use Rattle.tuple_tree.proofs.Trees.{onto_again}
use Rattle.template_match.specs.Tests.{is_match}
use Rattle.template_match.specs.Walks.{behind_fields, behind_both}
use Rattle.template_match.proofs.Walking.{walk}

abbrev both_after : List ℕ → List ℕ → Option (List ℕ × List ℕ)
both_after fs rest = Some (fs, rest)

ended : (o : Option (List ℕ)) (b : Bool) → o ≡ cond b (Some []) None → (o >>= both_after []) ≡ cond b (Some ([], [])) None
ended o true e = ap (λ o. o >>= both_after []) e
ended o false e = ap (λ o. o >>= both_after []) e

pub both_walk : (p : TemplateTree) (t : TupleTree) (count : ℕ) (fs bs : List ℕ) → IsTemplate p → IsTuple t → count ≡ how_many p → count ≡ how_many t → fs ≡ items_spelling slot_spelling p → bs ≡ items_spelling datum_spelling t
    → behind_both 7 count fs bs ≡ cond (is_match p t) (Some ([], [])) None
unfolding behind_both
both_walk p t count fs bs hp ht n m e f =
    let read : more (item_at loose_slot_at 7) with_last count none fs ≡ Some (p, []) =
    ap (λ n. more (item_at loose_slot_at 7) with_last n none fs) n ∙ ap (more (item_at loose_slot_at 7) with_last (how_many p) none) (e ∙ sym (append-nil (items_spelling slot_spelling p)))
    ∙ onto_again IsLooseSlot slot_length slot_spelling loose_slot_at loose_slot_leaves p none 7 [] (loosen_items loosen_slot p hp.each) (omega (arith, hp.levels)) (omega (arith, hp.length)) in
    ap (λ o. o >>= λ p. behind_fields p.0 bs >>= both_after p.1) read ∙ ended (behind_fields p bs) (is_match p t) (walk p p t bs refl f hp ht (omega (arith, n, m)))

pub some_both : (b : Bool) (x y : List ℕ × List ℕ) → cond b (Some x) None ≡ Some y → b ≡ true
some_both true x y e = refl
some_both false x y e = absurd (let g : ⊥ = cc in g)

pub no_both : (b : Bool) (x : List ℕ × List ℕ) → cond b (Some x) None ≡ None → b ≡ false
no_both true x e = absurd (let g : ⊥ = cc in g)
no_both false x e = refl
