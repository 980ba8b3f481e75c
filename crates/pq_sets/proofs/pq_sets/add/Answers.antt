use Rattle.std.specs.Prelude.{nat_le}
use Rattle.std.specs.Arc.{arc_value}
use Rattle.std.specs.List.{insert}
use Rattle.std.proofs.Common.{◌≡◌, ℕ, true, false, List, ◌∷◌, length, get_or, set, sym, ap, ◌∙◌, subst, arith}
use Rattle.std.proofs.lemmas.Bool.{le-leb, lt-leb}
use Rattle.wire_format.specs.Lists.{Each}
use Rattle.pq_sets.specs.declared.pq_entry.PqEntry.{PqEntry}
use Rattle.pq_sets.specs.PqSetsView.{pq_entry_data, pq_entries_of, texts_in, IsAmongTexts}
use Rattle.pq_sets.specs.Places.{place_in, same_at}
use Rattle.pq_sets.proofs.KeptPqSets.{texts_inserted, texts_replaced, texts_same}
use Rattle.pq_sets.proofs.Placing.{inserted, replaced, kept, same_within}
use Rattle.pq_sets.proofs.pq_sets.add.Goals as goal

pub returns-then-not-is_same_at-clause-ok : goal.returns-then-not-is_same_at-clause-ok
returns-then-not-is_same_at-clause-ok c =
    let k = c.args.pq_entry in
    let xs = c.args.pq_set.now.items in
    let at = c.place_of-place.ensures.place ∙ ap (λ (ys : List PqEntry). place_in c.args.order (pq_entry_data k) (pq_entries_of ys)) c.deref.ensures.value in
    let other : same_at c.args.order (pq_entry_data k) c.place_of-place.result (pq_entries_of xs) ≡ false =
    ap (λ (ys : List PqEntry). same_at c.args.order (pq_entry_data k) c.place_of-place.result (pq_entries_of ys)) (sym c.deref-2.ensures.value) ∙ sym c.is_same_at.ensures ∙ c.if-not-is_same_at.true in
    ap pq_entries_of c.in_ok-insert.ensures.items ∙ ap (λ (n : ℕ). pq_entries_of (insert xs n k)) at
    ∙ inserted c.args.order k xs (subst (λ (n : ℕ). same_at c.args.order (pq_entry_data k) n (pq_entries_of xs) ≡ false) at other)

pub index-requires : goal.index-requires
index-requires c =
    let less = same_within c.args.order (pq_entry_data c.args.pq_entry) c.deref-2.result.now c.place_of-place.result (sym c.is_same_at.ensures ∙ c.if-not-is_same_at.false) in
    let len = c.deref-2.ensures.len in
    omega (arith, less, len)

pub index_mut-requires : goal.index_mut-requires
index_mut-requires c =
    let less = same_within c.args.order (pq_entry_data c.args.pq_entry) c.deref-2.result.now c.place_of-place.result (sym c.is_same_at.ensures ∙ c.if-not-is_same_at.false) in
    let len = c.deref-2.ensures.len in
    omega (arith, less, len)

pub returns-then-index-pq_entry-clause-ok : goal.returns-then-index-pq_entry-clause-ok
returns-then-index-pq_entry-clause-ok c =
    let k = c.args.pq_entry in
    let xs = c.args.pq_set.now.items in
    let z = c.index.result.now in
    let at = c.place_of-place.ensures.place ∙ ap (λ (ys : List PqEntry). place_in c.args.order (pq_entry_data k) (pq_entries_of ys)) c.deref.ensures.value in
    let same : same_at c.args.order (pq_entry_data k) c.place_of-place.result (pq_entries_of xs) ≡ true =
    ap (λ (ys : List PqEntry). same_at c.args.order (pq_entry_data k) c.place_of-place.result (pq_entries_of ys)) (sym c.deref-2.ensures.value) ∙ sym c.is_same_at.ensures ∙ c.if-not-is_same_at.false in
    let later = subst (λ (x : PqEntry). nat_le (pq_entry_data x).view (pq_entry_data k).view ≡ true) c.index.ensures (le-leb _ _ c.if-index-pq_entry.true) in
    ap (λ (n : ℕ). pq_entries_of (set xs n k)) at
    ∙ replaced c.args.order k z xs (subst (λ (n : ℕ). same_at c.args.order (pq_entry_data k) n (pq_entries_of xs) ≡ true) at same)
    (subst (λ (n : ℕ). nat_le (pq_entry_data (get_or xs n z)).view (pq_entry_data k).view ≡ true) at later)

pub returns-else-index-pq_entry-clause-ok : goal.returns-else-index-pq_entry-clause-ok
returns-else-index-pq_entry-clause-ok c =
    let k = c.args.pq_entry in
    let xs = c.args.pq_set.now.items in
    let z = c.index.result.now in
    let at = c.place_of-place.ensures.place ∙ ap (λ (ys : List PqEntry). place_in c.args.order (pq_entry_data k) (pq_entries_of ys)) c.deref.ensures.value in
    let same : same_at c.args.order (pq_entry_data k) c.place_of-place.result (pq_entries_of xs) ≡ true =
    ap (λ (ys : List PqEntry). same_at c.args.order (pq_entry_data k) c.place_of-place.result (pq_entries_of ys)) (sym c.deref-2.ensures.value) ∙ sym c.is_same_at.ensures ∙ c.if-not-is_same_at.false in
    let earlier = subst (λ (x : PqEntry). nat_le (pq_entry_data x).view (pq_entry_data k).view ≡ false) c.index.ensures (lt-leb _ _ c.if-index-pq_entry.false) in
    kept c.args.order k z xs (subst (λ (n : ℕ). same_at c.args.order (pq_entry_data k) n (pq_entries_of xs) ≡ true) at same)
    (subst (λ (n : ℕ). nat_le (pq_entry_data (get_or xs n z)).view (pq_entry_data k).view ≡ false) at earlier)

pub returns-then-not-is_same_at-clause-texts : goal.returns-then-not-is_same_at-clause-texts
returns-then-not-is_same_at-clause-texts c =
    let k = c.args.pq_entry in
    let xs = c.args.pq_set.now.items in
    subst (λ (ys : List PqEntry). Each (IsAmongTexts (arc_value k.batch ∷ texts_in xs)) (texts_in ys)) (sym c.in_ok-insert.ensures.items) (texts_inserted k xs c.place_of-place.result)

pub returns-then-index-pq_entry-clause-texts : goal.returns-then-index-pq_entry-clause-texts
returns-then-index-pq_entry-clause-texts c =
    let less = same_within c.args.order (pq_entry_data c.args.pq_entry) c.deref-2.result.now c.place_of-place.result (sym c.is_same_at.ensures ∙ c.if-not-is_same_at.false) in
    let same = ap (λ (ys : List PqEntry). length ys) c.deref-2.ensures.value in
    texts_replaced c.args.pq_entry c.args.pq_set.now.items c.place_of-place.result (omega (arith, less, same))

pub returns-else-index-pq_entry-clause-texts : goal.returns-else-index-pq_entry-clause-texts
returns-else-index-pq_entry-clause-texts c = texts_same (arc_value c.args.pq_entry.batch) (texts_in c.args.pq_set.now.items)
