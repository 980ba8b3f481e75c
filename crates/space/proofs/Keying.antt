-- A match is a candidate.
use Rattle.std.proofs.Common.{◌≡◌, ◌+◌, true, refl, sym, ap, ◌∙◌, eq-eqb}
use Rattle.std.proofs.lemmas.Bool.{and_parts}
use Rattle.tuple_tree.specs.Items.{leaf, inner, none, item, how_many}
use Rattle.tuple_tree.specs.Values.{actual, any, formal, TupleTree, TemplateTree}
use Rattle.template_match.specs.Tests.{is_match, is_field_match}
use Rattle.template_match.proofs.Deciding.{datum_decides}
use Rattle.space.specs.Candidates.{is_candidate}
use Rattle.space.specs.Keys.{datum_key, tuple_key}

match_length : (p : TemplateTree) (t : TupleTree) → is_match p t ≡ true → how_many t ≡ how_many p
match_length none none h = refl
match_length none (item v t) h = absurd (let g : ⊥ = cc in g)
match_length (item f p) none h = absurd (let g : ⊥ = cc in g)
match_length (item f p) (item v t) h = let b = and_parts (is_field_match f v) (is_match p t) h in ap (λ n. 1 + n) (match_length p t b.1)

pub match_is_candidate : (p : TemplateTree) (t : TupleTree) → is_match p t ≡ true → is_candidate p t ≡ true
match_is_candidate none t h = eq-eqb (how_many t) 0 (match_length none t h)
match_is_candidate (item (leaf (actual x)) p) none h = absurd (let g : ⊥ = cc in g)
match_is_candidate (item (leaf (actual x)) p) (item (leaf y) t) h =
    let same = (datum_decides x y).0 (and_parts (is_field_match (leaf (actual x)) (leaf y)) (is_match p t) h).0 in
    let count = match_length (item (leaf (actual x)) p) (item (leaf y) t) h in
    eq-eqb (tuple_key (item (leaf y) t)) _ (ap (datum_key (how_many (item (leaf y) t))) (sym same) ∙ ap (λ n. datum_key n x) count)
match_is_candidate (item (leaf (actual x)) p) (item (inner u) t) h = absurd (let none_there = (and_parts (is_field_match (leaf (actual x)) (inner u)) (is_match p t) h).0 in let g : ⊥ = cc in g)
match_is_candidate (item (leaf any) p) t h = eq-eqb (how_many t) (how_many (item (leaf any) p)) (match_length (item (leaf any) p) t h)
match_is_candidate (item (leaf (formal k)) p) t h = eq-eqb (how_many t) (how_many (item (leaf (formal k)) p)) (match_length (item (leaf (formal k)) p) t h)
match_is_candidate (item (inner q) p) t h = eq-eqb (how_many t) (how_many (item (inner q) p)) (match_length (item (inner q) p) t h)
