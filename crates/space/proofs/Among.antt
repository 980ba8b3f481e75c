-- Births one by one, and the entries that they lead to.
use Rattle.std.proofs.Common.{◌≡◌, ◌≢◌, ℕ, suc, ◌+◌, ◌-◌, ◌<◌, Bool, true, false, cond, List, [], ◌∷◌, ◌++◌, length}
use Rattle.std.proofs.Common.{take, drop, get_or, map, Option, Some, None, option_map, refl, sym, ap, ◌∙◌, arith}
use Rattle.std.proofs.Common.{append-nil, append_assoc}
use Rattle.std.specs.Prelude.{filter, find, option_to_list}
use Rattle.std.specs.Ordering.{nat_cmp}
use Rattle.std.specs.Map.{lookup}
use Rattle.std.specs.BTreeMap.{is_at}
use Rattle.std.proofs.lemmas.List.{at_drop_more, take_more, length_push, length-append, length-take, map-append}
use Rattle.std.proofs.lemmas.List.Concat.{flat_map-cons, flat_map-append}
use Rattle.std.proofs.lemmas.List.Elements.{filter-append}
use Rattle.tuple_tree.specs.Values.{TupleTree, TemplateTree}
use Rattle.template_match.specs.Tests.{is_match}
use Rattle.space.specs.Births.{BornTuple}
use Rattle.space.specs.Found.{entry_of_birth, entries_at}
use Rattle.space.specs.Pages.{entry_text, entries_text}
use Rattle.space.specs.declared.version.Version.{Version}
use Rattle.space.proofs.Texts.{entries_text_push}

-- ---- an entry or none

module _ (m : BornTuple → Bool) where
  find_behind : (xs ys : List BornTuple) → find m xs ≡ None → find m (xs ++ ys) ≡ find m ys
  find_behind [] ys h = refl
  find_behind (x ∷ xs) ys h = go (m x) h (find_behind xs ys)
    where
      go : (b : Bool) → cond b (Some x) (find m xs) ≡ None → (find m xs ≡ None → find m (xs ++ ys) ≡ find m ys) → cond b (Some x) (find m (xs ++ ys)) ≡ find m ys
      go true k rest = absurd (let g : ⊥ = cc in g)
      go false k rest = rest k

pub matching_one : (p : TemplateTree) (es : List BornTuple) (b : ℕ) → filter (is_match p) (map (λ e. e.1) (entry_of_birth es b)) ≡ option_to_list (option_map (λ e. e.1) (find (λ e. is_match p e.1) (entry_of_birth es b)))
matching_one p es b = go (lookup (is_at (nat_cmp b)) es)
  where
    one : (t : TupleTree) (a : Bool) → cond a (t ∷ []) [] ≡ option_to_list (option_map (λ (e : BornTuple). e.1) (cond a (Some (b, t)) None))
    one t true = refl
    one t false = refl

    go : (o : Option TupleTree) → filter (is_match p) (map (λ (e : BornTuple). e.1) (map (λ (t : TupleTree). (b, t)) (option_to_list o))) ≡ option_to_list (option_map (λ (e : BornTuple). e.1) (find (λ (e : BornTuple). is_match p e.1) (map (λ (t : TupleTree). (b, t)) (option_to_list o))))
    go None = refl
    go (Some t) = one t (is_match p t)

pub one_found : (m : BornTuple → Bool) (es : List BornTuple) (b : ℕ) → filter m (entry_of_birth es b) ≡ option_to_list (find m (entry_of_birth es b))
one_found m es b = go (lookup (is_at (nat_cmp b)) es)
  where
    one : (e : BornTuple) (a : Bool) → cond a (e ∷ []) [] ≡ option_to_list (cond a (Some e) None)
    one e true = refl
    one e false = refl

    go : (o : Option TupleTree) → filter m (map (λ (t : TupleTree). (b, t)) (option_to_list o)) ≡ option_to_list (find m (map (λ (t : TupleTree). (b, t)) (option_to_list o)))
    go None = refl
    go (Some t) = one (b, t) (m (b, t))

-- ---- one birth more

module _ (es : List BornTuple) (births : List ℕ) (i b : ℕ) (within : i < length births) (is : b ≡ get_or births i b) where
  next_entries : entries_at es (drop i births) ≡ entry_of_birth es b ++ entries_at es (drop (i + 1) births)
  next_entries =
      at_drop_more (entries_at es) births i b within ∙ flat_map-cons (entry_of_birth es) (get_or births i b) (drop (i + 1) births)
      ∙ ap (λ x. entry_of_birth es x ++ entries_at es (drop (i + 1) births)) (sym is)

  pub find_next : (m : BornTuple → Bool) → None ≡ find m (entry_of_birth es b) → find m (entries_at es (drop i births)) ≡ find m (entries_at es (drop (i + 1) births))
  find_next m h = ap (find m) next_entries ∙ find_behind m (entry_of_birth es b) (entries_at es (drop (i + 1) births)) (sym h)

  matches_next : (p : TemplateTree) (o : Option BornTuple) → o ≡ find (λ e. is_match p e.1) (entry_of_birth es b)
      → filter (is_match p) (map (λ e. e.1) (entries_at es (drop i births))) ≡ option_to_list (option_map (λ e. e.1) o) ++ filter (is_match p) (map (λ e. e.1) (entries_at es (drop (i + 1) births)))
  matches_next p o h =
      let rest : List BornTuple = entries_at es (drop (i + 1) births) in
      ap (λ (xs : List BornTuple). filter (is_match p) (map (λ e. e.1) xs)) next_entries
      ∙ ap (filter (is_match p)) (map-append (λ (e : BornTuple). e.1) (entry_of_birth es b) rest)
      ∙ filter-append (is_match p) (map (λ (e : BornTuple). e.1) (entry_of_birth es b)) (map (λ (e : BornTuple). e.1) rest)
      ∙ ap (λ ts. ts ++ filter (is_match p) (map (λ (e : BornTuple). e.1) rest)) (matching_one p es b ∙ ap (λ (x : Option BornTuple). option_to_list (option_map (λ e. e.1) x)) (sym h))

  pub copied_here : (p : TemplateTree) (t : TupleTree) (n : ℕ) (ys : List TupleTree) → Some (b, t) ≡ find (λ e. is_match p e.1) (entry_of_birth es b) → length ys < n
      → ys ++ take (n - length ys) (filter (is_match p) (map (λ e. e.1) (entries_at es (drop i births)))) ≡ (ys ++ t ∷ []) ++ take (n - length (ys ++ t ∷ [])) (filter (is_match p) (map (λ e. e.1) (entries_at es (drop (i + 1) births))))
  copied_here p t n ys h l =
      let rest : List TupleTree = filter (is_match p) (map (λ e. e.1) (entries_at es (drop (i + 1) births))) in
      let left : ℕ = n - length (ys ++ t ∷ []) in
      let k : n - length ys ≡ suc left = omega (arith, length_push ys t) in
      ap (λ zs. ys ++ take (n - length ys) zs) (matches_next p (Some (b, t)) h) ∙ ap (λ j. ys ++ take j (t ∷ rest)) k ∙ sym (append_assoc ys (t ∷ []) (take left rest))

  pub copied_next : (p : TemplateTree) → None ≡ find (λ e. is_match p e.1) (entry_of_birth es b)
      → filter (is_match p) (map (λ e. e.1) (entries_at es (drop i births))) ≡ filter (is_match p) (map (λ e. e.1) (entries_at es (drop (i + 1) births)))
  copied_next p h = matches_next p None h

  entries_next : (m : BornTuple → Bool) (o : Option BornTuple) → o ≡ find m (entry_of_birth es b)
      → filter m (entries_at es (drop i births)) ≡ option_to_list o ++ filter m (entries_at es (drop (i + 1) births))
  entries_next m o h =
      let rest : List BornTuple = entries_at es (drop (i + 1) births) in
      ap (filter m) next_entries ∙ filter-append m (entry_of_birth es b) rest
      ∙ ap (λ (xs : List BornTuple). xs ++ filter m rest) (one_found m es b ∙ ap (λ (x : Option BornTuple). option_to_list x) (sym h))

  pub births_here : (m : BornTuple → Bool) (e : BornTuple) (n : ℕ) (ys : List ℕ) → Some e ≡ find m (entry_of_birth es b) → length ys < n
      → ys ++ take (n - length ys) (map (λ e. e.0) (filter m (entries_at es (drop i births)))) ≡ (ys ++ e.0 ∷ []) ++ take (n - length (ys ++ e.0 ∷ [])) (map (λ e. e.0) (filter m (entries_at es (drop (i + 1) births))))
  births_here m e n ys h l =
      let rest : List ℕ = map (λ (x : BornTuple). x.0) (filter m (entries_at es (drop (i + 1) births))) in
      let left : ℕ = n - length (ys ++ e.0 ∷ []) in
      let k : n - length ys ≡ suc left = omega (arith, length_push ys e.0) in
      ap (λ (xs : List BornTuple). ys ++ take (n - length ys) (map (λ e. e.0) xs)) (entries_next m (Some e) h) ∙ ap (λ j. ys ++ take j (e.0 ∷ rest)) k ∙ sym (append_assoc ys (e.0 ∷ []) (take left rest))

  pub births_next : (m : BornTuple → Bool) → None ≡ find m (entry_of_birth es b)
      → map (λ e. e.0) (filter m (entries_at es (drop i births))) ≡ map (λ e. e.0) (filter m (entries_at es (drop (i + 1) births)))
  births_next m h = ap (map (λ (x : BornTuple). x.0)) (entries_next m None h)

  text_next : entries_at es (take (i + 1) births) ≡ entries_at es (take i births) ++ entry_of_birth es b
  text_next =
      ap (entries_at es) (take_more births i b within) ∙ flat_map-append (entry_of_birth es) (take i births) (get_or births i b ∷ [])
      ∙ ap (λ (xs : List BornTuple). entries_at es (take i births) ++ xs) (flat_map-cons (entry_of_birth es) (get_or births i b) [] ∙ append-nil (entry_of_birth es (get_or births i b)) ∙ ap (entry_of_birth es) (sym is))

  pub text_here : (v : Version) (t : TupleTree) → Some t ≡ lookup (is_at (nat_cmp b)) es → entries_text v (entries_at es (take i births)) ++ entry_text v (b, t) ≡ entries_text v (entries_at es (take (i + 1) births))
  text_here v t h =
      sym (ap (entries_text v) (text_next ∙ ap (λ (o : Option TupleTree). entries_at es (take i births) ++ map (λ t. (b, t)) (option_to_list o)) (sym h))
      ∙ entries_text_push v (entries_at es (take i births)) (b, t))

  pub text_gone : (v : Version) → None ≡ lookup (is_at (nat_cmp b)) es → entries_text v (entries_at es (take i births)) ≡ entries_text v (entries_at es (take (i + 1) births))
  text_gone v h =
      sym (ap (entries_text v) (text_next ∙ ap (λ (o : Option TupleTree). entries_at es (take i births) ++ map (λ t. (b, t)) (option_to_list o)) (sym h) ∙ append-nil (entries_at es (take i births))))

-- where a copy is made there is a match
pub copied_some : (n : ℕ) (xs ys zs : List TupleTree) (t : TupleTree) → (ys ++ t ∷ []) ++ zs ≡ take n xs → xs ≢ []
copied_some n xs ys zs t e none =
    omega (arith, ap length e, ap length none, length-append (ys ++ t ∷ []) zs, length_push ys t, length-take n xs)

-- one birth alone
pub entries_alone : (es : List BornTuple) (births : List ℕ) → length births ≡ 1 → entries_at es births ≡ entry_of_birth es (get_or births 0 0)
entries_alone es [] l = absurd (omega arith)
entries_alone es (b ∷ []) l = flat_map-cons (entry_of_birth es) b [] ∙ append-nil (entry_of_birth es b)
entries_alone es (b ∷ c ∷ births) l = absurd (omega arith)
