-- Steps of the reader of lists.
use Rattle.std.proofs.Common.{◌≡◌, ◌≢◌, ℕ, zero, suc, ◌+◌, ◌-◌, ◌≤◌, ◌==◌, Bool, true, false, ◌&&◌, cond, List, [], ◌∷◌}
use Rattle.std.proofs.Common.{Option, Some, codes, option_map, refl, ap, sym, subst, ◌∙◌, arith, ◌⊎◌, inl, inr}
use Rattle.std.proofs.Common.{if◌then◌else◌}
use Rattle.std.proofs.lemmas.Bool.{eqb-true, eq-eqb, ne_eqb}
use Rattle.tuple_tree.specs.Items.{TreeItem, leaf, inner, Items, none}
use Rattle.tuple_text.specs.Reading.{Read, got, stop, Reading, ◌>>=◌, ReadingStops, look, word, named, turn, full}
use Rattle.tuple_text.specs.Reading.{further, items, opens, no_room, kept_with, leaf_item, list, item_at, items_at}
use Rattle.tuple_text.specs.Reading.{datum, slot}
use Rattle.tuple_text.specs.Parts.{adding}
use Rattle.tuple_text.specs.declared.reader.Stop.{Stop}
use Rattle.tuple_text.specs.declared.reader.Stop.TheVariants.{BadByte, TooDeep, TooManyFields, TooLong, NoMemory}

-- If a reading stops, each reading that goes on from it stops too.
pub stops_through : {V W : Type 0} → (s : Stop) (x : Read V) (f : V → Reading W) (rest : List ℕ) → ReadingStops s x rest → ReadingStops s (x >>= f) rest
stops_through BadByte x f rest h = ap (λ y. y >>= f) h
stops_through TooDeep x f rest h = ap (λ y. y >>= f) h
stops_through TooManyFields x f rest h = ap (λ y. y >>= f) h
stops_through TooLong x f rest h = ap (λ y. y >>= f) h
stops_through NoMemory x f rest h = tt

pub stops_as : {V : Type 0} → (s : Stop) (x y : Read V) (rest : List ℕ) → x ≡ y → ReadingStops s y rest → ReadingStops s x rest
stops_as s x y rest e h = subst (λ z. ReadingStops s z rest) (sym e) h

pub stops_at : {V : Type 0} → (s : Stop) (x : Read V) (rest : List ℕ) → x ≡ stop s rest → ReadingStops s x rest
stops_at BadByte x rest h = h
stops_at TooDeep x rest h = h
stops_at TooManyFields x rest h = h
stops_at TooLong x rest h = h
stops_at NoMemory x rest h = tt

module _ {V W : Type 0} (why : ℕ → Stop) where
  full_as : (s : Stop) (bs rest : List ℕ) → full {V = V} why bs ≡ stop s rest → full {V = W} why bs ≡ stop s rest
  unfolding full
  full_as s [] rest h = cc
  full_as s (b ∷ bs) rest h = cc

module _ (why : ℕ → Stop) where
  -- whether an item follows, if it is known whether the list is full
  abbrev in_room : Bool → Bool → Reading Bool
  in_room is_full on rest = if on && is_full then full why rest else got on rest

  pub turn_stops : (n : ℕ) (free : Bool) (s : Stop) (bs rest : List ℕ) → ReadingStops s (turn free bs) rest → ReadingStops s (further why n free bs) rest
  unfolding further
  turn_stops n free s bs rest h = stops_through s (turn free bs) (in_room (n == 32)) rest h

  either : (on : Bool) (rest : List ℕ) → in_room false on rest ≡ got on rest
  either true rest = refl
  either false rest = refl

  -- No item follows, or there is room for it.
  pub has_turned : (n : ℕ) (free on : Bool) (bs rest : List ℕ) → turn free bs ≡ got on rest → (on ≡ false) ⊎ (n ≢ 32) → further why n free bs ≡ got on rest
  unfolding further
  has_turned n free on bs rest e (inl o) =
      ap (λ y. y >>= in_room (n == 32)) e
      ∙ ap (λ b. if b && (n == 32) then full why rest else got on rest) o
  has_turned n free on bs rest e (inr p) =
      ap (λ y. y >>= in_room (n == 32)) e
      ∙ ap (λ b. in_room b on rest) (ne_eqb n 32 p) ∙ either on rest

  -- There is no room for a further item.
  pub none_further : {V : Type 0} (n : ℕ) (free on : Bool) (s : Stop) (bs at rest : List ℕ) → turn free bs ≡ got on at → on ≡ true → n ≡ 32 → full {V = V} why at ≡ stop s rest → ReadingStops s (further why n free bs) rest
  unfolding further
  none_further n free on s bs at rest e o z h =
      stops_at s (further why n free bs) rest
      (ap (λ y. y >>= in_room (n == 32)) e
      ∙ ap (λ b. if b then full why at else got on at) (ap (λ b. b && (n == 32)) o ∙ eq-eqb n 32 z)
      ∙ full_as why s at rest h)

module _ {T X : Type 0} (why : ℕ → Stop) (add : T → X → T) (one : Reading X) where
  -- the items of t, and what follows them, once it is known whether an item does
  abbrev behind : ℕ → T → Bool → Reading T
  behind room t on rest = if on then (one rest >>= λ x after. items why add one room false (add t x) after) else got t rest

  -- the reading of the whole, after n items, which t has
  pub record SoFar (n : ℕ) (free : Bool) (t : T) (bs : List ℕ) (whole : Read T) : Type 0 where
    pub count : n ≤ 32
    pub reads : items why add one (32 - n) free t bs ≡ whole

  full_now : (room : ℕ) (t : T) (y : Read Bool) → (y >>= λ on rest. if on then full why rest else got t rest) ≡ ((y >>= in_room why true) >>= behind room t)
  unfolding full
  full_now room t (got true []) = refl
  full_now room t (got true (b ∷ bs)) = refl
  full_now room t (got false rest) = refl
  full_now room t (stop s rest) = refl

  not_full : (room : ℕ) (t : T) (y : Read Bool) → (y >>= behind room t) ≡ ((y >>= in_room why false) >>= behind room t)
  not_full room t (got true rest) = refl
  not_full room t (got false rest) = refl
  not_full room t (stop s rest) = refl

  by_room : (b : Bool) (n : ℕ) (free : Bool) (t : T) (bs : List ℕ) → n ≤ 32 → (n == 32) ≡ b → items why add one (32 - n) free t bs ≡ ((turn free bs >>= in_room why b) >>= behind (32 - (n + 1)) t)
  by_room true n free t bs p e =
      let k : n ≡ 32 = eqb-true n 32 e in
      let z : 32 - n ≡ 0 = omega (arith, k) in
      ap (λ room. items why add one room free t bs) z ∙ full_now (32 - (n + 1)) t (turn free bs)
  by_room false n free t bs p e =
      let k : n ≢ 32 = λ q. let f : true ≡ false = sym (eq-eqb n 32 q) ∙ e in let g : ⊥ = cc in g in
      let z : 32 - n ≡ suc (32 - (n + 1)) = omega (arith, p, k) in
      ap (λ room. items why add one room free t bs) z ∙ not_full (32 - (n + 1)) t (turn free bs)

  goes_on : (n : ℕ) (free : Bool) (t : T) (bs : List ℕ) (whole : Read T) → SoFar n free t bs whole → whole ≡ (further why n free bs >>= behind (32 - (n + 1)) t)
  unfolding further
  goes_on n free t bs whole s = sym s.reads ∙ by_room (n == 32) n free t bs s.count refl

  pub further_stops : (n : ℕ) (free : Bool) (t : T) (s : Stop) (bs rest : List ℕ) (whole : Read T) → SoFar n free t bs whole → ReadingStops s (further why n free bs) rest → ReadingStops s whole rest
  further_stops n free t s bs rest whole so h =
      stops_as s whole (further why n free bs >>= behind (32 - (n + 1)) t) rest (goes_on n free t bs whole so)
      (stops_through s (further why n free bs) (behind (32 - (n + 1)) t) rest h)

  -- the last item is passed
  pub ends : (n : ℕ) (free on : Bool) (t : T) (bs rest : List ℕ) (whole : Read T) → SoFar n free t bs whole → further why n free bs ≡ got on rest → on ≡ false → whole ≡ got t rest
  ends n free on t bs rest whole so h e =
      goes_on n free t bs whole so ∙ ap (λ y. y >>= behind (32 - (n + 1)) t) (h ∙ ap (λ b. got b rest) e)

  at_item : (n : ℕ) (free on : Bool) (t : T) (bs at : List ℕ) (whole : Read T) → SoFar n free t bs whole → further why n free bs ≡ got on at → on ≡ true
      → whole ≡ (one at >>= λ x after. items why add one (32 - (n + 1)) false (add t x) after)
  at_item n free on t bs at whole so h e =
      goes_on n free t bs whole so ∙ ap (λ y. y >>= behind (32 - (n + 1)) t) (h ∙ ap (λ b. got b at) e)

  -- an item is added before the others are read
  by_adding : (room : ℕ) (t : T) (y : Read X)
      → (y >>= λ x after. items why add one room false (add t x) after) ≡ ((y >>= λ x after. got (add t x) after) >>= items why add one room false)
  by_adding room t (got x after) = refl
  by_adding room t (stop s rest) = refl

  pub one_stops : (n : ℕ) (free on : Bool) (t : T) (s : Stop) (bs at rest : List ℕ) (whole : Read T) → SoFar n free t bs whole → further why n free bs ≡ got on at → on ≡ true → ReadingStops s (adding add one t at) rest → ReadingStops s whole rest
  one_stops n free on t s bs at rest whole so h e k =
      stops_as s whole (adding add one t at >>= items why add one (32 - (n + 1)) false) rest (at_item n free on t bs at whole so h e ∙ by_adding (32 - (n + 1)) t (one at))
      (stops_through s (adding add one t at) (items why add one (32 - (n + 1)) false) rest k)

  below : (b on : Bool) (y : Read Bool) (at : List ℕ) → (y >>= in_room why b) ≡ got on at → on ≡ true → b ≡ false
  unfolding full
  below false on y at h e = refl
  below true on (got true []) at h e = absurd (let g : ⊥ = cc in g)
  below true on (got true (b ∷ bs)) at h e = absurd (let g : ⊥ = cc in g)
  below true on (got false rest) at h e = absurd (let g : ⊥ = cc in g)
  below true on (stop s rest) at h e = absurd (let g : ⊥ = cc in g)

  has_room : (n : ℕ) (free on : Bool) (bs at : List ℕ) → n ≤ 32 → further why n free bs ≡ got on at → on ≡ true → n + 1 ≤ 32
  unfolding further
  has_room n free on bs at p h e =
      let f : (n == 32) ≡ false = below (n == 32) on (turn free bs) at h e in
      let k : n ≢ 32 = λ q. let f : true ≡ false = sym (eq-eqb n 32 q) ∙ f in let g : ⊥ = cc in g in
      omega (arith, p, k)

  -- an item is read
  pub one_more : (n : ℕ) (free on : Bool) (t u : T) (bs at after : List ℕ) (whole : Read T) → SoFar n free t bs whole → further why n free bs ≡ got on at → on ≡ true → adding add one t at ≡ got u after
      → SoFar (n + 1) false u after whole
  one_more n free on t u bs at after whole so h e r = record {
    count = has_room n free on bs at so.count h e;
    reads = sym (at_item n free on t bs at whole so h e ∙ by_adding (32 - (n + 1)) t (one at) ∙ ap (λ y. y >>= items why add one (32 - (n + 1)) false) r);
  }

module _ {L : Type 0} (length_of : L → ℕ) (begins : ℕ → Bool) (leaf_at : Reading L) (empty : leaf_at [] ≡ stop BadByte []) where
  open_case : {V : Type 0} → (bs : List ℕ) (f g : Reading V) → opens bs ≡ true → look 40 f g bs ≡ f bs
  open_case [] f g h = absurd (let g : ⊥ = cc in g)
  open_case (b ∷ bs) f g h = ap (λ s. cond s (f (b ∷ bs)) (g (b ∷ bs))) h

  plain_case : (bs : List ℕ) (f : Reading (Option (TreeItem L))) → opens bs ≡ false → look 40 f (leaf_item length_of begins leaf_at) bs ≡ leaf_item length_of begins leaf_at bs
  plain_case [] f h = ap (λ y. y >>= λ x rest. got (Some (leaf x)) rest) (sym empty)
  plain_case (b ∷ bs) f h = ap (λ s. cond s (f (b ∷ bs)) (leaf_item length_of begins leaf_at (b ∷ bs))) h

  -- an item that is no list
  pub at_plain : (levels : ℕ) (bs : List ℕ) → opens bs ≡ false → item_at length_of begins leaf_at levels bs ≡ leaf_item length_of begins leaf_at bs
  unfolding item_at
  at_plain zero bs h = plain_case bs (λ u. stop TooDeep u) h
  at_plain (suc levels) bs h = plain_case bs (λ u. list length_of begins leaf_at (no_room begins levels) (item_at length_of begins leaf_at levels) u >>= λ t rest. got (option_map inner t) rest) h

  pub at_ninth : (levels : ℕ) (bs : List ℕ) → opens bs ≡ true → levels ≡ 0 → item_at length_of begins leaf_at levels bs ≡ stop TooDeep bs
  unfolding item_at
  at_ninth zero bs h e = open_case bs (λ u. stop TooDeep u) (leaf_item length_of begins leaf_at) h
  at_ninth (suc levels) bs h e = absurd (omega arith)

  -- what follows the items of a list, and the parenthesis that opens it
  abbrev pub closed : Option (Items L) → Reading (Option (TreeItem L))
  closed t = named (codes ")") (option_map inner t)

  abbrev pub opened : ℕ → Bool → Reading (Option (TreeItem L))
  opened levels on rest = items_at length_of begins leaf_at levels rest >>= closed

  by_end : (y : Read Bool) (t : Option (Items L)) → ((y >>= λ _ after. got t after) >>= λ t rest. got (option_map inner t) rest) ≡ (y >>= λ _ rest. got (option_map inner t) rest)
  by_end (got b rest) t = refl
  by_end (stop s rest) t = refl

  by_items : (y : Read (Option (Items L)))
      → ((y >>= λ t at. word (codes ")") at >>= λ _ after. got t after) >>= λ t rest. got (option_map inner t) rest) ≡ (y >>= closed)
  by_items (got t at) = by_end (word (codes ")") at) t
  by_items (stop s rest) = refl

  by_start : (levels : ℕ) (y : Read Bool)
      → ((y >>= λ _ rest. items (no_room begins levels) (kept_with length_of) (item_at length_of begins leaf_at levels) 32 true (Some none) rest >>= λ t at. word (codes ")") at >>= λ _ after. got t after) >>= λ t rest. got (option_map inner t) rest)
      ≡ (y >>= opened levels)
  unfolding items_at
  by_start levels (got b rest) = by_items (items (no_room begins levels) (kept_with length_of) (item_at length_of begins leaf_at levels) 32 true (Some none) rest)
  by_start levels (stop s rest) = refl

  -- an item that is a list
  pub at_list : (levels : ℕ) (bs : List ℕ) → opens bs ≡ true → levels ≢ 0 → item_at length_of begins leaf_at levels bs ≡ (word (codes "(") bs >>= opened (levels - 1))
  unfolding item_at
  at_list zero bs h p = absurd (p refl)
  at_list (suc levels) bs h p =
      let e : suc levels - 1 ≡ levels = omega arith in
      open_case bs (λ u. list length_of begins leaf_at (no_room begins levels) (item_at length_of begins leaf_at levels) u >>= λ t rest. got (option_map inner t) rest) (leaf_item length_of begins leaf_at) h
      ∙ by_start levels (word (codes "(") bs) ∙ ap (λ n. word (codes "(") bs >>= opened n) (sym e)

  pub at_items : (levels : ℕ) (b : Bool) (bs rest : List ℕ) → opens bs ≡ true → levels ≢ 0 → word (codes "(") bs ≡ got b rest
      → item_at length_of begins leaf_at levels bs ≡ (items_at length_of begins leaf_at (levels - 1) rest >>= closed)
  at_items levels b bs rest h p e = at_list levels bs h p ∙ ap (λ y. y >>= opened (levels - 1)) e

  pub items_start : (levels : ℕ) (t : Option (Items L)) (x : Items L) (bs : List ℕ) → t ≡ Some x → x ≡ none
      → SoFar (no_room begins levels) (kept_with length_of) (item_at length_of begins leaf_at levels) 0 true t bs (items_at length_of begins leaf_at levels bs)
  unfolding items_at
  items_start levels t x bs e f = record {
    count = omega arith;
    reads = ap (λ u. items (no_room begins levels) (kept_with length_of) (item_at length_of begins leaf_at levels) 32 true u bs) (e ∙ ap Some f);
  }

pub datum_empty : datum [] ≡ stop BadByte []
unfolding datum
datum_empty = refl

pub slot_empty : slot [] ≡ stop BadByte []
unfolding slot
slot_empty = refl
