-- Reading lists keeps to the grammar, whatever their items are.
use Rattle.std.proofs.Common.{◌≡◌, ℕ, zero, suc, ◌≤◌, ◌==◌, Bool, true, false, cond, List, [], ◌∷◌, ◌++◌, codes, refl}
use Rattle.std.proofs.Common.{ap, sym, subst, ◌∙◌, append_assoc, append-nil, arith, if◌then◌else◌}
use Rattle.tuple_tree.specs.Items.{TreeItem, Items, none, item, with_last, how_many}
use Rattle.tuple_text.specs.Texts.{AreBlanks, ItemText, WholeText}
use Rattle.tuple_text.specs.Reading.{got, stop, Reading, ◌>>=◌, word, blanks, turn, follows, full, items}
use Rattle.tuple_text.specs.declared.reader.Stop.{Stop}
use Rattle.tuple_text.specs.declared.reader.Stop.TheVariants.{BadByte, TooDeep, TooManyFields, TooLong, NoMemory}
use Rattle.tuple_text.proofs.Right.{Limits, both, levels, no_limits, DecidesAt, RightTo, RightAs, Never, then_to}
use Rattle.tuple_text.proofs.Right.{then_right, nothing_passed}
use Rattle.tuple_text.proofs.Blanks.{Frees, ArePassed, BeginsBlanks, blanks_right, IsWord, BeginsWord, word_right}
use Rattle.tuple_text.proofs.Endings.{join, join_none, join_last, Each, Ends, ends_to_items}

abbrev pub Follows : Bool → Bool → List ℕ → Type 0
Follows free true w = (w ≡ []) × (free ≡ true)
Follows free false w = w ≡ []

abbrev pub IsEmpty : Limits → List ℕ → Type 0
IsEmpty c w = w ≡ []

follows_case : (free : Bool) (b : ℕ) (bs : List ℕ) (s t : Bool) → free ≡ t → RightAs (Follows free) IsEmpty (b ∷ bs) (cond s (got false (b ∷ bs)) (cond t (got true (b ∷ bs)) (stop BadByte (b ∷ bs))))
follows_case free b bs true t f = record { passed = []; whole = refl; is = refl }
follows_case free b bs false true f = record { passed = []; whole = refl; is = (refl, f) }
follows_case free b bs false false f = nothing_passed IsEmpty Never (b ∷ bs) refl

follows_right : (free : Bool) (bs : List ℕ) → RightAs (Follows free) IsEmpty bs (follows free bs)
unfolding follows
follows_right free [] = nothing_passed IsEmpty Never [] refl
follows_right free (b ∷ bs) = follows_case free b bs (b == 41) free refl

-- the blanks before an item, or before the end of the list
abbrev pub IsTurn : Bool → Bool → List ℕ → Type 0
IsTurn free true w = AreBlanks w × Frees free w
IsTurn free false w = AreBlanks w

turn_is : (free v : Bool) (front : List ℕ) → ArePassed free v front → (on : Bool) (t : List ℕ) → Follows v on t → IsTurn free on (front ++ t)
turn_is free v front h true t k =
    subst (λ w. IsTurn free true w) (sym (ap (λ s. front ++ s) k.0 ∙ append-nil front)) (h.0, h.1 k.1)
turn_is free v front h false t k = subst AreBlanks (sym (ap (λ s. front ++ s) k ∙ append-nil front)) h.0

turn_begins : (front : List ℕ) → AreBlanks front → (c : Limits) (t : List ℕ) → IsEmpty c t → BeginsBlanks c (front ++ t)
turn_begins front h c t e = subst AreBlanks (sym (ap (λ s. front ++ s) e ∙ append-nil front)) h

pub turn_right : (free : Bool) (bs : List ℕ) → RightAs (IsTurn free) BeginsBlanks bs (turn free bs)
unfolding turn
turn_right free bs =
    then_right (ArePassed free) BeginsBlanks Follows (λ v. IsEmpty) (IsTurn free) BeginsBlanks bs (blanks free bs) follows
    (λ c w h. h) (turn_is free) (λ v front h. turn_begins front h.0) (blanks_right free bs) follows_right

-- a closing parenthesis: Q holds of the list that it gives, P of one that it refuses
abbrev pub ClosesTo : {L : Type 0} → (Items L → Type 0) → Items L → Items L → List ℕ → Type 0
ClosesTo Q t v w = (v ≡ t) × (w ≡ 41 ∷ []) × Q v

abbrev pub ClosesLong : {L : Type 0} → (Items L → Type 0) → Items L → List ℕ → Type 0
ClosesLong P t w = (w ≡ 41 ∷ []) × P t

module _ {L : Type 0} (leaf_text : L → List ℕ) (OneIs : Limits → TreeItem L → Type 0) where
  abbrev pub IsOne : TreeItem L → List ℕ → Type 0
  IsOne x w = ItemText leaf_text x w × OneIs both x

  abbrev pub BeginsOne : Limits → List ℕ → Type 0
  BeginsOne c w = (x : TreeItem L) × (u : List ℕ) × ItemText leaf_text x (w ++ u) × OneIs c x

  abbrev pub Counts : Limits → ℕ → Items L → Type 0
  Counts both room xs = how_many xs ≤ room
  Counts levels room xs = Unit {0}
  Counts no_limits room xs = Unit {0}

  abbrev pub IsItems : ℕ → Bool → Items L → Items L → List ℕ → Type 0
  IsItems room free t v w = (xs : Items L) × (v ≡ join t xs) × Ends leaf_text free xs w × Each (OneIs both) xs × (how_many xs ≤ room)

  abbrev pub BeginsItems : ℕ → Bool → Limits → List ℕ → Type 0
  BeginsItems room free c w = (xs : Items L) × (u : List ℕ) × Ends leaf_text free xs (w ++ u) × Each (OneIs c) xs × Counts c room xs

  -- after a turn: the end, or an item and more
  abbrev AtTurn : (Items L → List ℕ → Type 0) → Items L → Bool → Items L → List ℕ → Type 0
  AtTurn P t true v w = P v w
  AtTurn P t false v w = (v ≡ t) × (w ≡ [])

  abbrev BeginsAtTurn : (Limits → List ℕ → Type 0) → Bool → Limits → List ℕ → Type 0
  BeginsAtTurn B true c w = B c w
  BeginsAtTurn B false c w = ⊥

  -- an item, and what follows it
  abbrev IsMore : ℕ → Items L → Items L → List ℕ → Type 0
  IsMore room t v w = (x : TreeItem L) × (front rest : List ℕ) × (w ≡ front ++ rest) × IsOne x front × IsItems room false (with_last t x) v rest

  abbrev BeginsMore : ℕ → Limits → List ℕ → Type 0
  BeginsMore room c w =
      (x : TreeItem L) × (xs : Items L) × (u front rest : List ℕ) × (w ++ u ≡ front ++ rest) × ItemText leaf_text x front × OneIs c x × Ends leaf_text false xs rest × Each (OneIs c) xs × Counts c room xs

  -- if no further item has room, one may still begin
  abbrev NoRoom : Limits → List ℕ → Type 0
  NoRoom both w = w ≡ []
  NoRoom levels w = BeginsOne levels w
  NoRoom no_limits w = BeginsOne no_limits w

  no_count : (c : Limits) (room : ℕ) → Counts c room none
  no_count both room = omega arith
  no_count levels room = tt
  no_count no_limits room = tt

  one_count : (c : Limits) (room : ℕ) (x : TreeItem L) (xs : Items L) → Counts c room xs → Counts c (suc room) (item x xs)
  one_count both room x xs h = omega (arith, h)
  one_count levels room x xs h = tt
  one_count no_limits room x xs h = tt

  turn_begins_items : (room : ℕ) (free : Bool) (c : Limits) (w : List ℕ) → AreBlanks w → BeginsItems room free c w
  turn_begins_items room free c w h = (none, [], subst AreBlanks (sym (append-nil w)) h, tt, no_count c room)

  closed_items : (room : ℕ) (free : Bool) (t v : Items L) (front w : List ℕ) → AreBlanks front → v ≡ t → w ≡ [] → IsItems room free t v (front ++ w)
  closed_items room free t v front w h e f =
      (none, e ∙ sym (join_none t), subst AreBlanks (sym (ap (λ s. front ++ s) f ∙ append-nil front)) h, tt, omega arith)

  more_items : (room : ℕ) (free : Bool) (t v : Items L) (front w : List ℕ) → IsTurn free true front → IsMore room t v w → IsItems (suc room) free t v (front ++ w)
  more_items room free t v front w h k =
      let r = k.5 in
      (item k.0 r.0, r.1 ∙ join_last t k.0 r.0, (front, k.1, k.2, ap (λ s. front ++ s) k.3, h.0, h.1, k.4.0, r.2), (k.4.1, r.3), omega (arith, r.4))

  items_are : (room : ℕ) (free : Bool) (t : Items L) (on : Bool) (front : List ℕ) → IsTurn free on front → (v : Items L) (w : List ℕ) → AtTurn (IsMore room t) t on v w → IsItems (suc room) free t v (front ++ w)
  items_are room free t true front h v w k = more_items room free t v front w h k
  items_are room free t false front h v w k = closed_items (suc room) free t v front w h k.0 k.1

  items_begin : (room : ℕ) (free on : Bool) (front : List ℕ) → IsTurn free on front → (c : Limits) (w : List ℕ) → BeginsAtTurn (BeginsMore room) on c w → BeginsItems (suc room) free c (front ++ w)
  items_begin room free true front h c w k =
      (item k.0 k.1, k.2, (front, k.3, k.4, append_assoc front w k.2 ∙ ap (λ s. front ++ s) k.5, h.0, h.1, k.6, k.8), (k.7, k.9), one_count c room k.0 k.1 k.10)
  items_begin room free false front h c w k = absurd k

  one_begins_more : (room : ℕ) (c : Limits) (w : List ℕ) → BeginsOne c w → BeginsMore room c w
  one_begins_more room c w h = (h.0, none, h.1, w ++ h.1, [], sym (append-nil (w ++ h.1)), h.2, h.3, tt, tt, no_count c room)

  more_begins_more : (room : ℕ) (x : TreeItem L) (front : List ℕ) → IsOne x front → ((c : Limits) → OneIs both x → OneIs c x) → (c : Limits) (w : List ℕ) → BeginsItems room false c w → BeginsMore room c (front ++ w)
  more_begins_more room x front h weaker c w k = (x, k.0, k.1, front, w ++ k.1, append_assoc front w k.1, h.0, weaker c h.1, k.2, k.3, k.4)

  -- the text of a whole list
  pub record IsList (c : Limits) (t : Items L) (w : List ℕ) : Type 0 where
    pub text : WholeText leaf_text t w
    pub each : Each (OneIs c) t
    pub count : Counts c 32 t

  abbrev pub BeginsList : Limits → List ℕ → Type 0
  BeginsList c w = (t : Items L) × (u : List ℕ) × IsList c t (w ++ u)

  -- a list that Q holds of, and one that P holds of
  abbrev pub IsKept : (Items L → Type 0) → Items L → List ℕ → Type 0
  IsKept Q t w = IsList both t w × Q t

  abbrev pub IsLong : (Items L → Type 0) → List ℕ → Type 0
  IsLong P w = (t : Items L) × IsList both t w × P t

  pub some_list : (c : Limits) → IsList c none (40 ∷ 41 ∷ [])
  some_list c = record { text = ([], refl, tt); each = tt; count = no_count c 32 }

  module _ (why : ℕ → Stop) (one : Reading (TreeItem L)) (one_right : (bs : List ℕ) → RightAs IsOne BeginsOne bs (one bs)) (weaker : (c : Limits) (x : TreeItem L) → OneIs both x → OneIs c x)
      (refuses : (b : ℕ) (bs : List ℕ) → DecidesAt BeginsOne Never (why b) [] (b ∷ bs)) where
    no_room_decides : (s : Stop) (rest : List ℕ) → DecidesAt BeginsOne Never s [] rest → DecidesAt NoRoom Never s [] rest
    no_room_decides BadByte rest h = tt
    no_room_decides TooDeep rest h = h
    no_room_decides TooManyFields rest h = h
    no_room_decides TooLong rest h = absurd h.4
    no_room_decides NoMemory rest h = h

    full_right : (t : Items L) (bs : List ℕ) → RightAs (λ (v : Items L) w. ⊥) NoRoom bs (full {V = Items L} why bs)
    unfolding full
    full_right t [] = nothing_passed NoRoom Never [] refl
    full_right t (b ∷ bs) = record { passed = []; whole = refl; begins = refl; decides = no_room_decides (why b) (b ∷ bs) (refuses b bs) }

    one_more_is : (front w u : List ℕ) → (front ++ w) ++ u ≡ front ++ ((w ++ u) ++ [])
    one_more_is front w u = append_assoc front w u ∙ ap (λ s. front ++ s) (sym (append-nil (w ++ u)))

    no_room_begins : (free on : Bool) (front : List ℕ) → IsTurn free on front → (c : Limits) (w : List ℕ) → BeginsAtTurn NoRoom on c w → BeginsItems zero free c (front ++ w)
    no_room_begins free true front h both w k = (none, [], subst AreBlanks (sym (append-nil (front ++ w) ∙ ap (λ s. front ++ s) k ∙ append-nil front)) h.0, tt, omega arith)
    no_room_begins free true front h levels w k = (item k.0 none, k.1, (front, w ++ k.1, [], one_more_is front w k.1, h.0, h.1, k.2, tt), (k.3, tt), tt)
    no_room_begins free true front h no_limits w k = (item k.0 none, k.1, (front, w ++ k.1, [], one_more_is front w k.1, h.0, h.1, k.2, tt), (k.3, tt), tt)
    no_room_begins free false front h c w k = absurd k

    no_room_items : (free : Bool) (t : Items L) (on : Bool) (front : List ℕ) → IsTurn free on front → (v : Items L) (w : List ℕ) → AtTurn (λ v w. ⊥) t on v w → IsItems zero free t v (front ++ w)
    no_room_items free t true front h v w k = absurd k
    no_room_items free t false front h v w k = closed_items zero free t v front w h k.0 k.1

    zero_right : (t : Items L) (on : Bool) (rest : List ℕ) → RightAs (AtTurn (λ v w. ⊥) t on) (BeginsAtTurn NoRoom on) rest (if on then full why rest else got t rest)
    zero_right t true rest = full_right t rest
    zero_right t false rest = record { passed = []; whole = refl; is = (refl, refl) }

    more_right : (room : ℕ) (t : Items L) (on : Bool) (rest : List ℕ) → ((x : TreeItem L) (after : List ℕ) → RightAs (IsItems room false (with_last t x)) (BeginsItems room false) after (items why with_last one room false (with_last t x) after))
        → RightAs (AtTurn (IsMore room t) t on) (BeginsAtTurn (BeginsMore room) on) rest (if on then (one rest >>= λ x after. items why with_last one room false (with_last t x) after) else got t rest)
    more_right room t true rest h =
        then_right IsOne BeginsOne (λ x. IsItems room false (with_last t x)) (λ x. BeginsItems room false) (IsMore room t) (BeginsMore room) rest (one rest) (λ x after. items why with_last one room false (with_last t x) after)
        (one_begins_more room)
        (λ x front k v w m. (x, front, w, refl, k, m))
        (λ x front k. more_begins_more room x front k (λ c. weaker c x))
        (one_right rest) h
    more_right room t false rest h = record { passed = []; whole = refl; is = (refl, refl) }

    pub items_right : (room : ℕ) (free : Bool) (t : Items L) (bs : List ℕ) → RightAs (IsItems room free t) (BeginsItems room free) bs (items why with_last one room free t bs)
    items_right zero free t bs =
        then_right (IsTurn free) BeginsBlanks (AtTurn (λ v w. ⊥) t) (BeginsAtTurn NoRoom) (IsItems zero free t) (BeginsItems zero free) bs (turn free bs) (λ on rest. if on then full why rest else got t rest)
        (turn_begins_items zero free) (no_room_items free t) (no_room_begins free) (turn_right free bs) (zero_right t)
    items_right (suc room) free t bs =
        then_right (IsTurn free) BeginsBlanks (AtTurn (IsMore room t) t) (BeginsAtTurn (BeginsMore room)) (IsItems (suc room) free t) (BeginsItems (suc room) free) bs (turn free bs)
        (λ on rest. if on then (one rest >>= λ x after. items why with_last one room false (with_last t x) after) else got t rest)
        (turn_begins_items (suc room) free) (items_are room free t) (items_begin room free) (turn_right free bs)
        (λ on rest. more_right room t on rest (λ x after. items_right room false (with_last t x) after))

    -- The whole list with its closing parenthesis: Q holds of the list that it gives, P of one that it refuses.
    module _ (Q P : Items L → Type 0) where
      body_is : (t : Items L) (front w : List ℕ) → IsItems 32 true none t front → w ≡ 41 ∷ [] → IsList both t (40 ∷ front ++ w)
      body_is t front w h e =
          let r : IsList both h.0 (40 ∷ front ++ w) = record { text = (front, ap (λ s. 40 ∷ front ++ s) e, ends_to_items leaf_text h.0 front h.2); each = h.3; count = h.4 } in
          subst (λ x. IsList both x (40 ∷ front ++ w)) (sym h.1) r

      items_begin_list : (c : Limits) (w : List ℕ) → BeginsItems 32 true c w → BeginsList c (40 ∷ w)
      items_begin_list c w h =
          (h.0, h.1 ++ 41 ∷ [], record { text = (w ++ h.1, ap (λ s. 40 ∷ s) (sym (append_assoc w h.1 (41 ∷ []))), ends_to_items leaf_text h.0 (w ++ h.1) h.2); each = h.3; count = h.4 })

      each_weaker : (c : Limits) (xs : Items L) → Each (OneIs both) xs → Each (OneIs c) xs
      each_weaker c none h = tt
      each_weaker c (item x xs) h = (weaker c x h.0, each_weaker c xs h.1)

      list_weaker : (c : Limits) (t : Items L) (w : List ℕ) → IsList both t w → IsList c t w
      list_weaker both t w h = h
      list_weaker levels t w h = record { text = h.text; each = each_weaker levels t h.each; count = tt }
      list_weaker no_limits t w h = record { text = h.text; each = each_weaker no_limits t h.each; count = tt }

      close_begins : (t : Items L) (front : List ℕ) → IsItems 32 true none t front → (c : Limits) (w : List ℕ) → BeginsWord (codes ")") c w → BeginsList c (40 ∷ front ++ w)
      close_begins t front h c w k =
          (t, k.0, subst (IsList c t) (ap (λ s. 40 ∷ s) (sym (append_assoc front w k.0))) (list_weaker c t (40 ∷ front ++ (w ++ k.0)) (body_is t front (w ++ k.0) h k.1)))

      body_right : (f : Items L → Reading (Items L)) → ((t : Items L) (bs : List ℕ) → RightTo (ClosesTo Q t) (BeginsWord (codes ")")) (ClosesLong P t) bs (f t bs))
          → (bs : List ℕ) → RightTo (λ t w. IsKept Q t (40 ∷ w)) (λ c w. BeginsList c (40 ∷ w)) (λ w. IsLong P (40 ∷ w)) bs (items why with_last one 32 true none bs >>= f)
      body_right f h bs =
          then_to (IsItems 32 true none) (BeginsItems 32 true) Never (ClosesTo Q) (λ t. BeginsWord (codes ")")) (ClosesLong P) (λ t w. IsKept Q t (40 ∷ w)) (λ c w. BeginsList c (40 ∷ w)) (λ w. IsLong P (40 ∷ w)) bs
          (items why with_last one 32 true none bs) f
          items_begin_list (λ t d. absurd d)
          (λ t front k v w m. subst (λ x. IsKept Q x (40 ∷ front ++ w)) (sym m.0) (body_is t front w k m.1, subst Q m.0 m.2))
          close_begins
          (λ t front k w m. (t, body_is t front w k m.0, m.1))
          (items_right 32 true none bs) h

      begins_paren : (c : Limits) (w : List ℕ) → BeginsWord (codes "(") c w → BeginsList c w
      begins_paren c w h = (none, h.0 ++ 41 ∷ [], subst (IsList c none) (ap (λ s. s ++ 41 ∷ []) (sym h.1) ∙ append_assoc w h.0 (41 ∷ [])) (some_list c))

      pub list_right : (f : Items L → Reading (Items L)) → ((t : Items L) (bs : List ℕ) → RightTo (ClosesTo Q t) (BeginsWord (codes ")")) (ClosesLong P t) bs (f t bs))
          → (bs : List ℕ) → RightTo (IsKept Q) BeginsList (IsLong P) bs (word (codes "(") bs >>= λ _ rest. items why with_last one 32 true none rest >>= f)
      list_right f h bs =
          then_to (IsWord (codes "(")) (BeginsWord (codes "(")) Never (λ _ t w. IsKept Q t (40 ∷ w)) (λ _ c w. BeginsList c (40 ∷ w)) (λ _ w. IsLong P (40 ∷ w)) (IsKept Q) BeginsList (IsLong P) bs
          (word (codes "(") bs) (λ _ rest. items why with_last one 32 true none rest >>= f)
          begins_paren (λ t d. absurd d)
          (λ _ front e t w k. subst (λ s. IsKept Q t (s ++ w)) (sym e) k)
          (λ _ front e c w k. subst (λ s. BeginsList c (s ++ w)) (sym e) k)
          (λ _ front e w k. subst (λ s. IsLong P (s ++ w)) (sym e) k)
          (word_right (codes "(") bs) (λ _ rest. body_right f h rest)
