-- The sets P and Q as the program keeps them: their order, and their batches.
use Rattle.std.specs.Prelude.{nat_lt, filter, IsTrue, OnOk, OnErr, Result, Ok, Err}
use Rattle.std.specs.Arc.{arc_value}
use Rattle.std.specs.List.{insert}
use Rattle.std.proofs.Common.{◌≡◌, ℕ, zero, suc, ◌<◌, inl, inr, Bool, true, false, cond, List, [], ◌∷◌, ◌++◌, length, map, take, drop, set, refl, sym, ap, ap₂, ◌∙◌, subst}
use Rattle.std.proofs.lemmas.Bool.{and_from}
use Rattle.std.proofs.lemmas.List.{map-append, set_split, take-map}
use Rattle.sha2.specs.Sha256.{sha256}
use Rattle.sha2.proofs.Facts256.{length-sha256}
use Rattle.wire_format.specs.Lists.{Each, ascends}
use Rattle.wire_format.specs.Messages.{BatchEntryData as PqEntry}
use Rattle.wire_format.specs.Spelling.{batch_entry_before, named_before}
use Rattle.protocol.proofs.Words.Elements.{each_append, each_where, each_weaker}
use Rattle.pq_sets.specs.declared.pq_entry.PqEntry.{PqEntry as Kept}
use Rattle.pq_sets.specs.PqSetsView.{pq_entries_of, digests_of, texts_in, IsAmongTexts}
use Rattle.pq_sets.specs.Recording.{same_number, same_name, with_prepared, with_logged, above_mark, Ascends}
use Rattle.pq_sets.proofs.Keeping.{ascends_with, ascends_left, by_number, by_name}

adjacent : (before : PqEntry → PqEntry → Bool) (xs : List PqEntry) → Ascends before xs → ascends before xs ≡ true
adjacent before [] h = refl
adjacent before (x ∷ []) h = refl
adjacent before (x ∷ y ∷ ys) h = and_from (before x y) (ascends before (y ∷ ys)) h.0.0 (adjacent before (y ∷ ys) h.1)

pub prepared_order : (pq_set : List PqEntry) → Ascends batch_entry_before pq_set → IsTrue (ascends batch_entry_before pq_set)
prepared_order pq_set h = adjacent batch_entry_before pq_set h

pub logged_order : (pq_set : List PqEntry) → Ascends named_before pq_set → IsTrue (ascends named_before pq_set)
logged_order pq_set h = adjacent named_before pq_set h

named : (pq_set : List Kept) → Each (λ (x : PqEntry). length x.digest ≡ 32) (pq_entries_of pq_set)
named [] = tt
named (x ∷ xs) = (ap length x.named ∙ length-sha256 (arc_value x.batch), named xs)

as_long : (n : ℕ) (pq_set : List PqEntry) → n ≡ 32 → Each (λ (x : PqEntry). length x.digest ≡ 32) pq_set → Each (λ (x : PqEntry). length x.digest ≡ n) pq_set
as_long n pq_set is long = each_weaker (λ (x : PqEntry). length x.digest ≡ 32) (λ (x : PqEntry). length x.digest ≡ n) (λ x e. e ∙ sym is) pq_set long

pub prepared_ascends : (pq_set : List Kept) (new : PqEntry) → length new.digest ≡ 32 → Ascends batch_entry_before (pq_entries_of pq_set) → Ascends batch_entry_before (with_prepared new (pq_entries_of pq_set))
prepared_ascends pq_set new long up =
    ascends_with batch_entry_before same_number by_number new (pq_entries_of pq_set) (as_long (length new.digest) (pq_entries_of pq_set) long (named pq_set)) up

pub logged_ascends : (pq_set : List Kept) (new : PqEntry) → length new.digest ≡ 32 → Ascends named_before (pq_entries_of pq_set) → Ascends named_before (with_logged new (pq_entries_of pq_set))
logged_ascends pq_set new long up =
    ascends_with named_before same_name by_name new (pq_entries_of pq_set) (as_long (length new.digest) (pq_entries_of pq_set) long (named pq_set)) up

-- whether or not there was memory for one more
pub prepared_kept : {T E : Type 0} (r : Result T E) (old new : List Kept) (k : PqEntry) → length k.digest ≡ 32 → OnOk r (pq_entries_of new ≡ with_prepared k (pq_entries_of old)) → OnErr r (new ≡ old)
    → Ascends batch_entry_before (pq_entries_of old) → Ascends batch_entry_before (pq_entries_of new)
prepared_kept (Ok x) old new k long ok err up = subst (Ascends batch_entry_before) (sym ok) (prepared_ascends old k long up)
prepared_kept (Err e) old new k long ok err up = subst (λ (xs : List Kept). Ascends batch_entry_before (pq_entries_of xs)) (sym err) up

pub logged_kept : {T E : Type 0} (r : Result T E) (old new : List Kept) (k : PqEntry) → length k.digest ≡ 32 → OnOk r (pq_entries_of new ≡ with_logged k (pq_entries_of old)) → OnErr r (new ≡ old)
    → Ascends named_before (pq_entries_of old) → Ascends named_before (pq_entries_of new)
logged_kept (Ok x) old new k long ok err up = subst (Ascends named_before) (sym ok) (logged_ascends old k long up)
logged_kept (Err e) old new k long ok err up = subst (λ (xs : List Kept). Ascends named_before (pq_entries_of xs)) (sym err) up

pub prepared_cut : (low : ℕ) (pq_set : List PqEntry) → Ascends batch_entry_before pq_set → Ascends batch_entry_before (above_mark low pq_set)
prepared_cut low pq_set h = ascends_left batch_entry_before (λ (x : PqEntry). nat_lt low x.number) pq_set h

pub logged_cut : (low : ℕ) (pq_set : List PqEntry) → Ascends named_before pq_set → Ascends named_before (above_mark low pq_set)
logged_cut low pq_set h = ascends_left named_before (λ (x : PqEntry). nat_lt low x.number) pq_set h

-- the texts have the digests of the entries
pub texts_named : (pq_set : List Kept) → map sha256 (texts_in pq_set) ≡ digests_of (pq_entries_of pq_set)
texts_named [] = refl
texts_named (x ∷ xs) = ap₂ (λ (d : List ℕ) (ds : List (List ℕ)). d ∷ ds) (sym x.named) (texts_named xs)

-- ---- texts of the entries

among_all : (texts : List (List ℕ)) → Each (IsAmongTexts texts) texts
among_all texts = each_where (IsAmongTexts texts) texts (λ x has. has)

among_more : (one : List ℕ) (texts some : List (List ℕ)) → Each (IsAmongTexts texts) some → Each (IsAmongTexts (one ∷ texts)) some
among_more one texts some h = each_weaker (IsAmongTexts texts) (IsAmongTexts (one ∷ texts)) (λ x has. inr has) some h

pub texts_same : (one : List ℕ) (texts : List (List ℕ)) → Each (IsAmongTexts (one ∷ texts)) texts
texts_same one texts = among_more one texts texts (among_all texts)

-- a list of some texts and the one, in two parts round it
between : (one : List ℕ) (texts front behind : List (List ℕ)) → Each (IsAmongTexts texts) front → Each (IsAmongTexts texts) behind → Each (IsAmongTexts (one ∷ texts)) (front ++ one ∷ behind)
between one texts front behind a b = each_append (IsAmongTexts (one ∷ texts)) front (one ∷ behind) (among_more one texts front a) (inl refl, among_more one texts behind b)

each_taken : {A : Type 0} (P : A → Type 0) (n : ℕ) (xs : List A) → Each P xs → Each P (take n xs)
each_taken P zero xs h = tt
each_taken P (suc n) [] h = tt
each_taken P (suc n) (x ∷ xs) h = (h.0, each_taken P n xs h.1)

each_dropped : {A : Type 0} (P : A → Type 0) (n : ℕ) (xs : List A) → Each P xs → Each P (drop n xs)
each_dropped P zero xs h = h
each_dropped P (suc n) [] h = tt
each_dropped P (suc n) (x ∷ xs) h = each_dropped P n xs h.1

texts_taken : (n : ℕ) (pq_set : List Kept) → Each (IsAmongTexts (texts_in pq_set)) (texts_in (take n pq_set))
texts_taken n pq_set = subst (Each (IsAmongTexts (texts_in pq_set))) (take-map (λ (x : Kept). arc_value x.batch) n pq_set) (each_taken (IsAmongTexts (texts_in pq_set)) n (texts_in pq_set) (among_all (texts_in pq_set)))

texts_dropped : (n : ℕ) (pq_set : List Kept) → Each (IsAmongTexts (texts_in pq_set)) (texts_in (drop n pq_set))
texts_dropped n pq_set = subst (Each (IsAmongTexts (texts_in pq_set))) (drop_map n pq_set) (each_dropped (IsAmongTexts (texts_in pq_set)) n (texts_in pq_set) (among_all (texts_in pq_set)))
  where
    drop_map : (n : ℕ) (xs : List Kept) → drop n (texts_in xs) ≡ texts_in (drop n xs)
    drop_map zero xs = refl
    drop_map (suc n) [] = refl
    drop_map (suc n) (x ∷ xs) = drop_map n xs

pub texts_inserted : (k : Kept) (pq_set : List Kept) (n : ℕ) → Each (IsAmongTexts (arc_value k.batch ∷ texts_in pq_set)) (texts_in (insert pq_set n k))
texts_inserted k pq_set n =
    subst (Each (IsAmongTexts (arc_value k.batch ∷ texts_in pq_set))) (sym (map-append (λ (x : Kept). arc_value x.batch) (take n pq_set) (k ∷ drop n pq_set)))
    (between (arc_value k.batch) (texts_in pq_set) (texts_in (take n pq_set)) (texts_in (drop n pq_set)) (texts_taken n pq_set) (texts_dropped n pq_set))

pub texts_replaced : (k : Kept) (pq_set : List Kept) (n : ℕ) → n < length pq_set → Each (IsAmongTexts (arc_value k.batch ∷ texts_in pq_set)) (texts_in (set pq_set n k))
texts_replaced k pq_set n l =
    subst (λ (xs : List Kept). Each (IsAmongTexts (arc_value k.batch ∷ texts_in pq_set)) (texts_in xs)) (sym (set_split pq_set n k l))
    (subst (Each (IsAmongTexts (arc_value k.batch ∷ texts_in pq_set))) (sym (map-append (λ (x : Kept). arc_value x.batch) (take n pq_set) (k ∷ drop (suc n) pq_set)))
    (between (arc_value k.batch) (texts_in pq_set) (texts_in (take n pq_set)) (texts_in (drop (suc n) pq_set)) (texts_taken n pq_set) (texts_dropped (suc n) pq_set)))

pub texts_left : (test : Kept → Bool) (pq_set : List Kept) → Each (IsAmongTexts (texts_in pq_set)) (texts_in (filter test pq_set))
texts_left test [] = tt
texts_left test (x ∷ xs) = go (test x) (texts_left test xs)
  where
    go : (b : Bool) → Each (IsAmongTexts (texts_in xs)) (texts_in (filter test xs)) → Each (IsAmongTexts (texts_in (x ∷ xs))) (texts_in (cond b (x ∷ filter test xs) (filter test xs)))
    go true below = (inl refl, among_more (arc_value x.batch) (texts_in xs) (texts_in (filter test xs)) below)
    go false below = among_more (arc_value x.batch) (texts_in xs) (texts_in (filter test xs)) below
