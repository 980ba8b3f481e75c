-- The pages that the owners of the parts hold, before and after a write.
use Rattle.std.proofs.Common.{◌≡◌, ℕ, ◌+◌, ◌*◌, ◌/◌, ◌%◌, ◌<◌, Bool, true, false, List, [], inl, inr, length, map, set, get_or, get_or-set_same, get_or-set_other, ap, ◌∙◌, sym, subst, arith}
use Rattle.std.proofs.lemmas.List.{length-set, length-map, get_or-map, set-get_or, map-set}
use Rattle.std.proofs.lemmas.List.Elements.{All-set, All-get_or}
use Rattle.std.proofs.lemmas.Bool.{cases_eq}
use Rattle.std.specs.Arc.{arc_value}
use Rattle.std.specs.declared.alloc.Global.{Global}
use Rattle.std.specs.declared.sync.Arc.{Arc}
use Rattle.partition_tree.proofs.Holding.{held-set}
use Rattle.partition_tree.proofs.Parting.{page_at, page_set}
use Rattle.partition_tree.specs.Changes.{UnmarkedPartsStay}
use Rattle.partition_tree.specs.Parts.{AreFull, pages_in, parts_held, part_digest}

true_is_not_false : true ≡ false → ⊥
true_is_not_false e = cc

-- the part of an owner that was read
pub read : (owners : List (Arc (List (List ℕ)) Global)) (j : ℕ) (owner : Arc (List (List ℕ)) Global) → j < length owners → owner ≡ get_or owners j owner
    → arc_value owner ≡ get_or (parts_held owners) j []
read owners j owner h e = ap arc_value e ∙ sym (get_or-map arc_value owners j owner [] h)

-- a page that was read
pub page_read : (owners : List (Arc (List (List ℕ)) Global)) (i : ℕ) (owner : Arc (List (List ℕ)) Global) → length owners ≡ 32 → AreFull (parts_held owners) → i < 1024
    → owner ≡ get_or owners (i / 32) owner → get_or (arc_value owner) (i % 32) [] ≡ get_or (pages_in (parts_held owners)) i []
page_read owners i owner count full h e =
    let within : i / 32 < length owners = omega arith in
    let at : 32 * (i / 32) + i % 32 ≡ i = omega arith in
    let all : i / 32 < length (parts_held owners) = rw length-map within in
    ap (λ part. get_or part (i % 32) []) (read owners (i / 32) owner within e)
    ∙ sym (page_at (parts_held owners) (i / 32) (i % 32) [] full all (omega arith))
    ∙ ap (λ k. get_or (pages_in (parts_held owners)) k []) at

-- An owner takes the place of another.
module _ (owners : List (Arc (List (List ℕ)) Global)) (j : ℕ) (old new : Arc (List (List ℕ)) Global) (within : j < length owners) (was : old ≡ get_or owners j old) where
  -- that holds the same
  pub parts_kept : arc_value new ≡ arc_value old → parts_held (set owners j new) ≡ parts_held owners
  parts_kept e = held-set arc_value owners j new _ (e ∙ read owners j old within was) ∙ set-get_or (parts_held owners) j []

  -- that holds the same with a page set
  pub parts_set : (r : ℕ) (text : List ℕ) → arc_value new ≡ set (arc_value old) r text → parts_held (set owners j new) ≡ set (parts_held owners) j (set (get_or (parts_held owners) j []) r text)
  parts_set r text e = held-set arc_value owners j new _ (e ∙ ap (λ part. set part r text) (read owners j old within was))

pub set_full : (parts : List (List (List ℕ))) (j r : ℕ) (text : List ℕ) → j < length parts → AreFull parts → AreFull (set parts j (set (get_or parts j []) r text))
set_full parts j r text h full =
    All-set (λ part. length part ≡ 32) parts j (set (get_or parts j []) r text)
    (length-set (get_or parts j []) r text ∙ All-get_or (λ part. length part ≡ 32) parts j [] h full) full

pub set_pages_in : (parts : List (List (List ℕ))) (i : ℕ) (text : List ℕ) → length parts ≡ 32 → AreFull parts → i < 1024
    → pages_in (set parts (i / 32) (set (get_or parts (i / 32) []) (i % 32) text)) ≡ set (pages_in parts) i text
set_pages_in parts i text count full h =
    let at : 32 * (i / 32) + i % 32 ≡ i = omega arith in
    page_set parts (i / 32) (i % 32) text full (omega arith) (omega arith) ∙ ap (λ k. set (pages_in parts) k text) at

-- An owner takes the place of one, and holds the same with the text of the page i set.
module _ (owners : List (Arc (List (List ℕ)) Global)) (i : ℕ) (old new : Arc (List (List ℕ)) Global) (text : List ℕ) (count : length owners ≡ 32) (full : AreFull (parts_held owners)) (h : i < 1024)
    (was : old ≡ get_or owners (i / 32) old) (is : arc_value new ≡ set (arc_value old) (i % 32) text) where
  pub pages_written : pages_in (parts_held (set owners (i / 32) new)) ≡ set (pages_in (parts_held owners)) i text
  pages_written = ap pages_in (parts_set owners (i / 32) old new (omega arith) was (i % 32) text is) ∙ set_pages_in (parts_held owners) i text (length-map owners arc_value ∙ count) full h

  pub full_written : AreFull (parts_held (set owners (i / 32) new))
  full_written =
      let within : i / 32 < length (parts_held owners) = rw length-map (omega arith) in
      subst AreFull (sym (parts_set owners (i / 32) old new (omega arith) was (i % 32) text is)) (set_full (parts_held owners) (i / 32) (i % 32) text within full)

-- the digests of the parts, after the written part's digest is set
pub digests_written : (owners : List (Arc (List (List ℕ)) Global)) (j : ℕ) (new there : Arc (List (List ℕ)) Global) (inner : List (List ℕ)) (digest : List ℕ) → j < length owners
    → inner ≡ map part_digest (parts_held owners) → there ≡ get_or (set owners j new) j there → digest ≡ part_digest (arc_value there) → set inner j digest ≡ map part_digest (parts_held (set owners j new))
digests_written owners j new there inner digest h e p q =
    ap (λ ds. set ds j digest) e
    ∙ ap (set (map part_digest (parts_held owners)) j) (q ∙ ap (λ owner. part_digest (arc_value owner)) (p ∙ get_or-set_same owners j new there h))
    ∙ sym (map-set part_digest (parts_held owners) j (arc_value new))
    ∙ ap (map part_digest) (sym (map-set arc_value owners j new))

-- one more mark of change keeps the unmarked parts as they were
pub kept_elsewhere : (changed : List Bool) (before : List (List (List ℕ))) (owners : List (Arc (List (List ℕ)) Global)) (j : ℕ) (new : Arc (List (List ℕ)) Global) → length changed ≡ 32 → j < 32
    → UnmarkedPartsStay changed before (parts_held owners) → UnmarkedPartsStay (set changed j true) before (parts_held (set owners j new))
kept_elsewhere changed before owners j new count h kept k p told =
    elim (cases_eq k j) [
      | inl same ↦
          let on = get_or-set_same changed j true false (omega arith) in
          let off = ap (λ m. get_or (set changed j true) m false) (sym same) ∙ told in
          absurd (true_is_not_false (sym on ∙ off))
      | inr other ↦
          ap (λ parts. get_or parts k []) (map-set arc_value owners j new)
          ∙ get_or-set_other (parts_held owners) j k (arc_value new) [] other
          ∙ kept k p (sym (get_or-set_other changed j k true false other) ∙ told)
    ]
