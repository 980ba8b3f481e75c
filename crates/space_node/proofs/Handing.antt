-- Handles that a cluster hands out.
use Rattle.std.proofs.Common.{◌≡◌, ℕ, zero, suc, List, [], ◌∷◌, refl, sym, ap, ◌∙◌, subst}
use Rattle.std.specs.Prelude.{All, Contains, Some, slice_get}
use Rattle.std.specs.List.{remove}
use Rattle.std.proofs.lemmas.List.Elements.{All-contains, All-get_or, All-map}
use Rattle.std.proofs.lemmas.Option.{get_or_from_slice_get, none-some, same_Some, slice_get_within}
use Rattle.space_node.specs.Places.{HandleAt, HandsOut, PartyTakesHandle, parties_of}
use Rattle.space_node.specs.PartyStates.{IsNew, PartyState, new_party_state}

takes : (handles : List PartyState) (at : ℕ) (s : PartyState) → slice_get handles at ≡ Some s → PartyTakesHandle (parties_of handles) s.party (parties_of (remove handles at))
takes [] at s e = absurd (none-some s e)
takes (h ∷ handles) zero s e = record {
  before = [];
  later = parties_of handles;
  old_is = ap (λ x. x.party ∷ parties_of handles) (same_Some h s e);
  new_is = refl;
}
takes (h ∷ handles) (suc at) s e =
    let rest = takes handles at s e in
    record {
      before = h.party ∷ rest.before;
      later = rest.later;
      old_is = ap (λ ps. h.party ∷ ps) rest.old_is;
      new_is = ap (λ ps. h.party ∷ ps) rest.new_is;
    }

-- the handle at this place is handed out
pub handed : (handles : List PartyState) (at p : ℕ) (s : PartyState) → All IsNew handles → HandleAt handles p at → slice_get handles at ≡ Some s
    → HandsOut (parties_of handles) p (Some s) (parties_of (remove handles at))
handed handles at p s new there is =
    let same : there.0 ≡ s = same_Some there.0 s (sym there.1 ∙ is) in
    let party : s.party ≡ p = ap (λ (x : PartyState). x.party) (sym same) ∙ there.2 in
    let fresh : s ≡ new_party_state s.party =
    subst IsNew (get_or_from_slice_get handles at s s is) (All-get_or IsNew handles at s (slice_get_within handles at s is) new) in
    (fresh ∙ ap new_party_state party, subst (λ q. PartyTakesHandle (parties_of handles) q (parties_of (remove handles at))) party (takes handles at s is))

-- none of them is the party's
pub none_there : (handles : List PartyState) (p : ℕ) → All (λ (s : PartyState). ¬ (s.party ≡ p)) handles → ¬ Contains (parties_of handles) p
none_there handles p none h = All-contains (λ q. ¬ (q ≡ p)) (parties_of handles) p (All-map (λ q. ¬ (q ≡ p)) (λ s. s.party) handles none) h refl
