-- A vote that a log adds.
use Rattle.std.proofs.Common.{◌≡◌, ℕ, ◌<◌, Bool, true, false, cond, List, [], ◌∷◌, ◌++◌, Option, Some, None, option_map, is_some, find, refl, sym, ◌∙◌, subst, arith, eqb-true, eq-eqb, ◌==◌}
use Rattle.std.proofs.lemmas.List.{length-append}
use Rattle.std.specs.Bool.{then_some}
use Rattle.smallvec.specs.SmallVec.{SmallVec, HasRoomFor}
use Rattle.quorum.specs.Votes.{or_else}
use Rattle.ordering.specs.declared.votes.Vote.{Vote}
use Rattle.ordering.specs.Votes.{voted_digest, AreVotes, with_vote}
use Rattle.ordering.proofs.Counting.{no_more}

eqb_swap : (a b : ℕ) → (a == b) ≡ false → (b == a) ≡ false
eqb_swap a b h = go (b == a) refl
  where
    go : (x : Bool) → (b == a) ≡ x → x ≡ false
    go false e = refl
    go true e = sym (eq-eqb a b (sym (eqb-true b a e))) ∙ h

-- the digest that a sender votes for, after one more vote at the end
pushed_of : (vote : Vote) (votes : List Vote) (s : ℕ) → voted_digest (votes ++ vote ∷ []) s ≡ or_else (voted_digest votes s) (then_some (vote.sender.0 == s) vote.digest)
pushed_of vote [] s = go (vote.sender.0 == s)
  where
    go : (b : Bool) → option_map (λ (v : Vote). v.digest) (cond b (Some vote) None) ≡ then_some b vote.digest
    go true = refl
    go false = refl
pushed_of vote (x ∷ xs) s = go (x.sender.0 == s) (pushed_of vote xs s)
  where
    go : (b : Bool) → voted_digest (xs ++ vote ∷ []) s ≡ or_else (voted_digest xs s) (then_some (vote.sender.0 == s) vote.digest)
        → option_map (λ (v : Vote). v.digest) (cond b (Some x) (find (λ (v : Vote). v.sender.0 == s) (xs ++ vote ∷ [])))
        ≡ or_else (option_map (λ (v : Vote). v.digest) (cond b (Some x) (find (λ (v : Vote). v.sender.0 == s) xs))) (then_some (vote.sender.0 == s) vote.digest)
    go true h = refl
    go false h = h

push_keeps : (n : ℕ) (vote : Vote) (votes : List Vote) → AreVotes n votes → voted_digest votes vote.sender.0 ≡ None → vote.sender.0 < n → AreVotes n (votes ++ vote ∷ [])
push_keeps n vote [] h e l = (l, refl, tt)
push_keeps n vote (x ∷ xs) h e l = go (x.sender.0 == vote.sender.0) refl e (λ k. push_keeps n vote xs h.2 k l)
  where
    apart : (x.sender.0 == vote.sender.0) ≡ false → voted_digest (xs ++ vote ∷ []) x.sender.0 ≡ None
    apart d = pushed_of vote xs x.sender.0 ∙ rw (h.1, eqb_swap x.sender.0 vote.sender.0 d) refl

    go : (b : Bool) → (x.sender.0 == vote.sender.0) ≡ b → option_map (λ (v : Vote). v.digest) (cond b (Some x) (find (λ (v : Vote). v.sender.0 == vote.sender.0) xs)) ≡ None
        → (voted_digest xs vote.sender.0 ≡ None → AreVotes n (xs ++ vote ∷ [])) → AreVotes n (x ∷ xs ++ vote ∷ [])
    go true d k below = absurd cc
    go false d k below = (h.0, apart d, below k)

pub with_vote_keeps : (n : ℕ) (vote : Vote) (votes : List Vote) → AreVotes n votes → vote.sender.0 < n → AreVotes n (with_vote vote votes)
with_vote_keeps n vote votes h l = go (voted_digest votes vote.sender.0) refl
  where
    go : (o : Option (List ℕ)) → voted_digest votes vote.sender.0 ≡ o → AreVotes n (cond (is_some o) votes (votes ++ vote ∷ []))
    go (Some d) e = h
    go None e = push_keeps n vote votes h e l

-- if a replica has not voted, there is room for its vote
pub room_for_one : (vote : Vote) (cast : SmallVec Vote) → AreVotes 10 cast.items → cast.capacity ≡ 10 → voted_digest cast.items vote.sender.0 ≡ None → vote.sender.0 < 10 → HasRoomFor cast 1
room_for_one vote cast h c e l = let m = no_more 10 (cast.items ++ vote ∷ []) (push_keeps 10 vote cast.items h e l) in let k = length-append cast.items (vote ∷ []) in omega arith

-- such a vote at the end leaves the votes of ten replicas, and the room
pub pushed_stay : (vote : Vote) (cast new : SmallVec Vote) → AreVotes 10 cast.items → cast.capacity ≡ 10 → voted_digest cast.items vote.sender.0 ≡ None → vote.sender.0 < 10
    → new.items ≡ cast.items ++ vote ∷ [] → new.capacity ≡ cast.capacity → AreVotes 10 new.items × (new.capacity ≡ 10)
pushed_stay vote cast new h c e l items capacity = (subst (AreVotes 10) (sym items) (push_keeps 10 vote cast.items h e l), capacity ∙ c)

-- A vote that is added is the sender's first, and nobody else's.
pub with_vote_of : (vote : Vote) (votes : List Vote) (s : ℕ) → voted_digest (with_vote vote votes) s ≡ or_else (voted_digest votes s) (then_some (vote.sender.0 == s) vote.digest)
with_vote_of vote votes s = go (voted_digest votes vote.sender.0) refl
  where
    stays : (d : List ℕ) (b : Bool) → (vote.sender.0 == s) ≡ b → voted_digest votes vote.sender.0 ≡ Some d → voted_digest votes s ≡ or_else (voted_digest votes s) (then_some b vote.digest)
    stays d true e h = let k : voted_digest votes s ≡ Some d = subst (λ a. voted_digest votes a ≡ Some d) (eqb-true vote.sender.0 s e) h in rw k refl
    stays d false e h = other (voted_digest votes s)
      where
        other : (o : Option (List ℕ)) → o ≡ or_else o None
        other None = refl
        other (Some x) = refl

    go : (o : Option (List ℕ)) → voted_digest votes vote.sender.0 ≡ o → voted_digest (cond (is_some o) votes (votes ++ vote ∷ [])) s ≡ or_else (voted_digest votes s) (then_some (vote.sender.0 == s) vote.digest)
    go (Some d) e = stays d (vote.sender.0 == s) refl e
    go None e = pushed_of vote votes s
