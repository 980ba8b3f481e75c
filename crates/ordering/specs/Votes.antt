-- The votes for one number, in order of arrival: each sender's digest, and how many replicas vote for a digest (Castro
-- and Liskov, TOCS 2002, on quorums and certificates).
use Rattle.std.specs.Prelude.{◌≡◌, ℕ, ◌<◌, List, [], ◌∷◌, ◌++◌, ◌==◌, if◌then◌else◌, find, Option, None, option_map, is_some, ⊤}
use Rattle.quorum.specs.Quorum.{count_below}
use Rattle.quorum.specs.Votes.{has_digest}
use Rattle.ordering.specs.declared.votes.Vote.{Vote}

-- the digest of the sender's first vote
abbrev pub voted_digest : List Vote → ℕ → Option (List ℕ)
voted_digest votes s = option_map (λ vote. vote.digest) (find (λ vote. vote.sender.0 == s) votes)

-- Each replica below n votes at most once, and nobody else does.
abbrev pub AreVotes : ℕ → List Vote → Type 0
AreVotes n [] = ⊤
AreVotes n (vote ∷ votes) =
    (vote.sender.0 < n) × (voted_digest votes vote.sender.0 ≡ None) × AreVotes n votes

-- how many of the n replicas vote for the digest
abbrev pub voters : ℕ → List ℕ → List Vote → ℕ
voters n digest votes = count_below (λ s. has_digest digest (voted_digest votes s)) n

-- the votes with one more at the end, unless its sender has voted
abbrev pub with_vote : Vote → List Vote → List Vote
with_vote vote votes = if is_some (voted_digest votes vote.sender.0) then votes else votes ++ vote ∷ []
