use Rattle.std.proofs.Common.{◌≡◌, ℕ, List, ◌∷◌, [], ◌<◌, ◌+◌, ◌*◌, length, slice_index, slice_set, inl, inr, refl, ◌∙◌, arith}
use Rattle.std.proofs.lemmas.Bool.{cases_lt}
use Rattle.std.proofs.lemmas.List.{get_or-set_same, get_or-set_other}
use Rattle.sha2.specs.Sha256.{word_at}
use Rattle.hash_lanes.specs.Lanes.{AreVectors, lane}
use Rattle.hash_lanes.proofs.Vectors.{lane_set, length-lane, with_vector}
use Rattle.hash_lanes.proofs.lanes.load.Goals as goal

-- a word more of a block stands in its lane
word_more : (vs : List (List ℕ)) (b v : List ℕ) (i l : ℕ) → AreVectors 64 vs → i < 16 → ((k : ℕ) → k < i → slice_index (lane l vs) k ≡ word_at b (4 * k))
    → slice_index v l ≡ word_at b (4 * i) → (k : ℕ) → k < i + 1 → slice_index (lane l (slice_set vs i v)) k ≡ word_at b (4 * k)
word_more vs b v i l are within held is k below =
    rw (lane_set vs i l v) (elim (cases_lt k i) [
      | inl lt ↦ get_or-set_other (lane l vs) i k (slice_index v l) 0 (omega arith) ∙ held k lt
      | inr ge ↦
          let e : k ≡ i = omega arith in
          let room : i < length (lane l vs) = omega (arith, length-lane vs l, are.long) in
          rw e (get_or-set_same (lane l vs) i (slice_index v l) 0 room ∙ is)
    ])

pub loop-i-preserved : goal.loop-i-preserved
loop-i-preserved c =
    let ws = c.loop-i.words in
    let i = c.loop-i.i in
    let are = c.loop-i.invariant in
    let v : List ℕ = c.word.result ∷ c.word-in-loop-i.result ∷ c.word-in-loop-i-2.result ∷ c.word-in-loop-i-3.result ∷ [] in
    record {
      shape = with_vector 64 i ws v are.shape refl;
      first = word_more ws c.args.p.now v i 0 are.shape (omega arith) are.first c.word.ensures;
      second = word_more ws c.args.q.now v i 1 are.shape (omega arith) are.second c.word-in-loop-i.ensures;
      third = word_more ws c.args.r.now v i 2 are.shape (omega arith) are.third c.word-in-loop-i-2.ensures;
      fourth = word_more ws c.args.s.now v i 3 are.shape (omega arith) are.fourth c.word-in-loop-i-3.ensures;
    }
