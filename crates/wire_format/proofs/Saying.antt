-- The definitions on frames give exactly the values that the grammar spells, of any list.
use Rattle.std.proofs.Common.{◌≡◌, ℕ, zero, suc, true, cond, List, [], ◌∷◌, Some, None, ap, refl, ◌∙◌, arith}
use Rattle.std.specs.Prelude.{nat_lt}
use Rattle.std.specs.List.{list_all}
use Rattle.std.proofs.lemmas.Bool.{and_parts, and_from, ltb-true, lt-ltb}
use Rattle.tuple_tree.specs.Values.{AreBytes}
use Rattle.tuple_tree.specs.Reading.{◌>>=◌}
use Rattle.tuple_tree.proofs.Readers.{bind_some, guard_holds}
use Rattle.wire_format.specs.Messages.{FrameData}
use Rattle.wire_format.specs.Spelling.{SpellsFrame}
use Rattle.wire_format.specs.Reading.{frame_read}
use Rattle.wire_format.specs.Words.{frame_of, said, ReadsFrames, ReadsSaid}
use Rattle.wire_format.proofs.Carriers.{frame_of_found, frame_of_again}
use Rattle.wire_format.proofs.FramesBytes.{spelled_bytes}

-- ---- the test that a list is of bytes

are_bytes : (bs : List ℕ) → list_all (λ b. nat_lt b 256) bs ≡ true → AreBytes bs
are_bytes [] h i = omega arith
are_bytes (b ∷ bs) h zero = ltb-true b 256 (and_parts (nat_lt b 256) (list_all (λ b. nat_lt b 256) bs) h).0
are_bytes (b ∷ bs) h (suc i) = are_bytes bs (and_parts (nat_lt b 256) (list_all (λ b. nat_lt b 256) bs) h).1 i

all_bytes : (bs : List ℕ) → AreBytes bs → list_all (λ b. nat_lt b 256) bs ≡ true
all_bytes [] h = refl
all_bytes (b ∷ bs) h = and_from (nat_lt b 256) (list_all (λ b. nat_lt b 256) bs) (lt-ltb b 256 (h zero)) (all_bytes bs (λ i. h (suc i)))

-- ---- frames

frame_found : (bs : List ℕ) (f : FrameData) → frame_of bs ≡ Some f → SpellsFrame bs f
unfolding frame_of
frame_found bs f h =
    let g = guard_holds (list_all (λ b. nat_lt b 256) bs) (frame_read bs) f h in
    frame_of_found bs f (are_bytes bs g.0) g.1

frame_again : (bs : List ℕ) (f : FrameData) → SpellsFrame bs f → frame_of bs ≡ Some f
unfolding frame_of
frame_again bs f s = ap (λ b. cond b (frame_read bs) None) (all_bytes bs (spelled_bytes bs f s)) ∙ frame_of_again bs f s

pub reads_frames : ReadsFrames
reads_frames bs f = (frame_found bs f, frame_again bs f)

-- ---- bodies

pub reads_said : (bs : List ℕ) (f : FrameData) → SpellsFrame bs f → said bs ≡ Some f.body
unfolding said
reads_said bs f s = ap (λ o. o >>= λ f. Some f.body) (frame_again bs f s)

pub says_what_is_spelled : ReadsSaid
unfolding said
says_what_is_spelled bs b = (
  λ e. let k = bind_some (frame_of bs) (λ f. Some f.body) b e in (k.0, frame_found bs k.0 k.1, let q : k.0.body ≡ b = cc in q),
  λ w. reads_said bs w.0 w.1 ∙ ap (λ b. Some b) w.2,
)
