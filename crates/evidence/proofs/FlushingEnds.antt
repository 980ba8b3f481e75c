-- A flush ends: each delivery leaves fewer frames for fewer receivers.
use Rattle.std.proofs.Common.{◌≡◌, ℕ, zero, suc, ◌+◌, ◌≤◌, ◌<◌, inl, Bool, true, false, not, cond, List, [], ◌∷◌, ◌++◌, refl, sym, ap, ◌∙◌, subst, arith, ◌&&◌, ◌||◌, Option, Some, None, reverse}
use Rattle.std.specs.Prelude.{◌==◌}
use Rattle.std.proofs.lemmas.List.{reverse-append, reverse-reverse}
use Rattle.quorum.specs.Votes.{or_else}
use Rattle.protocol.specs.System.Configuration.{Configuration, is_correct}
use Rattle.protocol.specs.System.Trace.{Entry}
use Rattle.protocol.specs.System.Trace.Entry.{Got}
use Rattle.protocol.specs.System.Schedule.{Made, World, StepsLead, NoOutputIsNext, new_world, is_delivered, next_receiver, next_pair, pending}
use Rattle.protocol.specs.System.Schedule.Step.{flush}
use Rattle.protocol.specs.System.Schedule.StepsLead.{ends, flushed}
use Rattle.evidence.specs.Fed.{with_delivery, IsGot, FlushesAreFed}
use Rattle.protocol.proofs.Words.Options.{some_injective}
use Rattle.evidence.proofs.Feeding.{joins, each_reverse}
use Rattle.evidence.proofs.Flushing.{left, not_left, pending_next, flush_delivers_next}
use Rattle.wire_format.specs.Lists.{Each}

-- ---- how many receivers a frame is left for, and all frames; the frames are numbered from k on

abbrev receivers_left : Configuration → List (ℕ × ℕ) → ℕ → List ℕ → ℕ
receivers_left c d frame [] = 0
receivers_left c d frame (q ∷ rs) = cond (left c d frame q) 1 0 + receivers_left c d frame rs

abbrev all_left : Configuration → List (ℕ × ℕ) → ℕ → List Made → ℕ
all_left c d k [] = 0
all_left c d k (made ∷ frames) = receivers_left c d k made.receivers + all_left c d (suc k) frames

fewer : (a t b : Bool) → cond (a && not (t || b)) 1 0 ≤ cond (a && not b) 1 0
fewer false t b = omega arith
fewer true true b = omega arith
fewer true false b = omega arith

module _ (c : Configuration) (d : List (ℕ × ℕ)) (x : ℕ × ℕ) where
  fewer_here : (frame q : ℕ) → cond (left c (x ∷ d) frame q) 1 0 ≤ cond (left c d frame q) 1 0
  fewer_here frame q = fewer (is_correct c q) ((x.0 == frame) && (x.1 == q)) (is_delivered d frame q)

  receivers_fewer : (frame : ℕ) (rs : List ℕ) → receivers_left c (x ∷ d) frame rs ≤ receivers_left c d frame rs
  receivers_fewer frame [] = omega arith
  receivers_fewer frame (q ∷ rs) = omega (arith, fewer_here frame q, receivers_fewer frame rs)

  all_fewer : (k : ℕ) (frames : List Made) → all_left c (x ∷ d) k frames ≤ all_left c d k frames
  all_fewer k [] = omega arith
  all_fewer k (made ∷ frames) = omega (arith, receivers_fewer k made.receivers, all_fewer (suc k) frames)

  -- if a frame is delivered next, it has fewer receivers left
  receivers_less : (frame : ℕ) (rs : List ℕ) → next_receiver c d frame rs ≡ Some x → receivers_left c (x ∷ d) frame rs < receivers_left c d frame rs
  receivers_less frame [] h = absurd cc
  receivers_less frame (q ∷ rs) h = go (left c d frame q) refl h (receivers_less frame rs)
    where
      go : (b : Bool) → left c d frame q ≡ b → cond b (Some (frame, q)) (next_receiver c d frame rs) ≡ Some x
          → (next_receiver c d frame rs ≡ Some x → receivers_left c (x ∷ d) frame rs < receivers_left c d frame rs)
          → receivers_left c (x ∷ d) frame (q ∷ rs) < receivers_left c d frame (q ∷ rs)
      go true e k below =
          let same : (frame, q) ≡ x = some_injective (frame, q) x k in
          let gone : left c (x ∷ d) frame q ≡ false = not_left c (x ∷ d) frame q (λ h. h.1 (inl (sym same))) in
          let before : cond {A = ℕ} (left c d frame q) 1 0 ≡ 1 = ap (λ (b : Bool). cond {A = ℕ} b 1 0) e in
          let behind : cond {A = ℕ} (left c (x ∷ d) frame q) 1 0 ≡ 0 = ap (λ (b : Bool). cond {A = ℕ} b 1 0) gone in
          omega (arith, before, behind, receivers_fewer frame rs)
      go false e k below = omega (arith, fewer_here frame q, below k)

  all_less : (k : ℕ) (frames : List Made) → next_pair c d k frames ≡ Some x → all_left c (x ∷ d) k frames < all_left c d k frames
  all_less k [] h = absurd cc
  all_less k (made ∷ frames) h = go (next_receiver c d k made.receivers) refl h (all_less (suc k) frames)
    where
      go : (o : Option (ℕ × ℕ)) → next_receiver c d k made.receivers ≡ o → or_else o (next_pair c d (suc k) frames) ≡ Some x
          → (next_pair c d (suc k) frames ≡ Some x → all_left c (x ∷ d) (suc k) frames < all_left c d (suc k) frames)
          → all_left c (x ∷ d) k (made ∷ frames) < all_left c d k (made ∷ frames)
      go (Some y) e h below = omega (arith, receivers_less k made.receivers (e ∙ h), all_fewer (suc k) frames)
      go None e h below = omega (arith, receivers_fewer k made.receivers, below h)

-- ---- a flush

-- what a flush from this world feeds
record Flushed (c : Configuration) (w : World) : Type 0 where
  entries : List Entry
  behind : World
  are : Each IsGot entries
  first : NoOutputIsNext entries
  goes : StepsLead c w (flush ∷ []) entries behind

-- with more than the rest to spare
flush_all : (c : Configuration) (n : ℕ) (w : World) → all_left c w.delivered 0 w.frames < n → Flushed c w
flush_all c zero w l = absurd (omega (arith, l))
flush_all c (suc n) w l = go (pending c w) refl (λ u. flush_all c n u)
  where
    go : (o : Option (ℕ × ℕ)) → pending c w ≡ o → ((u : World) → all_left c u.delivered 0 u.frames < n → Flushed c u) → Flushed c w
    go None e below = record { entries = []; behind = w; are = tt; first = tt; goes = flushed tt e ends }
    go (Some x) e below =
        let next = pending_next c w x.0 x.1 e in
        let rest = below (with_delivery c w x.0 x.1 next.0.bytes) (omega (arith, l, all_less c w.delivered x 0 w.frames e)) in
        record {
          entries = Got x.1 next.0.bytes ∷ rest.entries;
          behind = rest.behind;
          are = (tt, rest.are);
          first = refl;
          goes = flush_delivers_next c w rest.behind x.0 x.1 next.0 [] rest.entries next.1 rest.goes;
        }

pub flushes_are_fed : FlushesAreFed
flushes_are_fed c steps trace feeds =
    let w : World = feeds.0 in
    let f = flush_all c (suc (all_left c w.delivered 0 w.frames)) w (omega arith) in
    let oldest : reverse (reverse f.entries ++ trace) ≡ reverse trace ++ f.entries =
    reverse-append (reverse f.entries) trace ∙ ap (λ (xs : List Entry). reverse trace ++ xs) (reverse-reverse f.entries) in
    let g = joins c new_world w f.behind steps (reverse trace) feeds.1 (flush ∷ []) f.entries f.first f.goes in
    (reverse f.entries, each_reverse IsGot f.entries f.are, (f.behind, subst (λ (entries : List Entry). StepsLead c new_world (steps ++ flush ∷ []) entries f.behind) (sym oldest) g))
