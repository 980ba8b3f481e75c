-- The event in which something comes to hold of a replica's past, with all that the replica owes in it.
use Rattle.std.proofs.Common.{◌≡◌, ℕ, suc, ◌⊎◌, inl, inr, List, [], ◌∷◌, ◌++◌, Some, None, reverse, refl, sym, ap, ◌∙◌, subst, append_assoc}
use Rattle.std.proofs.lemmas.Grind.{reverse_onto}
use Rattle.sha2.specs.Sha256.{sha256}
use Rattle.protocol.specs.System.Configuration.{Configuration}
use Rattle.protocol.specs.System.Trace.{Entry, is_output}
use Rattle.protocol.specs.Replica.Certificates.{commit_of, Committed}
use Rattle.protocol.specs.Replica.RightReplica.{Point}
use Rattle.protocol.specs.Replica.Owed.{Owes, HistoryIsPrompt}
use Rattle.protocol.proofs.Words.Reacting.{one_of}

-- an output may stand before those still to come, or after the past
pub next_output : (outputs past : List Entry) (e : Entry) → reverse outputs ++ e ∷ past ≡ reverse (e ∷ outputs) ++ past
next_output outputs past e = sym (append_assoc (reverse outputs) (e ∷ []) past) ∙ ap (λ (xs : List Entry). xs ++ past) (sym (reverse_onto outputs e []))

pub record Flip (c : Configuration) (me : ℕ) (P : List Entry → Type 0) (whole : List Entry) : Type 0 where
  pub before : List Entry
  pub input : Entry
  pub outs : List Entry
  pub old : Point
  pub new : Point
  pub owes : Owes c me before input outs (reverse outs ++ input ∷ before) old new
  pub not_yet : P before → ⊥
  pub holds : P (reverse outs ++ input ∷ before)
  pub newer : List Entry
  pub is : whole ≡ newer ++ (reverse outs ++ input ∷ before)

flip_in : (c : Configuration) (me : ℕ) (P : List Entry → Type 0) (one other : List Entry) → one ≡ other → Flip c me P other → Flip c me P one
flip_in c me P one other same f = subst (Flip c me P) (sym same) f

flip_behind : (c : Configuration) (me : ℕ) (P : List Entry → Type 0) (front past : List Entry) → Flip c me P past → Flip c me P (front ++ past)
flip_behind c me P front past f = record {
  before = f.before;
  input = f.input;
  outs = f.outs;
  old = f.old;
  new = f.new;
  owes = f.owes;
  not_yet = f.not_yet;
  holds = f.holds;
  newer = front ++ f.newer;
  is = ap (λ (xs : List Entry). front ++ xs) f.is ∙ sym (append_assoc front f.newer (reverse f.outs ++ f.input ∷ f.before));
}

-- A property that fails at first, and holds at the end, comes to hold in some event.
pub flips : (c : Configuration) (me : ℕ) (P : List Entry → Type 0) → ((past : List Entry) → P past ⊎ (P past → ⊥)) → (P [] → ⊥) → (xs outputs : List Entry) (new point : Point)
    → HistoryIsPrompt c me xs outputs new point → P (reverse outputs ++ xs) → Flip c me P (reverse outputs ++ xs)
flips c me P decide none [] outputs new point h p = absurd (none (subst (λ (o : List Entry). P (reverse o ++ [])) h.1 p))
flips c me P decide none (e ∷ past) outputs new point h p =
    one_of (is_output e) (HistoryIsPrompt c me past (e ∷ outputs) new h.0) (Owes c me past e outputs (reverse outputs ++ e ∷ past) h.0 new × HistoryIsPrompt c me past [] h.0 h.0)
    (Flip c me P (reverse outputs ++ e ∷ past)) h.2
    (λ k. flip_in c me P (reverse outputs ++ e ∷ past) (reverse (e ∷ outputs) ++ past) (next_output outputs past e)
    (flips c me P decide none past (e ∷ outputs) new h.0 k (subst P (next_output outputs past e) p)))
    (λ k. by_past (decide past) k.0 (flips c me P decide none past [] h.0 h.0 k.1))
  where
    by_past : P past ⊎ (P past → ⊥) → Owes c me past e outputs (reverse outputs ++ e ∷ past) h.0 new → (P past → Flip c me P past) → Flip c me P (reverse outputs ++ e ∷ past)
    by_past (inl held) owes below =
        flip_in c me P (reverse outputs ++ e ∷ past) ((reverse outputs ++ e ∷ []) ++ past) (sym (append_assoc (reverse outputs) (e ∷ []) past))
        (flip_behind c me P (reverse outputs ++ e ∷ []) past (below held))
    by_past (inr fails) owes below = record { before = past; input = e; outs = outputs; old = h.0; new = new; owes = owes; not_yet = fails; holds = p; newer = []; is = refl }

-- At the end no batch is left that is committed for the next number.
no_commit : (c : Configuration) (me v i : ℕ) (batch : List ℕ) → Committed c me [] v i batch → ⊥
unfolding commit_of
no_commit c me v i batch h = let bad : None ≡ Some (sha256 batch) = h.own in cc

pub none_is_left : (c : Configuration) (me : ℕ) (xs outputs : List Entry) (new point : Point) → HistoryIsPrompt c me xs outputs new point
    → (v : ℕ) (batch : List ℕ) → Committed c me (reverse outputs ++ xs) v (suc new.state.number) batch → ⊥
none_is_left c me [] outputs new point h v batch k = no_commit c me v (suc new.state.number) batch (subst (λ (o : List Entry). Committed c me (reverse o ++ []) v (suc new.state.number) batch) h.1 k)
none_is_left c me (e ∷ past) outputs new point h v batch k =
    one_of (is_output e) (HistoryIsPrompt c me past (e ∷ outputs) new h.0) (Owes c me past e outputs (reverse outputs ++ e ∷ past) h.0 new × HistoryIsPrompt c me past [] h.0 h.0) ⊥ h.2
    (λ p. none_is_left c me past (e ∷ outputs) new h.0 p v batch (subst (λ (xs : List Entry). Committed c me xs v (suc new.state.number) batch) (next_output outputs past e) k))
    (λ p. p.0.executes v batch k)
