-- The leaves that sign a replica's frames: each signs one, and they are used in order.
use Rattle.std.proofs.Common.{◌≡◌, ℕ, ◌+◌, ◌<◌, ◌⊎◌, inl, inr, Bool, true, false, List, ◌∷◌, Some, None, refl, sym, ap, ◌∙◌, arith}
use Rattle.std.specs.Prelude.{nat_lt}
use Rattle.std.proofs.lemmas.Bool.{ltb-true, ltb-false}
use Rattle.wire_format.specs.Messages.{BodyData as Body}
use Rattle.wire_format.specs.Spelling.{is_signed}
use Rattle.protocol.specs.System.Configuration.{Configuration}
use Rattle.protocol.specs.System.Frames.{leaf_of}
use Rattle.protocol.specs.System.Trace.{Entry}
use Rattle.protocol.specs.System.Trace.Entry.{Got, Sent}
use Rattle.protocol.specs.Replica.Certificates.{brought}
use Rattle.protocol.specs.Replica.RightReplica.{SendsBytes, SentBefore}
use Rattle.protocol.proofs.Words.Options.{some_injective}
use Rattle.protocol.proofs.Words.Outgoing.{unsigned_no_leaf}
use Rattle.replica_histories.specs.Changes.{AreLeavesBelow, AreLeavesSent, SpendsLeaves, AllAreSpent, NextLeafIsOwn}

-- after an entry that sends no frame by a new leaf
pub leaves_stay : (spent : ℕ) (past : List Entry) (e : Entry) → ((sent : List ℕ) (leaf : ℕ) → leaf_of sent ≡ Some leaf → SendsBytes sent past e → SentBefore sent past) → AreLeavesBelow spent past → AreLeavesBelow spent (e ∷ past)
leaves_stay spent past e old below sent leaf is (inl now) = below sent leaf is (old sent leaf is now)
leaves_stay spent past e old below sent leaf is (inr before) = below sent leaf is before

-- after one that may
pub leaves_spent : (old new : ℕ) (past : List Entry) (e : Entry) → SpendsLeaves old new past e → AreLeavesBelow old past → AreLeavesBelow new (e ∷ past)
leaves_spent old new past e spends below sent leaf is (inl now) = spends.1 sent leaf is now
leaves_spent old new past e spends below sent leaf is (inr before) = let less = below sent leaf is before in let more = spends.0 in omega arith

-- an unsigned frame has no leaf
pub unsigned_sends_none : (c : Configuration) (past : List Entry) (e : Entry) (body : Body) → brought c e ≡ Some body → is_signed body.message ≡ false → (sent : List ℕ) (leaf : ℕ) → leaf_of sent ≡ Some leaf → SendsBytes sent past e → SentBefore sent past
unsigned_sends_none c past (Sent p bytes) body says unsigned sent leaf is now =
    let none : leaf_of bytes ≡ None = unsigned_no_leaf bytes body says unsigned in
    absurd (let bad : None ≡ Some leaf = sym none ∙ ap leaf_of now ∙ is in cc)
unsigned_sends_none c past (Got x y) body says unsigned sent leaf is now = absurd now
unsigned_sends_none c past _ body says unsigned sent leaf is now = absurd now

-- Leaves that have signed a sent frame have signed it later too.
pub leaves_remain : (spent : ℕ) (past : List Entry) (e : Entry) → AreLeavesSent spent past → AreLeavesSent spent (e ∷ past)
leaves_remain spent past e all leaf l = let s = all leaf l in (s.0, s.1, inr s.2)

pub leaves_sent : (old new : ℕ) (past : List Entry) (e : Entry) → SpendsLeaves old new past e → AreLeavesSent old past → AreLeavesSent new (e ∷ past)
leaves_sent old new past e spends all leaf l = pick (spends.2 leaf l)
  where
    pick : (leaf < old) ⊎ ((sent : List ℕ) × (leaf_of sent ≡ Some leaf) × SendsBytes sent past e) → (sent : List ℕ) × (leaf_of sent ≡ Some leaf) × SentBefore sent (e ∷ past)
    pick (inl before) = leaves_remain old past e all leaf before
    pick (inr now) = (now.0, now.1, inl now.2)

pub all_are_spent : AllAreSpent
all_are_spent c me log x history all f leaf l = f.signed leaf (omega (arith, all, l))

pub next_leaf_is_own : NextLeafIsOwn
next_leaf_is_own bytes spent history by below leaf sent is was before =
    let same : spent ≡ leaf = some_injective spent leaf (sym by ∙ is) in
    let less = below sent leaf was before in
    absurd (omega (arith, same, less))

-- it is spent then
pub next_is_spent : (me spent : ℕ) (past : List Entry) (bytes : List ℕ) → leaf_of bytes ≡ Some spent → SpendsLeaves spent (spent + 1) past (Sent me bytes)
next_is_spent me spent past bytes by = (
  omega arith,
  λ sent leaf is now. let same : spent ≡ leaf = some_injective spent leaf (sym by ∙ ap leaf_of now ∙ is) in omega (arith, same),
  λ leaf l. by_leaf leaf l (eq_or_less leaf l),
)
  where
    eq_or_less : (leaf : ℕ) → leaf < spent + 1 → (leaf < spent) ⊎ (spent ≡ leaf)
    eq_or_less leaf l = go (nat_lt leaf spent) refl
      where
        go : (b : Bool) → nat_lt leaf spent ≡ b → (leaf < spent) ⊎ (spent ≡ leaf)
        go true is = inl (ltb-true leaf spent is)
        go false is = inr (let most = ltb-false leaf spent is in omega (arith, l, most))

    by_leaf : (leaf : ℕ) → leaf < spent + 1 → (leaf < spent) ⊎ (spent ≡ leaf) → (leaf < spent) ⊎ ((sent : List ℕ) × (leaf_of sent ≡ Some leaf) × SendsBytes sent past (Sent me bytes))
    by_leaf leaf l (inl less) = inl less
    by_leaf leaf l (inr same) = inr (bytes, by ∙ ap Some same, refl)
