-- What the definitions refuse a replica to ask for.
use Rattle.std.proofs.Common.{◌≡◌, ◌≢◌, ℕ, ◌⊎◌, inl, inr, true, false, List, ◌∷◌, refl, sym, ap, ◌∙◌, arith, Option, Some}
use Rattle.std.specs.Prelude.{is_some, option_and_then}
use Rattle.terms.specs.declared.state.Level.{Level}
use Rattle.terms.specs.declared.state.Level.TheVariants as levels
use Rattle.wire_format.specs.Messages.{BodyData as Body, fetch as Fetch}
use Rattle.wire_format.specs.Words.{said}
use Rattle.protocol.specs.System.Configuration.{Configuration}
use Rattle.protocol.specs.System.Trace.{Entry}
use Rattle.protocol.specs.System.Trace.Entry.{Got, Sent}
use Rattle.protocol.specs.Replica.Transfers.{fetch_sent, place_from, NoneAsked, IsNextPart, in_place}
use Rattle.protocol.specs.Replica.RightReplica.{MayFetch, SafeReplica, IsAskedAgain}
use Rattle.evidence.specs.Refused.{FetchesNewest, FetchesOnce, FetchesWhatIsTold, FetchesWhatDiffers}
use Rattle.evidence.proofs.RefusingRuns.{says_may}

-- if a right replica sends a fetch, the replica may send that fetch
may_fetch : (c : Configuration) (me k index : ℕ) (level : Level) (bytes : List ℕ) (past : List Entry) → said bytes ≡ Some (record { sender = me; message = Fetch k level index })
    → (right : SafeReplica c me (Sent me bytes ∷ past)) → MayFetch c me past right.1.0 k level index
may_fetch c me k index level bytes past says right = says_may c me bytes (record { sender = me; message = Fetch k level index }) past right says

pub fetches_newest : FetchesNewest
fetches_newest c me k n index other level above bytes earlier past says sent below right =
    let m = may_fetch c me k index level bytes (Sent me earlier ∷ past) says right in
    let newest = m.newest in
    let here : fetch_sent (Sent me earlier) ≡ n = rw sent refl in
    absurd (omega arith)

-- a fetch was sent in the event
asked_here : (me n other : ℕ) (above : Level) (earlier : List ℕ) (past : List Entry) → said earlier ≡ Some (record { sender = me; message = Fetch n above other }) → NoneAsked (Sent me earlier ∷ past) → ⊥
asked_here me n other above earlier past sent none =
    absurd (let bad : true ≡ false = sym (ap (λ (o : Option Body). is_some (option_and_then place_from o)) sent) ∙ none.0 in cc)

pub fetches_once : FetchesOnce
fetches_once c me k n index other level above bytes earlier past says below sent right = go (may_fetch c me k index level bytes (Sent me earlier ∷ past) says right).next
  where
    first : (root : List ℕ) (l : Level) → l ≢ levels.Root → IsNextPart c me (Sent me earlier ∷ past) (in_place c me k (Sent me earlier ∷ past) right.1.0.state) k root l index → ⊥
    first root levels.Root other_level h = other_level refl
    first root levels.Inner other_level h = asked_here me n other above earlier past sent h.0
    first root levels.Page other_level h = asked_here me n other above earlier past sent h.0

    go : IsNextPart c me (Sent me earlier ∷ past) (in_place c me k (Sent me earlier ∷ past) right.1.0.state) k (may_fetch c me k index level bytes (Sent me earlier ∷ past) says right).root level index ⊎ IsAskedAgain (Sent me earlier ∷ past) k level index → ⊥
    go (inl h) = first (may_fetch c me k index level bytes (Sent me earlier ∷ past) says right).root level below h
    go (inr again) = asked_here me n other above earlier past sent again.1

pub fetches_what_is_told : FetchesWhatIsTold
fetches_what_is_told c me k index level bytes frame past says below none right = go (may_fetch c me k index level bytes (Got me frame ∷ past) says right).next
  where
    first : (root : List ℕ) (l : Level) → l ≢ levels.Root → IsNextPart c me (Got me frame ∷ past) (in_place c me k (Got me frame ∷ past) right.1.0.state) k root l index → ⊥
    first root levels.Root other_level h = other_level refl
    first root levels.Inner other_level h = none h.1.got.1.0 h.1.got.1.1 h.1.digests h.1.got.1.2
    first root levels.Page other_level h = none h.1.got.1.0 h.1.got.1.1 h.1.digests h.1.got.1.2

    go : IsNextPart c me (Got me frame ∷ past) (in_place c me k (Got me frame ∷ past) right.1.0.state) k (may_fetch c me k index level bytes (Got me frame ∷ past) says right).root level index ⊎ IsAskedAgain (Got me frame ∷ past) k level index → ⊥
    go (inl h) = first (may_fetch c me k index level bytes (Got me frame ∷ past) says right).root level below h
    go (inr again) = absurd again.2

pub fetches_what_differs : FetchesWhatDiffers
fetches_what_differs c me k j bytes frame past says agrees right = go (may_fetch c me k j levels.Inner bytes (Got me frame ∷ past) says right).next
  where
    go : IsNextPart c me (Got me frame ∷ past) (in_place c me k (Got me frame ∷ past) right.1.0.state) k (may_fetch c me k j levels.Inner bytes (Got me frame ∷ past) says right).root levels.Inner j ⊎ IsAskedAgain (Got me frame ∷ past) k levels.Inner j → ⊥
    go (inl h) = h.1.first.differs (agrees h.1.got.1.0 h.1.got.1.1 h.1.digests h.1.first.digest h.1.got.1.2 h.1.first.wants right.1.0 right.1.1)
    go (inr again) = absurd again.2
