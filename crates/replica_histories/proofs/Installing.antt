-- An installation: desk and log after it fit.
use Rattle.std.proofs.Common.{◌≡◌, ℕ, ◌%◌, ◌≤◌, ◌<◌, ◌⊎◌, inl, inr, Bool, true, false, cond, List, [], ◌∷◌, map, refl, sym, ap, ◌∙◌, arith, Some, None}
use Rattle.std.specs.Prelude.{nat_le}
use Rattle.wire_format.specs.Messages.{MessageData as Message, CheckpointEntryData as CheckpointEntry, checkpoint as Checkpoint, fetch as Fetch}
use Rattle.ordering.specs.Log as logs
use Rattle.protocol.specs.System.Trace.{Entry, Has}
use Rattle.protocol.specs.System.Trace.Entry.{Installed}
use Rattle.reply_cache.specs.Replies.{Kept}
use Rattle.protocol.specs.Replica.State.{last_time, root_of}
use Rattle.protocol.specs.Replica.RightReplica.{Point, IsStep, Executes, kept_states, reply_of}
use Rattle.protocol.proofs.Words.Elements.{has_weaker}
use Rattle.replica_histories.specs.Desk.{Snapshot, snapshot_of, kept_from, point_of}
use Rattle.replica_histories.specs.Logs.{FitsLog}
use Rattle.replica_histories.specs.Transfers.{FitsStateTransfer, installed_point}
use Rattle.replica_histories.specs.Events.{after_outputs, IsOnItsWay}
use Rattle.replica_histories.specs.Outputs.{InstallationsFit}
use Rattle.replica_histories.proofs.Cutting.{cut_low, installations_move}
use Rattle.replica_histories.proofs.Reaching.{reached_asking}
use Rattle.replica_histories.proofs.Giving.{kept_on}
use Rattle.replica_histories.proofs.TransfersInstalling.{transfers_install}
use Rattle.replica_histories.proofs.TransfersQuorums.{none_starts, quorums_go_on}

pub installations_fit : InstallationsFit
installations_fit c me s desk log outputs t st frames may rests root_is is number pages small rises prepares commits fewer f = record {
  of_desk = record {
    states = st ∷ f.of_desk.states;
    ran = f.of_desk.ran;
    leaves = f.of_desk.leaves;
    steps = (old, f.of_desk.steps, installed.0, refl);
    kept = ap (λ (h : ℕ). map snapshot_of (kept_states h (st ∷ f.of_desk.states))) (fits.low ∙ low_is ∙ sym number) ∙ keeps (nat_le st.number st.number);
    frames = λ frame h. let g = f.of_desk.frames frame (fewer frame h) in (inr g.0, g.1);
    replies = λ r h. sent (reply_of r.call.client r.kept) (f.of_desk.replies r h);
    asked = λ j kept h. sent (reply_of j kept) (f.of_desk.asked j kept h);
    fetch_again = λ j index level h. sent (Fetch j level index) (f.of_desk.fetch_again j index level h);
    checkpoints = λ j h multiple. checked j h multiple;
    opened = installed.1;
    fetches = quorums_go_on c me s desk.state.number st.number [] [] outputs (Installed me t.number t.root) (let n = number in let l = later in omega arith)
        (λ i root b. absurd (let bad : None ≡ Some (b.sender, (let x : CheckpointEntry = record { number = i; digest = root } in x)) = b.brings in cc)) (λ i start above. none_starts c past (Installed me t.number t.root) i refl start) (λ x h. absurd h) f.of_desk.fetches;
    rightly = λ message h. absurd h;
  };
  of_log = fits;
  low = inl (let l = low_is in let n = number in omega arith);
  once = (tt, f.once);
  says = record { begins = f.says.begins; unsaid = tt; replies = λ j kept way. replies j kept way };
}
  where
    past : List Entry
    past = after_outputs s outputs

    old : Point
    old = point_of desk f.of_desk.states f.of_desk.ran

    later : desk.state.number < t.number
    later = may.ahead

    installed : IsStep c me past old (Installed me t.number t.root) (installed_point old st) × FitsStateTransfer c me None st.number (Installed me t.number t.root ∷ past)
    installed = transfers_install c me t past old st may rests root_is is number pages

    fits : FitsLog c me (logs.cut_to log t.number) (Installed me t.number t.root ∷ past)
    fits = installations_move c me log past t.number t.root f.of_log small (λ i l. (prepares i, commits i))

    up : log.low ≤ t.number
    up = reached_asking c me log.low desk.state.number t past f.low may

    low_is : (logs.cut_to log t.number).low ≡ t.number
    low_is = cut_low log t.number up

    was : map snapshot_of (kept_states st.number f.of_desk.states) ≡ kept_from st.number desk.snapshots
    was = kept_on log.low st.number f.of_desk.states desk.snapshots (let l = up in let n = number in omega arith) (ap (λ (h : ℕ). map snapshot_of (kept_states h f.of_desk.states)) (sym f.of_log.low) ∙ f.of_desk.kept)

    keeps : (b : Bool) → map snapshot_of (cond b (st ∷ kept_states st.number f.of_desk.states) (kept_states st.number f.of_desk.states))
        ≡ cond b (snapshot_of st ∷ kept_from st.number desk.snapshots) (kept_from st.number desk.snapshots)
    keeps true = ap (λ (xs : List Snapshot). snapshot_of st ∷ xs) was
    keeps false = was

    replies : (j : ℕ) (kept : Kept) → IsOnItsWay me [] (Installed me t.number t.root ∷ outputs) (reply_of j kept) → kept.timestamp ≤ last_time st j
    replies j kept (inl h) = absurd h
    replies j kept (inr (inl h)) = absurd h
    replies j kept (inr (inr given)) = let was = f.says.replies j kept (inr given) in let more = rises j in omega (arith, was, more)

    sent : (x : Message) → IsOnItsWay me [] outputs x → IsOnItsWay me [] (Installed me t.number t.root ∷ outputs) x
    sent x (inl h) = absurd h
    sent x (inr h) = inr (inr h)

    checked : (j : ℕ) → Executes j [] (Installed me t.number t.root) ⊎ Has (λ e. Executes j [] e) outputs → j % c.period ≡ 0
        → Has (λ x. (x.number ≡ j) × IsOnItsWay me [] (Installed me t.number t.root ∷ outputs) (Checkpoint j (root_of x))) (st ∷ f.of_desk.states)
    checked j (inl h) multiple = absurd h
    checked j (inr h) multiple =
        inr (has_weaker (λ x. (x.number ≡ j) × IsOnItsWay me [] outputs (Checkpoint j (root_of x))) (λ x. (x.number ≡ j) × IsOnItsWay me [] (Installed me t.number t.root ∷ outputs) (Checkpoint j (root_of x)))
        (λ x w. (w.0, sent (Checkpoint j (root_of x)) w.1)) f.of_desk.states (f.of_desk.checkpoints j h multiple))
