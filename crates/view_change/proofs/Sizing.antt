-- The rules use only the public keys, the faults and the period of a configuration.
use Rattle.std.specs.Prelude.{option_and_then, if◌then◌else◌, nat_lt, not, ◌==◌}
use Rattle.std.proofs.Common.{◌≡◌, ℕ, ◌+◌, ◌*◌, Bool, true, List, [], ◌∷◌, length, map, Option, Some, None, refl, sym, ap, ap₂, ◌∙◌, subst, ◌&&◌}
use Rattle.wire_format.specs.Messages.{MessageData as Message, BodyData as Body, FrameData as Frame, NewViewData, ViewChangeData, view_change as ViewChange, new_view as NewView}
use Rattle.wire_format.specs.Words.{frame_of}
use Rattle.wire_format.specs.Spelling.{is_signed}
use Rattle.authenticator.specs.Membership.{sends}
use Rattle.signing.specs.AuthenticBody.{has_signature, is_signed_frame, signed_body}
use Rattle.protocol.specs.System.Configuration.{Configuration, is_number, primary, signers}
use Rattle.protocol.specs.Replica.Certificates.{is_later}
use Rattle.protocol.specs.Replica.Selection.{change_in, changes_of, count_in, is_quorum, is_within, list_of, may_select, signed_change}
use Rattle.view_change.specs.declared.fault.NewViewFault.{NewViewFault}
use Rattle.view_change.specs.declared.fault.NewViewFault.TheVariants.{UnknownSender, WrongView, BadSignature, TooFew, NotSelected}
use Rattle.view_change.specs.Checking.{new_view_refusal}
use Rattle.view_change.specs.Laws.{AreAlikeConfigurations, SizesDecide}
use Rattle.view_change.specs.ReceivedData.{HeldData, view_change_refusal}
use Rattle.view_change.specs.Selecting.{are_for, is_set_for, meets}
use Rattle.view_change.proofs.Supporting.{same_truth}
use Rattle.view_change.proofs.Larger.{selects_by_set}
use Rattle.view_change.proofs.Opening.{tells}

tells_as : Configuration → ℕ → Message → Bool → Option (ℕ × ViewChangeData)
tells_as c sender message b =
    option_and_then change_in (if is_signed message && (sends (signers c) sender message && b) then Some (let body : Body = record { sender = sender; message = message } in body) else None)

as_same : (c d : Configuration) (sender : ℕ) (message : Message) (b : Bool) → c.faults ≡ d.faults → tells_as c sender message b ≡ tells_as d sender message b
unfolding tells_as
as_same c d sender (ViewChange vc) b e =
    ap (λ (n : ℕ). option_and_then change_in (if nat_lt sender (3 * n + 1) && b then Some (let body : Body = record { sender = sender; message = ViewChange vc } in body) else None)) e
as_same c d sender (NewView new) b e =
    ap (λ (n : ℕ). option_and_then change_in (if nat_lt sender (3 * n + 1) && b then Some (let body : Body = record { sender = sender; message = NewView new } in body) else None)) e
as_same c d sender _ b e = refl

tells_same : (c d : Configuration) (f : Frame) → c.publics ≡ d.publics → c.faults ≡ d.faults → tells c f ≡ tells d f
unfolding tells_as
tells_same c d f publics faults =
    ap (λ s. tells_as c f.body.sender f.body.message (has_signature s f)) publics ∙ as_same c d f.body.sender f.body.message (has_signature d.publics f) faults

signed_same : (c d : Configuration) (bytes : List ℕ) → c.publics ≡ d.publics → c.faults ≡ d.faults → signed_change c bytes ≡ signed_change d bytes
unfolding signed_body
signed_same c d bytes publics faults = go (frame_of bytes)
  where
    go : (o : Option Frame)
        → option_and_then change_in (option_and_then (λ frame. if is_signed_frame (signers c) frame then Some frame.body else None) o)
        ≡ option_and_then change_in (option_and_then (λ frame. if is_signed_frame (signers d) frame then Some frame.body else None) o)
    go None = refl
    go (Some f) = tells_same c d f publics faults

changes_same : (c d : Configuration) (frames : List (List ℕ)) → c.publics ≡ d.publics → c.faults ≡ d.faults → map (signed_change c) frames ≡ map (signed_change d) frames
changes_same c d [] publics faults = refl
changes_same c d (x ∷ xs) publics faults = ap₂ (λ (y : Option (ℕ × ViewChangeData)) (ys : List (Option (ℕ × ViewChangeData))). y ∷ ys) (signed_same c d x publics faults) (changes_same c d xs publics faults)

pub of_sizes : ℕ → ℕ → Configuration
of_sizes faults period = record { faults = faults; clients = 1; seed = []; publics = []; period = period; faulty_replicas = []; faulty_clients = [] }

-- words that depend on the two sizes alone
by_sizes : {A : Type 0} (f : Configuration → A) → ((c : Configuration) → f c ≡ f (of_sizes c.faults c.period)) → (c d : Configuration) → AreAlikeConfigurations c d → f c ≡ f d
by_sizes f sized c d alike = sized c ∙ ap₂ (λ n p. f (of_sizes n p)) alike.faults alike.period ∙ sym (sized d)

within_same : (c d : Configuration) → AreAlikeConfigurations c d → (vc : ViewChangeData) → is_within c vc ≡ is_within d vc
unfolding of_sizes
within_same c d alike vc = by_sizes (λ x. is_within x vc) (λ x. refl) c d alike

sets_same : (c d : Configuration) → AreAlikeConfigurations c d → (view : ℕ) (set : List (ℕ × ViewChangeData)) → are_for view set c ≡ are_for view set d
unfolding of_sizes
sets_same c d alike view set = by_sizes (are_for view set) (λ x. refl) c d alike

meets_same : (c d : Configuration) → AreAlikeConfigurations c d → (view : ℕ) (set : List (ℕ × ViewChangeData)) (start : ℕ) (root : List ℕ) (batches : List (List ℕ))
    → meets c view set start root batches ≡ meets d view set start root batches
unfolding of_sizes
meets_same c d alike view set start root batches = by_sizes (λ x. meets x view set start root batches) (λ x. refl) c d alike

set_same : (c d : Configuration) → AreAlikeConfigurations c d → (view : ℕ) (set : List (ℕ × ViewChangeData)) → is_set_for c view set ≡ is_set_for d view set
unfolding of_sizes
set_same c d alike view set = by_sizes (λ x. is_set_for x view set) (λ x. refl) c d alike

untaken_same : (c d : Configuration) → AreAlikeConfigurations c d → (view : ℕ) (held : List (Option HeldData)) (x : ℕ × ViewChangeData) → view_change_refusal c view held x ≡ view_change_refusal d view held x
unfolding of_sizes
untaken_same c d alike view held x = by_sizes (λ y. view_change_refusal y view held x) (λ y. refl) c d alike

-- ---- new views

of_changes : (c d : Configuration) → AreAlikeConfigurations c d → (new : NewViewData) → changes_of c new ≡ changes_of d new
of_changes c d alike new = ap list_of (changes_same c d new.changes alike.publics alike.faults)

selected_too : (c d : Configuration) → AreAlikeConfigurations c d → (new : NewViewData) → may_select c new ≡ true → may_select d new ≡ true
selected_too c d alike new h =
    let r = (selects_by_set c new).0 h in
    let e = of_changes c d alike new in
    (selects_by_set d new).1 (
      subst (λ (xs : List (ℕ × ViewChangeData)). (length xs == length new.changes) ≡ true) e r.0,
      subst (λ (xs : List (ℕ × ViewChangeData)). is_set_for d new.view xs ≡ true) e (sym (set_same c d alike new.view (changes_of c new)) ∙ r.1),
      subst (λ (xs : List (ℕ × ViewChangeData)). meets d new.view xs new.start new.root new.batches ≡ true) e (sym (meets_same c d alike new.view (changes_of c new) new.start new.root new.batches) ∙ r.2),
    )

turned : (c d : Configuration) → AreAlikeConfigurations c d → AreAlikeConfigurations d c
turned c d alike = record { publics = sym alike.publics; faults = sym alike.faults; period = sym alike.period }

selected_same : (c d : Configuration) → AreAlikeConfigurations c d → (new : NewViewData) → may_select c new ≡ may_select d new
selected_same c d alike new = same_truth (may_select c new) (may_select d new) (selected_too c d alike new) (selected_too d c (turned c d alike) new)

-- the refusal, by its tests
by_tests : Bool → Bool → Bool → Bool → Bool → Option NewViewFault
by_tests sent later signed enough selected =
    if not sent then Some UnknownSender else if not later then Some WrongView else
    if not signed then Some BadSignature else if not enough then Some TooFew else if not selected then Some NotSelected else None

enough_in : Configuration → List (ℕ × ViewChangeData) → Bool
enough_in c set = is_quorum c (count_in c (λ vc. true) set)

enough_same : (c d : Configuration) → AreAlikeConfigurations c d → (set : List (ℕ × ViewChangeData)) → enough_in c set ≡ enough_in d set
unfolding of_sizes enough_in
enough_same c d alike set = by_sizes (λ x. enough_in x set) (λ x. refl) c d alike

sent_same : (c d : Configuration) → AreAlikeConfigurations c d → (sender view : ℕ) → (sender == primary c view) ≡ (sender == primary d view)
unfolding of_sizes
sent_same c d alike sender view = by_sizes (λ x. sender == primary x view) (λ x. refl) c d alike

refused_same : (c d : Configuration) → AreAlikeConfigurations c d → (view target sender : ℕ) (new : NewViewData) → new_view_refusal c view target sender new ≡ new_view_refusal d view target sender new
unfolding by_tests enough_in
refused_same c d alike view target sender new =
    let changes = of_changes c d alike new in
    ap (λ b. by_tests b (is_later view target new && is_number new.view) (length (changes_of c new) == length new.changes) (enough_in c (changes_of c new)) (may_select c new)) (sent_same c d alike sender new.view)
    ∙ ap (λ (set : List (ℕ × ViewChangeData)). by_tests (sender == primary d new.view) (is_later view target new && is_number new.view) (length set == length new.changes) (enough_in c set) (may_select c new)) changes
    ∙ ap (λ b. by_tests (sender == primary d new.view) (is_later view target new && is_number new.view) (length (changes_of d new) == length new.changes) b (may_select c new)) (enough_same c d alike (changes_of d new))
    ∙ ap (by_tests (sender == primary d new.view) (is_later view target new && is_number new.view) (length (changes_of d new) == length new.changes) (enough_in d (changes_of d new))) (selected_same c d alike new)

pub sizes_decide : SizesDecide
sizes_decide c d alike = record {
  signed = λ bytes. signed_same c d bytes alike.publics alike.faults;
  within = within_same c d alike;
  sets = sets_same c d alike;
  meet = meets_same c d alike;
  selected = selected_same c d alike;
  refused = refused_same c d alike;
  untaken = untaken_same c d alike;
}
