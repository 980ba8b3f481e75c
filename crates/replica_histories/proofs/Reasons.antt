-- Why a replica changes its view: its data tell the reasons of its history.
use Rattle.std.proofs.Common.{◌≡◌, ◌≢◌, ℕ, zero, suc, ◌+◌, ◌≤◌, ◌<◌, ◌⊎◌, inl, inr, eq-eqb, Bool, true, false, cond, not, ◌&&◌, List, [], ◌∷◌, length, Option, Some, None, refl, sym, ap, ◌∙◌, subst, arith}
use Rattle.std.specs.Prelude.{◌==◌, nat_lt}
use Rattle.std.specs.Option.{option_map_or}
use Rattle.std.proofs.lemmas.Bool.{and_parts, le-leb, leb-true, lt-ltb, ltb-true, ne_eqb, eqb-false}
use Rattle.quorum.specs.Quorum.{count_below}
use Rattle.wire_format.specs.Lists.{Each}
use Rattle.protocol.specs.System.Configuration.{Configuration, replicas}
use Rattle.protocol.specs.System.Trace.{Entry, Has, is_output}
use Rattle.protocol.specs.Replica.Certificates.{latest_change}
use Rattle.protocol.specs.Replica.RightReplica.{Point, sought_view, last_input, is_ahead, JoinsOthers}
use Rattle.protocol.proofs.Words.Elements.{each_has}
use Rattle.protocol.proofs.Words.Options.{some_injective}
use Rattle.view_change.specs.ReceivedData.{HeldData, held_of, AreHeldFrom, later_views, IsJoined}
use Rattle.replica_histories.specs.Desk.{point_of}
use Rattle.replica_histories.specs.Running.{Start, after_outputs, Steps}
use Rattle.replica_histories.specs.Views.{TicksAreReasons}
use Rattle.replica_histories.specs.Received.{FitsReceived, HeldAreJoined, AheadAreHeld}

-- ---- a tick

last_of : (c : Configuration) (me : ℕ) (s : Start) (outputs : List Entry) (new : Point) → is_output s.input ≡ false → Steps c me s outputs new → last_input (after_outputs s outputs) ≡ Some (s.input, s.before)
last_of c me s [] new is steps = ap (λ (b : Bool). cond b (last_input s.before) (Some (s.input, s.before))) is
last_of c me s (e ∷ outputs) new is (mid, steps, step, output) =
    ap (λ (b : Bool). cond b (last_input (after_outputs s outputs)) (Some (e, after_outputs s outputs))) output ∙ last_of c me s outputs mid is steps

pub ticks_are_reasons : TicksAreReasons
ticks_are_reasons c me v s desk log due outputs tick waits next f = record {
  before = s.before;
  tick = last_of c me s outputs (point_of desk f.of_desk.states f.of_desk.ran) (ap is_output tick) f.of_desk.steps ∙ ap (λ (e : Entry). Some (e, s.before)) tick;
  waits = waits;
  next = next;
}

-- ---- the stored view changes of others

-- the first of so many is counted beside the others
count_first : (test : ℕ → Bool) (n : ℕ) → count_below test (suc n) ≡ cond (test 0) (suc (count_below (λ s. test (suc s)) n)) (count_below (λ s. test (suc s)) n)
count_first test zero = refl
count_first test (suc n) =
    ap (λ (k : ℕ). cond (test (suc n)) (suc k) k) (count_first test n) ∙ turned (test (suc n)) (test 0) (count_below (λ s. test (suc s)) n)
  where
    turned : (a b : Bool) (k : ℕ) → cond a (suc (cond b (suc k) k)) (cond b (suc k) k) ≡ cond b (suc (cond a (suc k) k)) (cond a (suc k) k)
    turned true true k = refl
    turned true false k = refl
    turned false true k = refl
    turned false false k = refl

-- the stored view change is another replica's, above the view
abbrev IsLater : ℕ → ℕ → HeldData → Type 0
IsLater me t h = (h.sender ≢ me) × (t < h.change.view)

at_least : (b : Bool) (k n : ℕ) → k ≤ n → k ≤ cond b (suc n) n
at_least true k n l = omega arith
at_least false k n l = l

later_test : (me t : ℕ) (h : HeldData) (b : Bool) → (not (h.sender == me) && nat_lt t h.change.view) ≡ b → b ≡ true → IsLater me t h
later_test me t h b is passes =
    let p = and_parts (not (h.sender == me)) (nat_lt t h.change.view) (is ∙ passes) in
    (λ same. let bad : not true ≡ true = ap not (sym (eq-eqb h.sender me same)) ∙ p.0 in cc, ltb-true t h.change.view p.1)

count_later : (me t : ℕ) (held : List (Option HeldData)) (test : ℕ → Bool) → ((s : ℕ) (h : HeldData) → s < length held → held_of held s ≡ Some h → IsLater me t h → test s ≡ true)
    → length (later_views me t held) ≤ count_below test (length held)
count_later me t [] test passes = omega arith
count_later me t (None ∷ held) test passes =
    let rest = count_later me t held (λ s. test (suc s)) (λ s h l is later. passes (suc s) h (omega arith) is later) in
    let first = count_first test (length held) in
    let more = at_least (test 0) (length (later_views me t held)) (count_below (λ s. test (suc s)) (length held)) rest in
    omega arith
count_later me t (Some h ∷ held) test passes =
    go (not (h.sender == me) && nat_lt t h.change.view) refl (count_later me t held (λ s. test (suc s)) (λ s x l is later. passes (suc s) x (omega arith) is later))
  where
    go : (b : Bool) → (not (h.sender == me) && nat_lt t h.change.view) ≡ b → length (later_views me t held) ≤ count_below (λ s. test (suc s)) (length held)
        → length (later_views me t (Some h ∷ held)) ≤ count_below test (suc (length held))
    go true is rest =
        let passed : test 0 ≡ true = passes 0 h (omega arith) refl (later_test me t h true is refl) in
        let first : count_below test (suc (length held)) ≡ suc (count_below (λ s. test (suc s)) (length held)) = count_first test (length held) ∙ rw passed refl in
        let here : length (later_views me t (Some h ∷ held)) ≡ suc (length (later_views me t held)) = rw is refl in
        omega (arith, rest, first, here)
    go false is rest =
        let first = count_first test (length held) in
        let more = at_least (test 0) (length (later_views me t held)) (count_below (λ s. test (suc s)) (length held)) rest in
        let here : length (later_views me t (Some h ∷ held)) ≡ length (later_views me t held) = rw is refl in
        omega (arith, first, more, here)

at_most : (b : Bool) (k n : ℕ) → n ≤ k → cond b (suc n) n ≤ suc k
at_most true k n l = omega (arith, l)
at_most false k n l = omega (arith, l)

-- at most as many are counted, if each counted one is so
count_most : (me t : ℕ) (held : List (Option HeldData)) (test : ℕ → Bool) → ((s : ℕ) → test s ≡ true → s < length held → (h : HeldData) × (held_of held s ≡ Some h) × IsLater me t h)
    → count_below test (length held) ≤ length (later_views me t held)
count_most me t [] test has = omega arith
count_most me t (None ∷ held) test has = go (test 0) refl (count_most me t held (λ s. test (suc s)) (λ s is l. has (suc s) is (omega (arith, l))))
  where
    go : (b : Bool) → test 0 ≡ b → count_below (λ s. test (suc s)) (length held) ≤ length (later_views me t held) → count_below test (suc (length held)) ≤ length (later_views me t (None ∷ held))
    go true is rest = let x = has 0 is (omega arith) in let bad : None ≡ Some x.0 = x.1 in absurd cc
    go false is rest =
        let first : count_below test (suc (length held)) ≡ count_below (λ s. test (suc s)) (length held) = count_first test (length held) ∙ rw is refl in
        omega (arith, first, rest)
count_most me t (Some h ∷ held) test has = go (not (h.sender == me) && nat_lt t h.change.view) refl (test 0) refl (count_most me t held (λ s. test (suc s)) (λ s is l. has (suc s) is (omega (arith, l))))
  where
    go : (b : Bool) → (not (h.sender == me) && nat_lt t h.change.view) ≡ b → (d : Bool) → test 0 ≡ d → count_below (λ s. test (suc s)) (length held) ≤ length (later_views me t held)
        → count_below test (suc (length held)) ≤ length (later_views me t (Some h ∷ held))
    go true later d is rest =
        let first = count_first test (length held) in
        let more = at_most (test 0) (length (later_views me t held)) (count_below (λ s. test (suc s)) (length held)) rest in
        let here : length (later_views me t (Some h ∷ held)) ≡ suc (length (later_views me t held)) = rw later refl in
        omega (arith, first, more, here)
    go false later true is rest =
        let x = has 0 is (omega arith) in
        let it : IsLater me t h = subst (λ (y : HeldData). IsLater me t y) (sym (some_injective h x.0 x.1)) x.2 in
        let passes : (not (h.sender == me) && nat_lt t h.change.view) ≡ true = rw (ne_eqb h.sender me it.0, lt-ltb t h.change.view it.1) refl in
        absurd (let bad : false ≡ true = sym later ∙ passes in cc)
    go false later false is rest =
        let first : count_below test (suc (length held)) ≡ count_below (λ s. test (suc s)) (length held) = count_first test (length held) ∙ rw is refl in
        let here : length (later_views me t (Some h ∷ held)) ≡ length (later_views me t held) = rw later refl in
        omega (arith, first, here, rest)

-- the view of one that is later is among them
has_later : (me t s : ℕ) (held : List (Option HeldData)) (h : HeldData) → held_of held s ≡ Some h → IsLater me t h → Has (λ w. w ≡ h.change.view) (later_views me t held)
has_later me t s [] h is later = absurd cc
has_later me t zero (None ∷ held) h is later = absurd cc
has_later me t (suc s) (None ∷ held) h is later = has_later me t s held h is later
has_later me t zero (Some x ∷ held) h is later =
    let same : x ≡ h = some_injective x h is in
    subst (λ (y : HeldData). Has (λ w. w ≡ h.change.view) (later_views me t (Some y ∷ held))) (sym same)
    (rw (ne_eqb h.sender me later.0, lt-ltb t h.change.view later.1) (inl refl))
has_later me t (suc s) (Some x ∷ held) h is later = go (not (x.sender == me) && nat_lt t x.change.view) refl (has_later me t s held h is later)
  where
    go : (b : Bool) → (not (x.sender == me) && nat_lt t x.change.view) ≡ b → Has (λ w. w ≡ h.change.view) (later_views me t held) → Has (λ w. w ≡ h.change.view) (later_views me t (Some x ∷ held))
    go true at k = rw at (inr k)
    go false at k = rw at k

-- and each of them is of one
record IsOf (me t v : ℕ) (held : List (Option HeldData)) : Type 0 where
  pub place : ℕ
  pub within : place < length held
  pub h : HeldData
  pub held_there : held_of held place ≡ Some h
  pub later : IsLater me t h
  pub view_is : h.change.view ≡ v

of_later : (me t v : ℕ) (held : List (Option HeldData)) → Has (λ w. w ≡ v) (later_views me t held) → IsOf me t v held
of_later me t v [] has = absurd has
of_later me t v (None ∷ held) has = let o = of_later me t v held has in let l = o.within in record { place = suc o.place; within = omega arith; h = o.h; held_there = o.held_there; later = o.later; view_is = o.view_is }
of_later me t v (Some x ∷ held) has = go (not (x.sender == me) && nat_lt t x.change.view) refl has (of_later me t v held)
  where
    moved : IsOf me t v held → IsOf me t v (Some x ∷ held)
    moved o = let l = o.within in record { place = suc o.place; within = omega arith; h = o.h; held_there = o.held_there; later = o.later; view_is = o.view_is }

    go : (b : Bool) → (not (x.sender == me) && nat_lt t x.change.view) ≡ b → Has (λ w. w ≡ v) (later_views me t (Some x ∷ held)) → (Has (λ w. w ≡ v) (later_views me t held) → IsOf me t v held) → IsOf me t v (Some x ∷ held)
    go true is k rest = pick (subst (λ (ws : List ℕ). Has (λ w. w ≡ v) ws) (let both : later_views me t (Some x ∷ held) ≡ (x.change.view ∷ later_views me t held) = rw is refl in both) k)
      where
        pick : (x.change.view ≡ v) ⊎ Has (λ w. w ≡ v) (later_views me t held) → IsOf me t v (Some x ∷ held)
        pick (inl same) = record { place = 0; within = omega arith; h = x; held_there = refl; later = later_test me t x true is refl; view_is = same }
        pick (inr more) = moved (rest more)
    go false is k rest = moved (rest (subst (λ (ws : List ℕ). Has (λ w. w ≡ v) ws) (let both : later_views me t (Some x ∷ held) ≡ later_views me t held = rw is refl in both) k))

-- each is of the sender at its place
sender_at : (judged : Configuration) (first s : ℕ) (held : List (Option HeldData)) (h : HeldData) → AreHeldFrom judged first held → held_of held s ≡ Some h → h.sender ≡ first + s
sender_at judged first s [] h all is = absurd cc
sender_at judged first zero (None ∷ held) h all is = absurd cc
sender_at judged first zero (Some x ∷ held) h all is = let same : x.sender ≡ h.sender = ap (λ (y : HeldData). y.sender) (some_injective x h is) in let own = all.0.0 in omega (arith, same, own)
sender_at judged first (suc s) (o ∷ held) h all is = let at = sender_at judged (suc first) s held h all.1 is in omega (arith, at)

module _ (c judged : Configuration) (me v : ℕ) (history : List Entry) (held : List (Option HeldData)) (places : length held ≡ replicas c) (all : AreHeldFrom judged 0 held) (f : FitsReceived c me history held) where
  abbrev t : ℕ
  t = sought_view c history

  -- another's stored view change that is later is ahead in the history
  latest_is : (s : ℕ) (h : HeldData) → held_of held s ≡ Some h → IsLater me t h → (s ≢ me) × (latest_change c history s ≡ h.change.view)
  latest_is s h is later =
      let own = sender_at judged 0 s held h all is in
      let other : s ≢ me = λ same. later.0 (let at : h.sender ≡ s = omega (arith, own) in at ∙ same) in
      (other, f.latest s other ∙ ap (λ (o : Option HeldData). option_map_or (λ (x : HeldData). x.change.view) o 0) is)

  ahead : (s : ℕ) (h : HeldData) → held_of held s ≡ Some h → IsLater me t h → is_ahead c me history s ≡ true
  ahead s h is later =
      let k = latest_is s h is later in
      rw (ne_eqb s me k.0, lt-ltb t (latest_change c history s) (subst (λ (n : ℕ). t < n) (sym k.1) later.1)) refl

  -- and the view change of a replica that is ahead is stored
  least : Each (λ w. v ≤ w) (later_views me t held) → (s : ℕ) → is_ahead c me history s ≡ true → v ≤ latest_change c history s
  least each s is = go (held_of held s) refl
    where
      parts : (not (s == me) ≡ true) × (nat_lt t (latest_change c history s) ≡ true)
      parts = and_parts (not (s == me)) (nat_lt t (latest_change c history s)) is

      other : s ≢ me
      other same = let bad : (s == me) ≡ false = not_parts (s == me) parts.0 in eqb-false s me bad same
        where
          not_parts : (b : Bool) → not b ≡ true → b ≡ false
          not_parts true h = absurd cc
          not_parts false h = refl

      above : t < latest_change c history s
      above = ltb-true t (latest_change c history s) parts.1

      go : (o : Option HeldData) → held_of held s ≡ o → v ≤ latest_change c history s
      go None none =
          let zero_is : latest_change c history s ≡ 0 = f.latest s other ∙ ap (λ (o : Option HeldData). option_map_or (λ (x : HeldData). x.change.view) o 0) none in
          absurd (omega (arith, above, zero_is))
      go (Some h) some =
          let latest : latest_change c history s ≡ h.change.view = f.latest s other ∙ ap (λ (o : Option HeldData). option_map_or (λ (x : HeldData). x.change.view) o 0) some in
          let own = sender_at judged 0 s held h all some in
          let later : IsLater me t h = (λ same. other (let at : s ≡ h.sender = omega (arith, own) in at ∙ same), omega (arith, above, latest)) in
          let most : v ≤ h.change.view = each_has (λ w. v ≤ w) (later_views me t held) h.change.view each (has_later me t s held h some later) in
          omega (arith, most, latest)

  pub joins : IsJoined c.faults (later_views me t held) v → JoinsOthers c me history v
  joins joined =
      let o = of_later me t v held joined.there in
      let k = latest_is o.place o.h o.held_there o.later in
      let enough : length (later_views me t held) ≤ count_below (is_ahead c me history) (length held) = count_later me t held (is_ahead c me history) (λ s h l is later. ahead s h is later) in
      let many = joined.enough in
      let at_place = o.within in
      record {
        enough = le-leb (c.faults + 1) (count_below (is_ahead c me history) (replicas c)) (subst (λ (n : ℕ). c.faults + 1 ≤ count_below (is_ahead c me history) n) places (omega (arith, enough, many)));
        of_one = (o.place, subst (λ (n : ℕ). o.place < n) places at_place, ahead o.place o.h o.held_there o.later, k.1 ∙ o.view_is);
        least = λ s within is. least joined.least s is;
      }

  -- the view change of a replica that is ahead in the history is stored, and later
  ahead_there : (s : ℕ) → is_ahead c me history s ≡ true → (h : HeldData) × (held_of held s ≡ Some h) × IsLater me t h × (latest_change c history s ≡ h.change.view)
  ahead_there s is = go (held_of held s) refl
    where
      parts : (not (s == me) ≡ true) × (nat_lt t (latest_change c history s) ≡ true)
      parts = and_parts (not (s == me)) (nat_lt t (latest_change c history s)) is

      other : s ≢ me
      other same = let bad : not true ≡ true = ap not (sym (eq-eqb s me same)) ∙ parts.0 in cc

      above : t < latest_change c history s
      above = ltb-true t (latest_change c history s) parts.1

      go : (o : Option HeldData) → held_of held s ≡ o → (h : HeldData) × (held_of held s ≡ Some h) × IsLater me t h × (latest_change c history s ≡ h.change.view)
      go None none =
          let zero_is : latest_change c history s ≡ 0 = f.latest s other ∙ ap (λ (o : Option HeldData). option_map_or (λ (x : HeldData). x.change.view) o 0) none in
          absurd (omega (arith, above, zero_is))
      go (Some h) some =
          let latest : latest_change c history s ≡ h.change.view = f.latest s other ∙ ap (λ (o : Option HeldData). option_map_or (λ (x : HeldData). x.change.view) o 0) some in
          let own = sender_at judged 0 s held h all some in
          (h, some, (λ same. other (let at : s ≡ h.sender = omega (arith, own) in at ∙ same), omega (arith, above, latest)), latest)

  pub joined : JoinsOthers c me history v → IsJoined c.faults (later_views me t held) v
  joined j =
      let most : count_below (is_ahead c me history) (length held) ≤ length (later_views me t held) =
      count_most me t held (is_ahead c me history) (λ s is l. let a = ahead_there s is in (a.0, a.1, a.2)) in
      let many = leb-true (c.faults + 1) (count_below (is_ahead c me history) (replicas c)) j.enough in
      let enough : c.faults + 1 ≤ count_below (is_ahead c me history) (length held) = subst (λ (n : ℕ). c.faults + 1 ≤ count_below (is_ahead c me history) n) (sym places) many in
      record {
        enough = omega (arith, most, enough);
        there = there;
        least = each_where (later_views me t held) (λ w has. at_least_of w (of_later me t w held has));
      }
    where
      there : Has (λ w. w ≡ v) (later_views me t held)
      there =
          let o = j.of_one in
          let a = ahead_there o.0 o.2 in
          subst (λ (n : ℕ). Has (λ w. w ≡ n) (later_views me t held)) (sym a.3 ∙ o.3) (has_later me t o.0 held a.0 a.1 a.2)

      at_least_of : (w : ℕ) → IsOf me t w held → v ≤ w
      at_least_of w o =
          let k = latest_is o.place o.h o.held_there o.later in
          let within : o.place < replicas c = subst (λ (n : ℕ). o.place < n) places o.within in
          let l = j.least o.place within (ahead o.place o.h o.held_there o.later) in
          let is = k.1 in
          let view_is = o.view_is in
          omega (arith, l, is, view_is)

      each_where : (ws : List ℕ) → ((w : ℕ) → Has (λ x. x ≡ w) ws → v ≤ w) → Each (λ w. v ≤ w) ws
      each_where [] h = tt
      each_where (w ∷ ws) h = (h w (inl refl), each_where ws (λ x has. h x (inr has)))

pub held_are_joined : HeldAreJoined
held_are_joined c judged me v history held places all joined f = joins c judged me v history held places all f joined

pub ahead_are_held : AheadAreHeld
ahead_are_held c judged me v history held places all joins f = joined c judged me v history held places all f joins

-- There is one view that the replica joins.
pub joined_one : (faults v w : ℕ) (views : List ℕ) → IsJoined faults views v → IsJoined faults views w → v ≡ w
joined_one faults v w views a b =
    let l = each_has (λ x. v ≤ x) views w a.least b.there in
    let m = each_has (λ x. w ≤ x) views v b.least a.there in
    omega (arith, l, m)
