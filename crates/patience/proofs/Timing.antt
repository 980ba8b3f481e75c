-- What a timer's beginning and its end make of a patience.
use Rattle.std.proofs.Common.{◌≡◌, ℕ, suc, ◌+◌, ◌*◌, ◌/◌, ◌%◌, ◌^◌, min, max, Bool, true, false, List, ◌∷◌, Option, Some, None, is_some, refl, sym, ap, subst, ◌∙◌, inl, inr, arith}
use Rattle.patience.specs.Standings.{wait_of, may_sign}
use Rattle.patience.specs.Moments.{Moment, began, timed_out, spared, followed, entered, moved, last_number, watched, costly, shortest, IsRunning, Starts, begins, runs, waits_not, follows, enters, stays, runs_not, gives, spares, moves}
use Rattle.patience.specs.PatienceView.{PatienceData, Fits, MayEndEarly, MayBegin, MayEnd}
use Rattle.patience.specs.declared.patience.TheConstants.{LONGEST}
use Rattle.patience.specs.declared.standing.Standing.{Standing}
use Rattle.patience.specs.declared.standing.Wait.{Wait}
use Rattle.patience.specs.declared.standing.Wait.TheVariants.{View as ViewWait}
use Rattle.patience.specs.declared.patience.Timer.{Timer}
use Rattle.terms.specs.declared.order.View.{View}
use Rattle.patience.proofs.Shortest.{counted}

none_is_some : (o : Option Wait) → o ≡ None → is_some o ≡ true → ⊥
none_is_some None e h = cc
none_is_some (Some wait) e h = cc

not_some : {A : Type 0} (o : Option A) → is_some o ≡ false → o ≡ None
not_some None e = refl
not_some (Some x) e = cc

some_same : {a b : Wait} → Some a ≡ Some b → a ≡ b
some_same e = cc

-- what the start of a timer makes of a patience
abbrev pub MayStart : List Moment → Standing → Option Timer → PatienceData → Type 0
MayStart past standing timer new = (now : List Moment) × Starts past standing timer now × Fits new now

-- A timer may begin behind one that ended early.
pub begins_behind : (past : List Moment) (standing : Standing) (timer : Option Timer) (mid new : PatienceData)
    → MayEndEarly past standing mid → ((left : List Moment) → Fits mid left → MayStart left standing timer new)
    → MayBegin past standing timer new
begins_behind past standing timer mid new turned starts =
    let started = starts turned.0 turned.2 in
    (started.0, (turned.0, turned.1, started.1), started.2)

-- p: the patience by its fields, which callers see as old
module _ (p old : PatienceData) (is : p ≡ old) (past : List Moment) (given : Fits old past) (standing : Standing) where
  fits : Fits p past
  fits = subst (λ q. Fits q past) (sym is) given

  -- ---- a timer ends early

  pub none_ends : p.watched ≡ None → MayEndEarly past standing old
  none_ends e = (past, stays (λ some. absurd (none_is_some (watched past) (sym fits.watches ∙ e) some)), given)

  module _ (wait : Wait) (runs_so : p.watched ≡ Some wait) where
    pub it_stays : wait_of standing ≡ Some wait → MayEndEarly past standing old
    it_stays e = (past, stays (λ some. inl (e ∙ sym runs_so ∙ fits.watches)), given)

    pub it_goes_on : is_some standing.view ≡ false → ((v : View) → wait ≡ ViewWait v → ⊥) → MayEndEarly past standing old
    it_goes_on active other =
        (past, stays (λ some. inr (active, λ v e. other v (some_same (sym runs_so ∙ fits.watches ∙ e)))), given)

    pub it_follows : (new : ℕ) → new ≡ min (2 * p.lasts) LONGEST → (wait_of standing ≡ Some wait → ⊥)
        → is_some standing.view ≡ true → MayEndEarly past standing (record p { watched = None; lasts = new })
    it_follows new is other left = (
      followed ∷ past,
      follows (ap is_some (sym fits.watches ∙ runs_so)) (λ e. other (e ∙ sym fits.watches ∙ runs_so)) left,
      record {
        links = fits.links;
        number = fits.number;
        watches = refl;
        lasts = is ∙ ap (λ n. min (2 * n) LONGEST) fits.lasts;
        counts = fits.counts;
      },
    )

    pub it_enters : (v : View) → wait ≡ ViewWait v → is_some standing.view ≡ false
        → MayEndEarly past standing (record p { watched = None })
    it_enters v e active = (
      entered ∷ past,
      enters v (sym fits.watches ∙ runs_so ∙ ap Some e) active,
      record { links = fits.links; number = fits.number; watches = refl; lasts = fits.lasts; counts = fits.counts },
    )

  -- ---- a timer begins, or none does

  pub one_runs : is_some p.watched ≡ true → MayStart past standing None old
  one_runs e = (past, runs (ap is_some (sym fits.watches) ∙ e), given)

  pub none_wanted : wait_of standing ≡ None → MayStart past standing None old
  none_wanted e = (past, waits_not e, given)

  pub one_begins : (wait : Wait) → is_some p.watched ≡ false → wait_of standing ≡ Some wait
      → MayStart past standing (Some (record { number = (p.number + 1) % 2 ^ 64; milliseconds = p.lasts }))
      (record p { number = (p.number + 1) % 2 ^ 64; watched = Some wait })
  one_begins wait none e =
      let number : (p.number + 1) % 2 ^ 64 ≡ suc (last_number past) % 2 ^ 64 = omega (arith, fits.number) in (
        began wait ∷ past,
        rw (number, fits.lasts) (begins wait (sym fits.watches ∙ not_some p.watched none) e),
        record { links = fits.links; number = number; watches = refl; lasts = fits.lasts; counts = fits.counts },
      )

  -- ---- a timer is over

  module _ (number : ℕ) where
    with_needed : (result : Bool) (new : PatienceData) → MayEnd p.needed past number standing result new
        → MayEnd old.needed past number standing result new
    with_needed result new h =
        subst (λ (n : ℕ). MayEnd n past number standing result new) (ap (λ (q : PatienceData). q.needed) is) h

    pub none_runs : p.watched ≡ None → MayEnd old.needed past number standing false old
    none_runs e = (past, runs_not (λ r. none_is_some (watched past) (sym fits.watches ∙ e) r.1), given)

    pub another_runs : (number ≡ p.number → ⊥) → MayEnd old.needed past number standing false old
    another_runs other = (past, runs_not (λ r. other (r.0 ∙ sym fits.number)), given)

    module _ (wait : Wait) (same : number ≡ p.number) (runs_so : p.watched ≡ Some wait) where
      watches : watched past ≡ Some wait
      watches = sym fits.watches ∙ runs_so

      running : IsRunning past number
      running = (same ∙ fits.number, ap is_some watches)

      pub it_moved : (new : ℕ) → new ≡ max (p.lasts / 2) (shortest p.costly) → (wait_of standing ≡ Some wait → ⊥)
          → MayEnd old.needed past number standing false (record p { watched = None; lasts = new })
      it_moved new is other = with_needed _ _ (
        moved ∷ past,
        moves running (λ e. other (e ∙ watches)),
        record {
          links = fits.links;
          number = fits.number;
          watches = refl;
          lasts = is ∙ ap (λ n. max (p.lasts / 2) (shortest n)) fits.counts ∙ ap (λ n. max (p.lasts / 2) n) (counted (costly past))
              ∙ ap (λ n. max (n / 2) (shortest (costly past))) fits.lasts;
          counts = fits.counts;
        },
      )

      pub it_is_spared : wait_of standing ≡ Some wait → p.is_linked ≡ false
          → MayEnd old.needed past number standing false (record p { watched = None })
      it_is_spared e few = with_needed _ _ (
        spared ∷ past,
        spares running (e ∙ sym watches) (sym fits.links ∙ few),
        record {
          links = fits.links;
          number = fits.number;
          watches = refl;
          lasts = fits.lasts;
          counts = fits.counts;
        },
      )

      it_gives : (new count : ℕ) → new ≡ min (2 * p.lasts) LONGEST → wait_of standing ≡ Some wait → p.is_linked ≡ true
          → count ≡ min (costly (timed_out (may_sign standing) ∷ past)) 255
          → MayEnd old.needed past number standing true (record p { watched = None; lasts = new; costly = count })
      it_gives new count is e linked_so counts =
          with_needed _ _ (
            timed_out (may_sign standing) ∷ past,
            gives running (e ∙ sym watches) (sym fits.links ∙ linked_so),
            record {
              links = fits.links;
              number = fits.number;
              watches = refl;
              lasts = is ∙ ap (λ n. min (2 * n) LONGEST) fits.lasts;
              counts = counts;
            },
          )

      pub it_costs : (new count : ℕ) → new ≡ min (2 * p.lasts) LONGEST → wait_of standing ≡ Some wait → p.is_linked ≡ true
          → may_sign standing ≡ true → count ≡ min (p.costly + 1) 255
          → MayEnd old.needed past number standing true (record p { watched = None; lasts = new; costly = count })
      it_costs new count is e linked_so signs one_more =
          it_gives new count is e linked_so
          (rw signs (omega (arith, one_more, fits.counts)))

      pub it_is_free : (new : ℕ) → new ≡ min (2 * p.lasts) LONGEST → wait_of standing ≡ Some wait → p.is_linked ≡ true
          → may_sign standing ≡ false
          → MayEnd old.needed past number standing true (record p { watched = None; lasts = new })
      it_is_free new is e linked_so signs =
          it_gives new p.costly is e linked_so
          (rw signs fits.counts)
