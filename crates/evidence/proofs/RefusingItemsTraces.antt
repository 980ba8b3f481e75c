-- Two traces of a write and a read that are not linearizable.
use Rattle.std.proofs.Common.{◌≡◌, ◌≢◌, ℕ, ◌+◌, ◌-◌, ◌≤◌, ◌⊎◌, inl, inr, Bool, true, false, cond, List, [], ◌∷◌, refl, sym, ap, ◌∙◌, subst, arith, length}
use Rattle.std.specs.Prelude.{◌||◌, if◌then◌else◌, Some, None, is_some}
use Rattle.tuple_tree.specs.Values.{TupleTree, TemplateTree}
use Rattle.tuple_codec.specs.Operations.{Operation, out, rdp, inp, cas, rd_all, in_all, upgrade, Outcome, done, found, absent, refused, is_version_2}
use Rattle.template_match.specs.Tests.{is_match}
use Rattle.space.specs.Applying.{Contents, no_tuples, with_newest, has_room, first_match, is_forbidden, refuses, served_outcome, served_after, outcome, tuples_after, found_or_absent}
use Rattle.space.specs.declared.version.Version.{Version}
use Rattle.space.specs.declared.version.Version.TheVariants as versions
use Rattle.space.proofs.Keeping.{read_same}
use Rattle.protocol.specs.System.Configuration.{Configuration, is_correct_client}
use Rattle.protocol.specs.System.Trace.{Entry, Once, Has}
use Rattle.protocol.specs.System.Trace.Entry.{Invoke, Accepted}
use Rattle.protocol.specs.Space.Linear.{Item, item_after, LegalFrom, Invokes, EntryAsks, NoneTwice, NeverFall, IsLinear}
use Rattle.evidence.specs.RefusedItems.{WritesAreSeen, ReadsAreNotEarly}
use Rattle.evidence.proofs.RefusingItems.{behind, lowest}
use Rattle.protocol.proofs.Words.Elements.{has_weaker}

-- Each operation but an upgrade keeps the version of a space.
keeps_version : (ts : Contents) (client : ℕ) (o : Operation) → (o ≡ upgrade → ⊥) → (tuples_after ts client o).version ≡ ts.version
keeps_version ts client o other = either (refuses ts.version client o) ts (served_after ts o) refl (served o other)
  where
    either : (b : Bool) (us vs : Contents) → us.version ≡ ts.version → vs.version ≡ ts.version → (cond b us vs).version ≡ ts.version
    either true us vs u v = u
    either false us vs u v = v

    served : (o : Operation) → (o ≡ upgrade → ⊥) → (served_after ts o).version ≡ ts.version
    served (out t) other = either (has_room ts) _ _ refl refl
    served (rdp p) other = refl
    served (inp p) other = refl
    served (cas p t) other = either (is_some (first_match p ts)) _ _ refl (either (has_room ts) _ _ refl refl)
    served (rd_all n p) other = refl
    served (in_all n p) other = refl
    served upgrade other = absurd (other refl)

-- Where nothing upgrades it, an operation that a space of version 1 answers, and not by a refusal, is one of version 1.
abbrev NoneUpgrades : List Item → Type 0
NoneUpgrades items = (x : Item) → Has (λ y. y ≡ x) items → x.op ≡ upgrade → ⊥

is_plain : (o : Operation) (answer : Outcome) (ts : Contents) (items : List Item) → ts.version ≡ versions.One → (answer ≡ refused → ⊥) → NoneUpgrades items → LegalFrom ts items → Has (λ x. (x.op ≡ o) × (x.answer ≡ answer)) items
    → is_version_2 o ≡ false
is_plain o answer ts [] first other none legal h = absurd h
is_plain o answer ts (x ∷ items) first other none legal (inl h) = go (is_version_2 o) refl
  where
    client : ℕ
    client = x.client - 256

    is_outcome : outcome ts client o ≡ cond (is_version_2 o || is_forbidden client o) refused (served_outcome ts o)
    is_outcome = ap (λ (v : Version). cond (refuses v client o) refused (served_outcome ts o)) first

    go : (b : Bool) → is_version_2 o ≡ b → is_version_2 o ≡ false
    go true e =
        absurd (other (sym h.1 ∙ legal.0 ∙ ap (outcome ts client) h.0 ∙ is_outcome ∙ ap (λ (b : Bool). cond (b || is_forbidden client o) refused (served_outcome ts o)) e))
    go false e = e
is_plain o answer ts (x ∷ items) first other none legal (inr h) =
    is_plain o answer (item_after ts x) items (keeps_version ts (x.client - 256) x.op (none x (inl refl)) ∙ first) other (λ y k. none y (inr k)) legal.1 h

module _ (c : Configuration) (writer reader : ℕ) (t : TupleTree) (p : TemplateTree) (differ : writer ≢ reader)
    (right_writer : is_correct_client c (256 + writer) ≡ true) (right_reader : is_correct_client c (256 + reader) ≡ true) where
  abbrev IsWrite : Item → Type 0
  IsWrite x = (x.client ≡ 256 + writer) × (x.timestamp ≡ 1) × (x.op ≡ out t)

  -- ---- a write, then a read that finds nothing

  abbrev late : List Entry
  late = Accepted reader 1 absent ∷ Invoke reader 1 (rdp p) ∷ Accepted writer 1 done ∷ Invoke writer 1 (out t) ∷ []

  abbrev Early : Item → Type 0
  Early x = IsWrite x × (x.position ≤ 1)

  abbrev Late : Item → Type 0
  Late x = ((x.client ≡ 256 + reader) × (x.timestamp ≡ 1) × (x.op ≡ rdp p)) × (2 ≤ x.position)

  abbrev Misses : Item → Type 0
  Misses x = (x.client ≡ 256 + reader) × (x.answer ≡ absent)

  -- each item is the write or the read
  late_each : (items : List Item) → IsLinear c items late → (x : Item) → Has (λ y. y ≡ x) items → Early x ⊎ Late x
  late_each items linear x has = go (is_correct_client c x.client) refl
    where
      go : (b : Bool) → is_correct_client c x.client ≡ b → Early x ⊎ Late x
      go true right = by (linear.placed.after x has right)
        where
          by : Once (λ past e. Invokes x.client x.timestamp x.op past e × (length past ≤ x.position)) late → Early x ⊎ Late x
          by (inl h) = absurd h.0
          by (inr (inl h)) = inr ((sym h.0.0, sym h.0.1, sym h.0.2), h.1)
          by (inr (inr (inl h))) = absurd h.0
          by (inr (inr (inr (inl h)))) =
              inl ((sym h.0.0, sym h.0.1, sym h.0.2), (linear.placed.before x done has right).1.1.0 (h.0.0, h.0.1, refl))
          by (inr (inr (inr (inr h)))) = absurd h
      go false wrong = by (linear.covers.asked x has wrong)
        where
          by : Once (λ past e. EntryAsks c x.client x.timestamp x.op past e × (length past ≤ x.position)) late → Early x ⊎ Late x
          by (inl h) = absurd h.0
          by (inr (inl h)) = absurd h.0
          by (inr (inr (inl h))) = absurd h.0
          by (inr (inr (inr (inl h)))) = absurd h.0
          by (inr (inr (inr (inr h)))) = absurd h

  none_upgrades : (items : List Item) → IsLinear c items late → NoneUpgrades items
  none_upgrades items linear x has is = by (late_each items linear x has)
    where
      by : Early x ⊎ Late x → ⊥
      by (inl e) = let g : out t ≡ upgrade = sym e.0.2 ∙ is in absurd cc
      by (inr l) = let g : rdp p ≡ upgrade = sym l.0.2 ∙ is in absurd cc

  -- the contents after the write
  abbrev written : Contents
  written = tuples_after no_tuples 0 (out t)

  write_is_plain : (items : List Item) → IsLinear c items late → is_version_2 (out t) ≡ false
  write_is_plain items linear =
      is_plain (out t) done no_tuples items refl (λ e. let g : ⊥ = cc in g) (none_upgrades items linear) linear.legal
      (has_weaker (λ (x : Item). (x.client ≡ 256 + writer) × (x.timestamp ≡ 1) × (x.answer ≡ done) × Once (Invokes (256 + writer) 1 x.op) late) (λ x. (x.op ≡ out t) × (x.answer ≡ done)) (λ x h. (by x h.3, h.2)) items
      (linear.covers.accepted (256 + writer) 1 done right_writer (inr (inr (inl (refl, refl, refl))))))
    where
      by : (x : Item) → Once (Invokes (256 + writer) 1 x.op) late → x.op ≡ out t
      by x (inl h) = absurd h
      by x (inr (inl h)) = absurd (differ (omega (arith, h.0)))
      by x (inr (inr (inl h))) = absurd h
      by x (inr (inr (inr (inl h)))) = sym h.2
      by x (inr (inr (inr (inr h)))) = absurd h

  read_is_plain : (items : List Item) → IsLinear c items late → is_version_2 (rdp p) ≡ false
  read_is_plain items linear =
      is_plain (rdp p) absent no_tuples items refl (λ e. let g : ⊥ = cc in g) (none_upgrades items linear) linear.legal
      (has_weaker (λ (x : Item). (x.client ≡ 256 + reader) × (x.timestamp ≡ 1) × (x.answer ≡ absent) × Once (Invokes (256 + reader) 1 x.op) late) (λ x. (x.op ≡ rdp p) × (x.answer ≡ absent)) (λ x h. (by x h.3, h.2)) items
      (linear.covers.accepted (256 + reader) 1 absent right_reader (inl (refl, refl, refl))))
    where
      by : (x : Item) → Once (Invokes (256 + reader) 1 x.op) late → x.op ≡ rdp p
      by x (inl h) = absurd h
      by x (inr (inl h)) = sym h.2
      by x (inr (inr (inl h))) = absurd h
      by x (inr (inr (inr (inl h)))) = absurd (differ (omega (arith, h.0)))
      by x (inr (inr (inr (inr h)))) = absurd h

  module _ (matches : is_match p t ≡ true) (plain_write : is_version_2 (out t) ≡ false) (plain_read : is_version_2 (rdp p) ≡ false) where
    abbrev alone : Contents
    alone = record { version = versions.One; tuples = t ∷ [] }

    -- for each client: none is forbidden to read
    finds : outcome written 0 (rdp p) ≡ found t
    finds =
        ap (λ (ts : Contents). outcome ts 0 (rdp p)) (ap (λ (b : Bool). cond (b || false) no_tuples (with_newest no_tuples t)) plain_write)
        ∙ ap (λ (b : Bool). cond (b || false) refused (served_outcome alone (rdp p))) plain_read
        ∙ ap (λ (b : Bool). found_or_absent (if b then Some t else None)) matches

    -- after the write alone, reads find the tuple
    after_write : (items : List Item) → ((x : Item) → Has (λ y. y ≡ x) items → Late x) → LegalFrom written items → Has Misses items → ⊥
    after_write [] each legal has = has
    after_write (x ∷ items) each legal (inl misses) =
        let is : x.op ≡ rdp p = (each x (inl refl)).0.2 in
        let bad : absent ≡ found t = sym misses.1 ∙ legal.0 ∙ ap (outcome written (x.client - 256)) is ∙ finds in absurd cc
    after_write (x ∷ items) each legal (inr has) =
        let is : x.op ≡ rdp p = (each x (inl refl)).0.2 in
        let rest : LegalFrom (tuples_after written 0 (rdp p)) items = subst (λ (o : Operation). LegalFrom (tuples_after written (x.client - 256) o) items) is legal.1 in
        after_write items (λ y h. each y (inr h)) (subst (λ (ts : Contents). LegalFrom ts items) (read_same written 0 (rdp p) refl) rest) has

    misses_none : (items : List Item) → ((x : Item) → Has (λ y. y ≡ x) items → Early x ⊎ Late x) → NoneTwice items → NeverFall items → LegalFrom no_tuples items
        → Has (λ x. x.client ≡ 256 + writer) items → Has Misses items → ⊥
    misses_none [] each once order legal writes misses = misses
    misses_none (x ∷ items) each once order legal writes misses = go (each x (inl refl)) writes misses
      where
        go : Early x ⊎ Late x → (x.client ≡ 256 + writer) ⊎ Has (λ y. y.client ≡ 256 + writer) items → Misses x ⊎ Has Misses items → ⊥
        go (inr l) (inl w) misses = differ (omega (arith, w, l.0.0))
        go (inr l) (inr w) misses =
            let high = l.1 in
            let low = lowest (λ y. (y.client ≡ 256 + writer) × Has (λ z. z ≡ y) items) 1 x items early order (has_there items w) in
            absurd (omega arith)
          where
            has_there : (ys : List Item) → Has (λ y. y.client ≡ 256 + writer) ys → Has (λ y. (y.client ≡ 256 + writer) × Has (λ z. z ≡ y) ys) ys
            has_there [] h = h
            has_there (y ∷ ys) (inl h) = inl (h, inl refl)
            has_there (y ∷ ys) (inr h) = inr (has_weaker (λ z. (z.client ≡ 256 + writer) × Has (λ u. u ≡ z) ys) (λ z. (z.client ≡ 256 + writer) × Has (λ u. u ≡ z) (y ∷ ys)) (λ z k. (k.0, inr k.1)) ys (has_there ys h))

            early : (y : Item) → (y.client ≡ 256 + writer) × Has (λ z. z ≡ y) items → y.position ≤ 1
            early y h = by (each y (inr h.1))
              where
                by : Early y ⊎ Late y → y.position ≤ 1
                by (inl e) = e.1
                by (inr l) = absurd (differ (omega (arith, h.0, l.0.0)))
        go (inl e) writes (inl m) = differ (omega (arith, e.0.0, m.0))
        go (inl e) writes (inr m) = after_write items reads (subst (λ (o : Operation). LegalFrom (tuples_after no_tuples (x.client - 256) o) items) e.0.2 legal.1) m
          where
            again : (y : Item) → IsWrite y → (ys : List Item) → Has (λ z. z ≡ y) ys → Has (λ z. (z.client ≡ x.client) × (z.timestamp ≡ x.timestamp)) ys
            again y is ys h = has_weaker (λ z. z ≡ y) (λ z. (z.client ≡ x.client) × (z.timestamp ≡ x.timestamp)) (λ z same. (ap (λ (u : Item). u.client) same ∙ is.0 ∙ sym e.0.0, ap (λ (u : Item). u.timestamp) same ∙ is.1 ∙ sym e.0.1)) ys h

            reads : (y : Item) → Has (λ z. z ≡ y) items → Late y
            reads y h = by (each y (inr h))
              where
                by : Early y ⊎ Late y → Late y
                by (inr l) = l
                by (inl w) = absurd (once.0 (again y w.0 items h))

  late_has_none : is_match p t ≡ true → (items : List Item) → IsLinear c items late → ⊥
  late_has_none matches items linear =
      misses_none matches (write_is_plain items linear) (read_is_plain items linear) items (late_each items linear) linear.covers.once linear.placed.in_order linear.legal
      (has_weaker (λ (x : Item). (x.client ≡ 256 + writer) × (x.timestamp ≡ 1) × (x.answer ≡ done) × Once (Invokes (256 + writer) 1 x.op) late) (λ x. x.client ≡ 256 + writer) (λ x h. h.0) items
      (linear.covers.accepted (256 + writer) 1 done right_writer (inr (inr (inl (refl, refl, refl))))))
      (has_weaker (λ (x : Item). (x.client ≡ 256 + reader) × (x.timestamp ≡ 1) × (x.answer ≡ absent) × Once (Invokes (256 + reader) 1 x.op) late) Misses (λ x h. (h.0, h.2)) items
      (linear.covers.accepted (256 + reader) 1 absent right_reader (inl (refl, refl, refl))))

  -- ---- a read that finds, then the write

  abbrev early : List Entry
  early = Accepted writer 1 done ∷ Invoke writer 1 (out t) ∷ Accepted reader 1 (found t) ∷ Invoke reader 1 (rdp p) ∷ []

  abbrev Writes : Item → Type 0
  Writes x = IsWrite x × (2 ≤ x.position)

  abbrev Reads : Item → Type 0
  Reads x = ((x.client ≡ 256 + reader) × (x.timestamp ≡ 1) × (x.op ≡ rdp p)) × (x.position ≤ 1)

  abbrev Finds : Item → Type 0
  Finds x = (x.client ≡ 256 + reader) × (x.answer ≡ found t) × (x.position ≤ 1)

  abbrev IsAccepted : Item → Type 0
  IsAccepted x = (x.client ≡ 256 + reader) × (x.timestamp ≡ 1) × (x.answer ≡ found t) × Once (Invokes (256 + reader) 1 x.op) early

  -- a read of the empty space finds nothing, and no write precedes the read
  finds_none : (items : List Item) → ((x : Item) → Has (λ y. y ≡ x) items → Writes x ⊎ Reads x) → NeverFall items → LegalFrom no_tuples items → Has Finds items → ⊥
  finds_none [] each order legal has = has
  finds_none (x ∷ items) each order legal has =
      go (each x (inl refl)) has
      (λ r f.
      let rest : LegalFrom (tuples_after no_tuples 0 (rdp p)) items = subst (λ (o : Operation). LegalFrom (tuples_after no_tuples (x.client - 256) o) items) r.0.2 legal.1 in
      finds_none items (λ y h. each y (inr h)) (behind x items order) (subst (λ (ts : Contents). LegalFrom ts items) (read_same no_tuples 0 (rdp p) refl) rest) f)
    where
      nothing : (b : Bool) → found t ≡ cond b refused absent → ⊥
      nothing true e = let g : ⊥ = cc in g
      nothing false e = let g : ⊥ = cc in g

      go : Writes x ⊎ Reads x → Finds x ⊎ Has Finds items → (Reads x → Has Finds items → ⊥) → ⊥
      go (inl w) (inl f) below = differ (omega (arith, w.0.0, f.0))
      go (inl w) (inr f) below =
          let high = w.1 in
          let low = lowest Finds 1 x items (λ y h. h.2) order f in
          absurd (omega arith)
      go (inr r) (inl f) below = nothing (is_version_2 (rdp p) || false) (sym f.1 ∙ legal.0 ∙ ap (outcome no_tuples (x.client - 256)) r.0.2)
      go (inr r) (inr f) below = below r f

  early_has_none : (items : List Item) → IsLinear c items early → ⊥
  early_has_none items linear =
      finds_none items each linear.placed.in_order linear.legal
      (has_with items (λ x h. h)
      (linear.covers.accepted (256 + reader) 1 (found t) right_reader (inr (inr (inl (refl, refl, refl))))))
    where
      has_with : (ys : List Item) → ((x : Item) → Has (λ y. y ≡ x) ys → Has (λ y. y ≡ x) items) → Has IsAccepted ys → Has Finds ys
      has_with [] emb h = h
      has_with (y ∷ ys) emb (inl h) =
          let right : is_correct_client c y.client ≡ true = subst (λ (q : ℕ). is_correct_client c q ≡ true) (sym h.0) right_reader in
          inl (h.0, h.2, (linear.placed.before y (found t) (emb y (inl refl)) right).1.1.0 (sym h.0, sym h.1, refl))
      has_with (y ∷ ys) emb (inr h) = inr (has_with ys (λ x k. emb x (inr k)) h)

      each : (x : Item) → Has (λ y. y ≡ x) items → Writes x ⊎ Reads x
      each x has = go (is_correct_client c x.client) refl
        where
          go : (b : Bool) → is_correct_client c x.client ≡ b → Writes x ⊎ Reads x
          go true right = by (linear.placed.after x has right)
            where
              by : Once (λ past e. Invokes x.client x.timestamp x.op past e × (length past ≤ x.position)) early → Writes x ⊎ Reads x
              by (inl h) = absurd h.0
              by (inr (inl h)) = inl ((sym h.0.0, sym h.0.1, sym h.0.2), h.1)
              by (inr (inr (inl h))) = absurd h.0
              by (inr (inr (inr (inl h)))) =
                  inr ((sym h.0.0, sym h.0.1, sym h.0.2), (linear.placed.before x (found t) has right).1.1.0 (h.0.0, h.0.1, refl))
              by (inr (inr (inr (inr h)))) = absurd h
          go false wrong = by (linear.covers.asked x has wrong)
            where
              by : Once (λ past e. EntryAsks c x.client x.timestamp x.op past e × (length past ≤ x.position)) early → Writes x ⊎ Reads x
              by (inl h) = absurd h.0
              by (inr (inl h)) = absurd h.0
              by (inr (inr (inl h))) = absurd h.0
              by (inr (inr (inr (inl h)))) = absurd h.0
              by (inr (inr (inr (inr h)))) = absurd h

pub writes_are_seen : WritesAreSeen
writes_are_seen c writer reader t p differ right_writer right_reader matches linear = late_has_none c writer reader t p differ right_writer right_reader matches linear.0 linear.1

pub reads_are_not_early : ReadsAreNotEarly
reads_are_not_early c writer reader t p differ right_writer right_reader linear = early_has_none c writer reader t p differ right_writer right_reader linear.0 linear.1
