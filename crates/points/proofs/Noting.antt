-- The notes on clients, and on levels.
use Rattle.std.proofs.Common.{◌≡◌, ℕ, zero, suc, ◌+◌, ◌-◌, ◌≤◌, ◌<◌, ◌⊎◌, inl, inr, true, cond, List, [], ◌∷◌, ◌++◌, length, get_or, refl, sym, ap, ◌∙◌, subst, arith, Option, Some, eq-eqb}
use Rattle.std.specs.Prelude.{◌==◌}
use Rattle.std.specs.Option.{option_map_or}
use Rattle.std.specs.Map.{lookup}
use Rattle.std.specs.Ordering.{nat_cmp}
use Rattle.std.specs.BTreeMap.{is_at}
use Rattle.std.specs.List.Sorted.{IsNonDecreasingBy}
use Rattle.std.proofs.lemmas.Bool.{cases_order, ne_eqb}
use Rattle.std.proofs.lemmas.List.Sorted.{IsNonDecreasingBy-push}
use Rattle.space.proofs.Filing.{at_same, at_other}
use Rattle.wire_format.specs.Lists.{Each}
use Rattle.protocol.specs.System.Trace.{Entry, party_of}
use Rattle.points.specs.declared.levels.Rise.{Rise}
use Rattle.points.specs.declared.scans.ClientScan.{ClientScan}
use Rattle.points.specs.Scanning.{ClientScanData, empty_scan, scan_after_entry, scan_of, scan_at, scan_data, AreScans, NotesEntry}

-- ---- scans

abbrev ClientScans : Type 0
ClientScans = List (ℕ × ClientScan)

-- the new scans have this one at the client's number, and else those of the old
abbrev pub Puts : ℕ → ClientScan → ClientScans → ClientScans → Type 0
Puts k scan old new = (q : ℕ) → lookup (is_at (nat_cmp q)) new ≡ cond (is_at (nat_cmp k) q) (Some scan) (lookup (is_at (nat_cmp q)) old)

pub notes_own : (k position : ℕ) (e : Entry) (old new : ClientScans) (scan : ClientScan) → party_of e ≡ 256 + k → Puts k scan old new
    → scan_data scan ≡ scan_after_entry position e (scan_at old k) → NotesEntry position e old new
notes_own k position e old new scan own puts is past at scans q = go (cases_order k q)
  where
    read : Option ClientScan → ClientScanData
    read o = option_map_or scan_data o empty_scan

    other : (k ≡ q → ⊥) → scan_at new q ≡ cond (party_of e == 256 + q) (scan_after_entry (length past) e (scan_of (256 + q) past)) (scan_of (256 + q) past)
    other ne =
        ap read (puts q ∙ ap (λ b. cond b (Some scan) (lookup (is_at (nat_cmp q)) old)) (at_other k q ne)) ∙ scans q
        ∙ sym (ap (λ b. cond b (scan_after_entry (length past) e (scan_of (256 + q) past)) (scan_of (256 + q) past)) (ne_eqb (party_of e) (256 + q) (λ same. ne (omega (arith, own, same)))))

    go : (k ≡ q) ⊎ ((k < q) ⊎ (q < k)) → scan_at new q ≡ cond (party_of e == 256 + q) (scan_after_entry (length past) e (scan_of (256 + q) past)) (scan_of (256 + q) past)
    go (inl same) =
        ap read (puts q ∙ ap (λ b. cond b (Some scan) (lookup (is_at (nat_cmp q)) old)) (subst (λ n. is_at (nat_cmp k) n ≡ true) same (at_same k)))
        ∙ is ∙ ap (λ n. scan_after_entry n e (scan_at old k)) at ∙ ap (scan_after_entry (length past) e) (scans k) ∙ ap (λ n. scan_after_entry (length past) e (scan_of (256 + n) past)) same
        ∙ sym (ap (λ b. cond b (scan_after_entry (length past) e (scan_of (256 + q) past)) (scan_of (256 + q) past)) (eq-eqb (party_of e) (256 + q) (own ∙ ap (λ n. 256 + n) same)))
    go (inr (inl l)) = other (λ same. omega arith)
    go (inr (inr l)) = other (λ same. omega arith)

pub notes_none : (position : ℕ) (e : Entry) (scans : ClientScans) → party_of e < 256 → NotesEntry position e scans scans
notes_none position e old l past at scans q =
    scans q ∙ sym (ap (λ b. cond b (scan_after_entry (length past) e (scan_of (256 + q) past)) (scan_of (256 + q) past)) (ne_eqb (party_of e) (256 + q) (λ same. omega arith)))

pub no_scans : AreScans [] []
no_scans q = refl

-- ---- levels

within : (xs : List Rise) (m i : ℕ) (d : Rise) → Each (λ (x : Rise). x.level ≤ m) xs → i < length xs → (get_or xs i d).level ≤ m
within [] m i d h l = absurd (omega arith)
within (x ∷ xs) m zero d h l = h.0
within (x ∷ xs) m (suc i) d h l = within xs m i d h.1 (omega arith)

each_up : (xs : List Rise) (old now at : ℕ) → old < now → Each (λ (x : Rise). x.level ≤ old) xs → Each (λ (x : Rise). x.level ≤ now) (xs ++ record { level = now; position = at } ∷ [])
each_up [] old now at l h = (omega arith, tt)
each_up (x ∷ xs) old now at l h = let m = h.0 in (omega arith, each_up xs old now at l h.1)

pub rising_on : (xs : List Rise) (old now at : ℕ) → IsNonDecreasingBy (λ (x : Rise). x.level) xs → Each (λ (x : Rise). x.level ≤ old) xs → old < now
    → IsNonDecreasingBy (λ (x : Rise). x.level) (xs ++ record { level = now; position = at } ∷ []) × Each (λ (x : Rise). x.level ≤ now) (xs ++ record { level = now; position = at } ∷ [])
rising_on xs old now at rising below l = (
  IsNonDecreasingBy-push (λ (x : Rise). x.level) xs (record { level = now; position = at }) rising
      (λ d some. let m = within xs old (length xs - 1) d below (omega arith) in omega arith),
  each_up xs old now at l below,
)
