-- What a write at the end of a file, and a cut, leave of it.
use Rattle.std.proofs.Common.{◌≡◌, ℕ, ◌+◌, ◌-◌, ◌≤◌, ◌<◌, List, [], ◌++◌, length, take, drop, get_or, refl, sym, ◌∙◌, ap, subst, arith, get_or-take, length-append, length-take}
use Rattle.std.proofs.Common.{inl, inr}
use Rattle.std.proofs.lemmas.List.{append-nil, drop_all, get_or_append_left, get_or-append_right, take-append-drop, ext_get_or}
use Rattle.std.proofs.lemmas.Bool.{cases_lt}
use Rattle.sqlite_disk.specs.Disk.{Holds, Torn, Cut, Follows}
use Rattle.event_log.specs.Logs.{log_bytes, BeginsWith, Keeps}
use Rattle.event_log.specs.declared.owner.Owner.{Owner}

-- a file that is as long at least and has the same bytes
pub keeps_front : (old new : List ℕ) → length old ≤ length new → ((i : ℕ) → i < length old → get_or new i 0 ≡ get_or old i 0) → new ≡ old ++ drop (length old) new
keeps_front old new long same =
    let front : take (length old) new ≡ old =
    ext_get_or 0 (take (length old) new) old (omega (arith, long, length-take (length old) new)) (λ i low.
    let below : i < length old = omega (arith, length-take (length old) new, low) in
    get_or-take (length old) new i 0 below ∙ same i below) in
    sym (take-append-drop (length old) new) ∙ ap (λ (l : List ℕ). l ++ drop (length old) new) front

-- a whole write at the end
pub written_end : (old new bytes : List ℕ) → Torn (length old) (length bytes) old new → Holds new (length old) bytes → new ≡ old ++ bytes
written_end old new bytes torn holds =
    let long : length new ≡ length (old ++ bytes) = omega (arith, torn.no_longer, holds.within, length-append old bytes) in
    ext_get_or 0 new (old ++ bytes) long (λ i low. elim (cases_lt i (length old)) [
      | inl below ↦ torn.below i below below ∙ sym (get_or_append_left old bytes 0 i below)
      | inr above ↦
          let at : length old + (i - length old) ≡ i = omega (arith, above) in
          ap (λ (k : ℕ). get_or new k 0) (sym at) ∙ holds.each (i - length old) (omega (arith, above, low, long, length-append old bytes))
          ∙ sym (get_or-append_right old bytes (length old) i 0 refl above)
    ])

-- The front of a file stays if a write begins behind it.
pub torn_front : (front rest old new : List ℕ) (at n : ℕ) → old ≡ front ++ rest → length front ≤ at → Torn at n old new → new ≡ front ++ drop (length front) new
torn_front front rest old new at n is behind torn =
    let long : length old ≡ length front + length rest = ap length is ∙ length-append front rest in
    keeps_front front new (omega (arith, long, torn.no_shorter)) (λ i low.
    torn.below i (omega (arith, long, low)) (omega (arith, behind, low))
    ∙ ap (λ (l : List ℕ). get_or l i 0) is ∙ get_or_append_left front rest 0 i low)

-- It stays if a cut leaves it.
pub cut_front : (front rest old new : List ℕ) (at : ℕ) → old ≡ front ++ rest → length front ≤ at → Cut at old new → new ≡ front ++ drop (length front) new
cut_front front rest old new at is behind cut =
    let long : length old ≡ length front + length rest = ap length is ∙ length-append front rest in
    keeps_front front new (omega (arith, long, behind, cut.no_shorter)) (λ i low.
    cut.below i (omega (arith, long, low)) (omega (arith, behind, low))
    ∙ ap (λ (l : List ℕ). get_or l i 0) is ∙ get_or_append_left front rest 0 i low)

-- a whole cut behind the front
pub cut_done : (front rest old new : List ℕ) (at : ℕ) → old ≡ front ++ rest → length front ≡ at → Cut at old new → length new ≡ at → new ≡ front
cut_done front rest old new at is here cut ends =
    cut_front front rest old new at is (omega (arith, here)) cut
    ∙ ap (λ (l : List ℕ). front ++ l) (drop_all (length front) new (omega (arith, here, ends)))
    ∙ append-nil front

-- ---- a log

-- What a torn write behind a log leaves keeps its events.
pub torn_keeps : (owner : Owner) (events : List (List ℕ)) (old tail new : List ℕ) (at n : ℕ) → BeginsWith owner events old tail → length old ≤ at + length tail
    → Torn at n old new → Keeps owner events new
torn_keeps owner events old tail new at n begins behind torn =
    let front = log_bytes owner begins.groups in
    let long : length old ≡ length front + length tail = ap length begins.whole ∙ length-append front tail in
    record {
      tail = drop (length front) new;
      begins = record {
        groups = begins.groups;
        are_groups = begins.are_groups;
        told = begins.told;
        whole = torn_front front tail old new at n begins.whole (omega (arith, behind, long)) torn;
      };
    }

-- So does what a cut behind it leaves.
pub cut_keeps : (owner : Owner) (events : List (List ℕ)) (old tail new : List ℕ) (at : ℕ) → BeginsWith owner events old tail → length old ≤ at + length tail
    → Cut at old new → Keeps owner events new
cut_keeps owner events old tail new at begins behind cut =
    let front = log_bytes owner begins.groups in
    let long : length old ≡ length front + length tail = ap length begins.whole ∙ length-append front tail in
    record {
      tail = drop (length front) new;
      begins = record {
        groups = begins.groups;
        are_groups = begins.are_groups;
        told = begins.told;
        whole = cut_front front tail old new at begins.whole (omega (arith, behind, long)) cut;
      };
    }

-- A whole cut leaves the log and nothing else.
pub cut_begins : (owner : Owner) (events : List (List ℕ)) (old tail new : List ℕ) (at : ℕ) → BeginsWith owner events old tail → at + length tail ≡ length old
    → Cut at old new → length new ≡ at → BeginsWith owner events new []
cut_begins owner events old tail new at begins here cut ends =
    let front = log_bytes owner begins.groups in
    let long : length old ≡ length front + length tail = ap length begins.whole ∙ length-append front tail in
    record {
      groups = begins.groups;
      are_groups = begins.are_groups;
      told = begins.told;
      whole = cut_done front tail old new at begins.whole (omega (arith, here, long)) cut ends ∙ sym (append-nil front);
    }

-- a crash in a write behind a log whose synced events every crash kept
pub write_crash : (owner : Owner) (events : List (List ℕ)) (at n : ℕ) (seen : List ℕ) (old new : List ℕ → Type 0) → BeginsWith owner events seen [] → at ≡ length seen
    → ((file : List ℕ) → old file → (file ≡ seen)) → Follows (Torn at n) old new → (file : List ℕ) → new file → Keeps owner events file
write_crash owner events at n seen old new begins here lasting follows file left =
    let from = follows file left in
    torn_keeps owner events seen [] file at n begins (omega (arith, here)) (subst (λ (d : List ℕ). Torn at n d file) (lasting from.0 from.1) from.2)
