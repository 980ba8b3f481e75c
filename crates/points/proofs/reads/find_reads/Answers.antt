use Rattle.std.proofs.Common.{◌+◌, ◌-◌, ◌^◌, List, [], reverse, take, ◌≡◌, sym, ap₂, ◌∙◌, subst, arith, rules}
use Rattle.std.proofs.lemmas.List.{take_all}
use Rattle.protocol.specs.System.Trace.{Entry}
use Rattle.signing.specs.Publics.{derived_publics, knows}
use Rattle.points.specs.Places.{position_in}
use Rattle.points.specs.Scanning.{AreScans, reads_by_scans, seed_holder}
use Rattle.points.specs.Sorting.{HoldsReads}
use Rattle.points.proofs.Holding.{holds_none, ended_on, holds_less}
use Rattle.points.proofs.Noting.{no_scans}
use Rattle.points.proofs.Rising.{one_more_entry, length_taken}
use Rattle.points.proofs.reads.find_reads.Goals as goal

pub loop-position-init : goal.loop-position-init
loop-position-init c = (search rules, subst (AreScans []) (sym c.new-scans.ensures.empty) no_scans, holds_none _ _ c.new-reads.ensures.sorted c.new-reads.ensures.calls)

pub add_ended-requires : goal.add_ended-requires
add_ended-requires c = record { ranked = c.loop-position.invariant.2.ranked _ (omega arith) }

pub loop-position-preserved : goal.loop-position-preserved
loop-position-preserved c =
    let past : List Entry = reverse (take c.loop-position.position c.args.trace.now) in
    let e : Entry = c.index-trace-position.result in
    let more = one_more_entry c.args.trace.now c.loop-position.position e c.loop-position-test.true (sym c.index-trace-position.is) in
    let known : c.in_ok-publics.publics ≡ c.args.config.now.publics =
    c.in_ok-publics.ensures ∙ ap₂ derived_publics c.seed-2.ensures.value c.faults-2.ensures.value ∙ sym c.faults.ensures.valid.publics in
    let same : knows c.loop-position.ring c.in_ok-publics.publics ≡ seed_holder c.args.config.now = ap₂ knows c.loop-position.invariant.0 known in
    let held = ended_on (seed_holder c.args.config.now) (knows c.loop-position.ring c.in_ok-publics.publics) (reverse c.args.places.now.rises.items) past e c.loop-position.scans.entries c.loop-position.reads c.add_ended.new.reads (18446744073709551615 - c.loop-position.position) (2 ^ 64 - c.loop-position.position)
    same c.in_ok-add_ended.ensures.adds c.loop-position.invariant.1 (omega arith) c.loop-position.invariant.2 in (
      search rules,
      subst (λ (xs : List Entry). AreScans xs c.note.new.scans.entries) (sym more) (c.in_ok-note.ensures past (length_taken c.args.trace.now c.loop-position.position c.loop-position-test.true) c.loop-position.invariant.1),
      subst (λ (xs : List Entry). HoldsReads (2 ^ 64 - (c.loop-position.position + 1)) (reads_by_scans (seed_holder c.args.config.now) (position_in (reverse c.args.places.now.rises.items)) xs) c.add_ended.new.reads) (sym more)
          (holds_less _ _ _ _ (omega arith) held),
    )

pub returns : goal.returns
returns c =
    subst (λ (xs : List Entry). HoldsReads (2 ^ 63) (reads_by_scans (seed_holder c.args.config.now) (position_in (reverse c.args.places.now.rises.items)) (reverse xs)) c.loop-position.reads) (take_all c.loop-position.position c.args.trace.now (omega arith))
    (holds_less _ _ _ _ (omega arith) c.loop-position.invariant.2)
