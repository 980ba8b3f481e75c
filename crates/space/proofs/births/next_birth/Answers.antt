use Rattle.std.proofs.Common.{◌≡◌, ℕ, List, ◌+◌, ◌-◌, ◌%◌, Bool, nat_lt, slice_index, sym, ap, ◌∙◌, arith}
use Rattle.std.proofs.lemmas.Bool.{lt-ltb, le-ltb}
use Rattle.space.specs.Births.{first_passing}
use Rattle.space.proofs.Passing.{first_passing-no, first_passing-yes, first_passing-none}
use Rattle.space.proofs.births.next_birth.Goals as goal

abbrev room : List ℕ → ℕ → Bool
room counts birth = nat_lt (slice_index counts (birth % 256)) 64

pub loop-birth-init : goal.loop-birth-init
loop-birth-init c =
    let e : 256 ≡ c.args.next + 256 - c.args.next = omega arith in
    ap (λ n. first_passing (room c.args.page_counts.now) n c.args.next) e

pub loop-birth-preserved : goal.loop-birth-preserved
loop-birth-preserved c =
    let e : c.args.next + 256 - c.loop-birth.birth ≡ (c.args.next + 256 - (c.loop-birth.birth + 1)) + 1 = omega arith in
    c.loop-birth.invariant ∙ first_passing-no (room c.args.page_counts.now) _ _ c.loop-birth.birth e (le-ltb _ _ c.if-page_counts-birth-lt-MAX_ON_PAGE.false)

pub returns-then-page_counts-birth-lt-MAX_ON_PAGE : goal.returns-then-page_counts-birth-lt-MAX_ON_PAGE
returns-then-page_counts-birth-lt-MAX_ON_PAGE c =
    sym (c.loop-birth.invariant ∙ first_passing-yes (room c.args.page_counts.now) _ c.loop-birth.birth (omega arith) (lt-ltb _ _ c.if-page_counts-birth-lt-MAX_ON_PAGE.true))

pub returns : goal.returns
returns c =
    let e : c.loop-birth.birth ≡ c.args.next + 256 = omega arith in
    sym (c.loop-birth.invariant ∙ first_passing-none (room c.args.page_counts.now) _ c.loop-birth.birth (omega arith) ∙ e)
