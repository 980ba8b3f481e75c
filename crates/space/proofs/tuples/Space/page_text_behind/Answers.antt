use Rattle.std.proofs.Common.{◌≡◌, ◌≤◌, ◌++◌, length, drop, sym, subst, ap, ◌∙◌, arith}
use Rattle.std.proofs.lemmas.Result.{IfOk-weaker}
use Rattle.space.specs.Births.{SpaceState, page_count}
use Rattle.space.specs.Filing.{births_on}
use Rattle.space.specs.Found.{entries_at}
use Rattle.space.specs.Pages.{entries_text, tuple_page_text, text_of_oldest}
use Rattle.space.proofs.Storing.{page_behind, length-births_on}
use Rattle.space.proofs.tuples.Space.page_text_behind.Goals as goal

pub split_at-requires : goal.split_at-requires
split_at-requires c =
    let s : SpaceState = record { version = c.self.inside.version; entries = c.self.inside.tuples.entries; next = c.self.inside.next } in
    let births = c.on_page-births.ensures s.entries c.self.invariant.indexed in
    let few : c.args.count ≤ page_count s.entries c.args.page = subst (λ (x : SpaceState). c.args.count ≤ page_count x.entries c.args.page) (sym c.self.view_is) c.requires.count in
    omega (arith, few, ap length births, length-births_on c.args.page s.entries)

pub returns : goal.returns
returns c =
    let s : SpaceState = record { version = c.self.inside.version; entries = c.self.inside.tuples.entries; next = c.self.inside.next } in
    let births = c.on_page-births.ensures s.entries c.self.invariant.indexed in
    let front : c.args.front.now ≡ text_of_oldest s c.args.page c.args.count = c.requires.front ∙ sym (ap (λ (x : SpaceState). text_of_oldest x c.args.page c.args.count) c.self.view_is) in
    let others = c.split_at.ensures.back ∙ ap (drop c.args.count) births in
    let same : c.args.front.now ++ entries_text s.version (entries_at s.entries c.split_at.result.1.now) ≡ tuple_page_text c.args.self.now c.args.page =
    ap (λ bs. c.args.front.now ++ entries_text s.version (entries_at s.entries bs)) others
    ∙ ap (λ bs. bs ++ entries_text s.version (entries_at s.entries (drop c.args.count (births_on c.args.page s.entries)))) front
    ∙ page_behind s c.self.invariant.counts.state c.args.page c.args.count ∙ ap (λ (x : SpaceState). tuple_page_text x c.args.page) c.self.view_is in
    IfOk-weaker c.text_behind.result (λ text. text.items ≡ c.args.front.now ++ entries_text s.version (entries_at s.entries c.split_at.result.1.now)) (λ text. text.items ≡ tuple_page_text c.args.self.now c.args.page) (λ text e. e ∙ same) c.text_behind.ensures
