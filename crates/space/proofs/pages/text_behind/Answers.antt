use Rattle.std.proofs.Common.{List, ℕ, take, get_or, ap, sym, ◌∙◌, append-nil, append_assoc}
use Rattle.std.specs.Prelude.{◌++◌}
use Rattle.std.proofs.lemmas.List.{get_or_default}
use Rattle.space.specs.Found.{entries_at}
use Rattle.space.specs.Pages.{entry_text, entries_text}
use Rattle.space.proofs.Among.{text_here, text_gone}
use Rattle.space.proofs.pages.text_behind.Goals as goal
use Rattle.space.proofs.pages.text_behind.Goals.{in-Some+in_ok-put_entry, in_default}

pub loop-birth-init : goal.loop-birth-init
loop-birth-init c = c.in_ok-text.ensures ∙ sym (append-nil c.args.front.now)

pub loop-birth-preserved : goal.loop-birth-preserved
loop-birth-preserved c =
    let front = c.args.front.now in
    let births = c.args.births.now in
    let i = c.loop-birth.birth-index in
    let b = get_or births i 0 in
    let is = get_or_default births i 0 b c.loop-birth-test.true in
    let before : List ℕ = entries_text c.args.version (entries_at c.args.tuples.now.entries (take i births)) in
    elim c.match-get.branch [
      | in-Some+in_ok-put_entry w ↦
          let one : List ℕ = entry_text c.args.version (b, w.in-Some.tuple.now) in
          ap (λ t. t.items) w.text-is ∙ w.in_ok-put_entry.ensures {u = tt} ∙ ap (λ bs. bs ++ one) c.loop-birth.invariant
          ∙ append_assoc front before one
          ∙ ap (λ bs. front ++ bs) (text_here c.args.tuples.now.entries births i b c.loop-birth-test.true is c.args.version w.in-Some.tuple.now w.in-Some.ensures.value)
      | in_default w ↦
          ap (λ t. t.items) w.text-is ∙ c.loop-birth.invariant
          ∙ ap (λ bs. front ++ bs) (text_gone c.args.tuples.now.entries births i b c.loop-birth-test.true is c.args.version w.in_default.ensures.value)
    ]
