-- A line's last argument is read with the blanks after it, and then taken for the operation.
use Rattle.std.proofs.Common.{◌≡◌, ℕ, Bool, true, List, codes, refl, ap, ◌∙◌}
use Rattle.tuple_tree.specs.Values.{TemplateTree}
use Rattle.tuple_codec.specs.Operations.{Operation, out, cas}
use Rattle.tuple_text.specs.declared.verbs.Verb.{Verb}
use Rattle.tuple_text.specs.Reading.{Read, got, stop, ◌>>=◌, word, tuple, template, argument, ending, ended, last}
use Rattle.tuple_text.specs.Reading.{positive, out_line, cas_line, one_of, all_of, one_line, all_line}

got_as : {V W : Type 0} → (v : V) (k : V → W) (y : Read Bool) → (y >>= λ _ rest. got (k v) rest) ≡ ((y >>= λ _ rest. got v rest) >>= λ v rest. got (k v) rest)
got_as v k (got b rest) = refl
got_as v k (stop s rest) = refl

ended_as : {V : Type 0} → (k : V → Operation) (x : Read V) → (x >>= λ v rest. ended (k v) rest) ≡ ((x >>= λ v after. ending after >>= λ _ rest. got v rest) >>= λ v rest. got (k v) rest)
unfolding ended
ended_as k (got v rest) = got_as v k (ending rest)
ended_as k (stop s rest) = refl

pub out_as : (bs rest : List ℕ) → word (codes "out") bs ≡ got true rest → out_line bs ≡ (last (argument tuple) rest >>= λ t after. got (out t) after)
unfolding out_line
out_as bs rest e = ap (λ y. y >>= λ _ behind. argument tuple behind >>= λ t after. ended (out t) after) e ∙ ended_as out (argument tuple rest)

pub one_as : (verb : Verb) (bs rest : List ℕ) → word (codes "p") bs ≡ got true rest → one_line verb bs ≡ (last (argument template) rest >>= λ p after. got (one_of verb p) after)
unfolding one_line
one_as verb bs rest e = ap (λ y. y >>= λ _ behind. argument template behind >>= λ p after. ended (one_of verb p) after) e ∙ ended_as (one_of verb) (argument template rest)

pub cas_as : (bs middle rest : List ℕ) (p : TemplateTree) → word (codes "cas") bs ≡ got true middle → argument template middle ≡ got p rest
    → cas_line bs ≡ (last (argument tuple) rest >>= λ t after. got (cas p t) after)
unfolding cas_line
cas_as bs middle rest p e f =
    ap (λ y. y >>= λ _ behind. argument template behind >>= λ p middle. argument tuple middle >>= λ t after. ended (cas p t) after) e
    ∙ ap (λ y. y >>= λ p middle. argument tuple middle >>= λ t after. ended (cas p t) after) f ∙ ended_as (cas p) (argument tuple rest)

pub all_as : (verb : Verb) (bs middle rest : List ℕ) (n : ℕ) → word (codes "All") bs ≡ got true middle → argument (positive 64) middle ≡ got n rest
    → all_line verb bs ≡ (last (argument template) rest >>= λ p after. got (all_of verb n p) after)
unfolding all_line
all_as verb bs middle rest n e f =
    ap (λ y. y >>= λ _ behind. argument (positive 64) behind >>= λ n middle. argument template middle >>= λ p after. ended (all_of verb n p) after) e
    ∙ ap (λ y. y >>= λ n middle. argument template middle >>= λ p after. ended (all_of verb n p) after) f ∙ ended_as (all_of verb n) (argument template rest)
