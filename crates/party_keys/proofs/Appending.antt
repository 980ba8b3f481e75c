-- Texts that are put one after another.
use Rattle.std.proofs.Common.{◌≡◌, ℕ, List, ◌++◌, ap, ◌∙◌, append_assoc}
use Rattle.std.specs.Prelude.{Result, Ok, Err, IfOk, OnOk}

pub rest_put : (old a next rest new : List ℕ) → next ≡ old ++ a → new ≡ next ++ rest → new ≡ old ++ (a ++ rest)
rest_put old a next rest new h g = g ∙ ap (λ xs. xs ++ rest) h ∙ append_assoc old a rest

pub on_ok : {T E P Q : Type 0} (r : Result T E) → (P → Q) → OnOk r P → OnOk r Q
on_ok (Ok x) f h = f h
on_ok (Err e) f h = tt

pub all_put : (o a o1 b o2 d o3 e o4 f o5 g o6 h o7 i n : List ℕ) → o1 ≡ o ++ a → o2 ≡ o1 ++ b → o3 ≡ o2 ++ d → o4 ≡ o3 ++ e → o5 ≡ o4 ++ f → o6 ≡ o5 ++ g → o7 ≡ o6 ++ h → n ≡ o7 ++ i
    → n ≡ o ++ (a ++ (b ++ (d ++ (e ++ (f ++ (g ++ (h ++ i)))))))
all_put o a o1 b o2 d o3 e o4 f o5 g o6 h o7 i n p1 p2 p3 p4 p5 p6 p7 p8 =
    rest_put o a o1 _ n p1 (rest_put o1 b o2 _ n p2 (rest_put o2 d o3 _ n p3 (rest_put o3 e o4 _ n p4
    (rest_put o4 f o5 _ n p5 (rest_put o5 g o6 _ n p6 (rest_put o6 h o7 i n p7 p8))))))

pub if_ok : {T E : Type 0} {P Q : T → Type 0} (r : Result T E) → ((x : T) → P x → Q x) → IfOk r P → IfOk r Q
if_ok (Ok x) f h = f x h
if_ok (Err e) f h = tt
