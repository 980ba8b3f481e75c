-- Codes of operations and outcomes. A proof tells them apart by these.
use Rattle.std.specs.Prelude.{◌≡◌, ◌⊎◌, ℕ, zero, suc, Bool, List, refl}
use Rattle.std.specs.Coded.{Coded, code_by, coded_list, coded⊎, coded×, coded_ℕ, coded_bool}
use Rattle.std.proofs.Common.{inl, inr}
use Rattle.tuple_tree.specs.Values.{TupleTree, TemplateTree}
use Rattle.tuple_tree.specs.ValuesCode.{tuple_code, template_code}
use Rattle.tuple_codec.specs.Operations.{Operation, out, rdp, inp, cas, rd_all, in_all, upgrade, Outcome, done, found}
use Rattle.tuple_codec.specs.Operations.{absent, swapped, all, full, refused}

abbrev pub OperationParts : Type 0
OperationParts = TupleTree
    ⊎ (TemplateTree ⊎ (TemplateTree ⊎ ((TemplateTree × TupleTree) ⊎ ((ℕ × TemplateTree) ⊎ ((ℕ × TemplateTree) ⊎ ℕ)))))

abbrev pub operation_parts : Operation → OperationParts
operation_parts (out t) = inl t
operation_parts (rdp p) = inr (inl p)
operation_parts (inp p) = inr (inr (inl p))
operation_parts (cas p t) = inr (inr (inr (inl (p, t))))
operation_parts (rd_all n p) = inr (inr (inr (inr (inl (n, p)))))
operation_parts (in_all n p) = inr (inr (inr (inr (inr (inl (n, p))))))
operation_parts upgrade = inr (inr (inr (inr (inr (inr 0)))))

abbrev pub operation_from : OperationParts → Operation
operation_from (inl t) = out t
operation_from (inr (inl p)) = rdp p
operation_from (inr (inr (inl p))) = inp p
operation_from (inr (inr (inr (inl x)))) = cas x.0 x.1
operation_from (inr (inr (inr (inr (inl x))))) = rd_all x.0 x.1
operation_from (inr (inr (inr (inr (inr (inl x)))))) = in_all x.0 x.1
operation_from (inr (inr (inr (inr (inr (inr n)))))) = upgrade

pub operation_from-parts : (o : Operation) → operation_from (operation_parts o) ≡ o
operation_from-parts (out t) = refl
operation_from-parts (rdp p) = refl
operation_from-parts (inp p) = refl
operation_from-parts (cas p t) = refl
operation_from-parts (rd_all n p) = refl
operation_from-parts (in_all n p) = refl
operation_from-parts upgrade = refl

abbrev pub operation_code : Coded Operation
operation_code =
    code_by OperationParts
    (coded⊎ tuple_code (coded⊎ template_code (coded⊎ template_code (coded⊎ (coded× template_code tuple_code)
    (coded⊎ (coded× coded_ℕ template_code) (coded⊎ (coded× coded_ℕ template_code) coded_ℕ))))))
    operation_parts operation_from operation_from-parts

abbrev pub OutcomeParts : Type 0
OutcomeParts = TupleTree ⊎ (Bool ⊎ (List TupleTree ⊎ ℕ))

abbrev pub outcome_parts : Outcome → OutcomeParts
outcome_parts done = inr (inr (inr 0))
outcome_parts (found t) = inl t
outcome_parts absent = inr (inr (inr 1))
outcome_parts (swapped b) = inr (inl b)
outcome_parts (all ts) = inr (inr (inl ts))
outcome_parts full = inr (inr (inr 2))
outcome_parts refused = inr (inr (inr 3))

abbrev pub plain_outcome : ℕ → Outcome
plain_outcome zero = done
plain_outcome (suc zero) = absent
plain_outcome (suc (suc zero)) = full
plain_outcome (suc (suc (suc n))) = refused

abbrev pub outcome_from : OutcomeParts → Outcome
outcome_from (inl t) = found t
outcome_from (inr (inl b)) = swapped b
outcome_from (inr (inr (inl ts))) = all ts
outcome_from (inr (inr (inr n))) = plain_outcome n

pub outcome_from-parts : (r : Outcome) → outcome_from (outcome_parts r) ≡ r
outcome_from-parts done = refl
outcome_from-parts (found t) = refl
outcome_from-parts absent = refl
outcome_from-parts (swapped b) = refl
outcome_from-parts (all ts) = refl
outcome_from-parts full = refl
outcome_from-parts refused = refl

abbrev pub outcome_code : Coded Outcome
outcome_code =
    code_by OutcomeParts
    (coded⊎ tuple_code (coded⊎ coded_bool (coded⊎ (coded_list tuple_code) coded_ℕ)))
    outcome_parts outcome_from outcome_from-parts
