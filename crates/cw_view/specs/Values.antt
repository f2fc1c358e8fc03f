-- Of each kind of record the values of those payloads that are of the form.
use Rattle.std.specs.Prelude.{ℕ, List, [], ◌∷◌, Option, Some, None}
use Rattle.cw_fields.specs.Fields.{Reader, whole}

abbrev pub kept : {A : Type 0} → Option A → List A → List A
kept None xs = xs
kept (Some x) xs = x ∷ xs

abbrev pub values_in : {A : Type 0} → Reader A → List (List ℕ) → List A
values_in read [] = []
values_in read (p ∷ ps) = kept (whole read p) (values_in read ps)
