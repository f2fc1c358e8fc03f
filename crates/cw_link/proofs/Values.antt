-- One payload more is read.
use Rattle.std.proofs.Common.{◌≡◌, ℕ, List, [], ◌∷◌, ◌++◌, map, Some, None, append_assoc, append-nil, sym, ap, ◌∙◌}
use Rattle.cw_fields.specs.Fields.{Reader, whole}
use Rattle.cw_link.specs.Contents.{kept, values_in}

module _ {A B : Type 0} (read : Reader A) (f : A → B) (left new : List (List ℕ)) (payload : List ℕ) (done all : List B) where
  pub next_value : (x : A) → left ≡ payload ∷ new → whole read payload ≡ Some x → done ++ map f (values_in read left) ≡ all → (done ++ f x ∷ []) ++ map f (values_in read new) ≡ all
  next_value x is reads h =
      append_assoc done (f x ∷ []) (map f (values_in read new))
      ∙ ap (λ o. done ++ map f (kept o (values_in read new))) (sym reads) ∙ ap (λ ps. done ++ map f (values_in read ps)) (sym is) ∙ h

  pub skip_value : left ≡ payload ∷ new → whole read payload ≡ None → done ++ map f (values_in read left) ≡ all → done ++ map f (values_in read new) ≡ all
  skip_value is reads h = ap (λ o. done ++ map f (kept o (values_in read new))) (sym reads) ∙ ap (λ ps. done ++ map f (values_in read ps)) (sym is) ∙ h

  pub no_value : left ≡ [] → done ++ map f (values_in read left) ≡ all → done ≡ all
  no_value is h = sym (append-nil done) ∙ ap (λ ps. done ++ map f (values_in read ps)) (sym is) ∙ h
