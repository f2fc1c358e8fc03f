-- The shape of a rule with operands, by its first layer.
use Rattle.std.proofs.Common.{◌≡◌, ◌==◌, ◌&&◌, is_none, ℕ, ◌+◌, ◌<◌, ◌≤◌, Bool, false, List, [], ◌∷◌, Option, length, map, drop, get_or, refl, sym, ap, ◌∙◌}
use Rattle.cw_tree.specs.declared.leaf.RawFactorSign.{RawFactorSign}
use Rattle.cw_tree.specs.declared.leaf.RawSign.{RawSign}
use Rattle.cw_tree.specs.declared.expression.RawBits.{RawBits}
use Rattle.cw_scale.specs.declared.scales.Shape.{Shape}
use Rattle.cw_scale.specs.TypeRules.{Judged, plain, merged, shape_from, logic_merged, logic_shape_from}
use Rattle.cw_scale.proofs.Layers.{of_logic, of_term, of_sum, of_prim}
use Rattle.cw_scale.proofs.Turns.{only_item, length_map, one_more, none_more}

-- several operands of word logic, or none, come to scale 0
several : (js : List Judged) → logic_shape_from false (plain 0) js ≡ plain 0
several [] = refl
several (j ∷ js) = several js

module _ {A : Type 0} (judged : A → Judged) where
  pub shape_begins : (alone : Bool) (xs : List A) (shape : Shape) → shape ≡ plain 0 → shape_from alone shape (map judged xs) ≡ shape_from alone (plain 0) (map judged xs)
  shape_begins alone xs shape e = ap (λ s. shape_from alone s (map judged xs)) e

  pub shape_goes_on : (alone : Bool) (xs : List A) (i : ℕ) (x : A) (before next shape total : Shape) → i < length xs → x ≡ get_or xs i x
      → next ≡ (judged x).shape → shape ≡ merged alone before next
      → shape_from alone before (map judged (drop i xs)) ≡ total → shape_from alone shape (map judged (drop (i + 1) xs)) ≡ total
  shape_goes_on alone xs i x before next shape total h g a b t =
      one_more (λ s js. shape_from alone s js) (λ s j. merged alone s j.shape) (λ s j js. refl) judged xs i x before shape total h g (b ∙ ap (merged alone before) a) t

  pub term_shape_ends : (j : Judged) (ops xs : List A) (signs : List RawFactorSign) (i : ℕ) (shape : Shape) → j ≡ of_term (map judged ops) signs → xs ≡ ops → length xs ≤ i
      → shape_from (length xs == 1) shape (map judged (drop i xs)) ≡ shape_from (length xs == 1) (plain 0) (map judged xs) → shape ≡ j.shape
  term_shape_ends j ops xs signs i shape e o h t =
      none_more (λ s js. shape_from (length xs == 1) s js) (λ s. refl) judged xs i shape _ h t
      ∙ ap (λ n. shape_from (n == 1) (plain 0) (map judged xs)) (sym (length_map judged xs))
      ∙ ap (λ (k : Judged). k.shape) (sym (e ∙ ap (λ l. of_term (map judged l) signs) (sym o)))

  pub sum_shape_ends : (j : Judged) (ops xs : List A) (sign : Option RawSign) (alone : Bool) (i : ℕ) (shape : Shape) → j ≡ of_sum sign (map judged ops) → xs ≡ ops
      → alone ≡ (length ops == 1 && is_none sign) → length xs ≤ i
      → shape_from alone shape (map judged (drop i xs)) ≡ shape_from alone (plain 0) (map judged xs) → shape ≡ j.shape
  sum_shape_ends j ops xs sign alone i shape e o a h t =
      none_more (λ s js. shape_from alone s js) (λ s. refl) judged xs i shape _ h t
      ∙ ap (λ l. shape_from alone (plain 0) (map judged l)) o
      ∙ ap (λ b. shape_from b (plain 0) (map judged ops)) a
      ∙ ap (λ n. shape_from (n == 1 && is_none sign) (plain 0) (map judged ops)) (sym (length_map judged ops))
      ∙ ap (λ (k : Judged). k.shape) (sym e)

  pub logic_alone : (j : Judged) (ops xs : List A) (x : A) (shape : Shape) → j ≡ of_logic (map judged ops) → xs ≡ ops → length xs ≡ 1 → x ≡ get_or xs 0 x → shape ≡ (judged x).shape
      → shape ≡ j.shape
  logic_alone j ops xs x shape e o n g h =
      h ∙ ap (λ (k : Judged). k.shape) (sym (e ∙ ap (λ l. of_logic (map judged l)) (sym o ∙ only_item xs x n g)))

  pub logic_several : (j : Judged) (ops xs : List A) (shape : Shape) → j ≡ of_logic (map judged ops) → xs ≡ ops → (length xs == 1) ≡ false → shape ≡ plain 0 → shape ≡ j.shape
  logic_several j ops xs shape e o n h =
      h ∙ sym (several (map judged xs))
      ∙ ap (λ b. logic_shape_from b (plain 0) (map judged xs)) (sym n)
      ∙ ap (λ m. logic_shape_from (m == 1) (plain 0) (map judged xs)) (sym (length_map judged xs))
      ∙ ap (λ (k : Judged). k.shape) (sym (e ∙ ap (λ l. of_logic (map judged l)) (sym o)))

pub prim_merged : (j x : Judged) (bits all : List RawBits) (shape merge : Shape) → j ≡ of_prim bits x → all ≡ bits → shape ≡ x.shape → merge ≡ logic_merged (length all == 0) shape
    → merge ≡ j.shape
prim_merged j x bits all shape merge e o h m =
    m ∙ ap (logic_merged (length all == 0)) h ∙ ap (λ (k : Judged). k.shape) (sym (e ∙ ap (λ l. of_prim l x) (sym o)))
