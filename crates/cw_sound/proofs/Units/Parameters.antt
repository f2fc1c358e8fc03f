-- The parameters of a procedure that take words are items that its body may name.
use Rattle.std.proofs.Common.{ℕ, List, [], ◌∷◌, ◌++◌, Bool, true, false, IsTrue, ◌&&◌, Some, None, refl, sym, subst, inl, inr}
use Rattle.cw_tree.specs.declared.leaf.RawName.{RawName}
use Rattle.cw_tree.specs.declared.leaf.RawType.{RawType}
use Rattle.cw_tree.specs.declared.leaf.Position.{Position}
use Rattle.cw_tree.specs.declared.statement.RawParam.{RawParam}
use Rattle.cw_tree.specs.declared.statement.RawParam.TheVariants as raw
use Rattle.cw_facts.specs.declared.fact.Fact.{Fact}
use Rattle.cw_facts.specs.declared.fact.Kind.{Kind}
use Rattle.cw_facts.specs.declared.fact.Kind.TheVariants as kind
use Rattle.cw_facts.specs.Facts.{declares, each_declares, elements_facts, parameter_facts, parameters_facts}
use Rattle.cw_facts.specs.Text.{communicators_facts}
use Rattle.cw_facts.specs.Facts.{block_facts}
use Rattle.cw_scope.specs.declared.resolve.Named.{Named}
use Rattle.cw_make_items.specs.Lookup.{Numbers, item_in, item_here}
use Rattle.cw_make.specs.Procedures.{each_param, params_in, params_of}
use Rattle.cw_unit.specs.declared.unit.Param.{Param}
use Rattle.cw_unit.specs.declared.unit.Unit.{Unit as SourceUnit}
use Rattle.cw_gen_expr.specs.NamedItems.{has_words}
use Rattle.cw_gen_unit.specs.BuiltUnits.{item_fits, items_fit}
use Rattle.cw_sound.specs.Uses.Mentions.{In, Here, here, declares as declared, facts_mentions, listed_mentions, block_mentions}
use Rattle.cw_sound.specs.Names.Standing.{is_item, ItemsStand}
use Rattle.cw_sound.proofs.Names.Lists.{Sub, in_right, sub_left, sub_right}
use Rattle.cw_sound.proofs.Names.Rows.{mentions_append}
use Rattle.cw_sound.proofs.Names.MentionsOf.{declared_first}
use Rattle.cw_sound.proofs.Expressions.Truth.{both}

fit_append : (f : ℕ → Bool) (xs ys : List Param) → IsTrue (items_fit f xs) → IsTrue (items_fit f ys) → IsTrue (items_fit f (xs ++ ys))
fit_append f [] ys h k = k
fit_append f (x ∷ xs) ys h k = joined (item_fits f x) h (λ r. fit_append f xs ys r k)
  where
    joined : (b : Bool) → IsTrue (b && items_fit f xs) → (IsTrue (items_fit f xs) → IsTrue (items_fit f (xs ++ ys))) → IsTrue (b && items_fit f (xs ++ ys))
    joined true r go = go r
    joined false r go = absurd (cc)

module _ (named : Named) (numbers : Numbers) (u : SourceUnit) (items : ItemsStand named numbers u) (p : ℕ) where
  abbrev fits : ℕ → Bool
  fits i = has_words u (Some p) i 1

  -- the mentions of some facts in the body of the procedure
  abbrev pub Within : List Fact → Type 0
  Within fs = Sub (facts_mentions numbers fs (Some p)) (block_mentions numbers named.raw.now)

  has_word : (n : RawName) (k : Kind) (fs : List Fact) → IsTrue (is_item k) → Within (declares n k ∷ fs) → IsTrue (fits (item_here numbers n.at.token))
  has_word n k fs h sub =
      let m : Here = here (Some p) (declared (record { name = n; kind = k })) in
      let i = sub m (subst (In m) (sym (declared_first numbers n k fs (Some p))) (inl refl)) in
      let t = subst (In m) (sym (mentions_append numbers (communicators_facts named.raw.now.comms) (block_facts named.raw.now.block true) None)) (in_right m (listed_mentions numbers named.raw.now) (block_mentions numbers named.raw.now) i) in
      let r = items.declared (Some p) (record { name = n; kind = k }) h t in
      subst (λ o. IsTrue (fits (item_in o))) (sym r.1) r.2

  rest : (n : RawName) (k : Kind) (fs : List Fact) → Within (declares n k ∷ fs) → Within fs
  rest n k fs sub m i = sub m (subst (In m) (sym (declared_first numbers n k fs (Some p))) (inr i))

  values : (at : Position) (t : RawType) (all : List RawName) (ns : List RawName) → Within (each_declares (kind.Value t) ns) → IsTrue (items_fit fits (each_param numbers (raw.Value at t all) ns))
  values at t all [] sub = refl
  values at t all (n ∷ ns) sub =
      both (fits (item_here numbers n.at.token)) (items_fit fits (each_param numbers (raw.Value at t all) ns)) (has_word n (kind.Value t) (each_declares (kind.Value t) ns) refl sub) (values at t all ns (rest n (kind.Value t) (each_declares (kind.Value t) ns) sub))

  locations : (at : Position) (t : RawType) (all : List RawName) (ns : List RawName) → Within (each_declares (kind.Location t) ns) → IsTrue (items_fit fits (each_param numbers (raw.Location at t all) ns))
  locations at t all [] sub = refl
  locations at t all (n ∷ ns) sub =
      both (fits (item_here numbers n.at.token)) (items_fit fits (each_param numbers (raw.Location at t all) ns)) (has_word n (kind.Location t) (each_declares (kind.Location t) ns) refl sub) (locations at t all ns (rest n (kind.Location t) (each_declares (kind.Location t) ns) sub))

  arrays : (t : RawType) (all : List RawName) (ns : List RawName) → Within (each_declares (kind.ArrayParam t) ns) → IsTrue (items_fit fits (each_param numbers (raw.Array t all) ns))
  arrays t all [] sub = refl
  arrays t all (n ∷ ns) sub =
      both (fits (item_here numbers n.at.token)) (items_fit fits (each_param numbers (raw.Array t all) ns)) (has_word n (kind.ArrayParam t) (each_declares (kind.ArrayParam t) ns) refl sub) (arrays t all ns (rest n (kind.ArrayParam t) (each_declares (kind.ArrayParam t) ns) sub))

  labels : (at : Position) (all ns : List RawName) → IsTrue (items_fit fits (each_param numbers (raw.Label at all) ns))
  labels at all [] = refl
  labels at all (n ∷ ns) = labels at all ns

  switches : (at : Position) (all ns : List RawName) → IsTrue (items_fit fits (each_param numbers (raw.Switch at all) ns))
  switches at all [] = refl
  switches at all (n ∷ ns) = switches at all ns

  one_fits : (x : RawParam) → Within (parameter_facts x) → IsTrue (items_fit fits (params_in numbers x))
  one_fits (raw.Value at t ns) sub = values at t ns ns sub
  one_fits (raw.Location at t ns) sub = locations at t ns ns sub
  one_fits (raw.Array t ns) sub = arrays t ns ns sub
  one_fits (raw.Table t) sub = both (fits (item_here numbers t.name.at.token)) true (has_word t.name (kind.TableParam t.size) (elements_facts t.name t.elems) refl sub) refl
  one_fits (raw.Label at ns) sub = labels at ns ns
  one_fits (raw.Switch at ns) sub = switches at ns ns
  one_fits (raw.Proc answer at n ps) sub = refl

  pub parameters_fit : (xs : List RawParam) → Within (parameters_facts xs) → IsTrue (items_fit (λ i. has_words u (Some p) i 1) (params_of numbers xs))
  parameters_fit [] sub = refl
  parameters_fit (x ∷ xs) sub =
      let a : List Here = facts_mentions numbers (parameter_facts x) (Some p) in
      let b : List Here = facts_mentions numbers (parameters_facts xs) (Some p) in
      let parts = subst (λ ms. Sub ms (block_mentions numbers named.raw.now)) (mentions_append numbers (parameter_facts x) (parameters_facts xs) (Some p)) sub in
      fit_append fits (params_in numbers x) (params_of numbers xs) (one_fits x (sub_left a b (block_mentions numbers named.raw.now) parts)) (parameters_fit xs (sub_right a b (block_mentions numbers named.raw.now) parts))
