-- References of a unit, by how their addresses are found.
use Rattle.std.proofs.Common.{◌≡◌, ℕ, Bool, true, false, IsTrue, ◌&&◌, ◌==◌, ◌⊎◌, inl, inr, Option, Some, None, refl, sym, ap, subst, arith}
use Rattle.cw_table.specs.Rows.{item_at}
use Rattle.cw_tree.specs.declared.leaf.RawName.{RawName}
use Rattle.cw_tree.specs.declared.leaf.RawSize.{RawSize}
use Rattle.cw_tree.specs.declared.items.RawRange.{RawRange}
use Rattle.cw_facts.specs.declared.fact.Kind.{Kind as NameKind}
use Rattle.cw_facts.specs.declared.fact.Kind.TheVariants as kind
use Rattle.cw_scope.specs.declared.resolve.Named.{Named}
use Rattle.cw_scope.specs.NameRules.{dimensions, is_reference}
use Rattle.cw_number.specs.declared.numbered.Numbered.{Numbered}
use Rattle.cw_make_expr.specs.Nodes.{read, reference}
use Rattle.cw_make_expr.specs.Parts.{Numbers, item_in, item_here, number_of, kind_here, named_spot, element_spot, element_word, words_of, width_of, entries_of, bound, row_length, double_spot, twice_indexed_spot, indexed_spot}
use Rattle.cw_unit.specs.declared.unit.Unit.{Unit as SourceUnit}
use Rattle.cw_unit.specs.declared.unit.Field.{Field}
use Rattle.cw_unit.specs.declared.unit.Arg.{Arg}
use Rattle.cw_unit.specs.declared.unit.Cond.{Cond}
use Rattle.cw_unit.specs.declared.unit.Expr.{Expr}
use Rattle.cw_unit.specs.declared.unit.Spot.{Spot, roll-Spot, map-Spot}
use Rattle.cw_unit.specs.declared.unit.Ref.{Ref, roll-Ref, map-Ref}
use Rattle.cw_unit.specs.declared.unit.Arg.TheOpen as layer
use Rattle.cw_unit.specs.declared.unit.Arg.TheOpen.{Spot-F, Ref-F}
use Rattle.cw_unit.specs.declared.unit.Arg.TheFolds.{fold-roll-Spot, fold-roll-Ref}
use Rattle.cw_safety.specs.Kinds.{Kind}
use Rattle.cw_safety.specs.WellFormed as formed
use Rattle.cw_gen_expr.specs.NamedItems.{has_words}
use Rattle.cw_gen_expr.specs.BuiltExpressions as built
use Rattle.cw_gen_expr.specs.BuiltExpressions.{BuiltValue, BuiltReference, most_levels, whole, built_reference, is_spot}
use Rattle.cw_gen_expr.proofs.Layers.{built_spot_layer, built_reference_layer}
use Rattle.cw_built.specs.Built.{alone, at_work}
use Rattle.cw_sound.specs.Uses.Stands.{IsItem, IsTable, StandsAs}
use Rattle.cw_sound.proofs.Expressions.Truth.{no, both}
use Rattle.cw_sound.proofs.Expressions.Parts.{Result}
use Rattle.cw_sound.proofs.Expressions.Built.{value, is_formed, built_well, BuiltAt, BuiltPlace, whole_at}
use Rattle.cw_sound.proofs.Expressions.Nodes.{value_rolled, formed_rolled, result_of}

module _ (u : SourceUnit) (who : Option ℕ) where
  abbrev pub is_place : Spot → Bool
  is_place = is_spot u (has_words u who)

  abbrev pub is_formed_place : Spot → Bool
  is_formed_place = formed.is_spot (alone u) 0 (at_work who)

  spot_rolled : (x : Spot-F Arg Cond Expr Spot Ref) → is_place (roll-Spot x) ≡ built_spot_layer u (has_words u who) x
  spot_rolled = fold-roll-Spot Bool Bool BuiltValue Bool BuiltReference (built.argument_step u (has_words u who)) (built.condition_step u (has_words u who)) (built.expression_step u (has_words u who)) (built.spot_step u (has_words u who)) (built.reference_step u (has_words u who))

  pub reference_rolled : (x : Ref-F Arg Cond Expr Spot Ref) → built_reference u (has_words u who) (roll-Ref x) ≡ built_reference_layer u (has_words u who) x
  reference_rolled = fold-roll-Ref Bool Bool BuiltValue Bool BuiltReference (built.argument_step u (has_words u who)) (built.condition_step u (has_words u who)) (built.expression_step u (has_words u who)) (built.spot_step u (has_words u who)) (built.reference_step u (has_words u who))

  abbrev formed_spot_layer : Spot-F Arg Cond Expr Spot Ref → Bool
  formed_spot_layer x = formed.spot_step (map-Spot Arg Cond Expr Spot Ref (Option Kind) Bool Bool Bool Bool (formed.kind_of (alone u) 0 (at_work who)) (formed.is_condition (alone u) 0 (at_work who)) (is_formed u who) is_formed_place (formed.is_reference (alone u) 0 (at_work who)) x)

  formed_spot : (x : Spot-F Arg Cond Expr Spot Ref) → is_formed_place (roll-Spot x) ≡ formed_spot_layer x
  formed_spot = fold-roll-Spot (Option Kind) Bool Bool Bool Bool (formed.argument_step (alone u) 0 (at_work who)) formed.condition_step (formed.expression_step (alone u) 0 (at_work who)) formed.spot_step formed.reference_step

  abbrev formed_reference_layer : Ref-F Arg Cond Expr Spot Ref → Bool
  formed_reference_layer x = formed.reference_step (map-Ref Arg Cond Expr Spot Ref (Option Kind) Bool Bool Bool Bool (formed.kind_of (alone u) 0 (at_work who)) (formed.is_condition (alone u) 0 (at_work who)) (is_formed u who) is_formed_place (formed.is_reference (alone u) 0 (at_work who)) x)

  formed_reference : (x : Ref-F Arg Cond Expr Spot Ref) → formed.is_reference (alone u) 0 (at_work who) (roll-Ref x) ≡ formed_reference_layer x
  formed_reference = fold-roll-Ref (Option Kind) Bool Bool Bool Bool (formed.argument_step (alone u) 0 (at_work who)) formed.condition_step (formed.expression_step (alone u) 0 (at_work who)) formed.spot_step formed.reference_step

  -- ---- a place that is built and well formed

  pub record Place (s : Spot) : Type 0 where
    pub built : IsTrue (is_place s)
    pub formed : IsTrue (is_formed_place s)

  place_of : (x : Spot-F Arg Cond Expr Spot Ref) → IsTrue (built_spot_layer u (has_words u who) x) → IsTrue (formed_spot_layer x) → Place (roll-Spot x)
  place_of x h k = record { built = subst IsTrue (sym (spot_rolled x)) h; formed = subst IsTrue (sym (formed_spot x)) k }

  pub place_good : (s : Spot) (f : ℕ) (field : Option Field) → Place s → BuiltPlace u who (reference s f field)
  place_good s f field p = record {
    built = subst (λ (v : BuiltReference). IsTrue v.good) (sym (reference_rolled (record { «at» = s; f = f; field = field }))) p.built;
    formed = subst IsTrue (sym (formed_reference (record { «at» = s; f = f; field = field }))) p.formed;
  }

  pub place_scale : (s : Spot) (f : ℕ) (field : Option Field) → (built_reference u (has_words u who) (reference s f field)).scale ≡ f
  place_scale s f field = ap (λ (v : BuiltReference). v.scale) (reference_rolled (record { «at» = s; f = f; field = field }))

  pub read_result : (f : ℕ) (r : Ref) → BuiltPlace u who r → Result (built_well u who) (built_reference u (has_words u who) r).scale f (read r)
  read_result f r h =
      let b : BuiltReference = built_reference u (has_words u who) r in
      result_of u who b.scale f (read r) (λ f levels. b.good) (value_rolled u who (layer.Read r)) (λ levels. h.built) (subst IsTrue (sym (formed_rolled u who (layer.Read r))) h.formed)

  pub place_result : (g : ℕ) (s : Spot) (f : ℕ) (field : Option Field) → Place s → Result (built_well u who) f g (read (reference s f field))
  place_result g s f field p = subst (λ (n : ℕ). Result (built_well u who) n g (read (reference s f field))) (place_scale s f field) (read_result g (reference s f field) (place_good s f field p))

  -- ---- an index is evaluated at the scale 0

  abbrev pub Index : Expr → Type 0
  Index = BuiltAt u who most_levels 0

  index_whole : (e : Expr) → Index e → IsTrue (whole (value u who e) 0)
  index_whole e x = whole_at u who 0 most_levels e (omega arith) (omega arith) x

  pub bare_place : (e : Expr) → Index e → Place (roll-Spot (layer.Bare e))
  bare_place e x = place_of (layer.Bare e) (index_whole e x) x.formed

  pub named_place : (k : NameKind) (i : ℕ) → IsTrue (has_words u who i 1) → Place (named_spot (Some k) i)
  named_place (kind.Location t) i h = place_of (layer.Through i) h refl
  named_place _ i h = place_of (layer.Direct i) h refl

  double_place : (first : RawRange) (second : Option RawRange) (i : ℕ) (e g : Expr) → IsTrue (2 == dimensions (record { first = first; second = second })) → IsTrue (has_words u who i 1) → Index e → Index g → Place (double_spot first second i e g)
  double_place first None i e g h w x y = no h
  double_place first (Some s) i e g h w x y =
      place_of (layer.Two i (bound first.lower) (bound first.upper) (bound s.lower) (bound s.upper) (row_length s) e g)
      (both (has_words u who i 1) (whole (value u who e) 0 && whole (value u who g) 0) w (both (whole (value u who e) 0) (whole (value u who g) 0) (index_whole e x) (index_whole g y)))
      (both (is_formed u who e) (is_formed u who g) x.formed y.formed)

  element_place : (o : Option NameKind) (s : RawSize) (i p : ℕ) (e : Expr) → (o ≡ Some (kind.Table s)) ⊎ (o ≡ Some (kind.TableParam s)) → IsTrue (has_words u who i 1) → Index e → Place (element_spot o i p e)
  element_place o s i p e (inl is) w x =
      subst (λ (z : Option NameKind). Place (element_spot z i p e)) (sym is)
      (place_of (layer.Elem i false (width_of s) (entries_of s) p e) (both (has_words u who i 1) (whole (value u who e) 0) w (index_whole e x)) x.formed)
  element_place o s i p e (inr is) w x =
      subst (λ (z : Option NameKind). Place (element_spot z i p e)) (sym is)
      (place_of (layer.Elem i true (width_of s) (entries_of s) p e) (both (has_words u who i 1) (whole (value u who e) 0) w (index_whole e x)) x.formed)

  -- ---- names with indexes

  module _ (named : Named) (numbers : Numbers) where
    pub has_item : (number : Option Numbered) → IsItem named numbers u who 1 number → IsTrue (has_words u who (item_in number) 1)
    has_item number x = subst (λ (o : Option Numbered). IsTrue (has_words u who (item_in o) 1)) (sym x.1) x.2

    pub item_of_kind : (k : NameKind) (n : RawName) → StandsAs named numbers u who k n → IsTrue (is_reference k 0) → IsTrue (has_words u who (item_in (number_of named numbers n)) 1)
    item_of_kind (kind.Single t) n x h = has_item (number_of named numbers n) x
    item_of_kind (kind.Array t b) n x h = has_item (number_of named numbers n) x
    item_of_kind (kind.Table s) n x h = has_item (number_of named numbers n) x
    item_of_kind (kind.Value t) n x h = has_item (number_of named numbers n) x
    item_of_kind (kind.Location t) n x h = has_item (number_of named numbers n) x
    item_of_kind (kind.ArrayParam t) n x h = has_item (number_of named numbers n) x
    item_of_kind (kind.TableParam s) n x h = has_item (number_of named numbers n) x
    item_of_kind _ n x h = no h

    table_place : (token p : ℕ) (e : Expr) → IsTable named numbers u who token → Index e → Place (element_spot (kind_here named token) (item_here numbers token) p e)
    table_place token p e t x = element_place (kind_here named token) t.0 (item_here numbers token) p e t.1 (has_item (item_at numbers token) t.2) x

    pub one_place : (k : NameKind) (n : RawName) (e : Expr) → StandsAs named numbers u who k n → IsTrue (is_reference k 1) → Index e → Place (indexed_spot named numbers (Some k) (item_in (number_of named numbers n)) e)
    one_place (kind.Array t b) n e x h y =
        let i : ℕ = item_in (number_of named numbers n) in
        place_of (layer.One i (bound b.first.lower) (bound b.first.upper) e) (both (has_words u who i 1) (whole (value u who e) 0) (has_item (number_of named numbers n) x) (index_whole e y)) y.formed
    one_place (kind.ArrayParam t) n e x h y =
        let i : ℕ = item_in (number_of named numbers n) in
        place_of (layer.ParamArray i e) (both (has_words u who i 1) (whole (value u who e) 0) (has_item (number_of named numbers n) x) (index_whole e y)) y.formed
    one_place (kind.Table s) n e x h y =
        let i : ℕ = item_in (number_of named numbers n) in
        place_of (layer.Word i false (words_of s) e) (both (has_words u who i 1) (whole (value u who e) 0) (has_item (number_of named numbers n) x) (index_whole e y)) y.formed
    one_place (kind.TableParam s) n e x h y =
        let i : ℕ = item_in (number_of named numbers n) in
        place_of (layer.Word i true (words_of s) e) (both (has_words u who i 1) (whole (value u who e) 0) (has_item (number_of named numbers n) x) (index_whole e y)) y.formed
    one_place (kind.Element table z) n e x h y = table_place table.at.token (element_word z) e x y
    one_place _ n e x h y = no h

    pub two_place : (k : NameKind) (n : RawName) (e g : Expr) → StandsAs named numbers u who k n → IsTrue (is_reference k 2) → Index e → Index g → Place (twice_indexed_spot (Some k) (item_in (number_of named numbers n)) e g)
    two_place (kind.Array t b) n e g x h y z = double_place b.first b.second (item_in (number_of named numbers n)) e g h (has_item (number_of named numbers n) x) y z
    two_place _ n e g x h y z = no h

-- an item of so many words
module _ (named : Named) (numbers : Numbers) (u : SourceUnit) (who : Option ℕ) where
  pub has_item_of : (words : ℕ) (number : Option Numbered) → IsItem named numbers u who words number → IsTrue (has_words u who (item_in number) words)
  has_item_of words number x = subst (λ (o : Option Numbered). IsTrue (has_words u who (item_in o) words)) (sym x.1) x.2
