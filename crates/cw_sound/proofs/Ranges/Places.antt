-- References of a unit, by how their addresses are found.
use Rattle.std.proofs.Common.{◌≡◌, ℕ, ◌≤◌, nat_le, nat_lt, ℤ, pos, negsuc, arith, neg_ℤ, int_le, if◌then◌else◌, Bool, true, false, IsTrue, ◌&&◌, ◌==◌, inl, inr, Option, Some, None, option_map, option_and_then, refl, sym, ap, subst}
use Rattle.cw_table.specs.Rows.{item_at}
use Rattle.cw_tree.specs.declared.leaf.RawName.{RawName}
use Rattle.cw_tree.specs.declared.leaf.RawSize.{RawSize}
use Rattle.cw_tree.specs.declared.items.RawRange.{RawRange}
use Rattle.cw_facts.specs.declared.fact.Kind.{Kind as NameKind}
use Rattle.cw_facts.specs.declared.fact.Kind.TheVariants as kind
use Rattle.cw_scope.specs.declared.resolve.Named.{Named}
use Rattle.cw_scope.specs.NameRules.{dimensions, is_reference}
use Rattle.cw_make_expr.specs.Nodes.{read, reference}
use Rattle.cw_make_expr.specs.Parts.{Numbers, item_in, item_here, number_of, kind_here, named_spot, element_spot, element_word, words_of, width_of, entries_of, bound, row_length, double_spot, twice_indexed_spot, indexed_spot}
use Rattle.cw_unit.specs.declared.unit.Unit.{Unit as SourceUnit}
use Rattle.cw_unit.specs.declared.unit.Field.{Field}
use Rattle.cw_unit.specs.declared.unit.Arg.{Arg}
use Rattle.cw_unit.specs.declared.unit.Cond.{Cond}
use Rattle.cw_unit.specs.declared.unit.Expr.{Expr}
use Rattle.cw_unit.specs.declared.unit.Spot.{Spot, roll-Spot}
use Rattle.cw_unit.specs.declared.unit.Ref.{Ref, roll-Ref}
use Rattle.cw_unit.specs.declared.unit.Arg.TheOpen as layer
use Rattle.cw_unit.specs.declared.unit.Arg.TheOpen.{Spot-F, Ref-F}
use Rattle.cw_unit.specs.declared.unit.Arg.TheFolds.{fold-roll-Spot, fold-roll-Ref}
use Rattle.cw_sound.specs.Uses.Stands.{IsTable, StandsAs}
use Rattle.cw_word.specs.FixedPoint.{fits_word}
use Rattle.cw_amount.specs.Amounts.{place_sint}
use Rattle.cw_tree.specs.declared.leaf.RawSint.{RawSint}
use Rattle.cw_make_expr.specs.Parts.{bound_in, field_of, element_field}
use Rattle.cw_writable.specs.Coded.RangedExpressions as ranged
use Rattle.cw_writable.specs.Coded.RangedExpressions.{RangedValue, RangedReference, are_bounds, is_field, ranged_reference, is_ranged_spot}
use Rattle.cw_writable.proofs.Coded.RangedLayers.{ranged_spot_layer, ranged_reference_layer}
use Rattle.cw_scale.specs.Kinds.{kind_of, kind_in}
use Rattle.cw_sound.specs.Ranges.Declared.{has_ranges, is_row, is_size, DeclarationsInRange}
use Rattle.cw_sound.proofs.Expressions.Truth.{no, both, parts, le_true, le_of, lt_true}
use Rattle.cw_sound.proofs.Expressions.Parts.{Result}
use Rattle.cw_sound.proofs.Ranges.InRanges.{value, in_ranges}
use Rattle.cw_sound.proofs.Ranges.Nodes.{value_rolled, result_of}

-- ---- bounds are words

word_test : (z : ℤ) → IsTrue (int_le (neg_ℤ (pos 32768)) z && int_le z (pos 32767)) → IsTrue (fits_word z)
word_test (pos n) h = lt_true n 32768 (omega (arith, le_of n 32767 (parts true (nat_le n 32767) h).1))
word_test (negsuc n) h = lt_true n 32768 (omega (arith, le_of n 32767 (parts (nat_le n 32767) true h).0))

bound_fits : (o : Option ℤ) → IsTrue (fits_word (bound_in o))
bound_fits None = refl
bound_fits (Some z) = by_test (int_le (neg_ℤ (pos 32768)) z && int_le z (pos 32767)) refl
  where
    by_test : (b : Bool) → (int_le (neg_ℤ (pos 32768)) z && int_le z (pos 32767)) ≡ b → IsTrue (fits_word (if b then z else pos 0))
    by_test true e = word_test z e
    by_test false e = refl

pub bound_is_word : (s : RawSint) → IsTrue (fits_word (bound s))
bound_is_word s = bound_fits (place_sint s)

bounds_are_words : (r : RawRange) → IsTrue (are_bounds (bound r.lower) (bound r.upper))
bounds_are_words r = both (fits_word (bound r.lower)) (fits_word (bound r.upper)) (bound_is_word r.lower) (bound_is_word r.upper)

-- ---- what is declared of a name

kind_declared : (named : Named) → DeclarationsInRange named → (k : NameKind) (o : Option ℕ) → option_map kind_in (option_and_then (item_at named.declarations) o) ≡ Some k → IsTrue (has_ranges k)
kind_declared named d k None e = absurd (cc)
kind_declared named d k (Some token) e = d.kinds token k e

pub kind_ranges : (named : Named) → DeclarationsInRange named → (n : RawName) (k : NameKind) → kind_of named n ≡ Some k → IsTrue (has_ranges k)
kind_ranges named d n k e = kind_declared named d k (item_at named.uses n.at.token) e

pub field_ranges : (k : NameKind) → IsTrue (has_ranges k) → IsTrue (is_field (field_of (Some k)))
field_ranges (kind.Element table e) h = (parts (nat_lt (element_word e) 32768) (is_field (element_field e)) h).1
field_ranges _ h = refl

module _ (u : SourceUnit) where
  spot_rolled : (x : Spot-F Arg Cond Expr Spot Ref) → is_ranged_spot u (roll-Spot x) ≡ ranged_spot_layer u x
  spot_rolled = fold-roll-Spot Bool Bool RangedValue Bool RangedReference ranged.argument_step ranged.condition_step (ranged.expression_step u) ranged.spot_step ranged.reference_step

  reference_rolled : (x : Ref-F Arg Cond Expr Spot Ref) → ranged_reference u (roll-Ref x) ≡ ranged_reference_layer u x
  reference_rolled = fold-roll-Ref Bool Bool RangedValue Bool RangedReference ranged.argument_step ranged.condition_step (ranged.expression_step u) ranged.spot_step ranged.reference_step

  -- ---- a place whose numbers are in range

  abbrev pub Place : Spot → Type 0
  Place s = IsTrue (is_ranged_spot u s)

  place_of : (x : Spot-F Arg Cond Expr Spot Ref) → IsTrue (ranged_spot_layer u x) → Place (roll-Spot x)
  place_of x h = subst IsTrue (sym (spot_rolled x)) h

  pub place_good : (s : Spot) (f : ℕ) (field : Option Field) → f ≤ 15 → IsTrue (is_field field) → Place s → IsTrue (ranged_reference u (reference s f field)).good
  place_good s f field small part p =
      subst (λ (v : RangedReference). IsTrue v.good) (sym (reference_rolled (record { «at» = s; f = f; field = field })))
      (both (nat_le f 15) (is_field field && is_ranged_spot u s) (le_true f 15 small) (both (is_field field) (is_ranged_spot u s) part p))

  pub place_scale : (s : Spot) (f : ℕ) (field : Option Field) → (ranged_reference u (reference s f field)).scale ≡ f
  place_scale s f field = ap (λ (v : RangedReference). v.scale) (reference_rolled (record { «at» = s; f = f; field = field }))

  pub read_result : (f : ℕ) (r : Ref) → IsTrue (ranged_reference u r).good → Result (in_ranges u) (ranged_reference u r).scale f (read r)
  read_result f r h = result_of u (ranged_reference u r).scale f (read r) (λ f. (ranged_reference u r).good) (value_rolled u (layer.Read r)) h

  pub place_result : (g : ℕ) (s : Spot) (f : ℕ) (field : Option Field) → f ≤ 15 → IsTrue (is_field field) → Place s → Result (in_ranges u) f g (read (reference s f field))
  place_result g s f field small part p = subst (λ (n : ℕ). Result (in_ranges u) n g (read (reference s f field))) (place_scale s f field) (read_result g (reference s f field) (place_good s f field small part p))

  -- ---- an index is evaluated at the scale 0

  abbrev pub Index : Expr → Type 0
  Index e = IsTrue ((value u e).at 0)

  pub bare_place : (e : Expr) → Index e → Place (roll-Spot (layer.Bare e))
  bare_place e x = place_of (layer.Bare e) x

  pub named_place : (k : NameKind) (i : ℕ) → Place (named_spot (Some k) i)
  named_place (kind.Location t) i = place_of (layer.Through i) refl
  named_place _ i = place_of (layer.Direct i) refl

  double_place : (first : RawRange) (second : Option RawRange) (i : ℕ) (e g : Expr) → IsTrue (2 == dimensions (record { first = first; second = second })) → IsTrue (is_row second) → Index e → Index g → Place (double_spot first second i e g)
  double_place first None i e g h row x y = no h
  double_place first (Some s) i e g h row x y =
      let a : Bool = are_bounds (bound first.lower) (bound first.upper) in
      let b : Bool = are_bounds (bound s.lower) (bound s.upper) in
      let n : Bool = nat_le (row_length s) 32768 in
      let v : Bool = (value u e).at 0 in
      let w : Bool = (value u g).at 0 in
      place_of (layer.Two i (bound first.lower) (bound first.upper) (bound s.lower) (bound s.upper) (row_length s) e g)
      (both (a && (b && n)) (v && w) (both a (b && n) (bounds_are_words first) (both b n (bounds_are_words s) row)) (both v w x y))

  element_made : (s : RawSize) (i p : ℕ) (t : Bool) (e : Expr) → IsTrue (is_size s) → IsTrue (nat_lt p 32768) → Index e → Place (roll-Spot (layer.Elem i t (width_of s) (entries_of s) p e))
  element_made s i p t e size low x =
      let n : Bool = nat_le (width_of s) 32768 in
      let m : Bool = nat_le (entries_of s) 32768 in
      let l : Bool = nat_lt p 32768 in
      let h = parts n m (parts (nat_le (words_of s) 32768) (n && m) size).1 in
      place_of (layer.Elem i t (width_of s) (entries_of s) p e) (both (n && (m && l)) ((value u e).at 0) (both n (m && l) h.0 (both m l h.1 low)) x)

  word_made : (s : RawSize) (i : ℕ) (t : Bool) (e : Expr) → IsTrue (is_size s) → Index e → Place (roll-Spot (layer.Word i t (words_of s) e))
  word_made s i t e size x =
      let n : Bool = nat_le (words_of s) 32768 in
      place_of (layer.Word i t (words_of s) e) (both n ((value u e).at 0) (parts n (nat_le (width_of s) 32768 && nat_le (entries_of s) 32768) size).0 x)

  -- ---- names with indexes

  module _ (named : Named) (numbers : Numbers) (who : Option ℕ) (declared : DeclarationsInRange named) where
    table_place : (token p : ℕ) (e : Expr) → IsTable named numbers u who token → IsTrue (nat_lt p 32768) → Index e → Place (element_spot (kind_here named token) (item_here numbers token) p e)
    table_place token p e (s, inl is, item) low x =
        subst (λ (z : Option NameKind). Place (element_spot z (item_here numbers token) p e)) (sym is) (element_made s (item_here numbers token) p false e (declared.kinds token (kind.Table s) is) low x)
    table_place token p e (s, inr is, item) low x =
        subst (λ (z : Option NameKind). Place (element_spot z (item_here numbers token) p e)) (sym is) (element_made s (item_here numbers token) p true e (declared.kinds token (kind.TableParam s) is) low x)

    pub one_place : (k : NameKind) (n : RawName) (e : Expr) → StandsAs named numbers u who k n → IsTrue (has_ranges k) → IsTrue (is_reference k 1) → Index e → Place (indexed_spot named numbers (Some k) (item_in (number_of named numbers n)) e)
    one_place (kind.Array t b) n e x d h y =
        let l : ℤ = bound b.first.lower in
        let m : ℤ = bound b.first.upper in
        place_of (layer.One (item_in (number_of named numbers n)) l m e) (both (are_bounds l m) ((value u e).at 0) (bounds_are_words b.first) y)
    one_place (kind.ArrayParam t) n e x d h y = place_of (layer.ParamArray (item_in (number_of named numbers n)) e) y
    one_place (kind.Table s) n e x d h y = word_made s (item_in (number_of named numbers n)) false e d y
    one_place (kind.TableParam s) n e x d h y = word_made s (item_in (number_of named numbers n)) true e d y
    one_place (kind.Element table z) n e x d h y = table_place table.at.token (element_word z) e x (parts (nat_lt (element_word z) 32768) (is_field (element_field z)) d).0 y
    one_place _ n e x d h y = no h

  pub two_place : (k : NameKind) (i : ℕ) (e g : Expr) → IsTrue (has_ranges k) → IsTrue (is_reference k 2) → Index e → Index g → Place (twice_indexed_spot (Some k) i e g)
  two_place (kind.Array t b) i e g d h y z = double_place b.first b.second i e g h d y z
  two_place _ i e g d h y z = no h
