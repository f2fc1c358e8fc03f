-- The words in hand of calls and of references, by those of arguments and indexes.
use Rattle.std.proofs.Common.{◌≡◌, inl, inr, ℕ, suc, ◌+◌, ◌*◌, ◌≤◌, max, List, [], ◌∷◌, map, length, Bool, true, false, nat_eq, Option, Some, None, refl, sym, ap, subst, ◌∙◌, arith}
use Rattle.std.specs.Prelude.{option_and_then}
use Rattle.cw_table.specs.declared.table.Row.{Row}
use Rattle.cw_table.specs.Rows.{item_at}
use Rattle.cw_tree.specs.declared.leaf.RawName.{RawName}
use Rattle.cw_tree.specs.declared.items.RawRange.{RawRange}
use Rattle.cw_tree.specs.declared.expression.RawExpr.TheOpen as raw_layer
use Rattle.cw_tree.specs.declared.leaf.Position.{Position}
use Rattle.cw_tree.specs.declared.segment.RawIps.TheVariants as inner
use Rattle.cw_tree.specs.declared.segment.RawPs.{RawPs}
use Rattle.cw_tree.specs.declared.segment.RawPs.TheVariants as ps
use Rattle.cw_facts.specs.declared.fact.Kind.{Kind}
use Rattle.cw_facts.specs.declared.fact.Kind.TheVariants as kind
use Rattle.cw_facts.specs.declared.fact.Signature.{Signature}
use Rattle.cw_scope.specs.declared.resolve.Named.{Named}
use Rattle.cw_scale.specs.Kinds.{kind_of, signature_of, fraction_of, fraction_of_kind}
use Rattle.cw_number.specs.declared.numbered.Numbered.{Numbered}
use Rattle.cw_number.specs.declared.numbered.Numbered.TheVariants as numbered
use Rattle.cw_make_expr.specs.Nodes.{reference}
use Rattle.cw_make_expr.specs.Parts.{Numbers, number_of, item_here, params_of, is_called, handed_item, handed, bound, named_spot, words_of, width_of, entries_of, element_word, element_spot, row_length, double_spot, twice_indexed_spot, kind_here, field_of, indexed_spot}
use Rattle.cw_make_expr.specs.Made.{Made, argument_for, arguments_for, arguments, value_of_name, place_read, reference_at, item_of, target, place_of_name, reference_step}
use Rattle.cw_unit.specs.declared.unit.Goal.TheVariants as goal
use Rattle.cw_unit.specs.declared.unit.Target.{Target}
use Rattle.cw_unit.specs.declared.unit.Arg.{Arg}
use Rattle.cw_unit.specs.declared.unit.Expr.{Expr}
use Rattle.cw_unit.specs.declared.unit.Ref.{Ref}
use Rattle.cw_unit.specs.declared.unit.Spot.{Spot, roll-Spot}
use Rattle.cw_unit.specs.declared.unit.Arg.TheOpen as layer
use Rattle.cw_unit.specs.StackBound.{operand_depth, argument_depth, argument_depths, address_depth, arguments_depth}
use Rattle.cw_sound.specs.Uses.Mentions.{In}
use Rattle.cw_sound.specs.Names.Standing.{FewParameters}
use Rattle.cw_sound.proofs.Names.FoundRows.{at_first, at_later}
use Rattle.cw_sound.proofs.Need.Nodes.{spot_depth, expression_rolled, spot_rolled, reference_depth, two_within, Given, given_of, value_given, place_given}
use Rattle.cw_sound.proofs.Need.Rules.{Shallow, ShallowPlace, Each, no_argument_small}

-- ---- arguments

wider : (k : ℕ) (a : Arg) → 2 ≤ k → Given a 2 → Given a k
wider k a h g = let m = g.most in record { most = omega (arith, m, h); kept = g.kept }

argument_given : (k : ℕ) (p : RawPs) (x : Made) → 2 ≤ k → Shallow k x → Given (argument_for p x) k
argument_given k (ps.Plain (inner.Value at t)) x h s = value_given (x.made false) (fraction_of t) k (s.made false)
argument_given k (ps.Plain (inner.Location at t)) x h s = place_given (x.made false) (fraction_of t) k (s.made false)
argument_given k _ x h s = wider k x.handed h s.handed

given_arguments : (k : ℕ) (xs : List Made) (params : List RawPs) → 2 ≤ k → Each (Shallow k) xs → Each (λ a. Given a k) (arguments_for xs params)
given_arguments k [] params h s = tt
given_arguments k (x ∷ xs) [] h s = tt
given_arguments k (x ∷ xs) (p ∷ params) h s = (argument_given k p x h s.0, given_arguments k xs params h s.1)

few_arguments : (xs : List Made) (params : List RawPs) → length (arguments_for xs params) ≤ length params
few_arguments [] params = omega arith
few_arguments (x ∷ xs) [] = omega arith
few_arguments (x ∷ xs) (p ∷ params) = let h = few_arguments xs params in omega (arith, h)

stacked : (k : ℕ) (args : List Arg) → Each (λ a. Given a k) args → arguments_depth (map argument_depth args) ≤ 2 * length args + k
stacked k [] s = omega arith
stacked k (a ∷ args) s =
    let h = stacked k args s.1 in
    let m = s.0.most in
    let l = s.0.kept in
    step (argument_depth a).most (argument_depth a).kept (arguments_depth (map argument_depth args)) (length args) m l h
  where
    step : (m l d n : ℕ) → m ≤ k → l ≤ 2 → d ≤ 2 * n + k → max m (l + d) ≤ 2 * suc n + k
    step m l d n g h i = omega (arith, g, h, i)

pub mapped_depths : (args : List Arg) → argument_depths args ≡ map argument_depth args
mapped_depths [] = refl
mapped_depths (a ∷ args) = ap (λ ns. argument_depth a ∷ ns) (mapped_depths args)

row_few : (rs : List (Row Signature)) → ((r : Row Signature) → In r rs → length r.item.params ≤ 32) → (t : ℕ) → length (params_of (item_at rs t)) ≤ 32
row_few [] h t = omega arith
row_few (r ∷ rs) h t = pick (nat_eq t r.token) refl (row_few rs (λ x i. h x (inr i)) t)
  where
    pick : (b : Bool) → nat_eq t r.token ≡ b → length (params_of (item_at rs t)) ≤ 32 → length (params_of (item_at (r ∷ rs) t)) ≤ 32
    pick true e later = subst (λ (o : Option Signature). length (params_of o) ≤ 32) (sym (at_first r rs t e)) (h r (inl refl))
    pick false e later = subst (λ (o : Option Signature). length (params_of o) ≤ 32) (sym (at_later r rs t e)) later

module _ (named : Named) (few : FewParameters named) where
  used_few : (o : Option ℕ) → length (params_of (option_and_then (item_at named.signatures) o)) ≤ 32
  used_few None = omega arith
  used_few (Some t) = row_few named.signatures few t

  pub call_depth : (numbers : Numbers) (k : ℕ) (n : RawName) (xs : List Made) → 2 ≤ k → Each (Shallow k) xs → arguments_depth (map argument_depth (arguments named numbers n xs)) ≤ 64 + k
  call_depth numbers k n xs h s =
      let params : List RawPs = params_of (signature_of named n) in
      let a = stacked k (arguments_for xs params) (given_arguments k xs params h s) in
      let b = few_arguments xs params in
      let c : length params ≤ 32 = used_few (item_at named.uses n.at.token) in
      within (arguments_depth (map argument_depth (arguments_for xs params))) (length (arguments_for xs params)) (length params) a b c
    where
      within : (d n l : ℕ) → d ≤ 2 * n + k → n ≤ l → l ≤ 32 → d ≤ 64 + k
      within d n l g h i = omega (arith, g, h, i)

-- ---- names that are handed on

item_small : (k : Option Kind) (i : ℕ) → Given (handed_item k i) 2
item_small (Some (kind.Array t bounds)) i = given_of (layer.Array i (bound bounds.first.lower)) 2 (record { most = 1; kept = 1 }) refl (omega arith) (omega arith)
item_small (Some (kind.Table size)) i = given_of (layer.Base i) 2 (record { most = 1; kept = 1 }) refl (omega arith) (omega arith)
item_small _ i = given_of (layer.Same i) 2 (record { most = 1; kept = 1 }) refl (omega arith) (omega arith)

handed_small : (k : Option Kind) (o : Option Numbered) → Given (handed k o) 2
handed_small k (Some (numbered.Item i)) = item_small k i
handed_small k (Some (numbered.Label l)) = given_of (layer.Goal (goal.Own l)) 2 (record { most = 2; kept = 2 }) refl (omega arith) (omega arith)
handed_small k (Some (numbered.CommonLabel d)) = given_of (layer.Goal (goal.Common d)) 2 (record { most = 2; kept = 2 }) refl (omega arith) (omega arith)
handed_small k (Some (numbered.Switch s)) = given_of (layer.Switch s) 2 (record { most = 2; kept = 2 }) refl (omega arith) (omega arith)
handed_small k (Some (numbered.CommonSwitch d)) = given_of (layer.CommonSwitch d) 2 (record { most = 2; kept = 2 }) refl (omega arith) (omega arith)
handed_small k (Some (numbered.Proc p)) = given_of (layer.Proc p) 2 (record { most = 2; kept = 2 }) refl (omega arith) (omega arith)
handed_small k (Some (numbered.CommonProc d)) = given_of (layer.CommonProc d) 2 (record { most = 2; kept = 2 }) refl (omega arith) (omega arith)
handed_small k (Some (numbered.Control c)) = given_of (layer.Special c) 2 (record { most = 2; kept = 2 }) refl (omega arith) (omega arith)
handed_small k _ = no_argument_small

-- ---- references

named_depth : (k : Option Kind) (i : ℕ) → spot_depth (named_spot k i) ≡ 1
named_depth (Some (kind.Location t)) i = spot_rolled (layer.Through i)
named_depth _ i = spot_rolled (layer.Direct i)

element_depth : (k : Option Kind) (i p : ℕ) (e : Expr) → spot_depth (element_spot k i p e) ≡ operand_depth e
element_depth (Some (kind.Table s)) i p e = spot_rolled (layer.Elem i false (width_of s) (entries_of s) p e)
element_depth (Some (kind.TableParam s)) i p e = spot_rolled (layer.Elem i true (width_of s) (entries_of s) p e)
element_depth _ i p e = spot_rolled (layer.Bare e)

up : (k d : ℕ) → d ≤ k → d ≤ suc k
up k d h = omega (arith, h)

double_depth : (r : RawRange) (o : Option RawRange) (i k : ℕ) (e g : Expr) → operand_depth e ≤ k → operand_depth g ≤ k → spot_depth (double_spot r o i e g) ≤ suc k
double_depth r (Some s) i k e g h l =
    subst (λ (d : ℕ). d ≤ suc k) (sym (spot_rolled (layer.Two i (bound r.lower) (bound r.upper) (bound s.lower) (bound s.upper) (row_length s) e g)))
    (two_within (operand_depth e) (operand_depth g) k (up k (operand_depth e) h) l)
double_depth r None i k e g h l = subst (λ (d : ℕ). d ≤ suc k) (sym (spot_rolled (layer.Bare e))) (up k (operand_depth e) h)

twice_depth : (o : Option Kind) (i k : ℕ) (e g : Expr) → operand_depth e ≤ k → operand_depth g ≤ k → spot_depth (twice_indexed_spot o i e g) ≤ suc k
twice_depth (Some (kind.Array t bounds)) i k e g h l = double_depth bounds.first bounds.second i k e g h l
twice_depth _ i k e g h l = subst (λ (d : ℕ). d ≤ suc k) (sym (spot_rolled (layer.Bare e))) (up k (operand_depth e) h)

read_within : (k : ℕ) (r : Ref) → address_depth r ≤ k → ShallowPlace k (place_read r)
read_within k r h = record { place = h; value = subst (λ (d : ℕ). d ≤ k) (sym (expression_rolled (layer.Read r))) h; handed = no_argument_small }

named_value : (b : Bool) (t : Target) (r : Ref) (k : ℕ) → 1 ≤ k → address_depth r ≤ k → operand_depth (value_of_name b t r) ≤ k
named_value true t r k h l = subst (λ (d : ℕ). d ≤ k) (sym (expression_rolled (layer.Call t []))) h
named_value false t r k h l = subst (λ (d : ℕ). d ≤ k) (sym (expression_rolled (layer.Read r))) l

module _ (named : Named) (numbers : Numbers) where
  indexed_depth : (k : Option Kind) (i : ℕ) (e : Expr) → spot_depth (indexed_spot named numbers k i e) ≡ operand_depth e
  indexed_depth (Some (kind.Array t bounds)) i e = spot_rolled (layer.One i (bound bounds.first.lower) (bound bounds.first.upper) e)
  indexed_depth (Some (kind.ArrayParam t)) i e = spot_rolled (layer.ParamArray i e)
  indexed_depth (Some (kind.Table s)) i e = spot_rolled (layer.Word i false (words_of s) e)
  indexed_depth (Some (kind.TableParam s)) i e = spot_rolled (layer.Word i true (words_of s) e)
  indexed_depth (Some (kind.Element table x)) i e = element_depth (kind_here named table.at.token) (item_here numbers table.at.token) (element_word x) e
  indexed_depth _ i e = spot_rolled (layer.Bare e)

  at_depth : (n : RawName) (s : Spot) → address_depth (reference_at named n s) ≡ spot_depth s
  at_depth n s = reference_depth s (fraction_of_kind (kind_of named n)) (field_of (kind_of named n))

  pub name_shallow : (k : ℕ) (n : RawName) → 1 ≤ k → ShallowPlace k (reference_step named numbers (raw_layer.Name n))
  name_shallow k n h =
      let spot : Spot = named_spot (kind_of named n) (item_of named numbers n) in
      let place : address_depth (place_of_name named numbers n) ≤ k = subst (λ (d : ℕ). d ≤ k) (sym (at_depth n spot ∙ named_depth (kind_of named n) (item_of named numbers n))) h in
      record {
        place = place;
        value = named_value (is_called (kind_of named n)) (target named numbers n) (place_of_name named numbers n) k h place;
        handed = handed_small (kind_of named n) (number_of named numbers n);
      }

  pub one_shallow : (k : ℕ) (n : RawName) (x : Made) → Shallow k x → ShallowPlace k (reference_step named numbers (raw_layer.One n x))
  one_shallow k n x s =
      let spot : Spot = indexed_spot named numbers (kind_of named n) (item_of named numbers n) (x.made false) in
      read_within k (reference_at named n spot) (subst (λ (d : ℕ). d ≤ k) (sym (at_depth n spot ∙ indexed_depth (kind_of named n) (item_of named numbers n) (x.made false))) (s.made false))

  pub two_shallow : (k : ℕ) (n : RawName) (x y : Made) → Shallow k x → Shallow k y → ShallowPlace (suc k) (reference_step named numbers (raw_layer.Two n x y))
  two_shallow k n x y s t =
      let spot : Spot = twice_indexed_spot (kind_of named n) (item_of named numbers n) (x.made false) (y.made false) in
      read_within (suc k) (reference_at named n spot) (subst (λ (d : ℕ). d ≤ suc k) (sym (at_depth n spot)) (twice_depth (kind_of named n) (item_of named numbers n) k (x.made false) (y.made false) (s.made false) (t.made false)))

  pub bare_shallow : (k : ℕ) (at : Position) (x : Made) → Shallow k x → ShallowPlace k (reference_step named numbers (raw_layer.Bare at x))
  bare_shallow k at x s =
      let spot : Spot = roll-Spot (layer.Bare (x.made false)) in
      read_within k (reference spot 0 None) (subst (λ (d : ℕ). d ≤ k) (sym (reference_depth spot 0 None ∙ spot_rolled (layer.Bare (x.made false)))) (s.made false))
