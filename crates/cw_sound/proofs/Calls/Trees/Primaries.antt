-- Primaries, references and conditional expressions: where their parts are right, so are they.
use Rattle.std.proofs.Common.{◌≡◌, ℕ, List, [], ◌++◌, Bool, true, false, Some, None, is_some, refl, subst}
use Rattle.cw_tree.specs.declared.leaf.Position.{Position}
use Rattle.cw_tree.specs.declared.leaf.RawName.{RawName}
use Rattle.cw_tree.specs.declared.leaf.RawType.{RawType}
use Rattle.cw_tree.specs.declared.leaf.RawNumber.{RawNumber}
use Rattle.cw_tree.specs.declared.expression.RawExpr.TheOpen as layer
use Rattle.cw_facts.specs.declared.fact.Form.TheVariants as form
use Rattle.cw_facts.specs.declared.fact.Reading.TheVariants as reading
use Rattle.cw_facts.specs.Uses.{Uses, uses_of, each_for}
use Rattle.cw_facts.specs.Uses as uses
use Rattle.cw_scope.specs.declared.resolve.Named.{Named}
use Rattle.cw_amount.specs.Amounts.{octal_word}
use Rattle.cw_scale.specs.declared.fault.Rule.TheVariants as rule
use Rattle.cw_scale.specs.Faults.{both}
use Rattle.cw_scale.specs.Kinds.{kind_of, signature_of, fraction_of}
use Rattle.cw_scale.specs.Types.{type_judged}
use Rattle.cw_scale.specs.TypeRules as judged
use Rattle.cw_scale.specs.TypeRules.{Judged, fits_at, call_faults}
use Rattle.cw_make_expr.specs.Parts.{Numbers, number_of, is_called, handed}
use Rattle.cw_make_expr.specs.Nodes as nodes
use Rattle.cw_make_expr.specs.Made as made
use Rattle.cw_make_expr.specs.Made.{Made, Placed, simply, value_of_name, target, place_of_name, item_of}
use Rattle.cw_unit.specs.declared.unit.Cond.{Cond}
use Rattle.cw_unit.specs.declared.unit.Expr.{Expr}
use Rattle.cw_unit.specs.declared.unit.Ref.{Ref}
use Rattle.cw_unit.specs.declared.unit.Arg.TheOpen as unit_layer
use Rattle.cw_deepest.specs.Programs.Calls.{in_expression, in_reference}
use Rattle.cw_sound.proofs.Expressions.Judging.{Keeps, NoFault, keeps_fine, keeps_unless, keeps_type, keeps_both, both_free}
use Rattle.cw_sound.proofs.Calls.Trees.Parts.{Context, AllFit, made_of, Located, Right, RightTest, RightPlace, Rights, no_sound}
use Rattle.cw_sound.proofs.Calls.Trees.Nodes.{expression_of, whole_part_fits, choice_fits, reference_fits, read_fits, bare_fits, named_fits, indexed_fits, twice_indexed_fits}
use Rattle.cw_sound.proofs.Calls.Trees.Rules.{compound, sounds_for}
use Rattle.cw_sound.proofs.Calls.Trees.Arguments.{call_keeps, call_fits}

module _ (named : Named) (numbers : Numbers) (body : Context named numbers) where
  abbrev All : Expr → Type 0
  All e = AllFit named numbers body (in_expression e)

  -- ---- what has no parts

  pub number_right : (n : RawNumber) → Right named numbers body (judged.primary_step named (layer.Number n)) (simply (nodes.number n.number)) (uses.primary_step (layer.Number n))
  number_right n r h =
      compound named numbers body (judged.primary_step named (layer.Number n)) (simply (nodes.number n.number)) refl (λ f. keeps_unless (fits_at n.number f) rule.NumberRange n.at)
      (λ f free operand. expression_of body.Fit (unit_layer.Num n.number) tt)

  pub octal_right : (n : _) → Right named numbers body (judged.primary_step named (layer.Octal n)) (made.primary_step named numbers (layer.Octal n)) (uses.primary_step (layer.Octal n))
  octal_right n r h =
      compound named numbers body (judged.primary_step named (layer.Octal n)) (made.primary_step named numbers (layer.Octal n)) refl (λ f. keeps_unless (is_some (octal_word n.number.number)) rule.NumberRange n.number.at)
      (λ f free operand. expression_of body.Fit (unit_layer.Const _) tt)

  pub literal_right : (c : _) → Right named numbers body (judged.primary_step named (layer.Literal c)) (made.primary_step named numbers (layer.Literal c)) (uses.primary_step (layer.Literal c))
  literal_right c r h =
      compound named numbers body (judged.primary_step named (layer.Literal c)) (made.primary_step named numbers (layer.Literal c)) refl (λ f. keeps_fine) (λ f free operand. expression_of body.Fit (unit_layer.Const _) tt)

  pub string_right : (at : Position) (cs : List ℕ) → Right named numbers body (judged.primary_step named (layer.Text at cs)) (made.primary_step named numbers (layer.Text at cs)) (uses.primary_step (layer.Text at cs))
  string_right at cs r h =
      compound named numbers body (judged.primary_step named (layer.Text at cs)) (made.primary_step named numbers (layer.Text at cs)) refl (λ f. keeps_fine) (λ f free operand. expression_of body.Fit (unit_layer.Text _) tt)

  -- ---- addresses and brackets

  pub location_right : (at : Position) (j : Judged) (p : Placed) (x : Uses) → RightPlace named numbers body j p x → Right named numbers body (judged.primary_step named (layer.Location at j)) (simply (nodes.locate p.place)) (λ r. x reading.Whole)
  location_right at j p x s r h =
      let k = s reading.Whole h in
      compound named numbers body (judged.primary_step named (layer.Location at j)) (simply (nodes.locate p.place)) refl (λ f. k.sound.keeps 0) (λ f free operand. expression_of body.Fit (unit_layer.Locate p.place) (k.place 0 free))

  pub forced_right : (t : RawType) (j : Judged) (m : Made) (x : Uses) → Right named numbers body j m x → Right named numbers body (judged.primary_step named (layer.Forced t j)) (simply (nodes.force (fraction_of t) (m.made false))) (λ r. x reading.Value)
  forced_right t j m x s r h =
      let k = s reading.Value h in
      compound named numbers body (judged.primary_step named (layer.Forced t j)) (simply (nodes.force (fraction_of t) (m.made false))) refl
      (λ f. keeps_both (keeps_type t) (k.keeps (fraction_of t)))
      (λ f free operand. expression_of body.Fit (unit_layer.Force (fraction_of t) (m.made false)) (k.fits (fraction_of t) (both_free (type_judged t) (j.faults (fraction_of t)) (k.keeps (fraction_of t)) free).1 false))

  pub bracket_right : (at : Position) (j : Judged) (m : Made) (x : Uses) → Right named numbers body j m x → Right named numbers body (judged.primary_step named (layer.Bracket at j)) (made.plainly (m.made false)) (λ r. x reading.Value)
  bracket_right at j m x s r h =
      let k = s reading.Value h in
      compound named numbers body (judged.primary_step named (layer.Bracket at j)) (made.plainly (m.made false)) refl k.keeps (λ f free operand. whole_part_fits body.Fit operand (m.made false) (k.fits f free false))

  -- ---- calls

  pub call_right : (n : RawName) {js : List Judged} {ms : List Made} {xs : List Uses} → Rights named numbers body js ms xs
      → Right named numbers body (judged.primary_step named (layer.Call n js)) (simply (nodes.call (made.target named numbers n) (made.arguments named numbers n ms))) (λ r. uses_of n form.CallValue ++ each_for reading.Argument xs)
  call_right n {js = js} {ms = ms} {xs = xs} rs r h =
      let halves = body.split (uses_of n form.CallValue) (each_for reading.Argument xs) h in
      let ss = sounds_for named numbers body reading.Argument rs halves.1 in
      compound named numbers body (judged.primary_step named (layer.Call n js)) (simply (nodes.call (made.target named numbers n) (made.arguments named numbers n ms))) refl
      (λ f. call_keeps named numbers body (signature_of named n) n ss)
      (λ f free operand.
      expression_of body.Fit (unit_layer.Call (made.target named numbers n) (made.arguments named numbers n ms))
      (call_fits named numbers body n (body.known n form.CallValue halves.0) (body.callable n form.CallValue refl halves.0) ss free))

  -- ---- conditional expressions

  pub choice_right : (at : Position) (jt j k : Judged) (t : Cond) (m n : Made) (x y z : Uses) → RightTest named numbers body jt t x → Right named numbers body j m y → Right named numbers body k n z
      → Right named numbers body (judged.expression_step named (layer.Choice at jt j k)) (simply (nodes.choice t (m.made false) (n.made false))) (λ r. x reading.Value ++ (y reading.Value ++ z reading.Value))
  choice_right at jt j k t m n x y z st sj sk r h =
      let halves = body.split (x reading.Value) (y reading.Value ++ z reading.Value) h in
      let sides = body.split (y reading.Value) (z reading.Value) halves.1 in
      let test = st reading.Value halves.0 in
      let v = sj reading.Value sides.0 in
      let w = sk reading.Value sides.1 in
      compound named numbers body (judged.expression_step named (layer.Choice at jt j k)) (simply (nodes.choice t (m.made false) (n.made false))) refl
      (λ f. keeps_both (test.keeps 0) (keeps_both (v.keeps f) (w.keeps f)))
      (λ f free operand.
      let frees = both_free (jt.faults 0) (both (j.faults f) (k.faults f)) (keeps_both (v.keeps f) (w.keeps f)) free in
      let rest = both_free (j.faults f) (k.faults f) (w.keeps f) frees.1 in
      choice_fits body.Fit t (m.made false) (n.made false) (test.fits 0 frees.0) (v.fits f rest.0 false) (w.fits f rest.1 false))

  -- ---- references

  -- a place that is read
  placed : (j : Judged) (p : Ref) → j.shape.bare ≡ None → ((f : ℕ) → Keeps (j.faults f)) → ((f : ℕ) → NoFault (j.faults f) → AllFit named numbers body (in_reference p)) → Located named numbers body j (made.place_read p)
  placed j p e keeps fits = record {
    sound = compound named numbers body j (made_of (made.place_read p)) e keeps (λ f free operand. read_fits body.Fit p (fits f free));
    place = fits;
  }

  place_fits : (n : RawName) → AllFit named numbers body (in_reference (place_of_name named numbers n))
  place_fits n = reference_fits body.Fit _ _ _ (named_fits body.Fit (kind_of named n) (item_of named numbers n))

  name_fits : (n : RawName) → body.Known n → NoFault (call_faults named (signature_of named n) n []) → All (value_of_name (is_called (kind_of named n)) (target named numbers n) (place_of_name named numbers n))
  name_fits n k free = by_kind (is_called (kind_of named n)) refl
    where
      by_kind : (b : Bool) → is_called (kind_of named n) ≡ b → All (value_of_name b (target named numbers n) (place_of_name named numbers n))
      by_kind true e = expression_of body.Fit (unit_layer.Call (target named numbers n) []) (call_fits named numbers body n k e no_sound free)
      by_kind false e = read_fits body.Fit (place_of_name named numbers n) (place_fits n)

  pub name_right : (n : RawName) → RightPlace named numbers body (judged.reference_step named (layer.Name n)) (made.reference_step named numbers (layer.Name n)) (λ r. uses_of n (form.Reference r 0))
  name_right n r h =
      let k = body.known n (form.Reference r 0) h in
      record {
        sound = record {
          keeps = λ f. call_keeps named numbers body (signature_of named n) n no_sound;
          fits = λ f free operand. name_fits n k free;
          bare = λ m is. subst (λ (x : RawName). body.Known x × (handed (kind_of named n) (number_of named numbers n) ≡ handed (kind_of named x) (number_of named numbers x))) (same_some n m is) (k, refl);
        };
        place = λ f free. place_fits n;
      }
    where
      same_some : (x y : RawName) → Some x ≡ Some y → x ≡ y
      same_some x y e = cc

  pub one_right : (n : RawName) (j : Judged) (m : Made) (x : Uses) → Right named numbers body j m x
      → RightPlace named numbers body (judged.reference_step named (layer.One n j)) (made.reference_step named numbers (layer.One n m)) (λ r. uses_of n (form.Reference (uses.indexed r) 1) ++ x reading.Value)
  one_right n j m x s r h =
      let k = s reading.Value (body.split (uses_of n (form.Reference (uses.indexed r) 1)) (x reading.Value) h).1 in
      placed (judged.reference_step named (layer.One n j)) (made.reference_step named numbers (layer.One n m)).place refl (λ f. k.keeps 0)
      (λ f free. reference_fits body.Fit _ _ _ (indexed_fits body.Fit named numbers (kind_of named n) (item_of named numbers n) (m.made false) (k.fits 0 free false)))

  pub two_right : (n : RawName) (j i : Judged) (m p : Made) (x y : Uses) → Right named numbers body j m x → Right named numbers body i p y
      → RightPlace named numbers body (judged.reference_step named (layer.Two n j i)) (made.reference_step named numbers (layer.Two n m p)) (λ r. uses_of n (form.Reference (uses.indexed r) 2) ++ (x reading.Value ++ y reading.Value))
  two_right n j i m p x y s t r h =
      let sides = body.split (x reading.Value) (y reading.Value) (body.split (uses_of n (form.Reference (uses.indexed r) 2)) (x reading.Value ++ y reading.Value) h).1 in
      let v = s reading.Value sides.0 in
      let w = t reading.Value sides.1 in
      placed (judged.reference_step named (layer.Two n j i)) (made.reference_step named numbers (layer.Two n m p)).place refl (λ f. keeps_both (v.keeps 0) (w.keeps 0))
      (λ f free.
      let frees = both_free (j.faults 0) (i.faults 0) (w.keeps 0) free in
      reference_fits body.Fit _ _ _ (twice_indexed_fits body.Fit (kind_of named n) (item_of named numbers n) (m.made false) (p.made false) (v.fits 0 frees.0 false) (w.fits 0 frees.1 false)))

  pub bare_right : (at : Position) (j : Judged) (m : Made) (x : Uses) → Right named numbers body j m x → RightPlace named numbers body (judged.reference_step named (layer.Bare at j)) (made.reference_step named numbers (layer.Bare at m)) (λ r. x reading.Value)
  bare_right at j m x s r h =
      let k = s reading.Value h in
      placed (judged.reference_step named (layer.Bare at j)) (made.reference_step named numbers (layer.Bare at m)).place refl (λ f. k.keeps 0) (λ f free. reference_fits body.Fit _ _ _ (bare_fits body.Fit (m.made false) (k.fits 0 free false)))
