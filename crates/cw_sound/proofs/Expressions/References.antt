-- References: where their indexes are right, so are they.
use Rattle.std.proofs.Common.{◌≡◌, ℕ, ◌≤◌, max, [], ◌++◌, Bool, true, false, IsTrue, Option, Some, None, refl, ap, subst, arith}
use Rattle.cw_tree.specs.declared.leaf.Position.{Position}
use Rattle.cw_tree.specs.declared.leaf.RawName.{RawName}
use Rattle.cw_tree.specs.declared.expression.RawExpr.TheOpen as layer
use Rattle.cw_facts.specs.declared.fact.Form.TheVariants as form
use Rattle.cw_facts.specs.declared.fact.Kind.{Kind as NameKind}
use Rattle.cw_facts.specs.declared.fact.Kind.TheVariants as kind
use Rattle.cw_facts.specs.declared.fact.Reading.{Reading}
use Rattle.cw_facts.specs.declared.fact.Reading.TheVariants as reading
use Rattle.cw_facts.specs.Uses.{Uses, uses_of}
use Rattle.cw_facts.specs.Uses as uses
use Rattle.cw_scope.specs.declared.resolve.Named.{Named}
use Rattle.cw_scale.specs.Arguments.{is_word_item_if, is_whole_if, answers_alone}
use Rattle.cw_scale.specs.Faults.{Judgement, both}
use Rattle.cw_scale.specs.Kinds.{kind_of, signature_of, fraction_of_kind}
use Rattle.cw_scale.specs.TypeRules as judged
use Rattle.cw_scale.specs.TypeRules.{Judged, call_faults}
use Rattle.cw_make_expr.specs.Nodes.{read, reference}
use Rattle.cw_make_expr.specs.Parts.{Numbers, no_argument, number_of, is_called, field_of, handed, named_spot, indexed_spot, twice_indexed_spot}
use Rattle.cw_make_expr.specs.Made as made
use Rattle.cw_make_expr.specs.Made.{Made, value_of, value_of_name, target, item_of, place_of_name}
use Rattle.cw_unit.specs.declared.unit.Unit.{Unit as SourceUnit}
use Rattle.cw_unit.specs.declared.unit.Spot.{Spot, roll-Spot}
use Rattle.cw_unit.specs.declared.unit.Field.{Field}
use Rattle.cw_unit.specs.declared.unit.Arg.TheOpen as unit_layer
use Rattle.cw_gen_expr.specs.BuiltExpressions.{most_levels}
use Rattle.cw_sound.specs.Uses.Stands.{FactsStand}
use Rattle.cw_sound.proofs.Expressions.Truth.{no, or_left}
use Rattle.cw_sound.proofs.Expressions.Judging.{Keeps, NoFault, keeps_both, both_free}
use Rattle.cw_sound.proofs.Expressions.Standing.{split, use_stands}
use Rattle.cw_sound.proofs.Expressions.Parts.{Sense, Result, Valued, Sound, Right, RightPlace, made_of}
use Rattle.cw_sound.proofs.Expressions.Senses.{IsKept, Used}
use Rattle.cw_sound.proofs.Expressions.Numbers.{name_small}
use Rattle.cw_sound.proofs.Expressions.Arguments.{call_keeps}
use Rattle.cw_sound.proofs.Expressions.Rules.{result_valued}
use Rattle.cw_sound.proofs.Expressions.Lists.{all_none}

word_not_called : (o : Option NameKind) → IsTrue (is_word_item_if o) → is_called o ≡ false
word_not_called None h = no h
word_not_called (Some (kind.Single t)) h = refl
word_not_called (Some (kind.Value t)) h = refl
word_not_called (Some (kind.Location t)) h = refl
word_not_called (Some _) h = no h

module _ (named : Named) (numbers : Numbers) (u : SourceUnit) (who : Option ℕ) (sense : Sense) (kept : IsKept named numbers u who sense) where
  -- ---- a name by itself that has a value, or is a place

  name_sound : (n : RawName) (r : Reading) → Used named numbers u who n (form.Reference r 0) → Sound named numbers u who sense r (judged.reference_step named (layer.Name n)) (made_of (made.reference_step named numbers (layer.Name n))) 0
  name_sound n r s = record {
    handed_on = kept.name_handed n r s;
    whole_value = λ h. or_left (is_word_item_if (kind_of named n)) (answers_alone (signature_of named n)) h;
    valued = λ h.
        result_valued named numbers u who sense kept (fraction_of_kind (kind_of named n)) (judged.name_shape n (fraction_of_kind (kind_of named n)) (is_word_item_if (kind_of named n))) (λ f. call_faults named (signature_of named n) n [])
        (value_of named numbers n) (handed (kind_of named n) (number_of named numbers n)) 0 refl refl (name_small (kind_of named n))
        (λ f. call_keeps named numbers u who sense (signature_of named n) n all_none)
        (λ w. (place_of_name named numbers n, ap (λ b. value_of_name b (target named numbers n) (place_of_name named numbers n)) (word_not_called (kind_of named n) w)))
        (λ f small few free. kept.name_result f n r s h free);
  }

  pub name_right : (n : RawName) → RightPlace named numbers u who sense (judged.reference_step named (layer.Name n)) (made.reference_step named numbers (layer.Name n)) (λ r. uses_of n (form.Reference r 0)) 0
  name_right n = record {
    scale = kept.place_scale (named_spot (kind_of named n) (item_of named numbers n)) (fraction_of_kind (kind_of named n)) (field_of (kind_of named n));
    sound = λ r h. name_sound n r (use_stands named numbers u who n (form.Reference r 0) h);
    located = λ r placed h. record {
      keeps = λ g. call_keeps named numbers u who sense (signature_of named n) n all_none;
      good = λ g few free. kept.name_place n r (use_stands named numbers u who n (form.Reference r 0) h) placed;
    };
  }

  -- ---- places with indexes

  -- where there is no fault the place is right
  placed : (n : ℕ) (w : Bool) (F : ℕ → Judgement) (s : Spot) (field : Option Field) (l : ℕ) (x : Uses) → n ≤ 15 → ((r : Reading) → FactsStand named numbers u (x r) who → ((f : ℕ) → Keeps (F f)) × ((f : ℕ) → l ≤ most_levels → NoFault (F f) → sense.Place (reference s n field)))
      → RightPlace named numbers u who sense (record { shape = judged.place_shape n w; faults = F }) (made.place_read (reference s n field)) x l
  placed n w F s field l x small p = record {
    scale = kept.place_scale s n field;
    sound = λ r h. record {
      handed_on = kept.nothing_handed r;
      whole_value = λ e. refl;
      valued = λ v.
          result_valued named numbers u who sense kept n (judged.place_shape n w) F (read (reference s n field)) no_argument l refl refl small (p r h).0 (λ e. (reference s n field, refl))
          (λ f le few free. subst (λ (k : ℕ). Result sense k f (read (reference s n field))) (kept.place_scale s n field) (kept.read_result f (reference s n field) ((p r h).1 f few free)));
    };
    located = λ r e h. record { keeps = (p r h).0; good = (p r h).1 };
  }

  -- an index is evaluated at the scale 0
  index_of : (j : Judged) (m : Made) (l : ℕ) → Valued sense j m l → l ≤ most_levels → NoFault (j.faults 0) → sense.At most_levels 0 (m.made false)
  index_of j m l v few free = kept.more l most_levels 0 (m.made false) few (v.good 0 (omega arith) few free).at

  pub bare_right : (at : Position) (j : Judged) (m : Made) (x : Uses) (l : ℕ) → Right named numbers u who sense j m x l → RightPlace named numbers u who sense (judged.reference_step named (layer.Bare at j)) (made.reference_step named numbers (layer.Bare at m)) (λ r. x reading.Value) l
  bare_right at j m x l s =
      placed 0 true (λ f. j.faults 0) (roll-Spot (unit_layer.Bare (m.made false))) None l (λ r. x reading.Value) (omega arith)
      (λ r h. let v = (s reading.Value h).valued tt in (λ f. v.keeps 0, λ f few free. kept.bare_place (m.made false) (index_of j m l v few free)))

  pub one_right : (n : RawName) (j : Judged) (m : Made) (x : Uses) (l : ℕ) → Right named numbers u who sense j m x l
      → RightPlace named numbers u who sense (judged.reference_step named (layer.One n j)) (made.reference_step named numbers (layer.One n m)) (λ r. uses_of n (form.Reference (uses.indexed r) 1) ++ x reading.Value) l
  one_right n j m x l s =
      placed (fraction_of_kind (kind_of named n)) (is_whole_if (kind_of named n)) (λ f. j.faults 0) (indexed_spot named numbers (kind_of named n) (item_of named numbers n) (m.made false)) (field_of (kind_of named n)) l
      (λ r. uses_of n (form.Reference (uses.indexed r) 1) ++ x reading.Value) (name_small (kind_of named n))
      (λ r h.
      let halves = split named numbers u who (uses_of n (form.Reference (uses.indexed r) 1)) (x reading.Value) h in
      let k = use_stands named numbers u who n (form.Reference (uses.indexed r) 1) halves.0 in
      let v = (s reading.Value halves.1).valued tt in (
        λ f. v.keeps 0,
        λ f few free. kept.one_place n r (m.made false) k (index_of j m l v few free),
      ))

  pub two_right : (n : RawName) (j k : Judged) (m p : Made) (x y : Uses) (l i : ℕ) → Right named numbers u who sense j m x l → Right named numbers u who sense k p y i
      → RightPlace named numbers u who sense (judged.reference_step named (layer.Two n j k)) (made.reference_step named numbers (layer.Two n m p)) (λ r. uses_of n (form.Reference (uses.indexed r) 2) ++ (x reading.Value ++ y reading.Value)) (max l i)
  two_right n j k m p x y l i s t =
      placed (fraction_of_kind (kind_of named n)) (is_whole_if (kind_of named n)) (λ f. both (j.faults 0) (k.faults 0)) (twice_indexed_spot (kind_of named n) (item_of named numbers n) (m.made false) (p.made false)) (field_of (kind_of named n)) (max l i)
      (λ r. uses_of n (form.Reference (uses.indexed r) 2) ++ (x reading.Value ++ y reading.Value)) (name_small (kind_of named n))
      (λ r h.
      let halves = split named numbers u who (uses_of n (form.Reference (uses.indexed r) 2)) (x reading.Value ++ y reading.Value) h in
      let sides = split named numbers u who (x reading.Value) (y reading.Value) halves.1 in
      let z = use_stands named numbers u who n (form.Reference (uses.indexed r) 2) halves.0 in
      let v = (s reading.Value sides.0).valued tt in
      let w = (t reading.Value sides.1).valued tt in (
        λ f. keeps_both (v.keeps 0) (w.keeps 0),
        λ f few free.
            let frees = both_free (j.faults 0) (k.faults 0) (w.keeps 0) free in
            kept.two_place n r (m.made false) (p.made false) z (index_of j m l v (omega (arith, few)) frees.0) (index_of k p i w (omega (arith, few)) frees.1),
      ))
