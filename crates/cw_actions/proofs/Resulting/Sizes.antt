-- Code that is too big is so for the items of its texts.
use Rattle.std.proofs.Common.{◌≡◌, ℕ, suc, ◌+◌, List, [], ◌∷◌, map, sum, length, refl, sym, ap, ap₂, ◌∙◌, arith}
use Rattle.std.proofs.lemmas.List.Sums.{sum-map, sum_by-cons}
use Rattle.cw_io.specs.File.{Told}
use Rattle.cw_lex.specs.Lexical.{Lexeme}
use Rattle.cw_unit.specs.declared.unit.Unit.{Unit as SourceUnit}
use Rattle.cw_unit.specs.declared.layout.Limits.{Limits}
use Rattle.cw_compile.specs.Texts.{text_limit}
use Rattle.cw_link.specs.declared.fault.LinkFault.{LinkFault}
use Rattle.cw_link.specs.declared.fault.LinkFault.TheVariants.{CodeTooBig}
use Rattle.cw_build.specs.Linking.{IsLinkFault}
use Rattle.cw_files.specs.Texts.{HasUnit}
use Rattle.cw_files.specs.Reading.{HaveBytes, HaveValues}
use Rattle.cw_correct.specs.Going.{ExpandTo, HasCause}
use Rattle.cw_actions.specs.Resulting.Texts.{OneOfText, HasSizes}

pub same_length : (files : List Told) (texts : List (List ℕ)) (us : List SourceUnit) → HaveBytes text_limit files texts → HaveValues HasUnit texts us → length us ≡ length files → length us ≡ length texts
same_length [] [] [] have values all = refl
same_length (file ∷ files) [] [] have values all = refl
same_length files [] (u ∷ us) have values all = absurd values
same_length [] (text ∷ texts) us have values all = absurd have
same_length (file ∷ files) (text ∷ texts) [] have values all = absurd (omega (arith, all))
same_length (file ∷ files) (text ∷ texts) (u ∷ us) have values all = ap suc (same_length files texts us have.2 values.1 (omega (arith, all)))

summed : {X : Type 0} (f : X → ℕ) (x : X) (xs : List X) → sum (map f (x ∷ xs)) ≡ f x + sum (map f xs)
summed f x xs = sum-map f (x ∷ xs) ∙ sum_by-cons f x xs ∙ ap (λ n. f x + n) (sym (sum-map f xs))

module _ (given : OneOfText) (sizes : HasSizes) where
  -- the texts expand to as many items as the units have tokens
  expands : (texts : List (List ℕ)) (us : List SourceUnit) → HaveValues HasUnit texts us → length us ≡ length texts → (expanded : List (List Lexeme)) × ExpandTo texts expanded × (sum (map length expanded) ≡ sum (map (λ u. u.tokens) us))
  expands [] [] values all = ([], tt, refl)
  expands [] (u ∷ us) values all = absurd values
  expands (text ∷ texts) [] values all = absurd (omega (arith, all))
  expands (text ∷ texts) (u ∷ us) values all =
      let (more, x, count) = expands texts us values.1 (omega (arith, all)) in
      let tree = values.0.is_unit.has.names.tree in
      let here : u.tokens ≡ length tree.expanded = given.tokens text u tree.expanded values.0.is_unit tree.expands in
      (tree.expanded ∷ more, (tree.expands, x), summed length tree.expanded more ∙ ap₂ (λ m n. m + n) (sym here) count ∙ sym (summed (λ (v : SourceUnit). v.tokens) u us))

  pub cause : (limits : Limits) (texts : List (List ℕ)) (us : List SourceUnit) → HaveValues HasUnit texts us → length us ≡ length texts → (fault : LinkFault) → IsLinkFault us limits fault → HasCause texts fault
  cause limits texts us values all (CodeTooBig bytes) x =
      let (expanded, expand, count) = expands texts us values all in
      (expanded, expand, omega (arith, sizes texts us values, x.first.1, count))
  cause limits texts us values all _ x = tt
