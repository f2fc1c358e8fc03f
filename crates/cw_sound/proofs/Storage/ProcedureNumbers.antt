-- Procedures of the outermost block have numbers of their own.
use Rattle.std.proofs.Common.{◌≡◌, ℕ, List, [], ◌∷◌, ◌++◌, length, Some, slice_get, refl, sym, ap, ◌∙◌}
use Rattle.std.proofs.lemmas.Option.{same_Some}
use Rattle.cw_facts.specs.declared.fact.Declaration.{Declaration}
use Rattle.cw_facts.specs.declared.fact.Kind.TheVariants as kind
use Rattle.cw_scope.specs.declared.resolve.Named.{Named}
use Rattle.cw_number.specs.declared.numbered.Numbered.TheVariants as numbered
use Rattle.cw_make_items.specs.Lookup.{Numbers, proc_in, proc_here}
use Rattle.cw_sound.specs.Uses.Mentions.{Mention, Here, declares, block_mentions}
use Rattle.cw_sound.specs.Names.Placed.{Placed}
use Rattle.cw_sound.specs.Names.Standing.{is_own_procedure, CountsOwn}
use Rattle.cw_sound.proofs.Names.Lists.{split}
use Rattle.cw_sound.proofs.Names.Picking.{pick, picked_at}
use Rattle.cw_sound.proofs.Names.Sorts.{of_kind, few_before, procedures_before}
use Rattle.cw_sound.proofs.Storage.Owners.{AllSo, procedure_here}

at_length : {X : Type 0} → (xs ys : List X) (x : X) → slice_get (xs ++ x ∷ ys) (length xs) ≡ Some x
at_length [] ys x = refl
at_length (y ∷ xs) ys x = at_length xs ys x

abbrev pub token_of : Mention → ℕ
token_of (declares d) = d.name.at.token
token_of _ = 0

module _ (named : Named) (numbers : Numbers) where
  abbrev procedures : List Here
  procedures = pick (of_kind is_own_procedure) (block_mentions numbers named.raw.now)

  -- the token is that of the declaration which has this number among procedures
  pub record Counted (token : ℕ) : Type 0 where
    pub number : ℕ
    pub is_number : proc_here numbers token ≡ number
    pub mention : Here
    pub there : slice_get (pick (of_kind is_own_procedure) (block_mentions numbers named.raw.now)) number ≡ Some mention
    pub is_token : token_of mention.mention ≡ token

  module _ (placed : Placed named.raw.now) (counts : CountsOwn named numbers) where
    pub all_counted : AllSo Counted numbers (block_mentions numbers named.raw.now)
    all_counted who n answer i =
        let m = procedure_here who n answer in
        let d : Declaration = record { name = n; kind = kind.Proc answer } in
        let cut = split m (block_mentions numbers named.raw.now) i in
        let k : ℕ = length (pick (of_kind is_own_procedure) cut.0) in
        let count = procedures_before cut.0 (few_before numbers named.raw.now placed is_own_procedure cut.0 cut.1 m cut.2) in
        let is = counts cut.0 cut.1 who d (numbered.Proc k) cut.2 (ap (λ p. Some (numbered.Proc p)) count) in
        record {
          number = k;
          is_number = ap proc_in is;
          mention = m;
          there = ap (λ ms. slice_get ms k) (ap (pick (of_kind is_own_procedure)) cut.2 ∙ picked_at (of_kind is_own_procedure) cut.0 cut.1 m refl) ∙ at_length (pick (of_kind is_own_procedure) cut.0) (pick (of_kind is_own_procedure) cut.1) m;
          is_token = refl;
        }

  -- procedures of one number are one
  pub one_token : (a b : ℕ) → Counted a → Counted b → proc_here numbers a ≡ proc_here numbers b → a ≡ b
  one_token a b x y e =
      let same : x.number ≡ y.number = sym x.is_number ∙ e ∙ y.is_number in
      let one : x.mention ≡ y.mention = same_Some x.mention y.mention (sym x.there ∙ ap (slice_get procedures) same ∙ y.there) in
      sym x.is_token ∙ ap (λ (m : Here). token_of m.mention) one ∙ y.is_token
