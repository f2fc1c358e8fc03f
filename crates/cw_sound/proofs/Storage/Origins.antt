-- The declaration of each name that the communicators list, beside the descriptor of it.
use Rattle.std.proofs.Common.{◌≡◌, inl, ℕ, List, [], ◌∷◌, ◌++◌, map, Option, refl, sym, subst, ◌∙◌}
use Rattle.cw_table.specs.declared.table.Row.{Row}
use Rattle.cw_tree.specs.declared.leaf.RawName.{RawName}
use Rattle.cw_tree.specs.declared.leaf.RawType.{RawType}
use Rattle.cw_tree.specs.declared.segment.RawPs.{RawPs}
use Rattle.cw_facts.specs.declared.fact.Fact.{Fact}
use Rattle.cw_facts.specs.declared.fact.Declaration.{Declaration}
use Rattle.cw_facts.specs.declared.fact.Kind.{Kind as NameKind}
use Rattle.cw_facts.specs.declared.fact.Kind.TheVariants as kind
use Rattle.cw_facts.specs.declared.fact.Signature.{Signature}
use Rattle.cw_facts.specs.Facts.{declares, specifies}
use Rattle.cw_scope.specs.NameRules.{said, all_declared}
use Rattle.cw_scope.specs.Resolved.{text_signatures}
use Rattle.cw_number.specs.declared.listed.Listing.{Listing}
use Rattle.cw_number.specs.declared.listed.Listing.TheVariants as listing
use Rattle.cw_make_items.specs.Types.{spec_of}
use Rattle.cw_unit.specs.declared.descriptor.Desc.{Desc}
use Rattle.cw_unit.specs.declared.descriptor.DescBody.{DescBody}
use Rattle.cw_unit.specs.declared.descriptor.DescBody.TheVariants as bodies
use Rattle.cw_sound.specs.Uses.Mentions.{In}
use Rattle.cw_sound.proofs.Names.Lists.{Sub, sub_left, sub_right}
use Rattle.cw_sound.proofs.Names.MentionsOf.{declared_before, specified_before, signatures_append}
use Rattle.cw_sound.proofs.Names.DescriptorNames.{declared_append, declares_it}
use Rattle.cw_sound.proofs.Names.ListedParts.{Listed, also, stored, label, switch, procedure}

-- the specification of a name
abbrev pub specified : (token : ℕ) → Option RawType → List RawPs → Row Signature
specified token answer params = record { token = token; item = record { answer = answer; params = params } }

module _ (cs : List Declaration) (sigs : List (Row Signature)) where
  -- the declaration of a kind at a token
  pub record From (token : ℕ) (k : NameKind) : Type 0 where
    pub declaration : Declaration
    pub is_in : In declaration cs
    pub is_token : declaration.name.at.token ≡ token
    pub is_kind : declaration.kind ≡ k

  -- what a descriptor says of what is listed
  abbrev pub Says : (token : ℕ) → Listing → DescBody → Type 0
  Says token listing.Data b = Unit {0}
  Says token listing.Label b = From token kind.Label × (b ≡ bodies.Label)
  Says token listing.Switch b = From token kind.Switch × (b ≡ bodies.Switch)
  Says token listing.Proc b = (answer : Option RawType) × (params : List RawPs) × From token (kind.Proc answer) × (b ≡ bodies.Proc (spec_of answer params)) × In (specified token answer params) sigs

  abbrev pub AllSay : List (Row Listing) → List Desc → Type 0
  AllSay [] [] = Unit {0}
  AllSay [] (x ∷ xs) = ⊥
  AllSay (r ∷ rs) [] = ⊥
  AllSay (r ∷ rs) (x ∷ xs) = Says r.token r.item x.body × AllSay rs xs

  both_say : (rs qs : List (Row Listing)) (ds es : List Desc) → AllSay rs ds → AllSay qs es → AllSay (rs ++ qs) (ds ++ es)
  both_say [] qs [] es h k = k
  both_say [] qs (d ∷ ds) es h k = absurd h
  both_say (r ∷ rs) qs [] es h k = absurd h
  both_say (r ∷ rs) qs (d ∷ ds) es h k = (h.0, both_say rs qs ds es h.1 k)

  from : (n : RawName) (k : NameKind) (fs : List Fact) → Sub (all_declared (map said (declares n k ∷ fs))) cs → From n.at.token k
  from n k fs h = record { declaration = record { name = n; kind = k }; is_in = h (record { name = n; kind = k }) (declares_it n k fs); is_token = refl; is_kind = refl }

  pub all_say : {fs : List Fact} {rs : List (Row Listing)} {ds : List Desc} → Listed fs rs ds → Sub (all_declared (map said fs)) cs → Sub (text_signatures fs) sigs → AllSay rs ds
  all_say (also {fs} {gs} {rs} {qs} {ds} {es} a b) h g =
      let declared = subst (λ xs. Sub xs cs) (declared_append fs gs) h in
      let signed = subst (λ xs. Sub xs sigs) (signatures_append fs gs) g in
      both_say rs qs ds es (all_say a (sub_left (all_declared (map said fs)) (all_declared (map said gs)) cs declared) (sub_left (text_signatures fs) (text_signatures gs) sigs signed))
      (all_say b (sub_right (all_declared (map said fs)) (all_declared (map said gs)) cs declared) (sub_right (text_signatures fs) (text_signatures gs) sigs signed))
  all_say (stored n k d e w) h g = (tt, tt)
  all_say (label n) h g = ((from n kind.Label [] h, refl), tt)
  all_say (switch n) h g = ((from n kind.Switch [] h, refl), tt)
  all_say (procedure l s) h g =
      let rest = specifies s.name.at.token s.answer s.params ∷ [] in
      let there = g (specified s.name.at.token s.answer s.params) (subst (In (specified s.name.at.token s.answer s.params)) (sym (declared_before s.name (kind.Proc s.answer) rest ∙ specified_before s.name.at.token s.answer s.params [])) (inl refl)) in
      ((s.answer, s.params, from s.name (kind.Proc s.answer) rest h, refl, there), tt)
  all_say _ h g = tt
