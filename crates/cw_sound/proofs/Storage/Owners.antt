-- To which procedure belongs what facts store: to the one around them, or to one that they declare.
use Rattle.std.proofs.Common.{◌≡◌, ◌⊎◌, inl, inr, ℕ, List, [], ◌∷◌, ◌++◌, Option, Some, None, refl, sym, subst}
use Rattle.cw_tree.specs.declared.leaf.Position.{Position}
use Rattle.cw_tree.specs.declared.leaf.RawName.{RawName}
use Rattle.cw_tree.specs.declared.leaf.RawType.{RawType}
use Rattle.cw_tree.specs.declared.items.RawBase.{RawBase}
use Rattle.cw_tree.specs.declared.items.RawGroup.{RawGroup}
use Rattle.cw_tree.specs.declared.items.RawData.{RawData}
use Rattle.cw_tree.specs.declared.items.RawData.TheVariants as items
use Rattle.cw_tree.specs.declared.segment.RawPs.{RawPs}
use Rattle.cw_tree.specs.declared.statement.RawParam.{RawParam}
use Rattle.cw_tree.specs.declared.statement.RawParam.TheVariants as param
use Rattle.cw_facts.specs.declared.fact.Fact.{Fact, Fact-F, out-Fact}
use Rattle.cw_facts.specs.declared.fact.Fact.TheOpen as layer
use Rattle.cw_facts.specs.declared.fact.Fact.TheVariants as fact
use Rattle.cw_facts.specs.declared.fact.Form.{Form}
use Rattle.cw_facts.specs.declared.fact.Kind.{Kind}
use Rattle.cw_facts.specs.declared.fact.Kind.TheVariants as kind
use Rattle.cw_facts.specs.Uses.{uses_of}
use Rattle.cw_facts.specs.Facts.{declares, specifies, each_declares, each_uses, data_facts, base_facts, parameters_facts, answer_facts}
use Rattle.cw_items.specs.declared.thing.Owner.{Owner}
use Rattle.cw_items.specs.declared.thing.Base.{Base}
use Rattle.cw_items.specs.declared.thing.Sort.TheVariants as sort
use Rattle.cw_items.specs.declared.thing.Thing.{Thing}
use Rattle.cw_items.specs.Things.{thing, moved, moved_past, named_things, group_words, groups_things, data_things, parameter_things, parameters_things, fact_texts, texts}
use Rattle.cw_make_items.specs.Lookup.{Numbers}
use Rattle.cw_make_items.specs.Items.{proc_of_owner}
use Rattle.cw_sound.specs.Uses.Mentions.{In, Here, here, declares as declared, facts_mentions}
use Rattle.cw_sound.proofs.Names.Lists.{in_left, in_right}
use Rattle.cw_sound.proofs.Names.Rows.{mentions_append}
use Rattle.cw_sound.proofs.Names.MentionsOf.{declared_first, specified_first, block_alone}
use Rattle.cw_sound.proofs.Items.Lists.{each-append}
use Rattle.cw_macro.specs.Premises.{Each}

abbrev pub procedure_here : Option ℕ → RawName → Option RawType → Here
procedure_here who n answer = here who (declared (record { name = n; kind = kind.Proc answer }))

module _ (K : ℕ → Type 0) (numbers : Numbers) where
  -- so is the token of each procedure that is mentioned
  abbrev pub AllSo : List Here → Type 0
  AllSo ms = (who : Option ℕ) (n : RawName) (answer : Option RawType) → In (procedure_here who n answer) ms → K n.at.token

  abbrev mentioned : Option Owner → List Fact → List Here
  mentioned o facts = facts_mentions numbers facts (proc_of_owner numbers o)

  abbrev pub Owned : Option Owner → Thing → Type 0
  Owned o t = (t.owner ≡ o) ⊎ ((w : Owner) × (t.owner ≡ Some w) × K w.token)

  abbrev pub Owns : Option Owner → List Fact → List Thing → Type 0
  Owns o facts things = AllSo (mentioned o facts) → Each (Owned o) things

  pub owns_both : (o : Option Owner) (a b : List Fact) (ts ss : List Thing) → Owns o a ts → Owns o b ss → Owns o (a ++ b) (ts ++ ss)
  owns_both o a b ts ss h k so =
      let both = mentions_append numbers a b (proc_of_owner numbers o) in
      each-append (Owned o) ts ss (h (λ who n t i. so who n t (subst (In (procedure_here who n t)) (sym both) (in_left (procedure_here who n t) (mentioned o a) (mentioned o b) i))))
      (k (λ who n t i. so who n t (subst (In (procedure_here who n t)) (sym both) (in_right (procedure_here who n t) (mentioned o a) (mentioned o b) i))))

  pub owns_none : (o : Option Owner) → Owns o [] []
  owns_none o so = tt

  -- ---- single facts

  pub owns_other : (o : Option Owner) (k : Kind) (n : RawName) → Owns o (declares n k ∷ []) []
  owns_other o k n so = tt

  pub owns_others : (o : Option Owner) (k : Kind) (ns : List RawName) → Owns o (each_declares k ns) []
  owns_others o k ns so = tt

  pub owns_use : (o : Option Owner) (n : RawName) (f : Form) → Owns o (uses_of n f) []
  owns_use o n f so = tt

  pub owns_uses : (o : Option Owner) (ns : List RawName) → Owns o (each_uses ns) []
  owns_uses o ns so = tt

  pub owns_loop : (o : Option Owner) (at : Position) → Owns o (fact.Loop at ∷ []) (thing sort.Loop at o None 4 ∷ [])
  owns_loop o at so = (inl refl, tt)

  pub owns_answer : (o : Option Owner) (answer : Option RawType) → Owns o (answer_facts answer) []
  owns_answer o answer so = tt

  -- ---- blocks

  pub owns_block : (o : Option Owner) (xs : List Fact) (ts : List Thing) → Owns o xs ts → Owns o (fact.Block None xs ∷ []) ts
  owns_block o xs ts h so = h (λ who n t i. so who n t (subst (In (procedure_here who n t)) (sym (block_alone numbers None xs (proc_of_owner numbers o))) i))

  outside : (o : Option Owner) (w : Owner) → K w.token → (ts : List Thing) → Each (Owned (Some w)) ts → Each (Owned o) ts
  outside o w k [] h = tt
  outside o w k (t ∷ ts) h = (elim h.0 [ inl e ↦ inr (w, e, k) | inr r ↦ inr r ], outside o w k ts h.1)

  -- what stands in a procedure is its own
  pub owns_procedure : (o : Option Owner) (w : Owner) (n : RawName) (answer : Option RawType) (params : List RawPs) → w.token ≡ n.at.token → (xs : List Fact) (ts : List Thing) → Owns (Some w) xs ts
      → Owns o (declares n (kind.Proc answer) ∷ specifies n.at.token answer params ∷ fact.Block (Some w.token) xs ∷ []) ts
  owns_procedure o w n answer params e xs ts h so =
      let q = proc_of_owner numbers o in
      let body = fact.Block (Some w.token) xs ∷ [] in
      let first = declared_first numbers n (kind.Proc answer) (specifies n.at.token answer params ∷ body) q in
      let second = specified_first numbers n.at.token answer params body q in
      let third = block_alone numbers (Some w.token) xs q in
      outside o w (subst K (sym e) (so q n answer (subst (In (procedure_here q n answer)) (sym first) (inl refl)))) ts
      (h (λ who m t i. so who m t (subst (In (procedure_here who m t)) (sym first) (inr (subst (In (procedure_here who m t)) (sym second) (subst (In (procedure_here who m t)) (sym third) i))))))

  -- ---- data: all is of the one owner

  named_own : (o : Option Owner) (w : ℕ) (b : Option Base) (ns : List RawName) → Each (Owned o) (named_things o w b ns)
  named_own o w b [] = tt
  named_own o w b (n ∷ ns) = (inl refl, named_own o w (moved w b) ns)

  groups_own : (o : Option Owner) (b : Option Base) (gs : List RawGroup) → Each (Owned o) (groups_things o b gs)
  groups_own o b [] = tt
  groups_own o b (g ∷ gs) =
      each-append (Owned o) (named_things o (group_words g) b g.names) (groups_things o (moved_past (group_words g) g.names b) gs) (named_own o (group_words g) b g.names) (groups_own o (moved_past (group_words g) g.names b) gs)

  pub data_own : (o : Option Owner) (b : Option Base) (d : RawData) → Each (Owned o) (data_things o b d)
  data_own o b (items.Singles t ns presets) = named_own o 1 b ns
  data_own o b (items.Arrays t gs presets) = groups_own o b gs
  data_own o b (items.Table t inside behind) = (inl refl, tt)

  pub owns_data : (o : Option Owner) (b : Option Base) (d : RawData) → Owns o (data_facts d) (data_things o b d)
  owns_data o b d so = data_own o b d

  pub owns_overlay : (o : Option Owner) (base : RawBase) (b : Option Base) (d : RawData) → Owns o (base_facts base ++ data_facts d) (data_things o b d)
  owns_overlay o base b d so = data_own o b d

  parameter_own : (o : Option Owner) (p : RawParam) → Each (Owned o) (parameter_things o p)
  parameter_own o (param.Value at t ns) = named_own o 1 None ns
  parameter_own o (param.Location at t ns) = named_own o 1 None ns
  parameter_own o (param.Array t ns) = named_own o 1 None ns
  parameter_own o (param.Table t) = (inl refl, tt)
  parameter_own o _ = tt

  pub owns_parameters : (o : Option Owner) (ps : List RawParam) → Owns o (parameters_facts ps) (parameters_things o ps)
  owns_parameters o ps so = all_own ps
    where
      all_own : (ps : List RawParam) → Each (Owned o) (parameters_things o ps)
      all_own [] = tt
      all_own (p ∷ ps) = each-append (Owned o) (parameter_things o p) (parameters_things o ps) (parameter_own o p) (all_own ps)

  -- ---- strings

  layer_own : (o : Option Owner) (y : Fact-F Fact) → Each (Owned o) (fact_texts o y)
  layer_own o (layer.Text at n) = (inl refl, tt)
  layer_own o _ = tt

  texts_own : (o : Option Owner) (fs : List Fact) → Each (Owned o) (texts o fs)
  texts_own o [] = tt
  texts_own o (f ∷ fs) = each-append (Owned o) (fact_texts o (out-Fact f)) (texts o fs) (layer_own o (out-Fact f)) (texts_own o fs)

  pub owns_texts : (o : Option Owner) (fs : List Fact) → Owns o fs (texts o fs)
  owns_texts o fs so = texts_own o fs
