-- Of a text whose names break no rule: a declaration of a block of its own is the first of its name there.
use Rattle.std.proofs.Common.{◌≡◌, List, [], ◌∷◌, ◌++◌, map, Bool, true, false, cond, Option, Some, None, refl, sym, ap, subst, ◌∙◌, ◌⊎◌, inl, inr, ◌==◌, eqb-true}
use Rattle.std.proofs.lemmas.Slice.Eq.{bytes_eq-Decides}
use Rattle.cw_tree.specs.declared.leaf.RawName.{RawName}
use Rattle.cw_facts.specs.declared.fact.Fact.{Fact, Fact-F, map-Fact, out-Fact, fold_out-Fact}
use Rattle.cw_facts.specs.declared.fact.Fact.TheOpen as layer
use Rattle.cw_facts.specs.declared.fact.Declaration.{Declaration}
use Rattle.cw_scope.specs.declared.fault.Rule.{Rule}
use Rattle.cw_scope.specs.declared.fault.Rule.TheVariants as rule
use Rattle.cw_scope.specs.Faults.{unless}
use Rattle.cw_scope.specs.Scope.{Environment, has_name, declared_in}
use Rattle.cw_scope.specs.NameRules.{Said, said, said_step, all_faults, all_declared, within, repeat_faults, declaration_faults, name_faults}
use Rattle.cw_scope.specs.Definitions.{definitions_judged}
use Rattle.cw_scope.specs.Resolved.{text_signatures}
use Rattle.cw_scope.specs.Text.{text_fault}
use Rattle.cw_sound.proofs.Items.Lists.{In}
use Rattle.cw_sound.proofs.Names.NoFaults.{parts, facts_keep, definitions_keep}
use Rattle.cw_macro.specs.Premises.{Each}

some-none : {A : Type 0} (x : A) → Some x ≡ None → ⊥
some-none x e = absurd cc

-- the names of a text without a fault have none
pub names-fine : (facts : List Fact) → text_fault facts ≡ None → name_faults facts None ≡ None
names-fine facts e = (parts (name_faults facts) (definitions_judged facts) (definitions_keep (text_signatures facts) facts (all_declared (map said facts))) e).0

-- ---- each declaration of a block

each-fine : (facts : List Fact) (env : Environment) → all_faults env (map said facts) None ≡ None → Each (λ f. (said f).faults env None ≡ None) facts
each-fine [] env e = tt
each-fine (f ∷ fs) env e =
    let p : ((said f).faults env None ≡ None) × (all_faults env (map said fs) None ≡ None) = parts ((said f).faults env) (all_faults env (map said fs)) (facts_keep fs env) e in
    (p.0, each-fine fs env p.1)

abbrev DeclaresFinely : Environment → Declaration → Said → Type 0
DeclaresFinely env d s = In d s.declared → s.faults env None ≡ None → declaration_faults env d None ≡ None

layer-fine : (env : Environment) (d : Declaration) (y : Fact-F Fact) → DeclaresFinely env d (said_step (map-Fact Fact Said said y))
layer-fine env d (layer.Declares c) (inl e) h = subst (λ z. declaration_faults env z None ≡ None) (sym e) h
layer-fine env d (layer.Declares c) (inr i) h = absurd i
layer-fine env d _ i h = absurd i

fact-fine : (env : Environment) (d : Declaration) (f : Fact) → DeclaresFinely env d (said f)
fact-fine env d f = subst (DeclaresFinely env d) (sym (fold_out-Fact Said said_step f)) (layer-fine env d (out-Fact f))

split-in : {A : Type 0} (x : A) (xs ys : List A) → In x (xs ++ ys) → In x xs ⊎ In x ys
split-in x [] ys h = inr h
split-in x (y ∷ xs) ys (inl e) = inl (inl e)
split-in x (y ∷ xs) ys (inr h) = elim (split-in x xs ys h) [ inl a ↦ inl (inr a) | inr b ↦ inr b ]

declared-fine : (facts : List Fact) (env : Environment) (d : Declaration) → Each (λ f. (said f).faults env None ≡ None) facts → In d (all_declared (map said facts)) → declaration_faults env d None ≡ None
declared-fine [] env d h i = absurd i
declared-fine (f ∷ fs) env d h i =
    elim (split-in d (said f).declared (all_declared (map said fs)) i) [ inl a ↦ fact-fine env d f a h.0 | inr b ↦ declared-fine fs env d h.1 b ]

-- ---- one declaration of a name

named-itself : (d : Declaration) → has_name d.name.name d ≡ true
named-itself d = (bytes_eq-Decides d.name.name d.name.name).1 refl

found-somewhere : (ds : List Declaration) (d : Declaration) (b : Bool) (e : Declaration) → has_name d.name.name e ≡ b → In d (e ∷ ds) → (In d ds → declared_in ds d.name.name ≡ None → ⊥) → declared_in (e ∷ ds) d.name.name ≡ None → ⊥
found-somewhere ds d true e t i rest h = some-none e (sym (ap (λ b. cond b (Some e) (declared_in ds d.name.name)) t) ∙ h)
found-somewhere ds d false e t (inl same) rest h = absurd (let no : true ≡ false = sym (named-itself d) ∙ ap (has_name d.name.name) same ∙ t in absurd cc)
found-somewhere ds d false e t (inr i) rest h = rest i (sym (ap (λ b. cond b (Some e) (declared_in ds d.name.name)) t) ∙ h)

pub is-found : (ds : List Declaration) (d : Declaration) → In d ds → declared_in ds d.name.name ≡ None → ⊥
is-found [] d i h = absurd i
is-found (e ∷ ds) d i h = found-somewhere ds d (has_name d.name.name e) e refl i (is-found ds d) h

same-when : (b : Bool) (r : Rule) (n : RawName) → unless b r n None ≡ None → b ≡ true
same-when true r n h = refl
same-when false r n h = absurd (some-none (record { rule = r; name = n }) h)

is-first : (o : Option Declaration) (ds : List Declaration) (d : Declaration) → declared_in ds d.name.name ≡ o → In d ds → repeat_faults o d None ≡ None → (first : Declaration) × (declared_in ds d.name.name ≡ Some first) × (first.name.at.token ≡ d.name.at.token)
is-first None ds d e i h = absurd (is-found ds d i e)
is-first (Some first) ds d e i h = (first, e, eqb-true first.name.at.token d.name.at.token (same-when (first.name.at.token == d.name.at.token) rule.Twice d.name h))

-- two declarations of one name in the outermost scope stand at one token
pub one-declaration : (facts : List Fact) (d e : Declaration) → name_faults facts None ≡ None → In d (all_declared (map said facts)) → In e (all_declared (map said facts)) → d.name.name ≡ e.name.name → d.name.at.token ≡ e.name.at.token
one-declaration facts d e h i j same =
    let all = all_declared (map said facts) in
    let env = within [] (map said facts) in
    let each : Each (λ f. (said f).faults env None ≡ None) facts = each-fine facts env h in
    let a = is-first (declared_in all d.name.name) all d refl i (declared-fine facts env d each i) in
    let b = is-first (declared_in all e.name.name) all e refl j (declared-fine facts env e each j) in
    let one : Some a.0 ≡ Some b.0 = sym a.1 ∙ ap (declared_in all) same ∙ b.1 in
    let first : a.0 ≡ b.0 = cc in
    sym a.2 ∙ ap (λ (x : Declaration). x.name.at.token) first ∙ b.2
