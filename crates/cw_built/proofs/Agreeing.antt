-- Where units are built and agree, what a name means is what each descriptor of it says.
use Rattle.std.proofs.Common.{◌≡◌, ℕ, zero, suc, ◌+◌, ◌<◌, ◌≤◌, ◌⊎◌, inl, inr, List, [], ◌∷◌, map, Bool, true, false, cond, All, IsTrue, ◌&&◌, ◌||◌, Option, Some, None, slice_get, refl, sym, ap, ap₂, subst, ◌∙◌, arith, true≢false}
use Rattle.std.specs.Prelude.{option_map}
use Rattle.std.specs.Str.{bytes_eq}
use Rattle.std.proofs.lemmas.Bool.{cases_lt}
use Rattle.std.proofs.lemmas.Option.{none-some, same_Some, slice_get-map, slice_get_within, get_or_from_slice_get}
use Rattle.cw_unit.specs.declared.unit.Unit.{Unit as SourceUnit}
use Rattle.cw_unit.specs.declared.unit.Proc.{Proc}
use Rattle.cw_unit.specs.declared.unit.Label.{Label}
use Rattle.cw_unit.specs.declared.unit.Goal.{Goal}
use Rattle.cw_unit.specs.declared.unit.Goal.TheVariants as goal_of
use Rattle.cw_unit.specs.declared.unit.Def.{Def}
use Rattle.cw_unit.specs.declared.unit.Def.TheVariants as def
use Rattle.cw_unit.specs.declared.descriptor.Desc.{Desc}
use Rattle.cw_unit.specs.declared.descriptor.DescBody.{DescBody}
use Rattle.cw_unit.specs.declared.descriptor.DescBody.TheVariants as bodies
use Rattle.cw_unit.specs.declared.layout.Limits.{Limits}
use Rattle.cw_unit.specs.declared.layout.Map.{Map}
use Rattle.cw_unit.specs.Allocation.{Name}
use Rattle.cw_unit.specs.Program.{Program, program_at, name_in, name_of, definition_in, found_in, definition_from, definition_for, definition_of}
use Rattle.cw_unit.specs.Step.{label_of_def, label_of_goal, goals_of, switch_in}
use Rattle.cw_unit.specs.Configuration.{procedure_in, procedure_at}
use Rattle.cw_safety.specs.Kinds.{Kind, parameter_kinds}
use Rattle.cw_safety.specs.WellFormed.{sets, sets_in_procedure, is_at, reaches_label, reaches_unit, reaches, reaches_goals, reaches_list, reaches_switch, takes_arguments}
use Rattle.cw_safety.proofs.Truth.{both, no}
use Rattle.cw_comm.specs.declared.face.Face.{Face}
use Rattle.cw_comm.specs.Agreement.{as_listed, wants_definition, has_name, defines, listing_of, Listing}
use Rattle.cw_comm.specs.Clashes.{Names, Lists, Defines, Agree}
use Rattle.cw_built.specs.Shared.{face_of, faces_of}
use Rattle.cw_built.specs.Listed.{is_empty, procedure_as, says_label, body_in, body_at}
use Rattle.cw_built.specs.Built.{alone, defines_as, meets, is_built}
use Rattle.cw_built.proofs.Truth.{all-get}
use Rattle.cw_built.proofs.Apart.{has-name, listing-is, name-equal}
use Rattle.cw_built.proofs.Saying.{Means, label-as-said, means-alone}
use Rattle.cw_safety.proofs.Calling.{kinds-same}
use Rattle.cw_built.proofs.Parts.{Parts, parts}

pub all-at : {X : Type 0} (P : X → Type 0) (xs : List X) (k : ℕ) (x : X) → All P xs → slice_get xs k ≡ Some x → P x
all-at P xs k x h e = subst P (get_or_from_slice_get xs k x x e) (h k x (slice_get_within xs k x e))

-- ---- where definitions are found

abbrev DefinedAt : SourceUnit → Name → List (ℕ × Def) → Def → Type 0
DefinedAt v name ds x = (i d : ℕ) × (slice_get ds i ≡ Some (d, x)) × (bytes_eq name (name_of v d) ≡ true)

defined-by : (v : SourceUnit) (name : Name) (d : ℕ × Def) (ds : List (ℕ × Def)) (x : Def) (b : Bool) → (definition_in v name ds ≡ Some x → DefinedAt v name ds x)
    → bytes_eq name (name_of v d.0) ≡ b → cond b (Some d.1) (definition_in v name ds) ≡ Some x → DefinedAt v name (d ∷ ds) x
defined-by v name d ds x true more is e = (0, d.0, ap (λ y. Some (d.0, y)) (same_Some d.1 x e), is)
defined-by v name d ds x false more is e = let r = more e in (suc r.0, r.1, r.2, r.3)

defined-at : (v : SourceUnit) (name : Name) (ds : List (ℕ × Def)) (x : Def) → definition_in v name ds ≡ Some x → DefinedAt v name ds x
defined-at v name [] x e = absurd (none-some x e)
defined-at v name (d ∷ ds) x e = defined-by v name d ds x (bytes_eq name (name_of v d.0)) (defined-at v name ds x) refl e

undefined-here : (name : Name) (o : Option Desc) → bytes_eq name (name_in o) ≡ false → has_name name o ≡ false
undefined-here name None h = refl
undefined-here name (Some d) h = h

if-none : (b : Bool) (x : Def) (o : Option Def) → cond b (Some x) o ≡ None → (b ≡ false) × (o ≡ None)
if-none true x o e = absurd (none-some x (sym e))
if-none false x o e = (refl, e)

undefined-in : (v : SourceUnit) (name : Name) (ds : List (ℕ × Def)) → definition_in v name ds ≡ None → defines name v.descs (map (λ d. d.0) ds) ≡ false
undefined-in v name [] e = refl
undefined-in v name (d ∷ ds) e =
    let p = if-none (bytes_eq name (name_of v d.0)) d.1 (definition_in v name ds) e in
    ap₂ (λ a b. a || b) (undefined-here name (slice_get v.descs d.0) p.0) (undefined-in v name ds p.1)

record Found (name : Name) (vs : List SourceUnit) (g : ℕ) (h : ℕ) (x : Def) : Type 0 where
  place : ℕ
  unit : SourceUnit
  number : h ≡ g + place
  there : slice_get vs place ≡ Some unit
  is : definition_in unit name unit.defined ≡ Some x

found-by : (name : Name) (v : SourceUnit) (vs : List SourceUnit) (g h : ℕ) (x : Def) (o : Option Def) → (definition_from name (g + 1) vs ≡ Some (h, x) → Found name vs (g + 1) h x)
    → definition_in v name v.defined ≡ o → found_in g o (definition_from name (g + 1) vs) ≡ Some (h, x) → Found name (v ∷ vs) g h x
found-by name v vs g h x (Some y) more is e =
    let same : (g, y) ≡ (h, x) = same_Some (g, y) (h, x) e in
    let first : g ≡ h = ap (λ p. p.0) same in
    record { place = 0; unit = v; number = omega (arith, first); there = refl; is = is ∙ ap (λ p. Some p.1) same }
found-by name v vs g h x None more is e =
    let r = more e in
    let n : h ≡ (g + 1) + r.place = r.number in
    record { place = suc r.place; unit = r.unit; number = omega (arith, n); there = r.there; is = r.is }

found-at : (name : Name) (vs : List SourceUnit) (g h : ℕ) (x : Def) → definition_from name g vs ≡ Some (h, x) → Found name vs g h x
found-at name [] g h x e = absurd (none-some (h, x) e)
found-at name (v ∷ vs) g h x e = found-by name v vs g h x (definition_in v name v.defined) (found-at name vs (g + 1) h x) refl e

not-found : (g : ℕ) (o : Option Def) (rest : Option (ℕ × Def)) → found_in g o rest ≡ None → (o ≡ None) × (rest ≡ None)
not-found g None rest e = (refl, e)
not-found g (Some x) rest e = absurd (none-some (g, x) (sym e))

none-at : (name : Name) (vs : List SourceUnit) (g k : ℕ) (v : SourceUnit) → definition_from name g vs ≡ None → slice_get vs k ≡ Some v → definition_in v name v.defined ≡ None
none-at name [] g k v e at = absurd (none-some v at)
none-at name (w ∷ vs) g zero v e at = subst (λ x. definition_in x name x.defined ≡ None) (same_Some w v at) (not-found g (definition_in w name w.defined) (definition_from name (g + 1) vs) e).0
none-at name (w ∷ vs) g (suc k) v e at = none-at name vs (g + 1) k v (not-found g (definition_in w name w.defined) (definition_from name (g + 1) vs) e).1 at

-- ---- labels that any body reaches

true-is : (b : Bool) → IsTrue b → b ≡ true
true-is true t = refl
true-is false t = no t

by-no-owner : (v : SourceUnit) (h l : ℕ) (o : Option (ℕ × ℕ)) (r : Option ℕ) → IsTrue (elim r [ None ↦ sets l v.body | Some q ↦ is_at 0 q None && sets_in_procedure l (slice_get v.procs q) ])
    → elim r [ None ↦ sets l v.body | Some q ↦ is_at h q o && sets_in_procedure l (slice_get v.procs q) ] ≡ true
by-no-owner v h l o None t = true-is (sets l v.body) t
by-no-owner v h l o (Some q) t = no t

reached-label : (v : SourceUnit) (h l : ℕ) (o : Option (ℕ × ℕ)) (x : Option Label) → IsTrue (reaches_label (record v { defined = [] }) x 0 l None) → reaches_label v x h l o ≡ true
reached-label v h l o None t = no t
reached-label v h l o (Some x) t = by-no-owner v h l o x.proc t

stable : (b : Bool) → ((b ≡ false) → ⊥) → IsTrue b
stable true h = refl
stable false h = absurd (h refl)

says-label : (b : DescBody) → says_label (Some b) ≡ true → b ≡ bodies.Label
says-label bodies.Label e = refl
says-label _ e = absurd (cc)

module _ (us : List SourceUnit) (passed : All (λ u. IsTrue (is_built u)) us) where
  pub at : (g : ℕ) (u : SourceUnit) → slice_get us g ≡ Some u → Parts u
  at g u here = parts u (all-at (λ v. IsTrue (is_built v)) us g u passed here)

  -- a definition meets a descriptor of its segment
  pub record Described (v : SourceUnit) (name : Name) (x : Def) : Type 0 where
    pub number : ℕ
    pub desc : Desc
    pub is : slice_get v.descs number ≡ Some desc
    pub named : name ≡ desc.name
    pub meets : IsTrue (defines_as v desc.body x)

  described-by : (v : SourceUnit) (name : Name) (d : ℕ) (x : Def) (o : Option Desc) → slice_get v.descs d ≡ o → bytes_eq name (name_in o) ≡ true → IsTrue (meets v o x) → Described v name x
  described-by v name d x None is e t = no t
  described-by v name d x (Some y) is e t = record { number = d; desc = y; is = is; named = name-equal name y.name e; meets = t }

  described : (h : ℕ) (v : SourceUnit) (name : Name) (x : Def) → slice_get us h ≡ Some v → definition_in v name v.defined ≡ Some x → Described v name x
  described h v name x there e =
      let r = defined-at v name v.defined x e in
      described-by v name r.1 x (slice_get v.descs r.1) refl r.3 (all-get (λ (d : ℕ × Def). meets v (slice_get v.descs d.0) d.1) v.defined r.0 (r.1, x) (at h v there).met r.2)

  pub found-there : (name : Name) (h : ℕ) (x : Def) → definition_from name 0 us ≡ Some (h, x) → (v : SourceUnit) × (slice_get us h ≡ Some v) × Described v name x
  found-there name h x e =
      let r = found-at name us 0 h x e in
      let n : h ≡ 0 + r.place = r.number in
      let number : r.place ≡ h = omega (arith, n) in
      let there : slice_get us h ≡ Some r.unit = ap (slice_get us) (sym number) ∙ r.there in
      (r.unit, there, described h r.unit name x there r.is)

module _ (us : List SourceUnit) (m : Map) (limits : Limits) (passed : All (λ u. IsTrue (is_built u)) us) (agreed : Agree (faces_of us)) where
  abbrev p : Program
  p = program_at us m limits

  face : (g : ℕ) (u : SourceUnit) → slice_get us g ≡ Some u → slice_get (faces_of us) g ≡ Some (face_of u)
  face g u here = slice_get-map face_of us g ∙ ap (option_map face_of) here

  lists : (g d : ℕ) (u : SourceUnit) (x : Desc) → slice_get us g ≡ Some u → slice_get u.descs d ≡ Some x → Lists (faces_of us) g x.name (as_listed u.descs x)
  lists g d u x here is = record { face = face_of u; desc = x; segment_is = face g u here; descriptor_is = listing-is u.descs d x (at us passed g u here).named is; told_is = refl }

  names : (g d : ℕ) (u : SourceUnit) (x : Desc) → slice_get us g ≡ Some u → slice_get u.descs d ≡ Some x → Names (faces_of us) g d x.name
  names g d u x here is = record { face = face_of u; desc = x; segment_is = face g u here; descriptor_is = is; name_is = refl }

  -- two descriptors of one name do not differ
  module _ (g h d e : ℕ) (u v : SourceUnit) (x y : Desc) (here : slice_get us g ≡ Some u) (there : slice_get us h ≡ Some v) (is : slice_get u.descs d ≡ Some x) (yis : slice_get v.descs e ≡ Some y) (same : y.name ≡ x.name) where
    listed-there : Lists (faces_of us) h x.name (as_listed v.descs y)
    listed-there = subst (λ n. Lists (faces_of us) h n (as_listed v.descs y)) same (lists h e v y there yis)

    later : h < g → (x.body ≡ y.body → ⊥) → ⊥
    later lt ne = agreed.same g d h x.name (record {
      names = names g d u x here is;
      before = lt;
      here = as_listed u.descs x;
      there = as_listed v.descs y;
      lists_here = lists g d u x here is;
      lists_there = listed-there;
      differ = λ q. ne (ap (λ (l : Listing). l.body) q);
    })

    earlier : g < h → (x.body ≡ y.body → ⊥) → ⊥
    earlier lt ne = agreed.same h e g x.name (record {
      names = subst (λ n. Names (faces_of us) h e n) same (names h e v y there yis);
      before = lt;
      here = as_listed v.descs y;
      there = as_listed u.descs x;
      lists_here = listed-there;
      lists_there = lists g d u x here is;
      differ = λ q. ne (sym (ap (λ (l : Listing). l.body) q));
    })

    within : g ≡ h → (x.body ≡ y.body → ⊥) → ⊥
    within k ne =
        let one : u ≡ v = same_Some u v (sym here ∙ ap (λ n. slice_get us n) k ∙ there) in
        let first : listing_of x.name u.descs ≡ Some x = listing-is u.descs d x (at us passed g u here).named is in
        let second : listing_of x.name v.descs ≡ Some y = ap (λ n. listing_of n v.descs) (sym same) ∙ listing-is v.descs e y (at us passed h v there).named yis in
        let both-are : x ≡ y = same_Some x y (sym first ∙ ap (λ (w : SourceUnit). listing_of x.name w.descs) one ∙ second) in
        ne (ap (λ (z : Desc). z.body) both-are)

    by-order : (h < g) ⊎ (g ≤ h) → (g < h) ⊎ (h ≤ g) → (x.body ≡ y.body → ⊥) → ⊥
    by-order (inl lt) b ne = later lt ne
    by-order (inr le) (inl lt) ne = earlier lt ne
    by-order (inr le) (inr le') ne = within (omega (arith, le, le')) ne

    pub same-body : (x.body ≡ y.body → ⊥) → ⊥
    same-body = by-order (cases_lt h g) (cases_lt g h)

  -- a definition of a name is in a segment that defines it as it says
  record Definition (b : DescBody) (h : ℕ) (x : Def) : Type 0 where
    unit : SourceUnit
    there : slice_get us h ≡ Some unit
    meets : IsTrue (defines_as unit b x)

  definition : (g d : ℕ) (u : SourceUnit) (y : Desc) (h : ℕ) (x : Def) → slice_get us g ≡ Some u → slice_get u.descs d ≡ Some y → definition_from y.name 0 us ≡ Some (h, x) → Definition y.body h x
  definition g d u y h x here is e =
      let r = found-there us passed y.name h x e in
      let t = r.2 in
      record {
        unit = r.0;
        there = r.1;
        meets = stable (defines_as r.0 y.body x) (λ f. same-body g h d t.number u r.0 y t.desc here r.1 is t.is (sym t.named)
            (λ same. true≢false (sym (true-is (defines_as r.0 t.desc.body x) t.meets) ∙ ap (λ b. defines_as r.0 b x) (sym same) ∙ f)));
      }

  -- what wants a definition has one
  undefined-by : (name : Name) (k : ℕ) (v : Option SourceUnit) → slice_get us k ≡ v → definition_from name 0 us ≡ None → Defines (faces_of us) k name → ⊥
  undefined-by name k None is e r = none-some r.face (sym (slice_get-map face_of us k ∙ ap (option_map face_of) is) ∙ r.segment_is)
  undefined-by name k (Some v) is e r =
      let one : face_of v ≡ r.face = same_Some (face_of v) r.face (sym (face k v is) ∙ r.segment_is) in
      true≢false (sym r.defined ∙ ap (λ (f : Face). defines name f.descs f.defined) (sym one) ∙ undefined-in v name v.defined (none-at name us 0 k v e is))

  nowhere-defined : (name : Name) → definition_from name 0 us ≡ None → (k : ℕ) → Defines (faces_of us) k name → ⊥
  nowhere-defined name e k r = undefined-by name k (slice_get us k) refl e r

  wanted : (g d : ℕ) (u : SourceUnit) (y : Desc) → slice_get us g ≡ Some u → slice_get u.descs d ≡ Some y → wants_definition y.body ≡ true → definition_from y.name 0 us ≡ None → ⊥
  wanted g d u y here is w e = agreed.all_defined g d 0 y.name (record {
    names = names g d u y here is;
    told = as_listed u.descs y;
    lists = lists g d u y here is;
    wants = w;
    none = nowhere-defined y.name e;
    alone = refl;
  })

  -- ---- labels

  reach : (h l : ℕ) (v : SourceUnit) (o : Option (ℕ × ℕ)) → slice_get us h ≡ Some v → IsTrue (reaches (alone v) None (Some (0, l))) → reaches p o (Some (h, l)) ≡ true
  reach h l v o there t = ap (λ w. reaches_unit w h l o) there ∙ reached-label v h l o (slice_get v.labels l) t

  abbrev IsLabel : Option (ℕ × Def) → Type 0
  IsLabel f = (h l : ℕ) × (f ≡ Some (h, def.Label l)) × ((o : Option (ℕ × ℕ)) → reaches p o (Some (h, l)) ≡ true)

  label-defined : (h : ℕ) (x : Def) → Definition bodies.Label h x → IsLabel (Some (h, x))
  label-defined h (def.Label l) r = (h, l, refl, λ o. reach h l r.unit o r.there r.meets)
  label-defined h (def.Switch n) r = no r.meets
  label-defined h (def.Proc q) r = no r.meets

  label-by : (g d : ℕ) (u : SourceUnit) (y : Desc) (f : Option (ℕ × Def)) → slice_get us g ≡ Some u → slice_get u.descs d ≡ Some y → y.body ≡ bodies.Label → definition_from y.name 0 us ≡ f → IsLabel f
  label-by g d u y None here is b e = absurd (wanted g d u y here is (ap wants_definition b) e)
  label-by g d u y (Some (h, x)) here is b e = label-defined h x (subst (λ c. Definition c h x) b (definition g d u y h x here is e))

  name-at : (g d : ℕ) (u : SourceUnit) (y : Desc) → slice_get us g ≡ Some u → slice_get u.descs d ≡ Some y → definition_of p g d ≡ definition_from y.name 0 us
  name-at g d u y here is = ap (λ v. definition_for p v d) here ∙ ap (λ o. definition_from (name_in o) 0 us) is

  common-label : (h d : ℕ) (v : SourceUnit) (o : Option (ℕ × ℕ)) (w : Option Desc) → slice_get us h ≡ Some v → slice_get v.descs d ≡ w → says_label (body_in w) ≡ true → reaches p o (label_of_def (definition_of p h d)) ≡ true
  common-label h d v o None there is e = absurd (cc)
  common-label h d v o (Some y) there is e =
      let r = label-by h d v y (definition_from y.name 0 us) there is (says-label y.body e) refl in
      ap (λ f. reaches p o (label_of_def f)) (name-at h d v y there is ∙ r.2) ∙ r.3 o

  -- ---- switches

  goal-reached : (h : ℕ) (v : SourceUnit) (o : Option (ℕ × ℕ)) (x : Goal) → slice_get us h ≡ Some v → IsTrue (reaches (alone v) None (label_of_goal (alone v) 0 x)) → reaches p o (label_of_goal p h x) ≡ true
  goal-reached h v o (goal_of.Own l) there t = reach h l v o there t
  goal-reached h v o (goal_of.Common d) there t =
      common-label h d v o (slice_get v.descs d) there refl (sym (label-as-said (alone v) None (definition_of (alone v) 0 d) (body_at v d) (means-alone v d (at us passed h v there).named)) ∙ true-is _ t)

  goals-reached : (h : ℕ) (v : SourceUnit) (o : Option (ℕ × ℕ)) (xs : List Goal) → slice_get us h ≡ Some v → IsTrue (reaches_goals (alone v) None 0 xs) → reaches_goals p o h xs ≡ true
  goals-reached h v o [] there t = refl
  goals-reached h v o (x ∷ xs) there t =
      let r = both (reaches (alone v) None (label_of_goal (alone v) 0 x)) (reaches_goals (alone v) None 0 xs) t in
      ap₂ (λ a b. a && b) (goal-reached h v o x there r.0) (goals-reached h v o xs there r.1)

  list-reached : (h : ℕ) (v : SourceUnit) (o : Option (ℕ × ℕ)) (xs : Option (List Goal)) → slice_get us h ≡ Some v → IsTrue (reaches_list (alone v) None 0 xs) → reaches_list p o h xs ≡ true
  list-reached h v o None there t = no t
  list-reached h v o (Some xs) there t = goals-reached h v o xs there t

  switch-reached : (h n : ℕ) (v : SourceUnit) (o : Option (ℕ × ℕ)) → slice_get us h ≡ Some v → IsTrue (reaches_switch (alone v) None (Some (0, n))) → reaches_switch p o (Some (h, n)) ≡ true
  switch-reached h n v o there t = ap (λ w. reaches_list p o h (switch_in w n)) there ∙ list-reached h v o (goals_of (slice_get v.switches n)) there t

  -- ---- all

  procedure-taken : (h q : ℕ) (v : SourceUnit) (ks : List Kind) (x : Option Proc) → slice_get us h ≡ Some v → slice_get v.procs q ≡ x → IsTrue (takes_arguments x ks) → (y : Proc) × (procedure_at p h q ≡ Some y) × (parameter_kinds y ≡ ks)
  procedure-taken h q v ks None there is t = no t
  procedure-taken h q v ks (Some x) there is t = (x, ap (λ w. procedure_in w q) there ∙ is, sym (kinds-same ks (parameter_kinds x) t))

  means-defined : (b : DescBody) (h : ℕ) (x : Def) → Definition b h x → Means p (Some (h, x)) (Some b)
  means-defined bodies.Label h x r = label-defined h x r
  means-defined bodies.Switch h (def.Switch n) r = (h, n, refl, λ o. switch-reached h n r.unit o r.there r.meets)
  means-defined bodies.Switch h (def.Label l) r = no r.meets
  means-defined bodies.Switch h (def.Proc q) r = no r.meets
  means-defined (bodies.Proc s) h (def.Proc q) r =
      let y = procedure-taken h q r.unit (parameter_kinds (procedure_as s)) (slice_get r.unit.procs q) r.there refl r.meets in
      (h, q, y.0, refl, y.1, y.2)
  means-defined (bodies.Proc s) h (def.Label l) r = no r.meets
  means-defined (bodies.Proc s) h (def.Switch n) r = no r.meets
  means-defined (bodies.Word s) h x r = no r.meets
  means-defined (bodies.Array s dims) h x r = no r.meets
  means-defined (bodies.Table w l es) h x r = no r.meets

  means-none : (g d : ℕ) (u : SourceUnit) (y : Desc) (b : DescBody) → slice_get us g ≡ Some u → slice_get u.descs d ≡ Some y → y.body ≡ b → definition_from y.name 0 us ≡ None → Means p None (Some b)
  means-none g d u y bodies.Label here is b e = absurd (wanted g d u y here is (ap wants_definition b) e)
  means-none g d u y bodies.Switch here is b e = absurd (wanted g d u y here is (ap wants_definition b) e)
  means-none g d u y (bodies.Proc s) here is b e = absurd (wanted g d u y here is (ap wants_definition b) e)
  means-none g d u y (bodies.Word s) here is b e = refl
  means-none g d u y (bodies.Array s dims) here is b e = refl
  means-none g d u y (bodies.Table w l es) here is b e = refl

  means-listed : (g d : ℕ) (u : SourceUnit) (y : Desc) (f : Option (ℕ × Def)) → slice_get us g ≡ Some u → slice_get u.descs d ≡ Some y → definition_from y.name 0 us ≡ f → Means p f (Some y.body)
  means-listed g d u y None here is e = means-none g d u y y.body here is refl e
  means-listed g d u y (Some (h, x)) here is e = means-defined y.body h x (definition g d u y h x here is e)

  no-name : (f : Option (ℕ × Def)) → definition_from [] 0 us ≡ f → f ≡ None
  no-name None e = refl
  no-name (Some (h, x)) e =
      let r = found-there us passed [] h x e in
      let t = r.2 in
      let some : is_empty t.desc.name ≡ false = has-name r.0.descs t.number t.desc (at us passed h r.0 r.1).named t.is in
      absurd (true≢false (ap is_empty t.named ∙ some))

  means-by : (g d : ℕ) (u : SourceUnit) (w : Option Desc) → slice_get us g ≡ Some u → slice_get u.descs d ≡ w → Means p (definition_from (name_in w) 0 us) (body_in w)
  means-by g d u None here is = no-name (definition_from [] 0 us) refl
  means-by g d u (Some y) here is = means-listed g d u y (definition_from y.name 0 us) here is refl

  pub means-agreed : (g d : ℕ) (u : SourceUnit) → slice_get us g ≡ Some u → Means p (definition_of p g d) (body_at u d)
  means-agreed g d u here = subst (λ f. Means p f (body_at u d)) (sym (ap (λ v. definition_for p v d) here)) (means-by g d u (slice_get u.descs d) here refl)
