-- What a mention adds to a row.
use Rattle.std.proofs.Common.{get_or-set_same, get_or-set_other, ◌≡◌, ℕ, ◌+◌, ◌<◌, ◌⊎◌, List, [], ◌∷◌, ◌++◌, length, inl, inr, refl, sym, ◌∙◌, ap, subst, arith, Option, Some, None, slice_index, length-append, append-nil}
use Rattle.std.specs.Prelude.{slice_get}
use Rattle.std.proofs.lemmas.Option.{none-some, same_Some}
use Rattle.std.proofs.lemmas.Bool.{cases_eq}
use Rattle.std.proofs.Math.ListN.{get_or-append, set}
use Rattle.std.proofs.Math.Seq.{get_or-append_seam}
use Rattle.cw_unit.specs.declared.unit.Unit.{Unit as SourceUnit}
use Rattle.cw_unit.specs.declared.unit.Proc.{Proc}
use Rattle.cw_unit.specs.declared.descriptor.Spec.{Spec}
use Rattle.cw_keyed.specs.declared.specifications.Specifications.{Specifications}
use Rattle.cw_keyed.specs.Numbered.{number_of, Keeps}
use Rattle.cw_depth.specs.declared.node.Node.{Node}
use Rattle.cw_depth.specs.declared.mention.Mention.{Mention}
use Rattle.cw_depth.specs.declared.mention.Mention.TheVariants as mention
use Rattle.cw_graph.specs.Rows.{StandsIn, row_of}
use Rattle.cw_depth.specs.CallGraph.{segment_of, mentions_of, procedure_at, called_by, named_by, parameter_of, spec_of}
use Rattle.cw_depth.specs.Numbering.{nodes_of, first_number, IsNumbered}
use Rattle.cw_depth.specs.Building.{IsHead, Gives, by_call, by_parameter, HasGiven, IsRowFor, Adds, number_if, listed, AreRows, Place, Joins, JoinGroups, IsGroup}
use Rattle.cw_graph.proofs.Places.{stands_before, stands_last}

-- ---- heads

pub extends_same : (heads : Specifications) → Keeps heads heads
extends_same heads s n e = e

pub extends_then : (a b c : Specifications) → Keeps a b → Keeps b c → Keeps a c
extends_then a b c keeps more s n e = more s n (keeps s n e)

-- ---- rows that grow by a list

stands_cases : (xs : List ℕ) (y x : ℕ) → StandsIn (xs ++ y ∷ []) x → StandsIn xs x ⊎ (x ≡ y)
stands_cases xs y x (k, (low, is)) =
    let low' : k < length xs + 1 = rw length-append at low in
    elim (cases_eq k (length xs)) [
      | inl e ↦ inr (sym is ∙ ap (λ i. slice_index (xs ++ y ∷ []) i) e ∙ get_or-append_seam xs y [] 0)
      | inr ne ↦ let inside : k < length xs = omega arith in inl (k, (inside, sym (get_or-append xs (y ∷ []) 0 k inside) ∙ is))
    ]

-- ---- what each kind of mention adds

pub adds_nothing : (us : List SourceUnit) (heads : Specifications) (a : Node) (m : Mention) (row : List ℕ) → called_by us (segment_of a) m ≡ None → ((k : ℕ) (s : Spec) → m ≡ mention.Parameter k → parameter_of us a k ≡ Some s → ⊥) → Adds us heads heads a m row row
adds_nothing us heads a m row none never = record {
  extends = extends_same heads;
  kept = λ x s. s;
  given = record { by_call = λ g q p e. absurd (none-some (g, q) (sym none ∙ e)); by_parameter = λ k s e is. absurd (never k s e is) };
  only = λ x s. inl s;
}

adds_place : (us : List SourceUnit) (heads : Specifications) (a : Node) (m : Mention) (row : List ℕ) (g q : ℕ) (o : Option Proc) → procedure_at us g q ≡ o → called_by us (segment_of a) m ≡ Some (g, q) → ((k : ℕ) → m ≡ mention.Parameter k → ⊥) → Adds us heads heads a m row (row ++ number_if us g q o)
adds_place us heads a m row g q None there is call = subst (λ (xs : List ℕ). Adds us heads heads a m row xs) (sym (append-nil row)) (record {
  extends = extends_same heads;
  kept = λ x s. s;
  given = record {
    by_call = λ h r p e at'. absurd (none-some p (sym there ∙ ap (λ (place : ℕ × ℕ). procedure_at us place.0 place.1) (same_Some (g, q) (h, r) (sym is ∙ e)) ∙ at'));
    by_parameter = λ k s e there. absurd (call k e);
  };
  only = λ x s. inl s;
})
adds_place us heads a m row g q (Some p) there is call = record {
  extends = extends_same heads;
  kept = λ x s. stands_before row (first_number us g + q) x s;
  given = record {
    by_call = λ h r p' e at'. subst (λ (place : ℕ × ℕ). StandsIn (row ++ (first_number us g + q) ∷ []) (first_number us place.0 + place.1)) (same_Some (g, q) (h, r) (sym is ∙ e)) (stands_last row (first_number us g + q));
    by_parameter = λ k s e there. absurd (call k e);
  };
  only = λ x s. elim (stands_cases row (first_number us g + q) x s) [ inl old ↦ inl old | inr e ↦ inr (by_call g q p is there e) ];
}

pub adds_call : (us : List SourceUnit) (heads : Specifications) (a : Node) (m : Mention) (row row' : List ℕ) (o : Option (ℕ × ℕ)) → o ≡ called_by us (segment_of a) m → ((k : ℕ) → m ≡ mention.Parameter k → ⊥) → row' ≡ row ++ listed us o → Adds us heads heads a m row row'
adds_call us heads a m row row' None is call e = subst (λ (xs : List ℕ). Adds us heads heads a m row xs) (sym (e ∙ append-nil row)) (adds_nothing us heads a m row (sym is) (λ k s f t. call k f))
adds_call us heads a m row row' (Some (g, q)) is call e = subst (λ (xs : List ℕ). Adds us heads heads a m row xs) (sym e) (adds_place us heads a m row g q (procedure_at us g q) refl (sym is) call)

pub adds_parameter : (us : List SourceUnit) (heads heads' : Specifications) (a : Node) (k j : ℕ) (s : Spec) (row row' : List ℕ) → parameter_of us a k ≡ Some s → Keeps heads heads' → IsHead heads' j s → row' ≡ row ++ (length (nodes_of us) + j) ∷ [] → Adds us heads heads' a (mention.Parameter k) row row'
adds_parameter us heads heads' a k j s row row' is extends head e = subst (λ (xs : List ℕ). Adds us heads heads' a (mention.Parameter k) row xs) (sym e) (record {
  extends = extends;
  kept = λ x st. stands_before row (length (nodes_of us) + j) x st;
  given = record {
    by_call = λ g q p f. absurd (none-some (g, q) f);
    by_parameter = λ k' s' f is'.
        let same : k ≡ k' = cc in
        let spec : s ≡ s' = same_Some s s' (sym is ∙ ap (parameter_of us a) same ∙ is') in
        (j, (subst (λ (t : Spec). IsHead heads' j t) spec head, stands_last row (length (nodes_of us) + j)));
  };
  only = λ x st. elim (stands_cases row (length (nodes_of us) + j) x st) [ inl old ↦ inl old | inr f ↦ inr (by_parameter k j s refl is head f) ];
})

pub listed_is : (us : List SourceUnit) (place : Option (ℕ × ℕ)) (g q n : ℕ) (p : Proc) → place ≡ Some (g, q) → procedure_at us g q ≡ Some p → n ≡ first_number us g → listed us place ≡ (n + q) ∷ []
listed_is us place g q n p e there is = ap (listed us) e ∙ ap (number_if us g q) there ∙ ap (λ x. (x + q) ∷ []) (sym is)

pub adds_own : (us : List SourceUnit) (heads : Specifications) (a : Node) (g q : ℕ) (row row' : List ℕ) → g ≡ segment_of a → row' ≡ row ++ listed us (Some (g, q)) → Adds us heads heads a (mention.Own q) row row'
adds_own us heads a g q row row' is e = adds_call us heads a (mention.Own q) row row' (Some (g, q)) (ap (λ (h : ℕ). Some (h, q)) is) (λ k f. cc) e

pub adds_common : (us : List SourceUnit) (heads : Specifications) (a : Node) (g d : ℕ) (o : Option (ℕ × ℕ)) (row row' : List ℕ) → g ≡ segment_of a → o ≡ named_by us (slice_get us g) d → row' ≡ row ++ listed us o → Adds us heads heads a (mention.Common d) row row'
adds_common us heads a g d o row row' is named e = adds_call us heads a (mention.Common d) row row' o (named ∙ ap (λ (h : ℕ). named_by us (slice_get us h) d) is) (λ k f. cc) e

-- ---- rows

given_more : (us : List SourceUnit) (heads heads' : Specifications) (a : Node) (row row' : List ℕ) (m : Mention) → Keeps heads heads' → ((x : ℕ) → StandsIn row x → StandsIn row' x) → HasGiven us heads a row m → HasGiven us heads' a row' m
given_more us heads heads' a row row' m extends kept given = record {
  by_call = λ g q p e there. kept (first_number us g + q) (given.by_call g q p e there);
  by_parameter = λ k s e is. let (j, (head, stands)) = given.by_parameter k s e is in (j, (extends s j head, kept (length (nodes_of us) + j) stands));
}

gives_more : (us : List SourceUnit) (heads heads' : Specifications) (a : Node) (m : Mention) (x : ℕ) → Keeps heads heads' → Gives us heads a m x → Gives us heads' a m x
gives_more us heads heads' a m x extends (by_call g q p e there is) = by_call g q p e there is
gives_more us heads heads' a m x extends (by_parameter k j s e is head at') = by_parameter k j s e is (extends s j head) at'

pub row_kept : (us : List SourceUnit) (heads heads' : Specifications) (a : Node) (row : List ℕ) (n : ℕ) → Keeps heads heads' → IsRowFor us heads a row n → IsRowFor us heads' a row n
row_kept us heads heads' a row n extends r = record {
  all = λ k m low e. given_more us heads heads' a row row m extends (λ x s. s) (r.all k m low e);
  only = λ x s. let (m, (there, gives)) = r.only x s in (m, (there, gives_more us heads heads' a m x extends gives));
}

pub row_more : (us : List SourceUnit) (heads heads' : Specifications) (a : Node) (m : Mention) (row row' : List ℕ) (n : ℕ) → slice_get (mentions_of us a) n ≡ Some m → IsRowFor us heads a row n → Adds us heads heads' a m row row' → IsRowFor us heads' a row' (n + 1)
row_more us heads heads' a m row row' n at' r adds = record {
  all = λ k m' low e. elim (cases_eq k n) [
    | inl same ↦ subst (λ (x : Mention). HasGiven us heads' a row' x) (same_Some m m' (sym at' ∙ ap (slice_get (mentions_of us a)) (sym same) ∙ e)) adds.given
    | inr ne ↦ given_more us heads heads' a row row' m' adds.extends adds.kept (r.all k m' (omega arith) e)
  ];
  only = λ x s. elim (adds.only x s) [
    | inl old ↦ let (m', (there, gives)) = r.only x old in (m', (there, gives_more us heads heads' a m' x adds.extends gives))
    | inr gives ↦ (m, ((n, at'), gives))
  ];
}

row_at_end : (rows : List (List ℕ)) (row : List ℕ) → row_of (rows ++ row ∷ []) (length rows) ≡ row
row_at_end rows row = get_or-append_seam rows row [] []

row_before : (rows : List (List ℕ)) (row : List ℕ) (n : ℕ) → n < length rows → row_of (rows ++ row ∷ []) n ≡ row_of rows n
row_before rows row n low = get_or-append rows (row ∷ []) [] n low

pub rows_more : (us : List SourceUnit) (heads heads' : Specifications) (rows rows' : List (List ℕ)) (row : List ℕ) (a : Node) → Keeps heads heads' → AreRows us heads rows → IsNumbered us (length rows) a → IsRowFor us heads' a row (length (mentions_of us a)) → rows' ≡ rows ++ row ∷ [] → AreRows us heads' rows'
rows_more us heads heads' rows rows' row a extends are e one same n b low f =
    let low' : n < length rows + 1 = rw (same, length-append) at low in
    elim (cases_eq n (length rows)) [
      | inl at' ↦
          let node : a ≡ b = same_Some a b (sym e ∙ ap (slice_get (nodes_of us)) (sym at') ∙ f) in
          let row-is : row ≡ row_of rows' n = sym (row_at_end rows row) ∙ ap (λ xs. row_of xs (length rows)) (sym same) ∙ ap (row_of rows') (sym at') in
          subst (λ (xs : List ℕ). IsRowFor us heads' b xs (length (mentions_of us b))) row-is (subst (λ (x : Node). IsRowFor us heads' x row (length (mentions_of us x))) node one)
      | inr ne ↦
          let inside : n < length rows = omega arith in
          let row-is : row_of rows n ≡ row_of rows' n = sym (row_before rows row n inside) ∙ ap (λ xs. row_of xs n) (sym same) in
          subst (λ (xs : List ℕ). IsRowFor us heads' b xs (length (mentions_of us b))) row-is (row_kept us heads heads' b (row_of rows n) (length (mentions_of us b)) extends (are n b inside f))
    ]

-- ---- groups

pub group_more : (us : List SourceUnit) (handed : List Place) (heads : Specifications) (j : ℕ) (row row' : List ℕ) (n g q : ℕ) → slice_get handed n ≡ Some (g, q) → IsGroup us handed heads j row n → Joins us heads g q j row row' → IsGroup us handed heads j row' (n + 1)
group_more us handed heads j row row' n g q at' r joins = record {
  all = λ i h t p low e there head. elim (cases_eq i n) [
    | inl same ↦
        let place : ◌≡◌ {A = ℕ × ℕ} (g, q) (h, t) = same_Some (g, q) (h, t) (sym at' ∙ ap (slice_get handed) (sym same) ∙ e) in
        subst (λ (x : ℕ × ℕ). StandsIn row' (first_number us x.0 + x.1)) place (joins.all p (ap (λ (x : ℕ × ℕ). procedure_at us x.0 x.1) place ∙ there) head)
    | inr ne ↦ joins.kept (first_number us h + t) (r.all i h t p (omega arith) e there head)
  ];
  only = λ x st. elim (joins.only x st) [
    | inl old ↦ r.only x old
    | inr new ↦ let (p, (there, (head, is))) = new in (n, (g, (q, (p, (at', (there, (head, is)))))))
  ];
}

joins_same : (us : List SourceUnit) (heads : Specifications) (g q j : ℕ) (row : List ℕ) → ((p : Proc) → procedure_at us g q ≡ Some p → IsHead heads j (spec_of p) → ⊥) → Joins us heads g q j row row
joins_same us heads g q j row never = record {
  kept = λ x st. st;
  all = λ p there head. absurd (never p there head);
  only = λ x st. inl st;
}

joins_own : (us : List SourceUnit) (heads : Specifications) (g q j : ℕ) (p : Proc) (row : List ℕ) → procedure_at us g q ≡ Some p → IsHead heads j (spec_of p) → Joins us heads g q j row (row ++ (first_number us g + q) ∷ [])
joins_own us heads g q j p row there head = record {
  kept = λ x st. stands_before row (first_number us g + q) x st;
  all = λ p' there' head'. stands_last row (first_number us g + q);
  only = λ x st. elim (stands_cases row (first_number us g + q) x st) [ inl old ↦ inl old | inr e ↦ inr (p, (there, (head, e))) ];
}

pub no_procedure : (us : List SourceUnit) (heads : Specifications) (g q : ℕ) (groups : List (List ℕ)) → procedure_at us g q ≡ None → JoinGroups us heads g q groups groups
no_procedure us heads g q groups none j = joins_same us heads g q j (row_of groups j) (λ p there head. none-some p (sym none ∙ there))

no_head : (us : List SourceUnit) (heads : Specifications) (g q j : ℕ) (p : Proc) (o : Option ℕ) (row : List ℕ) → procedure_at us g q ≡ Some p → number_of heads (spec_of p) ≡ o → (o ≡ Some j → ⊥) → Joins us heads g q j row row
no_head us heads g q j p o row there number other = joins_same us heads g q j row (λ p' there' head.
    let same : p ≡ p' = same_Some p p' (sym there ∙ there') in
    other (sym number ∙ ap (λ (z : Proc). number_of heads (spec_of z)) same ∙ head))

pub one_group : (us : List SourceUnit) (heads : Specifications) (g q h n : ℕ) (p : Proc) (groups groups' : List (List ℕ)) → procedure_at us g q ≡ Some p → number_of heads (spec_of p) ≡ Some h → n ≡ first_number us g + q → h < length groups → groups' ≡ set groups h (row_of groups h ++ n ∷ []) → JoinGroups us heads g q groups groups'
one_group us heads g q h n p groups groups' there number is-number low same j =
    elim (cases_eq j h) [
      | inl at' ↦
          let is : row_of groups' j ≡ row_of groups j ++ (first_number us g + q) ∷ [] = ap (row_of groups') at' ∙ ap (λ (gs : List (List ℕ)). row_of gs h) same ∙ get_or-set_same groups h (row_of groups h ++ n ∷ []) [] low ∙ ap (λ (i : ℕ). row_of groups h ++ i ∷ []) is-number ∙ ap (λ (i : ℕ). row_of groups i ++ (first_number us g + q) ∷ []) (sym at') in
          subst (λ (xs : List ℕ). Joins us heads g q j (row_of groups j) xs) (sym is) (joins_own us heads g q j p (row_of groups j) there (number ∙ ap (λ (i : ℕ). Some i) (sym at')))
      | inr ne ↦
          let is : row_of groups' j ≡ row_of groups j = ap (λ (gs : List (List ℕ)). row_of gs j) same ∙ get_or-set_other groups h j (row_of groups h ++ n ∷ []) [] ne in
          subst (λ (xs : List ℕ). Joins us heads g q j (row_of groups j) xs) (sym is) (no_head us heads g q j p (Some h) (row_of groups j) there number (λ e. ne (sym (same_Some h j e))))
    ]
