-- The rules of data, statements, procedures, communicators and texts keep what is known.
use Rattle.std.proofs.Common.{◌≡◌, ℕ, Bool, true, false, List, [], ◌∷◌, ◌++◌, Option, Some, None, subst}
use Rattle.cw_table.specs.declared.table.Row.{Row}
use Rattle.cw_tree.specs.declared.leaf.Position.{Position}
use Rattle.cw_tree.specs.declared.leaf.RawName.{RawName}
use Rattle.cw_tree.specs.declared.expression.RawExpr.{RawExpr}
use Rattle.cw_tree.specs.declared.expression.RawCond.{RawCond}
use Rattle.cw_tree.specs.declared.expression.RawRef.TheVariants as ref_tree
use Rattle.cw_tree.specs.declared.items.RawBase.{RawBase}
use Rattle.cw_tree.specs.declared.items.RawData.{RawData}
use Rattle.cw_tree.specs.declared.statement.RawStmt.{RawStmt}
use Rattle.cw_tree.specs.declared.statement.RawDecl.{RawDecl}
use Rattle.cw_tree.specs.declared.statement.RawForm.TheVariants as form_tree
use Rattle.cw_tree.specs.declared.statement.RawSimple.{RawSimple}
use Rattle.cw_tree.specs.declared.segment.RawCitem.{RawCitem}
use Rattle.cw_tree.specs.declared.segment.RawCitem.TheVariants as citem_tree
use Rattle.cw_tree.specs.declared.segment.RawComm.{RawComm}
use Rattle.cw_grammar.specs.Tokens.{Item, position}
use Rattle.cw_grammar.specs.Grammar.{Sort, Value, Grammar, Rule, bracketed, subscript, indexed, called, located, conditional, if_rest, else_rest, for_rest, block_rest, proc_body, Again}
use Rattle.cw_grammar.specs.Rules.{commas, indexed_name, reference, condition, expr}
use Rattle.cw_grammar.specs.Statements.{semicolons, group, data_table, singles, arrays, item_data, overlay, citem, comm, simple_behind, jump, block_tree, unnamed, simple, if_tree, for_tree, stmt, felem, proc_behind, worded_decl, decl, raw, text}
use Rattle.cw_grammar.specs.Table.{rule, again_rule}
use Rattle.cw_grammar.proofs.Table.{each_again}
use Rattle.cw_scope.specs.declared.resolve.Named.{Named}
use Rattle.cw_scale.specs.Faults.{Judgement, both}
use Rattle.cw_items.specs.declared.families.Site.{Site}
use Rattle.cw_items.specs.declared.thing.Thing.{Thing}
use Rattle.cw_items.specs.Things.{base_at, citem_things, citems_things, communicator_things, communicators_things, block_things}
use Rattle.cw_judge.specs.Declarations.{declared_judged, common_base_judged, common_overlaid_judged}
use Rattle.cw_judge.specs.Judged.{citem_judged, citems_judged, communicator_judged, communicators_judged}
use Rattle.cw_preset.specs.Strings.{Rows, expression_rows, condition_rows}
use Rattle.cw_preset.specs.Held.{citem_rows, citems_rows, communicator_rows, communicators_rows, block_rows}
use Rattle.cw_sound.proofs.Items.Lists.{each-append, each-left, each-right}
use Rattle.cw_sound.proofs.Presets.Small.{RowsSmall, rows_append}
use Rattle.cw_sound.proofs.Presets.Frames.{HasName, Told, Held, DataHeld, singles_held, arrays_held, table_held}
use Rattle.cw_sound.proofs.Presets.Trees.{FormHeld, SimpleHeld, BlockHeld, StmtHeld, empty_held, assign_held, assign_bits_held, goto_held, goto_switch_held, call_held, answer_held, inner_held, if_held, else_held, for_held, labelled_held, form_alone, simple_alone, data_held, overlay_held, switch_held, proc_held, block_held}
use Rattle.cw_sound.proofs.Presets.Expressions.{joined_small, name_small, index_small, bare_small, reference_keeps, condition_keeps, expr_keeps}
use Rattle.cw_sound.proofs.Presets.Good.{CitemHeld, CommHeld, TextHeld, Good, Given, Keeps, given_good}
use Rattle.cw_tokens.proofs.Kept.{OfOption}
use Rattle.cw_sound.proofs.Items.Keeping.{keeps_declared, keeps_citems, keeps_communicators}
use Rattle.cw_sound.proofs.Expressions.Judging as judging
use Rattle.cw_sound.proofs.Expressions.Judging.{NoFault, both_free}
use Rattle.cw_macro.specs.Premises.{Each}

module _ (names : Named) (sites : List (Row Site)) (absolute : List (Row ℕ)) where
  abbrev Keep : {s : Sort} → Grammar s → Type 0
  Keep g = Keeps names sites absolute g

  taken : {s : Sort} (g : Grammar s) (x : Value s) → Given names sites absolute g x → Good names sites absolute s x
  taken g x h = given_good names sites absolute g x h

  expression : Keep expr
  expression = expr_keeps names sites absolute

  test : Keep condition
  test = condition_keeps names sites absolute

  referred : Keep reference
  referred = reference_keeps names sites absolute

  -- ---- data

  group_keeps : Keep group
  unfolding group
  group_keeps = (tt, λ x h s. subst HasName s.0.1 tt)

  singles_keep : Keep singles
  unfolding singles
  singles_keep = (tt, λ x h _ t k. singles_held sites t x.0 x.1)

  groups_keep : Keep (commas group)
  groups_keep = ((group_keeps, ((tt, group_keeps), λ x h _. taken group x.1 h.1)), λ x h _. (taken group x.0 h.0, h.1))

  arrays_keep : Keep arrays
  unfolding arrays
  arrays_keep = (((tt, (groups_keep, tt)), λ x h _. (h.1.0, h.1.1)), λ x h _ t k. arrays_held sites t x.0 x.1 h.0)

  table_keeps : Keep data_table
  unfolding data_table
  table_keeps = (tt, λ x h _. table_held sites (record { at = position x.0; name = x.1.0; size = x.1.1.0; elems = x.1.1.1.0.0 }) x.1.1.1.0.1 x.1.1.1.1)

  item_keeps : Keep item_data
  unfolding item_data
  item_keeps = (((tt, (singles_keep, arrays_keep)), λ x h _. h.1 x.0 tt), table_keeps)

  overlay_keeps : Keep overlay
  unfolding overlay
  overlay_keeps = (tt, (tt, ((tt, item_keeps), λ x h _. taken item_data x.1 h.1)))

  -- ---- communicators

  on_base : (b : RawBase) (d : RawData) → common_overlaid_judged names sites absolute b d None ≡ None → declared_judged sites d None ≡ None
  unfolding common_overlaid_judged
  on_base b d free = (both_free (common_base_judged names absolute b) (declared_judged sites d) (keeps_declared sites d) free).1

  data_citem : (d : RawData) → DataHeld sites d → CitemHeld names sites absolute (citem_tree.Data d)
  data_citem d h free told = h None None free told

  overlay_citem : (at : Position) (b : RawBase) (d : RawData) → DataHeld sites d → CitemHeld names sites absolute (citem_tree.Overlay at b d)
  overlay_citem at b d h free told = h None (Some (base_at names b)) (on_base b d free) told

  citem_keeps : Keep citem
  unfolding citem
  citem_keeps = (
    (
      (tt, ((singles_keep, λ f h _ t k. data_citem (f t) (taken singles f h t tt)), ((arrays_keep, λ f h _ t k. data_citem (f t) (taken arrays f h t tt)), (tt, λ f h _ t k free told. tt)))),
      λ x h _. h.1 x.0 tt,
    ),
    (
      (table_keeps, λ d h _. data_citem d (taken data_table d h)),
      (
        (overlay_keeps, λ x h _. overlay_citem (position x.0) x.1.0 x.1.1 (taken overlay x h).1.1),
        ((tt, λ x h _ free told. tt), ((tt, λ x h _ free told. tt), (tt, λ f h _ free told. tt))),
      ),
    ),
  )

  two_held : (j k : Judgement) (ts us : List Thing) (rs ss : Rows) → judging.Keeps k → (NoFault j → Each (Told sites) ts → Each (Held sites) rs) → (NoFault k → Each (Told sites) us → Each (Held sites) ss)
      → NoFault (both j k) → Each (Told sites) (ts ++ us) → Each (Held sites) (rs ++ ss)
  two_held j k ts us rs ss keeps f g free told =
      let frees = both_free j k keeps free in
      each-append (Held sites) rs ss (f frees.0 (each-left (Told sites) ts us told)) (g frees.1 (each-right (Told sites) ts us told))

  citems_held : (is : List RawCitem) → Each (CitemHeld names sites absolute) is → citems_judged names sites absolute is None ≡ None → Each (Told sites) (citems_things names is) → Each (Held sites) (citems_rows is)
  citems_held [] h free told = tt
  citems_held (i ∷ is) h free told =
      two_held (citem_judged names sites absolute i) (citems_judged names sites absolute is) (citem_things names i) (citems_things names is) (citem_rows i) (citems_rows is) (keeps_citems names sites absolute is) h.0 (citems_held is h.1) free told

  citems_keep : Keep (semicolons citem)
  citems_keep = ((citem_keeps, ((tt, citem_keeps), λ x h _. taken citem x.1 h.1)), λ x h _. (taken citem x.0 h.0, h.1))

  comm_keeps : Keep comm
  unfolding comm
  comm_keeps = (
    ((tt, ((tt, ((citems_keep, tt), λ x h _. h.0)), λ x h _. h.1)), λ x h _. citems_held x.1 h.1),
    ((tt, λ x h _ free told. tt), (tt, λ x h _ free told. tt)),
  )

  comms_held : (cs : List RawComm) → Each (CommHeld names sites absolute) cs → communicators_judged names sites absolute cs None ≡ None → Each (Told sites) (communicators_things names cs) → Each (Held sites) (communicators_rows cs)
  comms_held [] h free told = tt
  comms_held (c ∷ cs) h free told =
      two_held (communicator_judged names sites absolute c) (communicators_judged names sites absolute cs) (communicator_things names c) (communicators_things names cs) (communicator_rows c) (communicators_rows cs)
      (keeps_communicators names sites absolute cs) h.0 (comms_held cs h.1) free told

  -- ---- statements

  jump_held : (t : Item) (f : RawName) (o : Option (Item × RawExpr)) → OfOption (λ y. Unit {0} × RowsSmall (expression_rows y.1)) o → SimpleHeld names sites (jump t f o)
  jump_held t f None h = goto_held names sites (position t) f
  jump_held t f (Some y) h = goto_switch_held names sites (position t) f y.1 h.1

  form_held : (t : Item) (c : RawCond) (ls : List RawName) (s : RawSimple) (o : Option RawStmt) → RowsSmall (condition_rows c) → SimpleHeld names sites s → OfOption (λ y. StmtHeld names sites y) o → FormHeld names sites (form_tree.If (position t) c ls s o)
  form_held t c ls s None h k l = if_held names sites (position t) c ls s h k
  form_held t c ls s (Some x) h k l = else_held names sites (position t) c ls s x h k l

  behind_keeps : Keep simple_behind
  unfolding simple_behind
  behind_keeps = (
    (((tt, expression), λ x h _. taken expr x.1 h.1), λ e h _ n k. assign_held names sites (ref_tree.Name n) e (name_small n) h),
    (
      ((tt, ((tt, expression), λ x h _. taken expr x.1 h.1)), λ x h _ n k. assign_held names sites (indexed_name n x.0.1.0 x.0.1.1) x.1 (index_small n x.0.1.0 x.0.1.1 h.0.0 h.0.1) h.1),
      ((tt, λ x h _ n k. call_held names sites n x.1 (joined_small expression_rows x.1 h)), λ n k. call_held names sites n [] tt),
    ),
  )

  unnamed_keeps : (p : Bool) → Keep (unnamed p)
  unfolding unnamed
  unnamed_keeps p = (
    ((tt, ((tt, expression), λ x h _. taken expr x.1 h.1)), λ x h _. assign_held names sites (ref_tree.Bare (position x.0.0) x.0.1) x.1 (bare_small (position x.0.0) x.0.1 h.0) h.1),
    (
      ((tt, (referred, ((tt, expression), λ x h _. taken expr x.1 h.1))), λ x h _. assign_bits_held names sites x.0 x.1.0 x.1.1 (taken reference x.1.0 h.1.0) h.1.1),
      (
        ((tt, (tt, ((tt, λ x h _. (tt, h)), tt))), λ x h _. jump_held x.0 x.1.0 x.1.1 h.1.1),
        (
          ((tt, expression), λ x h _. answer_held names sites (position x.0) x.1 (taken expr x.1 h.1)),
          ((tt, λ x h _. inner_held names sites (block_tree x.0 x.1.0 x.1.1) (block_held names sites x.0 x.1.0 x.1.1 h.0 h.1)), empty_held names sites),
        ),
      ),
    ),
  )

  simple_keeps : (p : Bool) → Keep (simple p)
  unfolding simple
  simple_keeps p = (
    ((tt, ((((tt, tt), λ x h _. h.1), λ x h _ n k. ((tt, h.0), h.1)), (behind_keeps, λ f h _ n k. (tt, taken simple_behind f h n tt)))), λ x h _. h.1 x.0 tt),
    (unnamed_keeps p, λ s h _. (tt, taken (unnamed p) s h)),
  )

  stmt_keeps : (p : Bool) → Keep (stmt p)
  unfolding stmt
  stmt_keeps p = (
    ((tt, ((((tt, tt), λ x h _. h.1), λ s h _ n k. labelled_held names sites n s h), (behind_keeps, λ f h _ n k. simple_alone names sites (f n) (taken simple_behind f h n tt)))), λ x h _. h.1 x.0 tt),
    (
      (tt, λ x h _. form_alone names sites (if_tree x.0 x.1) (form_held x.0 x.1.0 x.1.1.0.0 x.1.1.0.1 x.1.1.1 h.0 h.1.0.1 h.1.1)),
      (
        (tt, λ x h _. form_alone names sites (for_tree x.0 x.1) (for_held names sites (position x.0) x.1.0 x.1.1.0 x.1.1.1 h.0 h.1.0 h.1.1)),
        (unnamed_keeps p, λ s h _. simple_alone names sites s (taken (unnamed p) s h)),
      ),
    ),
  )

  felem_keeps : Keep felem
  unfolding felem
  felem_keeps = (
    (
      expression,
      (
        (((tt, test), λ x h _. taken condition x.1 h.1), λ c h _ e k. rows_append (expression_rows e) (condition_rows c) k h),
        (
          (
            ((tt, (expression, ((tt, expression), λ x h _. taken expr x.1 h.1))), λ x h _. (taken expr x.1.0 h.1.0, h.1.1)),
            λ x h _ e k. rows_append (expression_rows e) (expression_rows x.0 ++ expression_rows x.1) k (rows_append (expression_rows x.0) (expression_rows x.1) h.0 h.1),
          ),
          λ e k. k,
        ),
      ),
    ),
    λ x h _. h.1 x.0 (taken expr x.0 h.0),
  )

  -- ---- procedures and blocks

  proc_keeps : Keep proc_behind
  unfolding proc_behind
  proc_keeps = ((tt, (tt, (tt, tt))), λ x h _ t k. proc_held names sites t x.0 x.1.0 x.1.1.0 x.1.1.1.1 h.1.1.1)

  worded_keeps : Keep worded_decl
  unfolding worded_decl
  worded_keeps = (
    (table_keeps, λ d h _. data_held names sites d (taken data_table d h)),
    ((overlay_keeps, λ x h _. overlay_held names sites (position x.0) x.1.0 x.1.1 (taken overlay x h).1.1), (tt, λ x h _. switch_held names sites (position x.0) x.1.0 x.1.1)),
  )

  decl_keeps : (p : Bool) → Keep (decl p)
  unfolding decl
  decl_keeps true = (
    (
      (tt, ((singles_keep, λ f h _ t k. data_held names sites (f t) (taken singles f h t tt)), (arrays_keep, λ f h _ t k. data_held names sites (f t) (taken arrays f h t tt)))),
      λ x h _. h.1 x.0 tt,
    ),
    worded_keeps,
  )
  decl_keeps false = (
    (
      (
        tt,
        (
          (singles_keep, λ f h _ t k. data_held names sites (f t) (taken singles f h t tt)),
          ((arrays_keep, λ f h _ t k. data_held names sites (f t) (taken arrays f h t tt)), (proc_keeps, λ f h _ t k. taken proc_behind f h (Some t) tt)),
        ),
      ),
      λ x h _. h.1 x.0 tt,
    ),
    (worded_keeps, (proc_keeps, λ f h _. taken proc_behind f h None tt)),
  )

  pub rule_keeps : {s : Sort} (r : Rule s) → Keep (rule r)
  unfolding rule
  rule_keeps bracketed = ((expression, tt), λ x h _. taken expr x.0 h.0)
  rule_keeps subscript = ((expression, tt), λ x h _. taken expr x.0 h.0)
  rule_keeps indexed = (expression, ((((((tt, expression), λ x h _. taken expr x.1 h.1), λ x h _. h), tt), tt), λ x h _. h.0))
  rule_keeps called = (
    (((expression, ((tt, expression), λ x h _. taken expr x.1 h.1)), λ x h _. (taken expr x.0 h.0, h.1)), tt),
    λ x h _. h.0,
  )
  rule_keeps located = ((referred, tt), λ x h _. taken reference x.0 h.0)
  rule_keeps conditional = (
    test,
    (((tt, expression), λ x h _. taken expr x.1 h.1), ((tt, expression), λ x h _. taken expr x.1 h.1)),
  )
  rule_keeps (if_rest p) = (test, (((tt, tt), λ x h _. h.1), (((tt, λ x h _. h), λ x h _. h), tt)))
  rule_keeps (else_rest p) = tt
  rule_keeps (for_rest p) = (
    referred,
    (
      ((tt, ((felem_keeps, ((tt, felem_keeps), λ x h _. taken felem x.1 h.1)), λ x h _. (taken felem x.0 h.0, h.1))), λ x h _. h.1),
      ((tt, tt), λ x h _. h.1),
    ),
  )
  rule_keeps (block_rest p) = (((decl_keeps p, tt), λ x h _. taken (decl p) x.0 h.0), ((((tt, ((tt, tt), λ x h _. h.1)), λ x h _. (h.0, h.1)), tt), λ x h _. h.0))
  rule_keeps proc_body = tt

  pub again_keeps : {s : Sort} (a : Again s) → Keep (again_rule a)
  unfolding again_rule
  again_keeps = each_again (λ s a. Keep (again_rule a)) stmt_keeps simple_keeps tt tt

  whole_held : (cs : List RawComm) (n : RawName) (b : Item × (List RawDecl × List RawStmt)) (finish : Item) → Each (CommHeld names sites absolute) cs → BlockHeld names sites (block_tree b.0 b.1.0 b.1.1) → TextHeld names sites absolute (raw cs n b finish)
  whole_held cs n b finish h k comms block told =
      let whole = block_tree b.0 b.1.0 b.1.1 in
      each-append (Held sites) (communicators_rows cs) (block_rows whole) (comms_held cs h comms (each-left (Told sites) (communicators_things names cs) (block_things names whole None) told))
      (k None block (each-right (Told sites) (communicators_things names cs) (block_things names whole None) told))

  pub text_keeps : Keep text
  unfolding text
  text_keeps = ((((comm_keeps, tt), λ x h _. taken comm x.0 h.0), (tt, (tt, tt))), λ x h _. whole_held x.0 x.1.0 x.1.1.0 x.1.1.1 h.0 (block_held names sites x.1.1.0.0 x.1.1.0.1.0 x.1.1.0.1.1 h.1.1.0.0 h.1.1.0.1))
