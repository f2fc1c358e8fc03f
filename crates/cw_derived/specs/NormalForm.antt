-- Trees in normal form, by the shapes that a tree may have, with what a tree tells of where its parts stand.
use Rattle.std.specs.Prelude.{◌≡◌, ℕ, suc, ◌*◌, Bool, true, false, List, [], ◌∷◌, ◌++◌, Option, Some, None}
use Rattle.cw_word.specs.Number.{IsNumber}
use Rattle.cw_tree.specs.declared.leaf.Position.{Position}
use Rattle.cw_tree.specs.declared.leaf.RawName.{RawName}
use Rattle.cw_tree.specs.declared.leaf.RawNumber.{RawNumber}
use Rattle.cw_tree.specs.declared.leaf.RawOctal.{RawOctal}
use Rattle.cw_tree.specs.declared.leaf.RawLiteral.{RawLiteral}
use Rattle.cw_tree.specs.declared.leaf.RawInt.{RawInt}
use Rattle.cw_tree.specs.declared.leaf.RawInt.TheVariants as int_tree
use Rattle.cw_tree.specs.declared.leaf.RawSint.{RawSint}
use Rattle.cw_tree.specs.declared.leaf.RawSize.{RawSize}
use Rattle.cw_tree.specs.declared.leaf.RawType.{RawType}
use Rattle.cw_tree.specs.declared.leaf.RawType.TheVariants as type_tree
use Rattle.cw_tree.specs.declared.leaf.RawSign.{RawSign}
use Rattle.cw_tree.specs.declared.leaf.RawFactorSign.{RawFactorSign}
use Rattle.cw_tree.specs.declared.leaf.RawCompareSign.{RawCompareSign}
use Rattle.cw_tree.specs.declared.expression.RawBits.{RawBits}
use Rattle.cw_tree.specs.declared.expression.RawExpr.{RawExpr}
use Rattle.cw_tree.specs.declared.expression.RawExpr.TheVariants as expr_tree
use Rattle.cw_tree.specs.declared.expression.RawCond.{RawCond}
use Rattle.cw_tree.specs.declared.expression.RawCand.{RawCand}
use Rattle.cw_tree.specs.declared.expression.RawCmp.{RawCmp}
use Rattle.cw_tree.specs.declared.expression.RawSum.{RawSum}
use Rattle.cw_tree.specs.declared.expression.RawTerm.{RawTerm}
use Rattle.cw_tree.specs.declared.expression.RawDiffer.{RawDiffer}
use Rattle.cw_tree.specs.declared.expression.RawUnion.{RawUnion}
use Rattle.cw_tree.specs.declared.expression.RawMask.{RawMask}
use Rattle.cw_tree.specs.declared.expression.RawPrim.{RawPrim, roll-RawPrim}
use Rattle.cw_tree.specs.declared.expression.RawPrimary.{RawPrimary}
use Rattle.cw_tree.specs.declared.expression.RawPrimary.TheVariants as primary_tree
use Rattle.cw_tree.specs.declared.expression.RawRef.{RawRef}
use Rattle.cw_tree.specs.declared.expression.RawRef.TheVariants as ref_tree
use Rattle.cw_tree.specs.declared.items.RawPlace.{RawPlace}
use Rattle.cw_tree.specs.declared.items.RawPlace.TheVariants as place_tree
use Rattle.cw_tree.specs.declared.items.RawPresets.{RawPresets}
use Rattle.cw_tree.specs.declared.items.RawRange.{RawRange}
use Rattle.cw_tree.specs.declared.items.RawBounds.{RawBounds}
use Rattle.cw_tree.specs.declared.items.RawGroup.{RawGroup}
use Rattle.cw_tree.specs.declared.items.RawElem.{RawElem}
use Rattle.cw_tree.specs.declared.items.RawElem.TheVariants as elem_tree
use Rattle.cw_tree.specs.declared.items.RawTable.{RawTable}
use Rattle.cw_tree.specs.declared.items.RawData.{RawData}
use Rattle.cw_tree.specs.declared.items.RawData.TheVariants as data_tree
use Rattle.cw_tree.specs.declared.items.RawBase.{RawBase}
use Rattle.cw_tree.specs.declared.items.RawBase.TheVariants as base_tree
use Rattle.cw_tree.specs.declared.statement.RawStmt.{RawStmt}
use Rattle.cw_tree.specs.declared.statement.RawForm.{RawForm}
use Rattle.cw_tree.specs.declared.statement.RawForm.TheVariants as form_tree
use Rattle.cw_tree.specs.declared.statement.RawSimple.{RawSimple}
use Rattle.cw_tree.specs.declared.statement.RawSimple.TheVariants as simple_tree
use Rattle.cw_tree.specs.declared.statement.RawFelem.{RawFelem}
use Rattle.cw_tree.specs.declared.statement.RawFelem.TheVariants as felem_tree
use Rattle.cw_tree.specs.declared.statement.RawBlock.{RawBlock, roll-RawBlock}
use Rattle.cw_tree.specs.declared.statement.RawDecl.{RawDecl}
use Rattle.cw_tree.specs.declared.statement.RawDecl.TheVariants as decl_tree
use Rattle.cw_tree.specs.declared.statement.RawPtag.{RawPtag}
use Rattle.cw_tree.specs.declared.statement.RawPtag.TheVariants as ptag_tree
use Rattle.cw_tree.specs.declared.statement.RawParam.{RawParam}
use Rattle.cw_tree.specs.declared.statement.RawParam.TheVariants as param_tree
use Rattle.cw_tree.specs.declared.segment.RawIps.{RawIps}
use Rattle.cw_tree.specs.declared.segment.RawIps.TheVariants as ips_tree
use Rattle.cw_tree.specs.declared.segment.RawPs.{RawPs}
use Rattle.cw_tree.specs.declared.segment.RawPs.TheVariants as ps_tree
use Rattle.cw_tree.specs.declared.segment.RawSpec.{RawSpec}
use Rattle.cw_tree.specs.declared.segment.RawCitem.{RawCitem}
use Rattle.cw_tree.specs.declared.segment.RawCitem.TheVariants as citem_tree
use Rattle.cw_tree.specs.declared.segment.RawAitem.{RawAitem}
use Rattle.cw_tree.specs.declared.segment.RawAitem.TheVariants as aitem_tree
use Rattle.cw_tree.specs.declared.segment.RawComm.{RawComm}
use Rattle.cw_tree.specs.declared.segment.RawComm.TheVariants as comm_tree
use Rattle.cw_grammar.specs.Tokens.{is_identifier}
use Rattle.cw_grammar.specs.Grammar.{Sort, a_pair, a_list, an_option, a_position, a_name, a_number, an_octal, a_literal, an_int, a_sint, a_size, a_type, a_sign}
use Rattle.cw_grammar.specs.Grammar.{a_factor_sign, a_compare_sign, a_bits, an_expr, a_cond, a_cand, a_cmp, a_sum, a_term, a_differ, a_union, a_mask, a_prim}
use Rattle.cw_grammar.specs.Grammar.{a_primary, a_ref, a_range, a_bounds, a_group, an_elem, a_place}
use Rattle.cw_grammar.specs.Grammar.{a_presets, a_table, a_data, a_base, a_stmt, a_form, a_simple}
use Rattle.cw_grammar.specs.Grammar.{a_felem, a_block, a_decl, a_ptag, a_param, an_ips, a_ps, a_spec, a_citem, an_aitem, a_comm, a_raw, Value}
use Rattle.cw_grammar.specs.Trees.{◌>>-◌, as_sum, as_term, as_differ, as_union, as_mask, as_prim, bracket_primary, bracket_prim, bracket_mask}
use Rattle.cw_grammar.specs.Trees.{bracket_union, bracket_differ, bracket_term, bracket_sum, extended, mask_tree, union_tree, differ_tree}
use Rattle.cw_grammar.specs.Trees.{term_tree, cand_tree, cond_tree, comparison_tree, sum_tree, more_terms}
use Rattle.cw_grammar.specs.Statements.{stmt_tree, proc_tree}
use Rattle.cw_derived.specs.Marks.{mark, mark_behind}

-- The tree is in normal form, its canonical tokens open at most n levels inside one another, and its marks, in order
-- of the text, are these. The flag is true inside a procedure's body, where no procedure is declared.
pub data IsNormal : ℕ → Bool → (s : Sort) → Value s → List ℕ → Type 0 where
  no_more : {n : ℕ} {p : Bool} {s : Sort} → IsNormal n p (a_list s) [] []
  one_more : {n : ℕ} {p : Bool} {s : Sort} {x : Value s} {xs : List (Value s)} {a b : List ℕ} → IsNormal n p s x a
      → IsNormal n p (a_list s) xs b → IsNormal n p (a_list s) (x ∷ xs) (a ++ b)
  absent : {n : ℕ} {p : Bool} {s : Sort} → IsNormal n p (an_option s) None []
  present : {n : ℕ} {p : Bool} {s : Sort} {x : Value s} {a : List ℕ} → IsNormal n p s x a → IsNormal n p (an_option s) (Some x) a
  both : {n : ℕ} {p : Bool} {s t : Sort} {x : Value s} {y : Value t} {a b : List ℕ} → IsNormal n p s x a
      → IsNormal n p t y b → IsNormal n p (a_pair s t) (x, y) (a ++ b)
  -- names and numbers
  is_position : {n : ℕ} {p : Bool} (x : Position) → IsNormal n p a_position x (mark x ∷ [])
  is_name : {n : ℕ} {p : Bool} (x : RawName) → is_identifier x.name ≡ true → IsNormal n p a_name x (mark x.at ∷ [])
  is_number : {n : ℕ} {p : Bool} (x : RawNumber) → IsNumber x.number → IsNormal n p a_number x (mark x.at ∷ [])
  is_octal : {n : ℕ} {p : Bool} (at : Position) {x : RawNumber} {a : List ℕ} → IsNormal n p a_number x a
      → IsNormal n p an_octal (record { at = at; number = x }) (mark at ∷ a)
  is_literal : {n : ℕ} {p : Bool} (x : RawLiteral) → IsNormal n p a_literal x (mark x.at ∷ [])
  int_number : {n : ℕ} {p : Bool} {x : RawNumber} {a : List ℕ} → IsNormal n p a_number x a → IsNormal n p an_int (int_tree.Number x) a
  int_octal : {n : ℕ} {p : Bool} {x : RawOctal} {a : List ℕ} → IsNormal n p an_octal x a → IsNormal n p an_int (int_tree.Octal x) a
  is_sign : {n : ℕ} {p : Bool} (x : RawSign) → IsNormal n p a_sign x (mark x.at ∷ [])
  is_factor_sign : {n : ℕ} {p : Bool} (x : RawFactorSign) → IsNormal n p a_factor_sign x (mark x.at ∷ [])
  is_compare_sign : {n : ℕ} {p : Bool} (x : RawCompareSign) → IsNormal n p a_compare_sign x (mark x.at ∷ [])
  is_sint : {n : ℕ} {p : Bool} {o : Option RawSign} {x : RawInt} {a b : List ℕ} → IsNormal n p (an_option a_sign) o a
      → IsNormal n p an_int x b → IsNormal n p a_sint (record { sign = o; value = x }) (a ++ b)
  is_size : {n : ℕ} {p : Bool} {x y : RawInt} {a b : List ℕ} → IsNormal n p an_int x a → IsNormal n p an_int y b
      → IsNormal n p a_size (record { first = x; second = y }) (a ++ b)
  integer : {n : ℕ} {p : Bool} (at : Position) → IsNormal n p a_type (type_tree.Integer at) (mark at ∷ [])
  fixed : {n : ℕ} {p : Bool} (at : Position) {t : RawInt} {f : RawSint} {a b : List ℕ} → IsNormal n p an_int t a
      → IsNormal n p a_sint f b → IsNormal n p a_type (type_tree.Fixed at t f) (mark at ∷ (a ++ b))
  is_bits : {n : ℕ} {p : Bool} (at : Position) {z : RawSize} {a : List ℕ} → IsNormal n p a_size z a
      → IsNormal n p a_bits (record { at = at; size = z }) (mark at ∷ a)
  -- primaries; behind BITS stands no bracket of a primary
  number : {n : ℕ} {p : Bool} {x : RawNumber} {a : List ℕ} → IsNormal n p a_number x a → IsNormal n p a_primary (primary_tree.Number x) a
  octal : {n : ℕ} {p : Bool} {x : RawOctal} {a : List ℕ} → IsNormal n p an_octal x a → IsNormal n p a_primary (primary_tree.Octal x) a
  literal : {n : ℕ} {p : Bool} {x : RawLiteral} {a : List ℕ} → IsNormal n p a_literal x a → IsNormal n p a_primary (primary_tree.Literal x) a
  string : {n : ℕ} {p : Bool} (at : Position) (characters : List ℕ) → IsNormal n p a_primary (primary_tree.Text at characters) (mark at ∷ [])
  location : {n : ℕ} {p : Bool} (at : Position) {x : RawRef} {a : List ℕ} → IsNormal n p a_ref x a
      → IsNormal (suc n) p a_primary (primary_tree.Location at x) (mark at ∷ a)
  forced : {n : ℕ} {p : Bool} {t : RawType} {x : RawExpr} {a b : List ℕ} → IsNormal (suc n) p a_type t a
      → IsNormal n p an_expr x b → IsNormal (suc n) p a_primary (primary_tree.Forced t x) (a ++ b)
  bracket : {n : ℕ} {p : Bool} (at : Position) {x : RawExpr} {a : List ℕ} → IsNormal n p an_expr x a
      → IsNormal (suc n) p a_primary (primary_tree.Bracket at x) (mark at ∷ a)
  referred : {n : ℕ} {p : Bool} {x : RawRef} {a : List ℕ} → IsNormal n p a_ref x a → IsNormal n p a_primary (primary_tree.Ref x) a
  call : {n : ℕ} {p : Bool} {f : RawName} {x : RawExpr} {xs : List RawExpr} {a b : List ℕ}
      → IsNormal (suc n) p a_name f a → IsNormal n p (a_list an_expr) (x ∷ xs) b
      → IsNormal (suc n) p a_primary (primary_tree.Call f (x ∷ xs)) (a ++ b)
  named : {n : ℕ} {p : Bool} {f : RawName} {a : List ℕ} → IsNormal n p a_name f a → IsNormal n p a_ref (ref_tree.Name f) a
  one_index : {n : ℕ} {p : Bool} {f : RawName} {x : RawExpr} {a b : List ℕ} → IsNormal (suc n) p a_name f a
      → IsNormal n p an_expr x b → IsNormal (suc n) p a_ref (ref_tree.One f x) (a ++ b)
  two_indexes : {n : ℕ} {p : Bool} {f : RawName} {x y : RawExpr} {a b c : List ℕ} → IsNormal (suc n) p a_name f a
      → IsNormal n p an_expr x b → IsNormal n p an_expr y c
      → IsNormal (suc n) p a_ref (ref_tree.Two f x y) (a ++ (b ++ c))
  bare : {n : ℕ} {p : Bool} (at : Position) {x : RawExpr} {a : List ℕ} → IsNormal n p an_expr x a → IsNormal (suc n) p a_ref (ref_tree.Bare at x) (mark at ∷ a)
  is_prim : {n : ℕ} {p : Bool} {bits : List RawBits} {x : RawPrimary} {a b : List ℕ}
      → IsNormal n p (a_list a_bits) bits a → IsNormal n p a_primary x b → (bracket_primary x >>- as_prim) ≡ None
      → IsNormal n p a_prim (roll-RawPrim (record { bits = bits; primary = x })) (a ++ b)
  -- operands, each but the first behind its operator; the first is no bracket of operands of the same rule
  is_mask : {n : ℕ} {p : Bool} {x : RawPrim} {rest : List (Position × RawPrim)} {a b : List ℕ}
      → IsNormal n p a_prim x a → (bracket_prim x >>- as_mask) ≡ None
      → IsNormal n p (a_list (a_pair a_position a_prim)) rest b
      → IsNormal n p a_mask (mask_tree (extended (x ∷ [], []) rest)) (a ++ b)
  is_union : {n : ℕ} {p : Bool} {x : RawMask} {rest : List (Position × RawMask)} {a b : List ℕ}
      → IsNormal n p a_mask x a → (bracket_mask x >>- as_union) ≡ None
      → IsNormal n p (a_list (a_pair a_position a_mask)) rest b
      → IsNormal n p a_union (union_tree (extended (x ∷ [], []) rest)) (a ++ b)
  is_differ : {n : ℕ} {p : Bool} {x : RawUnion} {rest : List (Position × RawUnion)} {a b : List ℕ}
      → IsNormal n p a_union x a → (bracket_union x >>- as_differ) ≡ None
      → IsNormal n p (a_list (a_pair a_position a_union)) rest b
      → IsNormal n p a_differ (differ_tree (extended (x ∷ [], []) rest)) (a ++ b)
  is_term : {n : ℕ} {p : Bool} {x : RawDiffer} {rest : List (RawFactorSign × RawDiffer)} {a b : List ℕ}
      → IsNormal n p a_differ x a → (bracket_differ x >>- as_term) ≡ None
      → IsNormal n p (a_list (a_pair a_factor_sign a_differ)) rest b
      → IsNormal n p a_term (term_tree (extended (x ∷ [], []) rest)) (a ++ b)
  plain_sum : {n : ℕ} {p : Bool} {x : RawTerm} {rest : List (RawSign × RawTerm)} {a b : List ℕ}
      → IsNormal n p a_term x a → (bracket_term x >>- as_sum) ≡ None
      → IsNormal n p (a_list (a_pair a_sign a_term)) rest b
      → IsNormal n p a_sum (sum_tree (more_terms (None, (x ∷ [], [])) rest)) (a ++ b)
  -- Behind a sign a bracket of a sum stays.
  signed_sum : {n : ℕ} {p : Bool} {sign : RawSign} {x : RawTerm} {rest : List (RawSign × RawTerm)} {a b c : List ℕ}
      → IsNormal n p a_sign sign a → IsNormal n p a_term x b → IsNormal n p (a_list (a_pair a_sign a_term)) rest c
      → IsNormal n p a_sum (sum_tree (more_terms (Some sign, (x ∷ [], [])) rest)) (a ++ (b ++ c))
  is_cmp : {n : ℕ} {p : Bool} {x y : RawSum} {op : RawCompareSign} {a b c : List ℕ} → IsNormal n p a_sum x a
      → IsNormal n p a_compare_sign op b → IsNormal n p a_sum y c
      → IsNormal n p a_cmp (comparison_tree x op y) (a ++ (b ++ c))
  is_cand : {n : ℕ} {p : Bool} {x : RawCmp} {rest : List (Position × RawCmp)} {a b : List ℕ} → IsNormal n p a_cmp x a
      → IsNormal n p (a_list (a_pair a_position a_cmp)) rest b
      → IsNormal n p a_cand (cand_tree (extended (x ∷ [], []) rest)) (a ++ b)
  is_cond : {n : ℕ} {p : Bool} {x : RawCand} {rest : List (Position × RawCand)} {a b : List ℕ}
      → IsNormal n p a_cand x a → IsNormal n p (a_list (a_pair a_position a_cand)) rest b
      → IsNormal n p a_cond (cond_tree (extended (x ∷ [], []) rest)) (a ++ b)
  -- No bracket stands around a whole expression.
  sum_expr : {n : ℕ} {p : Bool} {x : RawSum} {a : List ℕ} → IsNormal n p a_sum x a → bracket_sum x ≡ None → IsNormal n p an_expr (expr_tree.Sum x) a
  choice : {n : ℕ} {p : Bool} (at : Position) {c : RawCond} {x y : RawExpr} {a b d : List ℕ}
      → IsNormal n p a_cond c a → IsNormal n p an_expr x b → IsNormal n p an_expr y d
      → IsNormal (suc n) p an_expr (expr_tree.Choice at c x y) (mark at ∷ (a ++ (b ++ d)))
  -- places of presets; a void one stands behind the token of its position
  void : {n : ℕ} {p : Bool} (at : Position) → IsNormal n p a_place (place_tree.Void at) (mark_behind at ∷ [])
  number_place : {n : ℕ} {p : Bool} {o : Option RawSign} {x : RawNumber} {a b : List ℕ}
      → IsNormal n p (an_option a_sign) o a → IsNormal n p a_number x b
      → IsNormal n p a_place (place_tree.Number o x) (a ++ b)
  octal_place : {n : ℕ} {p : Bool} {o : Option RawSign} {x : RawOctal} {a b : List ℕ}
      → IsNormal n p (an_option a_sign) o a → IsNormal n p an_octal x b
      → IsNormal n p a_place (place_tree.Octal o x) (a ++ b)
  literal_place : {n : ℕ} {p : Bool} {o : Option RawSign} {x : RawLiteral} {a b : List ℕ}
      → IsNormal n p (an_option a_sign) o a → IsNormal n p a_literal x b
      → IsNormal n p a_place (place_tree.Literal o x) (a ++ b)
  is_presets : {n : ℕ} {p : Bool} (at : Position) {x : RawPlace} {xs : List RawPlace} {a : List ℕ}
      → IsNormal n p (a_list a_place) (x ∷ xs) a
      → IsNormal n p a_presets (record { at = at; places = x ∷ xs }) (mark at ∷ a)
  -- data
  is_range : {n : ℕ} {p : Bool} {x y : RawSint} {a b : List ℕ} → IsNormal n p a_sint x a → IsNormal n p a_sint y b
      → IsNormal n p a_range (record { lower = x; upper = y }) (a ++ b)
  is_bounds : {n : ℕ} {p : Bool} {x : RawRange} {o : Option RawRange} {a b : List ℕ} → IsNormal n p a_range x a
      → IsNormal n p (an_option a_range) o b → IsNormal n p a_bounds (record { first = x; second = o }) (a ++ b)
  is_group : {n : ℕ} {p : Bool} {x : RawName} {xs : List RawName} {y : RawBounds} {a b : List ℕ}
      → IsNormal n p (a_list a_name) (x ∷ xs) a → IsNormal n p a_bounds y b
      → IsNormal n p a_group (record { names = x ∷ xs; bounds = y }) (a ++ b)
  word_elem : {n : ℕ} {p : Bool} {f : RawName} {t : RawType} {x : RawInt} {a b c : List ℕ} → IsNormal n p a_name f a
      → IsNormal n p a_type t b → IsNormal n p an_int x c
      → IsNormal n p an_elem (elem_tree.Word f t x) (a ++ (b ++ c))
  part_elem : {n : ℕ} {p : Bool} {f : RawName} (u : Bool) {t w i : RawInt} {s : RawSint} {a b c d e : List ℕ}
      → IsNormal n p a_name f a → IsNormal n p an_int t b → IsNormal n p a_sint s c → IsNormal n p an_int w d
      → IsNormal n p an_int i e → IsNormal n p an_elem (elem_tree.Part f u t s w i) (a ++ ((b ++ c) ++ (d ++ e)))
  is_table : {n : ℕ} {p : Bool} (at : Position) {f : RawName} {z : RawSize} {xs : List RawElem} {a b c : List ℕ}
      → IsNormal n p a_name f a → IsNormal n p a_size z b → IsNormal n p (a_list an_elem) xs c
      → IsNormal n p a_table (record { at = at; name = f; size = z; elems = xs }) (mark at ∷ (a ++ (b ++ c)))
  single_data : {n : ℕ} {p : Bool} {t : RawType} {x : RawName} {xs : List RawName} {o : Option RawPresets}
      {a b c : List ℕ} → IsNormal n p a_type t a → IsNormal n p (a_list a_name) (x ∷ xs) b
      → IsNormal n p (an_option a_presets) o c → IsNormal n p a_data (data_tree.Singles t (x ∷ xs) o) (a ++ (b ++ c))
  array_data : {n : ℕ} {p : Bool} {t : RawType} {x : RawGroup} {xs : List RawGroup} {o : Option RawPresets}
      {a b c : List ℕ} → IsNormal n p a_type t a → IsNormal n p (a_list a_group) (x ∷ xs) b
      → IsNormal n p (an_option a_presets) o c → IsNormal n p a_data (data_tree.Arrays t (x ∷ xs) o) (a ++ (b ++ c))
  table_data : {n : ℕ} {p : Bool} {t : RawTable} {i o : Option RawPresets} {a b c : List ℕ}
      → IsNormal n p a_table t a → IsNormal n p (an_option a_presets) i b → IsNormal n p (an_option a_presets) o c
      → IsNormal n p a_data (data_tree.Table t i o) (a ++ (b ++ c))
  name_base : {n : ℕ} {p : Bool} {f : RawName} {a : List ℕ} → IsNormal n p a_name f a → IsNormal n p a_base (base_tree.Name f) a
  one_base : {n : ℕ} {p : Bool} {f : RawName} {x : RawSint} {a b : List ℕ} → IsNormal n p a_name f a
      → IsNormal n p a_sint x b → IsNormal n p a_base (base_tree.One f x) (a ++ b)
  two_base : {n : ℕ} {p : Bool} {f : RawName} {x y : RawSint} {a b c : List ℕ} → IsNormal n p a_name f a
      → IsNormal n p a_sint x b → IsNormal n p a_sint y c → IsNormal n p a_base (base_tree.Two f x y) (a ++ (b ++ c))
  -- specifications
  procedure_tag : {n : ℕ} {p : Bool} (at : Position) → IsNormal n p a_ptag (ptag_tree.Procedure at) (mark at ∷ [])
  recursive_tag : {n : ℕ} {p : Bool} (at : Position) → IsNormal n p a_ptag (ptag_tree.Recursive at) (mark at ∷ [])
  value_ips : {n : ℕ} {p : Bool} (at : Position) {t : RawType} {a : List ℕ} → IsNormal n p a_type t a → IsNormal n p an_ips (ips_tree.Value at t) (mark at ∷ a)
  location_ips : {n : ℕ} {p : Bool} (at : Position) {t : RawType} {a : List ℕ} → IsNormal n p a_type t a
      → IsNormal n p an_ips (ips_tree.Location at t) (mark at ∷ a)
  array_ips : {n : ℕ} {p : Bool} {t : RawType} {a : List ℕ} → IsNormal n p a_type t a → IsNormal n p an_ips (ips_tree.Array t) a
  table_ips : {n : ℕ} {p : Bool} (at : Position) {z : RawSize} {a : List ℕ} → IsNormal n p a_size z a → IsNormal n p an_ips (ips_tree.Table at z) (mark at ∷ a)
  label_ips : {n : ℕ} {p : Bool} (at : Position) → IsNormal n p an_ips (ips_tree.Label at) (mark at ∷ [])
  switch_ips : {n : ℕ} {p : Bool} (at : Position) → IsNormal n p an_ips (ips_tree.Switch at) (mark at ∷ [])
  plain_ps : {n : ℕ} {p : Bool} {x : RawIps} {a : List ℕ} → IsNormal n p an_ips x a → IsNormal n p a_ps (ps_tree.Plain x) a
  procedure_ps : {n : ℕ} {p : Bool} {o : Option RawType} (at : Position) {xs : List RawIps} {a b : List ℕ}
      → IsNormal n p (an_option a_type) o a → IsNormal n p (a_list an_ips) xs b
      → IsNormal n p a_ps (ps_tree.Proc o at xs) (a ++ mark at ∷ b)
  is_spec : {n : ℕ} {p : Bool} {o : Option RawType} {t : RawPtag} {f : RawName} {xs : List RawPs} {a b c d : List ℕ}
      → IsNormal n p (an_option a_type) o a → IsNormal n p a_ptag t b → IsNormal n p a_name f c
      → IsNormal n p (a_list a_ps) xs d → IsNormal n p a_spec (record { answer = o; tag = t; name = f; params = xs })
      (a ++ (b ++ (c ++ d)))
  -- communicators
  data_citem : {n : ℕ} {p : Bool} {x : RawData} {a : List ℕ} → IsNormal n p a_data x a → IsNormal n p a_citem (citem_tree.Data x) a
  overlay_citem : {n : ℕ} {p : Bool} (at : Position) {x : RawBase} {y : RawData} {a b : List ℕ}
      → IsNormal n p a_base x a → IsNormal n p a_data y b
      → IsNormal n p a_citem (citem_tree.Overlay at x y) (mark at ∷ (a ++ b))
  label_citem : {n : ℕ} {p : Bool} (at : Position) {x : RawName} {xs : List RawName} {a : List ℕ}
      → IsNormal n p (a_list a_name) (x ∷ xs) a → IsNormal n p a_citem (citem_tree.Label at (x ∷ xs)) (mark at ∷ a)
  switch_citem : {n : ℕ} {p : Bool} (at : Position) {x : RawName} {xs : List RawName} {a : List ℕ}
      → IsNormal n p (a_list a_name) (x ∷ xs) a → IsNormal n p a_citem (citem_tree.Switch at (x ∷ xs)) (mark at ∷ a)
  spec_citem : {n : ℕ} {p : Bool} {x : RawSpec} {a : List ℕ} → IsNormal n p a_spec x a → IsNormal n p a_citem (citem_tree.Spec x) a
  single_aitem : {n : ℕ} {p : Bool} {t : RawType} {f : RawName} {x : RawInt} {a b c : List ℕ}
      → IsNormal n p a_type t a → IsNormal n p a_name f b → IsNormal n p an_int x c
      → IsNormal n p an_aitem (aitem_tree.Single t f x) ((a ++ b) ++ c)
  array_aitem : {n : ℕ} {p : Bool} {t : RawType} {f : RawName} {y : RawBounds} {x : RawInt} {a b c d : List ℕ}
      → IsNormal n p a_type t a → IsNormal n p a_name f b → IsNormal n p a_bounds y c → IsNormal n p an_int x d
      → IsNormal n p an_aitem (aitem_tree.Array t f y x) ((a ++ (b ++ c)) ++ d)
  table_aitem : {n : ℕ} {p : Bool} {t : RawTable} {x : RawInt} {a b : List ℕ} → IsNormal n p a_table t a
      → IsNormal n p an_int x b → IsNormal n p an_aitem (aitem_tree.Table t x) (a ++ b)
  is_common : {n : ℕ} {p : Bool} (at : Position) {x : RawCitem} {xs : List RawCitem} {a : List ℕ}
      → IsNormal n p (a_list a_citem) (x ∷ xs) a → IsNormal n p a_comm (comm_tree.Common at (x ∷ xs)) (mark at ∷ a)
  is_library : {n : ℕ} {p : Bool} (at : Position) {x : RawSpec} {xs : List RawSpec} {a : List ℕ}
      → IsNormal n p (a_list a_spec) (x ∷ xs) a → IsNormal n p a_comm (comm_tree.Library at (x ∷ xs)) (mark at ∷ a)
  is_absolute : {n : ℕ} {p : Bool} (at : Position) {x : RawAitem} {xs : List RawAitem} {a : List ℕ}
      → IsNormal n p (a_list an_aitem) (x ∷ xs) a → IsNormal n p a_comm (comm_tree.Absolute at (x ∷ xs)) (mark at ∷ a)
  -- statements
  no_statement : {n : ℕ} {p : Bool} → IsNormal n p a_simple simple_tree.Empty []
  assignment : {n : ℕ} {p : Bool} {r : RawRef} {x : RawExpr} {a b : List ℕ} → IsNormal n p a_ref r a
      → IsNormal n p an_expr x b → IsNormal n p a_simple (simple_tree.Assign r x) (a ++ b)
  bits_assignment : {n : ℕ} {p : Bool} {z : RawBits} {r : RawRef} {x : RawExpr} {a b c : List ℕ}
      → IsNormal n p a_bits z a → IsNormal n p a_ref r b → IsNormal n p an_expr x c
      → IsNormal n p a_simple (simple_tree.AssignBits z r x) (a ++ (b ++ c))
  jump_to : {n : ℕ} {p : Bool} (at : Position) {f : RawName} {a : List ℕ} → IsNormal n p a_name f a
      → IsNormal n p a_simple (simple_tree.Goto at f) (mark at ∷ a)
  jump_through : {n : ℕ} {p : Bool} (at : Position) {f : RawName} {x : RawExpr} {a b : List ℕ}
      → IsNormal (suc n) p a_name f a → IsNormal n p an_expr x b
      → IsNormal (suc n) p a_simple (simple_tree.GotoSwitch at f x) (mark at ∷ (a ++ b))
  called_alone : {n : ℕ} {p : Bool} {f : RawName} {a : List ℕ} → IsNormal n p a_name f a → IsNormal n p a_simple (simple_tree.Call f []) a
  called_with : {n : ℕ} {p : Bool} {f : RawName} {x : RawExpr} {xs : List RawExpr} {a b : List ℕ}
      → IsNormal (suc n) p a_name f a → IsNormal n p (a_list an_expr) (x ∷ xs) b
      → IsNormal (suc n) p a_simple (simple_tree.Call f (x ∷ xs)) (a ++ b)
  is_answer : {n : ℕ} {p : Bool} (at : Position) {x : RawExpr} {a : List ℕ} → IsNormal n p an_expr x a
      → IsNormal n p a_simple (simple_tree.Answer at x) (mark at ∷ a)
  inner_block : {n : ℕ} {p : Bool} {x : RawBlock} {a : List ℕ} → IsNormal n p a_block x a → IsNormal n p a_simple (simple_tree.Block x) a
  is_block : {n : ℕ} {p : Bool} (at : Position) {ds : List RawDecl} {x : RawStmt} {xs : List RawStmt} {a b : List ℕ}
      → IsNormal n p (a_list a_decl) ds a → IsNormal n p (a_list a_stmt) (x ∷ xs) b
      → IsNormal (suc n) p a_block (roll-RawBlock (record { at = at; decls = ds; stmts = x ∷ xs }))
      (mark at ∷ (a ++ b))
  is_stmt : {n : ℕ} {p : Bool} {ls : List RawName} {x : RawForm} {a b : List ℕ} → IsNormal n p (a_list a_name) ls a
      → IsNormal n p a_form x b → IsNormal n p a_stmt (stmt_tree ls x) (a ++ b)
  simple_form : {n : ℕ} {p : Bool} {x : RawSimple} {a : List ℕ} → IsNormal n p a_simple x a → IsNormal n p a_form (form_tree.Simple x) a
  if_form : {n : ℕ} {p : Bool} (at : Position) {t : RawCond} {ls : List RawName} {x : RawSimple} {a b c : List ℕ}
      → IsNormal n p a_cond t a → IsNormal n p (a_list a_name) ls b → IsNormal n p a_simple x c
      → IsNormal (suc n) p a_form (form_tree.If at t ls x None) (mark at ∷ (a ++ (b ++ c)))
  else_form : {n : ℕ} {p : Bool} (at : Position) {t : RawCond} {ls : List RawName} {x : RawSimple} {y : RawStmt}
      {a b c d : List ℕ} → IsNormal (suc n) p a_cond t a → IsNormal (suc n) p (a_list a_name) ls b
      → IsNormal (suc n) p a_simple x c → IsNormal n p a_stmt y d
      → IsNormal (suc (suc n)) p a_form (form_tree.If at t ls x (Some y)) (mark at ∷ (a ++ ((b ++ c) ++ d)))
  for_form : {n : ℕ} {p : Bool} (at : Position) {r : RawRef} {x : RawFelem} {xs : List RawFelem} {y : RawStmt}
      {a b c : List ℕ} → IsNormal n p a_ref r a → IsNormal n p (a_list a_felem) (x ∷ xs) b → IsNormal n p a_stmt y c
      → IsNormal (suc n) p a_form (form_tree.For at r (x ∷ xs) y) (mark at ∷ (a ++ (b ++ c)))
  one_felem : {n : ℕ} {p : Bool} {x : RawExpr} {a : List ℕ} → IsNormal n p an_expr x a → IsNormal n p a_felem (felem_tree.One x) a
  while_felem : {n : ℕ} {p : Bool} {x : RawExpr} {t : RawCond} {a b : List ℕ} → IsNormal n p an_expr x a
      → IsNormal n p a_cond t b → IsNormal n p a_felem (felem_tree.While x t) (a ++ b)
  step_felem : {n : ℕ} {p : Bool} {x y z : RawExpr} {a b c : List ℕ} → IsNormal n p an_expr x a
      → IsNormal n p an_expr y b → IsNormal n p an_expr z c
      → IsNormal n p a_felem (felem_tree.Step x y z) (a ++ (b ++ c))
  -- declarations
  data_decl : {n : ℕ} {p : Bool} {x : RawData} {a : List ℕ} → IsNormal n p a_data x a → IsNormal n p a_decl (decl_tree.Data x) a
  overlay_decl : {n : ℕ} {p : Bool} (at : Position) {x : RawBase} {y : RawData} {a b : List ℕ}
      → IsNormal n p a_base x a → IsNormal n p a_data y b
      → IsNormal n p a_decl (decl_tree.Overlay at x y) (mark at ∷ (a ++ b))
  switch_decl : {n : ℕ} {p : Bool} (at : Position) {f : RawName} {x : RawName} {xs : List RawName} {a b : List ℕ}
      → IsNormal n p a_name f a → IsNormal n p (a_list a_name) (x ∷ xs) b
      → IsNormal n p a_decl (decl_tree.Switch at f (x ∷ xs)) (mark at ∷ (a ++ b))
  proc_decl : {n : ℕ} {o : Option RawType} {t : RawPtag} {f : RawName} {xs : List RawParam} {x : RawStmt}
      {a b c d e : List ℕ} → IsNormal (suc n) false (an_option a_type) o a → IsNormal (suc n) false a_ptag t b
      → IsNormal (suc n) false a_name f c → IsNormal (suc n) false (a_list a_param) xs d → IsNormal n true a_stmt x e
      → IsNormal (suc n) false a_decl (decl_tree.Proc (proc_tree o t f xs x)) (a ++ (b ++ (c ++ (d ++ e))))
  value_param : {n : ℕ} {p : Bool} (at : Position) {t : RawType} {x : RawName} {xs : List RawName} {a b : List ℕ}
      → IsNormal n p a_type t a → IsNormal n p (a_list a_name) (x ∷ xs) b
      → IsNormal n p a_param (param_tree.Value at t (x ∷ xs)) (mark at ∷ (a ++ b))
  location_param : {n : ℕ} {p : Bool} (at : Position) {t : RawType} {x : RawName} {xs : List RawName} {a b : List ℕ}
      → IsNormal n p a_type t a → IsNormal n p (a_list a_name) (x ∷ xs) b
      → IsNormal n p a_param (param_tree.Location at t (x ∷ xs)) (mark at ∷ (a ++ b))
  array_param : {n : ℕ} {p : Bool} {t : RawType} {x : RawName} {xs : List RawName} {a b : List ℕ}
      → IsNormal n p a_type t a → IsNormal n p (a_list a_name) (x ∷ xs) b
      → IsNormal n p a_param (param_tree.Array t (x ∷ xs)) (a ++ b)
  table_param : {n : ℕ} {p : Bool} {t : RawTable} {a : List ℕ} → IsNormal n p a_table t a → IsNormal n p a_param (param_tree.Table t) a
  label_param : {n : ℕ} {p : Bool} (at : Position) {x : RawName} {xs : List RawName} {a : List ℕ}
      → IsNormal n p (a_list a_name) (x ∷ xs) a → IsNormal n p a_param (param_tree.Label at (x ∷ xs)) (mark at ∷ a)
  switch_param : {n : ℕ} {p : Bool} (at : Position) {x : RawName} {xs : List RawName} {a : List ℕ}
      → IsNormal n p (a_list a_name) (x ∷ xs) a → IsNormal n p a_param (param_tree.Switch at (x ∷ xs)) (mark at ∷ a)
  procedure_param : {n : ℕ} {p : Bool} {o : Option RawType} (at : Position) {f : RawName} {xs : List RawIps}
      {a b c : List ℕ} → IsNormal n p (an_option a_type) o a → IsNormal n p a_name f b
      → IsNormal n p (a_list an_ips) xs c → IsNormal n p a_param (param_tree.Proc o at f xs) (a ++ mark at ∷ (b ++ c))
  -- a text, with the mark of its last token
  is_raw : {n : ℕ} {cs : List RawComm} (f : List ℕ) {x : RawBlock} (tokens : ℕ) {a b : List ℕ}
      → IsNormal n false (a_list a_comm) cs a → is_identifier f ≡ true → IsNormal n false a_block x b
      → IsNormal n false a_raw (record { name = f; comms = cs; block = x; tokens = tokens })
      (a ++ (b ++ 2 * tokens ∷ []))
