-- Expressions, conditions and references are read as their canonical tokens, the same but for positions.
use Rattle.std.proofs.Common.{◌≡◌, ℕ, suc, true, List, [], ◌∷◌, ◌++◌, map, Option, Some, None, refl, sym, ap, ap₂, ◌∙◌}
use Rattle.std.specs.Prelude.{option_map}
use Rattle.cw_lex.specs.declared.token.Symbol.TheVariants as symbols
use Rattle.cw_lex.specs.declared.token.Word.{Word}
use Rattle.cw_lex.specs.declared.token.Word.TheVariants as words
use Rattle.cw_tree.specs.declared.leaf.Position.{Position}
use Rattle.cw_tree.specs.declared.leaf.RawName.{RawName}
use Rattle.cw_tree.specs.declared.leaf.RawNumber.{RawNumber}
use Rattle.cw_tree.specs.declared.leaf.RawOctal.{RawOctal}
use Rattle.cw_tree.specs.declared.leaf.RawLiteral.{RawLiteral}
use Rattle.cw_tree.specs.declared.leaf.RawType.{RawType}
use Rattle.cw_tree.specs.declared.leaf.RawSign.{RawSign}
use Rattle.cw_tree.specs.declared.leaf.RawFactorSign.{RawFactorSign}
use Rattle.cw_tree.specs.declared.leaf.RawCompareSign.{RawCompareSign}
use Rattle.cw_tree.specs.declared.expression.RawBits.{RawBits}
use Rattle.cw_tree.specs.declared.expression.RawExpr.{RawExpr, roll-RawExpr}
use Rattle.cw_tree.specs.declared.expression.RawExpr.TheOpen as layer
use Rattle.cw_tree.specs.declared.expression.RawExpr.TheVariants as expr_tree
use Rattle.cw_tree.specs.declared.expression.RawCond.{RawCond, out-RawCond}
use Rattle.cw_tree.specs.declared.expression.RawCand.{RawCand, out-RawCand}
use Rattle.cw_tree.specs.declared.expression.RawCmp.{RawCmp, roll-RawCmp}
use Rattle.cw_tree.specs.declared.expression.RawSum.{RawSum, roll-RawSum}
use Rattle.cw_tree.specs.declared.expression.RawTerm.{RawTerm}
use Rattle.cw_tree.specs.declared.expression.RawDiffer.{RawDiffer}
use Rattle.cw_tree.specs.declared.expression.RawUnion.{RawUnion}
use Rattle.cw_tree.specs.declared.expression.RawMask.{RawMask}
use Rattle.cw_tree.specs.declared.expression.RawPrim.{RawPrim, roll-RawPrim}
use Rattle.cw_tree.specs.declared.expression.RawPrimary.{RawPrimary, roll-RawPrimary}
use Rattle.cw_tree.specs.declared.expression.RawPrimary.TheVariants as primary_tree
use Rattle.cw_tree.specs.declared.expression.RawRef.{RawRef, roll-RawRef}
use Rattle.cw_tree.specs.declared.expression.RawRef.TheVariants as ref_tree
use Rattle.cw_grammar.specs.Tokens.{Item, position, characters, literal_byte}
use Rattle.cw_grammar.specs.Grammar.{Sort, a_pair, a_list, an_option, an_either, a_position, a_name, a_number, an_octal, a_type, a_sign, a_factor_sign, a_compare_sign, a_bits, an_expr, a_cond, a_cand, a_cmp, a_sum, a_term, a_differ, a_union, a_mask, a_prim, a_primary, a_ref, Value, Grammar, subscript, indexed, called, many, ◌·◌, ◌⇒◌}
use Rattle.cw_grammar.specs.Table.{rule}
use Rattle.cw_grammar.specs.Rules.{name, number, octal, sign, number_type, bits, factor_sign, comparator, operator, reference, constant, worded, enclosed, named, primary, prim, mask, union, differ, term, sum, cmp, cand, condition, expr, tail, indexed_name, ref_behind, primary_behind}
use Rattle.cw_grammar.specs.Trees.{◌>>-◌, Operands, extended, first_of, as_sum, as_term, as_differ, as_union, as_mask, as_prim, bracket_primary, bracket_prim, bracket_mask, bracket_union, bracket_differ, bracket_term, bracket_sum, sum_start, terms_of, more_terms, mask_tree, union_tree, differ_tree, term_tree, cand_tree, cond_tree, comparison_tree, sum_tree, expr_or, prim_or, prim_of}
use Rattle.cw_derived.proofs.Held.{extended_is}
use Rattle.cw_show.specs.Spelling.{Spelling, word, symbol}
use Rattle.cw_show.specs.Lexing.{stands_alone}
use Rattle.cw_show.specs.Canonical.{Tokens, name as name_spelling, octal_tokens, type_tokens, add_symbol, multiply_symbol, behind_each, behind_operators, between, comma}
use Rattle.cw_show.specs.ItemTokens.{name_tokens}
use Rattle.cw_show.specs.ExpressionTokens.{bits_tokens, expr_tokens, primary_tokens, ref_tokens, cand_tokens, cmp_tokens, cond_tokens, differ_tokens, mask_tokens, prim_tokens, sum_tokens, term_tokens, union_tokens}
use Rattle.cw_read_back.specs.Expressions.Unplaced.{nowhere, unplaced_name, unplaced_number, unplaced_octal, unplaced_type, unplaced_sign, unplaced_factor, unplaced_compare, unplaced_bits, unplaced_expr, unplaced_primary, unplaced_ref, unplaced_cand, unplaced_cmp, unplaced_cond, unplaced_differ, unplaced_mask, unplaced_prim, unplaced_sum, unplaced_term, unplaced_union}
use Rattle.cw_read_back.proofs.Expressions.Leaves.{string_back, literal_back}
use Rattle.cw_read_back.proofs.Expressions.Reading.{Reads, Back, Each, IsSome, word_is, symbol_is, ◌&◌, left, right, mapped, opened, opened_word, second, first, respelled, nothing, absent_read, present_read, no_more_read, more_read, between_read, joined_read}
use Rattle.cw_read_back.proofs.Expressions.Simple.{number_tokens, plain_sign, plain_factor, plain_compare, literal_read, string_read}
use Rattle.cw_read_back.proofs.Expressions.Stays.{bracket_differ_kept, bracket_mask_kept, bracket_prim_kept, bracket_primary_kept, bracket_term_kept, bracket_union_kept, differ_kept, mask_kept, prim_kept, sum_kept, term_kept, union_kept, stays, sum_stays}
use Rattle.cw_read_back.proofs.Expressions.ExpressionLayers.{bare, same_expr, same_primary, same_ref, mask_parts, union_parts, differ_parts, term_parts, choice-tokens, sum_expr-tokens, number-tokens, octal-tokens, literal-tokens, string-tokens, location-tokens, forced-tokens, bracket-tokens, referred-tokens, call-tokens, named-tokens, one_index-tokens, two_indexes-tokens, bare-tokens, cand-tokens, cond-tokens, differ-tokens, differ-bare, mask-tokens, mask-bare, union-tokens, union-bare, cmp-tokens, cmp-bare, prim-tokens, prim-bare, sum-tokens, sum-bare, term-tokens, term-bare}
use Rattle.cw_tokens.proofs.Passes.{cand_rolled, cond_rolled}

abbrev Expr : ℕ → RawExpr → Type 0
Expr n x = Back n an_expr expr expr_tokens unplaced_expr x

-- ---- references

-- what stands in the square brackets behind a name, for the reference
abbrev pub Indexes : ℕ → RawName → Tokens → RawRef → Type 0
Indexes n f a r = Reads n (a_pair an_expr (an_option an_expr)) (rule indexed) a (λ w. (g : RawName) → unplaced_name g ≡ unplaced_name f → unplaced_ref (indexed_name g w.0 w.1) ≡ unplaced_ref r)

pub one_inside : {n : ℕ} (f : RawName) (x : RawExpr) → Expr n x → Indexes n f (expr_tokens x ++ symbol symbols.CloseSquare ∷ []) (ref_tree.One f x)
unfolding rule
one_inside f x h = respelled refl (h & first absent_read (symbol_is symbols.CloseSquare))
    (λ w p g e. ap (λ o. unplaced_ref (indexed_name g w.0 o)) p.1 ∙ same_ref (layer.One g w.0) (layer.One f x) (ref_tree.rolls-One g w.0) (ref_tree.rolls-One f x) (ap₂ (λ u v. roll-RawRef (layer.One u v)) e p.0))

two_same : (f g : RawName) (x y d : RawExpr) (o : Option RawExpr) → unplaced_name g ≡ unplaced_name f → unplaced_expr d ≡ unplaced_expr x → IsSome (λ v. unplaced_expr v ≡ unplaced_expr y) o → unplaced_ref (indexed_name g d o) ≡ unplaced_ref (ref_tree.Two f x y)
two_same f g x y d None e h k = absurd k
two_same f g x y d (Some v) e h k =
    same_ref (layer.Two g d v) (layer.Two f x y) (ref_tree.rolls-Two g d v) (ref_tree.rolls-Two f x y)
    (ap (λ u. roll-RawRef (layer.Two u (unplaced_expr d) (unplaced_expr v))) e ∙ ap₂ (λ a b. roll-RawRef (layer.Two (unplaced_name f) a b)) h k)

pub two_inside : {n : ℕ} (f : RawName) (x y : RawExpr) → Expr n x → Expr n y → Indexes n f (expr_tokens x ++ comma ∷ (expr_tokens y ++ symbol symbols.CloseSquare ∷ [])) (ref_tree.Two f x y)
unfolding rule
two_inside f x y h k = respelled refl (h & first (present_read (second (symbol_is symbols.Comma) k)) (symbol_is symbols.CloseSquare)) (λ w p g e. two_same f g x y w.0 w.1 e p.0 p.1)

behind_same : (f g : RawName) (r : RawRef) (o : Option (Item × (RawExpr × Option RawExpr))) → unplaced_name g ≡ unplaced_name f → IsSome (λ w. (u : RawName) → unplaced_name u ≡ unplaced_name f → unplaced_ref (indexed_name u w.1.0 w.1.1) ≡ unplaced_ref r) o → unplaced_ref (ref_behind g o) ≡ unplaced_ref r
behind_same f g r None e k = absurd k
behind_same f g r (Some w) e k = k g e

-- what stands behind the name of a primary
abbrev Tail : ℕ → RawName → Tokens → RawPrimary → Type 0
Tail n f a x = Reads n (an_option (an_either (a_pair an_expr (an_option an_expr)) (a_list an_expr))) tail a (λ t. (g : RawName) → unplaced_name g ≡ unplaced_name f → unplaced_primary (primary_behind g t) ≡ unplaced_primary x)

name_primary : {n : ℕ} (f : RawName) (a : Tokens) (x : RawPrimary) → Back n a_name name name_tokens unplaced_name f → Tail n f a x → Reads n a_primary primary (name_spelling f.name ∷ a) (λ d. unplaced_primary d ≡ unplaced_primary x)
unfolding primary named
name_primary f a x h k = right (right (right (mapped (h & k) (λ z p. p.1 z.0 p.0))))

-- a reference, and the primary that it is
abbrev pub RefRead : ℕ → RawRef → Type 0
RefRead n r = Back n a_ref reference ref_tokens unplaced_ref r × Reads n a_primary primary (ref_tokens r) (λ d. unplaced_primary d ≡ unplaced_primary (primary_tree.Ref r))

referred_same : (d r : RawRef) → unplaced_ref d ≡ unplaced_ref r → unplaced_primary (primary_tree.Ref d) ≡ unplaced_primary (primary_tree.Ref r)
referred_same d r e = same_primary (layer.Ref d) (layer.Ref r) (primary_tree.rolls-Ref d) (primary_tree.rolls-Ref r) (ap (λ v. roll-RawPrimary (layer.Ref v)) e)

pub name_same : (f g : RawName) → unplaced_name g ≡ unplaced_name f → unplaced_ref (ref_tree.Name g) ≡ unplaced_ref (ref_tree.Name f)
name_same f g e = same_ref (layer.Name g) (layer.Name f) (ref_tree.rolls-Name g) (ref_tree.rolls-Name f) (ap (λ v. roll-RawRef (layer.Name v)) e)

pub named_read : {n : ℕ} (f : RawName) → Back n a_name name name_tokens unplaced_name f → RefRead n (ref_tree.Name f)
unfolding reference
named_read {n = n} f h =
    let t : Tail n f [] (primary_tree.Ref (ref_tree.Name f)) = right (right (nothing None (λ g e. referred_same (ref_tree.Name g) (ref_tree.Name f) (name_same f g e)))) in (
      respelled (named-tokens f) (left (mapped (h & absent_read) (λ z p. ap (λ o. unplaced_ref (ref_behind z.0 o)) p.1 ∙ name_same f z.0 p.0))) (λ z q. q),
      respelled (named-tokens f) (name_primary f [] (primary_tree.Ref (ref_tree.Name f)) h t) (λ z q. q),
    )

indexed_read : {n : ℕ} (f : RawName) (a : Tokens) (r : RawRef) → ref_tokens r ≡ name_spelling f.name ∷ symbol symbols.OpenSquare ∷ a → Back (suc n) a_name name name_tokens unplaced_name f → Indexes n f a r → RefRead (suc n) r
unfolding reference
indexed_read {n = n} f a r e h k =
    let t : Tail (suc n) f (symbol symbols.OpenSquare ∷ a) (primary_tree.Ref r) = left (mapped (opened symbols.OpenSquare k) (λ w p g q. referred_same (indexed_name g w.1.0 w.1.1) r (p g q))) in (
      respelled e (left (mapped (h & present_read (opened symbols.OpenSquare k)) (λ z p. behind_same f z.0 r z.1 p.0 p.1))) (λ z q. q),
      respelled e (name_primary f (symbol symbols.OpenSquare ∷ a) (primary_tree.Ref r) h t) (λ z q. q),
    )

pub one_index_read : {n : ℕ} (f : RawName) (x : RawExpr) → Back (suc n) a_name name name_tokens unplaced_name f → Expr n x → RefRead (suc n) (ref_tree.One f x)
one_index_read f x h k = indexed_read f (expr_tokens x ++ symbol symbols.CloseSquare ∷ []) (ref_tree.One f x) (one_index-tokens f x) h (one_inside f x k)

pub two_indexes_read : {n : ℕ} (f : RawName) (x y : RawExpr) → Back (suc n) a_name name name_tokens unplaced_name f → Expr n x → Expr n y → RefRead (suc n) (ref_tree.Two f x y)
two_indexes_read f x y h k l = indexed_read f (expr_tokens x ++ comma ∷ (expr_tokens y ++ symbol symbols.CloseSquare ∷ [])) (ref_tree.Two f x y) (two_indexes-tokens f x y) h (two_inside f x y k l)

-- an expression in square brackets
pub subscript_read : {n : ℕ} (x : RawExpr) → Expr n x → Reads n an_expr (rule subscript) (expr_tokens x ++ symbol symbols.CloseSquare ∷ []) (λ d. unplaced_expr d ≡ unplaced_expr x)
unfolding rule
subscript_read x h = first h (symbol_is symbols.CloseSquare)

pub bare_same : (at here : Position) (d x : RawExpr) → unplaced_expr d ≡ unplaced_expr x → unplaced_ref (ref_tree.Bare here d) ≡ unplaced_ref (ref_tree.Bare at x)
bare_same at here d x e = same_ref (layer.Bare here d) (layer.Bare at x) (ref_tree.rolls-Bare here d) (ref_tree.rolls-Bare at x) (ap (λ v. roll-RawRef (layer.Bare nowhere v)) e)

pub bare_read : {n : ℕ} (at : Position) (x : RawExpr) → Expr n x → RefRead (suc n) (ref_tree.Bare at x)
unfolding reference primary enclosed
bare_read at x h = (
  respelled (bare-tokens at x) (right (mapped (opened symbols.OpenSquare (subscript_read x h)) (λ z e. bare_same at (position z.0) z.1 x e))) (λ z q. q),
  respelled (bare-tokens at x) (right (right (left (right (mapped (opened symbols.OpenSquare (subscript_read x h)) (λ z e. referred_same (ref_tree.Bare (position z.0) z.1) (ref_tree.Bare at x) (bare_same at (position z.0) z.1 x e))))))) (λ z q. q),
)

-- ---- primaries

abbrev Primary : ℕ → RawPrimary → Type 0
Primary n x = Back n a_primary primary primary_tokens unplaced_primary x

pub number_primary : {n : ℕ} (x : RawNumber) → Back n a_number number number_tokens unplaced_number x → Primary n (primary_tree.Number x)
unfolding primary constant
number_primary x h = respelled (number-tokens x) (left (left (mapped h (λ z e. same_primary (layer.Number z) (layer.Number x) (primary_tree.rolls-Number z) (primary_tree.rolls-Number x) (ap (λ v. roll-RawPrimary (layer.Number v)) e))))) (λ z q. q)

pub octal_primary : {n : ℕ} (x : RawOctal) → Back n an_octal octal octal_tokens unplaced_octal x → Primary n (primary_tree.Octal x)
unfolding primary constant
octal_primary x h = respelled (octal-tokens x) (left (right (left (mapped h (λ z e. same_primary (layer.Octal z) (layer.Octal x) (primary_tree.rolls-Octal z) (primary_tree.rolls-Octal x) (ap (λ v. roll-RawPrimary (layer.Octal v)) e)))))) (λ z q. q)

abbrev literal_at : ℕ → RawPrimary
literal_at b = roll-RawPrimary (layer.Literal (record { at = nowhere; byte = b }))

pub literal_primary : {n : ℕ} (x : RawLiteral) → Primary n (primary_tree.Literal x)
unfolding primary constant
literal_primary x = respelled (literal-tokens x) (left (right (right (left (mapped (literal_read x)
    (λ z p. let c : RawLiteral = record { at = position z; byte = literal_byte z.text } in same_primary (layer.Literal c) (layer.Literal x) (primary_tree.rolls-Literal c) (primary_tree.rolls-Literal x) (ap literal_at (ap literal_byte p.1 ∙ literal_back x.byte)))))))) (λ z q. q)

pub string_primary : {n : ℕ} (at : Position) (cs : List ℕ) → Primary n (primary_tree.Text at cs)
unfolding primary constant
string_primary at cs = respelled (string-tokens at cs) (left (right (right (right (mapped (string_read cs)
    (λ z p. let ds = characters z.kind z.text in same_primary (layer.Text (position z) ds) (layer.Text at cs) (primary_tree.rolls-Text (position z) ds) (primary_tree.rolls-Text at cs) (ap (λ v. roll-RawPrimary (layer.Text nowhere v)) (ap₂ characters p.0 p.1 ∙ string_back cs)))))))) (λ z q. q)

pub location_primary : {n : ℕ} (at : Position) (r : RawRef) → Back n a_ref reference ref_tokens unplaced_ref r → Primary (suc n) (primary_tree.Location at r)
unfolding primary worded rule
location_primary at r h = respelled (location-tokens at r) (right (left (left (mapped (word_is words.Location refl & opened symbols.Open (first h (symbol_is symbols.Close)))
    (λ z p. same_primary (layer.Location (position z.0) z.1.1) (layer.Location at r) (primary_tree.rolls-Location (position z.0) z.1.1) (primary_tree.rolls-Location at r) (ap (λ v. roll-RawPrimary (layer.Location nowhere v)) p.1)))))) (λ z q. q)

pub forced_primary : {n : ℕ} (t : RawType) (x : RawExpr) → Back (suc n) a_type number_type type_tokens unplaced_type t → Expr n x → Primary (suc n) (primary_tree.Forced t x)
unfolding primary worded rule
forced_primary t x h k = respelled (forced-tokens t x) (right (left (right (mapped (h & opened symbols.Open (first k (symbol_is symbols.Close)))
    (λ z p. same_primary (layer.Forced z.0 z.1.1) (layer.Forced t x) (primary_tree.rolls-Forced z.0 z.1.1) (primary_tree.rolls-Forced t x) (ap₂ (λ u v. roll-RawPrimary (layer.Forced u v)) p.0 p.1)))))) (λ z q. q)

pub bracket_primary_read : {n : ℕ} (at : Position) (x : RawExpr) → Expr n x → Primary (suc n) (primary_tree.Bracket at x)
unfolding primary enclosed rule
bracket_primary_read at x h = respelled (bracket-tokens at x) (right (right (left (left (mapped (opened symbols.Open (first h (symbol_is symbols.Close)))
    (λ z e. same_primary (layer.Bracket (position z.0) z.1) (layer.Bracket at x) (primary_tree.rolls-Bracket (position z.0) z.1) (primary_tree.rolls-Bracket at x) (ap (λ v. roll-RawPrimary (layer.Bracket nowhere v)) e))))))) (λ z q. q)

pub referred_primary : {n : ℕ} (r : RawRef) → RefRead n r → Primary n (primary_tree.Ref r)
referred_primary r h = respelled (referred-tokens r) h.1 (λ z q. q)

-- what stands in the brackets behind the name of a procedure
pub called_read : {n : ℕ} (x : RawExpr) (xs : List RawExpr) → Expr n x × Each (Expr n) xs → Reads n (a_list an_expr) (rule called) (between comma (map expr_tokens (x ∷ xs)) ++ symbol symbols.Close ∷ []) (λ ds. map unplaced_expr ds ≡ map unplaced_expr (x ∷ xs))
unfolding rule
called_read x xs h = first (between_read expr_tokens unplaced_expr comma (symbol_is symbols.Comma) x xs h) (symbol_is symbols.Close)

pub call_primary : {n : ℕ} (f : RawName) (x : RawExpr) (xs : List RawExpr) → Back (suc n) a_name name name_tokens unplaced_name f → Expr n x × Each (Expr n) xs → Primary (suc n) (primary_tree.Call f (x ∷ xs))
call_primary {n = n} f x xs h k =
    let a : Tokens = symbol symbols.Open ∷ (between comma (map expr_tokens (x ∷ xs)) ++ symbol symbols.Close ∷ []) in
    let t : Tail (suc n) f a (primary_tree.Call f (x ∷ xs)) =
    right (left (mapped (opened symbols.Open (called_read x xs k)) (λ w p g e. same_primary (layer.Call g w.1) (layer.Call f (x ∷ xs)) (primary_tree.rolls-Call g w.1) (primary_tree.rolls-Call f (x ∷ xs)) (ap₂ (λ u v. roll-RawPrimary (layer.Call u v)) e p)))) in
    respelled (call-tokens f (x ∷ xs)) (name_primary f a (primary_tree.Call f (x ∷ xs)) h t) (λ z q. q)

prim_same : (bits ds : List RawBits) (x d : RawPrimary) → map unplaced_bits ds ≡ map unplaced_bits bits → unplaced_primary d ≡ unplaced_primary x → (bracket_primary x >>- as_prim) ≡ None → unplaced_prim (prim_of ds d) ≡ unplaced_prim (roll-RawPrim (record { bits = bits; primary = x }))
prim_same bits ds x d e k l =
    ap (λ o. unplaced_prim (prim_or o ds d)) (stays _ _ bracket_primary as_prim bracket_primary_kept prim_kept x d k l) ∙ prim-bare ds d ∙ ap₂ (λ u v. roll-RawPrim (record { bits = u; primary = v })) e k ∙ sym (prim-bare bits x)

pub prim_read : {n : ℕ} (bs : List RawBits) (x : RawPrimary) → Each (Back n a_bits bits bits_tokens unplaced_bits) bs → Primary n x → (bracket_primary x >>- as_prim) ≡ None → Back n a_prim prim prim_tokens unplaced_prim (roll-RawPrim (record { bits = bs; primary = x }))
unfolding prim
prim_read bs x h k l = respelled (prim-tokens bs x) (mapped (joined_read bits_tokens unplaced_bits bs h & k) (λ z p. prim_same bs z.0 x z.1 p.0 p.1 l)) (λ z q. q)

-- ---- operands

-- operands behind operators are the same as others
record AreSame (s o : Sort) (bare : Value s → Value s) (plain : Value o → Value o) (zs rest : List (Value o × Value s)) : Type 0 where
  operands : map bare (map (λ z. z.1) zs) ≡ map bare (map (λ z. z.1) rest)
  operators : map plain (map (λ z. z.0) zs) ≡ map plain (map (λ z. z.0) rest)

operated_read : {n : ℕ} {s o : Sort} {g : Grammar s} {k : Grammar o} (tokens : Value s → Tokens) (bare : Value s → Value s) (sp : Value o → Spelling) (plain : Value o → Value o) (G : Value o → Type 0)
    → ((z : Value o) → G z → Reads n o k (sp z ∷ []) (λ d. plain d ≡ plain z)) → (rest : List (Value o × Value s)) → Each (λ z. G z.0 × Back n s g tokens bare z.1) rest
    → Reads n (a_list (a_pair o s)) (many (k · g)) (behind_operators (map sp (map (λ z. z.0) rest)) (map tokens (map (λ z. z.1) rest))) (λ zs. AreSame s o bare plain zs rest)
operated_read tokens bare sp plain G r [] h = no_more_read (record { operands = refl; operators = refl })
operated_read tokens bare sp plain G r (x ∷ rest) h =
    more_read (r x.0 h.0.0 & h.0.1) (operated_read tokens bare sp plain G r rest h.1) (λ z zs p q. record { operands = ap₂ (λ y ys. y ∷ ys) p.1 q.operands; operators = ap₂ (λ y ys. y ∷ ys) p.0 q.operators })

behind_word : {A B : Type 0} (w : Word) (tokens : A → Tokens) (rest : List (B × A)) → behind_each (word w) (map tokens (map (λ z. z.1) rest)) ≡ behind_operators (map (λ z. word w) (map (λ z. z.0) rest)) (map tokens (map (λ z. z.1) rest))
behind_word w tokens [] = refl
behind_word w tokens (x ∷ rest) = ap (λ u. word w ∷ (tokens x.1 ++ u)) (behind_word w tokens rest)

-- operands behind a word
abbrev Words : ℕ → (s : Sort) → Grammar s → (Value s → Tokens) → (Value s → Value s) → List (Position × Value s) → Type 0
Words n s g tokens bare rest = Each (λ z. Unit {0} × Back n s g tokens bare z.1) rest

worded_read : {n : ℕ} {s : Sort} {g : Grammar s} (tokens : Value s → Tokens) (bare : Value s → Value s) (w : Word) → stands_alone w ≡ true → (rest : List (Position × Value s)) → Words n s g tokens bare rest
    → Reads n (a_list (a_pair a_position s)) (many (operator w · g)) (behind_each (word w) (map tokens (map (λ z. z.1) rest))) (λ zs. AreSame s a_position bare (λ p. nowhere) zs rest)
worded_read tokens bare w e rest h = respelled (behind_word w tokens rest) (operated_read tokens bare (λ z. word w) (λ p. nowhere) (λ z. Unit {0}) (λ z k. mapped (word_is w e) (λ t p. refl)) rest h) (λ z q. q)

-- An operation is read, if a first operand that is the same as its first is not joined either.
module _ (s o t : Sort) (tokens : Value s → Tokens) (bare : Value s → Value s) (plain : Value o → Value o) (shown : Value t → Tokens) (all : Value t → Value t) (tree : Operands (Value s) (Value o) → Value t)
    (bare_is : (xs : List (Value s)) (os : List (Value o)) → all (tree (xs, os)) ≡ tree (map bare xs, map plain os)) where
  operation_same : (x d : Value s) (rest zs : List (Value o × Value s)) → bare d ≡ bare x → AreSame s o bare plain zs rest → all (tree (extended (d ∷ [], []) zs)) ≡ all (tree (extended (x ∷ [], []) rest))
  operation_same x d rest zs e h =
      ap (λ u. all (tree u)) (extended_is (d ∷ []) [] zs) ∙ bare_is (d ∷ map (λ z. z.1) zs) (map (λ z. z.0) zs)
      ∙ ap₂ (λ u v. tree (u, v)) (ap₂ (λ y ys. y ∷ ys) e h.operands) h.operators
      ∙ sym (bare_is (x ∷ map (λ z. z.1) rest) (map (λ z. z.0) rest)) ∙ ap (λ u. all (tree u)) (sym (extended_is (x ∷ []) [] rest))

  operation_read : {n : ℕ} {g : Grammar s} {k : Grammar o} {a : Tokens} (parts : Value t → Operands (Value s) (Value o)) (join : Value s → Option (Value t)) (x : Value s) (rest : List (Value o × Value s))
      → Back n s g tokens bare x → ((d : Value s) → bare d ≡ bare x → join d ≡ None) → Reads n (a_list (a_pair o s)) (many (k · g)) a (λ zs. AreSame s o bare plain zs rest)
      → shown (tree (x ∷ map (λ z. z.1) rest, map (λ z. z.0) rest)) ≡ tokens x ++ a → Back n t (g · many (k · g) ⇒ (λ z. tree (extended (first_of parts (join z.0) z.0) z.1))) shown all (tree (extended (x ∷ [], []) rest))
  operation_read parts join x rest h b k e = respelled (ap (λ u. shown (tree u)) (extended_is (x ∷ []) [] rest) ∙ e)
      (mapped (h & k) (λ z p. ap (λ u. all (tree (extended (first_of parts u z.0) z.1))) (b z.0 p.0) ∙ operation_same x z.0 rest z.1 p.0 p.1)) (λ z q. q)

-- one with a word between its operands
worded_operation : {n : ℕ} (s t : Sort) {g : Grammar s} (tokens : Value s → Tokens) (bare : Value s → Value s) (shown : Value t → Tokens) (all : Value t → Value t) (w : Word) (tree : Operands (Value s) Position → Value t) (parts : Value t → Operands (Value s) Position) (join : Value s → Option (Value t))
    → stands_alone w ≡ true → ((xs : List (Value s)) (os : List Position) → shown (tree (xs, os)) ≡ between (word w) (map tokens xs)) → ((xs : List (Value s)) (os : List Position) → all (tree (xs, os)) ≡ tree (map bare xs, map (λ p. nowhere) os))
    → (x : Value s) (rest : List (Position × Value s)) → Back n s g tokens bare x → ((d : Value s) → bare d ≡ bare x → join d ≡ None) → Words n s g tokens bare rest
    → Back n t (g · many (operator w · g) ⇒ (λ z. tree (extended (first_of parts (join z.0) z.0) z.1))) shown all (tree (extended (x ∷ [], []) rest))
worded_operation s t tokens bare shown all w tree parts join e shown_is bare_is x rest h b k =
    operation_read s a_position t tokens bare (λ p. nowhere) shown all tree bare_is parts join x rest h b (worded_read tokens bare w e rest k) (shown_is (x ∷ map (λ z. z.1) rest) (map (λ z. z.0) rest))

pub mask_read : {n : ℕ} (x : RawPrim) (rest : List (Position × RawPrim)) → Back n a_prim prim prim_tokens unplaced_prim x → (bracket_prim x >>- as_mask) ≡ None → Words n a_prim prim prim_tokens unplaced_prim rest → Back n a_mask mask mask_tokens unplaced_mask (mask_tree (extended (x ∷ [], []) rest))
unfolding mask
mask_read x rest h b k = worded_operation a_prim a_mask prim_tokens unplaced_prim mask_tokens unplaced_mask words.Mask mask_tree mask_parts (λ z. bracket_prim z >>- as_mask) refl mask-tokens mask-bare x rest h (λ d e. stays _ _ bracket_prim as_mask bracket_prim_kept mask_kept x d e b) k

pub union_read : {n : ℕ} (x : RawMask) (rest : List (Position × RawMask)) → Back n a_mask mask mask_tokens unplaced_mask x → (bracket_mask x >>- as_union) ≡ None → Words n a_mask mask mask_tokens unplaced_mask rest → Back n a_union union union_tokens unplaced_union (union_tree (extended (x ∷ [], []) rest))
unfolding union
union_read x rest h b k = worded_operation a_mask a_union mask_tokens unplaced_mask union_tokens unplaced_union words.Union union_tree union_parts (λ z. bracket_mask z >>- as_union) refl union-tokens union-bare x rest h (λ d e. stays _ _ bracket_mask as_union bracket_mask_kept union_kept x d e b) k

pub differ_read : {n : ℕ} (x : RawUnion) (rest : List (Position × RawUnion)) → Back n a_union union union_tokens unplaced_union x → (bracket_union x >>- as_differ) ≡ None → Words n a_union union union_tokens unplaced_union rest → Back n a_differ differ differ_tokens unplaced_differ (differ_tree (extended (x ∷ [], []) rest))
unfolding differ
differ_read x rest h b k = worded_operation a_union a_differ union_tokens unplaced_union differ_tokens unplaced_differ words.Differ differ_tree differ_parts (λ z. bracket_union z >>- as_differ) refl differ-tokens differ-bare x rest h (λ d e. stays _ _ bracket_union as_differ bracket_union_kept differ_kept x d e b) k

-- the operands of a condition, whose first is never joined
abbrev cand_parts : RawCand → Operands RawCmp Position
cand_parts x = ((out-RawCand x).operands, (out-RawCand x).operators)

abbrev cond_parts : RawCond → Operands RawCand Position
cond_parts x = ((out-RawCond x).operands, (out-RawCond x).operators)

pub cand_read : {n : ℕ} (x : RawCmp) (rest : List (Position × RawCmp)) → Back n a_cmp cmp cmp_tokens unplaced_cmp x → Words n a_cmp cmp cmp_tokens unplaced_cmp rest → Back n a_cand cand cand_tokens unplaced_cand (cand_tree (extended (x ∷ [], []) rest))
unfolding cand
cand_read x rest h k = worded_operation a_cmp a_cand cmp_tokens unplaced_cmp cand_tokens unplaced_cand words.And cand_tree cand_parts (λ z. None) refl cand-tokens (λ xs ops. cand_rolled bare (record { operands = xs; operators = ops })) x rest h (λ d e. refl) k

pub cond_read : {n : ℕ} (x : RawCand) (rest : List (Position × RawCand)) → Back n a_cand cand cand_tokens unplaced_cand x → Words n a_cand cand cand_tokens unplaced_cand rest → Back n a_cond condition cond_tokens unplaced_cond (cond_tree (extended (x ∷ [], []) rest))
unfolding condition
cond_read x rest h k = worded_operation a_cand a_cond cand_tokens unplaced_cand cond_tokens unplaced_cond words.Or cond_tree cond_parts (λ z. None) refl cond-tokens (λ xs ops. cond_rolled bare (record { operands = xs; operators = ops })) x rest h (λ d e. refl) k

-- ---- terms, sums and comparisons

pub term_read : {n : ℕ} (x : RawDiffer) (rest : List (RawFactorSign × RawDiffer)) → Back n a_differ differ differ_tokens unplaced_differ x → (bracket_differ x >>- as_term) ≡ None → Each (λ z. Back n a_factor_sign factor_sign plain_factor unplaced_factor z.0 × Back n a_differ differ differ_tokens unplaced_differ z.1) rest
    → Back n a_term term term_tokens unplaced_term (term_tree (extended (x ∷ [], []) rest))
unfolding term
term_read {n = n} x rest h b k =
    operation_read a_differ a_factor_sign a_term differ_tokens unplaced_differ unplaced_factor term_tokens unplaced_term term_tree term-bare term_parts (λ z. bracket_differ z >>- as_term) x rest h (λ d e. stays _ _ bracket_differ as_term bracket_differ_kept term_kept x d e b)
    (operated_read differ_tokens unplaced_differ (λ s. multiply_symbol s.op) unplaced_factor (Back n a_factor_sign factor_sign plain_factor unplaced_factor) (λ z r. r) rest k) (term-tokens (x ∷ map (λ z. z.1) rest) (map (λ z. z.0) rest))

abbrev sum_with : Option RawSign → List RawTerm → List RawSign → RawSum
sum_with o xs ops = roll-RawSum (record { sign = o; operands = xs; operators = ops })

sum_is : (o : Option RawSign) (x : RawTerm) (rest : List (RawSign × RawTerm)) → sum_tree (more_terms (o, (x ∷ [], [])) rest) ≡ sum_with o (x ∷ map (λ z. z.1) rest) (map (λ z. z.0) rest)
sum_is o x rest = ap (λ (y : Operands RawTerm RawSign). sum_with o y.0 y.1) (extended_is (x ∷ []) [] rest)

sum_same : (o c : Option RawSign) (x d : RawTerm) (rest zs : List (RawSign × RawTerm)) → option_map unplaced_sign c ≡ option_map unplaced_sign o → unplaced_term d ≡ unplaced_term x → AreSame a_term a_sign unplaced_term unplaced_sign zs rest
    → unplaced_sum (sum_tree (more_terms (c, (d ∷ [], [])) zs)) ≡ unplaced_sum (sum_tree (more_terms (o, (x ∷ [], [])) rest))
sum_same o c x d rest zs l e h =
    ap unplaced_sum (sum_is c d zs) ∙ sum-bare c (d ∷ map (λ z. z.1) zs) (map (λ z. z.0) zs)
    ∙ ap (λ u. sum_with u (map unplaced_term (d ∷ map (λ z. z.1) zs)) (map unplaced_sign (map (λ z. z.0) zs))) l
    ∙ ap₂ (λ u v. sum_with (option_map unplaced_sign o) u v) (ap₂ (λ y ys. y ∷ ys) e h.operands) h.operators
    ∙ sym (sum-bare o (x ∷ map (λ z. z.1) rest) (map (λ z. z.0) rest)) ∙ ap unplaced_sum (sym (sum_is o x rest))

abbrev Signs : ℕ → List (RawSign × RawTerm) → Type 0
Signs n rest = Each (λ z. Back n a_sign sign plain_sign unplaced_sign z.0 × Back n a_term term term_tokens unplaced_term z.1) rest

terms_read : {n : ℕ} (rest : List (RawSign × RawTerm)) → Signs n rest → Reads n (a_list (a_pair a_sign a_term)) (many (sign · term)) (behind_operators (map (λ s. add_symbol s.op) (map (λ z. z.0) rest)) (map term_tokens (map (λ z. z.1) rest))) (λ zs. AreSame a_term a_sign unplaced_term unplaced_sign zs rest)
terms_read {n = n} rest k = operated_read term_tokens unplaced_term (λ s. add_symbol s.op) unplaced_sign (Back n a_sign sign plain_sign unplaced_sign) (λ z r. r) rest k

plain_started : (x d : RawTerm) (c : Option RawSign) (rest zs : List (RawSign × RawTerm)) → c ≡ None → unplaced_term d ≡ unplaced_term x → (bracket_term x >>- as_sum) ≡ None → AreSame a_term a_sign unplaced_term unplaced_sign zs rest
    → unplaced_sum (sum_tree (more_terms (sum_start c d) zs)) ≡ unplaced_sum (sum_tree (more_terms (None, (x ∷ [], [])) rest))
plain_started x d c rest zs q e b h =
    ap (λ o. unplaced_sum (sum_tree (more_terms (sum_start o d) zs))) q ∙ ap (λ o. unplaced_sum (sum_tree (more_terms (terms_of o d) zs))) (stays _ _ bracket_term as_sum bracket_term_kept sum_kept x d e b) ∙ sum_same None None x d rest zs refl e h

pub plain_sum_read : {n : ℕ} (x : RawTerm) (rest : List (RawSign × RawTerm)) → Back n a_term term term_tokens unplaced_term x → (bracket_term x >>- as_sum) ≡ None → Signs n rest → Back n a_sum sum sum_tokens unplaced_sum (sum_tree (more_terms (None, (x ∷ [], [])) rest))
unfolding sum
plain_sum_read x rest h b k = respelled (ap sum_tokens (sum_is None x rest) ∙ sum-tokens None (x ∷ map (λ z. z.1) rest) (map (λ z. z.0) rest))
    (mapped (absent_read & h & terms_read rest k) (λ z p. plain_started x z.1.0 z.0 rest z.1.1 p.0 p.1.0 b p.1.1)) (λ z q. q)

signed_started : (s : RawSign) (x d : RawTerm) (c : Option RawSign) (rest zs : List (RawSign × RawTerm)) → IsSome (λ t. unplaced_sign t ≡ unplaced_sign s) c → unplaced_term d ≡ unplaced_term x → AreSame a_term a_sign unplaced_term unplaced_sign zs rest
    → unplaced_sum (sum_tree (more_terms (sum_start c d) zs)) ≡ unplaced_sum (sum_tree (more_terms (Some s, (x ∷ [], [])) rest))
signed_started s x d None rest zs q e h = absurd q
signed_started s x d (Some t) rest zs q e h = sum_same (Some s) (Some t) x d rest zs (ap (λ v. Some v) q) e h

pub signed_sum_read : {n : ℕ} (s : RawSign) (x : RawTerm) (rest : List (RawSign × RawTerm)) → Back n a_sign sign plain_sign unplaced_sign s → Back n a_term term term_tokens unplaced_term x → Signs n rest → Back n a_sum sum sum_tokens unplaced_sum (sum_tree (more_terms (Some s, (x ∷ [], [])) rest))
unfolding sum
signed_sum_read s x rest g h k = respelled (ap sum_tokens (sum_is (Some s) x rest) ∙ sum-tokens (Some s) (x ∷ map (λ z. z.1) rest) (map (λ z. z.0) rest))
    (mapped (present_read g & h & terms_read rest k) (λ z p. signed_started s x z.1.0 z.0 rest z.1.1 p.0 p.1.0 p.1.1)) (λ z q. q)

abbrev compared_as : RawSum → RawCompareSign → RawSum → RawCmp
compared_as x op y = roll-RawCmp (record { left = x; operator = op; right = y })

pub cmp_read : {n : ℕ} (x y : RawSum) (op : RawCompareSign) → Back n a_sum sum sum_tokens unplaced_sum x → Back n a_compare_sign comparator plain_compare unplaced_compare op → Back n a_sum sum sum_tokens unplaced_sum y → Back n a_cmp cmp cmp_tokens unplaced_cmp (comparison_tree x op y)
unfolding cmp
cmp_read x y op h c k = respelled (cmp-tokens x op y) (mapped (h & c & k)
    (λ z p. cmp-bare z.0 z.1.0 z.1.1 ∙ ap (λ u. compared_as u (unplaced_compare z.1.0) (unplaced_sum z.1.1)) p.0 ∙ ap₂ (λ u v. compared_as (unplaced_sum x) u v) p.1.0 p.1.1 ∙ sym (cmp-bare x op y))) (λ z q. q)

-- ---- expressions

pub sum_expr_read : {n : ℕ} (x : RawSum) → Back n a_sum sum sum_tokens unplaced_sum x → bracket_sum x ≡ None → Expr n (expr_tree.Sum x)
unfolding expr
sum_expr_read x h b = respelled (sum_expr-tokens x) (right (mapped h
    (λ z e. ap (λ o. unplaced_expr (expr_or o z)) (sum_stays x z e b) ∙ same_expr (layer.Sum z) (layer.Sum x) (expr_tree.rolls-Sum z) (expr_tree.rolls-Sum x) (ap (λ v. roll-RawExpr (layer.Sum v)) e)))) (λ z q. q)

pub choice_read : {n : ℕ} (at : Position) (c : RawCond) (x y : RawExpr) → Back n a_cond condition cond_tokens unplaced_cond c → Expr n x → Expr n y → Expr (suc n) (expr_tree.Choice at c x y)
unfolding expr rule
choice_read at c x y h k l = respelled (choice-tokens at c x y) (left (mapped (opened_word words.If refl (h & second (word_is words.Then refl) k & second (word_is words.Else refl) l))
    (λ z p. same_expr (layer.Choice (position z.0) z.1.0 z.1.1.0 z.1.1.1) (layer.Choice at c x y) (expr_tree.rolls-Choice (position z.0) z.1.0 z.1.1.0 z.1.1.1) (expr_tree.rolls-Choice at c x y)
    (ap (λ u. roll-RawExpr (layer.Choice nowhere u (unplaced_expr z.1.1.0) (unplaced_expr z.1.1.1))) p.0 ∙ ap₂ (λ u v. roll-RawExpr (layer.Choice nowhere (unplaced_cond c) u v)) p.1.0 p.1.1)))) (λ z q. q)
