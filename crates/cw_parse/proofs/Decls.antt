-- Parts that open no level, read among those that do.
use Rattle.std.proofs.Common.{◌≡◌, ℕ, Bool, true, false, List, [], ◌∷◌, Option, Some, None, Ok, Err, refl, sym, ap, subst, ◌∙◌}
use Rattle.cw_lex.specs.declared.token.TokenKind.TheVariants as kinds
use Rattle.cw_lex.specs.declared.token.Symbol.TheVariants as symbols
use Rattle.cw_lex.specs.declared.token.Word.TheVariants as words
use Rattle.cw_tree.specs.declared.leaf.RawType.{RawType}
use Rattle.cw_tree.specs.declared.items.RawData.{RawData}
use Rattle.cw_tree.specs.declared.statement.RawDecl.{RawDecl}
use Rattle.cw_tree.specs.declared.statement.RawDecl.TheVariants as decl_tree
use Rattle.cw_grammar.specs.Tokens.{Item}
use Rattle.cw_grammar.specs.declared.stop.Stop.{Stop}
use Rattle.cw_grammar.specs.Grammar.{Sort, a_from, an_option, a_type, a_data, a_decl, Value, Grammar, ◌·◌, ◌∣◌, ◌⇒◌, starts, first}
use Rattle.cw_grammar.specs.Rules.{number_type, int, sint, octal, symbol, ◌<*◌}
use Rattle.cw_grammar.specs.Statements.{from, singles, arrays, decl, worded_decl, proc_behind, data_table, overlay, ptag}
use Rattle.cw_grammar.specs.Reading.{Read, ◌>>=◌, Fails, Fault, syntax_at, deep_at, applied, read, reads, Gives}
use Rattle.cw_grammar.proofs.From.{from_reads, applied_map, from_first, from_other, first_one, second_of, some_applied}
use Rattle.cw_grammar.proofs.Failing.{fails_where}
use Rattle.cw_grammar.proofs.Flat.{flat, any_levels, flat_ok, flat_fails}
use Rattle.cw_parse_items.proofs.Typed.{decl_singles, decl_arrays, decl_proc}
use Rattle.cw_parse.proofs.Flat.{singles_flat, arrays_flat, worded_flat}

type_any : (n : ℕ) (ts us : List Item) (x : RawType) → reads 0 number_type ts ≡ Ok (x, us) → reads n number_type ts ≡ Ok (x, us)
unfolding number_type int sint octal
type_any n ts us x e = flat_ok n a_type number_type ts us x refl e

abbrev pub data_decl : Read RawData → Read RawDecl
data_decl o = o >>= λ y. Ok (decl_tree.Data y.0, y.1)

pub outer_singles : (n : ℕ) (ts us : List Item) (x : RawType) → starts ts (first number_type) ≡ true → reads 0 number_type ts ≡ Ok (x, us) → starts us (kinds.Name ∷ []) ≡ true → reads n (decl false) ts ≡ data_decl (applied x (reads 0 singles us))
unfolding decl singles number_type
outer_singles n ts us x t e f =
    let a = from_first n a_type a_decl number_type decl_singles (decl_arrays ∣ decl_proc) x ts us (type_any n ts us x e) f in
    let b = applied_map x (λ y. decl_tree.Data y) (reads n singles us) in
    let d = ap (λ (o : Read (Value (a_from a_type a_data))). data_decl (applied x o)) (any_levels n 0 (a_from a_type a_data) singles us singles_flat) in
    rw t (a ∙ b ∙ d)

pub outer_arrays : (n : ℕ) (ts us : List Item) (x : RawType) → starts ts (first number_type) ≡ true → reads 0 number_type ts ≡ Ok (x, us) → starts us (kinds.Name ∷ []) ≡ false → starts us (kinds.Word words.Array ∷ []) ≡ true
    → reads n (decl false) ts ≡ data_decl (applied x (reads 0 arrays us))
unfolding decl singles arrays number_type
outer_arrays n ts us x t e f g =
    let a = from_other n a_type a_decl number_type decl_singles (decl_arrays ∣ decl_proc) x ts us (type_any n ts us x e) f in
    let k = ap (λ (o : Read (Value (a_from a_type a_decl))). applied x o) (first_one n (a_from a_type a_decl) decl_arrays decl_proc us g) in
    let b = applied_map x (λ y. decl_tree.Data y) (reads n arrays us) in
    let d = ap (λ (o : Read (Value (a_from a_type a_data))). data_decl (applied x o)) (any_levels n 0 (a_from a_type a_data) arrays us arrays_flat) in
    rw t (a ∙ k ∙ b ∙ d)

pub outer_proc : (n : ℕ) (ts us : List Item) (x : RawType) → starts ts (first number_type) ≡ true → reads 0 number_type ts ≡ Ok (x, us) → starts us (kinds.Name ∷ []) ≡ false → starts us (kinds.Word words.Array ∷ []) ≡ false
    → applied (Some x) (reads n proc_behind us) ≡ reads n (decl false) ts
unfolding decl singles arrays number_type
outer_proc n ts us x t e f g =
    let a = from_other n a_type a_decl number_type decl_singles (decl_arrays ∣ decl_proc) x ts us (type_any n ts us x e) f in
    let k = ap (λ (o : Read (Value (a_from a_type a_decl))). applied x o) (second_of n (a_from a_type a_decl) decl_arrays decl_proc us g) in
    let b = some_applied x (reads n proc_behind us) in
    sym (rw t (a ∙ k ∙ b))

pub outer_worded : (n : ℕ) (ts : List Item) → starts ts (first number_type) ≡ false → starts ts (first worded_decl) ≡ true → reads 0 worded_decl ts ≡ reads n (decl false) ts
unfolding decl number_type
outer_worded n ts t e = sym (rw (t, e) (any_levels n 0 a_decl worded_decl ts worded_flat))

pub outer_bare : (n : ℕ) (ts : List Item) → starts ts (first number_type) ≡ false → starts ts (first worded_decl) ≡ false → applied {A = Option RawType} None (reads n proc_behind ts) ≡ reads n (decl false) ts
unfolding decl number_type
outer_bare n ts t e = sym (rw (t, e) refl)

pub data_ok : (n : ℕ) (ts vs : List Item) (o : Read RawData) (d : RawData) → reads n (decl false) ts ≡ data_decl o → o ≡ Ok (d, vs) → reads n (decl false) ts ≡ Ok (decl_tree.Data d, vs)
data_ok n ts vs o d e f = e ∙ rw f refl

pub data_fails : (s : Stop) (n : ℕ) (ts : List Item) (o : Read RawData) → reads n (decl false) ts ≡ data_decl o → Fails s o → Fails s (reads n (decl false) ts)
data_fails s n ts o e failed = fails_where s o (reads n (decl false) ts) (λ f is. e ∙ rw is refl) failed

pub decl_starts : (p : Bool) (ts : List Item) (b : Bool) → starts ts (first (decl p)) ≡ b → starts ts (first (decl p <* symbol symbols.Semicolon)) ≡ b
unfolding decl number_type worded_decl data_table overlay proc_behind ptag
decl_starts true ts b e = e
decl_starts false ts b e = e

type_any_fails : (s : Stop) (n : ℕ) (ts : List Item) → Fails s (reads 0 number_type ts) → Fails s (reads n number_type ts)
unfolding number_type int sint octal
type_any_fails s n ts h = flat_fails n a_type number_type ts s refl h

pub outer_type_fails : (s : Stop) (n : ℕ) (ts : List Item) → starts ts (first number_type) ≡ true → Fails s (reads 0 number_type ts) → Fails s (reads n (decl false) ts)
unfolding decl number_type
outer_type_fails s n ts t failed = fails_where s (reads n number_type ts) (reads n (decl false) ts) (λ f is. rw t (rw is refl)) (type_any_fails s n ts failed)
