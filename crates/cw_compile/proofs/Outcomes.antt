-- What comes of a text is one thing.
use Rattle.std.proofs.Common.{◌≡◌, ◌≢◌, ℕ, List, map, length, Some, None, Ok, Err, refl, sym, ap, subst, ◌∙◌}
use Rattle.cw_lex.specs.declared.token.Form.TheVariants.{Source}
use Rattle.cw_lex.specs.declared.token.LexFault.{LexFault}
use Rattle.cw_lex.specs.Lexical.{Lexeme, first_place, HasOneList, HasOneFault, HasNotBoth as HasNotBothLexical}
use Rattle.cw_macro.specs.declared.fault.MacroFault.{MacroFault}
use Rattle.cw_macro.specs.Expansion.{Expands, FailsToExpand, HasOneOutcome}
use Rattle.cw_tree.specs.declared.segment.Raw.{Raw}
use Rattle.cw_grammar.specs.declared.fault.ParseFault.{ParseFault}
use Rattle.cw_grammar.specs.Tokens.{numbered}
use Rattle.cw_grammar.specs.Grammar.{a_raw}
use Rattle.cw_grammar.specs.Derives.{Derives}
use Rattle.cw_grammar.specs.Statements as grammar
use Rattle.cw_grammar.proofs.Table.{text_predictive}
use Rattle.cw_grammar.proofs.Longest.{one_tree}
use Rattle.cw_scope.specs.declared.resolve.Named.{Named}
use Rattle.cw_scope.specs.declared.resolve.ScopeFault.{ScopeFault}
use Rattle.cw_scope.specs.declared.resolve.ScopeFault.TheVariants as naming
use Rattle.cw_scope.specs.Outcome.{Resolves, MatchesFault}
use Rattle.cw_scope.specs.Text.{first_name_fault, resolutions_of, declarations_of, signatures_of}
use Rattle.cw_type.specs.declared.check.TypeFault.{TypeFault}
use Rattle.cw_type.specs.declared.check.TypeFault.TheVariants as typing
use Rattle.cw_type.specs.Outcome.{Judges, MatchesFault as MatchesTypeFault}
use Rattle.cw_type.specs.judge.Judged.{first_type_fault}
use Rattle.cw_unit.specs.declared.unit.Unit.{Unit as SourceUnit}
use Rattle.cw_make.specs.Made.{unit_of}
use Rattle.cw_compile.specs.declared.fault.Refusal.{Refusal}
use Rattle.cw_compile.specs.declared.fault.Refusal.TheVariants.{Lex, Macro, Parse, Scope, Typing}
use Rattle.cw_compile.specs.Texts.{ExpandsTo, HasTree, HasNames, HasTypes, IsUnitOf, IsRefused}
use Rattle.cw_compile.specs.Outcomes.{HasOneUnit, HasOneRefusal, HasNotBoth, HasFewTokens, CountsTokens}
use Rattle.cw_compile.proofs.Few.{few_tokens}
use Rattle.cw_compile.proofs.Counted.{counted}
use Rattle.cw_compile.proofs.Faults as syntax
use Rattle.cw_compile.proofs.Places.{same_unit_of, same_type_fault, unit_tokens}
use Rattle.cw_compile.proofs.Told.{one_name_fault, name_fault, one_type_fault, type_fault}

-- the laws of the passes that this stands on
pub record Given : Type 0 where
  pub one_list : HasOneList
  pub one_fault : HasOneFault
  pub not_both : HasNotBothLexical
  pub one_outcome : HasOneOutcome

module _ (given : Given) (text : List ℕ) where
  -- ---- tokens

  one_expanded : (a b : List Lexeme) → ExpandsTo text a → ExpandsTo text b → a ≡ b
  one_expanded a b x y =
      let same : x.tokens ≡ y.tokens = given.one_list Source first_place text x.tokens y.tokens x.tokenizes y.tokenizes in
      let one : Ok a ≡ Ok b = given.one_outcome y.tokens (Ok a) (Ok b) (subst (λ ts. Expands ts a) same x.expands) y.expands in
      let ok : a ≡ b = cc in
      ok

  expands_not_faulty : (ex : List Lexeme) → ExpandsTo text ex → (fault : LexFault) → IsRefused text (Lex fault) → ⊥
  expands_not_faulty ex x fault faulty = given.not_both Source first_place text x.tokens fault x.tokenizes faulty

  expands_not_failing : (ex : List Lexeme) → ExpandsTo text ex → (fault : MacroFault) → IsRefused text (Macro fault) → ⊥
  expands_not_failing ex x fault (tokens, tokenizes, fails) =
      let same : tokens ≡ x.tokens = given.one_list Source first_place text tokens x.tokens tokenizes x.tokenizes in
      let clash : Err fault ≡ Ok ex = given.one_outcome x.tokens (Err fault) (Ok ex) (subst (λ ts. FailsToExpand ts fault) same fails) x.expands in
      absurd (cc)

  -- ---- trees

  derives_at : (ex : List Lexeme) (raw : Raw) (x : HasTree text raw) → ExpandsTo text ex → Derives 64 a_raw grammar.text (numbered 1 ex) raw
  derives_at ex raw x expands = subst (λ ls. Derives 64 a_raw grammar.text (numbered 1 ls) raw) (one_expanded x.expanded ex x.expands expands) x.derives

  one_raw : (a b : Raw) → HasTree text a → HasTree text b → a ≡ b
  one_raw a b x y = one_tree 64 a_raw grammar.text (numbered 1 y.expanded) a b text_predictive (derives_at y.expanded a x y.expands) y.derives

  tree_not_faulty : (raw : Raw) → HasTree text raw → (fault : ParseFault) → IsRefused text (Parse fault) → ⊥
  tree_not_faulty raw x fault (ts, expands, fails, other) = syntax.no_fault x.expanded ts fault raw (one_expanded _ x.expanded expands x.expands) fails other x.derives

  -- ---- names

  same_tree : (m n : Named) → HasNames text m → HasNames text n → m.raw.now ≡ n.raw.now
  same_tree m n x y = one_raw m.raw.now n.raw.now x.tree y.tree

  same_declarations : (m n : Named) → HasNames text m → HasNames text n → m.declarations ≡ n.declarations
  same_declarations m n x y = x.resolves.3 ∙ ap declarations_of (same_tree m n x y) ∙ sym y.resolves.3

  same_signatures : (m n : Named) → HasNames text m → HasNames text n → m.signatures ≡ n.signatures
  same_signatures m n x y = x.resolves.4 ∙ ap signatures_of (same_tree m n x y) ∙ sym y.resolves.4

  same_uses : (m n : Named) → HasNames text m → HasNames text n → m.uses ≡ n.uses
  same_uses m n x y = x.resolves.2 ∙ ap resolutions_of (same_tree m n x y) ∙ sym y.resolves.2

  same_unit : (m n : Named) → HasNames text m → HasNames text n → unit_of m ≡ unit_of n
  same_unit m n x y = same_unit_of m n (same_tree m n x y) (same_declarations m n x y) (same_signatures m n x y) (same_uses m n x y)

  same_types : (m n : Named) → HasNames text m → HasNames text n → first_type_fault m ≡ first_type_fault n
  same_types m n x y = same_type_fault m n (same_tree m n x y) (same_declarations m n x y) (same_signatures m n x y) (same_uses m n x y)

  names_not_faulty : (n : Named) → HasNames text n → (fault : ScopeFault) → IsRefused text (Scope fault) → ⊥
  names_not_faulty n x fault (raw, has, fails, other) =
      let f = name_fault raw fault fails other in
      let none : first_name_fault raw ≡ None = ap first_name_fault (one_raw raw n.raw.now has x.tree) ∙ x.resolves.0 in
      let clash : Some f.0 ≡ None = sym f.1 ∙ none in
      absurd (cc)

  -- ---- types

  types_not_faulty : (n : Named) → HasTypes text n → (fault : TypeFault) → IsRefused text (Typing fault) → ⊥
  types_not_faulty n x fault (m, has, fails, other) =
      let f = type_fault m fault fails other in
      let none : first_type_fault m ≡ None = same_types m n has x.names ∙ x.judges in
      let clash : Some f.0 ≡ None = sym f.1 ∙ none in
      absurd (cc)

  -- ---- what comes of the text

  one_unit : (u v : SourceUnit) → IsUnitOf text u → IsUnitOf text v → u ≡ v
  one_unit u v x y = x.unit_is ∙ same_unit x.named y.named x.has.names y.has.names ∙ sym y.unit_is

  not_refused : (u : SourceUnit) (f : Refusal) → IsUnitOf text u → IsRefused text f → ⊥
  not_refused u (Lex fault) x y = expands_not_faulty x.has.names.tree.expanded x.has.names.tree.expands fault y
  not_refused u (Macro fault) x y = expands_not_failing x.has.names.tree.expanded x.has.names.tree.expands fault y
  not_refused u (Parse fault) x y = tree_not_faulty x.named.raw.now x.has.names.tree fault y
  not_refused u (Scope fault) x y = names_not_faulty x.named x.has.names fault y
  not_refused u (Typing fault) x y = types_not_faulty x.named x.has fault y

  one_refusal : (f g : Refusal) → IsRefused text f → IsRefused text g → f ≡ g
  one_refusal (Lex f) (Lex g) x y = ap Lex (given.one_fault Source first_place text f g x y)
  one_refusal (Lex f) (Macro g) x (ts, tokenizes, fails) = absurd (given.not_both Source first_place text ts f tokenizes x)
  one_refusal (Lex f) (Parse g) x (ts, expands, fails, other) = absurd (expands_not_faulty _ expands f x)
  one_refusal (Lex f) (Scope g) x (raw, has, fails, other) = absurd (expands_not_faulty has.expanded has.expands f x)
  one_refusal (Lex f) (Typing g) x (n, has, fails, other) = absurd (expands_not_faulty has.tree.expanded has.tree.expands f x)
  one_refusal (Macro f) (Lex g) (ts, tokenizes, fails) y = absurd (given.not_both Source first_place text ts g tokenizes y)
  one_refusal (Macro f) (Macro g) (is, ti, fi) (js, tj, fj) =
      let same : is ≡ js = given.one_list Source first_place text is js ti tj in
      let one : Err f ≡ Err g = given.one_outcome js (Err f) (Err g) (subst (λ ks. FailsToExpand ks f) same fi) fj in
      let err : f ≡ g = cc in
      ap Macro err
  one_refusal (Macro f) (Parse g) x (ts, expands, fails, other) = absurd (expands_not_failing _ expands f x)
  one_refusal (Macro f) (Scope g) x (raw, has, fails, other) = absurd (expands_not_failing has.expanded has.expands f x)
  one_refusal (Macro f) (Typing g) x (n, has, fails, other) = absurd (expands_not_failing has.tree.expanded has.tree.expands f x)
  one_refusal (Parse f) (Lex g) (ts, expands, fails, other) y = absurd (expands_not_faulty _ expands g y)
  one_refusal (Parse f) (Macro g) (ts, expands, fails, other) y = absurd (expands_not_failing _ expands g y)
  one_refusal (Parse f) (Parse g) (ts, x, p, a) (us, y, q, b) = ap Parse (syntax.one_fault _ ts us f g (one_expanded _ _ x y) refl p q a b)
  one_refusal (Parse f) (Scope g) x (raw, has, fails, other) = absurd (tree_not_faulty raw has f x)
  one_refusal (Parse f) (Typing g) x (n, has, fails, other) = absurd (tree_not_faulty n.raw.now has.tree f x)
  one_refusal (Scope f) (Lex g) (raw, has, fails, other) y = absurd (expands_not_faulty has.expanded has.expands g y)
  one_refusal (Scope f) (Macro g) (raw, has, fails, other) y = absurd (expands_not_failing has.expanded has.expands g y)
  one_refusal (Scope f) (Parse g) (raw, has, fails, other) y = absurd (tree_not_faulty raw has g y)
  one_refusal (Scope f) (Scope g) (a, x, p, other) (b, y, q, also) =
      let M : Raw → Type 0 = λ raw. MatchesFault raw f in
      ap Scope (one_name_fault b f g (subst M (one_raw a b x y) p) q other also)
  one_refusal (Scope f) (Typing g) x (n, has, fails, other) = absurd (names_not_faulty n has f x)
  one_refusal (Typing f) (Lex g) (n, has, fails, other) y = absurd (expands_not_faulty has.tree.expanded has.tree.expands g y)
  one_refusal (Typing f) (Macro g) (n, has, fails, other) y = absurd (expands_not_failing has.tree.expanded has.tree.expands g y)
  one_refusal (Typing f) (Parse g) (n, has, fails, other) y = absurd (tree_not_faulty n.raw.now has.tree g y)
  one_refusal (Typing f) (Scope g) (n, has, fails, other) y = absurd (names_not_faulty n has g y)
  one_refusal (Typing f) (Typing g) (m, x, p, other) (n, y, q, also) = ap Typing (one_type_fault m n f g (same_types m n x y) p q other also)

  counts : (u : SourceUnit) (ex : List Lexeme) → IsUnitOf text u → ExpandsTo text ex → u.tokens ≡ length ex
  counts u ex x expands =
      let raw = x.named.raw.now in
      ap (λ (v : SourceUnit). v.tokens) x.unit_is ∙ unit_tokens x.named ∙ counted 64 ex raw (derives_at ex raw x.has.names.tree expands) (few_tokens expands.tokens ex expands.expands)

pub has_one_unit : Given → HasOneUnit
has_one_unit given text u v x y = one_unit given text u v x y

pub has_one_refusal : Given → HasOneRefusal
has_one_refusal given text f g x y = one_refusal given text f g x y

pub has_not_both : Given → HasNotBoth
has_not_both given text u f x y = not_refused given text u f x y

pub has_few_tokens : HasFewTokens
has_few_tokens text expanded x = few_tokens x.tokens expanded x.expands

pub counts_tokens : Given → CountsTokens
counts_tokens given text u ex x expands = counts given text u ex x expands
