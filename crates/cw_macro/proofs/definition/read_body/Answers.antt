-- What the lexer says of the text between the quotes, it says of the body.
use Rattle.std.proofs.Common.{◌≡◌, Bool, true, false, sym, ◌∙◌, ap, map, List}
use Rattle.std.specs.List.{list_any}
use Rattle.cw_lex.specs.declared.token.Token.{Token}
use Rattle.cw_lex.specs.Lexical.{view}
use Rattle.cw_macro.specs.Expansion.{defines, redefining, part}
use Rattle.cw_macro.proofs.Lists.{list_any-map}
use Rattle.cw_macro.proofs.Sound.{within_body, read_fault, read_tokens}
use Rattle.cw_macro.proofs.definition.read_body.Goals as goal

any_told : (ts us : List Token) (r b : Bool) → r ≡ list_any (λ t. defines t.kind) us → us ≡ ts → r ≡ b → list_any (λ t. defines t.kind) (map view ts) ≡ b
any_told ts us r b e s h = list_any-map (λ t. defines t.kind) view ts ∙ ap (list_any (λ t. defines t.kind)) (sym s) ∙ sym e ∙ h

pub returns-in_default : goal.returns-in_default
returns-in_default c names h = read_fault (view c.args.string) c.quote_length-quote.result c.in-Err.fault c.quote_length-quote.ensures c.in_default.not-NoMemory c.in-Err.ensures

pub returns-then-define_any : goal.returns-then-define_any
returns-then-define_any c names h =
    redefining (read_tokens (view c.args.string) c.quote_length-quote.result c.in-Ok.tokens c.quote_length-quote.ensures c.in-Ok.ensures)
    (any_told c.in-Ok.tokens c.as_slice-tokens.result.now c.define_any.result true c.define_any.ensures c.as_slice-tokens.ensures c.if-define_any.true)

pub pieces-requires : goal.pieces-requires
pieces-requires c =
    rw c.as_slice-tokens.ensures (within_body (view c.args.string) (map view c.in-Ok.tokens) c.requires.string c.requires.within (read_tokens (view c.args.string) c.quote_length-quote.result c.in-Ok.tokens c.quote_length-quote.ensures c.in-Ok.ensures))

pub returns : goal.returns
returns c names h = (
  map view c.in-Ok.tokens,
  record {
    tokenizes = read_tokens (view c.args.string) c.quote_length-quote.result c.in-Ok.tokens c.quote_length-quote.ensures c.in-Ok.ensures;
    defines_nothing = any_told c.in-Ok.tokens c.as_slice-tokens.result.now c.define_any.result false c.define_any.ensures c.as_slice-tokens.ensures c.if-define_any.false;
  },
  c.in_ok-pieces.ensures names h ∙ ap (λ (ts : List Token). map (part names) (map view ts)) c.as_slice-tokens.ensures,
)
