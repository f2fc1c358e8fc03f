-- A definition is read as the definition of its step says.
use Rattle.std.proofs.Common.{◌≡◌, ℕ, List, length, Option, Some, subst, ap, refl}
use Rattle.std.specs.Prelude.{IfSome}
use Rattle.std.specs.List.{flat_map}
use Rattle.std.specs.Str.{str_to_ascii_uppercase}
use Rattle.cw_lex.specs.Lexical.{view}
use Rattle.cw_macro.specs.declared.definition.Piece.{Piece}
use Rattle.cw_macro.specs.declared.definition.Heading.{Heading as HeadingRead}
use Rattle.cw_macro.specs.Expansion.{Leveled, Heading, Expansion, Definitions, defining, heading_of, redefined}
use Rattle.cw_macro.specs.Premises.{Each, IsPlaced}
use Rattle.cw_macro.specs.Views.{Follows, IsBodyRead, table_of, HasHeading, left_of, expansion_of, parts_of, refuses, lacks_body, defines}
use Rattle.cw_macro.proofs.Next.{IsRead, heading_rest}
use Rattle.cw_macro.proofs.Steps.{defined_is}
use Rattle.cw_macro.proofs.expansion.Expansion.define.Goals as goal

read : (line : ℕ) (ts rest : List Leveled) (h : HeadingRead) (x : HasHeading h (λ line. heading_of line ts) rest) → Each IsPlaced ts
    → IsRead (length ts) line (record { line = line; name = str_to_ascii_uppercase h.name.now; parameters = x.names; string = view h.string }) rest
read line ts rest h x p =
    let P : Option (Heading × List Leveled) → Type 0 = λ o. IfSome o (λ y. IsRead (length ts) line y.0 y.1) in
    subst P (x.is line) (heading_rest line ts p)

pub returns-in_default : goal.returns-in_default
returns-in_default c =
    let none = rw c.in_default.is at c.in_ok-heading.ensures in
    refuses (ap (defining c.args.line) (none c.args.line))

pub read_body-requires-clause-string : goal.read_body-requires-clause-string
read_body-requires-clause-string c = (read c.args.line (left_of c.args.self.now.left) (left_of c.read_heading.new.left) c.in-Some.heading (rw c.in-Some.is at c.in_ok-heading.ensures) c.requires).string

pub read_body-requires-clause-within : goal.read_body-requires-clause-within
read_body-requires-clause-within c = (read c.args.line (left_of c.args.self.now.left) (left_of c.read_heading.new.left) c.in-Some.heading (rw c.in-Some.is at c.in_ok-heading.ensures) c.requires).within

pub read_body-requires-clause-line : goal.read_body-requires-clause-line
read_body-requires-clause-line c = (read c.args.line (left_of c.args.self.now.left) (left_of c.read_heading.new.left) c.in-Some.heading (rw c.in-Some.is at c.in_ok-heading.ensures) c.requires).string_line

pub returns-in_default-2 : goal.returns-in_default-2
returns-in_default-2 c =
    let x : HasHeading c.in-Some.heading (λ line. heading_of line (left_of c.args.self.now.left)) (left_of c.read_heading.new.left) = rw c.in-Some.is at c.in_ok-heading.ensures in
    let none = rw c.in_default-2.is at c.in_ok-body.ensures in
    lacks_body (ap (defining c.args.line) (x.is c.args.line)) (none x.names x.numbering) refl

pub define-requires : goal.define-requires
define-requires c = (read c.args.line (left_of c.args.self.now.left) (left_of c.read_heading.new.left) c.in-Some.heading (rw c.in-Some.is at c.in_ok-heading.ensures) c.requires).name

step_defined : (e : Expansion) (line : ℕ) (ts rest : List Leveled) (h : Heading) (d : Definitions) (n : ℕ) (body : List Piece) → heading_of line ts ≡ Some (h, rest) → IsBodyRead h.string h.parameters (Some body) → n ≡ length h.parameters
    → d ≡ redefined e.definitions h.name (Some (record { parameters = n; body = flat_map parts_of body })) → Follows e (defining line (heading_of line ts)) (record e { definitions = d; left = rest })
step_defined e line ts rest h d n body s b k r = defines {body = b.0} (ap (defining line) s) b.1 (defined_is e h rest b.0 d n (flat_map parts_of body) r k b.2)

pub returns : goal.returns
returns c =
    let x : HasHeading c.in-Some.heading (λ line. heading_of line (left_of c.args.self.now.left)) (left_of c.read_heading.new.left) = rw c.in-Some.is at c.in_ok-heading.ensures in
    let h : Heading = record { line = c.args.line; name = str_to_ascii_uppercase c.in-Some.heading.name.now; parameters = x.names; string = view c.in-Some.heading.string } in
    step_defined (expansion_of c.args.self.now) c.args.line (left_of c.args.self.now.left) (left_of c.read_heading.new.left) h (table_of c.define.new.self) c.len-parameters.result c.in-Some-2.body
    (x.is c.args.line) ((rw c.in-Some-2.is at c.in_ok-body.ensures) x.names x.numbering) (c.len-parameters.ensures x.names x.numbering) c.in_ok-define.ensures
