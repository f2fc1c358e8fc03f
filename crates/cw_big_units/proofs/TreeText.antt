-- The trees of the texts, written out.
use Rattle.std.proofs.Common.{ℕ, Bool, true, false, List, [], ◌∷◌, None, codes}
use Rattle.cw_tree.specs.declared.leaf.Position.{Position}
use Rattle.cw_tree.specs.declared.leaf.RawName.{RawName}
use Rattle.cw_tree.specs.declared.leaf.RawInt.TheVariants as int_tree
use Rattle.cw_tree.specs.declared.leaf.RawSint.{RawSint}
use Rattle.cw_tree.specs.declared.leaf.RawType.{RawType}
use Rattle.cw_tree.specs.declared.leaf.RawType.TheVariants as type_tree
use Rattle.cw_tree.specs.declared.leaf.RawSign.{RawSign}
use Rattle.cw_tree.specs.declared.leaf.AddOp.TheVariants as adds
use Rattle.cw_tree.specs.declared.leaf.RawFactorSign.{RawFactorSign}
use Rattle.cw_tree.specs.declared.leaf.MulOp.TheVariants as muls
use Rattle.cw_tree.specs.declared.expression.RawExpr.{RawExpr}
use Rattle.cw_tree.specs.declared.expression.RawExpr.TheVariants as expr_tree
use Rattle.cw_tree.specs.declared.expression.RawSum.{roll-RawSum}
use Rattle.cw_tree.specs.declared.expression.RawTerm.{RawTerm, roll-RawTerm}
use Rattle.cw_tree.specs.declared.expression.RawDiffer.{RawDiffer, roll-RawDiffer}
use Rattle.cw_tree.specs.declared.expression.RawUnion.{roll-RawUnion}
use Rattle.cw_tree.specs.declared.expression.RawMask.{RawMask, roll-RawMask}
use Rattle.cw_tree.specs.declared.expression.RawPrim.{RawPrim, roll-RawPrim}
use Rattle.cw_tree.specs.declared.expression.RawPrimary.{RawPrimary}
use Rattle.cw_tree.specs.declared.expression.RawPrimary.TheVariants as primary_tree
use Rattle.cw_tree.specs.declared.expression.RawRef.{RawRef}
use Rattle.cw_tree.specs.declared.expression.RawRef.TheVariants as ref_tree
use Rattle.cw_tree.specs.declared.items.RawData.TheVariants as data_tree
use Rattle.cw_tree.specs.declared.statement.RawFelem.TheVariants as felem_tree
use Rattle.cw_tree.specs.declared.statement.RawPtag.TheVariants as ptag_tree
use Rattle.cw_tree.specs.declared.statement.RawDecl.{RawDecl}
use Rattle.cw_tree.specs.declared.statement.RawDecl.TheVariants as decl_tree
use Rattle.cw_tree.specs.declared.statement.RawForm.TheVariants as form_tree
use Rattle.cw_tree.specs.declared.statement.RawSimple.{RawSimple}
use Rattle.cw_tree.specs.declared.statement.RawSimple.TheVariants as simple_tree
use Rattle.cw_tree.specs.declared.statement.RawStmt.{RawStmt, roll-RawStmt}
use Rattle.cw_tree.specs.declared.statement.RawBlock.{roll-RawBlock}
use Rattle.cw_tree.specs.declared.segment.RawIps.TheVariants as ips_tree
use Rattle.cw_tree.specs.declared.segment.RawPs.TheVariants as ps_tree
use Rattle.cw_tree.specs.declared.segment.RawCitem.TheVariants as citem_tree
use Rattle.cw_tree.specs.declared.segment.RawComm.{RawComm}
use Rattle.cw_tree.specs.declared.segment.RawComm.TheVariants as comm_tree
use Rattle.cw_tree.specs.declared.segment.Raw.{Raw}
use Rattle.cw_word.specs.Number.{Number}
use Rattle.cw_grammar.specs.Tokens.{name_of, number_of}

-- ---- parts

abbrev pub at : (line token : ℕ) → Position
at line token = record { line = line; token = token }

abbrev pub name : (line token : ℕ) → List ℕ → RawName
name line token text = record { at = at line token; name = text }

abbrev pub integer : (line token : ℕ) → RawType
integer line token = type_tree.Integer (at line token)

abbrev pub whole : (value : ℕ) → Number
whole value = record { whole = value; digits = 0; places = 0 }

abbrev pub bound : (line token value : ℕ) → RawSint
bound line token value = record { sign = None; value = int_tree.Number (record { at = at line token; number = whole value }) }

abbrev pub number : (line token value : ℕ) → RawPrimary
number line token value = primary_tree.Number (record { at = at line token; number = whole value })

abbrev pub numeral : (line token : ℕ) → List ℕ → RawPrimary
numeral line token w = primary_tree.Number (record { at = at line token; number = number_of w })

abbrev pub value : (line token : ℕ) → List ℕ → RawPrimary
value line token text = primary_tree.Ref (ref_tree.Name (name line token text))

abbrev pub element : (line token : ℕ) → List ℕ → RawExpr → RawRef
element line token text index = ref_tree.One (name line token text) index

abbrev pub prim : RawPrimary → RawPrim
prim p = roll-RawPrim (record { bits = []; primary = p })

abbrev pub unmasked : RawMask → RawDiffer
unmasked m = roll-RawDiffer (record { operands = roll-RawUnion (record { operands = m ∷ []; operators = [] }) ∷ []; operators = [] })

abbrev pub single : RawPrimary → RawDiffer
single p = unmasked (roll-RawMask (record { operands = prim p ∷ []; operators = [] }))

abbrev pub times : (line token : ℕ) → RawFactorSign
times line token = record { at = at line token; op = muls.Times }

abbrev pub divide : (line token : ℕ) → RawFactorSign
divide line token = record { at = at line token; op = muls.Divide }

abbrev pub plus : (line token : ℕ) → RawSign
plus line token = record { at = at line token; op = adds.Plus }

abbrev pub minus : (line token : ℕ) → RawSign
minus line token = record { at = at line token; op = adds.Minus }

abbrev pub factor : RawPrimary → RawTerm
factor p = roll-RawTerm (record { operands = single p ∷ []; operators = [] })

abbrev pub product : RawPrimary → RawFactorSign → RawPrimary → RawTerm
product p sign q = roll-RawTerm (record { operands = single p ∷ single q ∷ []; operators = sign ∷ [] })

abbrev pub masked : RawPrimary → Position → RawPrimary → RawTerm
masked p at q = roll-RawTerm (record { operands = unmasked (roll-RawMask (record { operands = prim p ∷ prim q ∷ []; operators = at ∷ [] })) ∷ []; operators = [] })

abbrev pub sum_of : List RawTerm → List RawSign → RawExpr
sum_of terms signs = expr_tree.Sum (roll-RawSum (record { sign = None; operands = terms; operators = signs }))

abbrev pub of_term : RawTerm → RawExpr
of_term term = sum_of (term ∷ []) []

abbrev pub alone : RawPrimary → RawExpr
alone p = of_term (factor p)

abbrev pub simple_statement : RawSimple → RawStmt
simple_statement s = roll-RawStmt (record { labels = []; form = form_tree.Simple s })

abbrev pub assigned : RawRef → RawExpr → RawStmt
assigned reference e = simple_statement (simple_tree.Assign reference e)

abbrev pub called : (line token : ℕ) → List ℕ → RawExpr → RawStmt
called line token text argument = simple_statement (simple_tree.Call (name line token text) (argument ∷ []))

abbrev pub counted : Position → RawName → (from step until : RawExpr) → RawStmt → RawStmt
counted at variable from step until body = roll-RawStmt (record { labels = []; form = form_tree.For at (ref_tree.Name variable) (felem_tree.Step from step until ∷ []) body })

-- ---- the texts

abbrev pub communicators : List RawComm
communicators =
    comm_tree.Common (at 1 1) (citem_tree.Data (data_tree.Singles (integer 1 3) (name 1 4 (codes "TOTAL") ∷ []) None) ∷ [])
    ∷ comm_tree.Library (at 2 7) (record { answer = None; tag = ptag_tree.Procedure (at 2 9); name = name 2 10 (codes "WRITEBYTE"); params = ps_tree.Plain (ips_tree.Value (at 2 12) (integer 2 13)) ∷ [] } ∷ [])
    ∷ []

abbrev pub declarations : List RawDecl
declarations =
    decl_tree.Data (data_tree.Singles (integer 5 20) (name 5 21 (codes "J") ∷ []) None)
    ∷ decl_tree.Data (data_tree.Arrays (integer 6 23) (record { names = name 6 25 (codes "A") ∷ []; bounds = record { first = record { lower = bound 6 27 0; upper = bound 6 29 99 }; second = None } } ∷ []) None)
    ∷ []

abbrev pub filled : List ℕ → RawStmt
filled w =
    counted (at 7 32) (name 7 33 (codes "J")) (alone (number 7 35 0)) (alone (number 7 37 1)) (alone (number 7 39 99))
    (assigned (element 7 41 (codes "A") (alone (value 7 43 (codes "J")))) (of_term (product (value 7 46 (codes "J")) (times 7 47) (numeral 7 48 w))))

abbrev pub added : RawStmt
added =
    counted (at 8 50) (name 8 51 (codes "J")) (alone (number 8 53 0)) (alone (number 8 55 1)) (alone (number 8 57 99))
    (assigned (ref_tree.Name (name 8 59 (codes "TOTAL"))) (of_term (masked (primary_tree.Bracket (at 8 61) (sum_of (factor (value 8 62 (codes "TOTAL")) ∷ factor (primary_tree.Ref (element 8 64 (codes "A") (alone (value 8 66 (codes "J"))))) ∷ []) (plus 8 63 ∷ []))) (at 8 69) (number 8 70 4095))))

abbrev pub thousands : RawStmt
thousands =
    called 9 72 (codes "WRITEBYTE")
    (sum_of (factor (number 9 74 48) ∷ product (value 9 76 (codes "TOTAL")) (divide 9 77) (number 9 78 1000) ∷ [])
    (plus 9 75 ∷ []))

abbrev pub hundreds : RawStmt
hundreds =
    called 10 81 (codes "WRITEBYTE")
    (sum_of (factor (number 10 83 48) ∷ product (value 10 85 (codes "TOTAL")) (divide 10 86) (number 10 87 100) ∷ product (number 10 89 10) (times 10 90) (primary_tree.Bracket (at 10 91) (of_term (product (value 10 92 (codes "TOTAL")) (divide 10 93) (number 10 94 1000)))) ∷ [])
    (plus 10 84 ∷ minus 10 88 ∷ []))

abbrev pub tens : RawStmt
tens =
    called 11 98 (codes "WRITEBYTE")
    (sum_of (factor (number 11 100 48) ∷ product (value 11 102 (codes "TOTAL")) (divide 11 103) (number 11 104 10) ∷ product (number 11 106 10) (times 11 107) (primary_tree.Bracket (at 11 108) (of_term (product (value 11 109 (codes "TOTAL")) (divide 11 110) (number 11 111 100)))) ∷ [])
    (plus 11 101 ∷ minus 11 105 ∷ []))

abbrev pub ones : RawStmt
ones =
    called 12 115 (codes "WRITEBYTE")
    (sum_of (factor (number 12 117 48) ∷ factor (value 12 119 (codes "TOTAL")) ∷ product (number 12 121 10) (times 12 122) (primary_tree.Bracket (at 12 123) (of_term (product (value 12 124 (codes "TOTAL")) (divide 12 125) (number 12 126 10)))) ∷ [])
    (plus 12 118 ∷ minus 12 120 ∷ []))

abbrev pub line_end : RawStmt
line_end =
    called 13 130 (codes "WRITEBYTE") (alone (number 13 132 10))

abbrev pub statements : Bool → List ℕ → List RawStmt
statements true w = filled w ∷ added ∷ thousands ∷ hundreds ∷ tens ∷ ones ∷ line_end ∷ []
statements false w = filled w ∷ added ∷ []

abbrev pub last_token : Bool → ℕ
last_token true = 135
last_token false = 72

abbrev pub tree_text : Bool → List ℕ → Raw
tree_text is_last w =
    record { name = name_of (66 ∷ w); comms = communicators; block = roll-RawBlock (record { at = at 4 19; decls = declarations; stmts = statements is_last w }); tokens = last_token is_last }
