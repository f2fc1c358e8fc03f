use Rattle.std.proofs.Common.{◌≡◌, ◌++◌, ◌∷◌, [], subst}
use Rattle.cw_i86.specs.declared.instr.Instr.{Instr}
use Rattle.cw_assemble.specs.declared.draft.Draft.{Draft}
use Rattle.cw_tmpl.specs.declared.blocks.Element.{Element}
use Rattle.cw_tmpl.specs.declared.blocks.Simple.TheVariants as simple
use Rattle.cw_tmpl.specs.declared.pieces.Coded.TheVariants as coded
use Rattle.cw_assemble.specs.Growing.{Adds}
use Rattle.cw_tmpl.specs.Mnemonics.{at_si, load, move, multiply}
use Rattle.cw_tmpl.specs.Templates.{element_address, product_with}
use Rattle.cw_assemble.proofs.Growing.{adds_then}
use Rattle.cw_assemble.proofs.blocks.put_product_of.Goals as goal

product_added : (old one two new : Draft) (e : Element) (i1 i2 i3 : Instr) → i1 ≡ move 1 0 → i2 ≡ load 0 at_si → i3 ≡ multiply 1 → Adds old (coded.Whole i1 ∷ []) one → Adds one (element_address e) two
    → Adds two (coded.Whole i2 ∷ coded.Whole i3 ∷ []) new → Adds old (product_with (simple.Element e)) new
product_added old one two new e i1 i2 i3 e1 e2 e3 a b d =
    let first : coded.Whole i1 ∷ [] ≡ coded.Whole (move 1 0) ∷ [] = cc in
    let last : coded.Whole i2 ∷ coded.Whole i3 ∷ [] ≡ coded.Whole (load 0 at_si) ∷ coded.Whole (multiply 1) ∷ [] = cc in
    adds_then old one new (coded.Whole (move 1 0) ∷ []) (element_address e ++ coded.Whole (load 0 at_si) ∷ coded.Whole (multiply 1) ∷ []) (subst (λ ps. Adds old ps one) first a)
    (adds_then one two new (element_address e) _ b (subst (λ ps. Adds two ps new) last d))

pub returns : goal.returns
returns c =
    product_added c.args.code.now c.put_all.new.self c.put_element_address.new.code c.put_all-2.new.self c.args.element c.copy.result c.load.result c.multiply.result c.copy.ensures c.load.ensures c.multiply.ensures
    c.put_all.ensures c.put_element_address.ensures c.put_all-2.ensures
