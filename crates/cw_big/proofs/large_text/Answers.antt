use Rattle.std.proofs.Common.{ℕ, List, ◌++◌, ap, ◌∙◌, codes, decimal}
use Rattle.cw_big.specs.LargeProgram.{total_written}
use Rattle.cw_big.proofs.Assembled.{assembled}
use Rattle.cw_big.proofs.large_text.Goals as goal

pub returns : goal.returns
returns c =
    let x : List ℕ = codes "COMMON (INTEGER TOTAL);\nLIBRARY (PROCEDURE WRITEBYTE(VALUE INTEGER));\nSEGMENT B" in
    assembled x (decimal c.args.number) (codes "\n") (codes "BEGIN\n") (codes "INTEGER J;\n") (codes "INTEGER ARRAY A[0:99];\n")
    (codes "FOR J := 0 STEP 1 UNTIL 99 DO A[J] := J * ") (codes ";\n") (codes "FOR J := 0 STEP 1 UNTIL 99 DO TOTAL := (TOTAL + A[J]) MASK 4095") (total_written c.args.is_last) (codes "\n") (codes "END\n") (codes "FINISH\n")
    c.put.new.text.items c.put_number.new.text.items c.put-2.new.text.items c.put_number-2.new.text.items c.put-3.new.text.items c.put-4.new.text.items c.put-5.new.text.items
    (c.in_ok-put.ensures ∙ ap (λ o. o ++ x) c.new-text.ensures.items) c.in_ok-put_number.ensures c.in_ok-put-2.ensures c.in_ok-put_number-2.ensures c.in_ok-put-3.ensures
    (c.in_ok-put-4.ensures ∙ ap (λ t. c.put-3.new.text.items ++ t) c.total_written.ensures) c.in_ok-put-5.ensures
