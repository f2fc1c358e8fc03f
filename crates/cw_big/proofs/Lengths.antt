-- How long the texts of a large program are at most.
use Rattle.std.proofs.Common.{ℕ, ◌+◌, ◌≤◌, ◌<◌, ◌^◌, Bool, true, false, List, [], ◌∷◌, ◌++◌, length, length-append, arith, lit≤}
use Rattle.std.specs.Prelude.{codes, decimal}
use Rattle.std.proofs.lemmas.Fmt.{length-decimal-le}
use Rattle.cw_big.specs.LargeProgram.{total_written, large_text}

joined : (m n : ℕ) (xs ys : List ℕ) → length xs ≤ m → length ys ≤ n → length (xs ++ ys) ≤ m + n
joined m n xs ys h k = omega (arith, h, k, length-append xs ys)

digits : (number : ℕ) → number ≤ 100 → length (decimal number) ≤ 3
digits number most = length-decimal-le 3 number (let z : 0 < 3 = omega arith in z) (omega (arith, most)) (omega (arith, most))

total : (is_last : Bool) → length (total_written is_last) ≤ 250
total false = lit≤ tt
total true = lit≤ tt

abbrev head : (number : ℕ) → List ℕ
head number = codes "COMMON (INTEGER TOTAL);\n" ++ codes "LIBRARY (PROCEDURE WRITEBYTE(VALUE INTEGER));\n" ++ codes "SEGMENT B" ++ decimal number

abbrev declared : (number : ℕ) → List ℕ
declared number = head number ++ codes "\n" ++ codes "BEGIN\n" ++ codes "INTEGER J;\n" ++ codes "INTEGER ARRAY A[0:99];\n"

abbrev filled : (number : ℕ) → List ℕ
filled number = declared number ++ codes "FOR J := 0 STEP 1 UNTIL 99 DO A[J] := J * " ++ decimal number

abbrev added : (number : ℕ) → List ℕ
added number = filled number ++ codes ";\n" ++ codes "FOR J := 0 STEP 1 UNTIL 99 DO TOTAL := (TOTAL + A[J]) MASK 4095"

pub short : (number : ℕ) (is_last : Bool) → number ≤ 100 → length (large_text number is_last) ≤ 1000
short number is_last most =
    let number_is = digits number most in
    let a = joined 100 3 (codes "COMMON (INTEGER TOTAL);\n" ++ codes "LIBRARY (PROCEDURE WRITEBYTE(VALUE INTEGER));\n" ++ codes "SEGMENT B") (decimal number) (lit≤ tt) number_is in
    let b1 = joined 103 1 (head number) (codes "\n") a (lit≤ tt) in
    let b2 = joined 104 6 (head number ++ codes "\n") (codes "BEGIN\n") b1 (lit≤ tt) in
    let b3 = joined 110 11 (head number ++ codes "\n" ++ codes "BEGIN\n") (codes "INTEGER J;\n") b2 (lit≤ tt) in
    let b = joined 121 30 (head number ++ codes "\n" ++ codes "BEGIN\n" ++ codes "INTEGER J;\n") (codes "INTEGER ARRAY A[0:99];\n") b3 (lit≤ tt) in
    let c1 = joined 151 50 (declared number) (codes "FOR J := 0 STEP 1 UNTIL 99 DO A[J] := J * ") b (lit≤ tt) in
    let c = joined 201 3 (declared number ++ codes "FOR J := 0 STEP 1 UNTIL 99 DO A[J] := J * ") (decimal number) c1 number_is in
    let d1 = joined 204 2 (filled number) (codes ";\n") c (lit≤ tt) in
    let d = joined 206 70 (filled number ++ codes ";\n") (codes "FOR J := 0 STEP 1 UNTIL 99 DO TOTAL := (TOTAL + A[J]) MASK 4095") d1 (lit≤ tt) in
    let e = joined 276 250 (added number) (total_written is_last) d (total is_last) in
    let f = joined 526 1 (added number ++ total_written is_last) (codes "\n") e (lit≤ tt) in
    let g = joined 527 4 (added number ++ total_written is_last ++ codes "\n") (codes "END\n") f (lit≤ tt) in
    let h = joined 531 7 (added number ++ total_written is_last ++ codes "\n" ++ codes "END\n") (codes "FINISH\n") g (lit≤ tt) in
    let z : length (large_text number is_last) ≤ 1000 = omega (arith, h) in
    z
