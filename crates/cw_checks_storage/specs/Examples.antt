-- Storage of units, with their maps and the words that are filled at the start.
use Rattle.std.specs.Prelude.{List, [], ◌∷◌, codes}
use Rattle.cw_checks_storage.specs.Units.{Example, single, array, table, text, loop, over, absolute, common, of, local, preset, word, overlay, procedure, segment, alone, placed, filled}

abbrev pub overlays : List Example
overlays =
    placed (alone []) (codes "")
    ∷ placed (alone (single (codes "X") ∷ [])) (codes "00000 00001 A.X WORD\n")
    ∷ placed (alone (single (codes "X") ∷ single (codes "Y") ∷ [])) (codes "00000 00001 A.X WORD\n00001 00001 A.Y WORD\n")
    ∷ placed (alone (array (codes "B") 5 ∷ single (codes "X") ∷ [])) (codes "00000 00005 A.B ARRAY\n00005 00001 A.X WORD\n")
    ∷ placed (alone (array (codes "B") 4 ∷ over 0 2 (single (codes "X")) ∷ single (codes "Y") ∷ []))
    (codes "00000 00004 A.B ARRAY\n00002 00001 A.X WORD\n00004 00001 A.Y WORD\n")
    ∷ placed (alone (array (codes "B") 4 ∷ over 0 0 (single (codes "X")) ∷ over 0 3 (single (codes "Y")) ∷ single (codes "Z") ∷ []))
    (codes "00000 00004 A.B ARRAY\n00000 00001 A.X WORD\n00003 00001 A.Y WORD\n00004 00001 A.Z WORD\n")
    ∷ placed (alone (array (codes "B") 4 ∷ over 0 2 (array (codes "C") 6) ∷ single (codes "Y") ∷ []))
    (codes "00000 00004 A.B ARRAY\n00002 00006 A.C ARRAY\n00008 00001 A.Y WORD\n")
    ∷ placed (alone (single (codes "X") ∷ over 0 0 (single (codes "Y")) ∷ over 1 0 (single (codes "Z")) ∷ single (codes "V") ∷ []))
    (codes "00000 00001 A.X WORD\n00000 00001 A.Y WORD\n00000 00001 A.Z WORD\n00001 00001 A.V WORD\n")
    ∷ placed (alone (array (codes "B") 10 ∷ over 0 2 (array (codes "C") 5) ∷ over 1 3 (single (codes "D")) ∷ single (codes "E") ∷ []))
    (codes "00000 00010 A.B ARRAY\n00002 00005 A.C ARRAY\n00005 00001 A.D WORD\n00010 00001 A.E WORD\n")
    ∷ placed (alone (array (codes "B") 3 ∷ array (codes "C") 2 ∷ over 0 1 (single (codes "X")) ∷ over 1 1 (single (codes "Y")) ∷ single (codes "Z") ∷ []))
    (codes "00000 00003 A.B ARRAY\n00001 00001 A.X WORD\n00003 00002 A.C ARRAY\n00004 00001 A.Y WORD\n00005 00001 A.Z WORD\n")
    ∷ []

abbrev pub tables_and_strings : List Example
tables_and_strings =
    placed (alone (table (codes "T") 4 ∷ [])) (codes "00000 00004 A.T TABLE\n")
    ∷ placed (alone (array (codes "A") 4 ∷ over 0 2 (table (codes "T") 2) ∷ [])) (codes "00000 00004 A.A ARRAY\n00002 00002 A.T TABLE\n")
    ∷ placed (alone (table (codes "T") 6 ∷ over 0 4 (single (codes "X")) ∷ [])) (codes "00000 00006 A.T TABLE\n00004 00001 A.X WORD\n")
    ∷ filled (alone (text 3 (codes "AB") ∷ [])) (codes "00000 00003 A.STRING@3 STRING\n") ((0, 2) ∷ (1, 65) ∷ (2, 66) ∷ [])
    ∷ filled (alone (single (codes "X") ∷ text 1 (codes "H") ∷ []))
    (codes "00000 00001 A.X WORD\n00001 00002 A.STRING@1 STRING\n") ((1, 1) ∷ (2, 72) ∷ [])
    ∷ filled (alone (text 4 (codes "A") ∷ text 4 (codes "B") ∷ []))
    (codes "00000 00002 A.STRING@4 STRING\n00002 00002 A.STRING@4 STRING\n") ((0, 1) ∷ (1, 65) ∷ (2, 1) ∷ (3, 66) ∷ [])
    ∷ filled (alone (text 10 (codes "") ∷ [])) (codes "00000 00001 A.STRING@10 STRING\n") ((0, 0) ∷ [])
    ∷ placed (alone (loop 7 ∷ single (codes "X") ∷ [])) (codes "00000 00004 A.FOR@7 LOOP\n00004 00001 A.X WORD\n")
    ∷ filled (segment (codes "A") [] (of 0 (loop 65535) ∷ of 0 (text 9 (codes "C")) ∷ []) (procedure (codes "P") ∷ []) ∷ [])
    (codes "00000 00004 A.P.FOR@65535 LOOP\n00004 00002 A.P.STRING@9 STRING\n") ((4, 1) ∷ (5, 67) ∷ [])
    ∷ placed (segment (codes "A") [] (single (codes "X") ∷ of 0 (single (codes "X")) ∷ []) (procedure (codes "LONG1") ∷ []) ∷ [])
    (codes "00000 00001 A.X WORD\n00001 00001 A.LONG1.X WORD\n")
    ∷ []

abbrev pub presets : List Example
presets =
    filled (alone (preset ((0, 5) ∷ []) (single (codes "X")) ∷ [])) (codes "00000 00001 A.X WORD\n") ((0, 5) ∷ [])
    ∷ filled (alone (preset ((0, 1) ∷ (2, 3) ∷ (3, 4) ∷ []) (array (codes "A") 5) ∷ []))
    (codes "00000 00005 A.A ARRAY\n") ((0, 1) ∷ (2, 3) ∷ (3, 4) ∷ [])
    ∷ filled (alone (array (codes "B") 4 ∷ preset ((0, 9) ∷ []) (over 0 2 (single (codes "X"))) ∷ []))
    (codes "00000 00004 A.B ARRAY\n00002 00001 A.X WORD\n") ((2, 9) ∷ [])
    ∷ filled (alone (preset ((0, 1) ∷ []) (single (codes "X")) ∷ preset ((0, 2) ∷ []) (over 0 0 (single (codes "Y"))) ∷ []))
    (codes "00000 00001 A.X WORD\n00000 00001 A.Y WORD\n") ((0, 1) ∷ (0, 2) ∷ [])
    ∷ filled (alone (single (codes "X") ∷ preset ((0, 1) ∷ (1, 2) ∷ (3, 4) ∷ []) (table (codes "T") 4) ∷ []))
    (codes "00000 00001 A.X WORD\n00001 00004 A.T TABLE\n") ((1, 1) ∷ (2, 2) ∷ (4, 4) ∷ [])
    ∷ filled (alone (array (codes "B") 6 ∷ over 0 2 (array (codes "C") 3) ∷ preset ((1, 8) ∷ []) (over 1 1 (array (codes "D") 2)) ∷ []))
    (codes "00000 00006 A.B ARRAY\n00002 00003 A.C ARRAY\n00003 00002 A.D ARRAY\n") ((4, 8) ∷ [])
    ∷ filled (segment (codes "A") [] (single (codes "X") ∷ preset ((0, 7) ∷ []) (of 0 (single (codes "L"))) ∷ []) (procedure (codes "P") ∷ []) ∷ [])
    (codes "00000 00001 A.X WORD\n00001 00001 A.P.L WORD\n") ((1, 7) ∷ [])
    ∷ filled (segment (codes "A") [] (preset ((0, 1) ∷ []) (single (codes "X")) ∷ []) []
    ∷ segment (codes "B") [] (preset ((0, 2) ∷ []) (single (codes "Y")) ∷ []) [] ∷ [])
    (codes "00000 00001 A.X WORD\n00001 00001 B.Y WORD\n") ((0, 1) ∷ (1, 2) ∷ [])
    ∷ filled (segment (codes "A") (word (codes "T") ∷ []) (preset ((0, 1) ∷ []) (common 0 (single (codes "T"))) ∷ []) []
    ∷ segment (codes "B") (word (codes "T") ∷ []) (preset ((0, 3) ∷ []) (single (codes "Y")) ∷ preset ((0, 7) ∷ []) (common 0 (single (codes "T"))) ∷ []) [] ∷ [])
    (codes "00000 00001 COMMON.T WORD\n00001 00001 B.Y WORD\n") ((0, 1) ∷ (1, 3) ∷ (0, 7) ∷ [])
    ∷ filled (alone (preset ((0, 65535) ∷ []) (single (codes "X")) ∷ text 2 (codes "Z") ∷ []))
    (codes "00000 00001 A.X WORD\n00001 00002 A.STRING@2 STRING\n") ((0, 65535) ∷ (1, 1) ∷ (2, 90) ∷ [])
    ∷ []

abbrev pub frames : List Example
frames =
    placed (segment (codes "A") [] (local 0 (single (codes "N")) ∷ []) (procedure (codes "P") ∷ []) ∷ []) (codes "+00000 00001 A.P.N WORD\n")
    ∷ placed (segment (codes "A") [] (local 0 (single (codes "N")) ∷ local 0 (array (codes "A") 100) ∷ []) (procedure (codes "G") ∷ []) ∷ [])
    (codes "+00000 00001 A.G.N WORD\n+00001 00100 A.G.A ARRAY\n")
    ∷ placed (segment (codes "A") [] (local 0 (single (codes "N")) ∷ single (codes "X") ∷ []) (procedure (codes "P") ∷ []) ∷ [])
    (codes "00000 00001 A.X WORD\n+00000 00001 A.P.N WORD\n")
    ∷ placed (segment (codes "A") [] (local 0 (single (codes "N")) ∷ local 1 (single (codes "M")) ∷ []) (procedure (codes "P") ∷ procedure (codes "Q") ∷ []) ∷ [])
    (codes "+00000 00001 A.P.N WORD\n+00000 00001 A.Q.M WORD\n")
    ∷ placed (segment (codes "A") [] (local 0 (single (codes "N")) ∷ of 0 (over 0 0 (single (codes "M"))) ∷ local 0 (single (codes "K")) ∷ []) (procedure (codes "P") ∷ []) ∷ [])
    (codes "+00000 00001 A.P.N WORD\n+00000 00001 A.P.M WORD\n+00001 00001 A.P.K WORD\n")
    ∷ placed (segment (codes "A") [] (local 0 (array (codes "A") 4) ∷ of 0 (over 0 2 (array (codes "B") 5)) ∷ local 0 (single (codes "K")) ∷ []) (procedure (codes "P") ∷ []) ∷ [])
    (codes "+00000 00004 A.P.A ARRAY\n+00002 00005 A.P.B ARRAY\n+00007 00001 A.P.K WORD\n")
    ∷ placed (segment (codes "A") [] (single (codes "X") ∷ local 0 (single (codes "N")) ∷ of 0 (over 0 0 (single (codes "L"))) ∷ []) (procedure (codes "P") ∷ []) ∷ [])
    (codes "00000 00001 A.X WORD\n00000 00001 A.P.L WORD\n+00000 00001 A.P.N WORD\n")
    ∷ placed (segment (codes "A") [] (local 0 (single (codes "N")) ∷ local 0 (loop 5) ∷ local 0 (single (codes "K")) ∷ []) (procedure (codes "P") ∷ []) ∷ [])
    (codes "+00000 00001 A.P.N WORD\n+00001 00004 A.P.FOR@5 LOOP\n+00005 00001 A.P.K WORD\n")
    ∷ placed (segment (codes "A") [] (local 0 (single (codes "N")) ∷ local 1 (array (codes "B") 3) ∷ local 0 (single (codes "K")) ∷ local 1 (single (codes "M")) ∷ []) (procedure (codes "P") ∷ procedure (codes "Q") ∷ []) ∷ [])
    (codes "+00000 00001 A.P.N WORD\n+00000 00003 A.Q.B ARRAY\n+00001 00001 A.P.K WORD\n+00003 00001 A.Q.M WORD\n")
    ∷ placed (segment (codes "A") [] (local 0 (single (codes "N")) ∷ local 0 (single (codes "M")) ∷ []) (procedure (codes "P") ∷ [])
    ∷ segment (codes "B") [] (single (codes "X") ∷ local 0 (single (codes "K")) ∷ []) (procedure (codes "Q") ∷ []) ∷ [])
    (codes "00000 00001 B.X WORD\n+00000 00001 A.P.N WORD\n+00001 00001 A.P.M WORD\n+00000 00001 B.Q.K WORD\n")
    ∷ []

abbrev pub absolutes : List Example
absolutes =
    placed (alone (absolute 3 (single (codes "Z")) ∷ array (codes "B") 5 ∷ [])) (codes "00003 00001 A.Z WORD\n00004 00005 A.B ARRAY\n")
    ∷ placed (alone (absolute 0 (single (codes "Z")) ∷ single (codes "X") ∷ [])) (codes "00000 00001 A.Z WORD\n00001 00001 A.X WORD\n")
    ∷ placed (alone (absolute 2 (single (codes "Z")) ∷ single (codes "X") ∷ array (codes "Y") 2 ∷ []))
    (codes "00000 00001 A.X WORD\n00002 00001 A.Z WORD\n00003 00002 A.Y ARRAY\n")
    ∷ placed (alone (absolute 6 (array (codes "Z") 3) ∷ absolute 5 (array (codes "V") 3) ∷ array (codes "X") 5 ∷ single (codes "Y") ∷ []))
    (codes "00000 00005 A.X ARRAY\n00005 00003 A.V ARRAY\n00006 00003 A.Z ARRAY\n00009 00001 A.Y WORD\n")
    ∷ placed (alone (absolute 4 (single (codes "Z")) ∷ array (codes "A") 4 ∷ single (codes "B") ∷ []))
    (codes "00000 00004 A.A ARRAY\n00004 00001 A.Z WORD\n00005 00001 A.B WORD\n")
    ∷ placed (alone (absolute 1 (single (codes "Z")) ∷ array (codes "A") 2 ∷ single (codes "X") ∷ []))
    (codes "00001 00001 A.Z WORD\n00002 00002 A.A ARRAY\n00004 00001 A.X WORD\n")
    ∷ placed (alone (absolute 10 (array (codes "Z") 4) ∷ over 0 1 (single (codes "Y")) ∷ single (codes "X") ∷ []))
    (codes "00000 00001 A.X WORD\n00010 00004 A.Z ARRAY\n00011 00001 A.Y WORD\n")
    ∷ placed (segment (codes "A") [] (array (codes "X") 5 ∷ []) [] ∷ segment (codes "B") [] (absolute 2 (single (codes "Z")) ∷ []) [] ∷ [])
    (codes "00002 00001 B.Z WORD\n00003 00005 A.X ARRAY\n")
    ∷ placed (segment (codes "A") [] (absolute 7 (single (codes "Y")) ∷ single (codes "X") ∷ []) []
    ∷ segment (codes "B") [] (absolute 7 (single (codes "Z")) ∷ []) [] ∷ [])
    (codes "00000 00001 A.X WORD\n00007 00001 A.Y WORD\n00007 00001 B.Z WORD\n")
    ∷ placed (alone (absolute 1 (single (codes "Z")) ∷ absolute 3 (single (codes "V")) ∷ single (codes "X") ∷ single (codes "Y") ∷ array (codes "B") 2 ∷ []))
    (codes "00000 00001 A.X WORD\n00001 00001 A.Z WORD\n00002 00001 A.Y WORD\n00003 00001 A.V WORD\n00004 00002 A.B ARRAY\n")
    ∷ []

abbrev pub commons : List Example
commons =
    placed (segment (codes "A") (word (codes "T") ∷ []) (common 0 (single (codes "T")) ∷ []) [] ∷ []) (codes "00000 00001 COMMON.T WORD\n")
    ∷ placed (segment (codes "A") (word (codes "T") ∷ []) (common 0 (single (codes "T")) ∷ []) []
    ∷ segment (codes "B") (word (codes "T") ∷ []) (common 0 (single (codes "T")) ∷ single (codes "X") ∷ []) [] ∷ [])
    (codes "00000 00001 COMMON.T WORD\n00001 00001 B.X WORD\n")
    ∷ placed (segment (codes "A") [] (single (codes "X") ∷ []) []
    ∷ segment (codes "B") (word (codes "T") ∷ []) (common 0 (single (codes "T")) ∷ []) [] ∷ [])
    (codes "00000 00001 A.X WORD\n00001 00001 COMMON.T WORD\n")
    ∷ placed (segment (codes "A") (word (codes "T") ∷ []) (common 0 (array (codes "T") 2) ∷ single (codes "X") ∷ []) []
    ∷ segment (codes "B") (word (codes "T") ∷ []) (common 0 (array (codes "T") 2) ∷ over 0 1 (array (codes "Y") 4) ∷ []) [] ∷ [])
    (codes "00000 00002 COMMON.T ARRAY\n00001 00004 B.Y ARRAY\n00005 00001 A.X WORD\n")
    ∷ placed (segment (codes "A") (word (codes "T") ∷ overlay (codes "V") 0 2 ∷ []) (common 0 (array (codes "T") 4) ∷ common 1 (single (codes "V")) ∷ single (codes "X") ∷ []) [] ∷ [])
    (codes "00000 00004 COMMON.T ARRAY\n00002 00001 COMMON.V WORD\n00004 00001 A.X WORD\n")
    ∷ placed (segment (codes "A") (word (codes "T") ∷ word (codes "V") ∷ []) (common 0 (single (codes "T")) ∷ common 1 (single (codes "V")) ∷ []) []
    ∷ segment (codes "B") (word (codes "V") ∷ word (codes "T") ∷ []) (common 0 (single (codes "V")) ∷ common 1 (single (codes "T")) ∷ single (codes "X") ∷ []) [] ∷ [])
    (codes "00000 00001 COMMON.T WORD\n00001 00001 COMMON.V WORD\n00002 00001 B.X WORD\n")
    ∷ placed (segment (codes "A") (word (codes "T") ∷ []) (common 0 (single (codes "T")) ∷ absolute 0 (single (codes "Z")) ∷ []) [] ∷ [])
    (codes "00000 00001 A.Z WORD\n00001 00001 COMMON.T WORD\n")
    ∷ placed (segment (codes "A") (word (codes "T") ∷ []) (common 0 (single (codes "T")) ∷ single (codes "X") ∷ []) []
    ∷ segment (codes "B") [] (single (codes "Y") ∷ []) []
    ∷ segment (codes "C") (word (codes "T") ∷ []) (common 0 (single (codes "T")) ∷ single (codes "Z") ∷ []) [] ∷ [])
    (codes "00000 00001 COMMON.T WORD\n00001 00001 A.X WORD\n00002 00001 B.Y WORD\n00003 00001 C.Z WORD\n")
    ∷ placed (segment (codes "A") (word (codes "T") ∷ []) (common 0 (single (codes "T")) ∷ over 0 0 (single (codes "X")) ∷ single (codes "Y") ∷ []) [] ∷ [])
    (codes "00000 00001 COMMON.T WORD\n00000 00001 A.X WORD\n00001 00001 A.Y WORD\n")
    ∷ placed (segment (codes "FILTER") (word (codes "LEVEL") ∷ []) (common 0 (single (codes "LEVEL")) ∷ of 0 (single (codes "X")) ∷ []) (procedure (codes "ALARM") ∷ [])
    ∷ segment (codes "CONTROL") (word (codes "LEVEL") ∷ []) (common 0 (single (codes "LEVEL")) ∷ single (codes "C") ∷ single (codes "STATE") ∷ single (codes "N") ∷ table (codes "LOG") 4 ∷ []) [] ∷ [])
    (codes "00000 00001 COMMON.LEVEL WORD\n00001 00001 FILTER.ALARM.X WORD\n00002 00001 CONTROL.C WORD\n00003 00001 CONTROL.STATE WORD\n00004 00001 CONTROL.N WORD\n00005 00004 CONTROL.LOG TABLE\n")
    ∷ []
