-- The loop over labels keeps those that it has read.
use Rattle.std.proofs.Common.{◌≡◌, ◌<◌, Bool, true, false, List, [], ◌∷◌, ◌++◌, length, Ok, Err, refl, sym, ap, ◌∙◌, append_assoc, arith}
use Rattle.std.proofs.lemmas.List.{append-nil}
use Rattle.cw_lex.specs.declared.token.TokenKind.TheVariants as kinds
use Rattle.cw_lex.specs.declared.token.Symbol.TheVariants as symbols
use Rattle.cw_tree.specs.declared.leaf.RawName.{RawName}
use Rattle.cw_grammar.specs.Tokens.{Item, same}
use Rattle.cw_grammar.specs.Grammar.{starts}
use Rattle.cw_grammar.specs.Rules.{raw_name, name}
use Rattle.cw_grammar.specs.declared.stop.Stop.{Stop}
use Rattle.cw_grammar.specs.Reading.{Fault, Read, Fails, reads, take_one}
use Rattle.cw_grammar.specs.Labels.{labels_of}
use Rattle.cw_grammar.proofs.Failing.{fails_where}
use Rattle.cw_grammar.proofs.Took.{done, stopped, same_done, took, took_shorter}

abbrev pub joined : List RawName → List RawName × List Item → List RawName × List Item
joined ns x = (ns ++ x.0, x.1)

labels_named : (t : Item) (us vs : List Item) (c : Item) → same t.kind kinds.Name ≡ true → take_one (kinds.Symbol symbols.Colon) us ≡ Ok (c, vs) → labels_of (t ∷ us) ≡ (raw_name t ∷ (labels_of vs).0, (labels_of vs).1)
labels_named t us vs c e f =
    let p = took (kinds.Symbol symbols.Colon) us c vs f in
    rw p.0 (rw (e, p.1) refl)

-- the name that was taken
name_taken : (ts us : List Item) (nm : RawName) → reads 0 name ts ≡ Ok (nm, us) → (t : Item) × ((ts ≡ t ∷ us) × ((same t.kind kinds.Name ≡ true) × (nm ≡ raw_name t)))
name_taken ts us nm h = go (take_one kinds.Name ts) refl
  where
    go : (o : Read Item) → take_one kinds.Name ts ≡ o → (t : Item) × ((ts ≡ t ∷ us) × ((same t.kind kinds.Name ≡ true) × (nm ≡ raw_name t)))
    go (Ok x) e =
        let q : done (raw_name x.0, x.1) ≡ done (nm, us) = (let g = h in rw e at g) in
        let w = same_done (raw_name x.0, x.1) (nm, us) q in
        let b : x.1 ≡ us = ap (λ (z : RawName × List Item). z.1) w in
        let a : raw_name x.0 ≡ nm = ap (λ (z : RawName × List Item). z.0) w in
        let k = took kinds.Name ts x.0 x.1 e in
        (x.0, (k.0 ∙ ap (λ (z : List Item). x.0 ∷ z) b, (k.1, sym a)))
    go (Err k) e = absurd (let q : stopped k ≡ done (nm, us) = (let g = h in rw e at g) in cc)

pub label_goes_on : (ns : List RawName) (ts us vs : List Item) (nm : RawName) (c : Item) (total : List RawName × List Item) → reads 0 name ts ≡ Ok (nm, us) → take_one (kinds.Symbol symbols.Colon) us ≡ Ok (c, vs)
    → joined ns (labels_of ts) ≡ total → joined (ns ++ nm ∷ []) (labels_of vs) ≡ total
label_goes_on ns ts us vs nm c total h k so_far =
    let p = name_taken ts us nm h in
    let e : labels_of ts ≡ (nm ∷ (labels_of vs).0, (labels_of vs).1) = rw (p.1.0, p.1.1.1) (labels_named p.0 us vs c p.1.1.0 k) in
    let there : joined ns (nm ∷ (labels_of vs).0, (labels_of vs).1) ≡ total = rw e at so_far in
    rw (append_assoc ns (nm ∷ []) (labels_of vs).0) there

pub no_name_ends : (ns : List RawName) (ts : List Item) (total : List RawName × List Item) → starts ts (kinds.Name ∷ []) ≡ false → joined ns (labels_of ts) ≡ total → total ≡ (ns, ts)
no_name_ends ns [] total e so_far = sym so_far ∙ rw append-nil refl
no_name_ends ns (t ∷ []) total e so_far = sym so_far ∙ rw append-nil refl
no_name_ends ns (t ∷ c ∷ us) total e so_far = sym so_far ∙ ended (same t.kind kinds.Name) refl
  where
    ended : (b : Bool) → same t.kind kinds.Name ≡ b → joined ns (labels_of (t ∷ c ∷ us)) ≡ (ns, t ∷ c ∷ us)
    ended true f = absurd (let g : true ≡ false = (let x = e in rw f at x) in cc)
    ended false f = rw (f, append-nil ns) refl

pub no_colon_ends : (ns : List RawName) (ts us : List Item) (nm : RawName) (total : List RawName × List Item) → reads 0 name ts ≡ Ok (nm, us) → starts us (kinds.Symbol symbols.Colon ∷ []) ≡ false → joined ns (labels_of ts) ≡ total → total ≡ (ns, ts)
no_colon_ends ns ts us nm total h e so_far =
    let p = name_taken ts us nm h in
    sym so_far ∙ rw p.1.0 (ended p.0 us e)
  where
    colon : (t c : Item) (ws : List Item) → (b : Bool) → same c.kind (kinds.Symbol symbols.Colon) ≡ b → starts (c ∷ ws) (kinds.Symbol symbols.Colon ∷ []) ≡ false → (a : Bool) → same t.kind kinds.Name ≡ a → joined ns (labels_of (t ∷ c ∷ ws)) ≡ (ns, t ∷ c ∷ ws)
    colon t c ws true f g a k = absurd (let y : true ≡ false = (let x = g in rw f at x) in cc)
    colon t c ws false f g true k = rw (k, f, append-nil ns) refl
    colon t c ws false f g false k = rw (k, append-nil ns) refl

    ended : (t : Item) (ws : List Item) → starts ws (kinds.Symbol symbols.Colon ∷ []) ≡ false → joined ns (labels_of (t ∷ ws)) ≡ (ns, t ∷ ws)
    ended t [] g = rw append-nil refl
    ended t (c ∷ ws) g = colon t c ws (same c.kind (kinds.Symbol symbols.Colon)) refl g (same t.kind kinds.Name) refl

pub label_shorter : (ts us vs : List Item) (nm : RawName) (c : Item) → reads 0 name ts ≡ Ok (nm, us) → take_one (kinds.Symbol symbols.Colon) us ≡ Ok (c, vs) → length vs < length ts
label_shorter ts us vs nm c h k = let p = name_taken ts us nm h in omega (arith, ap length p.1.0, took_shorter (kinds.Symbol symbols.Colon) us c vs k)

never : (ts : List Item) → starts ts (kinds.Name ∷ []) ≡ true → (g : Fault) → reads 0 name ts ≡ Err g → ⊥
never [] h g f = cc
never (t ∷ us) h g f = go (same t.kind kinds.Name) refl
  where
    go : (b : Bool) → same t.kind kinds.Name ≡ b → ⊥
    go true e = let y : done (raw_name t, us) ≡ stopped g = (let x = f in rw e at x) in cc
    go false e = let y : false ≡ true = (let x = h in rw e at x) in cc

pub name_not_failed : (e : Stop) (A : Type 0) (ts : List Item) (total : Read A) → starts ts (kinds.Name ∷ []) ≡ true → Fails e (reads 0 name ts) → Fails e total
name_not_failed e A ts total h failed = fails_where e (reads 0 name ts) total (λ f is. absurd (never ts h f is)) failed
