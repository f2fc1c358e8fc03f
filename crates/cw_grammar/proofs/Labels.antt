-- Labels are read one after the other, and a statement behind its labels.
use Rattle.std.proofs.Common.{◌≡◌, ℕ, Bool, true, false, ◌&&◌, List, [], ◌∷◌, drop, Ok, Err, refl, ap, ◌∙◌}
use Rattle.cw_lex.specs.declared.token.TokenKind.TheVariants as kinds
use Rattle.cw_lex.specs.declared.token.Symbol.TheVariants as symbols
use Rattle.cw_lex.specs.declared.token.Word.TheVariants as words
use Rattle.cw_tree.specs.declared.leaf.RawName.{RawName}
use Rattle.cw_tree.specs.declared.statement.RawStmt.{RawStmt, out-RawStmt}
use Rattle.cw_tree.specs.declared.statement.RawForm.{RawForm}
use Rattle.cw_tree.specs.declared.statement.RawSimple.{RawSimple}
use Rattle.cw_grammar.specs.Tokens.{Item, same}
use Rattle.cw_grammar.specs.Grammar.{Sort, a_pair, a_list, a_name, a_simple, a_stmt, if_rest, for_rest, Value, Grammar, labelled, labelled_simple, again, starts}
use Rattle.cw_grammar.specs.Rules.{raw_name}
use Rattle.cw_grammar.specs.Statements.{stmt, simple, simple_behind, unnamed, with_label, stmt_tree}
use Rattle.cw_grammar.specs.Table.{again_rule}
use Rattle.cw_grammar.specs.declared.stop.Stop.{Stop}
use Rattle.cw_grammar.specs.Reading.{syntax_at, deep_at, Read, Fails, ◌>>=◌, inside, reads}
use Rattle.cw_grammar.specs.Labels.{labels_of, labels, unlabelled, unlabelled_simple}
use Rattle.cw_grammar.proofs.Again.{again_step}
use Rattle.cw_grammar.proofs.Failing.{fails_where}
use Rattle.cw_grammar.proofs.Took.{same_done}

-- a name with a colon behind it
abbrev pub is_label : List Item → Bool
is_label ts = starts ts (kinds.Name ∷ []) && starts (drop 1 ts) (kinds.Symbol symbols.Colon ∷ [])

-- A token alone is no label.
alone : (t : Item) (b : Bool) → same t.kind kinds.Name ≡ b → is_label (t ∷ []) ≡ false
alone t true e = rw e refl
alone t false e = rw e refl

label_first : (n : ℕ) (p : Bool) (t c : Item) (us : List Item) → same t.kind kinds.Name ≡ true → same c.kind (kinds.Symbol symbols.Colon) ≡ true
    → reads n (again_rule (labelled p)) (t ∷ c ∷ us) ≡ (reads n (again (labelled p)) us >>= λ y. Ok (with_label (raw_name t) y.0, y.1))
unfolding again_rule stmt simple_behind
label_first n p t c us e f = go (reads n (again (labelled p)) us) refl
  where
    go : (o : Read RawStmt) → reads n (again (labelled p)) us ≡ o → reads n (again_rule (labelled p)) (t ∷ c ∷ us) ≡ (reads n (again (labelled p)) us >>= λ y. Ok (with_label (raw_name t) y.0, y.1))
    go (Ok y) h = rw (e, f, h) refl
    go (Err k) h = rw (e, f, h) refl

pub label_step : (n : ℕ) (p : Bool) (t c : Item) (us : List Item) → same t.kind kinds.Name ≡ true → same c.kind (kinds.Symbol symbols.Colon) ≡ true
    → reads n (again (labelled p)) (t ∷ c ∷ us) ≡ (reads n (again (labelled p)) us >>= λ y. Ok (with_label (raw_name t) y.0, y.1))
label_step n p t c us e f = again_step n a_stmt (labelled p) (t ∷ c ∷ us) ∙ label_first n p t c us e f

opened_rule : (n : ℕ) (p : Bool) (ts : List Item) → reads n (again (labelled p)) ts ≡ reads n (stmt p) ts
unfolding again_rule
opened_rule n p ts = again_step n a_stmt (labelled p) ts

-- Where no label begins, what stands for the statement has none.
pub no_label : (n : ℕ) (p : Bool) (ts : List Item) → is_label ts ≡ false → reads n (again (labelled p)) ts ≡ (reads n (unlabelled p) ts >>= λ y. Ok (stmt_tree [] y.0, y.1))
unfolding stmt unlabelled
no_label n p [] e = last (reads n (unnamed p) []) refl
  where
    last : (o : _) → reads n (unnamed p) [] ≡ o → reads n (again (labelled p)) [] ≡ (reads n (unlabelled p) [] >>= λ y. Ok (stmt_tree [] y.0, y.1))
    last (Ok y) h = rw (opened_rule n p [], h) refl
    last (Err k) h = rw (opened_rule n p [], h) refl
no_label n p (t ∷ us) e = named (same t.kind kinds.Name) refl
  where
    Goal : Type 0
    Goal = reads n (again (labelled p)) (t ∷ us) ≡ (reads n (unlabelled p) (t ∷ us) >>= λ y. Ok (stmt_tree [] y.0, y.1))

    simple_of : same t.kind kinds.Name ≡ true → starts us (kinds.Symbol symbols.Colon ∷ []) ≡ false → (o : _) → reads n simple_behind us ≡ o → Goal
    simple_of f g (Ok y) h = rw (opened_rule n p (t ∷ us), f, g, h) refl
    simple_of f g (Err k) h = rw (opened_rule n p (t ∷ us), f, g, h) refl

    if_of : same t.kind kinds.Name ≡ false → same t.kind (kinds.Word words.If) ≡ true → (o : _) → inside n _ (if_rest p) us ≡ o → Goal
    if_of f g (Ok y) h = rw (opened_rule n p (t ∷ us), f, g, h) refl
    if_of f g (Err k) h = rw (opened_rule n p (t ∷ us), f, g, h) refl

    for_of : same t.kind kinds.Name ≡ false → same t.kind (kinds.Word words.If) ≡ false → same t.kind (kinds.Word words.For) ≡ true → (o : _) → inside n _ (for_rest p) us ≡ o → Goal
    for_of f g j (Ok y) h = rw (opened_rule n p (t ∷ us), f, g, j, h) refl
    for_of f g j (Err k) h = rw (opened_rule n p (t ∷ us), f, g, j, h) refl

    other : same t.kind kinds.Name ≡ false → same t.kind (kinds.Word words.If) ≡ false → same t.kind (kinds.Word words.For) ≡ false → (o : _) → reads n (unnamed p) (t ∷ us) ≡ o → Goal
    other f g j (Ok y) h = rw (opened_rule n p (t ∷ us), f, g, j, h) refl
    other f g j (Err k) h = rw (opened_rule n p (t ∷ us), f, g, j, h) refl

    for_or : same t.kind kinds.Name ≡ false → same t.kind (kinds.Word words.If) ≡ false → (b : Bool) → same t.kind (kinds.Word words.For) ≡ b → Goal
    for_or f g true j = for_of f g j (inside n _ (for_rest p) us) refl
    for_or f g false j = other f g j (reads n (unnamed p) (t ∷ us)) refl

    if_or : same t.kind kinds.Name ≡ false → (b : Bool) → same t.kind (kinds.Word words.If) ≡ b → Goal
    if_or f true g = if_of f g (inside n _ (if_rest p) us) refl
    if_or f false g = for_or f g (same t.kind (kinds.Word words.For)) refl

    named : (b : Bool) → same t.kind kinds.Name ≡ b → Goal
    named true f = simple_of f (rw f at e) (reads n simple_behind us) refl
    named false f = if_or f (same t.kind (kinds.Word words.If)) refl

-- ---- a statement

pub stmt_behind_labels : (n : ℕ) (p : Bool) (ts : List Item) → reads n (again (labelled p)) ts ≡ (reads n (unlabelled p) (labels_of ts).1 >>= λ y. Ok (stmt_tree (labels_of ts).0 y.0, y.1))
stmt_behind_labels n p [] = no_label n p [] refl
stmt_behind_labels n p (t ∷ []) = no_label n p (t ∷ []) (alone t (same t.kind kinds.Name) refl)
stmt_behind_labels n p (t ∷ c ∷ us) = named (stmt_behind_labels n p us) (same t.kind kinds.Name) refl
  where
    Goal : Type 0
    Goal = reads n (again (labelled p)) (t ∷ c ∷ us) ≡ (reads n (unlabelled p) (labels_of (t ∷ c ∷ us)).1 >>= λ y. Ok (stmt_tree (labels_of (t ∷ c ∷ us)).0 y.0, y.1))

    further : (reads n (again (labelled p)) us ≡ (reads n (unlabelled p) (labels_of us).1 >>= λ y. Ok (stmt_tree (labels_of us).0 y.0, y.1))) → same t.kind kinds.Name ≡ true → same c.kind (kinds.Symbol symbols.Colon) ≡ true → (o : Read RawForm) → reads n (unlabelled p) (labels_of us).1 ≡ o → Goal
    further ih e f (Ok y) h =
        let more : reads n (again (labelled p)) us ≡ Ok (stmt_tree (labels_of us).0 y.0, y.1) = ih ∙ rw h refl in
        label_step n p t c us e f ∙ rw (e, f, more, h) refl
    further ih e f (Err k) h =
        let more : reads n (again (labelled p)) us ≡ Err k = ih ∙ rw h refl in
        label_step n p t c us e f ∙ rw (e, f, more, h) refl

    colon : (reads n (again (labelled p)) us ≡ (reads n (unlabelled p) (labels_of us).1 >>= λ y. Ok (stmt_tree (labels_of us).0 y.0, y.1))) → same t.kind kinds.Name ≡ true → (b : Bool) → same c.kind (kinds.Symbol symbols.Colon) ≡ b → Goal
    colon ih e true f = further ih e f (reads n (unlabelled p) (labels_of us).1) refl
    colon ih e false f = let k : is_label (t ∷ c ∷ us) ≡ false = rw (e, f) refl in rw (e, f) (no_label n p (t ∷ c ∷ us) k)

    named : (reads n (again (labelled p)) us ≡ (reads n (unlabelled p) (labels_of us).1 >>= λ y. Ok (stmt_tree (labels_of us).0 y.0, y.1))) → (b : Bool) → same t.kind kinds.Name ≡ b → Goal
    named ih true e = colon ih e (same c.kind (kinds.Symbol symbols.Colon)) refl
    named ih false e = let k : is_label (t ∷ c ∷ us) ≡ false = rw e refl in rw e (no_label n p (t ∷ c ∷ us) k)

-- ---- one that is no IF and no FOR

simple_rule : (n : ℕ) (p : Bool) (ts : List Item) → reads n (again (labelled_simple p)) ts ≡ reads n (simple p) ts
unfolding again_rule
simple_rule n p ts = again_step n (a_pair (a_list a_name) a_simple) (labelled_simple p) ts

simple_step : (n : ℕ) (p : Bool) (t c : Item) (us : List Item) → same t.kind kinds.Name ≡ true → same c.kind (kinds.Symbol symbols.Colon) ≡ true
    → reads n (again (labelled_simple p)) (t ∷ c ∷ us) ≡ (reads n (again (labelled_simple p)) us >>= λ y. Ok ((raw_name t ∷ y.0.0, y.0.1), y.1))
unfolding simple simple_behind
simple_step n p t c us e f = go (reads n (again (labelled_simple p)) us) refl
  where
    go : (o : Read (List RawName × RawSimple)) → reads n (again (labelled_simple p)) us ≡ o → reads n (again (labelled_simple p)) (t ∷ c ∷ us) ≡ (reads n (again (labelled_simple p)) us >>= λ y. Ok ((raw_name t ∷ y.0.0, y.0.1), y.1))
    go (Ok y) h = rw (simple_rule n p (t ∷ c ∷ us), e, f, h) refl
    go (Err k) h = rw (simple_rule n p (t ∷ c ∷ us), e, f, h) refl

simple_unlabelled : (n : ℕ) (p : Bool) (ts : List Item) → is_label ts ≡ false → reads n (again (labelled_simple p)) ts ≡ (reads n (unlabelled_simple p) ts >>= λ y. Ok (([], y.0), y.1))
unfolding simple unlabelled_simple
simple_unlabelled n p [] e = last (reads n (unnamed p) []) refl
  where
    last : (o : _) → reads n (unnamed p) [] ≡ o → reads n (again (labelled_simple p)) [] ≡ (reads n (unlabelled_simple p) [] >>= λ y. Ok (([], y.0), y.1))
    last (Ok y) h = rw (simple_rule n p [], h) refl
    last (Err k) h = rw (simple_rule n p [], h) refl
simple_unlabelled n p (t ∷ us) e = named (same t.kind kinds.Name) refl
  where
    Goal : Type 0
    Goal = reads n (again (labelled_simple p)) (t ∷ us) ≡ (reads n (unlabelled_simple p) (t ∷ us) >>= λ y. Ok (([], y.0), y.1))

    simple_of : same t.kind kinds.Name ≡ true → starts us (kinds.Symbol symbols.Colon ∷ []) ≡ false → (o : _) → reads n simple_behind us ≡ o → Goal
    simple_of f g (Ok y) h = rw (simple_rule n p (t ∷ us), f, g, h) refl
    simple_of f g (Err k) h = rw (simple_rule n p (t ∷ us), f, g, h) refl

    other : same t.kind kinds.Name ≡ false → (o : _) → reads n (unnamed p) (t ∷ us) ≡ o → Goal
    other f (Ok y) h = rw (simple_rule n p (t ∷ us), f, h) refl
    other f (Err k) h = rw (simple_rule n p (t ∷ us), f, h) refl

    named : (b : Bool) → same t.kind kinds.Name ≡ b → Goal
    named true f = simple_of f (rw f at e) (reads n simple_behind us) refl
    named false f = other f (reads n (unnamed p) (t ∷ us)) refl

pub simple_behind_labels : (n : ℕ) (p : Bool) (ts : List Item) → reads n (again (labelled_simple p)) ts ≡ (reads n (unlabelled_simple p) (labels_of ts).1 >>= λ y. Ok (((labels_of ts).0, y.0), y.1))
simple_behind_labels n p [] = simple_unlabelled n p [] refl
simple_behind_labels n p (t ∷ []) = simple_unlabelled n p (t ∷ []) (alone t (same t.kind kinds.Name) refl)
simple_behind_labels n p (t ∷ c ∷ us) = named (simple_behind_labels n p us) (same t.kind kinds.Name) refl
  where
    Goal : Type 0
    Goal = reads n (again (labelled_simple p)) (t ∷ c ∷ us) ≡ (reads n (unlabelled_simple p) (labels_of (t ∷ c ∷ us)).1 >>= λ y. Ok (((labels_of (t ∷ c ∷ us)).0, y.0), y.1))

    further : (reads n (again (labelled_simple p)) us ≡ (reads n (unlabelled_simple p) (labels_of us).1 >>= λ y. Ok (((labels_of us).0, y.0), y.1))) → same t.kind kinds.Name ≡ true → same c.kind (kinds.Symbol symbols.Colon) ≡ true → (o : Read RawSimple) → reads n (unlabelled_simple p) (labels_of us).1 ≡ o → Goal
    further ih e f (Ok y) h =
        let more : reads n (again (labelled_simple p)) us ≡ Ok (((labels_of us).0, y.0), y.1) = ih ∙ rw h refl in
        simple_step n p t c us e f ∙ rw (e, f, more, h) refl
    further ih e f (Err k) h =
        let more : reads n (again (labelled_simple p)) us ≡ Err k = ih ∙ rw h refl in
        simple_step n p t c us e f ∙ rw (e, f, more, h) refl

    colon : (reads n (again (labelled_simple p)) us ≡ (reads n (unlabelled_simple p) (labels_of us).1 >>= λ y. Ok (((labels_of us).0, y.0), y.1))) → same t.kind kinds.Name ≡ true → (b : Bool) → same c.kind (kinds.Symbol symbols.Colon) ≡ b → Goal
    colon ih e true f = further ih e f (reads n (unlabelled_simple p) (labels_of us).1) refl
    colon ih e false f = let k : is_label (t ∷ c ∷ us) ≡ false = rw (e, f) refl in rw (e, f) (simple_unlabelled n p (t ∷ c ∷ us) k)

    named : (reads n (again (labelled_simple p)) us ≡ (reads n (unlabelled_simple p) (labels_of us).1 >>= λ y. Ok (((labels_of us).0, y.0), y.1))) → (b : Bool) → same t.kind kinds.Name ≡ b → Goal
    named ih true e = colon ih e (same c.kind (kinds.Symbol symbols.Colon)) refl
    named ih false e = let k : is_label (t ∷ c ∷ us) ≡ false = rw e refl in rw e (simple_unlabelled n p (t ∷ c ∷ us) k)

-- ---- as the readers use it

split_is : (ts us : List Item) (ns : List RawName) → labels ts ≡ Ok (ns, us) → labels_of ts ≡ (ns, us)
split_is ts us ns e = same_done (ns_of (labels_of ts)) (ns, us) e
  where
    ns_of : List RawName × List Item → List RawName × List Item
    ns_of x = x

pub labels_not_failed : (e : Stop) (A : Type 0) (ts : List Item) (total : Read A) → Fails e (labels ts) → Fails e total
labels_not_failed e A ts total failed = fails_where e (labels ts) total (λ f is. absurd cc) failed

pub stmt_read : (n : ℕ) (p : Bool) (ts us vs : List Item) (ns : List RawName) (f : RawForm) → labels ts ≡ Ok (ns, us) → reads n (unlabelled p) us ≡ Ok (f, vs) → reads n (again (labelled p)) ts ≡ Ok (stmt_tree ns f, vs)
stmt_read n p ts us vs ns f l h = stmt_behind_labels n p ts ∙ rw (split_is ts us ns l) (rw h refl)

pub stmt_fails : (s : Stop) (n : ℕ) (p : Bool) (ts us : List Item) (ns : List RawName) → labels ts ≡ Ok (ns, us) → Fails s (reads n (unlabelled p) us) → Fails s (reads n (again (labelled p)) ts)
stmt_fails e n p ts us ns l failed = fails_where e (reads n (unlabelled p) us) (reads n (again (labelled p)) ts) (λ f is. stmt_behind_labels n p ts ∙ rw (split_is ts us ns l) (rw is refl)) failed

pub simple_read : (n : ℕ) (p : Bool) (ts us vs : List Item) (ns : List RawName) (f : RawSimple) → labels ts ≡ Ok (ns, us) → reads n (unlabelled_simple p) us ≡ Ok (f, vs) → reads n (again (labelled_simple p)) ts ≡ Ok ((ns, f), vs)
simple_read n p ts us vs ns f l h = simple_behind_labels n p ts ∙ rw (split_is ts us ns l) (rw h refl)

pub simple_fails : (s : Stop) (n : ℕ) (p : Bool) (ts us : List Item) (ns : List RawName) → labels ts ≡ Ok (ns, us) → Fails s (reads n (unlabelled_simple p) us) → Fails s (reads n (again (labelled_simple p)) ts)
simple_fails e n p ts us ns l failed = fails_where e (reads n (unlabelled_simple p) us) (reads n (again (labelled_simple p)) ts) (λ f is. simple_behind_labels n p ts ∙ rw (split_is ts us ns l) (rw is refl)) failed
