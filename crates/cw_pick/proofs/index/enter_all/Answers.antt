use Rattle.std.proofs.Common.{◌≡◌, ◌+◌, Bool, true, false, List, sym, ap, ◌∙◌, take}
use Rattle.std.specs.Prelude.{nat_eq}
use Rattle.std.specs.Str.{bytes_eq}
use Rattle.cw_comm.specs.Agreement.{Name}
use Rattle.cw_pick.specs.Picking.{is_in, is_among}
use Rattle.cw_pick.specs.Working.{definers}
use Rattle.cw_pick.proofs.Bools.{any_more, same_name}
use Rattle.cw_pick.proofs.Indexing.{name_entered, name_settled}
use Rattle.cw_pick.proofs.index.enter_all.Goals as goal
use Rattle.cw_pick.proofs.index.enter_all.Goals.{then-not-contains+in_ok-enter, else-not-contains}

pub loop-name-preserved : goal.loop-name-preserved
loop-name-preserved c =
    let names : List Name = c.args.names.now in
    let settled : List Name = c.args.settled.now.keys in
    let x : Name = c.name-item.result in
    let more = λ (name : Name). any_more (bytes_eq name) names c.loop-name.name-index x c.loop-name-test.true c.name-item.is in
    let alike : (name : Name) (b : Bool) → is_among settled x ≡ b → bytes_eq name x ≡ true → is_among settled name ≡ b = λ name b e h. ap (is_among settled) (same_name name x h) ∙ e in
    let i = c.loop-name.name-index in
    elim c.if-not-contains.branch [
      | then-not-contains+in_ok-enter w ↦ rw w.index-is (record {
        lists = w.in_ok-enter.ensures.lists;
        entered = λ name k.
            w.in_ok-enter.ensures.entered name k
            ∙ name_entered (nat_eq k c.args.member) (is_in (definers c.args.index.now name) k) (is_among (take (i + 1) names) name) (is_among (take i names) name) (is_among settled name) (bytes_eq name x) (more name)
            (alike name false (sym c.contains.ensures ∙ w.if-not-contains.true)) (is_in (definers c.loop-name.index name) k) (c.loop-name.invariant.entered name k);
      })
      | else-not-contains w ↦ rw w.index-is (record {
        lists = c.loop-name.invariant.lists;
        entered = λ name k.
            name_settled (nat_eq k c.args.member) (is_in (definers c.args.index.now name) k) (is_among (take (i + 1) names) name) (is_among (take i names) name) (is_among settled name) (bytes_eq name x) (more name)
            (alike name true (sym c.contains.ensures ∙ w.if-not-contains.false)) (is_in (definers c.loop-name.index name) k) (c.loop-name.invariant.entered name k);
      })
    ]
