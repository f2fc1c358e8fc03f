use Rattle.std.proofs.Common.{◌≡◌, [], ◌∷◌, ◌++◌, length, get_or, false, None, is_none, sym, ap, ◌∙◌, arith, rules}
use Rattle.cw_unit.specs.Storage.{base_of_home, family_extent}
use Rattle.cw_layout.specs.Tables.{sort_with, grown_frames}
use Rattle.cw_layout.proofs.Passes.{IsAt}
use Rattle.cw_layout.proofs.Tables.{family_within, frame_fits, frames_next, frames_kept, whole_frames, root_number, root_extent, is_root_home, based_home, families_on, families_same}
use Rattle.cw_layout.proofs.families.family_list.Goals as goal
use Rattle.cw_layout.proofs.families.family_list.Goals.{then-is_root+in_ok-push, else-is_root}

pub bounds-extents-as_slice : goal.bounds-extents-as_slice
bounds-extents-as_slice c =
    let u = c.args.unit.now in
    let i = c.index-items-n.result in
    let at : IsAt u c.loop-n.n i = record { within = search rules; read = search rules } in
    let root : base_of_home u i.home ≡ None = is_root_home u i.home (sym c.is_root.ensures ∙ c.if-is_root.true) in
    let number = root_number u c.loop-n.n _ i at root (ap length (c.as_slice-then-is_root.ensures ∙ c.loop-n.invariant.families)) in
    let within = family_within u c.loop-n.n i c.requires.unit.storable at in
    omega (arith, number, within, c.requires.extents.len)

pub sort_of-sort-requires : goal.sort_of-sort-requires
sort_of-sort-requires c =
    let u = c.args.unit.now in
    let i = c.index-items-n.result in
    let at : IsAt u c.loop-n.n i = record { within = search rules; read = search rules } in
    let root : base_of_home u i.home ≡ None = is_root_home u i.home (sym c.is_root.ensures ∙ c.if-is_root.true) in
    let extent = root_extent u c.loop-n.n _ i c.args.extents.now at root (ap length (c.as_slice-then-is_root.ensures ∙ c.loop-n.invariant.families)) c.requires.extents in
    frame_fits u c.requires.unit c.loop-n.n _ i c.loop-n.frames.items at c.loop-n.invariant.frames extent

pub loop-n-preserved : goal.loop-n-preserved
loop-n-preserved c =
    let u = c.args.unit.now in
    let h = c.requires.unit in
    let i = c.index-items-n.result in
    let n = c.loop-n.n in
    let fs = c.loop-n.frames.items in
    let at : IsAt u n i = record { within = search rules; read = search rules } in
    elim c.if-is_root.branch [
      | then-is_root+in_ok-push w ↦
          (let root : base_of_home u i.home ≡ None = is_root_home u i.home (sym c.is_root.ensures ∙ w.if-is_root.true) in
          let e = get_or c.args.extents.now (length w.as_slice-then-is_root.result.now) 0 in
          let extent : e ≡ family_extent u n =
          root_extent u n _ i c.args.extents.now at root (ap length (w.as_slice-then-is_root.ensures ∙ c.loop-n.invariant.families)) c.requires.extents in
          let sort_is : w.sort_of-sort.result ≡ sort_with fs i.owner i.home = search rules in
          let pushed : c.if-is_root.families ≡ c.loop-n.families ++ record { sort = w.sort_of-sort.result; extent = e } ∷ [] = search rules in
          let grown : c.if-is_root.frames.items ≡ grown_frames fs i.owner i.home e = search rules in
          record {
            families = families_on u h n e i fs c.loop-n.families _ at c.loop-n.invariant.frames root extent c.loop-n.invariant.families
                (pushed ∙ ap (λ s. c.loop-n.families ++ record { sort = s; extent = e } ∷ []) sort_is);
            frames = rw grown (frames_next u h n e i fs at c.loop-n.invariant.frames extent);
          })
      | else-is_root w ↦
          (let based : is_none (base_of_home u i.home) ≡ false = sym c.is_root.ensures ∙ w.if-is_root.false in
          let same : c.if-is_root.frames.items ≡ fs = search rules in
          record {
            families = w.families-is ∙ c.loop-n.invariant.families ∙ families_same u n i at based;
            frames = rw same (frames_kept u n i fs at (based_home u i.home based) c.loop-n.invariant.frames);
          })
    ]

pub returns-clause-frames : goal.returns-clause-frames
returns-clause-frames c =
    c.of.ensures ∙ whole_frames c.args.unit.now c.loop-n.n c.loop-n.frames.items c.loop-n.invariant.frames (search rules)
