use Rattle.std.proofs.Common.{◌≡◌, ℕ, List, [], map, slice_index_or, Some, Bor, sym, subst}
use Rattle.cw_stop.specs.Stopping.{stop_in}
use Rattle.cw_words.specs.Parts.{command_parts, copies_of, stop_of}
use Rattle.cw_words.specs.declared.action.Action.TheVariants.{Compile, Lib, Link, List as Show, Map, Depth, Code, Migrate, Big, Hex, Trace}
use Rattle.cw_top.proofs.Asked.{asked, asked_so, copies_told, stop_told, no_stop}
use Rattle.cw_top.proofs.command.perform.Goals as goal

pub returns-in-Compile : goal.returns-in-Compile
returns-in-Compile g c = asked_so Compile (command_parts c.args.command.now) _ _ _ c.in-Compile.is (λ input. rw c.as_slice-names.ensures.value at (c.compile.ensures (g.I.Source.left c.args.input.now) (g.I.Source.faults c.args.input.now) (g.O.Sink.held c.args.out.now) (g.O.Sink.faults c.args.out.now)))

pub returns-in-Lib : goal.returns-in-Lib
returns-in-Lib g c = asked_so Lib (command_parts c.args.command.now) _ _ _ c.in-Lib.is (λ input. rw c.as_slice-names.ensures.value at (c.make_library.ensures (g.I.Source.left c.args.input.now) (g.I.Source.faults c.args.input.now) (g.O.Sink.held c.args.out.now) (g.O.Sink.faults c.args.out.now)))

pub returns-in-Link : goal.returns-in-Link
returns-in-Link g c = asked_so Link (command_parts c.args.command.now) _ _ _ c.in-Link.is (λ input. rw c.as_slice-names.ensures.value at (c.link.ensures (g.I.Source.left c.args.input.now) (g.I.Source.faults c.args.input.now) (g.O.Sink.held c.args.out.now) (g.O.Sink.faults c.args.out.now)))

pub returns-in-List : goal.returns-in-List
returns-in-List g c = asked_so Show (command_parts c.args.command.now) _ _ _ c.in-List.is (λ input. rw c.as_slice-names.ensures.value at (c.show.ensures (g.I.Source.left c.args.input.now) (g.I.Source.faults c.args.input.now)))

pub returns-in-Map : goal.returns-in-Map
returns-in-Map g c = asked_so Map (command_parts c.args.command.now) _ _ _ c.in-Map.is (λ input. rw c.as_slice-names.ensures.value at (c.map_files.ensures (g.I.Source.left c.args.input.now) (g.I.Source.faults c.args.input.now)))

pub returns-in-Depth : goal.returns-in-Depth
returns-in-Depth g c = asked_so Depth (command_parts c.args.command.now) _ _ _ c.in-Depth.is (λ input. rw c.as_slice-names.ensures.value at (c.depth_files.ensures (g.I.Source.left c.args.input.now) (g.I.Source.faults c.args.input.now)))

pub returns-in-Code : goal.returns-in-Code
returns-in-Code g c = asked_so Code (command_parts c.args.command.now) _ _ _ c.in-Code.is (λ input. rw c.as_slice-names.ensures.value at (c.code_files.ensures (g.I.Source.left c.args.input.now) (g.I.Source.faults c.args.input.now)))

pub returns-in-Migrate : goal.returns-in-Migrate
returns-in-Migrate g c = asked_so Migrate (command_parts c.args.command.now) _ _ _ c.in-Migrate.is (λ input. rw c.as_slice-names.ensures.value at (c.migrate.ensures (g.I.Source.left c.args.input.now) (g.I.Source.faults c.args.input.now) (g.O.Sink.held c.args.out.now) (g.O.Sink.faults c.args.out.now)))

pub returns-in-Hex : goal.returns-in-Hex
returns-in-Hex g c = asked_so Hex (command_parts c.args.command.now) _ _ _ c.in-Hex.is (λ input. rw c.as_slice-names.ensures.value at (c.hex.ensures (g.I.Source.left c.args.input.now) (g.I.Source.faults c.args.input.now) (g.O.Sink.held c.args.out.now) (g.O.Sink.faults c.args.out.now)))

pub returns-in-Big : goal.returns-in-Big
returns-in-Big g c =
    let names = map (λ (name : Bor (List ℕ)). name.now) c.args.command.now.names.items in
    asked Big (command_parts c.args.command.now) _ _ _ c.in-Big.is
    (c.big.ensures names (g.F.Store.file c.args.files.now) (g.F.Store.faults c.args.files.now) (g.F.Store.absences c.args.files.now)
    (copies_told names c.args.command.now.copies (subst (λ action. copies_of action names ≡ Some c.args.command.now.copies) c.in-Big.is c.requires.copies)))

pub trace-requires-clause-stop : goal.trace-requires-clause-stop
trace-requires-clause-stop g c =
    let names = map (λ (name : Bor (List ℕ)). name.now) c.args.command.now.names.items in
    let asks : stop_of Trace names ≡ Some c.args.command.now.stop = subst (λ action. stop_of action names ≡ Some c.args.command.now.stop) c.in-Trace.is c.requires.stop in
    let P : List (Bor (List ℕ)) → Type 0 = λ items. stop_in (slice_index_or (map (λ (name : Bor (List ℕ)). name.now) items) 0 []) ≡ Some c.in-Some.stop in
    subst P (sym c.as_slice-names.ensures.value) (stop_told names c.in-Some.stop (subst (λ o. stop_of Trace names ≡ Some o) c.in-Some.is asks))

pub returns-in-Some : goal.returns-in-Some
returns-in-Some g c = asked Trace (command_parts c.args.command.now) _ _ _ c.in-Trace.is (rw c.as_slice-names.ensures.value at c.trace.ensures)

pub unreachable-requires : goal.unreachable-requires
unreachable-requires g c =
    let names = map (λ (name : Bor (List ℕ)). name.now) c.args.command.now.names.items in
    let asks : stop_of Trace names ≡ Some c.args.command.now.stop = subst (λ action. stop_of action names ≡ Some c.args.command.now.stop) c.in-Trace.is c.requires.stop in
    no_stop names (subst (λ o. stop_of Trace names ≡ Some o) c.in-None.is asks)
