-- What the image shows of a run follows from what its ports told, by the way in which they conclude it.
use Rattle.std.proofs.Common.{rules, ◌≡◌, ℕ, ◌∙◌, refl, sym, Bool, false, true, not}
use Rattle.cw_i86.specs.State.{State}
use Rattle.cw_cpu86.specs.Ports.{Device}
use Rattle.cw_cpu86.specs.Answers.{RunAnswers, RunCounts, events_of}
use Rattle.cw_cpu86.specs.declared.cpu.RunEnd.{RunEnd}
use Rattle.cw_ports.specs.Pieces.{part}
use Rattle.cw_ports.specs.Later.{InputSide, OutputSide, OutputLater, SidesLater, faults_of}
use Rattle.cw_ports.specs.Concluding.{IsFresh}
use Rattle.cw_ports.specs.Sides.{side_of_outlet, written_by_program, device_of, input_of, output_of, gathered_in}
use Rattle.cw_ports.specs.declared.outlet.Outlet.{Outlet}
use Rattle.cw_ports.specs.declared.ports.ImagePorts.{ImagePorts}
use Rattle.cw_ports.proofs.Pieces.{none_waits, part-length, part-none}
use Rattle.cw_ports.proofs.Shown.{Fitting, Keeps, Flushes, Came, came, concludes_too_long, concludes_broken, concludes_written}
use Rattle.cw_ports.proofs.ports.ImagePorts.conclude.Given.{Over}
use Rattle.cw_ports.proofs.ports.ImagePorts.conclude.Goals as goal

-- what the ports keep at any time
abbrev keeps : (g : Over) (q : ImagePorts g.row.I.Denot g.row.O.Denot g.I.Source)
    → Keeps (device_of g.O.Sink q) (input_of q) (output_of g.O.Sink q) (gathered_in q) (part q.inlet.bytes q.inlet.from q.inlet.to) (part q.outlet.bytes q.outlet.from q.outlet.to)
keeps g q = record {
  left = refl;
  piece = part-length q.inlet.bytes q.inlet.from q.inlet.to 4096 q.inlet.room;
  held = refl;
  none_waits = none_waits q.outlet.bytes q.outlet.from q.outlet.to _;
  unused = q.inlet.unused;
  cut = q.inlet.cut;
  unknown = q.inlet.over;
  dry = λ is. part-none q.inlet.bytes q.inlet.from q.inlet.to (q.inlet.dry is);
}

-- what the ports came to, by whatever run
abbrev came_to : (g : Over) (q : ImagePorts g.row.I.Denot g.row.O.Denot g.I.Source) (end : RunEnd) → Fitting → (s s' : State) (steps : ℕ) (d : Device) (a : InputSide) (o : OutputSide) (gathered : ℕ) → IsFresh d a o
    → (answers : RunAnswers end steps s d s' (device_of g.O.Sink q)) → RunCounts end (faults_of a.supply o.is_broken) (faults_of q.inlet.supply q.outlet.is_broken)
    → SidesLater a o gathered (input_of q) (output_of g.O.Sink q) (gathered_in q)
    → Came end steps s (events_of end steps s d s' (device_of g.O.Sink q) answers) (device_of g.O.Sink q) a o (input_of q) (output_of g.O.Sink q) (gathered_in q)
came_to g q end fitting s s' steps d a o gathered fresh answers counts later =
    came fitting end steps s s' d (device_of g.O.Sink q) a o gathered (input_of q) (output_of g.O.Sink q) (gathered_in q)
    (part q.inlet.bytes q.inlet.from q.inlet.to) (part q.outlet.bytes q.outlet.from q.outlet.to) (keeps g q) fresh answers counts later

pub returns-then-is_too_long-clause-runs : goal.returns-then-is_too_long-clause-runs
returns-then-is_too_long-clause-runs g c = λ s s' steps d a o gathered fresh answers counts later.
    let q = c.args.self.now in
    concludes_too_long steps s _ (device_of g.O.Sink q) a o (input_of q) (output_of g.O.Sink q) (gathered_in q) c.args.end (keeps g q) (sym c.is_too_long.ensures ∙ c.if-is_too_long.true)
    (came_to g q c.args.end c.fitting_input.ensures s s' steps d a o gathered fresh answers counts later)

-- what a flush did, by what it answered
abbrev flushed : (g : Over) (q : ImagePorts g.row.I.Denot g.row.O.Denot g.I.Source) (r : Outlet g.row.O.Denot) (answer is_done : Bool) → answer ≡ is_done
    → written_by_program g.O.Sink r ≡ written_by_program g.O.Sink q.outlet → OutputLater (output_of g.O.Sink q) (side_of_outlet g.O.Sink r)
    → answer ≡ not r.is_broken → (answer ≡ true → r.to ≡ 0) → (q.outlet.to ≡ 0 → q.outlet.is_broken ≡ false → answer ≡ true)
    → Flushes (output_of g.O.Sink q) (side_of_outlet g.O.Sink r) (gathered_in q) (part q.outlet.bytes q.outlet.from q.outlet.to) (part r.bytes r.from r.to) is_done
flushed g q r answer is_done is told later done empty nothing = record {
  later = later;
  told = told;
  done = sym is ∙ done;
  empty = λ e. none_waits r.bytes r.from r.to (g.O.Sink.held r.out.now) (empty (is ∙ e));
  nothing = λ none whole. sym is ∙ nothing none whole;
}

pub returns-then-not-flush-clause-runs : goal.returns-then-not-flush-clause-runs
returns-then-not-flush-clause-runs g c = λ s s' steps d a o gathered fresh answers counts later.
    let q = c.args.self.now in
    let r = c.flush.new.self in
    let f = c.flush.ensures in
    concludes_broken steps s _ (device_of g.O.Sink q) a o (input_of q) (output_of g.O.Sink q) (gathered_in q) (side_of_outlet g.O.Sink r) (keeps g q) c.args.end
    (flushed g q r c.flush.result false (search rules) f.told f.later f.done f.empty f.nothing)
    (came_to g q c.args.end c.fitting_input.ensures s s' steps d a o gathered fresh answers counts later)

pub returns-clause-runs : goal.returns-clause-runs
returns-clause-runs g c = λ s s' steps d a o gathered fresh answers counts later.
    let q = c.args.self.now in
    let r = c.flush.new.self in
    let f = c.flush.ensures in
    concludes_written steps s _ (device_of g.O.Sink q) a o (input_of q) (output_of g.O.Sink q) (gathered_in q) (side_of_outlet g.O.Sink r) (keeps g q)
    (flushed g q r c.flush.result true (search rules) f.told f.later f.done f.empty f.nothing) c.meaning-end.result c.args.end
    (sym c.is_too_long.ensures ∙ c.if-is_too_long.false) c.meaning-end.ensures
    (came_to g q c.args.end c.fitting_input.ensures s s' steps d a o gathered fresh answers counts later)
