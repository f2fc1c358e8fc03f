use Rattle.std.proofs.Common.{◌≡◌, List, ℕ, [], ◌++◌, Err, ap, subst, ◌∙◌, append_assoc, append-nil}
use Rattle.std.specs.Prelude.{decimal, codes}
use Rattle.cw_write.specs.Said.{Writes}
use Rattle.cw_say.specs.Closing.{object_line}
use Rattle.cw_write.proofs.Said.{writes_then, writes_cut}
use Rattle.cw_say.proofs.bad.write_member_fault.Goals as goal

three : (a b c rest : List ℕ) → (a ++ (b ++ (c ++ []))) ++ rest ≡ a ++ (b ++ (c ++ rest))
three a b c rest = append_assoc a (b ++ (c ++ [])) rest ∙ ap (λ x. a ++ x) (append_assoc b (c ++ []) rest ∙ ap (λ x. b ++ x) (ap (λ x. x ++ rest) (append-nil c)))

-- the pieces of the front, and what stands behind them
whole_line : (file digits number rest : List ℕ) → digits ≡ number → (file ++ (codes ": B5 BadMember " ++ (digits ++ []))) ++ rest ≡ file ++ (codes ": B5 BadMember " ++ (number ++ rest))
whole_line file digits number rest same = three file (codes ": B5 BadMember ") digits rest ∙ ap (λ d. file ++ (codes ": B5 BadMember " ++ (d ++ rest))) same

pub returns-in-Ok : goal.returns-in-Ok
returns-in-Ok g c =
    let digits = c.as_bytes.result.now in
    let front : List ℕ = c.args.file.now ++ (codes ": B5 BadMember " ++ (digits ++ [])) in
    let rest : List ℕ = object_line (codes " ") c.args.fault.now in
    subst (λ t. Writes (g.S.Sink.held c.args.say.now) (g.S.Sink.held c.write_object_fault.new.say) (g.S.Sink.faults c.args.say.now) (g.S.Sink.faults c.write_object_fault.new.say) t c.write_object_fault.result)
    (whole_line c.args.file.now digits (decimal c.args.member) rest (c.as_bytes.ensures.value ∙ c.format-digits.ensures.text))
    (writes_then (g.S.Sink.held c.args.say.now) (g.S.Sink.held c.write_line.new.sink) (g.S.Sink.held c.write_object_fault.new.say) (g.S.Sink.faults c.args.say.now) (g.S.Sink.faults c.write_line.new.sink) (g.S.Sink.faults c.write_object_fault.new.say)
    front rest c.write_object_fault.result c.in-Ok.ensures.ok c.in-Ok.ensures.ok_faults c.write_object_fault.ensures)

pub returns-in-Err : goal.returns-in-Err
returns-in-Err g c =
    let digits = c.as_bytes.result.now in
    let front : List ℕ = c.args.file.now ++ (codes ": B5 BadMember " ++ (digits ++ [])) in
    let rest : List ℕ = object_line (codes " ") c.args.fault.now in
    subst (λ t. Writes (g.S.Sink.held c.args.say.now) (g.S.Sink.held c.write_line.new.sink) (g.S.Sink.faults c.args.say.now) (g.S.Sink.faults c.write_line.new.sink) t (Err c.in-Err.failed))
    (whole_line c.args.file.now digits (decimal c.args.member) rest (c.as_bytes.ensures.value ∙ c.format-digits.ensures.text))
    (writes_cut (g.S.Sink.held c.args.say.now) (g.S.Sink.held c.write_line.new.sink) (g.S.Sink.faults c.args.say.now) (g.S.Sink.faults c.write_line.new.sink) front rest c.in-Err.failed
    (subst (λ r. Writes (g.S.Sink.held c.args.say.now) (g.S.Sink.held c.write_line.new.sink) (g.S.Sink.faults c.args.say.now) (g.S.Sink.faults c.write_line.new.sink) front r) c.in-Err.is c.write_line.ensures))
