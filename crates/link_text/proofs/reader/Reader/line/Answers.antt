use Rattle.link_text.specs.declared.types.Field.TheVariants.{First, Second, Relation, Delay, Width}
use Rattle.link_text.specs.Left.{left}
use Rattle.link_text.proofs.Stages.{begins, reads, stops, ends, said, from_second, from_relation, from_delay, from_width}
use Rattle.link_text.proofs.reader.Reader.line.Goals as goal

pub returns-in_err-first : goal.returns-in_err-first
returns-in_err-first c =
    let line = c.args.self.now in
    let bs = left line in
    let at_1 = begins line c.in_ok-begin_line.field-0 c.in_ok-begin_line.ensures in
    let all = stops line First line c.field.new.self (from_second bs) at_1 c.field.ensures.moved c.in_err-first.field-0.0 c.in_err-first.ensures.answer c.from_residual-in_err-first.result c.from_residual-in_err-first.ensures.1 in
    record { answer = all.answer; moved = all.moved }

pub returns-in_err-second : goal.returns-in_err-second
returns-in_err-second c =
    let line = c.args.self.now in
    let bs = left line in
    let at_1 = begins line c.in_ok-begin_line.field-0 c.in_ok-begin_line.ensures in
    let a = c.in_ok-first.first in
    let at_2 = reads line First line c.field.new.self (from_second bs) at_1 c.field.ensures.moved a c.in_ok-first.ensures.answer in
    let all = stops line Second c.field.new.self c.field-2.new.self (from_relation bs a) at_2 c.field-2.ensures.moved c.in_err-second.field-0.0 c.in_err-second.ensures.answer c.from_residual-in_err-second.result c.from_residual-in_err-second.ensures.1 in
    record { answer = all.answer; moved = all.moved }

pub returns-in_err-relation : goal.returns-in_err-relation
returns-in_err-relation c =
    let line = c.args.self.now in
    let bs = left line in
    let at_1 = begins line c.in_ok-begin_line.field-0 c.in_ok-begin_line.ensures in
    let a = c.in_ok-first.first in
    let at_2 = reads line First line c.field.new.self (from_second bs) at_1 c.field.ensures.moved a c.in_ok-first.ensures.answer in
    let b = c.in_ok-second.second in
    let at_3 = reads line Second c.field.new.self c.field-2.new.self (from_relation bs a) at_2 c.field-2.ensures.moved b c.in_ok-second.ensures.answer in
    let all = stops line Relation c.field-2.new.self c.field-3.new.self (from_delay bs a b) at_3 c.field-3.ensures.moved c.in_err-relation.field-0.0 c.in_err-relation.ensures.answer c.from_residual-in_err-relation.result c.from_residual-in_err-relation.ensures.1 in
    record { answer = all.answer; moved = all.moved }

pub returns-in_err-delay : goal.returns-in_err-delay
returns-in_err-delay c =
    let line = c.args.self.now in
    let bs = left line in
    let at_1 = begins line c.in_ok-begin_line.field-0 c.in_ok-begin_line.ensures in
    let a = c.in_ok-first.first in
    let at_2 = reads line First line c.field.new.self (from_second bs) at_1 c.field.ensures.moved a c.in_ok-first.ensures.answer in
    let b = c.in_ok-second.second in
    let at_3 = reads line Second c.field.new.self c.field-2.new.self (from_relation bs a) at_2 c.field-2.ensures.moved b c.in_ok-second.ensures.answer in
    let r = c.in_ok-relation.relation in
    let at_4 = reads line Relation c.field-2.new.self c.field-3.new.self (from_delay bs a b) at_3 c.field-3.ensures.moved r c.in_ok-relation.ensures.answer in
    let all = stops line Delay c.field-3.new.self c.field-4.new.self (from_width bs a b r) at_4 c.field-4.ensures.moved c.in_err-delay.field-0.0 c.in_err-delay.ensures.answer c.from_residual-in_err-delay.result c.from_residual-in_err-delay.ensures.1 in
    record { answer = all.answer; moved = all.moved }

pub returns-in_err-width : goal.returns-in_err-width
returns-in_err-width c =
    let line = c.args.self.now in
    let bs = left line in
    let at_1 = begins line c.in_ok-begin_line.field-0 c.in_ok-begin_line.ensures in
    let a = c.in_ok-first.first in
    let at_2 = reads line First line c.field.new.self (from_second bs) at_1 c.field.ensures.moved a c.in_ok-first.ensures.answer in
    let b = c.in_ok-second.second in
    let at_3 = reads line Second c.field.new.self c.field-2.new.self (from_relation bs a) at_2 c.field-2.ensures.moved b c.in_ok-second.ensures.answer in
    let r = c.in_ok-relation.relation in
    let at_4 = reads line Relation c.field-2.new.self c.field-3.new.self (from_delay bs a b) at_3 c.field-3.ensures.moved r c.in_ok-relation.ensures.answer in
    let d = c.in_ok-delay.delay in
    let at_5 = reads line Delay c.field-3.new.self c.field-4.new.self (from_width bs a b r) at_4 c.field-4.ensures.moved d c.in_ok-delay.ensures.answer in
    let all = stops line Width c.field-4.new.self c.field-5.new.self (said a b r d) at_5 c.field-5.ensures.moved c.in_err-width.field-0.0 c.in_err-width.ensures.answer c.from_residual-in_err-width.result c.from_residual-in_err-width.ensures.1 in
    record { answer = all.answer; moved = all.moved }

pub returns : goal.returns
returns c =
    let line = c.args.self.now in
    let bs = left line in
    let at_1 = begins line c.in_ok-begin_line.field-0 c.in_ok-begin_line.ensures in
    let a = c.in_ok-first.first in
    let at_2 = reads line First line c.field.new.self (from_second bs) at_1 c.field.ensures.moved a c.in_ok-first.ensures.answer in
    let b = c.in_ok-second.second in
    let at_3 = reads line Second c.field.new.self c.field-2.new.self (from_relation bs a) at_2 c.field-2.ensures.moved b c.in_ok-second.ensures.answer in
    let r = c.in_ok-relation.relation in
    let at_4 = reads line Relation c.field-2.new.self c.field-3.new.self (from_delay bs a b) at_3 c.field-3.ensures.moved r c.in_ok-relation.ensures.answer in
    let d = c.in_ok-delay.delay in
    let at_5 = reads line Delay c.field-3.new.self c.field-4.new.self (from_width bs a b r) at_4 c.field-4.ensures.moved d c.in_ok-delay.ensures.answer in
    let w = c.in_ok-width.width in
    let at_6 = reads line Width c.field-4.new.self c.field-5.new.self (said a b r d) at_5 c.field-5.ensures.moved w c.in_ok-width.ensures.answer in
    let all = ends line c.field-5.new.self c.end_line.new.self a b r d w at_6 c.end_line.ensures in
    record { answer = all.answer; moved = all.moved }
