use Rattle.std.proofs.Common.{Err, sym, refl, ap, ◌∙◌}
use Rattle.std.proofs.lemmas.Result.{err_from_is_err_and}
use Rattle.link_text.specs.Left.{left}
use Rattle.link_list.specs.Loads.{line_malformed}
use Rattle.link_list.proofs.Entered.{call_refused, call_accepted}
use Rattle.link_list.proofs.load.enter_line.Goals as goal

pub returns-in_err-line : goal.returns-in_err-line
returns-in_err-line g c =
    let p = err_from_is_err_and c.from_residual.result c.from_residual.ensures.1 in
    let e = c.in_err-line.ensures in
    record {
      same = record { entries = refl; marks = refl };
      text = e.moved.0;
      roster = refl;
      limit = refl;
      entries = refl;
      enters = line_malformed c.in_err-line.field-0.0 (sym e.answer) refl refl (p.1 ∙ ap Err p.2);
    }

pub returns-in_err-link : goal.returns-in_err-link
returns-in_err-link g c =
    let p = err_from_is_err_and c.from_residual-in_err-link.result c.from_residual-in_err-link.ensures.1 in
    let read = c.in_ok-line.ensures in
    let e = c.in_err-link.ensures in
    let was = c.args.store.now in
    let then = c.link.new.store in
    let table = c.args.table.now in
    let after = c.link.new.table in
    let done = call_refused c.in_ok-line.line (left c.args.reader.now) (left c.line.new.self) (sym read.answer) (g.S.Store.roster was) (g.S.Store.roster then) (g.S.Store.book was) (g.S.Store.book then) (g.S.EditableStore.limit was) (g.S.EditableStore.limit then) table.entries.now after.entries.now table.marks.now after.marks.now c.in_err-link.field-0.0 e.links in
    record {
      same = e.same;
      text = read.moved.0;
      roster = e.links.roster_then;
      limit = e.links.limit_then;
      entries = e.links.entries_then;
      enters = simp (p.1, p.2) done;
    }

pub returns : goal.returns
returns g c =
    let read = c.in_ok-line.ensures in
    let e = c.in_ok-link.ensures in
    let was = c.args.store.now in
    let then = c.link.new.store in
    let table = c.args.table.now in
    let after = c.link.new.table in
    record {
      same = e.same;
      text = read.moved.0;
      roster = e.links.roster_then;
      limit = e.links.limit_then;
      entries = e.links.entries_then;
      enters = call_accepted c.in_ok-line.line (left c.args.reader.now) (left c.line.new.self) (sym read.answer) (g.S.Store.roster was) (g.S.Store.roster then) (g.S.Store.book was) (g.S.Store.book then) (g.S.EditableStore.limit was) (g.S.EditableStore.limit then) table.entries.now after.entries.now table.marks.now after.marks.now e.links read.moved.1;
    }
