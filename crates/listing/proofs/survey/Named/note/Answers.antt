use Rattle.std.proofs.Common.{◌<◌, length, is_ok, Ok, Err, vec_items, vec_len, sym, ap, ◌∙◌, arith}
use Rattle.std.proofs.lemmas.List.Edits.{length-insert}
use Rattle.network.specs.Rosters.{climbs}
use Rattle.listing.proofs.Climbed.{noted_climbs}
use Rattle.listing.proofs.Noted.{searched_noted, taken, too_many, added}
use Rattle.listing.proofs.survey.Named.note.Goals as goal

pub returns-in_default : goal.returns-in_default
returns-in_default c =
    let was = c.args.self.now in
    let xs = vec_items was.ases in
    taken c.args.field c.args.number xs xs (searched_noted c.args.number xs c.deref.result.now (Ok c.in_default.field-0) was.rising c.deref.ensures.value c.in_default.ensures.position) was.few

pub returns-then-len-eq-MOST_ASES : goal.returns-then-len-eq-MOST_ASES
returns-then-len-eq-MOST_ASES c =
    let was = c.args.self.now in
    let xs = vec_items was.ases in
    let s = searched_noted c.args.number xs c.deref.result.now (Err c.in-Err.spot) was.rising c.deref.ensures.value c.in-Err.ensures.position in
    too_many c.args.field c.args.number xs c.in-Err.spot (omega (arith, c.if-len-eq-MOST_ASES.true, c.len.ensures, was.ases.ok.0)) s.0 s.1

pub invariant_of-self : goal.invariant_of-self
invariant_of-self c =
    let was = c.args.self.now in
    let xs = vec_items was.ases in
    let a = c.args.number in
    let i = c.in-Err.spot in
    let s = searched_noted a xs c.deref.result.now (Err i) was.rising c.deref.ensures.value c.in-Err.ensures.position in
    let short : vec_len was.ases < 24 = omega (arith, was.few, c.if-len-eq-MOST_ASES.false, c.len.ensures, was.ases.ok.0) in
    let made = c.insert.ensures.succeeds (omega (arith, short, was.room)) in
    let e = added a xs (vec_items c.insert.new.self) i (is_ok c.insert.result) made c.insert.ensures.items s.1 in
    record {
      room = omega (arith, c.insert.ensures.capacity, was.room);
      few = omega (arith, ap length e, ap length s.1, length-insert xs i a s.0, short, was.ases.ok.0);
      rising = ap (climbs 0) (sym e) ∙ noted_climbs 0 a xs c.requires was.rising;
    }

pub returns : goal.returns
returns c =
    let was = c.args.self.now in
    let xs = vec_items was.ases in
    let a = c.args.number in
    let i = c.in-Err.spot in
    let s = searched_noted a xs c.deref.result.now (Err i) was.rising c.deref.ensures.value c.in-Err.ensures.position in
    let short : vec_len was.ases < 24 = omega (arith, was.few, c.if-len-eq-MOST_ASES.false, c.len.ensures, was.ases.ok.0) in
    let made = c.insert.ensures.succeeds (omega (arith, short, was.room)) in
    let e = added a xs (vec_items c.insert.new.self) i (is_ok c.insert.result) made c.insert.ensures.items s.1 in
    taken c.args.field a xs (vec_items c.insert.new.self) e (omega (arith, ap length e, ap length s.1, length-insert xs i a s.0, short, was.ases.ok.0))
