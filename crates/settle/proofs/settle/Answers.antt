use Rattle.std.proofs.Common.{◌≡◌, ℕ, ◌+◌, ◌-◌, ◌*◌, ◌≤◌, length, Some, rules, sym, ap, ◌∙◌, arith}
use Rattle.network.specs.Rosters.{place}
use Rattle.network.proofs.Rising.{place_stands}
use Rattle.settle.specs.Memory.{memory_of}
use Rattle.settle.proofs.Spans.{fills, no_cause}
use Rattle.settle.proofs.settle.Goals as goal

pub column_start-first-requires-clause-known : goal.column_start-first-requires-clause-known
column_start-first-requires-clause-known g c =
    let stands = place_stands (g.S.Store.roster c.args.store.now) c.args.destination c.in-Some.spot (sym c.place_of.ensures ∙ c.in-Some.is) in
    omega (arith, stands.within)

pub returns-clause-settles : goal.returns-clause-settles
returns-clause-settles g c =
    let roster = g.S.Store.roster c.args.store.now in
    let d : ℕ = c.in-Some.spot in
    let n : c.as_count-n.result ≡ length roster = c.as_count-n.ensures in
    let here : place roster c.args.destination ≡ Some d = sym c.place_of.ensures ∙ c.in-Some.is in
    let large = sym c.if-is_small.ensures in
    let table = c.args.table.now in
    let work = c.args.work.now in
    let first : ℕ = c.column_start-first.result in
    let k : ℕ = first + 2 * c.as_count-n.result - first in
    let size : k ≡ 2 * length roster = omega arith in
    let fits : first + 2 * length roster ≤ length table.entries.now = search rules in
    let long : length c.fill_column-count.new.column ≡ 2 * length roster = search rules in (
      no_cause roster c.args.destination d (memory_of table work) large (omega arith) (omega arith) here,
      (
        d,
        here,
        fills g.M.Measure.measure roster (g.S.Store.book c.args.store.now) c.args.destination d here table.entries.now c.fill_column-count.new.column long first k (c.column_start-first.ensures.start ∙ ap (λ z. 2 * z * d) n) size fits
            table.marks.now work.waiting.now c.fill_column-count.new.slots work.numbers.now (2 * c.as_count-n.result - 0) c.fill_column-count.result c.fill_column-count.ensures.ended c.fill_column-count.ensures.count (omega arith) (search rules) (omega arith),
      ),
    )
