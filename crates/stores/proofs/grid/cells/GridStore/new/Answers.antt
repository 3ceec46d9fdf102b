use Rattle.std.proofs.Common.{rules, arith}
use borrow.Author.Tests.{tests}
use Rattle.stores.proofs.GridRows.{bare_fit, bare_filled}
use Rattle.stores.proofs.grid.cells.GridStore.new.Goals as goal

pub invariant_of-result : goal.invariant_of-result
invariant_of-result c =
    let made = c.from_fn.ensures.items in
    record {
      few = search rules;
      sized = made.long;
      rising = search rules;
      placed = bare_fit c.from_fn.result (λ i d h. let call = (made.at i d (omega (arith, h, made.long))).2 in search (rules, tests)) _;
    }

pub returns-clause-book : goal.returns-clause-book
returns-clause-book c =
    let made = c.from_fn.ensures.items in
    bare_filled c.from_fn.result (λ i d h. let call = (made.at i d (omega (arith, h, made.long))).2 in search (rules, tests))
