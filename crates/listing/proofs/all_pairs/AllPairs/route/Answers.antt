use Rattle.std.proofs.Common.{Some, None, refl}
use Rattle.listing.proofs.Rowed.{row_told}
use Rattle.listing.proofs.all_pairs.AllPairs.route.Goals as goal

pub returns-in_err-delay : goal.returns-in_err-delay
returns-in_err-delay g c =
    let r = c.requires in
    row_told _ _ (g.met.S.Store.sound c.args.self.now.store.now) _ _ r.settled c.args.source c.args.destination r.apart r.source r.destination c.send.result c.send.new.list None c.from_residual.result c.send.ensures.answer c.send.ensures.list c.in_err-delay.ensures.value c.from_residual.ensures

pub returns : goal.returns
returns g c =
    let r = c.requires in
    row_told _ _ (g.met.S.Store.sound c.args.self.now.store.now) _ _ r.settled c.args.source c.args.destination r.apart r.source r.destination c.send.result c.send.new.list (Some (c.in_ok-delay.delay, c.in_ok-delay.links)) _ c.send.ensures.answer c.send.ensures.list c.in_ok-delay.ensures.value refl
