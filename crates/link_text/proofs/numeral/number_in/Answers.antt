use Rattle.std.proofs.Common.{arith}
use Rattle.std.proofs.lemmas.Grind.{common_steps}
use Rattle.link_text.proofs.ByBytes.{after_blank}
use Rattle.link_text.proofs.numeral.number_in.Goals as goal

pub returns : goal.returns
returns c = grind (arith, common_steps, after_blank c.args.field c.args.bytes.now)
