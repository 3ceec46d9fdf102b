use Rattle.std.proofs.Common.{◌≡◌, drop}
use Rattle.link_text.specs.declared.numeral.Numeral.TheVariants.{Blank}
use Rattle.link_text.specs.Steps.{read}
use Rattle.link_text.proofs.numeral.number_in.Given as goal

-- what is left, read on from here, gives what all bytes give
abbrev pub invariant-loop-byte : goal.invariant-loop-byte
invariant-loop-byte l = read l.numeral (drop l.byte-index l.bytes) ≡ read Blank l.bytes
