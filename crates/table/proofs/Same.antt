-- The same memory, call after call. Assumes nothing.
use Rattle.std.proofs.Common.{◌∙◌}
use Rattle.table.specs.declared.types.Table.{Table}
use Rattle.table.specs.Memory.{SameMemory}

pub still_same : {C : Type 0} {t u v : Table C} → SameMemory t u → SameMemory u v → SameMemory t v
still_same first then = record { entries = then.entries ∙ first.entries; marks = then.marks ∙ first.marks }
