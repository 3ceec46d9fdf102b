-- The number of each refusal. Assumes nothing.
use Rattle.std.specs.Prelude.{ℕ}
use Rattle.waiting.specs.declared.types.WaitingRefusal.{WaitingRefusal}
use Rattle.waiting.specs.declared.types.WaitingRefusal.TheVariants.{AlreadyWaiting, Full, NotLower}

abbrev pub waiting_number : WaitingRefusal → ℕ
waiting_number AlreadyWaiting = 41
waiting_number Full = 42
waiting_number NotLower = 43
