-- The number of each refusal. Assumes nothing.
use Rattle.std.specs.Prelude.{ℕ}
use Rattle.table.specs.declared.types.RouteRefusal.{RouteRefusal}
use Rattle.table.specs.declared.types.RouteRefusal.TheVariants.{TableTooSmall, WorkTooSmall, UnknownAs, NotSettled, NoPath, ListTooShort, FalseEntry, LongWalk}

abbrev pub route_number : RouteRefusal → ℕ
route_number TableTooSmall = 31
route_number WorkTooSmall = 32
route_number UnknownAs = 21
route_number NotSettled = 22
route_number NoPath = 23
route_number ListTooShort = 24
route_number FalseEntry = 35
route_number LongWalk = 36
