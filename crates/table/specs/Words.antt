-- What each refusal of a route says. Assumes nothing.
use Rattle.std.specs.Prelude.{ℕ, List, codes}
use Rattle.table.specs.declared.types.RouteRefusal.{RouteRefusal}
use Rattle.table.specs.declared.types.RouteRefusal.TheVariants.{TableTooSmall, WorkTooSmall, UnknownAs, NotSettled, NoPath, ListTooShort, FalseEntry, LongWalk}

abbrev pub route_words : RouteRefusal → List ℕ
route_words TableTooSmall = codes "the table memory is too small"
route_words WorkTooSmall = codes "the work memory is too small"
route_words UnknownAs = codes "the AS is not in the roster"
route_words NotSettled = codes "the destination is not settled"
route_words NoPath = codes "there is no legal path"
route_words ListTooShort = codes "the path has more ASes than the list has places"
route_words FalseEntry = codes "an entry on the way is false"
route_words LongWalk = codes "the walk is too long"
