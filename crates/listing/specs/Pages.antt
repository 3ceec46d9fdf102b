-- What the lister prints, byte by byte. Assumes nothing.
use Rattle.std.specs.Prelude.{ℕ, ◌-◌, List, [], ◌∷◌, ◌++◌, length, replicate, Some, None, Option, vec_items, decimal}
use Rattle.std.specs.List.{flat_map}
use Rattle.link_list.specs.declared.types.Fault.{Fault}
use Rattle.link_list.specs.Faults.{cause_number, cause_column, cause_layer}
use Rattle.listing.specs.declared.types.Listing.{Listing}
use Rattle.listing.specs.declared.types.Listing.TheVariants.{Table, Faulty}
use Rattle.listing.specs.declared.types.Route.{Route}
use Rattle.listing.specs.declared.types.Row.{Row}

-- a number in 10 columns, right-justified, filled with spaces
abbrev pub column : ℕ → List ℕ
column n = replicate (10 - length (decimal n)) 32 ++ decimal n

-- a line of numbers, each in 10 columns, and a line feed
abbrev pub line : List ℕ → List ℕ
line ns = flat_map column ns ++ (10 ∷ [])

-- of a route, or zeros where there is none
abbrev pub route_numbers : Option Route → List ℕ
route_numbers (Some t) = t.next ∷ (t.links ∷ (t.delay ∷ []))
route_numbers None = 0 ∷ (0 ∷ (0 ∷ []))

abbrev pub numbers : Row → List ℕ
numbers r = r.source ∷ (r.destination ∷ route_numbers r.route)

-- a line for each row
abbrev pub page : List Row → List ℕ
page rows = flat_map (λ r. line (numbers r)) rows

abbrev pub fault_numbers : Fault → List ℕ
fault_numbers f = cause_number f.cause ∷ (f.line ∷ (cause_column f.cause ∷ (cause_layer f.cause ∷ [])))

-- what is printed of a listing
abbrev pub printed : Listing → List ℕ
printed (Table rows) = page (vec_items rows)
printed (Faulty f) = line (fault_numbers f)
