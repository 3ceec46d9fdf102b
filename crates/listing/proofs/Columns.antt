-- Numbers that are printed in columns. Assumes nothing.
use Rattle.std.proofs.Common.{◌≡◌, ℕ, ◌++◌, List, [], ◌∷◌, Some, None, Option, sym, refl, ap, ◌∙◌, append_assoc, arith}
use Rattle.std.specs.List.{flat_map}
use Rattle.std.specs.Option.{UnwrapsOrElse}
use Rattle.std.specs.Fmt.{decimal, styled_decimal, format_spec}
use Rattle.std.proofs.Padding.{padded_integral_right}
use Rattle.listing.specs.declared.types.Route.{Route}
use Rattle.listing.specs.Pages.{column, line, route_numbers}

-- what `{:>10}` writes
columned : (s : _) (n : ℕ) → s ≡ format_spec 32 3 0 10 18446744073709551615 → styled_decimal s n ≡ column n
columned s n e =
    ap (λ t. styled_decimal t n) e ∙ padded_integral_right (format_spec 32 3 0 10 18446744073709551615) (decimal n) refl refl (λ q. omega (arith, q)) (λ q. omega (arith, q)) (omega arith)

-- columns from left to right, and a line feed
abbrev pub columns : List ℕ → List ℕ
columns [] = 10 ∷ []
columns (n ∷ ns) = column n ++ columns ns

pub columns_line : (ns : List ℕ) → columns ns ≡ line ns
columns_line [] = refl
columns_line (n ∷ ns) = ap (λ bs. column n ++ bs) (columns_line ns) ∙ sym (append_assoc (column n) (flat_map column ns) (10 ∷ []))

pub put_column : (s : _) (n : ℕ) (bs cs : List ℕ) → s ≡ format_spec 32 3 0 10 18446744073709551615 → bs ≡ cs → styled_decimal s n ++ bs ≡ column n ++ cs
put_column s n bs cs e rest = ap (λ ds. ds ++ bs) (columned s n e) ∙ ap (λ ds. column n ++ ds) rest

-- the numbers of a route, or of the default where there is none
pub told : (o : Option Route) (t : Route) (P : Route → Type 0) → UnwrapsOrElse o P t → (P t → t ≡ record { next = 0; links = 0; delay = 0 }) → route_numbers o ≡ t.next ∷ (t.links ∷ (t.delay ∷ []))
told None t P h zeros = ap (λ r. r.next ∷ (r.links ∷ (r.delay ∷ []))) (sym (zeros h))
told (Some x) t P h zeros = ap (λ r. r.next ∷ (r.links ∷ (r.delay ∷ []))) (sym h)
