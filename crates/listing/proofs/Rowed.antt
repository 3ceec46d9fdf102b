-- What a send answers over settled columns, as a row. Assumes nothing.
use Rattle.std.proofs.Common.{◌≡◌, ℕ, ◌<◌, ◌≤◌, Bool, true, not, ◌≢◌, List, [], ◌∷◌, ◌++◌, length, get_or, drop, replicate, is_some, Some, None, Option, Result, sym, refl, ap, ◌∙◌, subst, inl, inr, arith}
use Rattle.std.specs.Result.{result_ok}
use Rattle.std.proofs.lemmas.List.{length-replicate}
use Rattle.network.specs.declared.types.Link.{Link}
use Rattle.network.specs.Rosters.{Among, place}
use Rattle.network.specs.Causes.{first_cause}
use Rattle.network.specs.Sound.{Sound}
use Rattle.network.proofs.Rising.{among_place}
use Rattle.measure.specs.Delay.{delay}
use Rattle.measure.specs.Delays.{delay_laws}
use Rattle.legality.specs.declared.types.Class.TheVariants.{Home}
use Rattle.legality.specs.Networks.{Network, net_of}
use Rattle.legality.specs.Paths.{Route, Chain, First, Second, Last, cost}
use Rattle.legality.proofs.Lists.{pigeonhole}
use Rattle.table.specs.declared.types.RouteRefusal.{RouteRefusal}
use Rattle.table.specs.declared.types.Table.{Table}
use Rattle.table.specs.declared.types.RouteRefusal.TheVariants.{UnknownAs, NotSettled}
use Rattle.routes.specs.Routes.{has, refusal, Sends}
use Rattle.routes.specs.Raw.{sending, send_answer, send_list}
use Rattle.routes.proofs.Answered.{sends}
use Rattle.listing.specs.declared.types.Route.{Route as Told}
use Rattle.listing.specs.Rows.{RowRight, there, nowhere}
use Rattle.listing.specs.Settled.{AllSettled}

-- a question about ASes of the roster, the second of them settled, is not refused
asked : (a b c : Bool) → a ≡ true → b ≡ true → c ≡ true → first_cause {R = RouteRefusal} ((UnknownAs, not a) ∷ ((UnknownAs, not b) ∷ ((NotSettled, not c) ∷ []))) ≡ None
asked a b c p q r = rw (p, q, r) refl

known : (roster : List ℕ) (a : ℕ) → Among a roster → is_some (place roster a) ≡ true
known roster a h = ap is_some (among_place roster a h).1

-- the ASes of a chain are in the roster
chain_among : (net : Network) (p : List ℕ) → Chain net p → (x : ℕ) → Among x p → Among x net.roster
chain_among net [] c x h = absurd h
chain_among net (a ∷ []) c x (inl e) = subst (λ z. Among z net.roster) (sym e) c
chain_among net (a ∷ []) c x (inr h) = absurd h
chain_among net (a ∷ (b ∷ r)) c x (inl e) = subst (λ z. Among z net.roster) (sym e) c.0
chain_among net (a ∷ (b ∷ r)) c x (inr h) = chain_among net (b ∷ r) c.2 x h

route_short : (net : Network) (s d : ℕ) (q : List ℕ) → Route net Home s d q → length q ≤ length net.roster
route_short net s d q r = pigeonhole q net.roster r.legal.path.distinct (chain_among net q r.legal.path.chain)

-- the second AS of a path between two different ASes
second_of : (q : List ℕ) (s d : ℕ) (more : List ℕ) → s ≢ d → First s q → Last d q → Second (get_or (q ++ more) 1 0) q
second_of [] s d more n f l = absurd f
second_of (a ∷ []) s d more n f l = absurd (n (sym f ∙ l))
second_of (a ∷ (b ∷ r)) s d more n f l = refl

-- the route that a send tells, by what it answers and the list that it leaves
abbrev pub told : Option (ℕ × ℕ) → List ℕ → Option Told
told (Some x) l = Some (record { next = get_or l 1 0; links = x.1; delay = x.0 })
told None l = None

module _ (roster : List ℕ) (book : List Link) (sound : Sound roster book) (ases : List ℕ) (table : Table ℕ) (h : AllSettled roster book ases table) (s d : ℕ) (apart : s ≢ d) (source : Among s ases) (destination : Among d ases) where
  abbrev net : Network
  net = net_of roster book

  abbrev ws : List ℕ
  ws = replicate 24 0

  by : Among d roster
  by = subst (Among d) h.all destination

  not_refused : (x : RouteRefusal) → refusal roster h.settled s d ≡ Some x → ⊥
  not_refused x e =
      let none = asked (is_some (place roster s)) (is_some (place roster d)) (has h.settled d) (known roster s (subst (Among s) h.all source)) (known roster d by) (h.each d by) in
      let z : ◌≡◌ {A = ℕ} 0 1 = cc in
      omega arith

  not_long : (q : List ℕ) → Route net Home s d q → length ws < length q → ⊥
  not_long q r l = omega (arith, route_short net s d q r, ap length h.all, h.few, length-replicate {A = ℕ} 24 0, l)

  -- a send to a settled AS tells the row
  row_right : (r : Result (ℕ × ℕ) RouteRefusal) (l : List ℕ) → Sends delay roster book h.settled s d ws r l → RowRight net s d (record { source = s; destination = d; route = told (result_ok r) l })
  row_right r l (Sends.refused x e) = absurd (not_refused x e)
  row_right r l (Sends.shut e none) = nowhere none refl refl refl
  row_right r l (Sends.long q e route walks short) = absurd (not_long q route short)
  row_right r l (Sends.sent q links e route walks least long short) =
      there q (record { next = get_or l 1 0; links = links; delay = cost delay net q }) route walks least refl refl refl (second_of q s d (drop (length q) ws) apart route.first route.last) long refl

  abbrev answer : Result (ℕ × ℕ) RouteRefusal
  answer = send_answer (sending delay net table.entries.now table.marks.now s d 24)

  abbrev list : List ℕ
  list = send_list ws (sending delay net table.entries.now table.marks.now s d 24)

  pub row_told : (r : Result (ℕ × ℕ) RouteRefusal) (l : List ℕ) (o : Option (ℕ × ℕ)) (route : Option Told) → r ≡ answer → l ≡ list → o ≡ result_ok r → route ≡ told o l → RowRight net s d (record { source = s; destination = d; route = route })
  row_told r l o route p q e t =
      let same : told (result_ok answer) list ≡ route = ap (λ x. told (result_ok x) list) (sym p) ∙ (ap (λ x. told x list) (sym e) ∙ (ap (told o) (sym q) ∙ sym t)) in
      subst (λ x. RowRight net s d (record { source = s; destination = d; route = x })) same (row_right answer list (sends delay delay_laws roster book sound h.settled table.entries.now table.marks.now h.holds s d ws))
