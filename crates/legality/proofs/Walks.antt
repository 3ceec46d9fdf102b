-- The walk of a table's next ASes: there is one, and it is a shortest path. Assumes nothing.
use Rattle.std.proofs.Common.{◌≡◌, ℕ, List, [], ◌∷◌, Some, sym, refl, ap, ◌∙◌}
use Rattle.std.proofs.lemmas.Option.{same_Some}
use Rattle.network.specs.Rosters.{Among}
use Rattle.network.proofs.Somes.{same_pair}
use Rattle.measure.specs.Measures.{Measure, Laws}
use Rattle.legality.specs.declared.types.Class.{Class}
use Rattle.legality.specs.Classes.{allowed}
use Rattle.legality.specs.Networks.{Network, Sound}
use Rattle.legality.specs.Paths.{First}
use Rattle.legality.specs.Tables.{Table, Local, Follows, Walk}
use Rattle.legality.proofs.Costs.{path_length}
use Rattle.legality.proofs.Local.{trip}

-- The table leaves no choice.
pub one_walk : {C : Type 0} (net : Network) (t : Table C) (d : ℕ) (e e' : Class) (a : ℕ) (p q : List ℕ) → e ≡ e' → First a p → First a q → Follows net t d e p → Follows net t d e' q → p ≡ q
one_walk net t d e e' a [] q i f f' g g' = absurd f
one_walk net t d e e' a (x ∷ []) [] i f f' g g' = absurd f'
one_walk net t d e e' a (x ∷ (y ∷ r)) [] i f f' g g' = absurd f'
one_walk net t d e e' a (x ∷ []) (u ∷ []) i f f' g g' = ap (λ v. v ∷ []) (f ∙ sym f')
one_walk net t d e e' a (x ∷ []) (u ∷ (v ∷ s)) i f f' g g' = absurd (g'.0 (f' ∙ sym f ∙ g))
one_walk net t d e e' a (x ∷ (y ∷ r)) (u ∷ []) i f f' g g' = absurd (g.0 (f ∙ sym f' ∙ g'))
one_walk {C} net t d e e' a (x ∷ (y ∷ r)) (u ∷ (v ∷ s)) i f f' g g' =
    let start : x ≡ u = f ∙ sym f' in
    let entry : t x e ≡ Some (v, g'.1.0) = ap (t x) i ∙ ap (λ z. t z e') start ∙ g'.1.1 in
    let next : y ≡ v = (same_pair g.1.1 entry).0 in
    let relation : g.2.0 ≡ g'.2.0 = (same_pair g.2.3 (ap (net.step x) next ∙ ap (λ z. net.step z v) start ∙ g'.2.3)).0 in
    let class : g.2.2 ≡ g'.2.2 = same_Some _ _ (sym g.2.4 ∙ ap (λ z. allowed z g.2.0) i ∙ ap (allowed e') relation ∙ g'.2.4) in
    let rest : y ∷ r ≡ v ∷ s = one_walk net t d g.2.2 g'.2.2 v (y ∷ r) (v ∷ s) class next refl g.2.5 g'.2.5 in
    ap (λ z. z ∷ (y ∷ r)) start ∙ ap (λ z. u ∷ z) rest

module _ {C : Type 0} {m : Measure C} {net : Network} (laws : Laws m) (sound : Sound net) (t : Table C) (d : ℕ) (right : Local m net t d) where
  pub walk : (a : ℕ) (e : Class) (b : ℕ) (c : C) → Among a net.roster → t a e ≡ Some (b, c) → Walk m net t d a e c
  walk a e b c near p =
      let w = trip laws sound t d right a e b c near p in
      record {
        ases = w.path;
        follows = w.follows;
        route = w.route;
        costs = w.costs;
        short = path_length net w.path w.route.legal.path;
        only = λ q f g. one_walk net t d e e a q w.path refl f w.route.first g w.follows;
      }
