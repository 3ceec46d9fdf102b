-- The plain board wants one answer to a call. Assumes nothing.
use Rattle.std.proofs.Common.{◌≡◌, ℕ, ◌+◌, ◌≤◌, List, [], ◌∷◌, ◌++◌, length, drop, replicate, Some, None, Ok, Err, Option, Result, sym, refl, ap, ◌∙◌, subst, arith}
use Rattle.network.specs.declared.types.Link.{Link}
use Rattle.network.specs.Causes.{first_cause}
use Rattle.std.proofs.lemmas.Option.{same_Some}
use Rattle.network.proofs.Somes.{same_pair}
use Rattle.measure.specs.Measures.{Measure, Laws, AtMost}
use Rattle.legality.specs.declared.types.Class.{Class}
use Rattle.legality.specs.Classes.{allowed}
use Rattle.legality.specs.Networks.{Network, net_of}
use Rattle.legality.specs.Paths.{First, cost}
use Rattle.legality.specs.Tables.{Shortest}
use Rattle.legality.proofs.Lists.{pigeonhole}
use Rattle.table.specs.declared.types.RouteRefusal.{RouteRefusal}
use Rattle.routes.specs.Routes.{Walks, Hops, Sends}
use Rattle.runs.specs.declared.types.Call.{Call}
use Rattle.runs.specs.declared.types.Reply.{Reply}
use Rattle.runs.specs.declared.types.Reply.TheVariants.{Edited, Settled, Hopped}
use Rattle.runs.specs.Plain.{Plain}
use Rattle.runs.specs.Runs.{settle_causes, Reaches, SettlesSo, Judged}
use Rattle.runs.specs.Theorems.{Alike}

reaches_one : (net : Network) (d k k' : ℕ) → Reaches net d k → Reaches net d k' → k ≡ k'
reaches_one net d k k' r r' =
    let there : length r.pairs ≤ length r'.pairs = pigeonhole r.pairs r'.pairs r.once (λ x h. let q = r.routed x.0 x.1 h in r'.all x.0 x.1 q.0 q.1) in
    let back : length r'.pairs ≤ length r.pairs = pigeonhole r'.pairs r.pairs r'.once (λ x h. let q = r'.routed x.0 x.1 h in r.all x.0 x.1 q.0 q.1) in
    omega (arith, there, back, r.counted, r'.counted)

settles_one : (net : Network) (d : ℕ) (o : Option RouteRefusal) (r r' : Result ℕ RouteRefusal) → SettlesSo net d o r → SettlesSo net d o r' → r ≡ r'
settles_one net d (Some x) r r' h h' = h ∙ sym h'
settles_one net d None r r' h h' = h.1 ∙ ap Ok (reaches_one net d h.0 h'.0 h.2 h'.2) ∙ sym h'.1

module _ {C : Type 0} (m : Measure C) (laws : Laws m) (net : Network) (d : ℕ) where
  shortest_one : (a : ℕ) (e : Class) (b b' : ℕ) (c c' : C) → Shortest m net d a e b c → Shortest m net d a e b' c' → b ≡ b'
  shortest_one a e b b' c c' s s' =
      let there : AtMost m c c' = subst (AtMost m c) s'.costs (s.least s'.path s'.route) in
      let back : AtMost m c' c = subst (AtMost m c') s.costs (s'.least s.path s.route) in
      let same : c ≡ c' = laws.antisymmetric c c' there back in
      let le : b ≤ b' = s.smallest s'.path s'.route (s'.costs ∙ sym same) b' s'.second in
      let ge : b' ≤ b = s'.smallest s.path s.route (s.costs ∙ same) b s.second in
      omega arith

  walks_one : (p q : List ℕ) (e : Class) (a : ℕ) → First a p → First a q → Walks m net d e p → Walks m net d e q → p ≡ q
  walks_one [] q e a f f' w w' = absurd f
  walks_one (x ∷ []) [] e a f f' w w' = absurd f'
  walks_one (x ∷ (b ∷ r)) [] e a f f' w w' = absurd f'
  walks_one (x ∷ []) (y ∷ []) e a f f' w w' = ap (λ z. z ∷ []) (f ∙ sym f')
  walks_one (x ∷ []) (y ∷ (b' ∷ r')) e a f f' w w' = absurd (w'.0 (f' ∙ sym f ∙ w))
  walks_one (x ∷ (b ∷ r)) (y ∷ []) e a f f' w w' = absurd (w.0 (f ∙ sym f' ∙ w'))
  walks_one (x ∷ (b ∷ r)) (y ∷ (b' ∷ r')) e a f f' w w' =
      let from : y ≡ x = f' ∙ sym f in
      let next : b ≡ b' = shortest_one x e b b' w.1.0 w'.1.0 w.1.1 (subst (λ z. Shortest m net d z e b' w'.1.0) from w'.1.1) in
      let t = w.2 in
      let t' = w'.2 in
      let step : net.step x b ≡ Some (t'.0, t'.1) = ap (λ z. net.step z b) (sym from) ∙ ap (net.step y) next ∙ t'.3 in
      let way : t.0 ≡ t'.0 = (same_pair t.3 step).0 in
      let class : t'.2 ≡ t.2 = same_Some _ _ (sym t'.4 ∙ ap (allowed e) (sym way) ∙ t.4) in
      let rest = walks_one (b ∷ r) (b' ∷ r') t.2 b refl (sym next) t.5 (subst (λ z. Walks m net d z (b' ∷ r')) class t'.5) in
      ap (λ z. z ∷ (b ∷ r)) (sym from) ∙ ap (λ z. y ∷ z) rest

module _ {C : Type 0} (m : Measure C) (laws : Laws m) (roster : List ℕ) (book : List Link) (settled : List ℕ) where
  abbrev net : Network
  net = net_of roster book

  hops_one : (s : ℕ) (e : Class) (d : ℕ) {r r' : Result (Option ℕ) RouteRefusal} → Hops m roster book settled s e d r → Hops m roster book settled s e d r' → r ≡ r'
  hops_one s e d (Hops.refused x h) (Hops.refused x' h') = ap Err (same_Some _ _ (sym h ∙ h'))
  hops_one s e d (Hops.refused x h) (Hops.there h' z) = cc
  hops_one s e d (Hops.refused x h) (Hops.shut h' n none) = cc
  hops_one s e d (Hops.refused x h) (Hops.next b c h' n k) = cc
  hops_one s e d (Hops.there h z) (Hops.refused x' h') = cc
  hops_one s e d (Hops.there h z) (Hops.there h' z') = refl
  hops_one s e d (Hops.there h z) (Hops.shut h' n none) = absurd (n z)
  hops_one s e d (Hops.there h z) (Hops.next b c h' n k) = absurd (n z)
  hops_one s e d (Hops.shut h n none) (Hops.refused x' h') = cc
  hops_one s e d (Hops.shut h n none) (Hops.there h' z') = absurd (n z')
  hops_one s e d (Hops.shut h n none) (Hops.shut h' n' none') = refl
  hops_one s e d (Hops.shut h n none) (Hops.next b c h' n' k) = absurd (none k.path k.route)
  hops_one s e d (Hops.next b c h n k) (Hops.refused x' h') = cc
  hops_one s e d (Hops.next b c h n k) (Hops.there h' z') = absurd (n z')
  hops_one s e d (Hops.next b c h n k) (Hops.shut h' n' none) = absurd (none k.path k.route)
  hops_one s e d (Hops.next b c h n k) (Hops.next b' c' h' n' k') = ap (λ z. Ok (Some z)) (shortest_one m laws net d s e b b' c c' k k')

  sent_alike : (ws q q' : List ℕ) (links links' : ℕ) → q ≡ q' → length q ≡ links + 1 → length q' ≡ links' + 1 →
      (◌≡◌ {A = Result (C × ℕ) RouteRefusal} (Ok (cost m net q, links)) (Ok (cost m net q', links'))) × (q ++ drop (length q) ws ≡ q' ++ drop (length q') ws)
  sent_alike ws q q' links links' same n n' =
      let count : links ≡ links' = omega (arith, n, n', ap length same) in
      (ap (λ z. Ok (cost m net z, links)) same ∙ ap (λ z. Ok (cost m net q', z)) count, ap (λ z. z ++ drop (length z) ws) same)

  sends_one : (s d : ℕ) (ws : List ℕ) {r r' : Result (C × ℕ) RouteRefusal} {l l' : List ℕ} → Sends m roster book settled s d ws r l → Sends m roster book settled s d ws r' l' → (r ≡ r') × (l ≡ l')
  sends_one s d ws (Sends.refused x h) (Sends.refused x' h') = (ap Err (same_Some _ _ (sym h ∙ h')), refl)
  sends_one s d ws (Sends.refused x h) (Sends.shut h' none) = cc
  sends_one s d ws (Sends.refused x h) (Sends.long q h' k w cut) = cc
  sends_one s d ws (Sends.refused x h) (Sends.sent q links h' k w least n fits) = cc
  sends_one s d ws (Sends.shut h none) (Sends.refused x' h') = cc
  sends_one s d ws (Sends.shut h none) (Sends.shut h' none') = (refl, refl)
  sends_one s d ws (Sends.shut h none) (Sends.long q h' k w cut) = absurd (none q k)
  sends_one s d ws (Sends.shut h none) (Sends.sent q links h' k w least n fits) = absurd (none q k)
  sends_one s d ws (Sends.long q h k w cut) (Sends.refused x' h') = cc
  sends_one s d ws (Sends.long q h k w cut) (Sends.shut h' none) = absurd (none q k)
  sends_one s d ws (Sends.long q h k w cut) (Sends.long q' h' k' w' cut') = (refl, refl)
  sends_one s d ws (Sends.long q h k w cut) (Sends.sent q' links h' k' w' least n fits) =
      let same = walks_one m laws net d q q' _ s k.first k'.first w w' in absurd (omega (arith, ap length same))
  sends_one s d ws (Sends.sent q links h k w least n fits) (Sends.refused x' h') = cc
  sends_one s d ws (Sends.sent q links h k w least n fits) (Sends.shut h' none) = absurd (none q k)
  sends_one s d ws (Sends.sent q links h k w least n fits) (Sends.long q' h' k' w' cut) =
      let same = walks_one m laws net d q q' _ s k.first k'.first w w' in absurd (omega (arith, ap length same))
  sends_one s d ws (Sends.sent q links h k w least n fits) (Sends.sent q' links' h' k' w' least' n' fits') =
      sent_alike ws q q' links links' (walks_one m laws net d q q' _ s k.first k'.first w w') n n'

module _ {C : Type 0} (m : Measure C) (laws : Laws m) (p : Plain) where
  judged_alike : {call call' : Call} {r r' : Reply C} → call ≡ call' → Judged m p call r → Judged m p call' r' → Alike r r'
  judged_alike eq (Judged.edit e limit r h is) (Judged.edit e' limit' r' h' is') =
      let edits : e ≡ e' = cc in
      let limits : limit ≡ limit' = cc in
      let same : r ≡ r' = cc in
      rw same (Alike.same (Edited r'))
  judged_alike eq (Judged.edit e limit r h is) (Judged.settle d' w' k' r' h') = cc
  judged_alike eq (Judged.edit e limit r h is) (Judged.hop s' e' d' r' h') = cc
  judged_alike eq (Judged.edit e limit r h is) (Judged.send s' d' room' r' list' h') = cc
  judged_alike eq (Judged.settle d w k r h) (Judged.edit e' limit' r' h' is') = cc
  judged_alike eq (Judged.settle d w k r h) (Judged.settle d' w' k' r' h') =
      let ds : d' ≡ d = cc in
      let ws : w' ≡ w = cc in
      let ks : k' ≡ k = cc in
      let moved = rw (ds, ws, ks) at h' in
      rw (settles_one (net_of p.roster p.book) d (first_cause (settle_causes p.roster d w k)) r r' h moved) (Alike.same (Settled r'))
  judged_alike eq (Judged.settle d w k r h) (Judged.hop s' e' d' r' h') = cc
  judged_alike eq (Judged.settle d w k r h) (Judged.send s' d' room' r' list' h') = cc
  judged_alike eq (Judged.hop s e d r h) (Judged.edit e' limit' r' h' is') = cc
  judged_alike eq (Judged.hop s e d r h) (Judged.settle d' w' k' r' h') = cc
  judged_alike eq (Judged.hop s e d r h) (Judged.hop s' e' d' r' h') =
      let ss : s' ≡ s = cc in
      let es : e' ≡ e = cc in
      let ds : d' ≡ d = cc in
      let moved = rw (ss, es, ds) at h' in
      rw (hops_one m laws p.roster p.book p.settled s e d h moved) (Alike.same (Hopped r'))
  judged_alike eq (Judged.hop s e d r h) (Judged.send s' d' room' r' list' h') = cc
  judged_alike eq (Judged.send s d room r list h) (Judged.edit e' limit' r' h' is') = cc
  judged_alike eq (Judged.send s d room r list h) (Judged.settle d' w' k' r' h') = cc
  judged_alike eq (Judged.send s d room r list h) (Judged.hop s' e' d' r' h') = cc
  judged_alike eq (Judged.send s d room r list h) (Judged.send s' d' room' r' list' h') =
      let ss : s' ≡ s = cc in
      let ds : d' ≡ d = cc in
      let rs : room' ≡ room = cc in
      let moved = rw (ss, ds, rs) at h' in
      let one = sends_one m laws p.roster p.book p.settled s d (replicate room 0) h moved in
      rw one.0 (Alike.lists r' list list' one.1)

  pub one_answer : (call : Call) (r r' : Reply C) → Judged m p call r → Judged m p call r' → Alike r r'
  one_answer call r r' h h' = judged_alike refl h h'
