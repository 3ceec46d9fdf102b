use Rattle.std.specs.List.{IsAllAdjacentAnswer}
use Rattle.std.proofs.Common.{rules, ◌≡◌, false, cond, ltb, Ok, Err, sym, ap, ◌∙◌}
use Rattle.std.proofs.lemmas.Fn.{always_returns_same}
use Rattle.network.specs.declared.types.RosterRefusal.TheVariants.{NotARoster}
use Rattle.network.specs.Rosters.{is_roster}
use Rattle.network.proofs.Climbs.{rostered, unrostered, overlong}
use Rattle.network.proofs.roster.check_roster.Goals as goal
use Rattle.network.proofs.roster.check_roster.Goals.{else-positive-via-then-positive+then-numbers-most+else-is_sorted_by, else-positive-via-then-positive+else-numbers-most, else-positive-via-else-positive}

pub returns-then-is_sorted_by : goal.returns-then-is_sorted_by
returns-then-is_sorted_by c =
    let xs = c.args.numbers.now in
    let tested : IsAllAdjacentAnswer (λ a b t. t ≡ ltb a b) xs c.is_sorted_by.result = c.is_sorted_by.ensures.cases ltb (always_returns_same _ _ _ (λ a r f' k. search rules)) in
    sym (ap (λ b. cond b (Ok tt) (Err NotARoster)) (rostered c.args.most xs (search rules) c.if-numbers-most.true tested ∙ c.if-is_sorted_by.true))

pub returns-else-positive : goal.returns-else-positive
returns-else-positive c =
    let xs = c.args.numbers.now in
    let refused : is_roster c.args.most xs ≡ false =
    elim c.else-positive.branch [
      | else-positive-via-then-positive+then-numbers-most+else-is_sorted_by w ↦
          let tested : IsAllAdjacentAnswer (λ a b t. t ≡ ltb a b) xs w.is_sorted_by.result = w.is_sorted_by.ensures.cases ltb (always_returns_same _ _ _ (λ a r f' k. search rules)) in
          rostered c.args.most xs (search rules) w.if-numbers-most.true tested ∙ w.if-is_sorted_by.false
      | else-positive-via-then-positive+else-numbers-most w ↦ overlong c.args.most xs w.if-numbers-most.false
      | else-positive-via-else-positive w ↦ unrostered c.args.most xs (search rules)
    ]
    in
    sym (ap (λ b. cond b (Ok tt) (Err NotARoster)) refused)
