-- When a call takes the next goal of a plan.
use Rattle.std.specs.Prelude.{◌≡◌, ◌∷◌, [], Option, Some, None}
use Rattle.plan_check.specs.GoalList.{Listed}
use Rattle.plan_check.specs.declared.next.Next.{Next}

-- the next goal is taken, if one is left
abbrev pub Takes : Listed → Option Next → Type 0
Takes old None = old.left ≡ []
Takes old (Some n) = (old.left ≡ n.goal ∷ n.goals.left) × (n.goals.all ≡ old.all)
