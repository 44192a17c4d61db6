-- What `check` tells of the certificate behind a kernel.
use Rattle.std.specs.Prelude.{◌≡◌, ◌<◌, ℕ, ℤ, true, List, length, codes, Ok}
use Rattle.scop_syntax.specs.Tree.{Program}
use Rattle.iteration_domains.specs.Model.{model_of}
use Rattle.loop_tree.specs.Tiling.{IsGoodPlan}
use Rattle.scop_syntax.specs.Limits.{AreInRange}
use Rattle.plan_check.specs.Judged.{SaysPlan, judged}
use Rattle.plan_check.specs.Plans.{Plan, tiling_of}
use Rattle.polypar.specs.Told.{Told, text_alone}

-- the plan's tiles of every size are good for all parameters in 0..=65536
abbrev pub IsGoodAlways : Program → Plan → Type 0
IsGoodAlways program plan =
    (params : List ℤ) (size : ℕ) → length params ≡ length program.parameters → AreInRange params → 0 < size
    → IsGoodPlan program params (tiling_of size (length (model_of program).statements) plan)

-- what is told of an accepted certificate
abbrev pub yes_text : List ℕ
yes_text = codes "yes\n"

-- the text is accepted as a certificate of the program, the plan that it says is good, and `yes` is told
pub record IsAccepted (program : Program) (text : List ℕ) (told : Told) : Type 0 where
  pub accepted : judged program text ≡ Ok true
  pub plan : Plan
  pub said : SaysPlan program text plan
  pub good : IsGoodAlways program plan
  pub yes : told ≡ text_alone yes_text
