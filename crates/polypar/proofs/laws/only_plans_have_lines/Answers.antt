use Rattle.polypar.proofs.LineLemmas.{certify_quiet, check_quiet, deps_quiet, quiet_lines, schedule_quiet}
use Rattle.polypar.proofs.laws.only_plans_have_lines.Goals as goal

pub returns-clause-schedule : goal.returns-clause-schedule
returns-clause-schedule c = λ words budget left status out out_after lines has is.
    quiet_lines words left status out out_after lines has (schedule_quiet words budget is.1)

pub returns-clause-deps : goal.returns-clause-deps
returns-clause-deps c = λ words budget left status out out_after lines has is.
    quiet_lines words left status out out_after lines has (deps_quiet words budget is.1)

pub returns-clause-certify : goal.returns-clause-certify
returns-clause-certify c = λ words budget left status out out_after lines has is.
    quiet_lines words left status out out_after lines has (certify_quiet words budget is.1)

pub returns-clause-check : goal.returns-clause-check
returns-clause-check c = λ words left status out out_after lines has is.
    quiet_lines words left status out out_after lines has (check_quiet words is.1)
