use Rattle.whole_numbers.proofs.Common.{rules, ◌≡◌, refl, map}
use Rattle.whole_numbers.specs.Content.{lowest_of_form}
use Rattle.fm_projection.specs.Runs.{eliminated_run}
use Rattle.fm_projection.proofs.JoinedLists.{chain-stop, first_with_none}
use Rattle.fm_projection.proofs.elimination.by_pairs.Goals as goal

pub returns-in-Err-project_all : goal.returns-in-Err-project_all
unfolding eliminated_run
returns-in-Err-project_all c =
    let none = first_with_none c.args.variable c.args.system.now.equalities c.requires.place in
    let run = rw c.rows.ensures.forms at c.in-Err-project_all.ensures in
    rw none (chain-stop c.in-Err-project_all.stop _ _ run)

pub returns-in-Ok-project_all : goal.returns-in-Ok-project_all
unfolding eliminated_run
returns-in-Ok-project_all c =
    let none = first_with_none c.args.variable c.args.system.now.equalities c.requires.place in
    let kept : c.append_lowest.new.out.items ≡ map lowest_of_form c.args.system.now.equalities = search rules in
    let run = rw c.rows.ensures.forms at c.in-Ok-project_all.ensures in
    rw (none, run, kept) refl
