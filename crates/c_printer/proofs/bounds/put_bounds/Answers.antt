use Rattle.scop_syntax.proofs.Common.{rules, ◌≡◌, ◌<◌, ◌≤◌, ℕ, List, OnOk, length, subst}
use Rattle.c_printer.proofs.PutTexts.{choice_put, choices_end}
use Rattle.c_printer.proofs.bounds.put_bounds.Goals as goal

pub loop-at-preserved : goal.loop-at-preserved
loop-at-preserved c =
    let l = c.loop-at in
    let others = c.args.bounds.now.others.items in
    let within : l.at < length others = search rules in
    choice_put _ _ _ _ l.at _ c.index-bound.result.now others l.out.items c.put_choice.new.out.items _ c.index-bound.ensures
    within c.in-Ok.ensures l.invariant

pub returns : goal.returns
returns c =
    let l = c.loop-at in
    let others = c.args.bounds.now.others.items in
    let past : length others ≤ l.at = search rules in
    let count : c.len.result ≡ l.at = search rules in
    subst (λ (t : List ℕ). OnOk c.put_repeated.result (c.put_repeated.new.out.items ≡ t))
    (choices_end _ _ _ _ l.at c.len.result _ others l.out.items c.put_bound.new.out.items _ past count
    c.in_ok-put_bound.ensures l.invariant) c.put_repeated.ensures
