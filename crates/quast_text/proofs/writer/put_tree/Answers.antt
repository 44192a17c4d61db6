use Rattle.whole_numbers.proofs.Common.{rules, FitsSigned, w128, to_z-of_z, on_ok_weaker}
use Rattle.quast_text.proofs.PendingParts.{branch_less, bind_less, let_goes_on, on_three}
use Rattle.quast_text.proofs.writer.put_tree.Goals as goal

pub returns-in-Branch-clause-less : goal.returns-in-Branch-clause-less
returns-in-Branch-clause-less c =
    let x = c.in-Branch in
    on_ok_weaker c.put_branch.result (λ laid. branch_less c.args.place x.first x.second c.args.stack.now.items
    c.put_branch.new.stack.items x.test.now x.ensures laid) c.put_branch.ensures.stack

pub returns-in-Bind-clause-text : goal.returns-in-Bind-clause-text
returns-in-Bind-clause-text c =
    let x = c.in-Bind in
    let fits : FitsSigned w128 x.divisor = search rules in
    let made = simp to_z-of_z at c.put_bind.ensures.text in
    on_three c.put_bind.result (λ text names laid. let_goes_on c.args.outer c.args.place x.body c.args.stack.now.items
    c.put_bind.new.stack.items c.args.names.now.items c.put_bind.new.names.items c.args.out.now.items
    c.put_bind.new.out.items x.form.now x.divisor x.ensures text names laid) made c.put_bind.ensures.names
    c.put_bind.ensures.stack

pub returns-in-Bind-clause-less : goal.returns-in-Bind-clause-less
returns-in-Bind-clause-less c =
    let x = c.in-Bind in
    on_ok_weaker c.put_bind.result (λ laid. bind_less c.args.place x.body c.args.stack.now.items
    c.put_bind.new.stack.items x.form.now x.divisor x.ensures laid) c.put_bind.ensures.stack
