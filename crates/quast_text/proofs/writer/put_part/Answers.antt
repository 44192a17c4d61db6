use Rattle.whole_numbers.proofs.Common.{on_ok_weaker}
use Rattle.quast_text.proofs.PendingParts.{second_less}
use Rattle.quast_text.proofs.writer.put_part.Goals as goal

pub returns-in-Second-clause-less : goal.returns-in-Second-clause-less
returns-in-Second-clause-less c =
    let x = c.in-Second in
    on_ok_weaker c.put_second.result (λ laid. second_less x.place c.args.stack.now.items c.put_second.new.stack.items
    c.args.part x.is laid) c.put_second.ensures.stack
