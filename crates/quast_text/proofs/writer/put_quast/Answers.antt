use Rattle.whole_numbers.proofs.Common.{rules, ◌≡◌, ◌++◌, [], ◌∷◌}
use Rattle.quast_text.proofs.PendingParts.{weights_fall}
use Rattle.quast_text.proofs.writer.put_quast.Goals as goal

pub loop-stack-smaller : goal.loop-stack-smaller
loop-stack-smaller c =
    let popped : c.loop-stack.stack.items ≡ c.pop.new.self.items ++ c.in-Some.part ∷ [] = search rules in
    weights_fall c.loop-stack.stack.items c.pop.new.self.items c.put_part.new.stack.items c.in-Some.part popped
    c.in_ok-put_part-in-Some.ensures.less
