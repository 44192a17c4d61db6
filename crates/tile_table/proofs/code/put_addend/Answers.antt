use Rattle.scop_syntax.proofs.Common.{ap, operator_of}
use Rattle.scop_syntax.specs.Reductions.{addend}
use Rattle.scop_syntax.specs.declared.tree.Operator.{Operator}
use Rattle.tile_table.specs.declared.code.Change.TheVariants.{Negated}
use Rattle.tile_table.proofs.Compiling.{change_made, zero_made}
use Rattle.tile_table.proofs.code.put_addend.Goals as goal

pub returns-in-Minus : goal.returns-in-Minus
returns-in-Minus c = λ loops meant before makes.
    change_made loops (λ turns values. addend (operator_of c.args.operator) (meant turns values)) meant Negated before
    c.args.code.now c.put.new.code c.args.slot c.put.result makes
    (λ turns values. ap (λ (o : Operator). addend (operator_of o) (meant turns values)) c.in-Minus.is) c.put.ensures

pub returns-in-Times : goal.returns-in-Times
returns-in-Times c = λ loops meant before makes.
    zero_made loops (λ turns values. addend (operator_of c.args.operator) (meant turns values)) before c.args.code.now
    c.put-in-Times.new.code c.put-in-Times.result makes.code
    (λ turns values. ap (λ (o : Operator). addend (operator_of o) (meant turns values)) c.in-Times.is) c.put-in-Times.ensures

pub returns-in-And : goal.returns-in-And
returns-in-And c = λ loops meant before makes.
    zero_made loops (λ turns values. addend (operator_of c.args.operator) (meant turns values)) before c.args.code.now
    c.put-in-And.new.code c.put-in-And.result makes.code
    (λ turns values. ap (λ (o : Operator). addend (operator_of o) (meant turns values)) c.in-And.is) c.put-in-And.ensures

pub returns-in-Or : goal.returns-in-Or
returns-in-Or c = λ loops meant before makes.
    zero_made loops (λ turns values. addend (operator_of c.args.operator) (meant turns values)) before c.args.code.now
    c.put-in-Or.new.code c.put-in-Or.result makes.code
    (λ turns values. ap (λ (o : Operator). addend (operator_of o) (meant turns values)) c.in-Or.is) c.put-in-Or.ensures

pub returns-in-Xor : goal.returns-in-Xor
returns-in-Xor c = λ loops meant before makes.
    zero_made loops (λ turns values. addend (operator_of c.args.operator) (meant turns values)) before c.args.code.now
    c.put-in-Xor.new.code c.put-in-Xor.result makes.code
    (λ turns values. ap (λ (o : Operator). addend (operator_of o) (meant turns values)) c.in-Xor.is) c.put-in-Xor.ensures
