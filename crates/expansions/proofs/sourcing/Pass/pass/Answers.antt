use Rattle.scop_syntax.proofs.Common.{◌≡◌, ◌++◌, ℕ, List, arith, rules, subst}
use Rattle.expansions.specs.steps.Marks.{IsMarked, firsts, read_marks}
use Rattle.expansions.proofs.sourcing.Pass.pass.Goals as goal

pub returns : goal.returns
returns c =
    let pass = c.args.self.now in
    let lent : c.as_slice.result.now ≡ pass.marks.items = search rules in
    record {
      place = omega arith;
      numbers = subst (λ (ms : List ℕ). c.put_marks.new.numbers.items
          ≡ pass.numbers.items ++ firsts (read_marks ms c.args.row.now c.args.turns.now) c.args.most) lent
          c.in_ok-put_marks.ensures;
      marks = λ form at. subst (λ (k : ℕ). IsMarked k pass.place pass.marks.items c.mark.new.marks.items)
          (c.cell_at.ensures form at) c.in_ok-mark.ensures;
    }
