use Rattle.scop_syntax.proofs.Common.{◌≡◌, ◌∙◌, ◌+◌, ◌++◌, ℕ, ap, arith, suc, slice_get}
use Rattle.expansions.specs.steps.Marks.{firsts, mark_of, read_marks}
use Rattle.expansions.proofs.Firsts.{firsts_more}
use Rattle.expansions.proofs.marking.put_marks.Goals as goal

pub loop-read-preserved : goal.loop-read-preserved
loop-read-preserved c =
    let marks = c.args.marks.now in
    let row = c.args.row.now in
    let turns = c.args.turns.now in
    let next : c.loop-read.read + 1 ≡ suc c.loop-read.read = omega arith in
    firsts_more (read_marks marks row turns) c.loop-read.read c.args.numbers.now.items c.loop-read.numbers.items
    c.push.new.self.items c.mark_at.result c.loop-read.invariant
    (c.mark_at.ensures ∙ ap (λ (k : ℕ). mark_of marks turns (slice_get row.cells.items k)) next)
    c.in_ok-push.ensures.items

pub returns : goal.returns
returns c =
    let end : c.loop-read.read ≡ c.args.most = omega arith in
    c.loop-read.invariant
    ∙ ap (λ (n : ℕ). c.args.numbers.now.items ++ firsts (read_marks c.args.marks.now c.args.row.now c.args.turns.now) n)
    end
