use Rattle.scop_syntax.proofs.Common.{◌∙◌, List, ap, sym, subst}
use Rattle.scop_pass.specs.Machine.{State, Frame, closed, complete}
use Rattle.scop_pass.specs.Passing.{Comes, state_of}
use Rattle.scop_pass.proofs.pass.Pass.end.Goals as goal

pub returns-in_ok-end_block-in-Some-Blocks : goal.returns-in_ok-end_block-in-Some-Blocks
returns-in_ok-end_block-in-Some-Blocks c =
    let old = state_of c.args.self.now in
    let is = rw c.in-Some-Blocks.field-0-is at c.in-Some-Blocks.ensures.frames in
    subst (λ (t : State). Comes c.complete.result (state_of c.complete.new.self) t)
    (ap complete c.in_ok-end_block-in-Some-Blocks.ensures ∙ sym (ap (λ (gs : List Frame). closed gs old) is))
    c.complete.ensures
