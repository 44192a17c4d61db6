use Rattle.conflict_deps.proofs.Shapes.{spread_put}
use Rattle.conflict_deps.proofs.forms.spread_numbers.Goals as goal

pub returns : goal.returns
returns c =
    spread_put c.args.loops c.args.others c.args.numbers.now c.new-coefficients.result.items
    c.extend_from_slice.new.self.items c.push_zeros.new.numbers.items c.extend_from_slice-2.new.self.items c.requires
    c.new-coefficients.ensures.items c.in_ok-extend_from_slice.ensures.ok c.in_ok-push_zeros.ensures
    c.in_ok-extend_from_slice-2.ensures.ok
