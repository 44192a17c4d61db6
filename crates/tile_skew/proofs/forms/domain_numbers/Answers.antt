use Rattle.tile_skew.proofs.ItemSteps.{domain_put}
use Rattle.tile_skew.proofs.forms.domain_numbers.Goals as goal

pub returns : goal.returns
returns c =
    domain_put c.args.layout.front c.args.layout.turns c.args.layout.missing c.args.coefficients.now
    c.new-numbers.result.items c.push_zeros.new.numbers.items c.extend_from_slice.new.self.items
    c.push_zeros-2.new.numbers.items c.extend_from_slice-2.new.self.items c.requires c.new-numbers.ensures.items
    c.in_ok-push_zeros.ensures c.in_ok-extend_from_slice.ensures.ok c.in_ok-push_zeros-2.ensures
    c.in_ok-extend_from_slice-2.ensures.ok
