use Rattle.iteration_domains.proofs.FixedForms.{domain_sized}
use Rattle.iteration_domains.proofs.outside.fixed_domain.Goals as goal

pub from_parts-requires : goal.from_parts-requires
from_parts-requires c = record {
  sized = domain_sized c.dimensions-turns.result c.args.domain.now.dimensions c.args.forms.now _ _ _ _
      c.dimensions-turns.ensures c.requires.forms c.in_ok-equalities.ensures c.in_ok-rows.ensures;
}
