use Rattle.data_text.proofs.ExtentLemmas.{value_fits}
use Rattle.data_text.proofs.extents.extent_at.Goals as goal

pub exact_at-requires : goal.exact_at-requires
exact_at-requires c = value_fits c.args.form.now c.args.params.now c.requires.form c.requires.params
