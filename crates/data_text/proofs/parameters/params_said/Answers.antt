-- One value more, and at the end all of them.
use Rattle.scop_syntax.proofs.Common.{◌∙◌, sym, ap, drop_of_length-le, take_all}
use Rattle.data_text.specs.Cases.{missing, params_of}
use Rattle.data_text.proofs.parameters.params_said.Goals as goal

pub returns : goal.returns
returns c =
    let values = c.args.values.now in
    let i = c.loop-i.i in
    record {
      params = c.loop-i.invariant.params ∙ ap params_of (take_all i values c.loop-i-test.false);
      none = sym c.loop-i.invariant.none ∙ ap (missing i) (drop_of_length-le values c.loop-i-test.false);
      refused = tt;
    }
