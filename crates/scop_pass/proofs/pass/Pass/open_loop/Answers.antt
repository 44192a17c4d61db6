use Rattle.scop_syntax.proofs.Common.{refl}
use Rattle.scop_pass.proofs.pass.Pass.open_loop.Goals as goal

pub returns : goal.returns
returns c =
    simp (
      c.keep.ensures,
      c.requires.clean,
      c.in_ok-push_frame.ensures,
      c.in_ok-push_name.ensures,
      c.in_ok-looped.ensures,
      c.in_ok-name.ensures,
      c.replace-outer.ensures.value,
      c.replace-outer.ensures.after,
      c.new.ensures.items,
    ) refl
