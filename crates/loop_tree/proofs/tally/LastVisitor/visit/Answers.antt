use Rattle.scop_syntax.proofs.Common.{◌∷◌, [], inl, refl, instance_of, in_back}
use Rattle.loop_tree.proofs.tally.LastVisitor.visit.Goals as goal

pub returns : goal.returns
returns c = λ l held. in_back (instance_of c.args.instance) l (instance_of c.args.instance ∷ []) (inl refl)
