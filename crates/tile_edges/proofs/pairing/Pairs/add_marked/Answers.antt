use Rattle.scop_syntax.proofs.Common.{◌-◌, inl, refl, subst, In}
use Rattle.tile_edges.specs.steps.Gains.{Gains}
use Rattle.tile_edges.specs.steps.Rows.{rows_in}
use Rattle.tile_edges.proofs.PutPairs.{marked_is}
use Rattle.tile_edges.proofs.pairing.Pairs.add_marked.Goals as goal

pub add-requires-clause-first : goal.add-requires-clause-first
add-requires-clause-first c =
    c.requires.first (c.args.mark - 1) (subst (λ ts. In (c.args.mark - 1) ts) (marked_is c.args.mark c.if-mark-eq0.false)
    (inl refl))

pub returns-clause-gains : goal.returns-clause-gains
returns-clause-gains c =
    subst (λ ts. Gains ts c.args.second (rows_in c.args.self.now) (rows_in c.add.new.self))
    (marked_is c.args.mark c.if-mark-eq0.false) c.in_ok-add.ensures.gains
