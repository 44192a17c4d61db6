use Rattle.tree_simplification.proofs.Common.{IfOk-weaker, context_of}
use Rattle.tree_simplification.proofs.Contexts.{natural_asked, natural_value}
use Rattle.tree_simplification.proofs.asking.never_falls.Goals as goal

pub returns-then-asks : goal.returns-then-asks
returns-then-asks c =
    let context = context_of c.args.context.now in
    IfOk-weaker c.never_holds_under.result _ _
    (λ b never answer. natural_asked context c.args.form.now (never answer)) c.never_holds_under.ensures

pub returns-else-asks : goal.returns-else-asks
returns-else-asks c answer =
    let context = context_of c.args.context.now in
    let n = c.is_natural.ensures answer in
    λ params outer m. natural_value c.args.form.now context params outer c.requires.natural m n.0 n.1
