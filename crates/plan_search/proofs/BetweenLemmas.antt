-- Dependences that lie between statements of a model are such as a search asks for, and of the sizes of its loops.
use Rattle.scop_syntax.proofs.Common.{◌∙◌, sym, List, In}
use Rattle.iteration_domains.specs.Dependence.{Dependence}
use Rattle.iteration_domains.specs.Model.{KernelModel}
use Rattle.pluto_search.specs.Next.{IsSizedDep}
use Rattle.pluto_search.specs.Schedule.{loops_in}
use Rattle.pluto_search.specs.Searching.{AreBetween}
use Rattle.pluto_search.proofs.ModelLoops.{loops_at}
use Rattle.plan_search.specs.Found.{LieBetween}

pub are_between : (model : KernelModel) (deps : List Dependence) → LieBetween model deps
    → AreBetween model.parameters (loops_in model) deps
are_between model deps lie d i =
    let l = lie d i in
    let from = loops_at model.statements d.source.statement l.from l.source in
    let to = loops_at model.statements d.target.statement l.to l.target in (
      record {
        source = from.0;
        target = to.0;
        source_loops = l.source_loops ∙ sym from.1;
        target_loops = l.target_loops ∙ sym to.1;
        parameters = l.parameters;
      },
      l.dependence,
    )

pub are_sized : (model : KernelModel) (deps : List Dependence) → LieBetween model deps → (d : Dependence) → In d deps
    → IsSizedDep (loops_in model) d
are_sized model deps lie d i =
    let b = (are_between model deps lie d i).0 in
    record { source = b.source; target = b.target; source_turns = b.source_loops; target_turns = b.target_loops }
