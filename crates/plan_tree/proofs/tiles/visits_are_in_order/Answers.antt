use Rattle.scop_syntax.proofs.Common.{length}
use Rattle.iteration_domains.specs.Model.{model_of}
use Rattle.tile_skew.specs.Schedule.{loops_in}
use Rattle.tile_skew.specs.ScanSets.{most_iterators}
use Rattle.tile_skew.proofs.AlikeSets.{within_most}
use Rattle.tile_skew.proofs.Counts.{most_few}
use Rattle.plan_tree.proofs.ModelStatements.{StatementFacts, few_loops, number_inside, one_statement}
use Rattle.plan_tree.proofs.ExactVisits.{PlaceFacts, in_order, placed_there}
use Rattle.plan_tree.proofs.tiles.visits_are_in_order.Goals as goal

pub returns : goal.returns
returns c program params marked size blocks vs is count exact gives =
    let model = model_of program in
    let ss = model.statements in
    let n = most_iterators ss in
    let sized = c.schedules_have_small_items.ensures model.parameters (loops_in model) is.deps blocks is.schedule in
    let statements : StatementFacts program = record {
      same = c.statements_are_numbered.ensures.same program;
      few = λ p i. (c.statements_are_numbered.ensures.placed program p is.kernel i).few_loops;
    } in
    let most = most_few ss 5 (few_loops program statements) in
    let facts : PlaceFacts program params size blocks = record {
      found = c.domains_hold_the_instances.ensures.statement program params;
      turns = λ s v i. (c.domains_hold_the_instances.ensures.instances program params s v count i).0;
      one = one_statement program statements;
      inside = number_inside program;
      within = within_most ss;
      few = most;
      points = λ s xs i many inside.
          c.scan_sets_hold_the_instances.ensures.points program blocks params size n s xs is.kernel count is.some sized
          i many inside;
      instances = λ s v i.
          c.scan_sets_hold_the_instances.ensures.instances program blocks params size n s v is.kernel count is.some
          sized i;
      order = λ x y f g h k before.
          (c.places_are_in_order.ensures blocks size (length ss) n x y f g h k most).0 before;
    } in
    record {
      placed = placed_there program params size blocks vs facts exact gives;
      order = in_order program params size blocks vs facts exact gives;
    }
