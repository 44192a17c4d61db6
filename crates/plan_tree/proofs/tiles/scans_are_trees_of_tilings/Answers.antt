use Rattle.scop_syntax.proofs.Common.{◌≡◌, ℕ, ◌^◌, List, [], arith, false, length, refl, subst, sym, conflict_cell}
use Rattle.scop_syntax.proofs.Common.{is_marked}
use Rattle.loop_tree.specs.Walk.{walk_all}
use Rattle.loop_tree.proofs.LargerBounds.{trees_more}
use Rattle.plan_tree.specs.steps.Scanning.{sets_of}
use Rattle.iteration_domains.specs.Model.{model_of}
use Rattle.tile_skew.specs.ScanSets.{most_iterators}
use Rattle.plan_tree.proofs.Schedules.{tilings_are_even}
use Rattle.plan_tree.proofs.Parallel.{StandAt, tiles_are_free, tiles_are_marked}
use Rattle.plan_tree.proofs.Scans.{own_fits, own_over}
use Rattle.plan_tree.proofs.Shapes.{all_of_program}
use Rattle.plain_scan.specs.Scanning.{dimensions_of}
use Rattle.plan_tree.proofs.tiles.scans_are_trees_of_tilings.Goals as goal

pub returns : goal.returns
returns c program marked size blocks ts is scan =
    let sets = sets_of program size blocks in
    let n = most_iterators (model_of program).statements in
    let p = length program.parameters in
    let count = c.sets_can_be_scanned.ensures.parameters program marked size blocks is in
    record {
      flat = scan.flat;
      statements = all_of_program program sets
          (λ s i. c.scan_sets_can_be_scanned.ensures.statements program blocks size s i) ts scan.instances;
      over = own_over p sets ts count scan;
      small = trees_more (2 ^ 40) (2 ^ 45) ts (omega arith) scan.small;
      nested = (dimensions_of sets, c.sets_can_be_scanned.ensures.few program marked size blocks is, scan.nested);
      even = tilings_are_even program size blocks;
      fits = λ params has. own_fits p sets ts count scan params has.parameters has.count;
      carry_out = λ params has.
          let good = c.tiled_schedules_are_good_plans.ensures program marked is.deps blocks params size has.count
          is.some is.sized (is.covers params has) is.schedule in
          let visits = c.visits_are_in_order.ensures program params marked size blocks (walk_all ts params []) is
          has.count (scan.exact params has.parameters) (scan.iterators params has.parameters) in
          let gives = scan.iterators params has.parameters in
          let stands : StandAt size n blocks (walk_all ts params []) = λ v i. (visits.placed v i).values in
          record {
            good = good;
            exact = visits.order;
            free = λ none. tiles_are_free program params size n blocks ts
                (λ i j c. good i j c (subst (λ (ms : List ℕ). is_marked ms (conflict_cell c).array ≡ false) (sym none)
                refl)) scan.marks gives stands;
            marked = tiles_are_marked program params size n blocks ts scan.marks gives stands;
          };
    }
