use Rattle.scop_syntax.proofs.Common.{◌≡◌, ◌+◌, [], List, All, length}
use Rattle.affine_forms.specs.Parts.{variables_of}
use Rattle.integer_sets.specs.Scanned.{Scanned}
use Rattle.split_scan.specs.steps.Ordering.{Rise}
use Rattle.split_scan.specs.steps.Picking.{IsPicking}
use Rattle.split_scan.proofs.ordering.ordered.Given as goal

abbrev pub invariant-loop-part : goal.invariant-loop-part
invariant-loop-part l =
    let m = l.level.place in
    let n = l.level.place + 1 + l.level.parameters in
    let inside = l.level.inside.items in
    record {
      rest : All (λ p. All (λ f. variables_of f ≡ n) p.cuts.items) l.rest.items;
      out : All (λ p. All (λ f. variables_of f ≡ n) p.cuts.items) l.out.items;
      rise : Rise m inside l.out.items;
      picked : (all : List Scanned) → IsPicking m n inside all l.fn.parts.items []
          → IsPicking m n inside all l.rest.items l.out.items;
    }

abbrev pub decreases-loop-part : goal.decreases-loop-part
decreases-loop-part l = length l.rest.items
