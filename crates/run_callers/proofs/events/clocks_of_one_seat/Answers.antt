use Rattle.scop_syntax.proofs.Common.{◌≡◌, ◌∙◌, arith, ap, subst, sym, slice_index, slice_set, get_elem?}
use Rattle.tile_events.specs.Example.{two}
use Rattle.run_callers.proofs.events.clocks_of_one_seat.Goals as goal

pub returns-clause-steps : goal.returns-clause-steps
returns-clause-steps g c = λ worker clock s t v w before after one other ticks.
    let seen = c.clocks_tell.ensures.steps two 2 worker (λ v. 1) clock s t 0 v w before after
    (ap (λ vs. get_elem? vs 0) one) (other ∙ sym (ap (λ vs. slice_set vs 0 w) one)) (ap (λ k. k.steps) ticks) in
    subst (λ k. slice_index t.words k.word ≡ k.left) ticks seen

pub returns-clause-misses : goal.returns-clause-misses
returns-clause-misses g c = λ worker clock s t v w before after one other more all.
    let counted = c.clocks_tell.ensures.misses two 2 worker (λ v. 1) clock s t 0 v w before after
    (ap (λ vs. get_elem? vs 0) one) (other ∙ sym (ap (λ vs. slice_set vs 0 w) one)) more (omega (arith, all)) in
    omega (arith, counted, all)

pub returns-clause-opening : goal.returns-clause-opening
returns-clause-opening g c = λ worker clock s held still.
    (c.clocks_tell.ensures.opening two 2 worker (λ v. 1) clock s held (λ i v at some. still i v at)).cells 0
    (omega arith)
