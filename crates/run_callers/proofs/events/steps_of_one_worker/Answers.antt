use Rattle.scop_syntax.proofs.Common.{[], ◌∷◌, arith, refl, subst, sym}
use mathlib.Core.Option.{none}
use Rattle.atomic_table.specs.Table.{step}
use Rattle.tile_events.specs.Example.{counted, two}
use Rattle.run_callers.proofs.events.steps_of_one_worker.Goals as goal

pub returns-clause-claim : goal.returns-clause-claim
returns-clause-claim g c = λ worker clock me won lost free holds over tells.
    c.events_are_allowed.ensures.claim two 2 worker (λ v. 1) clock 0 0 me won lost free (omega arith) holds over
    (λ stamp t less. tells t (won stamp t)) (λ stamp t none_left. tells t (lost stamp t))

pub returns-clause-open : goal.returns-clause-open
returns-clause-open g c = λ worker clock me opened waits holds works stays tells.
    c.events_are_allowed.ensures.open two 2 worker (λ v. 1) clock 0 0 1 me opened waits holds works stays
    (λ stamp n done. tells n (opened stamp n)) (λ stamp n less. tells n (waits stamp n))

pub returns-clause-open_by_counter : goal.returns-clause-open_by_counter
returns-clause-open_by_counter g c = λ worker clock me opened waits holds works stays tells.
    c.events_are_allowed.ensures.open counted 2 worker (λ v. 1) clock 0 0 2 me opened waits holds works stays
    (λ stamp n enough. tells n (opened stamp n)) (λ stamp n less. tells n (waits stamp n))

pub returns-clause-load : goal.returns-clause-load
returns-clause-load g c = λ worker clock me next works reads tells.
    c.events_are_allowed.ensures.load two 2 worker (λ v. 1) clock 0 0 1 0 [] me next works reads (omega arith)
    (omega arith)
    (λ stamp x is. subst (λ x. g.M.Play.then (step 0 2 0 0 none) me x (next stamp x, me.1)) (sym is) (tells stamp))

pub returns-clause-store : goal.returns-clause-store
returns-clause-store g c = λ worker clock me next works stored tells.
    c.events_are_allowed.ensures.store two 2 worker (λ v. 1) clock 0 0 1 0 6 (5 ∷ []) me next works stored (omega arith)
    refl refl refl tells

pub returns-clause-add : goal.returns-clause-add
returns-clause-add g c = λ worker clock me next works added tells.
    c.events_are_allowed.ensures.add counted 2 worker (λ v. 1) clock 0 0 0 1 1 [] me next works added (omega arith) refl
    refl refl tells

pub returns-clause-finish : goal.returns-clause-finish
returns-clause-finish g c = λ worker clock me next works free tells.
    c.events_are_allowed.ensures.finish two 2 worker (λ v. 1) clock 0 0 1 1 [] me next works free refl tells
