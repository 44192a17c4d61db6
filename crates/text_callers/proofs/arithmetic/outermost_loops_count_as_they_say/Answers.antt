use Rattle.scop_syntax.proofs.Common.{◌≡◌, refl, sym, ap, subst, []}
use Rattle.scop_roles.specs.declared.formula.Meaning.TheVariants as meaning
use Rattle.scop_units.specs.Scopes.{with_loop}
use Rattle.scop_arithmetic.specs.Arithmetic.{IsNameOf}
use Rattle.text_callers.proofs.arithmetic.outermost_loops_count_as_they_say.Goals as goal

pub returns-clause-name : goal.returns-clause-name
returns-clause-name c = λ s h. ap (with_loop s) (c.loops_count_as_they_say.ensures.name s h)

pub returns-clause-iterator : goal.returns-clause-iterator
returns-clause-iterator c = λ s h none. (c.loops_count_as_they_say.ensures.iterator s h h.iterator none).1 refl

pub returns-clause-others : goal.returns-clause-others
returns-clause-others c = λ s h w other unknown.
    subst (λ m. m ≡ meaning.Unknown) (sym (c.loops_count_as_they_say.ensures.others s h w other)) unknown

pub returns-clause-changed : goal.returns-clause-changed
returns-clause-changed c = λ s h flat none.
    subst (λ n. IsNameOf n h.changed) flat (c.loops_count_as_they_say.ensures.changed s h none)

pub returns-clause-first : goal.returns-clause-first
returns-clause-first c = λ s h flat. c.loops_count_as_they_say.ensures.first s h [] (sym flat)

pub returns-clause-next : goal.returns-clause-next
returns-clause-next c = λ s h x flat. c.loops_count_as_they_say.ensures.next s h [] x (sym flat)

pub returns-clause-condition : goal.returns-clause-condition
returns-clause-condition c = λ s h x flat none holds.
    (c.loops_count_as_they_say.ensures.condition s h [] x (sym flat) none).1 holds
