-- The forms so far and those to come are all forms.
use Rattle.scop_syntax.proofs.Common.{◌≡◌, ◌++◌, drop, map, form_of}
use Rattle.kernel_gen.proofs.parts.forms.Given as goal

abbrev pub invariant-loop-at : goal.invariant-loop-at
invariant-loop-at l =
    l.forms.items ++ map (λ f. form_of f.0.now f.1) (drop l.at l.plain) ≡ map (λ f. form_of f.0.now f.1) l.plain
