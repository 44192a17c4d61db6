-- Worked dependences, of `for (i = 1; i < n; i++) A[i] += A[i - 1];` from each turn to the next, and from every other
-- one; and a kernel without items.
use Rattle.std.specs.Prelude.{ℕ, ℤ, pos, negsuc, [], ◌∷◌}
use Rattle.whole_numbers.specs.Affine.{form_of}
use Rattle.integer_sets.specs.Constraints.{Constraints, system_of}
use Rattle.scop_syntax.specs.Walk.{Instance}
use Rattle.iteration_domains.specs.declared.dep.DepEnd.{DepEnd}
use Rattle.iteration_domains.specs.Dependence.{Dependence, dependence}
use Rattle.scop_grammar.specs.Kernel.{Kernel, none, number}

-- an end at the place of a statement in one loop
abbrev pub end : ℕ → DepEnd
end statement = record { statement = statement; loops = 1; access = 0 }

-- i' = i + 1, over i, i' and n
abbrev pub next_turn : Constraints
next_turn = system_of 2 1 (form_of (pos 1 ∷ negsuc 0 ∷ pos 0 ∷ []) (pos 1) ∷ []) []

-- i = 2 q + 2 and i' = i + 1, over i, i' and the quotient q that is bound
abbrev pub every_other_turn : Dependence
every_other_turn =
    dependence (end 1) (end 1) 1
    (system_of 3 0 (form_of (pos 1 ∷ pos 0 ∷ negsuc 1 ∷ []) (negsuc 1)
    ∷ form_of (pos 1 ∷ negsuc 0 ∷ pos 0 ∷ []) (pos 1) ∷ []) [])

-- the statement's instance at a turn
abbrev pub turn : ℤ → Instance
turn x = record { number = 1; turns = x ∷ [] }

-- void k(int64_t n) {}
abbrev pub bare : Kernel
bare = record { first = number; others = []; declared = []; items = none }
