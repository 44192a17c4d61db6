-- The marks so far, and those among the arrays to come, are all of them.
use Rattle.whole_numbers.proofs.Common.{◌≡◌, ℕ, ◌+◌, ◌≤◌, ◌<◌, Bool, true, false, List, [], ◌∷◌, ◌++◌, length, map}
use Rattle.whole_numbers.proofs.Common.{drop, get_or, ap, ap₂, sym, ◌∙◌, refl, add-one, append_assoc, append-nil}
use Rattle.whole_numbers.proofs.Common.{drop-cons, drop_of_length-le, if◌then◌else◌}
use Rattle.scop_syntax.specs.Reductions.{bodies, is_reduced, marks_from}
use Rattle.scop_syntax.specs.Statements.{Placed, statements_of}
use Rattle.scop_syntax.specs.Tree.{Declaration, Program, Statement}
use Rattle.scop_syntax.specs.Standings.{Standing, heads_in, standing, standings_of}
use Rattle.scop_syntax.specs.StandingView.{bodies_of, standing_of}
use Rattle.scop_syntax.specs.declared.standings.Standing.{Standing as Code}

module _ (ss : List Statement) (ds : List Declaration) (k : ℕ) (d : Declaration) (found : d ≡ get_or ds k d)
    (inside : k < length ds) (ms ns : List ℕ) where
  -- the marks with those from number k on, where array k is one or not
  here : (b : Bool) → is_reduced ss k d ≡ b
      → marks_from ss k (drop k ds) ≡ (if b then k ∷ [] else []) ++ marks_from ss (k + 1) (drop (k + 1) ds)
  here b is =
      let rest = drop (k + 1) ds in
      let first : drop k ds ≡ get_or ds k d ∷ rest = rw (add-one, drop-cons ds k d inside) refl in
      ap (marks_from ss k) first
      ∙ (ap (λ (e : Declaration). (if is_reduced ss k e then k ∷ [] else []) ++ marks_from ss (k + 1) rest) (sym found)
      ∙ ap (λ (c : Bool). (if c then k ∷ [] else []) ++ marks_from ss (k + 1) rest) is)

  pub next_mark : is_reduced ss k d ≡ true → ns ≡ ms ++ (k ∷ [])
      → ns ++ marks_from ss (k + 1) (drop (k + 1) ds) ≡ ms ++ marks_from ss k (drop k ds)
  next_mark is pushed =
      let rest = marks_from ss (k + 1) (drop (k + 1) ds) in
      ap (λ (xs : List ℕ). xs ++ rest) pushed
      ∙ (append_assoc ms (k ∷ []) rest ∙ ap (λ (xs : List ℕ). ms ++ xs) (sym (here true is)))

  pub next_not_marked : is_reduced ss k d ≡ false → ns ≡ ms
      → ns ++ marks_from ss (k + 1) (drop (k + 1) ds) ≡ ms ++ marks_from ss k (drop k ds)
  next_not_marked is same =
      ap₂ (λ (xs ys : List ℕ). xs ++ ys) same (sym (here false is))

-- the statements of the values that stand for a program's are the program's
of_values : (ss : List Code) → bodies_of ss ≡ map (λ (s : Standing). s.body) (map standing_of ss)
of_values [] = refl
of_values (s ∷ ss) = ap (λ (bs : List Statement). (standing_of s).body ∷ bs) (of_values ss)

of_places : (ps : List Placed)
    → map (λ (s : Standing). s.body) (map (λ (p : Placed). standing (heads_in p.scopes) p.body) ps)
    ≡ map (λ (p : Placed). p.body) ps
of_places [] = refl
of_places (p ∷ ps) = ap (λ (bs : List Statement). p.body ∷ bs) (of_places ps)

pub bodies_are : (ss : List Code) (program : Program) → map standing_of ss ≡ standings_of program
    → bodies_of ss ≡ bodies program
bodies_are ss program are =
    of_values ss ∙ (ap (map (λ (s : Standing). s.body)) are ∙ of_places (statements_of program))

-- behind the last array there are no more
pub no_more : (ss : List Statement) (ds : List Declaration) (k : ℕ) → length ds ≤ k → (ms : List ℕ)
    → ms ++ marks_from ss k (drop k ds) ≡ ms
no_more ss ds k past ms = rw (drop_of_length-le ds past) (append-nil ms)
