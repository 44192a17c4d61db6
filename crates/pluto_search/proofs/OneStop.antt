-- A question has one answer, or one stop.
use Rattle.scop_syntax.proofs.Common.{◌≡◌, ◌∙◌, ap, sym, subst, inl, inr, arith, ℕ, Bool, List, [], ◌∷◌, ◌++◌, Vec}
use Rattle.scop_syntax.proofs.Common.{Global, ap₂, ◌⊎◌, refl, Option, None, Some, Result, Ok, Err, ℤ, Affine}
use Rattle.integer_sets.specs.Wide.{Wide}
use Rattle.integer_sets.specs.Checked.{◌>>=◌}
use Rattle.integer_sets.proofs.CheckedSteps.{chain-ok}
use Rattle.integer_sets.specs.Constraints.{Constraints}
use Rattle.pip_solver.specs.Emptiness.{empty_run, equality_rows_run, negated_run, posed_run}
use Rattle.pip_solver.specs.Problem.{Problem}
use Rattle.pip_solver.specs.Minimum.{Minimizes}
use Rattle.pip_solver.specs.Promises.{Empties, FormedUntil, IsBegun, IsPosed}
use Rattle.pip_solver.specs.Solving.{solved}
use Rattle.pip_solver.specs.declared.stop.Stop.TheVariants as solver
use Rattle.iteration_domains.specs.Dependence.{Dependence}
use Rattle.pluto_systems.specs.Gives.{Halts, IsUnanswered}
use Rattle.pluto_systems.specs.FmStop.TheVariants as fm
use Rattle.pluto_systems.specs.Stuck.TheVariants as stuck
use Rattle.pluto_systems.specs.Posing.{ruled_run}
use Rattle.pluto_systems.specs.Run.{Halt, crowded, unanswered, wide}
use Rattle.schedule_rows.proofs.Determinism.{same_head, same_tail}
use Rattle.pluto_search.specs.Alike.{IsOneProblem, IsOneStop, IsOneStuck}
use Rattle.pluto_search.specs.Questions.{AnswersEmptiness, IsRuledBy, IsTold, StopsEmptiness, StopsMinimum, StopsRows}

-- a run has one result
pub ok_one : {A E : Type 0} (run : Result A E) (x y : A) → run ≡ Ok x → run ≡ Ok y → x ≡ y
ok_one run x y h k = let same = sym h ∙ k in cc

-- what equalities in front give, one by one
first_formed : (f : Affine) (fs rows : List Affine) → equality_rows_run (f ∷ fs) ≡ Ok rows
    → ((g : Affine) × (negated_run f ≡ Ok g)) × ((gs : List Affine) × (equality_rows_run fs ≡ Ok gs))
first_formed f fs rows h =
    let a = chain-ok (negated_run f) (λ g. equality_rows_run fs >>= λ gs. Ok (f ∷ g ∷ gs)) rows h in
    let b = chain-ok (equality_rows_run fs) (λ gs. Ok (f ∷ a.0 ∷ gs)) rows a.2 in
    ((a.0, a.1), (b.0, b.1))

-- the equalities in front of the first that is too wide
one_front : (w v : Wide) (e d : Affine) (front behind other rest rows more : List Affine)
    → front ++ e ∷ behind ≡ other ++ d ∷ rest → equality_rows_run front ≡ Ok rows → equality_rows_run other ≡ Ok more
    → negated_run e ≡ Err w → negated_run d ≡ Err v → front ≡ other
one_front w v e d [] behind [] rest rows more whole h k x y = refl
one_front w v e d [] behind (g ∷ gs) rest rows more whole h k x y =
    let formed = (first_formed g gs more k).0.1 in
    let same = ap negated_run (same_head e g behind (gs ++ d ∷ rest) whole) in
    absurd cc
one_front w v e d (f ∷ fs) behind [] rest rows more whole h k x y =
    let formed = (first_formed f fs rows h).0.1 in
    let same = ap negated_run (same_head f d (fs ++ e ∷ behind) rest whole) in
    absurd cc
one_front w v e d (f ∷ fs) behind (g ∷ gs) rest rows more whole h k x y =
    let a = (first_formed f fs rows h).1 in
    let b = (first_formed g gs more k).1 in
    ap₂ (λ (z : Affine) (zs : List Affine). z ∷ zs)
    (same_head f g (fs ++ e ∷ behind) (gs ++ d ∷ rest) whole)
    (one_front w v e d fs behind gs rest a.0 b.0
    (same_tail f g (fs ++ e ∷ behind) (gs ++ d ∷ rest) whole) a.1 b.1 x y)

one_part : (w v : Wide) (es xs ys : List Affine) → FormedUntil w es xs → FormedUntil v es ys → xs ≡ ys
one_part w v es xs ys a b =
    let same = one_front w v a.equality b.equality a.front a.behind b.front b.behind xs ys
    (sym a.whole ∙ b.whole) a.formed b.formed a.wide b.wide in
    ok_one (equality_rows_run a.front) xs ys a.formed (ap equality_rows_run same ∙ b.formed)

-- a system poses one problem, or forms one part of it
one_posed : (s : Constraints) (p q : Problem) → IsPosed s p → IsPosed s q → IsOneProblem p q
one_posed s p q a b =
    record {
      unknowns = a.unknowns ∙ sym b.unknowns;
      parameters = a.parameters ∙ sym b.parameters;
      rows = ok_one (posed_run s) p.rows.items q.rows.items a.rows b.rows;
      context = a.context ∙ sym b.context;
    }

one_begun : (s : Constraints) (w v : Wide) (p q : Problem) → IsBegun s w p → IsBegun s v q → IsOneProblem p q
one_begun s w v p q a b =
    record {
      unknowns = a.unknowns ∙ sym b.unknowns;
      parameters = a.parameters ∙ sym b.parameters;
      rows = one_part w v s.equalities p.rows.items q.rows.items a.rows b.rows;
      context = a.context ∙ sym b.context;
    }

one_solved : (budget : ℕ) (s : Constraints) (p q : Problem) → IsPosed s p → IsPosed s q
    → solved budget p ≡ solved budget q
one_solved budget s p q a b =
    let one = one_posed s p q a b in
    let unknowns = one.unknowns in
    let parameters = one.parameters in
    let rows = one.rows in
    let context = one.context in
    cc

-- the question whether a system is empty
one_emptiness : (budget : ℕ) (s : Constraints) (a b : solver.the_data) → IsTold (stuck.Solver a)
    → IsTold (stuck.Solver b) → Empties (Err a) budget s → Empties (Err b) budget s → IsOneStop a b
one_emptiness budget s solver.NoMemory b t u h k = absurd t
one_emptiness budget s (solver.Wide p n) solver.NoMemory t u h k = absurd u
one_emptiness budget s (solver.Spent p n) solver.NoMemory t u h k = absurd u
one_emptiness budget s (solver.Wide p n) (solver.Spent q o) t u h k = let x = h.2 in let y = k.0 in absurd cc
one_emptiness budget s (solver.Spent p n) (solver.Wide q o) t u h k = let x = h.0 in let y = k.2 in absurd cc
one_emptiness budget s (solver.Spent p n) (solver.Spent q o) t u h k = (one_posed s p q h.2 k.2, h.1 ∙ sym k.1)
one_emptiness budget s (solver.Wide p n) (solver.Wide q o) t u h k =
    let x = h.2 in
    let y = k.2 in
    let left : h.1 ≡ k.1 = cc in
    let made = h.3 in
    let others = k.3 in
    (go h.4 k.4, omega arith)
  where
    go : IsPosed s p ⊎ ((posed_run s ≡ Err h.0) × IsBegun s h.0 p × (n ≡ 0))
        → IsPosed s q ⊎ ((posed_run s ≡ Err k.0) × IsBegun s k.0 q × (o ≡ 0)) → IsOneProblem p q
    go (inl c) (inl d) = one_posed s p q c d
    go (inl c) (inr d) = let e = c.rows in let f = d.0 in absurd cc
    go (inr c) (inl d) = let e = c.0 in let f = d.rows in absurd cc
    go (inr c) (inr d) = one_begun s h.0 k.0 p q c.1 d.1

emptiness_apart : (budget : ℕ) (s : Constraints) (empty : Bool) (a : solver.the_data) → IsTold (stuck.Solver a)
    → Empties (Ok empty) budget s → Empties (Err a) budget s → ⊥
emptiness_apart budget s empty (solver.Wide p n) t h k = let x = h.1 in let y = k.2 in cc
emptiness_apart budget s empty (solver.Spent p n) t h k = let x = h.1 in let y = k.0 in cc
emptiness_apart budget s empty solver.NoMemory t h k = t

-- of a dependence
pub answers_apart : (budget : ℕ) (d : Dependence) (a b : Bool) → AnswersEmptiness budget a d
    → AnswersEmptiness budget b d → a ≡ b
answers_apart budget d a b h k =
    ap (λ (found : Bool × ℕ). found.0) (ok_one (empty_run budget d.system) (a, h.0) (b, k.0) h.1 k.1)

pub one_question : (budget : ℕ) (d : Dependence) (a b : stuck.the_data) → IsTold a → IsTold b
    → StopsEmptiness budget d a → StopsEmptiness budget d b → IsOneStuck a b
one_question budget d (stuck.Solver a) (stuck.Solver b) t u h k = one_emptiness budget d.system a b t u h k
one_question budget d (stuck.Solver a) (stuck.Elimination b) t u h k = absurd k
one_question budget d (stuck.Solver a) stuck.NoMemory t u h k = absurd k
one_question budget d (stuck.Elimination a) b t u h k = absurd h
one_question budget d stuck.NoMemory b t u h k = absurd h

pub question_apart : (budget : ℕ) (d : Dependence) (empty : Bool) (a : stuck.the_data) → IsTold a
    → AnswersEmptiness budget empty d → StopsEmptiness budget d a → ⊥
question_apart budget d empty (stuck.Solver a) t h k = emptiness_apart budget d.system empty a t h k
question_apart budget d empty (stuck.Elimination a) t h k = k
question_apart budget d empty stuck.NoMemory t h k = k

-- the least point of a system
one_minimum : (budget : ℕ) (s : Constraints) (a b : solver.the_data) → IsTold (stuck.Solver a)
    → IsTold (stuck.Solver b) → Minimizes (Err a) budget s → Minimizes (Err b) budget s → IsOneStop a b
one_minimum budget s solver.NoMemory b t u h k = absurd t
one_minimum budget s (solver.Wide p n) solver.NoMemory t u h k = absurd u
one_minimum budget s (solver.Spent p n) solver.NoMemory t u h k = absurd u
one_minimum budget s (solver.Spent p n) (solver.Spent q o) t u (is, (x, made, e)) (other, (y, others, f)) =
    (one_posed s p q is other, made ∙ sym others)
one_minimum budget s (solver.Wide p n) (solver.Spent q o) t u (inl (is, e)) (other, f) =
    let x = e.2 in
    let y = f.0 in
    let same = one_solved budget s p q is other in
    absurd cc
one_minimum budget s (solver.Wide p n) (solver.Spent q o) t u (inr (w, x, begun, made)) (other, f) =
    let y = other.rows in
    absurd cc
one_minimum budget s (solver.Spent p n) (solver.Wide q o) t u (is, e) (inl (other, f)) =
    let x = e.0 in
    let y = f.2 in
    let same = one_solved budget s p q is other in
    absurd cc
one_minimum budget s (solver.Spent p n) (solver.Wide q o) t u (is, e) (inr (v, y, begun, made)) =
    let x = is.rows in
    absurd cc
one_minimum budget s (solver.Wide p n) (solver.Wide q o) t u (inl (is, (w, rest, x, made, e)))
    (inl (other, (v, more, y, others, f))) =
    let same = one_solved budget s p q is other in
    let left : rest ≡ more = cc in
    (one_posed s p q is other, omega arith)
one_minimum budget s (solver.Wide p n) (solver.Wide q o) t u (inl (is, e)) (inr (v, y, begun, made)) =
    let x = is.rows in
    absurd cc
one_minimum budget s (solver.Wide p n) (solver.Wide q o) t u (inr (w, x, begun, made)) (inl (other, f)) =
    let y = other.rows in
    absurd cc
one_minimum budget s (solver.Wide p n) (solver.Wide q o) t u (inr (w, x, begun, made)) (inr (v, y, other, others)) =
    (one_begun s w v p q begun other, made ∙ sym others)

minimum_apart : (budget : ℕ) (s : Constraints) (found : Option (Vec ℤ Global)) (a : solver.the_data)
    → IsTold (stuck.Solver a) → Minimizes (Ok found) budget s → Minimizes (Err a) budget s → ⊥
minimum_apart budget s found solver.NoMemory t h k = t
minimum_apart budget s found (solver.Spent p n) t (q, other, (tree, rest, x, e)) (is, (y, others, f)) =
    let same = one_solved budget s q p other is in
    cc
minimum_apart budget s found (solver.Wide p n) t (q, other, (tree, rest, x, e)) (inl (is, (w, more, y, others, f))) =
    let same = one_solved budget s q p other is in
    cc
minimum_apart budget s found (solver.Wide p n) t (q, other, e) (inr (w, y, begun, made)) =
    let x = other.rows in
    cc

-- of a posed system
pub one_least : (budget : ℕ) (s : Constraints) (a b : stuck.the_data) → IsTold a → IsTold b
    → StopsMinimum budget s a → StopsMinimum budget s b → IsOneStuck a b
one_least budget s (stuck.Solver a) (stuck.Solver b) t u h k = one_minimum budget s a b t u h k
one_least budget s (stuck.Solver a) (stuck.Elimination b) t u h k = absurd k
one_least budget s (stuck.Solver a) stuck.NoMemory t u h k = absurd k
one_least budget s (stuck.Elimination a) b t u h k = absurd h
one_least budget s stuck.NoMemory b t u h k = absurd h

pub least_apart : (budget : ℕ) (s : Constraints) (found : Option (Vec ℤ Global)) (a : stuck.the_data) → IsTold a
    → Minimizes (Ok found) budget s → StopsMinimum budget s a → ⊥
least_apart budget s found (stuck.Solver a) t h k = minimum_apart budget s found a t h k
least_apart budget s found (stuck.Elimination a) t h k = k
least_apart budget s found stuck.NoMemory t h k = k

-- a question at which a run halts
unanswered_by : {Y : Type 0} (budget : ℕ) (run : Result Y Halt) (a : solver.the_data) → IsTold (stuck.Solver a)
    → Halts budget (stuck.Solver a) run → IsUnanswered budget (Err a) run
unanswered_by budget run (solver.Wide p n) t h = h
unanswered_by budget run (solver.Spent p n) t h = h
unanswered_by budget run solver.NoMemory t h = absurd t

-- an elimination at which it halts
abbrev halt_of : fm.the_data → Option Halt
halt_of (fm.Wide w) = Some (wide w)
halt_of (fm.Crowded pairs) = Some (crowded pairs)
halt_of (fm.Large number) = None
halt_of fm.NoMemory = None

eliminated_by : {Y : Type 0} (budget : ℕ) (run : Result Y Halt) (a : fm.the_data)
    → Halts budget (stuck.Elimination a) run
    → (halt : Halt) × (halt_of a ≡ Some halt) × (run ≡ Err halt)
eliminated_by budget run (fm.Wide w) h = (wide w, refl, h)
eliminated_by budget run (fm.Crowded pairs) h = (crowded pairs, refl, h)
eliminated_by budget run (fm.Large number) h = absurd h
eliminated_by budget run fm.NoMemory h = absurd h

one_elimination : (a b : fm.the_data) (halt : Halt) → halt_of a ≡ Some halt → halt_of b ≡ Some halt → a ≡ b
one_elimination (fm.Wide w) (fm.Wide v) halt h k = cc
one_elimination (fm.Wide w) (fm.Crowded n) halt h k = absurd cc
one_elimination (fm.Crowded n) (fm.Wide v) halt h k = absurd cc
one_elimination (fm.Crowded n) (fm.Crowded o) halt h k = cc
one_elimination (fm.Wide w) (fm.Large n) halt h k = absurd cc
one_elimination (fm.Wide w) fm.NoMemory halt h k = absurd cc
one_elimination (fm.Crowded n) (fm.Large o) halt h k = absurd cc
one_elimination (fm.Crowded n) fm.NoMemory halt h k = absurd cc
one_elimination (fm.Large n) b halt h k = absurd cc
one_elimination fm.NoMemory b halt h k = absurd cc

not_question : (a : fm.the_data) (s : Constraints) → halt_of a ≡ Some (unanswered s) → ⊥
not_question (fm.Wide w) s h = cc
not_question (fm.Crowded n) s h = cc
not_question (fm.Large n) s h = cc
not_question fm.NoMemory s h = cc

same_halt : {Y : Type 0} (run : Result Y Halt) (a b : Halt) → run ≡ Err a → run ≡ Err b → a ≡ b
same_halt run a b h k = let same = sym h ∙ k in cc

-- the rows of a dependence by Farkas's lemma
pub one_halt : {Y : Type 0} (budget : ℕ) (run : Result Y Halt) (a b : stuck.the_data) → IsTold a → IsTold b
    → Halts budget a run → Halts budget b run → IsOneStuck a b
one_halt budget run (stuck.Solver a) (stuck.Solver b) t u h k =
    let x = unanswered_by budget run a t h in
    let y = unanswered_by budget run b u k in
    let same : x.0 ≡ y.0 = let halts = same_halt run (unanswered x.0) (unanswered y.0) x.1 y.1 in cc in
    one_emptiness budget y.0 a b t u (subst (λ (s : Constraints). Empties (Err a) budget s) same x.2) y.2
one_halt budget run (stuck.Solver a) (stuck.Elimination b) t u h k =
    let x = unanswered_by budget run a t h in
    let y = eliminated_by budget run b k in
    absurd (not_question b x.0 (y.1 ∙ ap (λ (z : Halt). Some z) (same_halt run y.0 (unanswered x.0) y.2 x.1)))
one_halt budget run (stuck.Solver a) stuck.NoMemory t u h k = absurd u
one_halt budget run (stuck.Elimination a) (stuck.Solver b) t u h k =
    let x = eliminated_by budget run a h in
    let y = unanswered_by budget run b u k in
    absurd (not_question a y.0 (x.1 ∙ ap (λ (z : Halt). Some z) (same_halt run x.0 (unanswered y.0) x.2 y.1)))
one_halt budget run (stuck.Elimination a) (stuck.Elimination b) t u h k =
    let x = eliminated_by budget run a h in
    let y = eliminated_by budget run b k in
    one_elimination a b y.0 (x.1 ∙ ap (λ (z : Halt). Some z) (same_halt run x.0 y.0 x.2 y.2)) y.1
one_halt budget run (stuck.Elimination a) stuck.NoMemory t u h k = absurd u
one_halt budget run stuck.NoMemory b t u h k = absurd t

pub rows_apart : (budget : ℕ) (d : Dependence) (a : stuck.the_data) → IsTold a → IsRuledBy budget d
    → StopsRows budget d a → ⊥
rows_apart budget d (stuck.Solver a) t h k =
    let x = unanswered_by budget (ruled_run budget d) a t k in
    let y = x.1 in
    let z = h.1 in
    cc
rows_apart budget d (stuck.Elimination a) t h k =
    let x = eliminated_by budget (ruled_run budget d) a k in
    let y = x.2 in
    let z = h.1 in
    cc
rows_apart budget d stuck.NoMemory t h k = t
