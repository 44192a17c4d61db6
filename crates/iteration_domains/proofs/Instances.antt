-- The whole points of a statement's domain are the turns of its instances, and its accesses touch their cells.
use Rattle.scop_syntax.proofs.Common.{◌≡◌, ℕ, ℤ, List, [], ◌∷◌, ◌++◌, length, map, ap, ap₂, subst, sym, ◌∙◌, refl}
use Rattle.scop_syntax.proofs.Common.{Affine, composed, value_of-composed, Access, Program, In, Visit, walk_of, Cell}
use Rattle.scop_syntax.proofs.Common.{accesses, values, cell_of, Scope, Placed, loops_in, point_of, Runs, statements_of}
use Rattle.scop_syntax.proofs.Common.{visit_of, in_map, in_map_from}
use Rattle.integer_sets.specs.Points.{Satisfies}
use Rattle.iteration_domains.specs.Rows.{variables_of_statement, point_forms, rows_of}
use Rattle.iteration_domains.specs.Model.{Modelled, access_over, modelled, model_of, domain_of}
use Rattle.iteration_domains.specs.Instances.{IsInstanceOf}
use Rattle.iteration_domains.proofs.Points.{satisfied, all_hold_at}
use Rattle.iteration_domains.proofs.RowLaws.{rows_run, run_rows, values-point}

-- what the laws of the walk say of a program at its parameters
pub record WalkLaws (program : Program) (params : List ℤ) : Type 0 where
  pub found : (v : Visit) → In v (walk_of program params)
      → (p : Placed) × (xs : List ℤ) × In p (statements_of program) × Runs p.scopes params xs
      × (v ≡ visit_of p params xs)
  pub turns : (scopes : List Scope) (point xs : List ℤ) → Runs scopes point xs → length xs ≡ loops_in scopes
  pub same : (p q : Placed) → In p (statements_of program) → In q (statements_of program) → p.number ≡ q.number
      → p ≡ q

-- a statement of the model as one of the text
pub statement_from : (program : Program) (s : Modelled) → In s (model_of program).statements
    → (p : Placed) × In p (statements_of program) × (s ≡ modelled (length program.parameters) p)
statement_from program s h = in_map_from (modelled (length program.parameters)) s (statements_of program) h

-- an instance of a statement of the model as the statement's at some turns
pub record InstanceOf (program : Program) (params : List ℤ) (s : Modelled) (v : Visit) : Type 0 where
  pub placed : Placed
  pub turns : List ℤ
  pub stands : In placed (statements_of program)
  pub is : s ≡ modelled (length params) placed
  pub runs : Runs placed.scopes params turns
  pub visit : v ≡ visit_of placed params turns

pub instance_from : (program : Program) (params : List ℤ) (s : Modelled) (v : Visit) → WalkLaws program params
    → length params ≡ length program.parameters → IsInstanceOf program params s v → InstanceOf program params s v
instance_from program params s v laws count i =
    let f = laws.found v i.walked in
    let p = statement_from program s i.statement in
    let number : p.0.number ≡ f.0.number =
    sym (ap (λ (z : Modelled). z.number) p.2) ∙ (sym i.number ∙ ap (λ (w : Visit). w.number) f.4) in
    let same = laws.same p.0 f.0 p.1 f.2 number in
    record {
      placed = f.0;
      turns = f.1;
      stands = f.2;
      is = p.2 ∙ ap₂ (λ (m : ℕ) (q : Placed). modelled m q) (sym count) same;
      runs = f.3;
      visit = f.4;
    }

-- each instance is one of a statement of the model
pub has_statement : (program : Program) (params : List ℤ) (v : Visit) → WalkLaws program params
    → In v (walk_of program params) → (s : Modelled) × IsInstanceOf program params s v
has_statement program params v laws h =
    let f = laws.found v h in
    let m = modelled (length program.parameters) in (
      m f.0,
      record {
        statement = in_map m f.0 (statements_of program) f.2;
        walked = h;
        number = ap (λ (w : Visit). w.number) f.4;
      },
    )

pub instance_is_point : (program : Program) (params : List ℤ) (s : Modelled) (v : Visit) → WalkLaws program params
    → length params ≡ length program.parameters → IsInstanceOf program params s v
    → (length v.turns ≡ s.domain.dimensions) × Satisfies s.domain (v.turns ++ params)
instance_is_point program params s v laws count i =
    let f = instance_from program params s v laws count i in
    let l = laws.turns f.placed.scopes params f.turns f.runs in
    let m = length params in
    let h = satisfied (loops_in f.placed.scopes) m (rows_of m f.placed) (f.turns ++ params)
    (run_rows f.placed params f.turns l f.runs) in
    let turns : f.turns ≡ v.turns = sym (ap (λ (w : Visit). w.turns) f.visit) in
    subst (λ (z : Modelled). (length v.turns ≡ z.domain.dimensions) × Satisfies z.domain (v.turns ++ params)) (sym f.is)
    (subst (λ (xs : List ℤ). (length xs ≡ loops_in f.placed.scopes)
    × Satisfies (domain_of m f.placed) (xs ++ params)) turns (l, h))

pub point_is_instance : (program : Program) (params : List ℤ) (s : Modelled) (xs : List ℤ)
    → ((p : Placed) (ys : List ℤ) → In p (statements_of program) → Runs p.scopes params ys
    → In (visit_of p params ys) (walk_of program params))
    → length params ≡ length program.parameters → In s (model_of program).statements
    → length xs ≡ s.domain.dimensions → Satisfies s.domain (xs ++ params)
    → (v : Visit) × IsInstanceOf program params s v × (v.turns ≡ xs)
point_is_instance program params s xs stands count h l rows =
    let p = statement_from program s h in
    let m = length params in
    let is : s ≡ modelled m p.0 = p.2 ∙ ap (λ (k : ℕ). modelled k p.0) (sym count) in
    let turns : length xs ≡ loops_in p.0.scopes = l ∙ ap (λ (z : Modelled). z.domain.dimensions) is in
    let holds = subst (λ (z : Modelled). Satisfies z.domain (xs ++ params)) is rows in
    let runs = rows_run p.0 params xs turns
    (all_hold_at (loops_in p.0.scopes) m (rows_of m p.0) (xs ++ params) holds) in (
      visit_of p.0 params xs,
      record {
        statement = h;
        walked = stands p.0 xs p.1 runs;
        number = sym (ap (λ (z : Modelled). z.number) is);
      },
      refl,
    )

-- composed subscripts have the values of the subscripts at the instance's point
values-composed : (n : ℕ) (forms fs : List Affine) (x : List ℤ)
    → values (map (λ f. composed f forms n) fs) x ≡ values fs (values forms x)
values-composed n forms [] x = refl
values-composed n forms (f ∷ fs) x =
    ap₂ (λ (a : ℤ) (bs : List ℤ). a ∷ bs) (value_of-composed f forms n x) (values-composed n forms fs x)

pub cell_of-access : (p : Placed) (f : Access) (params xs : List ℤ) → length xs ≡ loops_in p.scopes
    → cell_of (access_over (length params) p f) (xs ++ params) ≡ cell_of f (point_of p.scopes params xs)
cell_of-access p f params xs l =
    let m = length params in
    let v = values-composed (variables_of_statement m p) (point_forms m p) f.subscripts (xs ++ params)
    ∙ ap (values f.subscripts) (values-point p params xs l) in
    ap (λ (js : List ℤ). record { array = f.array; subscripts = js }) v

cells-accesses : (p : Placed) (fs : List Access) (params xs : List ℤ) → length xs ≡ loops_in p.scopes
    → map (λ a. cell_of a (xs ++ params)) (map (access_over (length params) p) fs)
    ≡ map (λ a. cell_of a (point_of p.scopes params xs)) fs
cells-accesses p [] params xs l = refl
cells-accesses p (f ∷ fs) params xs l =
    ap₂ (λ (a : Cell) (bs : List Cell). a ∷ bs) (cell_of-access p f params xs l) (cells-accesses p fs params xs l)

pub cells_are_touched : (program : Program) (params : List ℤ) (s : Modelled) (v : Visit) → WalkLaws program params
    → length params ≡ length program.parameters → IsInstanceOf program params s v
    → map (λ a. cell_of a (v.turns ++ params)) s.accesses ≡ map (λ a. cell_of a v.point) (accesses v.body)
cells_are_touched program params s v laws count i =
    let f = instance_from program params s v laws count i in
    let l = laws.turns f.placed.scopes params f.turns f.runs in
    let here = cells-accesses f.placed (accesses f.placed.body) params f.turns l in
    subst (λ (z : Modelled). map (λ a. cell_of a (v.turns ++ params)) z.accesses
    ≡ map (λ a. cell_of a v.point) (accesses v.body)) (sym f.is)
    (subst (λ (w : Visit). map (λ a. cell_of a (w.turns ++ params)) (modelled (length params) f.placed).accesses
    ≡ map (λ a. cell_of a w.point) (accesses w.body)) (sym f.visit) here)
