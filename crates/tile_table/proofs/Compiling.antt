-- A code that grows step by step: slots keep their values, and each kind of node makes its value of those of its parts.
use Rattle.scop_syntax.proofs.Common.{◌≡◌, ◌∙◌, ap, ap₂, refl, sym, subst, ℕ, suc, ◌+◌, ◌<◌, ◌≤◌, ℤ, List, [], ◌∷◌}
use Rattle.scop_syntax.proofs.Common.{◌++◌, length, map, drop, get_or, arith, length-append, get_or-drop}
use Rattle.scop_syntax.proofs.Common.{get_or_append_left, length-map, length_push, map-append, IfOk-weaker, IfOk}
use Rattle.scop_syntax.proofs.Common.{Result, Affine, value_of, reads_of, reads_with, Access, Expression, Head, read}
use Rattle.scop_syntax.proofs.Common.{affine, binary, Right, combined, applied, stored_by, value_on, wrapped}
use Rattle.scop_syntax.proofs.Common.{operator_of}
use Rattle.std.proofs.lemmas.List.{get_or_push}
use Rattle.scop_syntax.specs.Tree.{constant}
use Rattle.scop_meaning.proofs.Chains.{chained_value}
use Rattle.scop_syntax.specs.declared.tree.Operator.{Operator as CodeOperator}
use Rattle.tile_table.specs.Codes.{AreSteps, IsStep, changed, leaves_at, made, worked}
use Rattle.tile_table.specs.Points.{point_in}
use Rattle.tile_table.specs.declared.code.Change.{Change}
use Rattle.tile_table.specs.declared.code.Code.{Code}
use Rattle.tile_table.specs.declared.code.Step.{Step}
use Rattle.tile_table.specs.declared.code.Step.TheVariants.{Constant, Affine as Leaf, Unary, Binary}
use Rattle.tile_table.specs.steps.Codes.{GoesOn, IsBegun, IsPut, Makes, MakesStored, MakesValue, slots_by}
use Rattle.tile_table.specs.steps.Forms.{IsFormOver}
use Rattle.tile_table.proofs.Codes.{Agree, steps_more, steps_within, worked_front, worked_long, worked_more, worked_same}

-- the slots behind a step more
put_slots : (forms : List Affine) (step : Step) (old new : Code) (slot : ℕ) → IsBegun old
    → IsPut forms step old new slot → (turns : List ℤ) (values : List ℕ) → length values ≡ old.reads
    → slots_by new turns values
    ≡ slots_by old turns values ++ made (leaves_at new turns) (slots_by old turns values) step ∷ []
put_slots forms step old new slot begun put turns values long =
    let ls = leaves_at new turns in
    let ks = leaves_at old turns in
    let f = λ (form : Affine). wrapped (value_of form turns) in
    let grown : ls ≡ ks ++ map f forms = ap (map f) put.leaves ∙ map-append f old.leaves.items forms in
    let many = length-map old.leaves.items f in
    let agree : Agree (length old.leaves.items) ls ks = λ k less.
    ap (λ (l : List ℕ). get_or l k 0) grown
    ∙ get_or_append_left ks (map f forms) 0 k (omega (arith, many, less)) in
    ap (λ (ss : List Step). worked ls ss values) put.steps
    ∙ (worked_more ls old.steps.items step values
    ∙ ap (λ (xs : List ℕ). xs ++ made ls xs step ∷ [])
    (worked_same (length old.leaves.items) old.reads ls ks old.steps.items values begun.steps agree long))

put_goes_on : (forms : List Affine) (step : Step) (old new : Code) (slot : ℕ) → IsBegun old
    → IsStep (length new.leaves.items) (old.reads + length old.steps.items) step → IsPut forms step old new slot
    → GoesOn old new
put_goes_on forms step old new slot begun is put =
    let n = length new.leaves.items in
    let leaves = ap (λ (fs : List Affine). length fs) put.leaves in
    let joined = length-append old.leaves.items forms in
    let steps = ap (λ (ss : List Step). length ss) put.steps in
    let grown = length_push old.steps.items step in
    let reads = put.reads in
    let few = begun.few in
    let more = steps_more n old.reads old.steps.items step
    (steps_within (length old.leaves.items) n old.reads old.steps.items (omega (arith, leaves, joined)) begun.steps)
    is in
    record {
      begun = record {
        few = omega (arith, reads, few);
        steps = subst (λ (m : ℕ). AreSteps n m new.steps.items) (sym reads)
            (subst (AreSteps n old.reads) (sym put.steps) more);
      };
      reads = reads;
      long = omega (arith, steps, grown);
      kept = λ turns values k long less.
          let many = worked_long (leaves_at old turns) old.steps.items values in
          ap (λ (xs : List ℕ). get_or xs k 0) (put_slots forms step old new slot begun put turns values long)
          ∙ get_or_append_left (slots_by old turns values) _ 0 k (omega (arith, many, long, less));
    }

pub goes_then : (a b c : Code) → GoesOn a b → GoesOn b c → GoesOn a c
goes_then a b c f g =
    let first = f.reads in
    let second = g.reads in
    let front = f.long in
    let back = g.long in
    record {
      begun = g.begun;
      reads = second ∙ first;
      long = omega (arith, front, back);
      kept = λ turns values slot long less.
          g.kept turns values slot (long ∙ sym first) (omega (arith, less, first, front))
          ∙ f.kept turns values slot long less;
    }

pub goes_nowhere : (code : Code) → IsBegun code → GoesOn code code
goes_nowhere code begun =
    record { begun = begun; reads = refl; long = omega arith; kept = λ turns values slot long less. refl }

-- a step put behind what was made
pub put_makes : (loops : ℕ) (value : List ℤ → List ℕ → ℕ) (forms : List Affine) (step : Step) (old mid new : Code)
    (slot : ℕ) → GoesOn old mid → IsStep (length new.leaves.items) (mid.reads + length mid.steps.items) step
    → ((turns : List ℤ) (values : List ℕ) → length turns ≡ loops → length values ≡ mid.reads
    → made (leaves_at new turns) (slots_by mid turns values) step ≡ value turns values)
    → IsPut forms step mid new slot → Makes loops value old new slot
put_makes loops value forms step old mid new slot goes is told put =
    let reads = put.reads in
    let steps = ap (λ (ss : List Step). length ss) put.steps in
    let grown = length_push mid.steps.items step in
    let place = put.place in
    record {
      code = goes_then old mid new goes (put_goes_on forms step mid new slot goes.begun is put);
      there = omega (arith, reads, steps, grown, place);
      value = λ turns values many long.
          let length_so_far = worked_long (leaves_at mid turns) mid.steps.items values in
          ap (λ (xs : List ℕ). get_or xs slot 0)
          (put_slots forms step mid new slot goes.begun put turns values (long ∙ reads))
          ∙ (get_or_push (slots_by mid turns values) _ 0 slot (omega (arith, length_so_far, long, reads, place))
          ∙ told turns values many (long ∙ reads));
    }

-- a constant
pub constant_made : {E : Type 0} (params : List ℤ) (heads : List Head) (whole : Expression) (c at : ℕ) (old new : Code)
    (result : Result ℕ E) → whole ≡ constant c → IsBegun old → IfOk result (IsPut [] (Constant c) old new)
    → IfOk result (MakesValue params heads whole at old new)
constant_made params heads whole c at old new result is begun =
    IfOk-weaker result (IsPut [] (Constant c) old new) (MakesValue params heads whole at old new) (λ slot put.
    put_makes (length heads) _ [] (Constant c) old old new slot (goes_nowhere old begun) tt
    (λ turns values many long.
    ap (λ (x : Expression). value_on x (point_in heads params turns) (drop at values)) (sym is)) put)

-- a value read
pub read_made : (params : List ℤ) (heads : List Head) (whole : Expression) (a : Access) (at : ℕ) (code : Code)
    → whole ≡ read a → IsBegun code → at + length (reads_of whole) ≤ code.reads
    → MakesValue params heads whole at code code at
read_made params heads whole a at code is begun few =
    let one = ap (λ (x : Expression). length (reads_of x)) is in
    let less : at < code.reads = omega (arith, one, few) in
    record {
      code = goes_nowhere code begun;
      there = omega (arith, less);
      value = λ turns values many long.
          let same : at + 0 ≡ at = omega arith in
          worked_front (leaves_at code turns) code.steps.items values at (omega (arith, long, less))
          ∙ (ap (λ (k : ℕ). get_or values k 0) (sym same)
          ∙ (sym (get_or-drop at values 0 0)
          ∙ ap (λ (x : Expression). value_on x (point_in heads params turns) (drop at values)) (sym is)));
    }

-- an affine part
pub form_made : {E : Type 0} (params : List ℤ) (heads : List Head) (form over : Affine) (at : ℕ) (old new : Code)
    (result : Result ℕ E) → IsBegun old → IsFormOver params heads form over
    → IfOk result (IsPut (over ∷ []) (Leaf (length old.leaves.items)) old new)
    → IfOk result (MakesValue params heads (affine form) at old new)
form_made params heads form over at old new result begun told =
    let step = Leaf (length old.leaves.items) in
    IfOk-weaker result (IsPut (over ∷ []) step old new) (MakesValue params heads (affine form) at old new) (λ slot put.
    let leaves = ap (λ (fs : List Affine). length fs) put.leaves in
    let grown = length_push old.leaves.items over in
    put_makes (length heads) _ (over ∷ []) (Leaf (length old.leaves.items)) old old new slot (goes_nowhere old begun)
    (omega (arith, leaves, grown))
    (λ turns values many long.
    let f = λ (g : Affine). wrapped (value_of g turns) in
    let count = length-map old.leaves.items f in
    ap (λ (fs : List Affine). get_or (map f fs) (length old.leaves.items) 0) put.leaves
    ∙ (ap (λ (l : List ℕ). get_or l (length old.leaves.items) 0) (map-append f old.leaves.items (over ∷ []))
    ∙ (get_or_push (leaves_at old turns) (f over) 0 (length old.leaves.items) count ∙ told turns many))) put)

-- a value more, by what a change makes of one that was made
pub change_made : {E : Type 0} (loops : ℕ) (value meant : List ℤ → List ℕ → ℕ) (change : Change) (old mid new : Code)
    (part : ℕ) (result : Result ℕ E) → Makes loops meant old mid part
    → ((turns : List ℤ) (values : List ℕ) → value turns values ≡ changed change (meant turns values))
    → IfOk result (IsPut [] (Unary change part) mid new) → IfOk result (Makes loops value old new)
change_made loops value meant change old mid new part result of_part is =
    IfOk-weaker result (IsPut [] (Unary change part) mid new) (Makes loops value old new) (λ slot put.
    put_makes loops value [] (Unary change part) old mid new slot of_part.code of_part.there
    (λ turns values many long.
    ap (λ (x : ℕ). changed change x) (of_part.value turns values many long) ∙ sym (is turns values)) put)

-- a node of two parts, whose reads stand one behind the other
pub binary_made : {E : Type 0} (params : List ℤ) (heads : List Head) (whole e f : Expression) (op : CodeOperator)
    (at next : ℕ) (old one two new : Code) (a b : ℕ) (result : Result ℕ E) → whole ≡ binary (operator_of op) e f
    → MakesValue params heads e at old one a → next ≡ at + length (reads_of e)
    → MakesValue params heads f next one two b → IfOk result (IsPut [] (Binary op a b) two new)
    → IfOk result (MakesValue params heads whole at old new)
binary_made params heads whole e f op at next old one two new a b result is first behind second =
    let reads = second.code.reads in
    let long_so_far = second.code.long in
    let there = first.there in
    IfOk-weaker result (IsPut [] (Binary op a b) two new) (MakesValue params heads whole at old new) (λ slot put.
    put_makes (length heads) _ [] (Binary op a b) old two new slot (goes_then old one two first.code second.code)
    (omega (arith, reads, long_so_far, there), second.there)
    (λ turns values many long.
    chained_value whole e f (operator_of op) (point_in heads params turns) values at next
    (get_or (slots_by two turns values) a 0) (get_or (slots_by two turns values) b 0) _ is behind
    (second.code.kept turns values a (long ∙ reads) first.there ∙ first.value turns values many (long ∙ reads))
    (second.value turns values many long) refl) put)

-- a place, of which nothing is asked
nowhere : Access
nowhere = record { array = 0; subscripts = [] }

-- a right side of a value read first, by what a change makes of that
pub moved_made : {E : Type 0} (params : List ℤ) (heads : List Head) (own node : Right) (change : Change) (old new : Code)
    (result : Result ℕ E) → own ≡ node → IsBegun old
    → ((place : Access) → old.reads ≡ length (reads_with place own))
    → ((place : Access) → length (reads_with place node) ≡ 1)
    → ((point : List ℤ) (vs : List ℕ) → stored_by node point vs ≡ changed change (get_or vs 0 0))
    → IfOk result (IsPut [] (Unary change 0) old new) → IfOk result (MakesStored params heads own old new)
moved_made params heads own node change old new result is begun reads one value =
    let count = reads nowhere in
    let same = ap (λ (r : Right). length (reads_with nowhere r)) is in
    let single = one nowhere in
    let some : 0 < old.reads = omega (arith, count, same, single) in
    IfOk-weaker result (IsPut [] (Unary change 0) old new) (MakesStored params heads own old new) (λ slot put.
    put_makes (length heads) _ [] (Unary change 0) old old new slot (goes_nowhere old begun) (omega (arith, some))
    (λ turns values many long.
    let point = point_in heads params turns in
    ap (λ (x : ℕ). changed change x)
    (worked_front (leaves_at old turns) old.steps.items values 0 (omega (arith, long, some)))
    ∙ (sym (value point values) ∙ ap (λ (r : Right). stored_by r point values) (sym is))) put)

-- a right side of a value read first and an expression
pub combined_made : {E : Type 0} (params : List ℤ) (heads : List Head) (own : Right) (e : Expression) (op : CodeOperator)
    (old mid new : Code) (part : ℕ) (result : Result ℕ E) → own ≡ combined (operator_of op) e
    → ((place : Access) → old.reads ≡ length (reads_with place own)) → MakesValue params heads e 1 old mid part
    → IfOk result (IsPut [] (Binary op 0 part) mid new) → IfOk result (MakesStored params heads own old new)
combined_made params heads own e op old mid new part result is reads of_part =
    let count = reads nowhere in
    let same : length (reads_with nowhere own) ≡ suc (length (reads_of e)) =
    ap (λ (r : Right). length (reads_with nowhere r)) is in
    let kept = of_part.code.reads in
    let some : 0 < mid.reads = omega (arith, count, same, kept) in
    IfOk-weaker result (IsPut [] (Binary op 0 part) mid new) (MakesStored params heads own old new) (λ slot put.
    put_makes (length heads) _ [] (Binary op 0 part) old mid new slot of_part.code
    (omega (arith, some), of_part.there)
    (λ turns values many long.
    let point = point_in heads params turns in
    ap₂ (applied (operator_of op))
    (worked_front (leaves_at mid turns) mid.steps.items values 0 (omega (arith, long, some)))
    (of_part.value turns values many long) ∙ ap (λ (r : Right). stored_by r point values) (sym is)) put)

-- an addend, by the operator
pub zero_made : {E : Type 0} (loops : ℕ) (value : List ℤ → List ℕ → ℕ) (old mid new : Code) (result : Result ℕ E)
    → GoesOn old mid → ((turns : List ℤ) (values : List ℕ) → value turns values ≡ 0)
    → IfOk result (IsPut [] (Constant 0) mid new) → IfOk result (Makes loops value old new)
zero_made loops value old mid new result goes none =
    IfOk-weaker result (IsPut [] (Constant 0) mid new) (Makes loops value old new) (λ slot put.
    put_makes loops value [] (Constant 0) old mid new slot goes tt (λ turns values many long. sym (none turns values)) put)

-- another meaning that is the same
pub means_so : {E : Type 0} (loops : ℕ) (value meant : List ℤ → List ℕ → ℕ) (old new : Code) (result : Result ℕ E)
    → ((turns : List ℤ) (values : List ℕ) → value turns values ≡ meant turns values)
    → IfOk result (Makes loops meant old new) → IfOk result (Makes loops value old new)
means_so loops value meant old new result is =
    IfOk-weaker result (Makes loops meant old new) (Makes loops value old new) (λ slot makes. record {
      code = makes.code;
      there = makes.there;
      value = λ turns values many long. makes.value turns values many long ∙ sym (is turns values);
    })
