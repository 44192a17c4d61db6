-- The elements of each tree within the limits lead to the end.
use Rattle.std.proofs.Common.{◌≡◌, ℕ, zero, suc, ◌+◌, ◌-◌, true, false, List, [], ◌∷◌, ◌++◌, refl, append_assoc, arith}
use Rattle.std.proofs.Common.{rules, nat_eq}
use Rattle.scop_expressions.specs.Assign.TheVariants as set
use Rattle.scop_expressions.specs.Token.TheVariants as token
use Rattle.scop_expressions.specs.Tree.{Tree, name, index, IsPlace, operators}
use Rattle.scop_expressions.proofs.Drives.{place_rank}
use Rattle.scop_grammar.specs.declared.table.Level.{Level}
use Rattle.scop_grammar.specs.declared.table.Level.TheVariants as level
use Rattle.scop_grammar.specs.declared.table.Want.{Want}
use Rattle.scop_grammar.specs.declared.table.Want.TheVariants as want
use Rattle.scop_grammar.specs.Kernel.{Element, plain, expression, begins, ends, Step, counted, counts, assigned, Head}
use Rattle.scop_grammar.specs.Kernel.{branch, loop, Item, block, empty, assign, headed, Items, none, more, Parameter}
use Rattle.scop_grammar.specs.Kernel.{number, array, Kernel, step_elements, head_elements, place_elements}
use Rattle.scop_grammar.specs.Kernel.{item_elements, all_elements, extents, parameter_elements, other_parameters}
use Rattle.scop_grammar.specs.Kernel.{other_names, declarations, kernel_elements, assign_sign, semicolon, Fits}
use Rattle.scop_grammar.specs.Kernel.{AllFit, StepFits, HeadFits, ItemFits, ItemsFit, ParameterFits, ParametersFit}
use Rattle.scop_grammar.specs.Kernel.{KernelFits}
use Rattle.scop_grammar.proofs.Paths.{Ends}

-- the place in front of a last subscript, and the subscript
pub fits_front : (d n : ℕ) (p i : Tree) → Fits d n (index p i) → Fits d n p
fits_front d n p i f =
    let w = f.expression.brackets in
    let r = place_rank p w.0 in
    let q = f.within.depth in
    let u = f.within.operators in
    record {
      expression = record { brackets = w.2; rank = omega arith };
      within = record { depth = omega arith; operators = omega arith };
    }

pub fits_subscript : (d n : ℕ) (p i : Tree) → Fits d n (index p i) → Fits (d - 1) (n - operators p) i
fits_subscript d n p i f =
    let w = f.expression.brackets in
    let r = w.1 in
    let q = f.within.depth in
    let u = f.within.operators in
    record {
      expression = record { brackets = w.3; rank = r };
      within = record { depth = omega arith; operators = omega arith };
    }

pub place_ends : (d n : ℕ) (p : Tree) (l : Level) (b : ℕ) (es : List Element) → IsPlace p → Fits d n p
    → Ends d n want.Placed b (operators p) es → Ends d n (want.Item l) b 0 (place_elements p ++ es)
place_ends d n name l b es p f h = (refl, h)
place_ends d n (index t i) l b es p f h =
    rw (append_assoc (place_elements t) (plain token.OpenIndex ∷ expression i token.CloseIndex ∷ []) es)
    (place_ends d n t l b (plain token.OpenIndex ∷ expression i token.CloseIndex ∷ es) f.expression.brackets.0
    (fits_front d n t i f) (refl, (fits_subscript d n t i f, h)))
place_ends d n _ l b es p f h = absurd p

pub step_ends : (d n : ℕ) (s : Step) (b : ℕ) (es : List Element) → StepFits d n s
    → Ends d n (want.Item level.Body) b 0 es → Ends d n want.Step b 0 (step_elements s ++ es)
step_ends d n (counted c) b es f h = (refl, (refl, (refl, h)))
step_ends d n (counts c) b es f h = (refl, (refl, (refl, h)))
step_ends d n (assigned set.Set x) b es f h = (refl, (refl, (f.1, h)))
step_ends d n (assigned set.Plus x) b es f h = (refl, (refl, (f.1, h)))
step_ends d n (assigned set.Minus x) b es f h = (refl, (refl, (f.1, h)))
step_ends d n (assigned _ x) b es f h = absurd f.0

pub head_ends : (d n : ℕ) (e : Head) (l : Level) (b : ℕ) (es : List Element) → HeadFits d n e
    → Ends d n (want.Item level.Body) b 0 es → Ends d n (want.Item l) b 0 (head_elements e ++ es)
head_ends d n (branch c) l b es f h = (refl, (refl, (f, h)))
head_ends d n (loop true a c s) l b es f h =
    (refl, (refl, (refl, (refl, (refl, (f.0, (f.1, step_ends d n s b es f.2 h)))))))
head_ends d n (loop false a c s) l b es f h =
    (refl, (refl, (refl, (refl, (f.0, (f.1, step_ends d n s b es f.2 h))))))

-- an inner block ends
pub block_ends : (d n b : ℕ) (es : List Element) → Ends d n (want.Item level.Block) b 0 es
    → Ends d n (want.Item level.Block) (b + 1) 0 (ends ∷ es)
block_ends d n b es h =
    let e : nat_eq (b + 1) 0 ≡ false = search rules in
    let z : b + 1 - 1 ≡ b = omega arith in
    rw (e, z) (refl, h)

mutual
  pub item_ends : (d n : ℕ) (i : Item) (l : Level) (b : ℕ) (es : List Element) → ItemFits d n i
      → Ends d n (want.Item level.Block) b 0 es → Ends d n (want.Item l) b 0 (item_elements i ++ es)
  item_ends d n (block is) l b es f h = (
    refl,
    rw (append_assoc (all_elements is) (ends ∷ []) es)
        (items_ends d n is (b + 1) (ends ∷ es) f (block_ends d n b es h)),
  )
  item_ends d n empty l b es f h = (refl, h)
  item_ends d n (assign a p x) l b es f h =
      rw (append_assoc (place_elements p) (assign_sign a ∷ expression x semicolon ∷ []) es)
      (place_ends d n p l b (assign_sign a ∷ expression x semicolon ∷ es) f.0 f.1 (refl, (f.2, h)))
  item_ends d n (headed e i) l b es f h =
      rw (append_assoc (head_elements e) (item_elements i) es)
      (head_ends d n e l b (item_elements i ++ es) f.0 (item_ends d n i level.Body b es f.1 h))

  pub items_ends : (d n : ℕ) (is : Items) (b : ℕ) (es : List Element) → ItemsFit d n is
      → Ends d n (want.Item level.Block) b 0 es → Ends d n (want.Item level.Block) b 0 (all_elements is ++ es)
  items_ends d n none b es f h = h
  items_ends d n (more i is) b es f h =
      rw (append_assoc (item_elements i) (all_elements is) es)
      (item_ends d n i level.Block b (all_elements is ++ es) f.0 (items_ends d n is b es f.1 h))

pub extents_end : (d n : ℕ) (xs : List Tree) (es : List Element) → AllFit d n xs
    → Ends d n want.AfterExtent 0 0 es → Ends d n want.AfterExtent 0 0 (extents xs ++ es)
extents_end d n [] es f h = h
extents_end d n (x ∷ xs) es f h = (refl, (f.0, extents_end d n xs es f.1 h))

-- what may come behind a parameter
abbrev pub after : Parameter → Want
after number = want.AfterParameter
after (array w x xs) = want.AfterExtent

pub parameter_ends : (d n : ℕ) (p : Parameter) (es : List Element) → ParameterFits d n p
    → Ends d n (after p) 0 0 es → Ends d n want.Parameter 0 0 (parameter_elements p ++ es)
parameter_ends d n number es f h = (refl, (refl, h))
parameter_ends d n (array w x xs) es f h = (refl, (refl, (refl, (f.0, extents_end d n xs es f.1 h))))

pub others_end : (d n : ℕ) (ps : List Parameter) (p : Parameter) (es : List Element) → ParametersFit d n ps
    → Ends d n want.BodyOpen 0 0 es → Ends d n (after p) 0 0 (other_parameters ps ++ es)
others_end d n [] number es f h = (refl, h)
others_end d n [] (array w x xs) es f h = (refl, h)
others_end d n (q ∷ qs) number es f h = (
  refl,
  rw (append_assoc (parameter_elements q) (other_parameters qs) es)
      (parameter_ends d n q (other_parameters qs ++ es) f.0 (others_end d n qs q es f.1 h)),
)
others_end d n (q ∷ qs) (array w x xs) es f h = (
  refl,
  rw (append_assoc (parameter_elements q) (other_parameters qs) es)
      (parameter_ends d n q (other_parameters qs ++ es) f.0 (others_end d n qs q es f.1 h)),
)

pub names_end : (d n k : ℕ) (es : List Element) → Ends d n (want.Item level.Declarations) 0 0 es
    → Ends d n want.AfterDeclared 0 0 (other_names k ++ es)
names_end d n zero es h = (refl, h)
names_end d n (suc k) es h = (refl, (refl, names_end d n k es h))

pub declarations_end : (d n : ℕ) (ks : List ℕ) (es : List Element) → Ends d n (want.Item level.Declarations) 0 0 es
    → Ends d n (want.Item level.Declarations) 0 0 (declarations ks ++ es)
declarations_end d n [] es h = h
declarations_end d n (k ∷ ks) es h = (
  refl,
  (
    refl,
    rw (append_assoc (other_names k) (declarations ks) es)
        (names_end d n k (declarations ks ++ es) (declarations_end d n ks es h)),
  ),
)

-- the items behind the declarations, and the last brace
pub body_ends : (d n : ℕ) (is : Items) → ItemsFit d n is
    → Ends d n (want.Item level.Declarations) 0 0 (all_elements is ++ ends ∷ [])
body_ends d n none f = (refl, tt)
body_ends d n (more i is) f =
    rw (append_assoc (item_elements i) (all_elements is) (ends ∷ []))
    (item_ends d n i level.Declarations 0 (all_elements is ++ ends ∷ []) f.0
    (items_ends d n is 0 (ends ∷ []) f.1 (refl, tt)))

pub kernel_ends : (d n : ℕ) (k : Kernel) → KernelFits d n k → Ends d n want.Void 0 0 (kernel_elements k)
kernel_ends d n k f =
    let items = all_elements k.items ++ ends ∷ [] in
    let body = begins ∷ (declarations k.declared ++ items) in
    let body_end : Ends d n want.BodyOpen 0 0 body =
    (refl, declarations_end d n k.declared items (body_ends d n k.items f.items)) in (
      refl,
      (
        refl,
        (
          refl,
          parameter_ends d n k.first (other_parameters k.others ++ body) f.first
              (others_end d n k.others k.first body f.others body_end),
        ),
      ),
    )
