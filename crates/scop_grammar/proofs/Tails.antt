-- From each want some elements lead to the end.
use Rattle.std.proofs.Common.{◌≡◌, ℕ, zero, suc, ◌+◌, ◌-◌, false, List, [], ◌∷◌, refl, arith, rules, nat_eq, Some}
use Rattle.scop_expressions.specs.Assign.TheVariants as set
use Rattle.scop_expressions.specs.Count.TheVariants as count
use Rattle.scop_expressions.specs.Outside.TheVariants as outside
use Rattle.scop_expressions.specs.Token.{Token}
use Rattle.scop_expressions.specs.Token.TheVariants as token
use Rattle.scop_expressions.specs.Tree.{Tree, operators}
use Rattle.scop_expressions.proofs.Fronts.{one}
use Rattle.scop_grammar.specs.declared.part.Mark.TheVariants as kept
use Rattle.scop_grammar.specs.declared.table.Level.TheVariants as level
use Rattle.scop_grammar.specs.declared.table.Role.{Role}
use Rattle.scop_grammar.specs.declared.table.Role.TheVariants as role
use Rattle.scop_grammar.specs.declared.table.Want.{Want}
use Rattle.scop_grammar.specs.declared.table.Want.TheVariants as want
use Rattle.scop_grammar.specs.Table.{room, left}
use Rattle.scop_grammar.specs.Kernel.{Element, sign, plain, expression, begins, ends, count_sign, assign_sign}
use Rattle.scop_grammar.specs.Kernel.{semicolon, Fits}
use Rattle.scop_grammar.proofs.Paths.{Ends}

-- the braces that close so many blocks, and the kernel's own
abbrev pub closings : ℕ → List Element
closings zero = ends ∷ []
closings (suc b) = ends ∷ closings b

-- an empty item, and the end
abbrev pub body_tail : ℕ → List Element
body_tail b = sign semicolon (Some kept.Empty) ∷ closings b

abbrev pub step_tail : ℕ → List Element
step_tail b = sign token.Name (Some kept.StepName) ∷ count_sign count.Up ∷ plain token.Close ∷ body_tail b

abbrev pub placed_tail : ℕ → List Element
placed_tail b = assign_sign set.Set ∷ expression one semicolon ∷ closings b

abbrev pub set_tail : ℕ → List Element
set_tail b =
    plain (token.Outside (outside.Assign set.Set)) ∷ expression one semicolon ∷ expression one semicolon ∷ step_tail b

abbrev pub header_tail : ℕ → List Element
header_tail b = plain token.Close ∷ begins ∷ closings b

abbrev pub parameter_tail : ℕ → List Element
parameter_tail b =
    plain (token.Outside outside.Int64) ∷ sign token.Name (Some kept.Number) ∷ header_tail b

-- the sign that ends an expression
abbrev pub ender : Role → Token
ender role.Extent = token.CloseIndex
ender role.Condition = token.Close
ender role.First = semicolon
ender role.Second = semicolon
ender role.Step = token.Close
ender role.Subscript = token.CloseIndex
ender role.Value = semicolon

-- behind it
abbrev pub tail_behind : Role → ℕ → List Element
tail_behind role.Extent b = header_tail b
tail_behind role.Condition b = body_tail b
tail_behind role.First b = expression one semicolon ∷ step_tail b
tail_behind role.Second b = step_tail b
tail_behind role.Step b = body_tail b
tail_behind role.Subscript b = placed_tail b
tail_behind role.Value b = closings b

abbrev pub tail : Want → ℕ → List Element
tail want.Void b =
    plain (token.Outside outside.Void) ∷ sign token.Name (Some kept.Kernel) ∷ plain token.Open ∷ parameter_tail b
tail want.KernelName b = sign token.Name (Some kept.Kernel) ∷ plain token.Open ∷ parameter_tail b
tail want.ParametersOpen b = plain token.Open ∷ parameter_tail b
tail want.Parameter b = parameter_tail b
tail want.NumberName b = sign token.Name (Some kept.Number) ∷ header_tail b
tail (want.ArrayName w) b =
    sign token.Name (Some (kept.Array w)) ∷ plain token.OpenIndex ∷ expression one token.CloseIndex ∷ header_tail b
tail want.ExtentOpen b = plain token.OpenIndex ∷ expression one token.CloseIndex ∷ header_tail b
tail (want.Inner r) b = expression one (ender r) ∷ tail_behind r b
tail want.AfterExtent b = header_tail b
tail want.AfterParameter b = header_tail b
tail want.BodyOpen b = begins ∷ closings b
tail want.DeclaredName b = sign token.Name (Some kept.Declared) ∷ plain semicolon ∷ closings b
tail want.AfterDeclared b = plain semicolon ∷ closings b
tail (want.Item level.Body) b = body_tail b
tail (want.Item l) b = closings b
tail want.ConditionOpen b = plain token.Open ∷ expression one token.Close ∷ body_tail b
tail want.LoopOpen b = plain token.Open ∷ sign token.Name (Some kept.Iterator) ∷ set_tail b
tail want.LoopFirst b = sign token.Name (Some kept.Iterator) ∷ set_tail b
tail want.LoopName b = sign token.Name (Some kept.NewIterator) ∷ set_tail b
tail want.LoopSet b = set_tail b
tail want.Step b = step_tail b
tail want.StepName b = sign token.Name (Some kept.StepName) ∷ plain token.Close ∷ body_tail b
tail want.StepSign b = count_sign count.Up ∷ plain token.Close ∷ body_tail b
tail want.StepClose b = plain token.Close ∷ body_tail b
tail want.Placed b = placed_tail b
tail want.Over b = []

pub one_fits : (d n : ℕ) → Fits d n one
one_fits d n =
    record {
      expression = record { brackets = tt; rank = omega arith };
      within = record { depth = omega arith; operators = omega arith };
    }

pub closings_end : (d n b u : ℕ) → Ends d n (want.Item level.Block) b u (closings b)
closings_end d n zero u = (refl, tt)
closings_end d n (suc b) u =
    let e : nat_eq (suc b) 0 ≡ false = search rules in
    let z : suc b - 1 ≡ b = omega arith in
    rw (e, z) (refl, closings_end d n b 0)

pub declarations_closed : (d n b u : ℕ) → Ends d n (want.Item level.Declarations) b u (closings b)
declarations_closed d n zero u = (refl, tt)
declarations_closed d n (suc b) u =
    let e : nat_eq (suc b) 0 ≡ false = search rules in
    let z : suc b - 1 ≡ b = omega arith in
    rw (e, z) (refl, closings_end d n b 0)

pub body_closed : (d n b : ℕ) → Ends d n (want.Item level.Body) b 0 (body_tail b)
body_closed d n b = (refl, closings_end d n b 0)

pub step_closed : (d n b : ℕ) → Ends d n want.Step b 0 (step_tail b)
step_closed d n b = (refl, (refl, (refl, body_closed d n b)))

pub placed_closed : (d n b u : ℕ) → Ends d n want.Placed b u (placed_tail b)
placed_closed d n b u = (refl, (one_fits d n, closings_end d n b 0))

pub set_closed : (d n b : ℕ) → Ends d n want.LoopSet b 0 (set_tail b)
set_closed d n b = (refl, (one_fits d n, (one_fits d n, step_closed d n b)))

pub header_closed : (d n b : ℕ) → Ends d n want.AfterParameter b 0 (header_tail b)
header_closed d n b = (refl, (refl, declarations_closed d n b 0))

pub extent_closed : (d n b : ℕ) → Ends d n want.AfterExtent b 0 (header_tail b)
extent_closed d n b = (refl, (refl, declarations_closed d n b 0))

pub parameter_closed : (d n b : ℕ) → Ends d n want.Parameter b 0 (parameter_tail b)
parameter_closed d n b = (refl, (refl, header_closed d n b))

-- an expression, and what stands behind it
pub inner_closed : (d n : ℕ) (r : Role) (b u : ℕ) (x : Tree) → Fits (room r d) (left r n u) x
    → Ends d n (want.Inner r) b u (expression x (ender r) ∷ tail_behind r b)
inner_closed d n role.Extent b u x f = (f, extent_closed d n b)
inner_closed d n role.Condition b u x f = (f, body_closed d n b)
inner_closed d n role.First b u x f = (f, (one_fits d n, step_closed d n b))
inner_closed d n role.Second b u x f = (f, step_closed d n b)
inner_closed d n role.Step b u x f = (f, body_closed d n b)
inner_closed d n role.Subscript b u x f = (f, placed_closed d n b (u + operators x))
inner_closed d n role.Value b u x f = (f, closings_end d n b 0)

pub closed : (d n : ℕ) (w : Want) (b u : ℕ) → Ends d n w b u (tail w b)
closed d n want.Void b u = (refl, (refl, (refl, parameter_closed d n b)))
closed d n want.KernelName b u = (refl, (refl, parameter_closed d n b))
closed d n want.ParametersOpen b u = (refl, parameter_closed d n b)
closed d n want.Parameter b u = (refl, (refl, header_closed d n b))
closed d n want.NumberName b u = (refl, header_closed d n b)
closed d n (want.ArrayName w) b u = (refl, (refl, (one_fits d n, extent_closed d n b)))
closed d n want.ExtentOpen b u = (refl, (one_fits d n, extent_closed d n b))
closed d n (want.Inner r) b u = inner_closed d n r b u one (one_fits (room r d) (left r n u))
closed d n want.AfterExtent b u = (refl, (refl, declarations_closed d n b 0))
closed d n want.AfterParameter b u = (refl, (refl, declarations_closed d n b 0))
closed d n want.BodyOpen b u = (refl, declarations_closed d n b 0)
closed d n want.DeclaredName b u = (refl, (refl, declarations_closed d n b 0))
closed d n want.AfterDeclared b u = (refl, declarations_closed d n b 0)
closed d n (want.Item level.Body) b u = (refl, closings_end d n b 0)
closed d n (want.Item level.Block) b u = closings_end d n b u
closed d n (want.Item level.Declarations) b u = declarations_closed d n b u
closed d n want.ConditionOpen b u = (refl, (one_fits d n, body_closed d n b))
closed d n want.LoopOpen b u = (refl, (refl, set_closed d n b))
closed d n want.LoopFirst b u = (refl, set_closed d n b)
closed d n want.LoopName b u = (refl, set_closed d n b)
closed d n want.LoopSet b u = (refl, (one_fits d n, (one_fits d n, step_closed d n b)))
closed d n want.Step b u = (refl, (refl, (refl, body_closed d n b)))
closed d n want.StepName b u = (refl, (refl, body_closed d n b))
closed d n want.StepSign b u = (refl, (refl, body_closed d n b))
closed d n want.StepClose b u = (refl, body_closed d n b)
closed d n want.Placed b u = placed_closed d n b u
closed d n want.Over b u = tt
