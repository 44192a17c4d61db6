-- Elements that lead from the start to the end are those of a kernel.
use Rattle.std.proofs.Common.{◌≡◌, ℕ, ◌≤◌, List, [], ◌∷◌, ◌++◌, length, refl, append_assoc, arith}
use Rattle.scop_expressions.specs.Op.TheVariants as op
use Rattle.scop_expressions.specs.Outside.TheVariants as outside
use Rattle.scop_expressions.specs.Token.{Token}
use Rattle.scop_expressions.specs.Token.TheVariants as token
use Rattle.scop_expressions.specs.Width.{Width}
use Rattle.scop_expressions.specs.Tree.{Tree}
use Rattle.scop_grammar.specs.declared.table.Level.TheVariants as level
use Rattle.scop_grammar.specs.declared.table.Role.TheVariants as role
use Rattle.scop_grammar.specs.declared.table.Want.TheVariants as want
use Rattle.scop_grammar.specs.Kernel.{Element, sign, expression, spelled, begins, ends, Items, Parameter, number}
use Rattle.scop_grammar.specs.Kernel.{array, Kernel, parameter_elements, extents, other_parameters, declarations}
use Rattle.scop_grammar.specs.Kernel.{all_elements, comma, AllFit, ParameterFits, ParametersFit, Spells}
use Rattle.scop_grammar.proofs.Paths.{Ends}
use Rattle.scop_grammar.proofs.Parses.{spelled_append, brace, end_tokens, InDeclarations, begun}

-- the rest of a text behind a parameter
pub record InOthers (d n : ℕ) (ts : List Token) : Type 0 where
  pub others : List Parameter
  pub fits : ParametersFit d n others
  pub rest : List Token
  pub body : InDeclarations d n 0 rest
  pub tokens : ts ≡ spelled (other_parameters others) ++ token.Outside outside.BraceOpen ∷ rest

-- the rest of a text from a parameter on
pub record InParameters (d n : ℕ) (ts : List Token) : Type 0 where
  pub first : Parameter
  pub fit : ParameterFits d n first
  pub rest : List Token
  pub others : InOthers d n rest
  pub tokens : ts ≡ spelled (parameter_elements first) ++ rest

-- the rest of a text behind an array's extent
pub record InExtents (d n : ℕ) (ts : List Token) : Type 0 where
  pub shapes : List Tree
  pub fits : AllFit d n shapes
  pub rest : List Token
  pub others : InOthers d n rest
  pub tokens : ts ≡ spelled (extents shapes) ++ rest

pub one_more : (d n : ℕ) (ts : List Token) → InParameters d n ts → InOthers d n (comma ∷ ts)
one_more d n ts k =
    record {
      others = k.first ∷ k.others.others;
      fits = (k.fit, k.others.fits);
      rest = k.others.rest;
      body = k.others.body;
      tokens =
          rw (k.tokens, k.others.tokens, spelled_append (parameter_elements k.first) (other_parameters k.others.others))
          (simp append_assoc);
    }

pub no_extent : (d n : ℕ) (ts : List Token) → InOthers d n ts → InExtents d n ts
no_extent d n ts k = record { shapes = []; fits = tt; rest = ts; others = k; tokens = refl }

pub body_open : (d n : ℕ) (es : List Element) → 1 ≤ d → Ends d n want.BodyOpen 0 0 es
    → InOthers d n (token.Close ∷ spelled es)
body_open d n (sign (token.Outside outside.BraceOpen) m ∷ es) k p =
    record {
      others = [];
      fits = tt;
      rest = spelled es;
      body = begun d n level.Declarations 0 es k p.1;
      tokens = refl;
    }
body_open d n _ k p = absurd p

mutual
  pub parameter : (d n : ℕ) (es : List Element) → 1 ≤ d → Ends d n want.Parameter 0 0 es
      → InParameters d n (spelled es)
  parameter d n (sign (token.Outside outside.Int64) m ∷ es) k p = number_name d n es k p.1
  parameter d n (sign (token.Unsigned w) m ∷ es) k p = array_name d n w es k p.1
  parameter d n _ k p = absurd p

  pub number_name : (d n : ℕ) (es : List Element) → 1 ≤ d → Ends d n want.NumberName 0 0 es
      → InParameters d n (token.Outside outside.Int64 ∷ spelled es)
  number_name d n (sign token.Name m ∷ es) k p =
      record {
        first = number;
        fit = tt;
        rest = spelled es;
        others = after_parameter d n es k p.1;
        tokens = refl;
      }
  number_name d n _ k p = absurd p

  pub after_parameter : (d n : ℕ) (es : List Element) → 1 ≤ d → Ends d n want.AfterParameter 0 0 es
      → InOthers d n (spelled es)
  after_parameter d n (sign (token.Binary op.Comma) m ∷ es) k p =
      one_more d n (spelled es) (parameter d n es k p.1)
  after_parameter d n (sign token.Close m ∷ es) k p = body_open d n es k p.1
  after_parameter d n _ k p = absurd p

  pub array_name : (d n : ℕ) (w : Width) (es : List Element) → 1 ≤ d → Ends d n (want.ArrayName w) 0 0 es
      → InParameters d n (token.Unsigned w ∷ spelled es)
  array_name d n w (sign token.Name m ∷ es) k p = extent_open d n w es k p.1
  array_name d n w _ k p = absurd p

  pub extent_open : (d n : ℕ) (w : Width) (es : List Element) → 1 ≤ d → Ends d n want.ExtentOpen 0 0 es
      → InParameters d n (token.Unsigned w ∷ token.Name ∷ spelled es)
  extent_open d n w (sign token.OpenIndex m ∷ es) k p = first_extent d n w es k p.1
  extent_open d n w _ k p = absurd p

  pub first_extent : (d n : ℕ) (w : Width) (es : List Element) → 1 ≤ d → Ends d n (want.Inner role.Extent) 0 0 es
      → InParameters d n (token.Unsigned w ∷ token.Name ∷ token.OpenIndex ∷ spelled es)
  first_extent d n w (expression x token.CloseIndex ∷ es) k p =
      let r = after_extent d n es k p.1 in
      record {
        first = array w x r.shapes;
        fit = (p.0, r.fits);
        rest = r.rest;
        others = r.others;
        tokens = rw r.tokens (simp append_assoc);
      }
  first_extent d n w (expression x _ ∷ es) k p = absurd p.1
  first_extent d n w _ k p = absurd p

  pub after_extent : (d n : ℕ) (es : List Element) → 1 ≤ d → Ends d n want.AfterExtent 0 0 es
      → InExtents d n (spelled es)
  after_extent d n (sign token.OpenIndex m ∷ es) k p = other_extent d n es k p.1
  after_extent d n (sign (token.Binary op.Comma) m ∷ es) k p =
      no_extent d n (comma ∷ spelled es) (one_more d n (spelled es) (parameter d n es k p.1))
  after_extent d n (sign token.Close m ∷ es) k p =
      no_extent d n (token.Close ∷ spelled es) (body_open d n es k p.1)
  after_extent d n _ k p = absurd p

  pub other_extent : (d n : ℕ) (es : List Element) → 1 ≤ d → Ends d n (want.Inner role.Extent) 0 0 es
      → InExtents d n (token.OpenIndex ∷ spelled es)
  other_extent d n (expression x token.CloseIndex ∷ es) k p =
      let r = after_extent d n es k p.1 in
      record {
        shapes = x ∷ r.shapes;
        fits = (p.0, r.fits);
        rest = r.rest;
        others = r.others;
        tokens = rw r.tokens (simp append_assoc);
      }
  other_extent d n (expression x _ ∷ es) k p = absurd p.1
  other_extent d n _ k p = absurd p

-- the kernel that a text's elements spell
pub record IsKernel (d n : ℕ) (ts : List Token) : Type 0 where
  pub kernel : Kernel
  pub spells : Spells d n ts kernel

-- one block is open, the kernel's own
pub alone : (d n : ℕ) (inner : Items) (outer : List Items) (ts : List Token) → length outer ≡ 0
    → ts ≡ spelled (all_elements inner) ++ end_tokens outer → ts ≡ spelled (all_elements inner) ++ brace ∷ []
alone d n inner [] ts c e = e
alone d n inner (is ∷ iss) ts c e = absurd (omega arith)

pub from_parameters : (d n : ℕ) (ts : List Token) → InParameters d n ts
    → IsKernel d n (token.Outside outside.Void ∷ token.Name ∷ token.Open ∷ ts)
from_parameters d n ts k =
    let o = k.others in
    let b = o.body in
    let i = b.block in
    let last = alone d n i.inner i.outer b.rest i.count i.tokens in
    let items = all_elements i.inner ++ ends ∷ [] in
    let body = declarations b.declared ++ items in
    let kernel : Kernel = record { first = k.first; others = o.others; declared = b.declared; items = i.inner } in
    record {
      kernel = kernel;
      spells =
          record {
            fits = record { first = k.fit; others = o.fits; items = i.fit };
            tokens =
                rw (
                  k.tokens,
                  o.tokens,
                  b.tokens,
                  last,
                  spelled_append (parameter_elements k.first) (other_parameters o.others ++ begins ∷ body),
                  spelled_append (other_parameters o.others) (begins ∷ body),
                  spelled_append (declarations b.declared) items,
                  spelled_append (all_elements i.inner) (ends ∷ []),
                ) refl;
          };
    }

pub parameters_open : (d n : ℕ) (es : List Element) → 1 ≤ d → Ends d n want.ParametersOpen 0 0 es
    → IsKernel d n (token.Outside outside.Void ∷ token.Name ∷ spelled es)
parameters_open d n (sign token.Open m ∷ es) k p = from_parameters d n (spelled es) (parameter d n es k p.1)
parameters_open d n _ k p = absurd p

pub kernel_name : (d n : ℕ) (es : List Element) → 1 ≤ d → Ends d n want.KernelName 0 0 es
    → IsKernel d n (token.Outside outside.Void ∷ spelled es)
kernel_name d n (sign token.Name m ∷ es) k p = parameters_open d n es k p.1
kernel_name d n _ k p = absurd p

pub is_kernel : (d n : ℕ) (es : List Element) → 1 ≤ d → Ends d n want.Void 0 0 es → IsKernel d n (spelled es)
is_kernel d n (sign (token.Outside outside.Void) m ∷ es) k p = kernel_name d n es k p.1
is_kernel d n _ k p = absurd p
