-- The formulas that the code's values stand for, at each kind.
use Rattle.scop_syntax.proofs.Common.{◌≡◌, ℕ, Vec, Global, map, fold, ap, sym, ◌∙◌, Box}
use Rattle.scop_expressions.specs.Op.{Op}
use Rattle.scop_expressions.specs.Op.TheVariants as op
use Rattle.scop_expressions.specs.declared.token.Sign.{Sign}
use Rattle.scop_expressions.specs.Width.{Width}
use Rattle.scop_roles.specs.declared.formula.Meaning.{Meaning}
use Rattle.scop_roles.specs.declared.formula.Argument.{Argument}
use Rattle.scop_roles.specs.declared.formula.Formula.{Formula as Code}
use Rattle.scop_roles.specs.declared.formula.Formula.TheVariants.{Index, BareCall, Unary, Cast}
use Rattle.scop_roles.specs.declared.formula.Formula.TheVariants.{Commas, Binary}
use Rattle.scop_roles.specs.declared.formula.Formula.TheVariants.{rolls-Index, rolls-BareCall, rolls-Unary}
use Rattle.scop_roles.specs.declared.formula.Formula.TheVariants.{rolls-Cast, rolls-Commas, rolls-Binary}
use Rattle.scop_roles.specs.declared.formula.Formula.TheFolds.{fold-Argument, fold-roll-Argument, fold-roll-Formula}
use Rattle.scop_roles.specs.declared.formula.Formula.TheOpen.{Formula-F}
use Rattle.scop_roles.specs.Formula.{Formula, index, bare_call, unary, cast, binary}
use Rattle.scop_roles.specs.Formula.{with_argument, argument_of, argument_step, formula_of, formula_step}

pub formula_index : (p : Box Code) (is : Vec Code Global) (i : Box Code)
    → formula_of (Index p is i) ≡ index (fold index (formula_of p.value) (map formula_of is.items)) (formula_of i.value)
formula_index p is i =
    ap formula_of (sym (rolls-Index p is i))
    ∙ fold-roll-Formula Formula (Formula × ℕ) formula_step argument_step (Formula-F.Index p is i)

pub formula_bare_call : (m : Meaning) (at : ℕ) → formula_of (BareCall m at) ≡ bare_call m at
formula_bare_call m at =
    ap formula_of (sym (rolls-BareCall m at))
    ∙ fold-roll-Formula Formula (Formula × ℕ) formula_step argument_step (Formula-F.BareCall m at)

pub formula_unary : (s : Sign) (f : Box Code) (at : ℕ) → formula_of (Unary s f at) ≡ unary s (formula_of f.value) at
formula_unary s f at =
    ap formula_of (sym (rolls-Unary s f at))
    ∙ fold-roll-Formula Formula (Formula × ℕ) formula_step argument_step (Formula-F.Unary s f at)

pub formula_cast : (w : Width) (f : Box Code) (at : ℕ) → formula_of (Cast w f at) ≡ cast w (formula_of f.value) at
formula_cast w f at =
    ap formula_of (sym (rolls-Cast w f at))
    ∙ fold-roll-Formula Formula (Formula × ℕ) formula_step argument_step (Formula-F.Cast w f at)

argument_is : (a : Argument) → fold-Argument Formula (Formula × ℕ) formula_step argument_step a ≡ argument_of a
argument_is a =
    fold-roll-Argument Formula (Formula × ℕ) formula_step argument_step record { value = a.value; comma = a.comma }

pub formula_commas : (f : Box Code) (gs : Vec Argument Global) (g : Box Code) (at : ℕ)
    → formula_of (Commas f gs g at)
    ≡ binary op.Comma (fold with_argument (formula_of f.value) (map argument_of gs.items)) (formula_of g.value) at
formula_commas f gs g at =
    ap formula_of (sym (rolls-Commas f gs g at))
    ∙ (fold-roll-Formula Formula (Formula × ℕ) formula_step argument_step (Formula-F.Commas f gs g at)
    ∙ (λ k. binary op.Comma (fold with_argument (formula_of f.value) (map (λ a. (argument_is a) k) gs.items))
    (formula_of g.value) at))

pub formula_binary : (o : Op) (f g : Box Code) (at : ℕ)
    → formula_of (Binary o f g at) ≡ binary o (formula_of f.value) (formula_of g.value) at
formula_binary o f g at =
    ap formula_of (sym (rolls-Binary o f g at))
    ∙ fold-roll-Formula Formula (Formula × ℕ) formula_step argument_step (Formula-F.Binary o f g at)
