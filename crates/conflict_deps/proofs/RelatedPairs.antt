-- A conflict binds no quotient, so a point of its system is a pair that it relates.
use Rattle.conflict_deps.proofs.Common.{◌≡◌, ℕ, ◌+◌, ℤ, List, [], sym, ◌∙◌, ap, pos, arith, All, All-nil, ◌≤ℤ◌, Program}
use Rattle.conflict_deps.proofs.Common.{Visit, Dependence, KernelModel, IsPoint, IsEnd, HasParts}
use Rattle.scop_syntax.proofs.Common.{instance}
use Rattle.iteration_domains.specs.Dependence.{binds_in}
use Rattle.scop_syntax.specs.Limits.{AreInRange}
use Rattle.iteration_domains.specs.Related.{Relates}

-- its dimensions are the turns of both ends
pub dimensions_are : (model : KernelModel) (d : Dependence) → HasParts model d
    → d.system.dimensions ≡ d.source.loops + d.target.loops
dimensions_are model d h =
    ap (λ (z : Dependence). z.system.dimensions) h.is
    ∙ sym (ap (λ (z : Dependence). z.source.loops + z.target.loops) h.is)

pub none_bound : (model : KernelModel) (d : Dependence) → HasParts model d → binds_in d ≡ 0
none_bound model d h = let e = dimensions_are model d h in omega (arith, e)

-- the pair of a dependence that binds no quotient
pub pair_of : (program : Program) (params : List ℤ) (d : Dependence) (v w : Visit) (a b : ℕ) → AreInRange params
    → IsPoint program params d v.turns w.turns → IsEnd d.source v a → IsEnd d.target w b
    → All (λ z. pos 0 ≤ℤ z) v.turns → All (λ z. pos 0 ≤ℤ z) w.turns → binds_in d ≡ 0
    → Relates params d (instance v) (instance w)
pair_of program params d v w a b range p e f x y none =
    record {
      range = range;
      source = sym e.statement;
      target = sym f.statement;
      source_size = p.source;
      target_size = p.target;
      source_from_0 = x;
      target_from_0 = y;
      bound = [];
      bound_size = sym none;
      bound_from_0 = All-nil (λ (z : ℤ). pos 0 ≤ℤ z);
      equalities = p.holds.0;
      rows = p.holds.1;
    }
