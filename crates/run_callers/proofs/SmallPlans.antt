-- Plans of which each place is a tile and a wave of its own, and the states at which both workers are idle.
use Rattle.scop_syntax.proofs.Common.{◌≡◌, ℕ, zero, suc, ◌<◌, inl, inr, [], ◌∷◌, get_or, refl, sym, arith, some}
use Rattle.scop_syntax.proofs.Common.{some-injective, get_elem?, In}
use Rattle.tile_events.specs.Core.{Worker, idle}
use Rattle.tile_events.specs.Example.{adding, adding_first, first, two}
use Rattle.tile_events.specs.Opening.{IsOpening}
use Rattle.tile_events.specs.Plan.{GoodPlan, IsDealt, Plan}

-- the plan with places as tiles and waves
abbrev pub single : Plan → Plan
single p = record two {
  places = p.places;
  cells = p.cells;
  tiles = p.places;
  written = p.written;
  read = p.read;
  adds = p.adds;
  value = p.value;
}

pub single_dealt : (p : Plan) → ((j : ℕ) → j < p.places → p.written j < p.cells)
    → ((j c : ℕ) → j < p.places → In c (p.read j) → c < p.cells) → IsDealt (single p)
single_dealt p written read = record {
  tile = λ j l. l;
  position = λ j l. omega arith;
  there = λ j l. refl;
  place = λ t k l m. l;
  its_tile = λ t k l m. refl;
  its_position = λ t k l m. omega (arith, m);
  early = λ w t l o. o;
  late = λ w t l o. o;
  written = written;
  read = read;
  gate = tt;
}

pub single_good : (p : Plan) → GoodPlan (single p)
single_good p = record {
  ordered = λ i j before less touch. ([], inr (i, omega (arith, before, less), refl, omega arith, before));
}

-- of two places only the second reads, and only cell 0
pub two_inside : (j c : ℕ) → j < two.places → In c (two.read j) → c < two.cells
two_inside zero c l i = absurd i
two_inside (suc j) c l (inl e) = omega (arith, e)
two_inside (suc j) c l (inr i) = absurd i

pub two_dealt : IsDealt two
two_dealt = single_dealt two (λ j l. l) two_inside

pub adding_dealt : IsDealt adding
adding_dealt = single_dealt adding (λ j l. omega arith) (λ j c l i. absurd i)

pub both_idle : (i : ℕ) (w : Worker) → get_elem? (idle ∷ idle ∷ []) i ≡ some w → w ≡ idle
both_idle zero w e = sym (some-injective idle w e)
both_idle (suc zero) w e = sym (some-injective idle w e)
both_idle (suc (suc i)) w e = absurd cc

pub two_opening : IsOpening two first
two_opening = record { claims = refl; finished = refl; idle = both_idle; wide = refl; cells = cells }
  where
    cells : (c : ℕ) → c < 2 → get_or first.cells c 0 ≡ 0
    cells zero l = refl
    cells (suc zero) l = refl
    cells (suc (suc c)) l = absurd (omega (arith, l))

pub adding_opening : IsOpening adding adding_first
adding_opening = record { claims = refl; finished = refl; idle = both_idle; wide = refl; cells = cells }
  where
    cells : (c : ℕ) → c < 1 → get_or adding_first.cells c 0 ≡ 0
    cells zero l = refl
    cells (suc c) l = absurd (omega (arith, l))
