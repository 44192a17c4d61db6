-- What goes on and what ends in the determined run, read from the one outcome.
use Rattle.scop_syntax.proofs.Common.{ℕ, ◌<◌, List, sym, ap, subst, inl, inr, length}
use Rattle.schedule_rows.specs.Items.{Block}
use Rattle.iteration_domains.specs.Dependence.{Dependence}
use Rattle.schedule_rows.specs.Next.{State, Restricts, Uncuts}
use Rattle.schedule_rows.specs.steps.Moves.{Goes, Ends}
use Rattle.schedule_rows.specs.Outcomes.{Outcome, goes, ends, no_row, no_order, large, Next}

abbrev state_in : State → Outcome → State
state_in d (goes t) = t
state_in d (ends blocks) = d
state_in d no_row = d
state_in d (no_order k) = d
state_in d (large k) = d

abbrev blocks_in : List Block → Outcome → List Block
blocks_in d (goes t) = d
blocks_in d (ends blocks) = blocks
blocks_in d no_row = d
blocks_in d (no_order k) = d
blocks_in d (large k) = d

pub next_goes : (m : ℕ) (loops : List ℕ) (s t : State) → Next m loops s (goes t) → Goes m loops s t
next_goes m loops s t (inl (f, (l, r, inl (e, q)))) = absurd cc
next_goes m loops s t (inl (f, (l, r, inr (e, (numbers, n, inl (g, q)))))) = absurd cc
next_goes m loops s t (inl (f, (l, r, inr (e, (numbers, n, inr (k, g, h, q)))))) = absurd cc
next_goes m loops s t (inr (f, inl (r, least, inl (within, (p, iff, q))))) =
    let e = ap (state_in t) q in
    inl (record {
      row = record { row = r; parallel = p };
      more = f;
      least = least;
      within = within;
      parallel = iff;
      closed = ap (λ (z : State). z.closed) e;
      rows = ap (λ (z : State). z.rows) e;
      remaining = ap (λ (z : State). z.remaining) e;
    })
next_goes m loops s t (inr (f, inl (r, least, inr (within, q)))) = absurd cc
next_goes m loops s t (inr (f, inr (none, inl (some, (kept, r, q))))) =
    let e = ap (state_in t) q in
    inr (inl (record {
      more = f;
      none = none;
      some = some;
      closed = ap (λ (z : State). z.closed) e;
      rows = ap (λ (z : State). z.rows) e;
      remaining = subst (λ (l : List Dependence). Restricts m s.rows s.remaining l)
          (sym (ap (λ (z : State). z.remaining) e)) r;
    }))
next_goes m loops s t (inr (f, inr (none, inr (empty, (numbers, n, (kept, u, inl (fewer, q))))))) =
    let e = ap (state_in t) q in
    let same = sym (ap (λ (z : State). z.remaining) e) in
    inr (inr (record {
      numbers = numbers;
      more = f;
      none = none;
      empty = empty;
      numbering = n;
      closed = ap (λ (z : State). z.closed) e;
      rows = ap (λ (z : State). z.rows) e;
      remaining = subst (λ (l : List Dependence). Uncuts numbers s.remaining l) same u;
      fewer = subst (λ (l : List Dependence). length l < length s.remaining) same fewer;
    }))
next_goes m loops s t (inr (f, inr (none, inr (empty, (numbers, n, (kept, u, inr (fewer, q))))))) = absurd cc

pub next_ends : (m : ℕ) (loops : List ℕ) (s : State) (blocks : List Block) → Next m loops s (ends blocks)
    → Ends m loops s blocks
next_ends m loops s blocks (inl (f, (l, r, inl (e, q)))) =
    inl (record {
      full = f;
      remaining = subst (λ (z : List Dependence). Restricts m s.rows s.remaining z) e r;
      blocks_are = ap (blocks_in blocks) q;
    })
next_ends m loops s blocks (inl (f, (l, r, inr (e, (numbers, n, inl (g, q)))))) =
    inr (record {
      left = l;
      numbers = numbers;
      full = f;
      remaining = r;
      some = e;
      numbering = n;
      single = g;
      blocks_are = ap (blocks_in blocks) q;
    })
next_ends m loops s blocks (inl (f, (l, r, inr (e, (numbers, n, inr (k, g, h, q)))))) = absurd cc
next_ends m loops s blocks (inr (f, inl (r, least, inl (within, (p, iff, q))))) = absurd cc
next_ends m loops s blocks (inr (f, inl (r, least, inr (within, q)))) = absurd cc
next_ends m loops s blocks (inr (f, inr (none, inl (some, (kept, r, q))))) = absurd cc
next_ends m loops s blocks (inr (f, inr (none, inr (empty, (numbers, n, (kept, u, inl (fewer, q))))))) =
    absurd cc
next_ends m loops s blocks (inr (f, inr (none, inr (empty, (numbers, n, (kept, u, inr (fewer, q))))))) =
    absurd cc
