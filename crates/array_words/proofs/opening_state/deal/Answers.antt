use Rattle.scop_syntax.proofs.Common.{◌≡◌, ℕ, arith, subst, sym}
use Rattle.array_words.specs.Seats.{IsRest}
use Rattle.array_words.proofs.opening_state.deal.Goals as goal

pub split-seat-requires-clause-more : goal.split-seat-requires-clause-more
split-seat-requires-clause-more c =
    let n = c.loop.invariant.count in let a = c.loop.invariant.at in omega (arith, n, a)

pub loop-preserved : goal.loop-preserved
loop-preserved c =
    let i = c.loop.invariant in
    let r = c.split-seat.ensures.rest in
    let p = r.parts in
    let n = i.count in
    let a = i.at in
    let l = c.in_ok-push_pass.ensures.count in record {
      rest = subst (λ (k : ℕ). IsRest c.args.words.now k c.split-seat.new.rest) (sym p) r;
      unused = c.in_ok-push_pass.ensures.unused i.unused;
      some = omega (arith, n, a, p);
      count = omega (arith, n, a, p, l);
      at = omega (arith, a, l);
    }

pub push_pass-requires-2 : goal.push_pass-requires-2
push_pass-requires-2 c =
    let i = c.loop.invariant in
    let n = i.count in
    let a = i.at in
    let s = i.some in
    let one : c.loop.rest.me.0.parts ≡ 1 = omega (arith, n, a, s) in
    subst (λ (k : ℕ). IsRest c.args.words.now k c.loop.rest) one i.rest

pub returns-clause-unused : goal.returns-clause-unused
returns-clause-unused c = c.in_ok-push_pass-2.ensures.unused c.loop.invariant.unused

pub returns-clause-count : goal.returns-clause-count
returns-clause-count c =
    let i = c.loop.invariant in
    let n = i.count in
    let a = i.at in
    let s = i.some in
    let l = c.in_ok-push_pass-2.ensures.count in
    omega (arith, n, a, s, l)
