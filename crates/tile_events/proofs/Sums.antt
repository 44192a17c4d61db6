-- A cell to which its writers add holds what it held at first and their addends, modulo 2^64.
use Rattle.scop_syntax.proofs.Common.{◌≡◌, ℕ, zero, suc, ◌+◌, ◌%◌, ◌^◌, ◌<◌, ◌&&◌, Bool, true, false, get_or, ap, sym}
use Rattle.scop_syntax.proofs.Common.{refl, ◌∙◌, arith, nat_eq, if◌then◌else◌, eqb-true, mod-eq_of_lt}
use Rattle.std.proofs.Math.Nat.{mod-add-mod}
use Rattle.tile_events.specs.Plan.{Plan, updated, stored, words_of, count_of}
use Rattle.tile_events.specs.Core.{State}
use Rattle.tile_events.specs.Sound.{is_done, Sound}
use Rattle.tile_events.specs.Sums.{sum_of}

sums : (p : Plan) (F : ℕ → Bool) (n c : ℕ) → p.adds c ≡ true → p.initial c < 18446744073709551616
    → words_of p F n c ≡ (p.initial c + sum_of p F n c) % 2 ^ 64
sums p F zero c adds fits = sym (ap (λ (n : ℕ). n % 2 ^ 64)
    (let e : p.initial c + 0 ≡ p.initial c = omega arith in e) ∙ mod-eq_of_lt (omega (arith, fits)))
sums p F (suc n) c adds fits = by_test (sums p F n c adds fits) (F n && nat_eq (p.written n) c)
  where
    by_test : words_of p F n c ≡ (p.initial c + sum_of p F n c) % 2 ^ 64 → (b : Bool)
        → (if b then updated (p.adds c) (words_of p F n c) (stored p n) else words_of p F n c)
        ≡ (p.initial c + (if b then sum_of p F n c + stored p n else sum_of p F n c)) % 2 ^ 64
    by_test ih true =
        rw (adds, ih) (mod-add-mod (p.initial c + sum_of p F n c) (2 ^ 64) (stored p n)
        ∙ ap (λ (m : ℕ). m % 2 ^ 64)
        (let e : p.initial c + sum_of p F n c + stored p n ≡ p.initial c + (sum_of p F n c + stored p n) =
        omega arith in e))
    by_test ih false = ih

pub cell_sums : (p : Plan) (s : State) (c : ℕ) → Sound p s → c < p.cells → p.adds c ≡ true
    → p.initial c < 18446744073709551616
    → get_or s.cells c 0 ≡ (p.initial c + sum_of p (is_done p s) p.places c) % 2 ^ 64
cell_sums p s c sound less adds fits = sound.cells c less ∙ sums p (is_done p s) p.places c adds fits

-- a cell that is 0 at first, and to which each adds 1, counts those that are done
pub cell_counts : (p : Plan) (s : State) (c : ℕ) → Sound p s → c < p.cells → p.adds c ≡ true → p.initial c ≡ 0
    → ((i : ℕ) → i < p.places → p.written i ≡ c → stored p i ≡ 1)
    → get_or s.cells c 0 ≡ count_of (λ i. is_done p s i && nat_eq (p.written i) c) p.places % 2 ^ 64
cell_counts p s c sound less adds none one =
    let n = ones p (is_done p s) p.places c one in
    cell_sums p s c sound less adds (omega (arith, none)) ∙ ap (λ (m : ℕ). m % 2 ^ 64) (omega (arith, none, n))
  where
    ones : (p : Plan) (F : ℕ → Bool) (n c : ℕ) → ((i : ℕ) → i < n → p.written i ≡ c → stored p i ≡ 1)
        → sum_of p F n c ≡ count_of (λ i. F i && nat_eq (p.written i) c) n
    ones p F zero c one = refl
    ones p F (suc n) c one =
        by_test (ones p F n c (λ i l. one i (omega (arith, l)))) (F n) (nat_eq (p.written n) c) refl
      where
        by_test : sum_of p F n c ≡ count_of (λ i. F i && nat_eq (p.written i) c) n → (f b : Bool)
            → nat_eq (p.written n) c ≡ b
            → (if f && b then sum_of p F n c + stored p n else sum_of p F n c)
            ≡ (if f && b then suc (count_of (λ i. F i && nat_eq (p.written i) c) n)
            else count_of (λ i. F i && nat_eq (p.written i) c) n)
        by_test ih true true e = let o = one n (omega arith) (eqb-true (p.written n) c e) in omega (arith, ih, o)
        by_test ih true false e = ih
        by_test ih false b e = ih
