-- Where a run ends, and what the state there stands for.
use Rattle.std.proofs.Common.{◌≡◌, ℕ, ◌≤◌, ◌&&◌, Bool, true, false, List, [], ◌∷◌, ◌++◌, refl, ap, ◌∙◌, append_assoc}
use Rattle.std.proofs.Common.{append-nil, arith, max, nat_le}
use Rattle.std.proofs.lemmas.Bool.Decides.{nat_tests}
use Rattle.scop_tokens.specs.declared.Token.{Token}
use Rattle.scop_expressions.specs.Machine.{State, Move, go, stops, step, fits, goes, run, Outcome, alive, stopped}
use Rattle.scop_expressions.specs.Machine.{deep}
use Rattle.scop_expressions.proofs.Runs.{run_goes}
use Rattle.scop_expressions.proofs.Shapes.{Stands, Keeps, keeps}

-- the run came to a token with the state before it, and does so within wider limits
pub record Stop (d n : ℕ) (first : State) (seen ts : List Token) (s : State) (t : Token) : Type 0 where
  pub front : List Token
  pub rest : List Token
  pub split : ts ≡ front ++ t ∷ rest
  pub run : (e m : ℕ) → d ≤ e → n ≤ m → (more : List Token) → run e m first (front ++ more) ≡ run e m s more
  pub stands : Stands s (seen ++ front) d
  pub used : s.used ≤ n

abbrev pub Reached : ℕ → ℕ → State → List Token → List Token → Outcome → Type 0
Reached d n first seen ts (alive s) = Stands s (seen ++ ts) d × (s.used ≤ n)
Reached d n first seen ts (stopped s) = (t : Token) × Stop d n first seen ts s t × (step s t ≡ stops)
Reached d n first seen ts (deep s t) =
    (next : State) × Stop d n first seen ts s t × (step s t ≡ go next) × (fits d n next ≡ false)

pub fits_bounds : (d n b u : ℕ) → (nat_le b d && nat_le u n) ≡ true → (b ≤ d) × (u ≤ n)
fits_bounds d n b u h = grind (arith, nat_tests)

-- what fits fits wider limits
pub fits_wider : (d n e m : ℕ) (s : State) → d ≤ e → n ≤ m → fits d n s ≡ true → fits e m s ≡ true
fits_wider d n e m s x y h = grind (arith, nat_tests)

-- one token in front
pub stop_later : (d n : ℕ) (s next : State) (seen : List Token) (t : Token) (ts : List Token) (last : State) (u : Token)
    → step s t ≡ go next → next.brackets ≤ d → next.used ≤ n
    → Stop d n next (seen ++ t ∷ []) ts last u → Stop d n s seen (t ∷ ts) last u
stop_later d n s next seen t ts last u e b k stop =
    record {
      front = t ∷ stop.front;
      rest = stop.rest;
      split = ap (λ (xs : List Token). t ∷ xs) stop.split;
      run = λ (c m : ℕ) (x : d ≤ c) (y : n ≤ m) (more : List Token).
          run_goes c m s next t (stop.front ++ more) e (omega arith) (omega arith) ∙ stop.run c m x y more;
      stands = simp append_assoc at stop.stands;
      used = stop.used;
    }

pub later : (d n : ℕ) (s next : State) (seen : List Token) (t : Token) (ts : List Token) (o : Outcome)
    → step s t ≡ go next → next.brackets ≤ d → next.used ≤ n
    → Reached d n next (seen ++ t ∷ []) ts o → Reached d n s seen (t ∷ ts) o
later d n s next seen t ts (alive last) e b k r = (simp append_assoc at r.0, r.1)
later d n s next seen t ts (stopped last) e b k r =
    (r.0, stop_later d n s next seen t ts last r.0 e b k r.1, r.2)
later d n s next seen t ts (deep last u) e b k r =
    (r.0, stop_later d n s next seen t ts last u e b k r.1, r.2, r.3)

-- a run that stands still
pub here : (d n : ℕ) (s : State) (seen : List Token) (t : Token) (ts : List Token) → Stands s seen d → s.used ≤ n
    → Stop d n s seen (t ∷ ts) s t
here d n s seen t ts k u =
    record {
      front = [];
      rest = ts;
      split = refl;
      run = λ (e m : ℕ) (x : d ≤ e) (y : n ≤ m) (more : List Token). refl;
      stands = rw append-nil k;
      used = u;
    }

pub reached_fits : (d n : ℕ) (s next : State) (seen : List Token) (t : Token) (ts : List Token) (x : Bool)
    → fits d n next ≡ x → step s t ≡ go next → Stands s seen d → s.used ≤ n
    → Stands next (seen ++ t ∷ []) (max d next.brackets)
    → (Stands next (seen ++ t ∷ []) d → next.used ≤ n → Reached d n next (seen ++ t ∷ []) ts (run d n next ts))
    → Reached d n s seen (t ∷ ts) (goes d n s t (go next) (λ next. run d n next ts))
reached_fits d n s next seen t ts false f e k u after more = rw f (next, here d n s seen t ts k u, e, f)
reached_fits d n s next seen t ts true f e k u after more =
    let b = fits_bounds d n next.brackets next.used f in
    let b0 = b.0 in
    let p = after.peak in
    let stands : Stands next (seen ++ t ∷ []) d =
    record {
      shape = after.shape;
      is = after.is;
      tokens = after.tokens;
      sound = after.sound;
      peak = omega arith;
    } in
    rw f (later d n s next seen t ts (run d n next ts) e b.0 b.1 (more stands b.1))

pub reached_step : (d n : ℕ) (s : State) (seen : List Token) (t : Token) (ts : List Token) (m : Move) → step s t ≡ m
    → Stands s seen d → s.used ≤ n → Keeps seen t d m
    → ((next : State) → Stands next (seen ++ t ∷ []) d → next.used ≤ n
    → Reached d n next (seen ++ t ∷ []) ts (run d n next ts))
    → Reached d n s seen (t ∷ ts) (goes d n s t m (λ next. run d n next ts))
reached_step d n s seen t ts (go next) e k u after more =
    reached_fits d n s next seen t ts (fits d n next) refl e k u after (more next)
reached_step d n s seen t ts stops e k u after more = (t, here d n s seen t ts k u, e)

pub reached : (d n : ℕ) (ts : List Token) (s : State) (seen : List Token) → Stands s seen d → s.used ≤ n
    → Reached d n s seen ts (run d n s ts)
reached d n [] s seen k u = (rw append-nil k, u)
reached d n (t ∷ ts) s seen k u =
    reached_step d n s seen t ts (step s t) refl k u (keeps s seen d t k)
    (λ (next : State) (k' : Stands next (seen ++ t ∷ []) d) (u' : next.used ≤ n).
    reached d n ts next (seen ++ t ∷ []) k' u')
