-- The longest sign in front of a text is the one that its first three bytes tell.
use Rattle.std.proofs.Common.{◌≡◌, ◌∙◌, sym, ap, subst, refl, ℕ, zero, suc, ◌<◌, ◌≤◌, Bool, true, false, ◌&&◌}
use Rattle.std.proofs.Common.{if◌then◌else◌, [], ◌∷◌, ◌++◌, length, get_or, inl, inr, arith, Option, Some, None, ◌==◌}
use Rattle.std.proofs.lemmas.Bool.Decides.{nat_tests}
use Rattle.scop_tokens.specs.declared.Token.{Token as Kind}
use Rattle.scop_lexer.specs.Bytes.{Text}
use Rattle.scop_lexer.specs.Signs.{single, with_equal, doubled, doubled_with_equal, sign_or, sign_stands}
use Rattle.scop_lexer.specs.Signs.{sign_stands_at, IsWritten, BeginsWith, StandsAsSign}
use Rattle.scop_lexer.specs.declared.token.FaultKind.TheVariants.{Character}
use Rattle.scop_lexer.specs.declared.stand.Stand.{Stand}
use Rattle.scop_lexer.specs.declared.stand.Stand.TheVariants.{End, Gap, Lexeme, Wrong}

-- a token of at least m bytes
abbrev IsLong : ℕ → Stand → Type 0
IsLong m (Lexeme kind value n) = m ≤ n
IsLong m End = ⊥
IsLong m (Gap n) = ⊥
IsLong m (Wrong kind n) = ⊥

-- a longer sign may stand in front
long_or : (m n : ℕ) (found : Option Kind) (otherwise : Stand) → m ≤ n → IsLong m otherwise
    → IsLong m (sign_or found n otherwise)
long_or m n (Some sign) otherwise within long = within
long_or m n None otherwise within long = long

-- the sign of one byte, where no longer one is read
last_sign : ℕ → Stand
last_sign a = sign_or (single a) 1 (Wrong Character 0)

-- the sign of a byte and `=`, or a shorter one
equal_sign : ℕ → ℕ → Stand
equal_sign a b = sign_or (if b == 61 then with_equal a else None) 2 (last_sign a)

-- the sign of a byte twice, or another
two_sign : ℕ → ℕ → Stand
two_sign a b = sign_or (if b == a then doubled a else None) 2 (equal_sign a b)

one : (a b c : ℕ) (s : Kind) → single a ≡ Some s → IsLong 1 (sign_stands_at a b c)
unfolding last_sign equal_sign two_sign
one a b c s h =
    let last : IsLong 1 (last_sign a) = rw h (omega arith) in
    let equal = long_or 1 2 (if b == 61 then with_equal a else None) (last_sign a) (omega arith) last in
    let two = long_or 1 2 (if b == a then doubled a else None) (equal_sign a b) (omega arith) equal in
    long_or 1 3 (if b == a && c == 61 then doubled_with_equal a else None) (two_sign a b) (omega arith) two

equal : (a b c : ℕ) (s : Kind) → (b == 61) ≡ true → with_equal a ≡ Some s → IsLong 2 (sign_stands_at a b c)
unfolding last_sign equal_sign two_sign
equal a b c s e h =
    let equal : IsLong 2 (equal_sign a b) = rw (e, h) (omega arith) in
    let two = long_or 2 2 (if b == a then doubled a else None) (equal_sign a b) (omega arith) equal in
    long_or 2 3 (if b == a && c == 61 then doubled_with_equal a else None) (two_sign a b) (omega arith) two

two : (a b c : ℕ) (s : Kind) → (b == a) ≡ true → doubled a ≡ Some s → IsLong 2 (sign_stands_at a b c)
unfolding last_sign equal_sign two_sign
two a b c s e h =
    let two : IsLong 2 (two_sign a b) = rw (e, h) (omega arith) in
    long_or 2 3 (if b == a && c == 61 then doubled_with_equal a else None) (two_sign a b) (omega arith) two

three : (a b c : ℕ) (s : Kind) → (b == a && c == 61) ≡ true → doubled_with_equal a ≡ Some s
    → IsLong 3 (sign_stands_at a b c)
three a b c s e h = rw (e, h) (omega arith)

-- a sign in front is told, or a longer one
found : (w : Text) (s : Kind) (rest : Text) → IsWritten w s → IsLong (length w) (sign_stands (w ++ rest))
found [] s rest h = absurd h
found (a ∷ []) s rest h = one a (get_or rest 0 0) (get_or rest 1 0) s h
found (a ∷ b ∷ []) s rest (inl h) = equal a b (get_or rest 0 0) s (grind (arith, nat_tests, h.0)) h.1
found (a ∷ b ∷ []) s rest (inr h) = two a b (get_or rest 0 0) s (grind (arith, nat_tests, h.0)) h.1
found (a ∷ b ∷ c ∷ []) s rest h = three a b c s (grind (arith, nat_tests, h.0, h.1)) h.2
found (a ∷ b ∷ c ∷ d ∷ w) s rest h = absurd h

-- which sign is told, and how many bytes it has
or_told : (f : Option Kind) (n : ℕ) (x : Stand) (s : Kind) (v m : ℕ) (P : Type 0) → (f ≡ Some s → n ≡ m → P)
    → (x ≡ Lexeme s v m → P) → sign_or f n x ≡ Lexeme s v m → P
or_told (Some t) n x s v m P here later h = here (cc h) (cc h)
or_told None n x s v m P here later h = later h

-- the first bytes of a text, where the last of them is not 0
front-one : (text : Text) → 0 < get_or text 0 0 → (rest : Text) × (text ≡ get_or text 0 0 ∷ rest)
front-one [] h = absurd (omega (arith, h))
front-one (a ∷ rest) h = (rest, refl)

front-two : (text : Text) → 0 < get_or text 1 0 → (rest : Text) × (text ≡ get_or text 0 0 ∷ get_or text 1 0 ∷ rest)
front-two [] h = absurd (omega (arith, h))
front-two (a ∷ []) h = absurd (omega (arith, h))
front-two (a ∷ b ∷ rest) h = (rest, refl)

front-three : (text : Text) → 0 < get_or text 2 0
    → (rest : Text) × (text ≡ get_or text 0 0 ∷ get_or text 1 0 ∷ get_or text 2 0 ∷ rest)
front-three [] h = absurd (omega (arith, h))
front-three (a ∷ []) h = absurd (omega (arith, h))
front-three (a ∷ b ∷ []) h = absurd (omega (arith, h))
front-three (a ∷ b ∷ c ∷ rest) h = (rest, refl)

-- a sign that is there under a test
under : (test : Bool) (f : Option Kind) (s : Kind) → (if test then f else None) ≡ Some s
    → (test ≡ true) × (f ≡ Some s)
under true f s h = (refl, h)
under false f s h = absurd (cc h)

-- no sign has a byte 0
single_byte : (a : ℕ) (s : Kind) → single a ≡ Some s → 0 < a
single_byte zero s h = absurd (cc h)
single_byte (suc a) s h = omega arith

pub doubled_byte : (a : ℕ) (s : Kind) → doubled a ≡ Some s → 0 < a
doubled_byte zero s h = absurd (cc h)
doubled_byte (suc a) s h = omega arith

-- the sign stands in front of the text, written with m bytes
Stands : Text → Kind → ℕ → Type 0
Stands text s m = (w : Text) × IsWritten w s × BeginsWith w text × (m ≡ length w)

stands-one : (text : Text) (s : Kind) (m : ℕ) → single (get_or text 0 0) ≡ Some s → 1 ≡ m → Stands text s m
unfolding Stands
stands-one text s m h n = (get_or text 0 0 ∷ [], h, front-one text (single_byte (get_or text 0 0) s h), sym n)

stands-two : (text : Text) (a b : ℕ) (s : Kind) (m : ℕ) → get_or text 0 0 ≡ a → get_or text 1 0 ≡ b → 0 < b
    → IsWritten (a ∷ b ∷ []) s → 2 ≡ m → Stands text s m
unfolding Stands
stands-two text a b s m first second some written n =
    let front = front-two text (omega (arith, second, some)) in
    let same : text ≡ a ∷ b ∷ front.0 = front.1 ∙ (ap (λ x. x ∷ get_or text 1 0 ∷ front.0) first
    ∙ ap (λ x. a ∷ x ∷ front.0) second) in
    (a ∷ b ∷ [], written, (front.0, same), sym n)

stands-three : (text : Text) (a : ℕ) (s : Kind) (m : ℕ) → get_or text 0 0 ≡ a → get_or text 1 0 ≡ a
    → get_or text 2 0 ≡ 61 → doubled_with_equal a ≡ Some s → 3 ≡ m → Stands text s m
unfolding Stands
stands-three text a s m first second third h n =
    let front = front-three text (omega (arith, third)) in
    let same : text ≡ a ∷ a ∷ 61 ∷ front.0 =
    front.1 ∙ (ap (λ x. x ∷ get_or text 1 0 ∷ get_or text 2 0 ∷ front.0) first
    ∙ (ap (λ x. a ∷ x ∷ get_or text 2 0 ∷ front.0) second ∙ ap (λ x. a ∷ a ∷ x ∷ front.0) third)) in
    (a ∷ a ∷ 61 ∷ [], (refl, refl, h), (front.0, same), sym n)

-- a sign that is told stands in front, with its own length
told : (text : Text) (s : Kind) (v m : ℕ) → sign_stands text ≡ Lexeme s v m → Stands text s m
unfolding last_sign equal_sign two_sign
told text s v m h =
    let a = get_or text 0 0 in
    let b = get_or text 1 0 in
    let c = get_or text 2 0 in
    let goal = Stands text s m in
    let on_one = or_told (single a) 1 (Wrong Character 0) s v m goal (stands-one text s m) (λ k. absurd (cc k)) in
    let on_equal = or_told (if b == 61 then with_equal a else None) 2 (last_sign a) s v m goal (λ f n.
    let u = under (b == 61) (with_equal a) s f in
    stands-two text a 61 s m refl (grind (arith, nat_tests, u.0)) (omega arith) (inl (refl, u.1)) n) on_one in
    let on_two = or_told (if b == a then doubled a else None) 2 (equal_sign a b) s v m goal (λ f n.
    let u = under (b == a) (doubled a) s f in
    stands-two text a a s m refl (grind (arith, nat_tests, u.0)) (doubled_byte a s u.1) (inr (refl, u.1)) n) on_equal in
    or_told (if b == a && c == 61 then doubled_with_equal a else None) 3 (two_sign a b) s v m goal (λ f n.
    let u = under (b == a && c == 61) (doubled_with_equal a) s f in
    stands-three text a s m refl (grind (arith, nat_tests, u.0)) (grind (arith, nat_tests, u.0)) u.1 n) on_two h

-- a sign is worth nothing; else a byte that is none
IsSignStand : Stand → Type 0
IsSignStand (Lexeme s v n) = v ≡ 0
IsSignStand (Wrong Character n) = n ≡ 0
IsSignStand other = ⊥

sign_or-shape : (f : Option Kind) (n : ℕ) (x : Stand) → IsSignStand x → IsSignStand (sign_or f n x)
unfolding IsSignStand
sign_or-shape (Some s) n x h = refl
sign_or-shape None n x h = h

signs-shape : (text : Text) → IsSignStand (sign_stands text)
unfolding last_sign equal_sign two_sign IsSignStand
signs-shape text =
    let a = get_or text 0 0 in
    let b = get_or text 1 0 in
    let c = get_or text 2 0 in
    sign_or-shape (if b == a && c == 61 then doubled_with_equal a else None) 3 (two_sign a b)
    (sign_or-shape (if b == a then doubled a else None) 2 (equal_sign a b)
    (sign_or-shape (if b == 61 then with_equal a else None) 2 (last_sign a)
    (sign_or-shape (single a) 1 (Wrong Character 0) refl)))

-- a sign that the text begins with is told, or a longer one
long-here : (text w : Text) (s : Kind) → IsWritten w s → BeginsWith w text → IsLong (length w) (sign_stands text)
long-here text w s written begins = subst (λ t. IsLong (length w) (sign_stands t)) (sym begins.1)
    (found w s begins.0 written)

stands-as : (text : Text) (x : Stand) → sign_stands text ≡ x → IsSignStand x → StandsAsSign text x
unfolding IsSignStand Stands
stands-as text (Lexeme s v n) is shape =
    let here = told text s v n is in (
      here.0,
      (
        here.1,
        here.2,
        λ w other written begins.
            omega (arith, subst (IsLong (length w)) is (long-here text w other written begins), here.3),
      ),
      shape,
      here.3,
    )
stands-as text (Wrong Character n) is shape =
    (shape, λ w s written begins. subst (IsLong (length w)) is (long-here text w s written begins))
stands-as text other is shape = absurd shape

-- what stands in front of a text is its longest sign, or it has none
pub longest : (text : Text) → StandsAsSign text (sign_stands text)
longest text = stands-as text (sign_stands text) refl (signs-shape text)
