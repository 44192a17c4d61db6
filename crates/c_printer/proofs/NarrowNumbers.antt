-- Numbers that 64 bits hold: floors and quotients, lists one by one, forms in the order of the tree.
use Rattle.scop_syntax.proofs.Common.{◌≡◌, ◌∙◌, ap, ap₂, sym, refl, ℕ, zero, suc, ◌+◌, ◌-◌, ◌<◌, ◌≤◌, Bool, true, false}
use Rattle.scop_syntax.proofs.Common.{pos, List, [], ◌∷◌, ◌++◌, length, take, drop, get_or, drop-cons, add-one}
use Rattle.scop_syntax.proofs.Common.{append-nil, arith, subst, ℤ, negsuc, neg_ℤ, ◌-ℤ◌, ◌<ℤ◌, ◌≤ℤ◌, ◌&&◌, Option, Some}
use Rattle.scop_syntax.proofs.Common.{None, if◌then◌else◌, ints, take-append-drop, drop_all, Affine, form_of, IsFloor}
use Rattle.scop_syntax.proofs.Common.{floor, floor_is, floor_unique, Head, ◌^◌, ◌+ℤ◌, ◌*ℤ◌, map, min, nat_lt, w64}
use Rattle.scop_syntax.proofs.Common.{FitsSigned, ltb-true, ltb-false, le-ltb, false_from_ne_true, length-map}
use Rattle.scop_syntax.proofs.Common.{get_or-map, none-some, same_Some}
use Rattle.std.specs.Prelude.{option_map}
use Rattle.std.proofs.lemmas.List.{append_assoc}
use Rattle.scop_lexer.specs.Bytes.{Text}
use Rattle.form_text.specs.Reading.{when}
use Rattle.form_text.specs.View.{nearest, nearest_form}
use Rattle.wide_math.proofs.Narrow.{product_at_most, product_at_least}
use Rattle.whole_numbers.proofs.Ring.{mul_distrib_left, mul_one_right}
use Rattle.c_printer.specs.Forms.{spread}
use Rattle.c_printer.specs.Reading.{is_narrow, are_narrow, narrowed, turned_back, quotient, quotients, turn_of}
use Rattle.c_printer.specs.steps.Reading.{narrow, narrow_list, form_from, turn_from}

-- what is a floor is the floor
pub floor_told : (a d q : ℤ) → pos 1 ≤ℤ d → IsFloor a d q → q ≡ floor a d
floor_told a d q some told =
    floor_unique a d q (floor a d) (omega (arith, ints, some)) told (floor_is a d (omega (arith, ints, some)))

-- what was read so far, in front of what is still read
abbrev pub in_front : List ℤ → Option (List ℤ) → Option (List ℤ)
in_front xs r = when r (λ ys. Some (xs ++ ys))

one_more : (all : List ℤ) (n : ℤ) (o : Option (List ℤ))
    → in_front (all ++ n ∷ []) o ≡ in_front all (when o (λ ns. Some (n ∷ ns)))
one_more all n None = refl
one_more all n (Some ns) = ap (λ (t : List ℤ). Some t) (append_assoc all (n ∷ []) ns)

pub narrow_more : (all next rest tail : List ℤ) (z n : ℤ) (whole : Option (List ℤ)) → rest ≡ z ∷ tail
    → next ≡ all ++ n ∷ [] → Some n ≡ narrow z → in_front all (narrow_list rest) ≡ whole
    → in_front next (narrow_list tail) ≡ whole
narrow_more all next rest tail z n whole e pushed is so_far =
    ap (λ (t : List ℤ). in_front t (narrow_list tail)) pushed
    ∙ (one_more all n (narrow_list tail)
    ∙ (ap (λ o. in_front all (when o (λ m. when (narrow_list tail) (λ ns. Some (m ∷ ns))))) is
    ∙ (ap (λ (t : List ℤ). in_front all (narrow_list t)) (sym e) ∙ so_far)))

pub narrow_stops : (all rest tail : List ℤ) (z : ℤ) (whole : Option (List ℤ)) → rest ≡ z ∷ tail → None ≡ narrow z
    → in_front all (narrow_list rest) ≡ whole → None ≡ whole
narrow_stops all rest tail z whole e is so_far =
    ap (λ o. in_front all (when o (λ m. when (narrow_list tail) (λ ns. Some (m ∷ ns))))) is
    ∙ (ap (λ (t : List ℤ). in_front all (narrow_list t)) (sym e) ∙ so_far)

pub narrow_ends : (all rest : List ℤ) (whole : Option (List ℤ)) → rest ≡ [] → in_front all (narrow_list rest) ≡ whole
    → Some all ≡ whole
narrow_ends all rest whole e so_far =
    ap (λ (t : List ℤ). Some t) (sym (append-nil all))
    ∙ (ap (λ (t : List ℤ). in_front all (narrow_list t)) (sym e) ∙ so_far)

-- the number at a place, and those behind it
pub number_ahead : (xs : List ℤ) (i : ℕ) → i < length xs → drop i xs ≡ get_or xs i (pos 0) ∷ drop (i + 1) xs
number_ahead xs i h =
    drop-cons xs i (pos 0) h ∙ ap (λ k. get_or xs i (pos 0) ∷ drop k xs) (sym (add-one i))

-- the quotient at a place, and those behind it
pub quotient_ahead : (s : ℤ) (xs zs : List ℤ) (count i : ℕ) → i < count → i < length xs → i < length zs
    → take (count - i) (quotients s (drop i xs) (drop i zs))
    ≡ quotient s (get_or zs i (pos 0) -ℤ get_or xs i (pos 0))
    ∷ take (count - (i + 1)) (quotients s (drop (i + 1) xs) (drop (i + 1) zs))
quotient_ahead s xs zs count i h hx hz =
    let e : count - i ≡ suc (count - (i + 1)) = omega (arith, h) in
    ap (λ n. take n (quotients s (drop i xs) (drop i zs))) e
    ∙ ap₂ (λ (us vs : List ℤ). take (suc (count - (i + 1))) (quotients s us vs)) (number_ahead xs i hx)
    (number_ahead zs i hz)

abbrev nothing : List ℤ
nothing = []

take_nothing : (n : ℕ) → take n nothing ≡ []
take_nothing zero = refl
take_nothing (suc n) = refl

over_nothing : (s : ℤ) (xs : List ℤ) → quotients s xs [] ≡ []
over_nothing s [] = refl
over_nothing s (x ∷ xs) = refl

-- none is left behind the last of either list, or of so many
pub quotients_past : (s : ℤ) (xs zs : List ℤ) (n i : ℕ) → length xs ≤ i
    → take n (quotients s (drop i xs) (drop i zs)) ≡ []
quotients_past s xs zs n i h =
    ap (λ (t : List ℤ). take n (quotients s t (drop i zs))) (drop_all i xs h) ∙ take_nothing n

pub quotients_behind : (s : ℤ) (xs zs : List ℤ) (n i : ℕ) → length zs ≤ i
    → take n (quotients s (drop i xs) (drop i zs)) ≡ []
quotients_behind s xs zs n i h =
    ap (λ (t : List ℤ). take n (quotients s (drop i xs) t)) (drop_all i zs h)
    ∙ (ap (take n) (over_nothing s (drop i xs)) ∙ take_nothing n)

-- quotients by a number with a sign
pub quotient_over : (s start number by first : ℤ) → by ≡ s → first ≡ start → pos 0 <ℤ by
    → narrow (floor (number -ℤ first) by) ≡ narrow (quotient s (number -ℤ start))
quotient_over s start number by first e f h = ap₂ (λ a d. narrow (floor (number -ℤ a) d)) f e ∙ at s (subst (λ d. pos 0 <ℤ d) e h)
  where
    at : (d : ℤ) → pos 0 <ℤ d → narrow (floor (number -ℤ start) d) ≡ narrow (quotient d (number -ℤ start))
    at (pos zero) k = absurd (omega (arith, ints, k))
    at (pos (suc n)) k = refl
    at (negsuc n) k = absurd (omega (arith, ints, k))

pub quotient_under : (s start number by first : ℤ) → by ≡ s → first ≡ start → by <ℤ pos 0
    → narrow (floor (first -ℤ number) (pos 0 -ℤ by)) ≡ narrow (quotient s (number -ℤ start))
quotient_under s start number by first e f h =
    ap₂ (λ a d. narrow (floor (a -ℤ number) (pos 0 -ℤ d))) f e ∙ at s (subst (λ d. d <ℤ pos 0) e h)
  where
    at : (d : ℤ) → d <ℤ pos 0 → narrow (floor (start -ℤ number) (pos 0 -ℤ d)) ≡ narrow (quotient d (number -ℤ start))
    at (pos n) k = absurd (omega (arith, ints, k))
    at (negsuc n) k =
        let turned : start -ℤ number ≡ neg_ℤ (number -ℤ start) = omega (arith, ints) in
        let size : pos 0 -ℤ negsuc n ≡ pos (suc n) = omega (arith, ints) in
        ap₂ (λ z d. narrow (floor z d)) turned size

-- lists one by one, and as a whole
listed_whole : (cs : List ℤ) → narrow_list cs ≡ (if are_narrow cs then Some cs else None)
listed_whole [] = refl
listed_whole (c ∷ cs) =
    ap (λ o. when (narrow c) (λ n. when o (λ ns. Some (n ∷ ns)))) (listed_whole cs) ∙ at (is_narrow c) (are_narrow cs)
  where
    at : (a b : Bool)
        → when (if a then Some c else None) (λ n. when (if b then Some cs else None) (λ ns. Some (n ∷ ns)))
        ≡ (if (a && b) then Some (c ∷ cs) else None)
    at true true = refl
    at true false = refl
    at false b = refl

and_assoc : (a b c : Bool) → (a && (b && c)) ≡ ((a && b) && c)
and_assoc true b c = refl
and_assoc false b c = refl

and_comm : (a b : Bool) → (a && b) ≡ (b && a)
and_comm true true = refl
and_comm true false = refl
and_comm false true = refl
and_comm false false = refl

narrow_append : (xs ys : List ℤ) → are_narrow (xs ++ ys) ≡ (are_narrow xs && are_narrow ys)
narrow_append [] ys = refl
narrow_append (x ∷ xs) ys =
    ap (λ b. is_narrow x && b) (narrow_append xs ys) ∙ and_assoc (is_narrow x) (are_narrow xs) (are_narrow ys)

narrow_turned_back : (n : ℕ) (cs : List ℤ) → are_narrow (turned_back n cs) ≡ are_narrow cs
narrow_turned_back n cs =
    narrow_append (drop n cs) (take n cs)
    ∙ (and_comm (are_narrow (drop n cs)) (are_narrow (take n cs))
    ∙ (sym (narrow_append (take n cs) (drop n cs)) ∙ ap are_narrow (take-append-drop n cs)))

-- a form of numbers in the order of the text, where 64 bits hold each
pub form_narrowed : (parameters : ℕ) (cs : List ℤ) (k : ℤ) (rest : Text)
    → form_from parameters (narrow_list cs) (narrow k) rest ≡ narrowed (form_of (turned_back parameters cs) k) rest
form_narrowed parameters cs k rest =
    ap (λ o. form_from parameters o (narrow k) rest) (listed_whole cs)
    ∙ (at (are_narrow cs) (is_narrow k)
    ∙ ap (λ (t : Bool). if (is_narrow k && t) then Some (form_of (turned_back parameters cs) k, rest) else None)
    (sym (narrow_turned_back parameters cs)))
  where
    at : (a b : Bool) → form_from parameters (if a then Some cs else None) (if b then Some k else None) rest
        ≡ (if (b && a) then Some (form_of (turned_back parameters cs) k, rest) else None)
    at true true = refl
    at true false = refl
    at false true = refl
    at false false = refl

pub turn_narrowed : (parameters loops : ℕ) (head : Head) (form : Affine) (rest : Text)
    → turn_from parameters loops head form rest ≡ narrowed (turn_of parameters loops head form) rest
unfolding turn_from
turn_narrowed parameters loops head form rest =
    form_narrowed parameters
    (take (parameters + loops)
    (quotients head.stride (spread parameters loops head.first.coefficients) form.coefficients))
    (quotient head.stride (form.constant -ℤ head.first.constant)) rest

-- ---- numbers that were read as the nearest ones of 128 bits

same_near : (n : ℕ) → n < 2 ^ 127 → min n (2 ^ 127 - 1) ≡ n
same_near n h = omega (arith, h)

-- numbers of 64 bits are read as they are, and others as such others
narrow_nearest : (z : ℤ) → narrow (nearest z) ≡ narrow z
narrow_nearest (pos n) = by_size (nat_lt n (2 ^ 63)) refl
  where
    by_size : (t : Bool) → nat_lt n (2 ^ 63) ≡ t → narrow (nearest (pos n)) ≡ narrow (pos n)
    by_size true e =
        let l = ltb-true n (2 ^ 63) e in ap (λ k. narrow (pos k)) (same_near n (omega (arith, l)))
    by_size false e =
        let l = ltb-false n (2 ^ 63) e in rw (e, le-ltb (min n (2 ^ 127 - 1)) (2 ^ 63) (omega (arith, l))) refl
narrow_nearest (negsuc n) = by_size (nat_lt n (2 ^ 63)) refl
  where
    by_size : (t : Bool) → nat_lt n (2 ^ 63) ≡ t → narrow (nearest (negsuc n)) ≡ narrow (negsuc n)
    by_size true e =
        let l = ltb-true n (2 ^ 63) e in ap (λ k. narrow (negsuc k)) (same_near n (omega (arith, l)))
    by_size false e =
        let l = ltb-false n (2 ^ 63) e in rw (e, le-ltb (min n (2 ^ 127 - 1)) (2 ^ 63) (omega (arith, l))) refl

narrow_nearest_list : (cs : List ℤ) → narrow_list (map nearest cs) ≡ narrow_list cs
narrow_nearest_list [] = refl
narrow_nearest_list (c ∷ cs) =
    ap₂ (λ (o : Option ℤ) (p : Option (List ℤ)). when o (λ n. when p (λ ns. Some (n ∷ ns)))) (narrow_nearest c)
    (narrow_nearest_list cs)

-- a form of the tree
pub form_nearest : (parameters : ℕ) (o : Option (Affine × Text)) → when (option_map nearest_form o)
    (λ (r : Affine × Text). narrowed (form_of (turned_back parameters r.0.coefficients) r.0.constant) r.1)
    ≡ when o (λ (r : Affine × Text). narrowed (form_of (turned_back parameters r.0.coefficients) r.0.constant) r.1)
form_nearest parameters None = refl
form_nearest parameters (Some r) =
    let cs = r.0.coefficients in
    let k = r.0.constant in
    sym (form_narrowed parameters (map nearest cs) (nearest k) r.1)
    ∙ (ap₂ (λ (ns : Option (List ℤ)) (n : Option ℤ). form_from parameters ns n r.1) (narrow_nearest_list cs)
    (narrow_nearest k)
    ∙ form_narrowed parameters cs k r.1)

signed : (z : ℤ) → is_narrow z ≡ true → FitsSigned w64 z
signed (pos n) h = let l = ltb-true n (2 ^ 63) h in omega (arith, ints, l)
signed (negsuc n) h = let l = ltb-true n (2 ^ 63) h in omega (arith, ints, l)

-- a product of two numbers of 64 bits and one of them is far from 128 bits
times_suc : (q : ℤ) (d : ℕ) → q *ℤ pos (suc d) ≡ q +ℤ (q *ℤ pos d)
times_suc q d =
    let more : pos (suc d) ≡ pos 1 +ℤ pos d = omega (arith, ints) in
    ap (λ z. q *ℤ z) more
    ∙ (mul_distrib_left (pos 1) (pos d) q ∙ ap (λ z. z +ℤ (q *ℤ pos d)) (mul_one_right q))

not_narrow : (q : ℤ) → (is_narrow q ≡ true → ⊥) → narrow q ≡ None
not_narrow q h = ap (λ (t : Bool). if t then Some q else None) (false_from_ne_true (is_narrow q) h)

far_above : (a : ℤ) (d : ℕ) → d < 2 ^ 63 → pos (2 ^ 127 - 2 ^ 64) ≤ℤ a → narrow (floor a (pos (suc d))) ≡ None
far_above a d small far = not_narrow q (λ e.
    let fit : FitsSigned w64 (pos d) = omega (arith, ints, small) in
    let most = product_at_most q (pos d) (signed q e) fit in
    let own = signed q e in
    let times = times_suc q d in
    let f = (floor_is a (pos (suc d)) (omega (arith, ints))).above in
    omega (arith, ints, most, own, times, f, far, small))
  where
    q : ℤ
    q = floor a (pos (suc d))

far_below : (a : ℤ) (d : ℕ) → d < 2 ^ 63 → a ≤ℤ neg_ℤ (pos (2 ^ 127 - 2 ^ 64)) → narrow (floor a (pos (suc d))) ≡ None
far_below a d small far = not_narrow q (λ e.
    let fit : FitsSigned w64 (pos d) = omega (arith, ints, small) in
    let least = product_at_least q (pos d) (signed q e) fit in
    let own = signed q e in
    let times = times_suc q d in
    let f = (floor_is a (pos (suc d)) (omega (arith, ints))).below in
    omega (arith, ints, least, own, times, f, far, small))
  where
    q : ℤ
    q = floor a (pos (suc d))

-- the quotient of a number that 128 bits do not hold, nor 127: none of 64 bits, but over 0
abbrev far_quotient : ℤ → Option ℤ
far_quotient (pos zero) = Some (pos 0)
far_quotient (pos (suc d)) = None
far_quotient (negsuc d) = None

over_great : (s x z : ℤ) → FitsSigned w64 s → FitsSigned w64 x → pos (2 ^ 127 - 1) ≤ℤ z
    → narrow (quotient s (z -ℤ x)) ≡ far_quotient s
over_great (pos zero) x z f g h = refl
over_great (pos (suc d)) x z f g h = far_above (z -ℤ x) d (omega (arith, ints, f)) (omega (arith, ints, g, h))
over_great (negsuc d) x z f g h = far_below (neg_ℤ (z -ℤ x)) d (omega (arith, ints, f)) (omega (arith, ints, g, h))

over_small : (s x z : ℤ) → FitsSigned w64 s → FitsSigned w64 x → z ≤ℤ negsuc (2 ^ 127 - 1)
    → narrow (quotient s (z -ℤ x)) ≡ far_quotient s
over_small (pos zero) x z f g h = refl
over_small (pos (suc d)) x z f g h = far_below (z -ℤ x) d (omega (arith, ints, f)) (omega (arith, ints, g, h))
over_small (negsuc d) x z f g h = far_above (neg_ℤ (z -ℤ x)) d (omega (arith, ints, f)) (omega (arith, ints, g, h))

-- what a number is above another, over a stride
pub quotient_nearest : (s x z : ℤ) → FitsSigned w64 s → FitsSigned w64 x
    → narrow (quotient s (nearest z -ℤ x)) ≡ narrow (quotient s (z -ℤ x))
quotient_nearest s x (pos n) f g = by_size (nat_lt n (2 ^ 127)) refl
  where
    by_size : (t : Bool) → nat_lt n (2 ^ 127) ≡ t
        → narrow (quotient s (nearest (pos n) -ℤ x)) ≡ narrow (quotient s (pos n -ℤ x))
    by_size true e = ap (λ k. narrow (quotient s (pos k -ℤ x))) (same_near n (ltb-true n (2 ^ 127) e))
    by_size false e =
        let l = ltb-false n (2 ^ 127) e in
        over_great s x (nearest (pos n)) f g (omega (arith, ints, l))
        ∙ sym (over_great s x (pos n) f g (omega (arith, ints, l)))
quotient_nearest s x (negsuc n) f g = by_size (nat_lt n (2 ^ 127)) refl
  where
    by_size : (t : Bool) → nat_lt n (2 ^ 127) ≡ t
        → narrow (quotient s (nearest (negsuc n) -ℤ x)) ≡ narrow (quotient s (negsuc n -ℤ x))
    by_size true e = ap (λ k. narrow (quotient s (negsuc k -ℤ x))) (same_near n (ltb-true n (2 ^ 127) e))
    by_size false e =
        let l = ltb-false n (2 ^ 127) e in
        over_small s x (nearest (negsuc n)) f g (omega (arith, ints, l))
        ∙ sym (over_small s x (negsuc n) f g (omega (arith, ints, l)))

-- numbers that were read so, one by one
pub nearest_length : (us zs : List ℤ) → us ≡ map nearest zs → length us ≡ length zs
nearest_length us zs is = ap length is ∙ length-map zs nearest

pub nearest_at : (us zs : List ℤ) (i : ℕ) → us ≡ map nearest zs → i < length zs
    → get_or us i (pos 0) ≡ nearest (get_or zs i (pos 0))
nearest_at us zs i is h =
    ap (λ (t : List ℤ). get_or t i (pos 0)) is ∙ get_or-map nearest zs i (pos 0) (pos 0) h

-- a turn, from what was read of its iterator's form
pub turn_told : (parameters loops : ℕ) (head : Head) (o t : Option (Affine × Text)) (cs ds : List ℤ) (k : ℤ)
    (rest : Text) → Some (form_of cs k, rest) ≡ option_map nearest_form o → ds ≡ cs
    → ((form : Affine) → ds ≡ map nearest form.coefficients → k ≡ nearest form.constant
    → t ≡ turn_from parameters loops head form rest)
    → t ≡ when o (λ (r : Affine × Text). narrowed (turn_of parameters loops head r.0) r.1)
turn_told parameters loops head None t cs ds k rest read items told = absurd (none-some (form_of cs k, rest) (sym read))
turn_told parameters loops head (Some r) t cs ds k rest read items told =
    let same = same_Some (form_of cs k, rest) (nearest_form r) read in
    told r.0 (items ∙ ap (λ (q : Affine × Text). q.0.coefficients) same)
    (ap (λ (q : Affine × Text). q.0.constant) same)
    ∙ (ap (λ (q : Affine × Text). turn_from parameters loops head r.0 q.1) same
    ∙ turn_narrowed parameters loops head r.0 r.1)

-- a turn of such parts
turn_made : (parameters loops count : ℕ) (head : Head) (s k : ℤ) (starts : List ℤ) (form : Affine) (rest : Text)
    → count ≡ parameters + loops → s ≡ head.stride → k ≡ head.first.constant
    → starts ≡ spread parameters loops head.first.coefficients
    → form_from parameters (narrow_list (take count (quotients s starts form.coefficients)))
    (narrow (quotient s (form.constant -ℤ k))) rest ≡ turn_from parameters loops head form rest
unfolding turn_from
turn_made parameters loops count head s k starts form rest c e f g =
    ap (λ (n : ℕ). form_from parameters (narrow_list (take n (quotients s starts form.coefficients)))
    (narrow (quotient s (form.constant -ℤ k))) rest) c
    ∙ (ap (λ (z : ℤ). form_from parameters
    (narrow_list (take (parameters + loops) (quotients z starts form.coefficients)))
    (narrow (quotient z (form.constant -ℤ k))) rest) e
    ∙ ap₂ (λ (y : ℤ) (ys : List ℤ). form_from parameters
    (narrow_list (take (parameters + loops) (quotients head.stride ys form.coefficients)))
    (narrow (quotient head.stride (form.constant -ℤ y))) rest) f g)

-- such a turn, by what its quotients are for any numbers that were read so
pub turn_by : (parameters loops count : ℕ) (head : Head) (s t k c e : ℤ) (starts us : List ℤ) (rest : Text)
    (ns : Option (List ℤ)) (n : Option ℤ) (made : Option (Affine × Text)) (form : Affine)
    → ((zs : List ℤ) → us ≡ map nearest zs → ns ≡ narrow_list (take count (quotients s starts zs)))
    → ((z : ℤ) → e ≡ nearest z → n ≡ narrow (quotient t (z -ℤ k))) → made ≡ form_from parameters ns n rest
    → count ≡ parameters + loops → s ≡ head.stride → t ≡ head.stride → k ≡ head.first.constant
    → starts ≡ spread parameters loops head.first.coefficients → e ≡ c → us ≡ map nearest form.coefficients
    → c ≡ nearest form.constant → made ≡ turn_from parameters loops head form rest
turn_by parameters loops count head s t k c e starts us rest ns n made form lists one is counted same other first from
    whole read last =
    is ∙ (ap₂ (λ (xs : Option (List ℤ)) (x : Option ℤ). form_from parameters xs x rest)
    (lists form.coefficients read) (one form.constant (whole ∙ last)
    ∙ ap (λ z. narrow (quotient z (form.constant -ℤ k))) (other ∙ sym same))
    ∙ turn_made parameters loops count head s k starts form rest counted same first from)

-- where no form was read
pub nothing_read : (o : Option (Affine × Text)) (f : Affine × Text → Option (Affine × Text))
    → None ≡ option_map nearest_form o → None ≡ when o f
nothing_read None f e = refl
nothing_read (Some r) f e = absurd (none-some (nearest_form r) e)
