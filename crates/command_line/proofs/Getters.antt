-- What the getters of `clap`'s matches give, as functions of the text that they read.
use Rattle.scop_syntax.proofs.Common.{◌≡◌, ◌∙◌, sym, ap, refl, ℕ, Bool, true, false, List, Option, None, Some, Result}
use Rattle.scop_syntax.proofs.Common.{Ok, Err, if◌then◌else◌, arith, codes, option_map_or, bytes_eq, false_from_ne_true}
use Rattle.scop_syntax.proofs.Common.{bytes_eq-Decides}
use Rattle.std.proofs.Common.{unwrap_or}
use Rattle.std.specs.Str.Parse.{ParsesBool, ParsesUnsigned, digits_value, without_leading_plus}
use Rattle.clap.specs.Matches.{ReadsOne}
use Rattle.clap.specs.ValueTests.{is_unsigned_in}
use Rattle.clap.specs.Walk.{Text}
use Rattle.clap.specs.declared.builder.value_parser.ValueParser.TheVariants as vp
use Rattle.clap.proofs.ValueTestLemmas.{accepts-Accepts, Accepts-accepts}
use Rattle.command_line.specs.Command.{number_of}

-- a text that reads as a number
number_read : (E : Type 0) (usual : ℕ) (t : Text) (n : ℕ) → ParsesUnsigned {E = E} 64 10 t (Ok n)
    → n ≡ number_of usual t
number_read E usual t n parsed =
    let value = digits_value 10 (without_leading_plus t) in
    let accepted : is_unsigned_in 0 18446744073709551615 t ≡ true =
    Accepts-accepts false (vp.Unsigned 0 18446744073709551615) t
    (parsed.0.0, parsed.0.1, omega arith, omega (arith, parsed.0.1)) in
    parsed.1 ∙ sym (ap (λ b. if b then value else usual) accepted)

-- a text that reads as none
no_number : {E : Type 0} (usual : ℕ) (t : Text) (e : E) → ParsesUnsigned 64 10 t (Err e) → usual ≡ number_of usual t
no_number usual t e parsed = go (is_unsigned_in 0 18446744073709551615 t) refl
  where
    go : (b : Bool) → is_unsigned_in 0 18446744073709551615 t ≡ b
        → usual ≡ (if b then digits_value 10 (without_leading_plus t) else usual)
    go true is =
        let accepted = accepts-Accepts false (vp.Unsigned 0 18446744073709551615) t is in
        absurd (parsed (accepted.0, accepted.1))
    go false is = refl

-- the number that a getter gives, or the usual one
pub number_is : {E : Type 0} (usual : ℕ) (G : List ℕ → Result ℕ E → Type 0) (text : Option Text) (result : Option ℕ)
    → ((t : List ℕ) (r : Result ℕ E) → G t r → ParsesUnsigned 64 10 t r)
    → (text ≡ None → result ≡ None) → ((t : List ℕ) → text ≡ Some t → ReadsOne G t result)
    → unwrap_or result usual ≡ option_map_or (number_of usual) text usual
number_is usual G None result parses none value = ap (λ r. unwrap_or r usual) (none refl)
number_is usual G (Some t) None parses none value =
    let read = value t refl in no_number usual t read.0 (parses t (Err read.0) read.1)
number_is {E = E} usual G (Some t) (Some n) parses none value =
    number_read E usual t n (parses t (Ok n) (value t refl))

-- a text that reads as a truth says whether it is `true`
truth_read : (E : Type 0) (t : Text) (b : Bool) → ParsesBool {E = E} t (Ok b) → b ≡ bytes_eq t (codes "true")
truth_read E t true is = sym (ap (λ u. bytes_eq u (codes "true")) is)
truth_read E t false is = sym (ap (λ u. bytes_eq u (codes "true")) is)

-- a text that reads as none is not `true`
no_truth : {E : Type 0} (t : Text) (e : E) → ParsesBool t (Err e) → false ≡ bytes_eq t (codes "true")
no_truth t e parsed =
    sym (false_from_ne_true (bytes_eq t (codes "true")) (λ is. parsed.0 ((bytes_eq-Decides t (codes "true")).0 is)))

-- the truth that a getter gives, or that a flag is not given
pub truth_is : (E : Type 0) (text : Option Text) (result : Option Bool)
    → (text ≡ None → result ≡ None) → ((t : List ℕ) → text ≡ Some t → ReadsOne (ParsesBool {E = E}) t result)
    → unwrap_or result false ≡ option_map_or (λ t. bytes_eq t (codes "true")) text false
truth_is E None result none value = ap (λ r. unwrap_or r false) (none refl)
truth_is E (Some t) None none value = let read = value t refl in no_truth t read.0 read.1
truth_is E (Some t) (Some b) none value = truth_read E t b (value t refl)
