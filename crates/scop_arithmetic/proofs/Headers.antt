-- The arrays of a header without faults mean what their extents say, and the program what its kernel does.
use Rattle.scop_syntax.proofs.Common.{◌≡◌, ◌∙◌, ◌↔◌, ap, subst, sym, refl, ℕ, ◌+◌, ◌≤◌, Bool, true, false, List, []}
use Rattle.scop_syntax.proofs.Common.{◌∷◌, ◌++◌, length, map, All, arith, append-nil, append_assoc, map-append, All-nil}
use Rattle.scop_syntax.proofs.Common.{All-cons, All-append, Declaration}
use Rattle.std.proofs.lemmas.Simd.{map-map}
use Rattle.scop_expressions.specs.Width.{Width}
use Rattle.scop_expressions.specs.Width.TheVariants.{Narrow, Full}
use Rattle.scop_grammar.specs.Kernel.{Parameter, number, array, Kernel, KernelFits, parameter_elements}
use Rattle.scop_roles.specs.Forms.{is_narrow_width}
use Rattle.scop_units.specs.Words.{Words, HasWorth}
use Rattle.scop_units.specs.Scopes.{Scope, Ranked, no_scope, entries}
use Rattle.scop_units.specs.Units.{array_of, declared_over, kernel_name_faults}
use Rattle.scop_units.specs.Judging.{width, extents_in, parameter_faults, parameters_faults, behind_parameter}
use Rattle.scop_units.specs.Judging.{behind_parameters, declared_faults, others_at, declared_at, items_at, first_scope}
use Rattle.scop_units.specs.Judging.{header_scope, body_scope, faults_of}
use Rattle.scop_units.specs.Programs.{array_in, arrays_in, arrays_of, all_trees, program_spelled}
use Rattle.scop_units.proofs.FaultlessUnits.{parts_none}
use Rattle.scop_units.proofs.FaultlessItems.{ranks_in}
use Rattle.scop_units.proofs.FaultlessKernels.{changes_nothing}
use Rattle.scop_lexer.specs.Bytes.{Text}
use Rattle.scop_arithmetic.specs.Meaning.{NamesMean, DeclaresAt, DeclareAt, Means}
use Rattle.scop_arithmetic.proofs.Wholes.{AreAffine}
use Rattle.scop_arithmetic.proofs.Extents.{array_whole, array_extents}
use Rattle.scop_arithmetic.proofs.Meanings.{AreInScope, items_mean}
use Rattle.scop_arithmetic.proofs.Orders.{nothing_means, parameter_means, declared_means}

-- every array has an extent, no loop is open, and names mean by their order
record IsHeader (s : Scope) : Type 0 where
  ranks : All (λ r. 1 ≤ r) (ranks_in s)
  closed : s.open_loops ≡ []
  names : NamesMean s

no_header : IsHeader no_scope
no_header = record { ranks = All-nil (λ r. 1 ≤ r); closed = refl; names = nothing_means }

behind_header : (words : Words) (s : Scope) (at : ℕ) (p : Parameter) → IsHeader s → parameter_faults words s at p ≡ []
    → IsHeader (behind_parameter words s at p)
behind_header words s at number is e =
    record { ranks = is.ranks; closed = is.closed; names = parameter_means words s at number is.closed e is.names }
behind_header words s at (array w x xs) is e =
    let one : Ranked =
    record { name = words.spelling (at + 1); rank = length (x ∷ xs); narrow = is_narrow_width w } in
    record {
      ranks = subst (All (λ r. 1 ≤ r)) (sym (map-append (λ (a : Ranked). a.rank) s.arrays (one ∷ [])))
          (All-append (λ r. 1 ≤ r) (ranks_in s) (length (x ∷ xs) ∷ []) is.ranks
          (All-cons (λ r. 1 ≤ r) (length (x ∷ xs)) [] (omega arith) (All-nil (λ r. 1 ≤ r))));
      closed = is.closed;
      names = parameter_means words s at (array w x xs) is.closed e is.names;
    }

all_behind : (words : Words) (s : Scope) (at : ℕ) (ps : List Parameter) → IsHeader s
    → parameters_faults words s at ps ≡ [] → IsHeader (behind_parameters words s at ps)
all_behind words s at [] is e = is
all_behind words s at (p ∷ ps) is e =
    let t = behind_parameter words s (at + 1) p in
    let place = at + 1 + width (parameter_elements p) in
    let both = parts_none (parameter_faults words s (at + 1) p) (parameters_faults words t place ps) e in
    all_behind words t place ps (behind_header words s (at + 1) p is both.0) both.1

-- without open loops a point has the parameters alone
only_parameters : (s : Scope) → IsHeader s → entries s ≡ length s.parameters
only_parameters s is = let none = ap length is.closed in omega (arith, none)

-- a parameter's array, over all n parameters
type_declared : (w : Width) → (is_narrow_width w ≡ true) ↔ (w ≡ Narrow)
type_declared Narrow = (λ (e : true ≡ true). refl, λ (e : Narrow ≡ Narrow). refl)
type_declared Full = (λ (e : false ≡ true). absurd (cc), λ (e : Full ≡ Narrow). absurd (cc))

declares : (affine : AreAffine) (words : Words) (s : Scope) (at n : ℕ) (p : Parameter) → IsHeader s
    → parameter_faults words s at p ≡ [] → DeclaresAt words s at p (map (declared_over n) (array_in words s at p))
declares affine words s at n number is e = refl
declares affine words s at n (array w x xs) is e =
    let fs = extents_in words s (at + 1 + 1) (x ∷ xs) in
    let same = only_parameters s is in (
      declared_over n (array_of words s (at + 1) w fs),
      refl,
      refl,
      is.names,
      record {
        before = refl;
        type = type_declared w;
        defined = array_whole words s (at + 1) fs e;
        extents = λ p later long. array_extents affine words s (at + 1) w fs n p later (long ∙ sym same) e;
      },
    )

declare : (affine : AreAffine) (words : Words) (s : Scope) (at n : ℕ) (ps : List Parameter) → IsHeader s
    → parameters_faults words s at ps ≡ [] → DeclareAt words s at ps (map (declared_over n) (arrays_in words s at ps))
declare affine words s at n [] is e = refl
declare affine words s at n (p ∷ ps) is e =
    let t = behind_parameter words s (at + 1) p in
    let place = at + 1 + width (parameter_elements p) in
    let both = parts_none (parameter_faults words s (at + 1) p) (parameters_faults words t place ps) e in (
      map (declared_over n) (array_in words s (at + 1) p),
      map (declared_over n) (arrays_in words t place ps),
      map-append (declared_over n) (array_in words s (at + 1) p) (arrays_in words t place ps),
      declares affine words s (at + 1) n p is both.0,
      declare affine words t place n ps (behind_header words s (at + 1) p is both.0) both.1,
    )

-- the names and types of arrays in scope are those of the arrays that are declared
abbrev told : List Declaration → List (Text × Bool)
told ds = map (λ (d : Declaration). (d.name, d.narrow)) ds

abbrev told_in : Scope → List (Text × Bool)
told_in s = map (λ (a : Ranked). (a.name, a.narrow)) s.arrays

one_told : (words : Words) (s : Scope) (at n : ℕ) (p : Parameter)
    → told_in (behind_parameter words s at p) ≡ told_in s ++ told (map (declared_over n) (array_in words s at p))
one_told words s at n number = sym (append-nil (told_in s))
one_told words s at n (array w x xs) =
    map-append (λ (a : Ranked). (a.name, a.narrow)) s.arrays
    (record { name = words.spelling (at + 1); rank = length (x ∷ xs); narrow = is_narrow_width w } ∷ [])

all_told : (words : Words) (s : Scope) (at n : ℕ) (ps : List Parameter)
    → told_in (behind_parameters words s at ps) ≡ told_in s ++ told (map (declared_over n) (arrays_in words s at ps))
all_told words s at n [] = sym (append-nil (told_in s))
all_told words s at n (p ∷ ps) =
    let t = behind_parameter words s (at + 1) p in
    let place = at + 1 + width (parameter_elements p) in
    let ds = map (declared_over n) (array_in words s (at + 1) p) in
    let es = map (declared_over n) (arrays_in words t place ps) in
    let both : told (map (declared_over n) (arrays_in words s at (p ∷ ps))) ≡ told ds ++ told es =
    ap told (map-append (declared_over n) (array_in words s (at + 1) p) (arrays_in words t place ps))
    ∙ map-append (λ (d : Declaration). (d.name, d.narrow)) ds es in
    all_told words t place n ps
    ∙ (ap (λ (vs : List (Text × Bool)). vs ++ told es) (one_told words s (at + 1) n p)
    ∙ (append_assoc (told_in s) (told ds) (told es) ∙ ap (λ (vs : List (Text × Bool)). told_in s ++ vs) (sym both)))

pub kernel_means : (scoped : AreInScope) (affine : AreAffine) (words : Words) (k : Kernel) (d n : ℕ) → HasWorth words
    → KernelFits d n k → faults_of words k ≡ [] → Means words k (program_spelled words k)
kernel_means scoped affine words k d n worth fits e =
    let s = first_scope words k in
    let header = header_scope words k in
    let body = body_scope words k in
    let size = length header.parameters in
    let whole = parts_none (kernel_name_faults words 1) _ e in
    let one = parts_none (parameter_faults words no_scope 3 k.first) _ whole.1 in
    let rest = parts_none (parameters_faults words s (others_at k) k.others) _ one.1 in
    let inner = parts_none (declared_faults words header (declared_at k) k.declared) _ rest.1 in
    let first = behind_header words no_scope 3 k.first no_header one.0 in
    let all = all_behind words s (others_at k) k.others first rest.0 in
    let keeps = changes_nothing words header (declared_at k) k.declared in
    let ranks = ap (λ (xs : List Ranked). map (λ (a : Ranked). a.rank) xs) keeps.1 in
    let ds = map (declared_over size) (array_in words no_scope 3 k.first) in
    let es = map (declared_over size) (arrays_in words s (others_at k) k.others) in
    let split : map (declared_over size) (arrays_of words k) ≡ ds ++ es =
    map-append (declared_over size) (array_in words no_scope 3 k.first) (arrays_in words s (others_at k) k.others) in
    let same : told (map (declared_over size) (arrays_of words k)) ≡ told_in body =
    ap told split ∙ (map-append (λ (d : Declaration). (d.name, d.narrow)) ds es
    ∙ (sym (all_told words s (others_at k) size k.others
    ∙ ap (λ (vs : List (Text × Bool)). vs ++ told es) (one_told words no_scope 3 size k.first))
    ∙ ap (λ (xs : List Ranked). map (λ (a : Ranked). (a.name, a.narrow)) xs) (sym keeps.1))) in
    let all_arrays = map (declared_over size) (arrays_of words k) in
    record {
      name = refl;
      parameters = sym keeps.0;
      names = sym (map-map (λ (t : Text × Bool). t.0) (λ (d : Declaration). (d.name, d.narrow)) all_arrays)
          ∙ (ap (map (λ (t : Text × Bool). t.0)) same
          ∙ map-map (λ (t : Text × Bool). t.0) (λ (a : Ranked). (a.name, a.narrow)) body.arrays);
      widths = sym (map-map (λ (t : Text × Bool). t.1) (λ (d : Declaration). (d.name, d.narrow)) all_arrays)
          ∙ (ap (map (λ (t : Text × Bool). t.1)) same
          ∙ map-map (λ (t : Text × Bool). t.1) (λ (a : Ranked). (a.name, a.narrow)) body.arrays);
      arrays = (
        ds,
        es,
        split,
        declares affine words no_scope 3 size k.first no_header one.0,
        declare affine words s (others_at k) size k.others first rest.0,
      );
      body = (
        all_trees words body (items_at k) k.items,
        refl,
        items_mean scoped affine words worth body 0 0 (items_at k) d n k.items
            (subst (All (λ r. 1 ≤ r)) (sym ranks) all.ranks)
            (declared_means words header (declared_at k) k.declared all.closed inner.0 all.names) fits.items inner.1,
      );
    }
