-- A kernel without faults stands for a program within the limits.
use Rattle.scop_syntax.proofs.Common.{◌≡◌, ℕ, zero, suc, ◌+◌, ◌-◌, ◌≤◌, Bool, List, [], ◌∷◌, ◌++◌, length, map, refl}
use Rattle.scop_syntax.proofs.Common.{sym, ap, subst, ◌∙◌, arith, inl, inr, length-append, append_assoc, append-nil, ℤ}
use Rattle.scop_syntax.proofs.Common.{All, nat_le, nat_lt, length-map, map-append, All-nil, All-cons, All-map, Affine}
use Rattle.scop_syntax.proofs.Common.{zeros, length-zeros, AreAtMost, IsAffine, IsDeclaration, AreTrees, KeepWidths}
use Rattle.scop_syntax.proofs.Common.{ranks_of, narrow_arrays, IsKernel, In, Sorted, Declaration, trees_of}
use Rattle.scop_expressions.specs.Tree.{Tree, size}
use Rattle.scop_grammar.specs.Kernel.{Parameter, number, array, Kernel, parameter_elements}
use Rattle.scop_syntax.specs.Tree as scop
use Rattle.scop_syntax.proofs.Sizes.{at_most_zeros}
use Rattle.scop_roles.specs.declared.kinds.Kind.TheVariants as kind
use Rattle.scop_roles.specs.declared.formula.Role.TheVariants as role
use Rattle.scop_roles.specs.Formula.{Formula}
use Rattle.scop_roles.specs.Faults.{first, told, faults, only_where}
use Rattle.scop_roles.specs.Forms.{form, is_narrow_width}
use Rattle.scop_units.specs.Words.{Words, HasWorth}
use Rattle.scop_units.specs.Scopes.{Scope, Ranked, no_scope, with_iterator, entries}
use Rattle.scop_units.specs.Units.{name_faults, extent_faults, array_of, padded, declared_over, kernel_name_faults}
use Rattle.scop_units.specs.Judging.{width, extents_in, parameter_faults, behind_parameter, parameters_faults}
use Rattle.scop_units.specs.Judging.{behind_parameters, behind_names, names_end, declared_faults, behind_declared}
use Rattle.scop_units.specs.Judging.{others_at, declared_at, items_at, first_scope, header_scope, body_scope, faults_of}
use Rattle.scop_units.specs.Programs.{array_in, arrays_in, arrays_of, all_trees, program_spelled}
use Rattle.scop_units.proofs.FaultlessUnits.{RoleLaws, parts_none, fewer, at_most}
use Rattle.scop_units.specs.View.{ranked}
use Rattle.scop_units.proofs.FaultlessItems.{ranks_among, widths_among, ranks_in, items_stand, stand_trees}
use Rattle.scop_units.proofs.FaultlessItems.{stand_widths, items_few, items_count}

-- forms over more entries

at_most_padded : (k n : ℕ) (xs : List ℤ) → AreAtMost k xs → AreAtMost k (xs ++ zeros n)
at_most_padded k n [] h = at_most_zeros k n
at_most_padded k n (x ∷ xs) h = (h.0, at_most_padded k n xs h.1)

padded_is : (m n : ℕ) (f : Affine) → m ≤ n → IsAffine m f → IsAffine n (padded n f)
padded_is m n f le is =
    record {
      entries =
          let a = length-append f.coefficients (zeros (n - length f.coefficients)) in
          let z = length-zeros (n - length f.coefficients) in
          let e = is.entries in
          omega (arith, a, z, e, le);
      coefficients = at_most_padded 16 (n - length f.coefficients) f.coefficients is.coefficients;
      constant = is.constant;
    }

over_is : (n : ℕ) (d : Declaration) → d.parameters_before ≤ n → IsDeclaration d.parameters_before d
    → IsDeclaration n (declared_over n d)
over_is n d le is =
    let long = length-map d.extents (padded n) in
    record {
      place = le;
      some = let a = is.some in omega (arith, long, a);
      few = let a = is.few in omega (arith, long, a);
      extents = All-map (IsAffine n) (padded n) d.extents
          (λ i x lt. padded_is d.parameters_before n _ le (is.extents i x lt));
    }

-- arrays in the order of the parameters before them, from one number of parameters up to another
abbrev pub Rows : ℕ → ℕ → List Declaration → Type 0
Rows low high [] = low ≤ high
Rows low high (d ∷ ds) = (low ≤ d.parameters_before) × IsDeclaration d.parameters_before d
    × Rows d.parameters_before high ds

rows_from : (a b c : ℕ) (ds : List Declaration) → a ≤ b → Rows b c ds → Rows a c ds
rows_from a b c [] le h = omega (arith, le, h)
rows_from a b c (d ∷ ds) le h = let l = h.0 in (omega (arith, le, l), h.1, h.2)

rows_append : (a b c : ℕ) (ds es : List Declaration) → Rows a b ds → Rows b c es → Rows a c (ds ++ es)
rows_append a b c [] es h k = rows_from a b c es h k
rows_append a b c (d ∷ ds) es h k = (h.0, h.1, rows_append d.parameters_before b c ds es h.2 k)

rows_upto : (a b : ℕ) (ds : List Declaration) → Rows a b ds → a ≤ b
rows_upto a b [] h = h
rows_upto a b (d ∷ ds) h =
    let m = rows_upto d.parameters_before b ds h.2 in
    let l = h.0 in
    omega (arith, m, l)

rows_all : (n a : ℕ) (ds : List Declaration) → Rows a n ds → All (IsDeclaration n) (map (declared_over n) ds)
rows_all n a [] h = All-nil (IsDeclaration n)
rows_all n a (d ∷ ds) h =
    All-cons (IsDeclaration n) (declared_over n d) (map (declared_over n) ds)
    (over_is n d (rows_upto d.parameters_before n ds h.2) h.1) (rows_all n d.parameters_before ds h.2)

rows_in : (n a b : ℕ) (ds : List Declaration) (y : Declaration) → Rows a b ds → In y (map (declared_over n) ds)
    → a ≤ y.parameters_before
rows_in n a b [] y h m = absurd m
rows_in n a b (d ∷ ds) y h (inl e) =
    let same = ap (λ (z : Declaration). z.parameters_before) e in
    let l = h.0 in
    omega (arith, same, l)
rows_in n a b (d ∷ ds) y h (inr m) =
    let l = h.0 in
    let r = rows_in n d.parameters_before b ds y h.2 m in
    omega (arith, l, r)

rows_sorted : (n a b : ℕ) (ds : List Declaration) → Rows a b ds
    → Sorted (λ (d e : Declaration). d.parameters_before ≤ e.parameters_before) (map (declared_over n) ds)
rows_sorted n a b [] h = tt
rows_sorted n a b (d ∷ ds) h =
    (λ y m. rows_in n d.parameters_before b ds y h.2 m, rows_sorted n d.parameters_before b ds h.2)

-- what parameters add to a scope without loops
pub record Declares (s t : Scope) (ds : List Declaration) : Type 0 where
  pub rows : Rows (length s.parameters) (length t.parameters) ds
  pub few_parameters : length t.parameters ≤ 4
  pub few_arrays : length t.arrays ≤ 16
  pub loops : t.open_loops ≡ []
  pub arrays : t.arrays ≡ s.arrays ++ map ranked ds

declares_then : (s t u : Scope) (ds es : List Declaration) → Declares s t ds → Declares t u es
    → Declares s u (ds ++ es)
declares_then s t u ds es x y =
    record {
      rows = rows_append (length s.parameters) (length t.parameters) (length u.parameters) ds es x.rows y.rows;
      few_parameters = y.few_parameters;
      few_arrays = y.few_arrays;
      loops = y.loops;
      arrays = y.arrays ∙ (ap (λ (xs : List Ranked). xs ++ map ranked es) x.arrays
          ∙ (append_assoc s.arrays (map ranked ds) (map ranked es)
          ∙ ap (λ (xs : List Ranked). s.arrays ++ xs) (sym (map-append ranked ds es))));
    }

extents_affine : (laws : RoleLaws) (n : ℕ) (fs : List Formula) → extent_faults n fs ≡ []
    → All (IsAffine n) (map (form n) fs)
extents_affine laws n [] e = All-nil (IsAffine n)
extents_affine laws n (f ∷ fs) e =
    let both = parts_none (faults n role.Affine f) (extent_faults n fs) e in
    All-cons (IsAffine n) (form n f) (map (form n) fs) (laws.affine n f (ap first both.0))
    (extents_affine laws n fs both.1)

pub extents_length : (words : Words) (s : Scope) (at : ℕ) (xs : List Tree)
    → length (extents_in words s at xs) ≡ length xs
extents_length words s at [] = refl
extents_length words s at (x ∷ xs) = let m = extents_length words s (at + 1 + size x + 1) xs in omega (arith, m)

pub parameter_declares : (laws : RoleLaws) (words : Words) (s : Scope) (at : ℕ) (p : Parameter) → s.open_loops ≡ []
    → length s.parameters ≤ 4 → length s.arrays ≤ 16 → parameter_faults words s at p ≡ []
    → Declares s (behind_parameter words s at p) (array_in words s at p)
parameter_declares laws words s at number closed few arrays e =
    let both = parts_none (name_faults words s (at + 1)) _ e in
    let room = fewer (at + 1) 4 (length s.parameters) kind.Parameters both.1 in
    let long = length-append s.parameters (words.spelling (at + 1) ∷ []) in
    record {
      rows = omega (arith, long);
      few_parameters = omega (arith, long, room);
      few_arrays = arrays;
      loops = closed;
      arrays = sym (append-nil s.arrays);
    }
parameter_declares laws words s at (array w x xs) closed few arrays e =
    let n = entries s in
    let fs = extents_in words s (at + 1 + 1) (x ∷ xs) in
    let d = array_of words s (at + 1) w fs in
    let one : ℕ → Ranked =
    λ r. record { name = words.spelling (at + 1); rank = r; narrow = is_narrow_width w } in
    let named = parts_none (name_faults words s (at + 1)) _ e in
    let ranked = parts_none (told (at + 1) (only_where (nat_lt 4 (length fs)) kind.Rank)) _ named.1 in
    let counted = parts_none (told (at + 1) (only_where (nat_le 16 (length s.arrays)) kind.Arrays)) _ ranked.1 in
    let low = at_most (at + 1) 4 (length fs) kind.Rank ranked.0 in
    let room = fewer (at + 1) 16 (length s.arrays) kind.Arrays counted.0 in
    let formed = length-map fs (form n) in
    let same = extents_length words s (at + 1 + 1) (x ∷ xs) in
    let ranks_same : length (x ∷ xs) ≡ length (map (form n) fs) = sym same ∙ sym formed in
    let none = ap length closed in
    let over : n ≡ length s.parameters = omega (arith, none) in
    let long = length-append s.arrays (one (length (x ∷ xs)) ∷ []) in
    let is : IsDeclaration (length s.parameters) d =
    record {
      place = omega arith;
      some = omega (arith, ranks_same);
      few = omega (arith, formed, low);
      extents = subst (λ (m : ℕ). All (IsAffine m) (map (form n) fs)) over (extents_affine laws n fs counted.1);
    } in
    record {
      rows = (omega arith, is, omega arith);
      few_parameters = few;
      few_arrays = omega (arith, long, room);
      loops = closed;
      arrays = ap (λ (r : ℕ). s.arrays ++ one r ∷ []) ranks_same;
    }

pub parameters_declare : (laws : RoleLaws) (words : Words) (s : Scope) (at : ℕ) (ps : List Parameter)
    → s.open_loops ≡ [] → length s.parameters ≤ 4 → length s.arrays ≤ 16 → parameters_faults words s at ps ≡ []
    → Declares s (behind_parameters words s at ps) (arrays_in words s at ps)
parameters_declare laws words s at [] closed few arrays e =
    record {
      rows = omega arith;
      few_parameters = few;
      few_arrays = arrays;
      loops = closed;
      arrays = sym (append-nil s.arrays);
    }
parameters_declare laws words s at (p ∷ ps) closed few arrays e =
    let t = behind_parameter words s (at + 1) p in
    let place = at + 1 + width (parameter_elements p) in
    let both = parts_none (parameter_faults words s (at + 1) p) (parameters_faults words t place ps) e in
    let one = parameter_declares laws words s (at + 1) p closed few arrays both.0 in
    declares_then s t (behind_parameters words t place ps) (array_in words s (at + 1) p) (arrays_in words t place ps)
    one (parameters_declare laws words t place ps one.loops one.few_parameters one.few_arrays both.1)

-- declared iterators change nothing else
abbrev pub Keeps : Scope → Scope → Type 0
Keeps s t = (t.parameters ≡ s.parameters) × (t.arrays ≡ s.arrays) × (t.open_loops ≡ s.open_loops)

names_keep : (words : Words) (s : Scope) (at k : ℕ) → Keeps s (behind_names words s at k)
names_keep words s at zero = (refl, refl, refl)
names_keep words s at (suc k) = names_keep words (with_iterator s (words.spelling (at + 1))) (at + 1 + 1) k

pub changes_nothing : (words : Words) (s : Scope) (at : ℕ) (ks : List ℕ) → Keeps s (behind_declared words s at ks)
changes_nothing words s at [] = (refl, refl, refl)
changes_nothing words s at (k ∷ ks) =
    let t = with_iterator s (words.spelling (at + 1)) in
    let a = names_keep words t (at + 1 + 1) k in
    let b = changes_nothing words (behind_names words t (at + 1 + 1) k) (names_end (at + 1 + 1) k + 1) ks in
    (b.0 ∙ a.0, b.1 ∙ a.1, b.2 ∙ a.2)

-- over all parameters the arrays have the ranks and the widths of the scope
ranks_over : (n : ℕ) (ds : List Declaration)
    → ranks_among (map ranked ds) ≡ map (λ (d : Declaration). length d.extents) (map (declared_over n) ds)
ranks_over n [] = refl
ranks_over n (d ∷ ds) =
    ap (λ (r : ℕ). r ∷ ranks_among (map ranked ds)) (sym (length-map d.extents (padded n)))
    ∙ ap (λ (rs : List ℕ). length (map (padded n) d.extents) ∷ rs) (ranks_over n ds)

widths_over : (n : ℕ) (ds : List Declaration)
    → widths_among (map ranked ds) ≡ map (λ (d : Declaration). d.narrow) (map (declared_over n) ds)
widths_over n [] = refl
widths_over n (d ∷ ds) = ap (λ (bs : List Bool). d.narrow ∷ bs) (widths_over n ds)

-- the trees of the items, over the names of the header
trees_same : (ranks rs : List ℕ) (n m l c : ℕ) (ts : List scop.Tree) → ranks ≡ rs → n ≡ m → l ≡ 0 → c ≡ 0
    → AreTrees ranks n (5 - l) (16 - c) (trees_of ts) → AreTrees rs m 5 16 (trees_of ts)
trees_same ranks rs n m l c ts a b d e h =
    let few : 5 - l ≡ 5 = omega (arith, d) in
    let rest : 16 - c ≡ 16 = omega (arith, e) in
    subst (λ (x : List ℕ). AreTrees x m 5 16 (trees_of ts)) a
    (subst (λ (x : ℕ). AreTrees ranks x 5 16 (trees_of ts)) b
    (subst (λ (x : ℕ). AreTrees ranks n x 16 (trees_of ts)) few
    (subst (λ (x : ℕ). AreTrees ranks n (5 - l) x (trees_of ts)) rest h)))

pub kernel_stands : (laws : RoleLaws) (words : Words) (k : Kernel) → HasWorth words → faults_of words k ≡ []
    → IsKernel (program_spelled words k)
kernel_stands laws words k worth e =
    let s = first_scope words k in
    let header = header_scope words k in
    let body = body_scope words k in
    let ds = arrays_of words k in
    let n = length header.parameters in
    let ts = all_trees words body (items_at k) k.items in
    let named = parts_none (kernel_name_faults words 1) _ e in
    let one = parts_none (parameter_faults words no_scope 3 k.first) _ named.1 in
    let rest = parts_none (parameters_faults words s (others_at k) k.others) _ one.1 in
    let inner = parts_none (declared_faults words header (declared_at k) k.declared) _ rest.1 in
    let a = parameter_declares laws words no_scope 3 k.first refl (omega arith) (omega arith) one.0 in
    let b = parameters_declare laws words s (others_at k) k.others a.loops a.few_parameters a.few_arrays rest.0 in
    let all : Declares no_scope header ds = declares_then no_scope s header _ _ a b in
    let keeps : Keeps header body = changes_nothing words header (declared_at k) k.declared in
    let none = ap length (keeps.2 ∙ all.loops) in
    let same = ap length keeps.0 in
    let over : entries body ≡ n = omega (arith, none, same) in
    let arrays : body.arrays ≡ map ranked ds = keeps.1 ∙ all.arrays in
    let ranks : ranks_in body ≡ ranks_of (program_spelled words k) = ap ranks_among arrays ∙ ranks_over n ds in
    let widths : widths_among body.arrays ≡ narrow_arrays (program_spelled words k) =
    ap widths_among arrays ∙ widths_over n ds in
    let stand = items_stand laws words worth body 0 0 (items_at k) k.items inner.1 in
    let few = items_few laws words worth body 0 0 (items_at k) k.items inner.1 (omega arith) in
    let count = items_count words body (items_at k) k.items in
    let many = length-map ds (declared_over n) in
    let long = ap length all.arrays in
    let right = length-map ds ranked in
    let most = all.few_arrays in
    record {
      few_parameters = all.few_parameters;
      few_arrays = omega (arith, many, long, right, most);
      few_statements = omega (arith, few, count);
      declarations = rows_all n 0 ds all.rows;
      in_order = rows_sorted n 0 n ds all.rows;
      body = trees_same (ranks_in body) (ranks_of (program_spelled words k)) (entries body) n (length body.open_loops)
          0 ts
          ranks over none refl (stand_trees body.arrays (entries body) (length body.open_loops) 0 ts stand);
      widths = subst (λ (bs : List Bool). KeepWidths bs (trees_of ts)) widths
          (stand_widths body.arrays (entries body) (length body.open_loops) 0 ts stand);
    }
