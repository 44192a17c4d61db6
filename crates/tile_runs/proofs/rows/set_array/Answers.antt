use Rattle.scop_syntax.proofs.Common.{◌≡◌, ◌∙◌, ◌<◌, ap, ap₂, arith, get_or, length, map, set, subst, sym, List, ℕ, []}
use Rattle.scop_syntax.proofs.Common.{Vec, Global, get_or-map, length-map, map-set, with_items_is, with_items}
use Rattle.tile_runs.proofs.rows.set_array.Goals as goal

-- a row whose cells are others, as many as before
set_row : (rows : List (Vec ℕ Global)) (row : Vec ℕ Global) (contents : List (List ℕ)) (i : ℕ) (new cells : List ℕ)
    → map (λ (r : Vec ℕ Global). r.items) rows ≡ contents → row ≡ get_or rows i row → i < length contents
    → length cells ≡ length (get_or contents i []) → new ≡ cells
    → map (λ (r : Vec ℕ Global). r.items) (set rows i (with_items row new)) ≡ set contents i cells
set_row rows row contents i new cells is taken within long same =
    let items : Vec ℕ Global → List ℕ = λ r. r.items in
    let short : i < length rows = subst (λ n. i < n) (ap length (sym is) ∙ length-map rows items) within in
    let old : get_or contents i [] ≡ row.items = ap (λ c. get_or c i []) (sym is)
    ∙ (get_or-map items rows i row [] short ∙ ap items (sym taken)) in
    let many = ap length same in
    let before = ap length old in
    let full = row.ok.0 in
    map-set items rows i (with_items row new)
    ∙ ap₂ (λ (rs : List (List ℕ)) (r : List ℕ). set rs i r) is
    (with_items_is row new (omega (arith, many, long, before, full)) ∙ same)

pub returns : goal.returns
returns c =
    set_row c.arrays.inside.cells.items c.index_mut.result.now c.args.arrays.now c.args.array
    c.copy_from_slice.new.self c.args.cells.now c.arrays.view_is c.index_mut.ensures.value c.requires.array
    c.requires.count c.copy_from_slice.ensures.after
