use Rattle.whole_numbers.proofs.Common.{◌≡◌, ℕ, ◌<◌, List, [], length, map, sym, ap, subst, ◌∙◌, Vec, Global, get_or}
use Rattle.whole_numbers.proofs.Common.{set, get_or-map, map-set, length-map, map-set_same, with_item}
use Rattle.std.proofs.Common.{length-set}
use Rattle.scop_syntax.proofs.arrays.Arrays.set_cell.Goals as goal

-- a write to a row that was taken out of the rows
set_row : (rows : List (Vec ℕ Global)) (row : Vec ℕ Global) (contents : List (List ℕ)) (i k v : ℕ)
    → map (λ (r : Vec ℕ Global). r.items) rows ≡ contents → row ≡ get_or rows i row
    → i < length contents
    → map (λ (r : Vec ℕ Global). r.items) (set rows i (with_item row k v)) ≡ set contents i
    (set (get_or contents i []) k v)
set_row rows row contents i k v is taken within =
    let items : Vec ℕ Global → List ℕ = λ r. r.items in
    let short : i < length rows = subst (λ n. i < n) (ap length (sym is) ∙ length-map rows items) within in
    let same : get_or contents i [] ≡ row.items = ap (λ c. get_or c i []) (sym is)
    ∙ (get_or-map items rows i row [] short ∙ ap items (sym taken)) in
    map-set items rows i (with_item row k v)
    ∙ (ap (λ c. set c i (set row.items k v)) is ∙ ap (λ r. set contents i (set r k v)) (sym same))

pub returns-clause-contents : goal.returns-clause-contents
returns-clause-contents c =
    set_row c.self.inside.cells.items c.index_mut.result.now c.args.self.now c.args.array c.args.offset c.args.value
    c.self.view_is c.index_mut.ensures.value c.requires.array

pub returns-clause-shape : goal.returns-clause-shape
returns-clause-shape c =
    let rows = c.args.self.now in
    let row = get_or rows c.args.array [] in
    ap (map length) (returns-clause-contents c)
    ∙ map-set_same length rows c.args.array (set row c.args.offset c.args.value) []
    (length-set row c.args.offset c.args.value)
