-- The text of arrays, cell by cell and line by line.
use Rattle.scop_syntax.proofs.Common.{◌≡◌, ◌∙◌, sym, ap, refl, ℕ, ◌+◌, ◌-◌, ◌<◌, ◌≤◌, List, [], ◌∷◌, ◌++◌, length, map}
use Rattle.scop_syntax.proofs.Common.{min, zero, take, drop, get_or, codes, add-one, drop-cons, drop_of_length-le}
use Rattle.scop_syntax.proofs.Common.{append-nil, suc, arith, Result, Ok, Err, get_or-take, get_or-map, length-map}
use Rattle.scop_syntax.proofs.Common.{Declaration, program_of}
use Rattle.io_ports.specs.Writes.{SinkShows, Sends, Puts}
use Rattle.io_ports.proofs.PutTexts.{send_then, send_then_cut}
use Rattle.scop_syntax.specs.declared.tree.Kernel.{Kernel}
use Rattle.data_text.specs.ArrayText.{array_text, cell_text, cells_text, row_text, rows_text}

-- a text behind one that was put
pub puts_then : {E : Type 0} (old mid new : SinkShows) (p q r a b : List ℕ) (result : Result (Unit {0}) E)
    → Sends old p mid q a → Puts mid q new r b result → Puts old p new r (a ++ b) result
puts_then old mid new p q r a b (Ok u) one two = send_then old mid new p q r a b one two
puts_then old mid new p q r a b (Err e) one two = send_then_cut old mid new p q a b one two

-- the cells from a place on: the cell there, and those behind it
pub cells_next : (cells : List ℕ) (i : ℕ) → i < length cells
    → cells_text (drop i cells) ≡ cell_text (get_or cells i 0) ++ cells_text (drop (i + 1) cells)
cells_next cells i within = rw (add-one, drop-cons cells i 0) refl

-- the lines from a place on: the line there, and those behind it
pub rows_next : (names : List (List ℕ)) (arrays : List (List ℕ)) (i : ℕ) → i < length names → i < length arrays
    → rows_text (drop i names) (drop i arrays) ≡ (row_text (get_or names i []) (get_or arrays i []) ++ codes "\n")
    ++ rows_text (drop (i + 1) names) (drop (i + 1) arrays)
rows_next names arrays i named within = rw (add-one, drop-cons names i [], drop-cons arrays i []) refl

-- the cell that was put: the space before the digits, and the digits
pub space_and_digits : (buffer filled digits : List ℕ) (start : ℕ) → 0 < start → start ≤ length filled
    → length buffer ≡ length filled
    → drop start buffer ≡ digits ++ [] → take start buffer ≡ take start filled → get_or filled (start - 1) 0 ≡ 32
    → drop (start - 1) buffer ≡ 32 ∷ digits
space_and_digits buffer filled digits start some within long written before space =
    let lt : start - 1 < length buffer = omega arith in
    let one : suc (start - 1) ≡ start = omega arith in
    let first : get_or buffer (start - 1) 0 ≡ 32 =
    sym (get_or-take start buffer (start - 1) 0 (omega arith))
    ∙ (ap (λ t. get_or t (start - 1) 0) before ∙ (get_or-take start filled (start - 1) 0 (omega arith) ∙ space)) in
    drop-cons buffer (start - 1) 0 lt
    ∙ (ap (λ x. x ∷ drop (suc (start - 1)) buffer) first
    ∙ ap (λ t. 32 ∷ t) (ap (λ n. drop n buffer) one ∙ (written ∙ append-nil digits)))

-- the lines of a kernel's arrays are the text of its arrays
pub kernel_rows : (kernel : Kernel) (arrays : List Declaration) (contents : List (List ℕ)) (pending : List ℕ)
    → pending ≡ [] → arrays ≡ kernel.arrays.items
    → pending ++ rows_text (map (λ a. a.name) arrays) contents ≡ array_text (program_of kernel) contents
kernel_rows kernel arrays contents pending none same =
    ap (λ p. p ++ rows_text (map (λ a. a.name) arrays) contents) none
    ∙ ap (λ names. rows_text names contents) (ap (λ a. map (λ b. b.name) a) same)

-- what was put so far, the line of the next array, and the lines behind it are all the lines
pub rows_split : (arrays : List Declaration) (contents : List (List ℕ)) (i : ℕ) (array : Declaration)
    (name cells done : List ℕ) → i < length arrays → i < length contents
    → name ≡ (get_or arrays i array).name → cells ≡ get_or contents i []
    → done ++ rows_text (drop i (map (λ a. a.name) arrays)) (drop i contents) ≡ rows_text
    (map (λ a. a.name) arrays) contents
    → done ++ ((row_text name cells ++ codes "\n") ++ rows_text (drop (i + 1) (map (λ a. a.name) arrays))
    (drop (i + 1) contents)) ≡ rows_text (map (λ a. a.name) arrays) contents
rows_split arrays contents i array name cells done within held named given whole =
    let names = map (λ (a : Declaration). a.name) arrays in
    let long : i < length names = omega (arith, length-map arrays (λ (a : Declaration). a.name)) in
    let at_name : get_or names i [] ≡ name = get_or-map (λ (a : Declaration). a.name) arrays i array [] within
    ∙ sym named in
    let line : row_text (get_or names i []) (get_or contents i []) ≡ row_text name cells =
    ap (λ n. row_text n (get_or contents i [])) at_name ∙ ap (row_text name) (sym given) in
    ap (λ t. done ++ ((t ++ codes "\n") ++ rows_text (drop (i + 1) names) (drop (i + 1) contents))) (sym line)
    ∙ (ap (λ t. done ++ t) (sym (rows_next names contents i long held)) ∙ whole)

-- no contents, no lines
rows_none : (names : List (List ℕ)) → rows_text names [] ≡ []
rows_none [] = refl
rows_none (name ∷ names) = refl

-- no lines are left where either list is at its end
pub rows_end : (names contents : List (List ℕ)) (i : ℕ) → min (length names) (length contents) ≤ i
    → rows_text (drop i names) (drop i contents) ≡ []
rows_end [] contents i past = let none : drop i (let e : List (List ℕ) = [] in e) ≡ [] =
    drop_of_length-le (let e : List (List ℕ) = [] in e) (omega arith) in ap (λ t. rows_text t (drop i contents)) none
rows_end (name ∷ names) [] i past =
    let none : drop i (let e : List (List ℕ) = [] in e) ≡ [] = drop_of_length-le (let e : List (List ℕ) = [] in e)
    (omega arith) in
    ap (λ t. rows_text (drop i (name ∷ names)) t) none ∙ rows_none (drop i (name ∷ names))
rows_end (name ∷ names) (cells ∷ contents) zero past = absurd (omega arith)
rows_end (name ∷ names) (cells ∷ contents) (suc i) past = rows_end names contents i (omega (arith, past))
