use Rattle.scop_syntax.proofs.Common.{◌≡◌, OnOk, ℕ, List, map, subst, codes}
use Rattle.loop_tree.specs.View.{bounds_in}
use Rattle.c_printer.specs.Nodes.{lower_text, upper_text}
use Rattle.c_printer.specs.Statements.{between}
use Rattle.c_printer.proofs.PutTexts.{five_behind}
use Rattle.c_printer.proofs.nodes.put_head.Goals as goal

pub returns : goal.returns
unfolding lower_text upper_text
returns c =
    let name = c.args.name.now in
    let names = map (λ n. n.items) c.args.names.now in
    subst (λ (t : List ℕ). OnOk c.put_between-3.result (c.put_between-3.new.out.items ≡ t))
    (five_behind c.args.out.now.items c.put_between.new.out.items c.put_bounds.new.out.items
    c.put_between-2.new.out.items c.put_bounds-2.new.out.items (between (codes "for (int64_t ") name (codes " = "))
    (lower_text names c.args.loops (bounds_in c.args.head.now.lower)) (between (codes "; ") name (codes " <= "))
    (upper_text names c.args.loops (bounds_in c.args.head.now.upper)) (between (codes "; ") name (codes "++) {\n"))
    c.in_ok-put_between.ensures c.in_ok-put_bounds.ensures c.in_ok-put_between-2.ensures c.in_ok-put_bounds-2.ensures)
    c.put_between-3.ensures
