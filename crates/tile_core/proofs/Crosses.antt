-- Threads may share a plan and the words of a run: each part by a `search` of its own, since one through all of them
-- runs out of steps.
use denote.Param.Send.{IsSync, sendable}
use denote.Ref.{NamedLft}
use Rattle.std.proofs.Crossing.{crosses}
use Rattle.atomic_table.proofs.send_lease.SendLease.TheSendSync as lease
use Rattle.atomic_table.proofs.shared.Shared.TheSendSync as shared
use Rattle.loop_tree.proofs.tree.Node.TheLaws.TheKnot as nodes
use Rattle.loop_tree.specs.contracts.tree.Tree as Tree
use Rattle.scop_syntax.proofs.tree.Expr.TheLaws.TheKnot as expressions
use Rattle.scop_syntax.proofs.tree.Item.TheLaws.TheKnot as items
use Rattle.scop_syntax.specs.contracts.tree.Kernel as Kernel
use Rattle.tile_table.specs.contracts.table.Table as Table
use Rattle.tile_list.specs.contracts.list.TileList as TileList
use Rattle.tile_core.specs.contracts.expansion.Expansion as Expansion
use Rattle.tile_core.specs.contracts.plan.Plan as Plan
use Rattle.tile_core.specs.contracts.view.Key as Key
use Rattle.tile_core.specs.contracts.words.Words as Words

kernel_sync : IsSync Kernel.the_row
kernel_sync = search (crosses, expressions.crosses, items.crosses, sendable) depth 60 fits 20000

table_sync : IsSync Table.the_row
table_sync = search (crosses, sendable) depth 60 fits 20000

tree_sync : IsSync Tree.the_row
tree_sync = search (crosses, nodes.crosses, sendable) depth 60 fits 20000

list_sync : IsSync TileList.the_row
list_sync = search (crosses, sendable) depth 100 fits 20000

expansion_sync : IsSync Expansion.the_row
expansion_sync = search (crosses, sendable) depth 60 fits 20000

plan_sync : (κ : NamedLft) → IsSync (Plan.the_field κ).row
plan_sync κ =
    let a = kernel_sync in
    let b = table_sync in
    let c = tree_sync in
    let d = list_sync in
    let e = expansion_sync in
    search (crosses, sendable) depth 60 fits 20000

key_sync : (κ : NamedLft) → IsSync (Key.the_field κ).row
key_sync κ = let a = plan_sync κ in search (crosses, sendable) depth 60 fits 20000

pub words_sync : (κ : NamedLft) → IsSync (Words.the_row κ)
words_sync κ =
    let a = plan_sync κ in
    let b = key_sync κ in
    search (crosses, sendable, shared.the_sync, lease.the_sync) depth 60 fits 20000
