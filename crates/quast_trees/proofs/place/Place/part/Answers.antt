use Rattle.whole_numbers.proofs.Common.{rules, ◌<◌, Fits, length, FitsSigned, ap, sym, ◌∙◌, arith, w128, to_z-of_z}
use Rattle.std.proofs.Common.{w64}
use Rattle.quast_trees.specs.Place.{subtree}
use Rattle.quast_trees.proofs.Places.{within, root_at}
use Rattle.quast_trees.proofs.PlaceNodes.{initial_at, forms_at, branch_at, bind_at}
use Rattle.quast_trees.proofs.place.Place.part.Goals as goal

pub bounds-nodes-self-inside : goal.bounds-nodes-self-inside
bounds-nodes-self-inside c = within _ _ _ c.self.invariant

pub offset_bounds-nodes-self-inside : goal.offset_bounds-nodes-self-inside
offset_bounds-nodes-self-inside c =
    let h : c.self.inside.at < length c.self.inside.nodes.now = within _ _ _ c.self.invariant in
    search rules

pub overflow_add-result : goal.overflow_add-result
overflow_add-result c =
    let own = sym (root_at _ _ _ c.index-nodes-self.result c.self.invariant) ∙ sym c.index-nodes-self.is
    ∙ c.in-Branch.is in
    let room = (branch_at _ _ c.in-Branch.test c.in-Branch.second _ c.self.invariant own).room in
    let fits : Fits w64 c.self.inside.at = search rules in
    omega (arith, fits)

pub overflow_sub-result : goal.overflow_sub-result
overflow_sub-result c =
    let own = sym (root_at _ _ _ c.index-nodes-self.result c.self.invariant) ∙ sym c.index-nodes-self.is
    ∙ c.in-Branch.is in
    (branch_at _ _ c.in-Branch.test c.in-Branch.second _ c.self.invariant own).room

pub invariant_of-result : goal.invariant_of-result
invariant_of-result c =
    let own = sym (root_at _ _ _ c.index-nodes-self.result c.self.invariant) ∙ sym c.index-nodes-self.is
    ∙ c.in-Branch.is in
    (branch_at _ _ c.in-Branch.test c.in-Branch.second _ c.self.invariant own).first

pub invariant_of-result-in-Branch : goal.invariant_of-result-in-Branch
invariant_of-result-in-Branch c =
    let own = sym (root_at _ _ _ c.index-nodes-self.result c.self.invariant) ∙ sym c.index-nodes-self.is
    ∙ c.in-Branch.is in
    (branch_at _ _ c.in-Branch.test c.in-Branch.second _ c.self.invariant own).second

pub invariant_of-result-in-Bind : goal.invariant_of-result-in-Bind
invariant_of-result-in-Bind c =
    let own = sym (root_at _ _ _ c.index-nodes-self.result c.self.invariant) ∙ sym c.index-nodes-self.is
    ∙ c.in-Bind.is in
    (bind_at _ _ c.in-Bind.form c.in-Bind.divisor _ c.self.invariant own).body

pub returns-in-Initial : goal.returns-in-Initial
returns-in-Initial c =
    let own = sym (root_at _ _ _ c.index-nodes-self.result c.self.invariant) ∙ sym c.index-nodes-self.is
    ∙ c.in-Initial.is in
    sym (ap subtree c.self.view_is) ∙ initial_at _ own

pub returns-in-Forms : goal.returns-in-Forms
returns-in-Forms c =
    let own = sym (root_at _ _ _ c.index-nodes-self.result c.self.invariant) ∙ sym c.index-nodes-self.is
    ∙ c.in-Forms.is in
    sym (ap subtree c.self.view_is) ∙ forms_at _ c.in-Forms.forms own

pub returns-in-Branch : goal.returns-in-Branch
returns-in-Branch c =
    let own = sym (root_at _ _ _ c.index-nodes-self.result c.self.invariant) ∙ sym c.index-nodes-self.is
    ∙ c.in-Branch.is in
    sym (ap subtree c.self.view_is)
    ∙ (branch_at _ _ c.in-Branch.test c.in-Branch.second _ c.self.invariant own).tree

pub returns-in-Bind : goal.returns-in-Bind
returns-in-Bind c =
    let own = sym (root_at _ _ _ c.index-nodes-self.result c.self.invariant) ∙ sym c.index-nodes-self.is
    ∙ c.in-Bind.is in
    let fits : FitsSigned w128 c.in-Bind.divisor = search rules in
    simp to_z-of_z
    (sym (ap subtree c.self.view_is) ∙ (bind_at _ _ c.in-Bind.form c.in-Bind.divisor _ c.self.invariant own).tree)
