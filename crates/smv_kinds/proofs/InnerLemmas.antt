-- The subexpressions of an expression that keeps the rules, with its choices where they may be,
-- keep the rules too.
use Rattle.std.proofs.Common.{◌≡◌, ℕ, zero, suc, inl, inr, Bool, true, ◌&&◌, List, [], ◌∷◌, map, subst}
use Rattle.std.proofs.lemmas.Bool.{and_parts}
use Rattle.std.specs.List.{flat_map, list_all, AllByRecursion}
use Rattle.smv_ast.specs.declared.syntax.Expr.{Expr, Expr-F, out-Expr, fold_out-Expr}
use Rattle.smv_ast.specs.declared.syntax.Choice.{Choice, Choice-F, out-Choice, fold_out-Choice}
use Rattle.smv_ast.specs.declared.syntax.Branch.{Branch, out-Branch, fold_out-Branch}
use Rattle.smv_kinds.specs.declared.facts.Facts.{Facts}
use Rattle.smv_kinds.specs.Facts.{ChoiceFacts, BranchFacts, SortEnvironment, pick_facts, choice_layer, expr_layer, branch_layer, facts_of, choice_facts_of, branch_facts_of}
use Rattle.smv_kinds.specs.Parts.{choice_layer_parts, choice_parts, branch_parts, expr_layer_parts, direct_parts, parts_below}
use Rattle.smv_kinds.specs.Monotone.{choice_facts, expr_facts}
use Rattle.smv_kinds.specs.Soundness.{IsKept, Shape, BranchShape, choice_shape_layer, expr_shape_layer, branch_shape_layer, shape_of, choice_shape, branch_shape}
use Rattle.smv_kinds.proofs.KeptLemmas.{AllKept, first_kept, parts_kept, case_kept, negation_kept, not_kept, next_kept, binary_kept, within_kept}
use Rattle.smv_kinds.proofs.SoundLemmas.{choice_shapes, expr_shapes, sound}
use Rattle.smv_meaning.proofs.MemberLemmas.{In, from_flat}

module _ (on : SortEnvironment) where
  -- an expression that keeps the rules, with its choices where they may be
  pub record Kept (e : Expr) : Type 0 where
    pub kept : IsKept (facts_of on e)
    pub free : (shape_of e).free ≡ true

  plain_kept : (e : Expr) → IsKept (facts_of on e) → (shape_of e).plain ≡ true → Kept e
  plain_kept e k p = record { kept = k; free = (sound on e).loose p }

  -- ---- choices

  parts_in : (flag : Shape → Bool) → ((e : Expr) → IsKept (facts_of on e) → flag (shape_of e) ≡ true → Kept e) → (parts : List Expr) → AllKept (map (facts_of on) parts) → list_all flag (map shape_of parts) ≡ true → AllByRecursion Kept parts
  parts_in flag up [] k s = tt
  parts_in flag up (e ∷ parts) k s =
      let a = first_kept (facts_of on e) (map (facts_of on) parts) k in
      let b = and_parts (flag (shape_of e)) (list_all flag (map shape_of parts)) s in
      (up e a.0 b.0, parts_in flag up parts a.1 b.1)

  free_layer : (d : Choice-F Choice Expr Branch) → IsKept (pick_facts (choice_layer (choice_facts on d))) → (choice_shape_layer (choice_shapes d)).free ≡ true → AllByRecursion Kept (choice_layer_parts d)
  free_layer (Choice-F.Each parts) k s = parts_in (λ s. s.free) (λ e kept free. record { kept = kept; free = free }) parts (parts_kept (map (facts_of on) parts) k) s
  free_layer (Choice-F.Between low high) k s = tt

  plain_layer : (d : Choice-F Choice Expr Branch) → IsKept (pick_facts (choice_layer (choice_facts on d))) → (choice_shape_layer (choice_shapes d)).plain ≡ true → AllByRecursion Kept (choice_layer_parts d)
  plain_layer (Choice-F.Each parts) k s = parts_in (λ s. s.plain) plain_kept parts (parts_kept (map (facts_of on) parts) k) s
  plain_layer (Choice-F.Between low high) k s = tt

  opened : (c : Choice) → IsKept (pick_facts (choice_facts_of on c)) → IsKept (pick_facts (choice_layer (choice_facts on (out-Choice c))))
  opened c k = subst (λ (o : ChoiceFacts). IsKept (pick_facts o)) (fold_out-Choice ChoiceFacts Facts BranchFacts choice_layer (expr_layer on) branch_layer c) k

  shape_opens : (c : Choice) → choice_shape c ≡ choice_shape_layer (choice_shapes (out-Choice c))
  shape_opens c = fold_out-Choice Shape Shape BranchShape choice_shape_layer expr_shape_layer branch_shape_layer c

  free_choice : (c : Choice) → IsKept (pick_facts (choice_facts_of on c)) → (choice_shape c).free ≡ true → AllByRecursion Kept (choice_parts c)
  free_choice c k s = free_layer (out-Choice c) (opened c k) (subst (λ (x : Shape). x.free ≡ true) (shape_opens c) s)

  plain_choice : (c : Choice) → IsKept (pick_facts (choice_facts_of on c)) → (choice_shape c).plain ≡ true → AllByRecursion Kept (choice_parts c)
  plain_choice c k s = plain_layer (out-Choice c) (opened c k) (subst (λ (x : Shape). x.plain ≡ true) (shape_opens c) s)

  -- ---- branches

  branch_facts_are : (b : Branch) → branch_facts_of on b ≡ record { cond = facts_of on (out-Branch b).cond; value = facts_of on (out-Branch b).value }
  branch_facts_are b = fold_out-Branch ChoiceFacts Facts BranchFacts choice_layer (expr_layer on) branch_layer b

  shapes_are : (b : Branch) → branch_shape b ≡ record { cond = shape_of (out-Branch b).cond; value = shape_of (out-Branch b).value }
  shapes_are b = fold_out-Branch Shape Shape BranchShape choice_shape_layer expr_shape_layer branch_shape_layer b

  abbrev conds : List Branch → List Facts
  conds branches = map (λ g. g.cond) (map (branch_facts_of on) branches)

  abbrev values : List Branch → List Facts
  values branches = map (λ g. g.value) (map (branch_facts_of on) branches)

  branches_kept : (branches : List Branch) → AllKept (conds branches) → AllKept (values branches) → list_all (λ s. s.cond.plain && s.value.free) (map branch_shape branches) ≡ true → AllByRecursion Kept (flat_map branch_parts branches)
  branches_kept [] c v s = tt
  branches_kept (b ∷ branches) c v s =
      let x = first_kept (branch_facts_of on b).cond (conds branches) c in
      let y = first_kept (branch_facts_of on b).value (values branches) v in
      let z = and_parts ((branch_shape b).cond.plain && (branch_shape b).value.free) (list_all (λ s. s.cond.plain && s.value.free) (map branch_shape branches)) s in
      let w = and_parts (branch_shape b).cond.plain (branch_shape b).value.free z.0 in
      let cond = subst (λ (g : BranchFacts). IsKept g.cond) (branch_facts_are b) x.0 in
      let value = subst (λ (g : BranchFacts). IsKept g.value) (branch_facts_are b) y.0 in
      let plain = subst (λ (s : BranchShape). s.cond.plain ≡ true) (shapes_are b) w.0 in
      let free = subst (λ (s : BranchShape). s.value.free ≡ true) (shapes_are b) w.1 in
      (plain_kept (out-Branch b).cond cond plain, (record { kept = value; free = free }, branches_kept branches x.1 y.1 z.1))

  -- ---- expressions

  layer_kept : (d : Expr-F Choice Expr Branch) → IsKept (expr_layer on (expr_facts on d)) → (expr_shape_layer (expr_shapes d)).free ≡ true → AllByRecursion Kept (expr_layer_parts d)
  layer_kept Expr-F.True k s = tt
  layer_kept Expr-F.False k s = tt
  layer_kept (Expr-F.Number n) k s = tt
  layer_kept (Expr-F.Name path) k s = tt
  layer_kept (Expr-F.Neg a) k s = (plain_kept a (negation_kept (facts_of on a) k).0 s, tt)
  layer_kept (Expr-F.Not a) k s = (plain_kept a (not_kept (facts_of on a) k).0 s, tt)
  layer_kept (Expr-F.Binary op a b) k s =
      let p = and_parts (shape_of a).plain (shape_of b).plain s in
      let r = binary_kept op (facts_of on a) (facts_of on b) k in
      (plain_kept a r.left p.0, (plain_kept b r.right p.1, tt))
  layer_kept (Expr-F.Within a c) k s =
      let p = and_parts (shape_of a).plain (choice_shape c).plain s in
      let r = within_kept (facts_of on a) (choice_facts_of on c) k in
      (plain_kept a r.0 p.0, plain_choice c r.1 p.1)
  layer_kept (Expr-F.Cases branches) k s =
      let r = case_kept (conds branches) (values branches) k in
      branches_kept branches r.conds_kept (parts_kept (values branches) r.set) s
  layer_kept (Expr-F.Next a) k s = (plain_kept a (next_kept (facts_of on a) k) s, tt)
  layer_kept (Expr-F.Pick c) k s = free_choice c k s

  direct_kept : (e : Expr) → Kept e → AllByRecursion Kept (direct_parts e)
  direct_kept e h = layer_kept (out-Expr e)
      (subst IsKept (fold_out-Expr ChoiceFacts Facts BranchFacts choice_layer (expr_layer on) branch_layer e) h.kept)
      (subst (λ (x : Shape). x.free ≡ true) (fold_out-Expr Shape Shape BranchShape choice_shape_layer expr_shape_layer branch_shape_layer e) h.free)

  each_in : (parts : List Expr) (e : Expr) → AllByRecursion Kept parts → In e parts → Kept e
  each_in [] e h i = absurd i
  each_in (p ∷ parts) e h (inl same) = subst Kept same h.0
  each_in (p ∷ parts) e h (inr i) = each_in parts e h.1 i

  -- each subexpression of an expression that keeps the rules does too
  pub part_kept : (layers : ℕ) (e part : Expr) → Kept e → In part (parts_below layers e) → Kept part
  part_kept zero e part h (inl same) = subst Kept same h
  part_kept zero e part h (inr i) = absurd i
  part_kept (suc layers) e part h i =
      let r = from_flat (parts_below layers) (direct_parts e) part i in
      part_kept layers r.0 part (each_in (direct_parts e) r.0 (direct_kept e h) r.1) r.2
