-- Sums of nodes are independent of the number that they start from.
use Rattle.std.proofs.Common.{◌≡◌, ℕ, zero, suc, pred, ◌-◌, ◌^◌, ◌<◌, ◌||◌, List, [], ◌∷◌, length, map, refl, sym, ap, ◌∙◌, arith}
use Rattle.std.proofs.Math.Bool.{or_assoc, or-false}
use Rattle.smv_ast.specs.declared.syntax.Branch.{Branch, out-Branch, fold_out-Branch}
use Rattle.smv_nodes.specs.declared.own.Nodes.{Nodes}
use Rattle.smv_nodes.specs.Own.{saturating_add, none, both, part_nodes, parts_after, read_branch, branches_nodes, nodes_of, branch_nodes, choice_layer, expr_layer, branch_layer}

pub saturating_add_assoc : (a b c : ℕ) → saturating_add (saturating_add a b) c ≡ saturating_add a (saturating_add b c)
saturating_add_assoc a b c = omega arith

-- adding nothing
pub saturating_add_zero : (n : ℕ) → n < 2 ^ 64 → saturating_add n 0 ≡ n
saturating_add_zero n h = omega arith

pub saturating_add_more : (a b : ℕ) → saturating_add (saturating_add a b) 0 ≡ saturating_add a b
saturating_add_more a b = omega arith

pub saturating_add_less : (a b : ℕ) → saturating_add 0 (saturating_add a b) ≡ saturating_add a b
saturating_add_less a b = omega arith

pub both_assoc : (a b c : Nodes) → both (both a b) c ≡ both a (both b c)
both_assoc a b c = rw (saturating_add_assoc a.value b.value c.value, saturating_add_assoc a.right b.right c.right, or_assoc a.free b.free c.free) refl

-- a sum is below the end of `u64` already
pub both_none : (a b : Nodes) → both (both a b) none ≡ both a b
both_none a b = rw (saturating_add_more a.value b.value, saturating_add_more a.right b.right, or-false (a.free || b.free)) refl

none_both : (a b : Nodes) → both none (both a b) ≡ both a b
none_both a b = rw (saturating_add_less a.value b.value, saturating_add_less a.right b.right) refl

pub parts_whole : (ors : ℕ) (parts : List Nodes) → both none (parts_after ors parts) ≡ parts_after ors parts
parts_whole ors [] = refl
parts_whole ors (part ∷ more) = none_both (part_nodes ors part) (parts_after 1 more)

pub branches_whole : (conds : ℕ) (branches : List (Nodes × Nodes)) → both none (branches_nodes conds branches) ≡ branches_nodes conds branches
branches_whole conds [] = refl
branches_whole zero (branch ∷ more) = none_both branch.1 (branches_nodes zero more)
branches_whole (suc conds) (branch ∷ more) = none_both (read_branch branch.0) (both branch.1 (branches_nodes conds more))

-- ---- the branches of a case

pub branch_is : (b : Branch) → branch_nodes b ≡ (nodes_of (out-Branch b).cond, nodes_of (out-Branch b).value)
branch_is b = fold_out-Branch Nodes Nodes (Nodes × Nodes) choice_layer expr_layer branch_layer b

pub all_conds : (branches : List Branch) → length branches - 1 ≡ pred (length (map branch_nodes branches))
all_conds [] = refl
all_conds (b ∷ more) = less_one (length more) ∙ as_many more
  where
    less_one : (n : ℕ) → suc n - 1 ≡ n
    less_one n = omega arith

    as_many : (branches : List Branch) → length branches ≡ length (map branch_nodes branches)
    as_many [] = refl
    as_many (b ∷ more) = ap suc (as_many more)

-- a branch whose condition is read
pub next_read : (found read after : Nodes) (conds left : ℕ) (b : Branch) (here tail : List Branch) (all : Nodes) → here ≡ b ∷ tail → conds ≡ suc left →
    read ≡ both found (read_branch (nodes_of (out-Branch b).cond)) → after ≡ both read (nodes_of (out-Branch b).value) →
    both found (branches_nodes conds (map branch_nodes here)) ≡ all → both after (branches_nodes left (map branch_nodes tail)) ≡ all
next_read found read after conds left b here tail all split one r a same =
    let c = read_branch (nodes_of (out-Branch b).cond) in
    let v = nodes_of (out-Branch b).value in
    let others = branches_nodes left (map branch_nodes tail) in
    ap (λ x. both x others) (a ∙ ap (λ x. both x v) r) ∙ both_assoc (both found c) v others ∙ both_assoc found c (both v others)
    ∙ ap (λ p. both found (both (read_branch p.0) (both p.1 others))) (sym (branch_is b))
    ∙ ap (λ n. both found (branches_nodes n (map branch_nodes (b ∷ tail)))) (sym one)
    ∙ ap (λ xs. both found (branches_nodes conds (map branch_nodes xs))) (sym split) ∙ same

-- the last branch
pub next_last : (found read after : Nodes) (conds left : ℕ) (b : Branch) (here tail : List Branch) (all : Nodes) → here ≡ b ∷ tail → conds ≡ 0 → left ≡ 0 →
    read ≡ found → after ≡ both read (nodes_of (out-Branch b).value) →
    both found (branches_nodes conds (map branch_nodes here)) ≡ all → both after (branches_nodes left (map branch_nodes tail)) ≡ all
next_last found read after conds left b here tail all split none_read none_left r a same =
    let v = nodes_of (out-Branch b).value in
    let others = branches_nodes 0 (map branch_nodes tail) in
    ap (λ n. both after (branches_nodes n (map branch_nodes tail))) none_left
    ∙ ap (λ x. both x others) (a ∙ ap (λ x. both x v) r) ∙ both_assoc found v others
    ∙ ap (λ p. both found (both p.1 others)) (sym (branch_is b))
    ∙ ap (λ n. both found (branches_nodes n (map branch_nodes (b ∷ tail)))) (sym none_read)
    ∙ ap (λ xs. both found (branches_nodes conds (map branch_nodes xs))) (sym split) ∙ same
