-- Where the sort of an expression is known, its facts are steady: more sorts of names change nothing.
-- So the sorts of names are monotone.
use Rattle.std.specs.Prelude.{◌≡◌, ℕ, List, [], ◌∷◌, map, Option, Some, None, refl}
use Rattle.std.proofs.Common.{sym, subst, ap, ◌∙◌}
use Rattle.std.specs.List.{fold, AllByRecursion}
use Rattle.smv_ast.specs.declared.syntax.Op.{Op}
use Rattle.smv_ast.specs.declared.syntax.Expr.{Expr, Expr-F, roll-Expr, fold-roll-Expr, map-Expr, ind-Expr}
use Rattle.smv_ast.specs.declared.syntax.Choice.{Choice, Choice-F, roll-Choice, fold-roll-Choice, map-Choice}
use Rattle.smv_ast.specs.declared.syntax.Branch.{Branch, Branch-F, roll-Branch, fold-roll-Branch}
use Rattle.smv_ast.specs.declared.program.Program.{Program}
use Rattle.smv_meaning.specs.declared.table.InstanceTable.{InstanceTable}
use Rattle.smv_meaning.specs.Value.{Name}
use Rattle.fixpoint.specs.Fixpoints.{Under}
use Rattle.smv_meaning.specs.Paths.{QualifiedName, Binding, IsVariable, IsInstance, IsDefine, IsFormal, IsNothing, resolve}
use Rattle.smv_meaning.specs.Slots.{binding_in}
use Rattle.fixpoint.specs.OptionOrder.{Le}
use Rattle.smv_meaning.specs.StepMonotone.{slot_step_monotone}
use Rattle.smv_kinds.specs.declared.sorts.Sort.{Sort}
use Rattle.smv_kinds.specs.declared.facts.Facts.{Facts}
use Rattle.smv_kinds.specs.Sorts.{join_both, binary_sort, truth_sort, if_known, negated_sort, defined_sort}
use Rattle.smv_kinds.specs.Facts.{name_facts, negation_facts, not_facts, next_facts, binary_facts, parts_sort, case_facts, ChoiceFacts, Parts, Between, BranchFacts, SortEnvironment, pick_facts, within_choice, choice_layer, expr_layer, branch_layer, facts_of, choice_facts_of, branch_facts_of}
use Rattle.smv_kinds.specs.SortsOfNames.{Sorts, sort_at, sorting_by, sort_by, sort_of, symbol_sort, row_variable, sort_slots}

-- a sort is known
abbrev pub IsKnown : Option Sort → Type 0
IsKnown o = (s : Sort) × (o ≡ Some s)

unknown : {P : Type 0} → IsKnown None → P
unknown k = let e = k.1 in cc

if_known_known : (s t : Option Sort) → IsKnown (if_known s t) → IsKnown s × IsKnown t
if_known_known None t k = unknown k
if_known_known (Some a) t k = ((a, refl), k)

truth_known : (s : Option Sort) → IsKnown (truth_sort s) → IsKnown s
truth_known None k = unknown k
truth_known (Some a) k = (a, refl)

negated_known : (s : Option Sort) → IsKnown (negated_sort s) → IsKnown s
negated_known None k = unknown k
negated_known (Some a) k = (a, refl)

both_known : (o : Op) (s t : Option Sort) → IsKnown (binary_sort o s t) → IsKnown s × IsKnown t
both_known o None t k = unknown k
both_known o (Some a) None k = unknown k
both_known o (Some a) (Some b) k = ((a, refl), (b, refl))

join_known : (s t : Option Sort) → IsKnown (join_both s t) → IsKnown s × IsKnown t
join_known None t k = unknown k
join_known (Some a) None k = unknown k
join_known (Some a) (Some b) k = ((a, refl), (b, refl))

tail_known : (xs : List Facts) (o : Option Sort) → IsKnown (fold (λ sort a. join_both sort a.sort) o xs) → IsKnown o × AllByRecursion (λ x. IsKnown x.sort) xs
tail_known [] o k = (k, tt)
tail_known (x ∷ xs) o k =
    let r = tail_known xs (join_both o x.sort) k in
    let j = join_known o x.sort r.0 in
    (j.0, (j.1, r.1))

parts_known : (xs : List Facts) → IsKnown (parts_sort xs) → AllByRecursion (λ x. IsKnown x.sort) xs
parts_known [] k = tt
parts_known (x ∷ xs) k = (tail_known (x ∷ xs) x.sort k).1

-- the facts of the parts of a choice
abbrev pub choice_facts : SortEnvironment → Choice-F Choice Expr Branch → Choice-F ChoiceFacts Facts BranchFacts
choice_facts on = map-Choice Choice Expr Branch ChoiceFacts Facts BranchFacts (choice_facts_of on) (facts_of on) (branch_facts_of on)

-- the facts of the parts of an expression
abbrev pub expr_facts : SortEnvironment → Expr-F Choice Expr Branch → Expr-F ChoiceFacts Facts BranchFacts
expr_facts on = map-Expr Choice Expr Branch ChoiceFacts Facts BranchFacts (choice_facts_of on) (facts_of on) (branch_facts_of on)

pub choice_facts_roll : (on : SortEnvironment) (d : Choice-F Choice Expr Branch) → choice_facts_of on (roll-Choice d) ≡ choice_layer (choice_facts on d)
choice_facts_roll on d = fold-roll-Choice ChoiceFacts Facts BranchFacts choice_layer (expr_layer on) branch_layer d

pub facts_roll : (on : SortEnvironment) (d : Expr-F Choice Expr Branch) → facts_of on (roll-Expr d) ≡ expr_layer on (expr_facts on d)
facts_roll on d = fold-roll-Expr ChoiceFacts Facts BranchFacts choice_layer (expr_layer on) branch_layer d

pub branch_facts_roll : (on : SortEnvironment) (a b : Expr) → branch_facts_of on (roll-Branch (record { cond = a; value = b })) ≡ record { cond = facts_of on a; value = facts_of on b }
branch_facts_roll on a b = fold-roll-Branch ChoiceFacts Facts BranchFacts choice_layer (expr_layer on) branch_layer (record { cond = a; value = b })

module _ (on on' : SortEnvironment) (under : Under on on') where
  -- the facts are stable
  abbrev SteadyExpr : Expr → Type 0
  SteadyExpr e = IsKnown (facts_of on e).sort → facts_of on e ≡ facts_of on' e

  abbrev SteadyChoice : Choice → Type 0
  SteadyChoice c = IsKnown (pick_facts (choice_facts_of on c)).sort → choice_facts_of on c ≡ choice_facts_of on' c

  record SteadyBranch (b : Branch) : Type 0 where
    cond : IsKnown (branch_facts_of on b).cond.sort → (branch_facts_of on b).cond ≡ (branch_facts_of on' b).cond
    value : IsKnown (branch_facts_of on b).value.sort → (branch_facts_of on b).value ≡ (branch_facts_of on' b).value

  abbrev Exprs : Type 0
  Exprs = (e : Expr) × SteadyExpr e

  abbrev Choices : Type 0
  Choices = (c : Choice) × SteadyChoice c

  abbrev Branches : Type 0
  Branches = (b : Branch) × SteadyBranch b

  -- lists whose members are stable
  module _ {X : Type 0} (f g : X → Facts) where
    list_steady : (xs : List ((x : X) × (IsKnown (f x).sort → f x ≡ g x))) → AllByRecursion (λ a. IsKnown a.sort) (map f (map (λ x. x.0) xs)) → map f (map (λ x. x.0) xs) ≡ map g (map (λ x. x.0) xs)
    list_steady [] k = refl
    list_steady (x ∷ xs) k = ap (λ a. a ∷ map f (map (λ x. x.0) xs)) (x.1 k.0) ∙ ap (λ more. g x.0 ∷ more) (list_steady xs k.1)

  abbrev choice_from : Choice-F Choices Exprs Branches → Choice-F Choice Expr Branch
  choice_from = map-Choice Choices Exprs Branches Choice Expr Branch (λ c. c.0) (λ e. e.0) (λ b. b.0)

  abbrev expr_from : Expr-F Choices Exprs Branches → Expr-F Choice Expr Branch
  expr_from = map-Expr Choices Exprs Branches Choice Expr Branch (λ c. c.0) (λ e. e.0) (λ b. b.0)

  choice_steady : (y : Choice-F Choices Exprs Branches) → IsKnown (pick_facts (choice_layer (choice_facts on (choice_from y)))).sort → choice_layer (choice_facts on (choice_from y)) ≡ choice_layer (choice_facts on' (choice_from y))
  choice_steady (Choice-F.Each xs) k = ap Parts (list_steady (facts_of on) (facts_of on') xs (parts_known (map (facts_of on) (map (λ x. x.0) xs)) k))
  choice_steady (Choice-F.Between low high) k = refl

  -- the conditions and the values of a case
  part_list : (part : BranchFacts → Facts) (bs : List Branches) → ((b : Branches) → IsKnown (part (branch_facts_of on b.0)).sort → part (branch_facts_of on b.0) ≡ part (branch_facts_of on' b.0)) → AllByRecursion (λ a. IsKnown a.sort) (map part (map (branch_facts_of on) (map (λ b. b.0) bs))) →
      map part (map (branch_facts_of on) (map (λ b. b.0) bs)) ≡ map part (map (branch_facts_of on') (map (λ b. b.0) bs))
  part_list part [] h k = refl
  part_list part (b ∷ bs) h k = ap (λ a. a ∷ map part (map (branch_facts_of on) (map (λ b. b.0) bs))) (h b k.0) ∙ ap (λ more. part (branch_facts_of on' b.0) ∷ more) (part_list part bs h k.1)

  cases_steady : (bs : List Branches) → let c : SortEnvironment → List Facts = (λ s. map (λ g. g.cond) (map (branch_facts_of s) (map (λ b. b.0) bs))) in let v : SortEnvironment → List Facts = (λ s. map (λ g. g.value) (map (branch_facts_of s) (map (λ b. b.0) bs))) in
      IsKnown (case_facts (c on) (v on)).sort → case_facts (c on) (v on) ≡ case_facts (c on') (v on')
  cases_steady bs k =
      let cs : List Facts = map (λ g. g.cond) (map (branch_facts_of on) (map (λ b. b.0) bs)) in
      let vs : List Facts = map (λ g. g.value) (map (branch_facts_of on) (map (λ b. b.0) bs)) in
      let b = if_known_known (parts_sort cs) (parts_sort vs) k in
      let x = part_list (λ g. g.cond) bs (λ b. b.1.cond) (parts_known cs b.0) in
      let y = part_list (λ g. g.value) bs (λ b. b.1.value) (parts_known vs b.1) in
      ap (λ (z : List Facts). case_facts z vs) x ∙ ap (case_facts (map (λ g. g.cond) (map (branch_facts_of on') (map (λ b. b.0) bs)))) y

  within_known : (a : Facts) (o : ChoiceFacts) → IsKnown (within_choice a o).sort → IsKnown a.sort × IsKnown (pick_facts o).sort
  within_known a (Parts parts) k = let b = if_known_known a.sort (truth_sort (parts_sort parts)) k in (b.0, truth_known (parts_sort parts) b.1)
  within_known a (Between low high) k = (truth_known a.sort k, (_, refl))

  name_steady : (o q : Option Sort) → ((s : Sort) → o ≡ Some s → q ≡ Some s) → IsKnown o → name_facts o ≡ name_facts q
  name_steady o q u k = ap name_facts (k.1 ∙ sym (u k.0 k.1))

  expr_steady : (y : Expr-F Choices Exprs Branches) → IsKnown (expr_layer on (expr_facts on (expr_from y))).sort → expr_layer on (expr_facts on (expr_from y)) ≡ expr_layer on' (expr_facts on' (expr_from y))
  expr_steady Expr-F.True k = refl
  expr_steady Expr-F.False k = refl
  expr_steady (Expr-F.Number n) k = refl
  expr_steady (Expr-F.Name path) k = name_steady (on path.names) (on' path.names) (under path.names) k
  expr_steady (Expr-F.Neg a) k = ap negation_facts (a.1 (negated_known (facts_of on a.0).sort k))
  expr_steady (Expr-F.Not a) k = ap not_facts (a.1 (truth_known (facts_of on a.0).sort k))
  expr_steady (Expr-F.Binary op a b) k =
      let t = both_known op (facts_of on a.0).sort (facts_of on b.0).sort k in
      ap (λ (x : Facts). binary_facts op x (facts_of on b.0)) (a.1 t.0) ∙ ap (binary_facts op (facts_of on' a.0)) (b.1 t.1)
  expr_steady (Expr-F.Within a c) k =
      let t = within_known (facts_of on a.0) (choice_facts_of on c.0) k in
      ap (λ (x : Facts). within_choice x (choice_facts_of on c.0)) (a.1 t.0) ∙ ap (within_choice (facts_of on' a.0)) (c.1 t.1)
  expr_steady (Expr-F.Cases branches) k = cases_steady branches k
  expr_steady (Expr-F.Next a) k = ap next_facts (a.1 k)
  expr_steady (Expr-F.Pick c) k = ap pick_facts (c.1 k)

  choice_step : (d : Choice-F Choice Expr Branch) → (IsKnown (pick_facts (choice_layer (choice_facts on d))).sort → choice_layer (choice_facts on d) ≡ choice_layer (choice_facts on' d)) → SteadyChoice (roll-Choice d)
  choice_step d h k = choice_facts_roll on d ∙ (h (subst (λ (x : ChoiceFacts). IsKnown (pick_facts x).sort) (choice_facts_roll on d) k) ∙ sym (choice_facts_roll on' d))

  expr_step : (d : Expr-F Choice Expr Branch) → (IsKnown (expr_layer on (expr_facts on d)).sort → expr_layer on (expr_facts on d) ≡ expr_layer on' (expr_facts on' d)) → SteadyExpr (roll-Expr d)
  expr_step d h k = facts_roll on d ∙ (h (subst (λ (x : Facts). IsKnown x.sort) (facts_roll on d) k) ∙ sym (facts_roll on' d))

  branch_step : (x y : Exprs) → SteadyBranch (roll-Branch (record { cond = x.0; value = y.0 }))
  branch_step x y =
      let p = branch_facts_roll on x.0 y.0 in
      let q = branch_facts_roll on' x.0 y.0 in
      record {
        cond = λ k. ap (λ (g : BranchFacts). g.cond) p ∙ (x.1 (subst (λ (g : BranchFacts). IsKnown g.cond.sort) p k) ∙ sym (ap (λ (g : BranchFacts). g.cond) q));
        value = λ k. ap (λ (g : BranchFacts). g.value) p ∙ (y.1 (subst (λ (g : BranchFacts). IsKnown g.value.sort) p k) ∙ sym (ap (λ (g : BranchFacts). g.value) q));
      }

  pub steady : (e : Expr) → SteadyExpr e
  steady = ind-Expr SteadyChoice SteadyExpr SteadyBranch
      (λ x y e. subst (λ (d : Choice-F Choice Expr Branch). SteadyChoice (roll-Choice d)) e (choice_step (choice_from y) (choice_steady y)))
      (λ x y e. subst (λ (d : Expr-F Choice Expr Branch). SteadyExpr (roll-Expr d)) e (expr_step (expr_from y) (expr_steady y)))
      (λ x y e. subst (λ (d : Branch-F Choice Expr Branch). SteadyBranch (roll-Branch d)) e (branch_step y.cond y.value))

module _ {P : Type 0} (binding : QualifiedName P → Option (Binding P)) (variable : QualifiedName P → Sort) (symbols : SortEnvironment) where
  -- the sort of a path is monotone in the sorts of names
  pub at_path_monotone : (s t : Sorts P) → Under s t → (path : List Name) (o : Option (QualifiedName P))
      → Le (sort_at symbols s path o) (sort_at symbols t path o)
  at_path_monotone s t u path None = λ v e. e
  at_path_monotone s t u path (Some qualified) = u qualified

  -- the sort of an expression in an instance is monotone in the sorts of names
  read_monotone : (s t : Sorts P) → Under s t → (instance : P) (e : Expr)
      → Le (sort_by binding variable symbols s instance e)
      (sort_by binding variable symbols t instance e)
  read_monotone s t u instance e v known =
      let same = steady (sorting_by binding variable symbols s instance)
      (sorting_by binding variable symbols t instance)
      (λ path. at_path_monotone s t u path (resolve binding instance path)) e (v, known) in
      sym (ap (λ (a : Facts). a.sort) same) ∙ known

  -- `defined_sort` is monotone
  defined_monotone : (s s' : Option Sort) → Le s s' → Le (defined_sort s) (defined_sort s')
  defined_monotone None s' h v e = cc
  defined_monotone (Some s) s' h v e = ap defined_sort (h s refl) ∙ e

  -- the sort of a name by its binding is monotone in the sorts of names
  pub sort_of_monotone : (s t : Sorts P) → Under s t → (qualified : QualifiedName P) (m : Binding P)
      → Le (sort_of binding variable symbols s qualified m)
      (sort_of binding variable symbols t qualified m)
  sort_of_monotone s t u qualified IsVariable = λ v e. e
  sort_of_monotone s t u qualified (IsInstance instance) = λ v e. e
  sort_of_monotone s t u qualified (IsDefine right) = defined_monotone
      (sort_by binding variable symbols s qualified.instance right)
      (sort_by binding variable symbols t qualified.instance right)
      (read_monotone s t u qualified.instance right)
  sort_of_monotone s t u qualified (IsFormal instance actual) = read_monotone s t u instance actual
  sort_of_monotone s t u qualified IsNothing = λ v e. e

-- the transfer function of sorts on slots is monotone
pub sort_slots_monotone : (program : Program) (table : InstanceTable) (s t : ℕ → Option Sort)
    → Under s t → Under (sort_slots program table s) (sort_slots program table t)
sort_slots_monotone program table =
    slot_step_monotone table (sort_of (binding_in table) (row_variable table) (symbol_sort program))
    (sort_of_monotone (binding_in table) (row_variable table) (symbol_sort program))
