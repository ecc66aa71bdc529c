-- An expression that keeps the rules has a value that agrees with its facts, where its names have
-- values of their sorts.
use Rattle.std.proofs.Common.{◌≡◌, ℕ, zero, suc, Bool, true, false, ◌&&◌, ◌||◌, inl, inr, List, [], ◌∷◌, map, Option, Some, None, refl, sym, ap, ◌∙◌, subst, arith}
use Rattle.std.proofs.lemmas.Bool.{and_parts}
use Rattle.std.specs.Prelude.{ℤ, pos, nat_le, int_le}
use Rattle.std.specs.List.{fold, list_all, AllByRecursion}
use Rattle.std.proofs.lemmas.Int.{ints}
use Rattle.smv_ast.specs.declared.syntax.Op.{Op}
use Rattle.smv_ast.specs.declared.syntax.Expr.{Expr, Expr-F, roll-Expr, fold-roll-Expr, map-Expr, ind-Expr}
use Rattle.smv_ast.specs.declared.syntax.Choice.{Choice, Choice-F, roll-Choice, fold-roll-Choice, map-Choice}
use Rattle.smv_ast.specs.declared.syntax.Branch.{Branch, Branch-F, roll-Branch, fold-roll-Branch}
use Rattle.smv_meaning.specs.declared.value.Value.{Value}
use Rattle.smv_meaning.specs.declared.value.Value.TheVariants.{Boolean as Truth, Number as Whole, Symbol as Word}
use Rattle.smv_meaning.specs.Value.{Name, and_then, of_both, truth, same, operate, negated, logical_not, in_range}
use Rattle.smv_meaning.specs.Denotations.{Environment, Valued, Allowed, Denotation, BranchDenotation, single, parts_allow, taken_in, holds_in, case_value, case_allows, choice_denotation, expr_denotation, denotation_of, choice_allows, branch_denotation_of}
use Rattle.smv_kinds.specs.declared.sorts.Sort.{Sort}
use Rattle.smv_kinds.specs.declared.sorts.Sort.TheVariants.{Nothing}
use Rattle.smv_kinds.specs.declared.facts.Facts.{Facts}
use Rattle.smv_kinds.specs.Sorts.{is_boolean, has_kind, is_small, join, join_both, binary_sort, truth_sort, if_known, interval_sort}
use Rattle.smv_kinds.specs.Facts.{truth_facts, number_facts, name_facts, negation_facts, not_facts, next_facts, binary_facts, parts_sort, parts_facts, interval_facts, case_facts, within_choice, all_kinds, all_fit, all_suit, ChoiceFacts, Parts, Between, BranchFacts, SortEnvironment, pick_facts, choice_layer, expr_layer, facts_of, choice_facts_of, branch_facts_of}
use Rattle.smv_meaning.specs.MentionedPaths.{choice_denotations, expr_denotations, denotation_roll, choice_roll, branch_roll}
use Rattle.smv_kinds.specs.Monotone.{IsKnown, choice_facts, expr_facts, choice_facts_roll, facts_roll, branch_facts_roll}
use Rattle.smv_kinds.specs.Soundness.{IsTruth, FitsKnown, IsOf, Meets, IsKept, Allows, Shape, BranchShape, single_shape, choice_shape_layer, expr_shape_layer, branch_shape_layer, shape_of, choice_shape, branch_shape}
use Rattle.smv_kinds.proofs.ValueLemmas.{count_is, operator_transfer, negation_transfer, not_transfer, same_value}
use Rattle.smv_kinds.proofs.PartLemmas.{node_kept, as_boolean, either_true, part_of}
use Rattle.smv_kinds.proofs.KeptLemmas.{HasOne, AllKept, first_kept, parts_kept, case_kept, negation_kept, not_kept, next_kept, binary_kept, within_kept}

-- ---- defined values

truth_serves : (s : Option Sort) (u : Value) → FitsKnown (truth_sort s) u → IsTruth u
truth_serves None u h = absurd h
truth_serves (Some s) u h = h

truth_there : (s : Option Sort) (b : Bool) → has_kind s ≡ true → FitsKnown (truth_sort s) (Truth b)
truth_there None b h = cc
truth_there (Some s) b h = (b, refl)

truth_of : (s : Option Sort) (v : Value) (b : Bool) → FitsKnown s v → FitsKnown (truth_sort s) (Truth b)
truth_of None v b h = absurd h
truth_of (Some s) v b h = (b, refl)

if_known_of : (s t : Option Sort) (v u : Value) → FitsKnown s v → FitsKnown t u → FitsKnown (if_known s t) u
if_known_of None t v u h k = absurd h
if_known_of (Some s) t v u h k = k

there_of : (o : Option Sort) (v : Value) → FitsKnown o v → IsKnown o
there_of None v h = absurd h
there_of (Some s) v h = (s, refl)

if_known_there : (s t : Option Sort) (u : Value) → IsKnown s → FitsKnown t u → FitsKnown (if_known s t) u
if_known_there s t u h k = subst (λ (o : Option Sort). FitsKnown (if_known o t) u) (sym h.1) k

fold_there : (xs : List Facts) (o : Option Sort) → IsKnown o → AllByRecursion (λ x. IsKnown x.sort) xs → IsKnown (fold (λ sort a. join_both sort a.sort) o xs)
fold_there [] o h e = h
fold_there (x ∷ xs) o h e = fold_there xs (join_both o x.sort) (join h.0 e.0.0, ap (λ (p : Option Sort). join_both p x.sort) h.1 ∙ ap (join_both (Some h.0)) e.0.1) e.1

parts_there : (xs : List Facts) → AllByRecursion (λ x. IsKnown x.sort) xs → IsKnown (parts_sort xs)
parts_there [] e = (Nothing, refl)
parts_there (x ∷ xs) e = fold_there (x ∷ xs) x.sort e.0 e

numeral_serves : (n : ℕ) → nat_le n 1 ≡ true → IsTruth (Whole (pos n))
numeral_serves zero e = (false, refl)
numeral_serves (suc zero) e = (true, refl)
numeral_serves (suc (suc n)) e = absurd (grind arith)

-- ---- expressions

-- the shapes of the parts of a choice
abbrev pub choice_shapes : Choice-F Choice Expr Branch → Choice-F Shape Shape BranchShape
choice_shapes = map-Choice Choice Expr Branch Shape Shape BranchShape choice_shape shape_of branch_shape

-- the shapes of the parts of an expression
abbrev pub expr_shapes : Expr-F Choice Expr Branch → Expr-F Shape Shape BranchShape
expr_shapes = map-Expr Choice Expr Branch Shape Shape BranchShape choice_shape shape_of branch_shape

module _ (on : SortEnvironment) where
  -- names have values of their sorts
  abbrev pub Agrees : Environment → Type 0
  Agrees now = (path : List Name) → has_kind (on path) ≡ true → is_small (on path) ≡ true → (v : Value) × (now path ≡ Some v) × FitsKnown (on path) v

  -- an expression that keeps the rules has a value, and allows one as a right side
  pub record SoundAs (f : Facts) (sh : Shape) (s : Denotation) : Type 0 where
    pub loose : sh.plain ≡ true → sh.free ≡ true
    pub value : (now after : Environment) → Agrees now → Agrees after → IsKept f → sh.plain ≡ true → Meets f (s.value now after)
    pub allows : (now after : Environment) → Agrees now → Agrees after → IsKept f → sh.free ≡ true → Allows f (s.allows now after)

  record SoundAsChoice (o : ChoiceFacts) (sh : Shape) (al : Allowed) : Type 0 where
    within : (now after : Environment) → Agrees now → Agrees after → IsKept (pick_facts o) → sh.plain ≡ true → (v : Value) → (b : Bool) × (al now after v ≡ Some b)
    allows : (now after : Environment) → Agrees now → Agrees after → IsKept (pick_facts o) → sh.free ≡ true → Allows (pick_facts o) (al now after)

  record SoundAsBranch (g : BranchFacts) (sh : BranchShape) (s : BranchDenotation) : Type 0 where
    cond : SoundAs g.cond sh.cond s.cond
    value : SoundAs g.value sh.value s.value

  abbrev SoundExpr : Expr → Type 0
  SoundExpr e = SoundAs (facts_of on e) (shape_of e) (denotation_of e)

  abbrev SoundChoice : Choice → Type 0
  SoundChoice c = SoundAsChoice (choice_facts_of on c) (choice_shape c) (choice_allows c)

  abbrev SoundBranch : Branch → Type 0
  SoundBranch b = SoundAsBranch (branch_facts_of on b) (branch_shape b) (branch_denotation_of b)

  abbrev Exprs : Type 0
  Exprs = (e : Expr) × SoundExpr e

  abbrev Choices : Type 0
  Choices = (c : Choice) × SoundChoice c

  abbrev Branches : Type 0
  Branches = (b : Branch) × SoundBranch b

  -- an expression other than a choice allows exactly its value
  alone : (f : Facts) (plain : Bool) (binding : Valued) → ((now after : Environment) → Agrees now → Agrees after → IsKept f → plain ≡ true → Meets f (binding now after)) → SoundAs f (single_shape plain) (single binding)
  alone f plain binding has = record {
    loose = λ e. e;
    value = has;
    allows = λ now after n a k p.
        let m = has now after n a k p in
        record {
          total = λ v. (same v m.0, ap (λ (o : Option Value). and_then o (λ w. Some (same v w))) m.1);
          some = (m.0, m.2, ap (λ (o : Option Value). and_then o (λ w. Some (same m.0 w))) m.1 ∙ ap Some (same_value m.0));
          each = λ v h. let e : Some (same v m.0) ≡ Some true = sym (ap (λ (o : Option Value). and_then o (λ w. Some (same v w))) m.1) ∙ h in (m.0, (cc), m.2);
        };
  }

  -- ---- parts of a set

  abbrev facts_from : List Exprs → List Facts
  facts_from xs = map (facts_of on) (map (λ x. x.0) xs)

  abbrev shapes_from : List Exprs → List Shape
  shapes_from xs = map shape_of (map (λ x. x.0) xs)

  parts_total : (now after : Environment) → Agrees now → Agrees after → (xs : List Exprs) → AllKept (facts_from xs) → list_all (λ p. p.free) (shapes_from xs) ≡ true → (v : Value) → (b : Bool) × (parts_allow now after v (map denotation_of (map (λ x. x.0) xs)) ≡ Some b)
  parts_total now after n a [] k s v = (false, refl)
  parts_total now after n a (x ∷ xs) k s v =
      let f = first_kept (facts_of on x.0) (facts_from xs) k in
      let t = and_parts (shape_of x.0).free (list_all (λ p. p.free) (shapes_from xs)) s in
      let b = (x.1.allows now after n a f.0 t.0).total v in
      let c = parts_total now after n a xs f.1 t.1 v in
      (b.0 || c.0, ap (λ (o : Option Bool). of_both (λ b c. Some (b || c)) o (parts_allow now after v (map denotation_of (map (λ x. x.0) xs)))) b.1 ∙ ap (of_both (λ b c. Some (b || c)) (Some b.0)) c.1)

  loose_parts : (xs : List Exprs) → list_all (λ p. p.plain) (shapes_from xs) ≡ true → list_all (λ p. p.free) (shapes_from xs) ≡ true
  loose_parts [] h = refl
  loose_parts (x ∷ xs) h =
      let t = and_parts (shape_of x.0).plain (list_all (λ p. p.plain) (shapes_from xs)) h in
      rw (x.1.loose t.0) (loose_parts xs t.1)

  parts_some : (now after : Environment) → Agrees now → Agrees after → (xs : List Exprs) → IsKept (parts_facts (facts_from xs)) → list_all (λ p. p.free) (shapes_from xs) ≡ true →
      (v : Value) × IsOf (parts_facts (facts_from xs)) v × (parts_allow now after v (map denotation_of (map (λ x. x.0) xs)) ≡ Some true)
  parts_some now after n a [] k s = let e = k.kinds in cc
  parts_some now after n a (x ∷ xs) k s =
      let f = first_kept (facts_of on x.0) (facts_from xs) (parts_kept (facts_from (x ∷ xs)) k) in
      let t = and_parts (shape_of x.0).free (list_all (λ p. p.free) (shapes_from xs)) s in
      let w = (x.1.allows now after n a f.0 t.0).some in
      let c = parts_total now after n a xs f.1 t.1 w.0 in
      let up = (part_of (facts_from (x ∷ xs)) k).0 in
      (w.0, up w.0 w.1, ap (λ (o : Option Bool). of_both (λ b c. Some (b || c)) o (parts_allow now after w.0 (map denotation_of (map (λ x. x.0) xs)))) w.2 ∙ ap (of_both (λ b c. Some (b || c)) (Some true)) c.1)

  -- a value that one of the parts allows equals one that agrees with the facts of all
  parts_each : (now after : Environment) → Agrees now → Agrees after → (f : Facts) (xs : List Exprs) → AllByRecursion (λ g. (w : Value) → IsOf g w → IsOf f w) (facts_from xs) → AllKept (facts_from xs) → list_all (λ p. p.free) (shapes_from xs) ≡ true →
      (v : Value) → parts_allow now after v (map denotation_of (map (λ x. x.0) xs)) ≡ Some true → (w : Value) × (same v w ≡ true) × IsOf f w
  parts_each now after n a f [] up k s v h = cc
  parts_each now after n a f (x ∷ xs) up k s v h =
      let g = first_kept (facts_of on x.0) (facts_from xs) k in
      let t = and_parts (shape_of x.0).free (list_all (λ p. p.free) (shapes_from xs)) s in
      let one = x.1.allows now after n a g.0 t.0 in
      let b = one.total v in
      let c = parts_total now after n a xs g.1 t.1 v in
      let all = ap (λ (o : Option Bool). of_both (λ b c. Some (b || c)) o (parts_allow now after v (map denotation_of (map (λ x. x.0) xs)))) b.1 ∙ ap (of_both (λ b c. Some (b || c)) (Some b.0)) c.1 in
      let e : Some (b.0 || c.0) ≡ Some true = sym all ∙ h in
      let some : b.0 || c.0 ≡ true = (cc) in
      elim (either_true b.0 c.0 some) [
        | inl i ↦ let w = one.each v (b.1 ∙ ap Some i) in (w.0, w.1, up.0 w.0 w.2)
        | inr i ↦ parts_each now after n a f xs up.1 g.1 t.1 v (c.1 ∙ ap Some i)
      ]

  -- the underlying choice
  abbrev choice_from : Choice-F Choices Exprs Branches → Choice-F Choice Expr Branch
  choice_from = map-Choice Choices Exprs Branches Choice Expr Branch (λ c. c.0) (λ e. e.0) (λ b. b.0)

  interval_each : (low high : ℤ) → is_small (Some (interval_sort low high)) ≡ true → (v : Value) → in_range low high v ≡ true → (w : Value) × (same v w ≡ true) × IsOf (interval_facts low high) w
  interval_each low high small (Whole m) h =
      let b = and_parts (int_le low m) (int_le m high) h in
      let l = b.0 in
      let k = b.1 in
      (Whole m, same_value (Whole m), record { sort = (count_is low high m small (omega (arith, ints, l)) (omega (arith, ints, k))).0; serves = λ f. cc })
  interval_each low high small (Truth b) h = cc
  interval_each low high small (Word name) h = cc

  interval_some : (low high : ℤ) → IsKept (interval_facts low high) → int_le low high ≡ true → Allows (interval_facts low high) (λ v. Some (in_range low high v))
  interval_some low high k e =
      let n = node_kept (Some (interval_sort low high)) false true true true k in
      let c = count_is low high low n.narrow (omega (arith, ints)) (omega (arith, ints, e)) in
      let l : int_le low low ≡ true = grind (arith, ints) in
      record {
        total = λ v. (in_range low high v, refl);
        some = (Whole low, record { sort = c.0; serves = λ f. cc }, ap Some (ap (λ (b : Bool). b && int_le low high) l ∙ e));
        each = λ v h. interval_each low high n.narrow v (cc);
      }

  choice_sound : (y : Choice-F Choices Exprs Branches) → SoundAsChoice (choice_layer (choice_facts on (choice_from y))) (choice_shape_layer (choice_shapes (choice_from y))) (choice_denotation (choice_denotations (choice_from y)))
  choice_sound (Choice-F.Each xs) = record {
    within = λ now after n a k p v. parts_total now after n a xs (parts_kept (facts_from xs) k) (loose_parts xs p) v;
    allows = λ now after n a k p. record {
      total = parts_total now after n a xs (parts_kept (facts_from xs) k) p;
      some = parts_some now after n a xs k p;
      each = parts_each now after n a (parts_facts (facts_from xs)) xs (part_of (facts_from xs) k) (parts_kept (facts_from xs) k) p;
    };
  }
  choice_sound (Choice-F.Between low high) = record {
    within = λ now after n a k p v. (in_range low high v, refl);
    allows = λ now after n a k p. interval_some low high k p;
  }

  -- ---- cases

  -- the facts of the branches of a case
  abbrev conds : List Branches → List Facts
  conds bs = map (λ g. g.cond) (map (branch_facts_of on) (map (λ b. b.0) bs))

  abbrev values : List Branches → List Facts
  values bs = map (λ g. g.value) (map (branch_facts_of on) (map (λ b. b.0) bs))

  abbrev branch_shapes : List Branches → List BranchShape
  branch_shapes bs = map branch_shape (map (λ b. b.0) bs)

  abbrev denotations : List Branches → List BranchDenotation
  denotations bs = map branch_denotation_of (map (λ b. b.0) bs)

  -- a branch of a case that keeps the rules, whose value has a shape that is asked for
  record Ready (f : Facts) (flag : BranchShape → Bool) (b : Branches) : Type 0 where
    cond : IsKept (branch_facts_of on b.0).cond
    fits : (branch_facts_of on b.0).cond.fits ≡ true
    plain : (branch_shape b.0).cond.plain ≡ true
    value : IsKept (branch_facts_of on b.0).value
    flagged : flag (branch_shape b.0) ≡ true
    up : (v : Value) → IsOf (branch_facts_of on b.0).value v → IsOf f v

  ready : (f : Facts) (flag : BranchShape → Bool) (bs : List Branches) → AllKept (conds bs) → all_fit (conds bs) ≡ true → AllKept (values bs) → AllByRecursion (λ x. (v : Value) → IsOf x v → IsOf f v) (values bs)
      → list_all (λ b. b.cond.plain && flag b) (branch_shapes bs) ≡ true → AllByRecursion (Ready f flag) bs
  ready f flag [] c fit v u s = tt
  ready f flag (b ∷ bs) c fit v u s =
      let x = first_kept (branch_facts_of on b.0).cond (conds bs) c in
      let y = and_parts (branch_facts_of on b.0).cond.fits (all_fit (conds bs)) fit in
      let z = first_kept (branch_facts_of on b.0).value (values bs) v in
      let p = and_parts ((branch_shape b.0).cond.plain && flag (branch_shape b.0)) (list_all (λ b. b.cond.plain && flag b) (branch_shapes bs)) s in
      let q = and_parts (branch_shape b.0).cond.plain (flag (branch_shape b.0)) p.0 in
      (record { cond = x.0; fits = y.0; plain = q.0; value = z.0; flagged = q.1; up = u.0 }, ready f flag bs x.1 y.1 z.1 u.1 p.1)

  module _ (now after : Environment) (n : Agrees now) (a : Agrees after) (flag : BranchShape → Bool) where
    module _ (f : Facts) where
      -- its condition has a truth value
      known_of : (b : Branches) → Ready f flag b → (t : Bool) × (holds_in now after (branch_denotation_of b.0) ≡ Some t)
      known_of b r =
          let m = b.1.cond.value now after n a r.cond r.plain in
          let t = m.2.serves r.fits in
          (t.0, ap (λ (o : Option Value). and_then o truth) m.1 ∙ t.1)

      -- one of the branches is selected
      abbrev Takes : List Branches → Type 0
      Takes bs = (b : Branches) × (taken_in now after (denotations bs) ≡ Some (branch_denotation_of b.0)) × Ready f flag b

      take_next : (b d : Branches) (bs : List Branches) (t : Bool) → holds_in now after (branch_denotation_of b.0) ≡ Some t → Ready f flag b → Takes (d ∷ bs) → Takes (b ∷ d ∷ bs)
      take_next b d bs true h r k = (b, ap (λ (o : Option Bool). and_then o elim [ true ↦ Some (branch_denotation_of b.0) | false ↦ taken_in now after (denotations (d ∷ bs)) ]) h, r)
      take_next b d bs false h r k = (k.0, ap (λ (o : Option Bool). and_then o elim [ true ↦ Some (branch_denotation_of b.0) | false ↦ taken_in now after (denotations (d ∷ bs)) ]) h ∙ k.1, k.2)

      takes : (b : Branches) (bs : List Branches) → AllByRecursion (Ready f flag) (b ∷ bs) → Takes (b ∷ bs)
      takes b [] r = (b, refl, r.0)
      takes b (d ∷ bs) r = let t = known_of b r.0 in take_next b d bs t.0 t.1 r.0 (takes d bs r.1)

      takes_one : (bs : List Branches) → HasOne (values bs) → AllByRecursion (Ready f flag) bs → Takes bs
      takes_one [] h r = absurd h
      takes_one (b ∷ bs) h r = takes b bs r

      -- the sorts of the conditions are known
      conds_known : (bs : List Branches) → AllByRecursion (Ready f flag) bs → AllByRecursion (λ x. IsKnown x.sort) (conds bs)
      conds_known [] r = tt
      conds_known (b ∷ bs) r =
          let m = b.1.cond.value now after n a r.0.cond r.0.plain in (there_of (branch_facts_of on b.0).cond.sort m.0 m.2.sort, conds_known bs r.1)

    -- the branch that a case selects; its values agree with the facts of the case
    record Selected (bs : List Branches) : Type 0 where
      branch : Branches
      taken : taken_in now after (denotations bs) ≡ Some (branch_denotation_of branch.0)
      kept : IsKept (branch_facts_of on branch.0).value
      flagged : flag (branch_shape branch.0) ≡ true
      up : (v : Value) → IsOf (branch_facts_of on branch.0).value v → IsOf (case_facts (conds bs) (values bs)) v

    select : (bs : List Branches) → IsKept (case_facts (conds bs) (values bs)) → list_all (λ b. b.cond.plain && flag b) (branch_shapes bs) ≡ true → Selected bs
    select bs k p =
        let c = case_kept (conds bs) (values bs) k in
        let f = parts_facts (values bs) in
        let r = ready f flag bs c.conds_kept c.fit (parts_kept (values bs) c.set) (part_of (values bs) c.set) p in
        let t = takes_one f bs c.one r in
        record {
          branch = t.0;
          taken = t.1;
          kept = t.2.value;
          flagged = t.2.flagged;
          up = λ v h. let i = t.2.up v h in record { sort = if_known_there (parts_sort (conds bs)) (parts_sort (values bs)) v (parts_there (conds bs) (conds_known f bs r)) i.sort; serves = i.serves };
        }

  case_valued : (now after : Environment) → Agrees now → Agrees after → (bs : List Branches) → IsKept (case_facts (conds bs) (values bs)) → list_all (λ b. b.cond.plain && b.value.plain) (branch_shapes bs) ≡ true →
      Meets (case_facts (conds bs) (values bs)) (case_value now after (denotations bs))
  case_valued now after n a bs k p =
      let s = select now after n a (λ b. b.value.plain) bs k p in
      let m = s.branch.1.value.value now after n a s.kept s.flagged in
      (m.0, ap (λ (o : Option BranchDenotation). and_then o (λ b. b.value.value now after)) s.taken ∙ m.1, s.up m.0 m.2)

  case_allowed : (now after : Environment) → Agrees now → Agrees after → (bs : List Branches) → IsKept (case_facts (conds bs) (values bs)) → list_all (λ b. b.cond.plain && b.value.free) (branch_shapes bs) ≡ true →
      Allows (case_facts (conds bs) (values bs)) (case_allows now after (denotations bs))
  case_allowed now after n a bs k p =
      let s = select now after n a (λ b. b.value.free) bs k p in
      let m = s.branch.1.value.allows now after n a s.kept s.flagged in
      let is : (v : Value) → case_allows now after (denotations bs) v ≡ (branch_denotation_of s.branch.0).value.allows now after v = λ v. ap (λ (o : Option BranchDenotation). and_then o (λ b. b.value.allows now after v)) s.taken in
      record {
        total = λ v. let x = m.total v in (x.0, is v ∙ x.1);
        some = (m.some.0, s.up m.some.0 m.some.1, is m.some.0 ∙ m.some.2);
        each = λ v h. let x = m.each v (sym (is v) ∙ h) in (x.0, x.1, s.up x.0 x.2);
      }

  case_loose : (bs : List Branches) → list_all (λ b. b.cond.plain && b.value.plain) (branch_shapes bs) ≡ true → list_all (λ b. b.cond.plain && b.value.free) (branch_shapes bs) ≡ true
  case_loose [] h = refl
  case_loose (b ∷ bs) h =
      let x = and_parts ((branch_shape b.0).cond.plain && (branch_shape b.0).value.plain) (list_all (λ b. b.cond.plain && b.value.plain) (branch_shapes bs)) h in
      let y = and_parts (branch_shape b.0).cond.plain (branch_shape b.0).value.plain x.0 in
      rw (y.0, b.1.value.loose y.1) (case_loose bs x.1)

  cases_sound : (bs : List Branches) → SoundAs (case_facts (conds bs) (values bs)) (expr_shape_layer (Expr-F.Cases (branch_shapes bs))) (expr_denotation (Expr-F.Cases (denotations bs)))
  cases_sound bs = record {
    loose = case_loose bs;
    value = λ now after n a k p. case_valued now after n a bs k p;
    allows = λ now after n a k p. case_allowed now after n a bs k p;
  }

  -- ---- all expressions

  abbrev expr_from : Expr-F Choices Exprs Branches → Expr-F Choice Expr Branch
  expr_from = map-Expr Choices Exprs Branches Choice Expr Branch (λ c. c.0) (λ e. e.0) (λ b. b.0)

  name_value : (now : Environment) → Agrees now → (path : List Name) → IsKept (name_facts (on path)) → Meets (name_facts (on path)) (now path)
  name_value now n path k =
      let d = node_kept (on path) (is_boolean (on path)) true true true k in
      let r = n path d.kind d.narrow in
      (r.0, r.1, record { sort = r.2; serves = λ e. as_boolean (on path) r.0 e r.2 })

  number_value : (m : ℕ) → IsKept (number_facts m) → IsOf (number_facts m) (Whole (pos m))
  number_value m k =
      let d = node_kept (Some (interval_sort (pos m) (pos m))) (nat_le m 1) true true true k in
      record { sort = (count_is (pos m) (pos m) (pos m) d.narrow (omega (arith, ints)) (omega (arith, ints))).0; serves = numeral_serves m }

  neg_value : (a : Facts) (o : Option Value) → IsKept (negation_facts a) → (IsKept a → Meets a o) → Meets (negation_facts a) (and_then o negated)
  neg_value a o k has =
      let d = negation_kept a k in
      let m = has d.0 in
      let r = negation_transfer a.sort m.0 d.1 d.2 m.2.sort in
      (r.0, ap (λ (x : Option Value). and_then x negated) m.1 ∙ r.1, record { sort = r.2; serves = λ e. cc })

  not_value : (a : Facts) (o : Option Value) → IsKept (not_facts a) → (IsKept a → Meets a o) → Meets (not_facts a) (and_then o logical_not)
  not_value a o k has =
      let d = not_kept a k in
      let m = has d.0 in
      let r = not_transfer a m.0 d.1 m.2 in
      (r.0, ap (λ (x : Option Value). and_then x logical_not) m.1 ∙ r.1, record { sort = r.2; serves = λ e. truth_serves a.sort r.0 r.2 })

  next_value : (a : Facts) (o : Option Value) → IsKept (next_facts a) → (IsKept a → Meets a o) → Meets (next_facts a) o
  next_value a o k has =
      let m = has (next_kept a k) in
      (m.0, m.1, record { sort = m.2.sort; serves = λ e. as_boolean a.sort m.0 e m.2.sort })

  binary_value : (p : Op) (a b : Facts) (o q : Option Value) → IsKept (binary_facts p a b) → (IsKept a → Meets a o) → (IsKept b → Meets b q) → Meets (binary_facts p a b) (of_both (operate p) o q)
  binary_value p a b o q k has had =
      let d = binary_kept p a b k in
      let m = has d.left in
      let n = had d.right in
      let r = operator_transfer p a b m.0 n.0 d.rule d.divides d.narrow m.2 n.2 in
      (r.0, ap (λ (x : Option Value). of_both (operate p) x q) m.1 ∙ (ap (of_both (operate p) (Some m.0)) n.1 ∙ r.1), record { sort = r.2; serves = λ e. as_boolean (binary_sort p a.sort b.sort) r.0 e r.2 })

  -- the truth value of `in`
  within_of : (a : Facts) (c : ChoiceFacts) (v : Value) (b : Bool) → IsKept (pick_facts c) → IsOf a v → IsOf (within_choice a c) (Truth b)
  within_of a (Parts parts) v b k h =
      let there = (and_parts (all_kinds parts && all_suit (parts_sort parts) parts) (has_kind (parts_sort parts)) k.kinds).1 in
      record { sort = if_known_of a.sort (truth_sort (parts_sort parts)) v (Truth b) h.sort (truth_there (parts_sort parts) b there); serves = λ e. (b, refl) }
  within_of a (Between low high) v b k h = record { sort = truth_of a.sort v b h.sort; serves = λ e. (b, refl) }

  -- the value of `in`, given the value of its left side
  within_value : (a : Facts) (c : ChoiceFacts) (o : Option Value) (al : Value → Option Bool) → IsKept (within_choice a c) → (IsKept a → Meets a o) → (IsKept (pick_facts c) → (v : Value) → (b : Bool) × (al v ≡ Some b)) →
      Meets (within_choice a c) (and_then o (λ v. and_then (al v) (λ b. Some (Truth b))))
  within_value a c o al k has had =
      let d = within_kept a c k in
      let m = has d.0 in
      let b = had d.1 m.0 in
      (Truth b.0, ap (λ (x : Option Value). and_then x (λ v. and_then (al v) (λ b. Some (Truth b)))) m.1 ∙ ap (λ (x : Option Bool). and_then x (λ b. Some (Truth b))) b.1, within_of a c m.0 b.0 d.1 m.2)

  neg_sound : (a : Exprs) → SoundAs (negation_facts (facts_of on a.0)) (single_shape (shape_of a.0).plain) (single (λ now after. and_then ((denotation_of a.0).value now after) negated))
  neg_sound a = alone _ _ _ (λ now after n u k p. neg_value (facts_of on a.0) ((denotation_of a.0).value now after) k (λ x. a.1.value now after n u x p))

  not_sound : (a : Exprs) → SoundAs (not_facts (facts_of on a.0)) (single_shape (shape_of a.0).plain) (single (λ now after. and_then ((denotation_of a.0).value now after) logical_not))
  not_sound a = alone _ _ _ (λ now after n u k p. not_value (facts_of on a.0) ((denotation_of a.0).value now after) k (λ x. a.1.value now after n u x p))

  next_sound : (a : Exprs) → SoundAs (next_facts (facts_of on a.0)) (single_shape (shape_of a.0).plain) (single (λ now after. (denotation_of a.0).value after after))
  next_sound a = alone _ _ _ (λ now after n u k p. next_value (facts_of on a.0) ((denotation_of a.0).value after after) k (λ x. a.1.value after after u u x p))

  binary_sound : (op : Op) (a b : Exprs) → SoundAs (binary_facts op (facts_of on a.0) (facts_of on b.0)) (single_shape ((shape_of a.0).plain && (shape_of b.0).plain)) (single (λ now after. of_both (operate op) ((denotation_of a.0).value now after) ((denotation_of b.0).value now after)))
  binary_sound op a b = alone _ _ _ (λ now after n u k p. let q = and_parts (shape_of a.0).plain (shape_of b.0).plain p in
      binary_value op (facts_of on a.0) (facts_of on b.0) ((denotation_of a.0).value now after) ((denotation_of b.0).value now after) k (λ x. a.1.value now after n u x q.0) (λ x. b.1.value now after n u x q.1))

  within_sound : (a : Exprs) (c : Choices) → SoundAs (within_choice (facts_of on a.0) (choice_facts_of on c.0)) (single_shape ((shape_of a.0).plain && (choice_shape c.0).plain)) (single (λ now after. and_then ((denotation_of a.0).value now after) (λ v. and_then (choice_allows c.0 now after v) (λ b. Some (Truth b)))))
  within_sound a c = alone _ _ _ (λ now after n u k p. let q = and_parts (shape_of a.0).plain (choice_shape c.0).plain p in
      within_value (facts_of on a.0) (choice_facts_of on c.0) ((denotation_of a.0).value now after) (choice_allows c.0 now after) k (λ x. a.1.value now after n u x q.0) (λ x v. c.1.within now after n u x q.1 v))

  pick_sound : (c : Choices) → SoundAs (pick_facts (choice_facts_of on c.0)) (record { plain = false; free = (choice_shape c.0).free }) (record { value = λ now after. None; allows = choice_allows c.0 })
  pick_sound c = record { loose = λ e. cc; value = λ now after n u k p. cc; allows = c.1.allows }

  expr_sound : (y : Expr-F Choices Exprs Branches) → SoundAs (expr_layer on (expr_facts on (expr_from y))) (expr_shape_layer (expr_shapes (expr_from y))) (expr_denotation (expr_denotations (expr_from y)))
  expr_sound Expr-F.True = alone truth_facts true (λ now after. Some (Truth true)) (λ now after n u k p. (Truth true, refl, record { sort = (true, refl); serves = λ e. (true, refl) }))
  expr_sound Expr-F.False = alone truth_facts true (λ now after. Some (Truth false)) (λ now after n u k p. (Truth false, refl, record { sort = (false, refl); serves = λ e. (false, refl) }))
  expr_sound (Expr-F.Number m) = alone (number_facts m) true (λ now after. Some (Whole (pos m))) (λ now after n u k p. (Whole (pos m), refl, number_value m k))
  expr_sound (Expr-F.Name path) = alone (name_facts (on path.names)) true (λ now after. now path.names) (λ now after n u k p. name_value now n path.names k)
  expr_sound (Expr-F.Neg a) = neg_sound a
  expr_sound (Expr-F.Not a) = not_sound a
  expr_sound (Expr-F.Binary op a b) = binary_sound op a b
  expr_sound (Expr-F.Within a c) = within_sound a c
  expr_sound (Expr-F.Cases branches) = cases_sound branches
  expr_sound (Expr-F.Next a) = next_sound a
  expr_sound (Expr-F.Pick c) = pick_sound c

  -- one layer of the induction
  choice_step : (d : Choice-F Choice Expr Branch) → SoundAsChoice (choice_layer (choice_facts on d)) (choice_shape_layer (choice_shapes d)) (choice_denotation (choice_denotations d)) → SoundChoice (roll-Choice d)
  choice_step d h =
      subst (λ (x : ChoiceFacts). SoundAsChoice x (choice_shape (roll-Choice d)) (choice_allows (roll-Choice d))) (sym (choice_facts_roll on d))
      (subst (λ (x : Shape). SoundAsChoice (choice_layer (choice_facts on d)) x (choice_allows (roll-Choice d))) (sym (fold-roll-Choice Shape Shape BranchShape choice_shape_layer expr_shape_layer branch_shape_layer d))
      (subst (λ (x : Allowed). SoundAsChoice (choice_layer (choice_facts on d)) (choice_shape_layer (choice_shapes d)) x) (sym (choice_roll d)) h))

  expr_step : (d : Expr-F Choice Expr Branch) → SoundAs (expr_layer on (expr_facts on d)) (expr_shape_layer (expr_shapes d)) (expr_denotation (expr_denotations d)) → SoundExpr (roll-Expr d)
  expr_step d h =
      subst (λ (x : Facts). SoundAs x (shape_of (roll-Expr d)) (denotation_of (roll-Expr d))) (sym (facts_roll on d))
      (subst (λ (x : Shape). SoundAs (expr_layer on (expr_facts on d)) x (denotation_of (roll-Expr d))) (sym (fold-roll-Expr Shape Shape BranchShape choice_shape_layer expr_shape_layer branch_shape_layer d))
      (subst (λ (x : Denotation). SoundAs (expr_layer on (expr_facts on d)) (expr_shape_layer (expr_shapes d)) x) (sym (denotation_roll d)) h))

  branch_step : (x y : Exprs) → SoundBranch (roll-Branch (record { cond = x.0; value = y.0 }))
  branch_step x y =
      let d : Branch-F Choice Expr Branch = record { cond = x.0; value = y.0 } in
      subst (λ (z : BranchFacts). SoundAsBranch z (branch_shape (roll-Branch d)) (branch_denotation_of (roll-Branch d))) (sym (branch_facts_roll on x.0 y.0))
      (subst (λ (z : BranchShape). SoundAsBranch (record { cond = facts_of on x.0; value = facts_of on y.0 }) z (branch_denotation_of (roll-Branch d))) (sym (fold-roll-Branch Shape Shape BranchShape choice_shape_layer expr_shape_layer branch_shape_layer d))
      (subst (λ (z : BranchDenotation). SoundAsBranch (record { cond = facts_of on x.0; value = facts_of on y.0 }) (record { cond = shape_of x.0; value = shape_of y.0 }) z) (sym (branch_roll x.0 y.0)) (record { cond = x.1; value = y.1 })))

  -- each expression that keeps the rules has a value that agrees with its facts
  pub sound : (e : Expr) → SoundExpr e
  sound = ind-Expr SoundChoice SoundExpr SoundBranch
      (λ x y e. subst (λ (d : Choice-F Choice Expr Branch). SoundChoice (roll-Choice d)) e (choice_step (choice_from y) (choice_sound y)))
      (λ x y e. subst (λ (d : Expr-F Choice Expr Branch). SoundExpr (roll-Expr d)) e (expr_step (expr_from y) (expr_sound y)))
      (λ x y e. subst (λ (d : Branch-F Choice Expr Branch). SoundBranch (roll-Branch d)) e (branch_step y.cond y.value))
