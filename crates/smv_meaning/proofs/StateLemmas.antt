-- Values and answers depend on the values that a state gives the program's variables alone.
use Rattle.std.proofs.Common.{◌≡◌, ℕ, zero, suc, inl, inr, Bool, true, false, ◌&&◌, ◌||◌, List, [], ◌∷◌, map, length, Option, Some, None, codes, refl, sym, ap, ◌∙◌, subst, cond, arith}
use Rattle.std.specs.Prelude.{find}
use Rattle.std.specs.List.{list_any, Contains}
use Rattle.std.specs.Str.{bytes_eq}
use Rattle.std.proofs.lemmas.Slice.Eq.{bytes_eq-Decides}
use mathlib.Core.Path.{fun_ext}
use Rattle.smv_ast.specs.declared.syntax.Expr.{Expr}
use Rattle.smv_ast.specs.declared.syntax.Span.{Span}
use Rattle.smv_ast.specs.declared.program.Left.TheVariants as left
use Rattle.smv_ast.specs.declared.program.Program.{Program}
use Rattle.smv_meaning.specs.declared.value.Value.{Value}
use Rattle.smv_meaning.specs.declared.run.RunState.{RunState}
use Rattle.smv_meaning.specs.declared.run.RunAnswer.{RunAnswer}
use Rattle.smv_meaning.specs.declared.run.RunAnswer.TheVariants as answer
use Rattle.smv_meaning.specs.declared.items.Role.TheVariants as role
use Rattle.fixpoint.specs.Fixpoints.{known, most}
use Rattle.smv_meaning.specs.Value.{Name, and_then, is_true}
use Rattle.smv_meaning.specs.Paths.{QualifiedName, Binding, IsVariable, IsInstance, IsDefine, IsFormal, IsNothing, resolve}
use Rattle.smv_meaning.specs.Denotations.{Environment, denotation_of}
use Rattle.smv_meaning.specs.Instances.{Instance, Main, binding_at, subtree, instances, instance_text, module_at}
use Rattle.smv_meaning.specs.Items.{Item, Assigns, Constrains, items, at_of}
use Rattle.smv_meaning.specs.Values.{State, Valuation, symbol_of, value_at_path, environment_by, read_by, value_of_binding, valuation_step, variable_in, values_in, environment_in, value_in, allows_in}
use Rattle.smv_meaning.specs.Runs.{VariableAt, variables, same_path, IsState, IsExactState, written_state, state_of, surely, is_assigned, is_true_in, begins, stays, steps, meets, unless_met, or_else, first_fault, broken_at, first_broken, answer_from, answer_of, HasInstance, instance_named, holds_at}
use Rattle.smv_meaning.specs.RunCheck.{written_answer, held_at}
use Rattle.smv_meaning.proofs.MemberLemmas.{In, in_of, from_map}
use Rattle.smv_meaning.proofs.BindingLemmas.{bound_variable, formal_there, resolves_in}

-- ---- the paths of variables

same_path_itself : (path : List Name) → same_path path path ≡ true
same_path_itself [] = refl
same_path_itself (name ∷ more) = ap (λ b. b && same_path more more) ((bytes_eq-Decides name name).1 refl) ∙ same_path_itself more

any_in : {A : Type 0} (p : A → Bool) (xs : List A) (x : A) → In x xs → p x ≡ true → list_any p xs ≡ true
any_in p [] x i h = absurd i
any_in p (y ∷ ys) x (inl e) h = ap (λ b. b || list_any p ys) (ap p e ∙ h)
any_in p (y ∷ ys) x (inr i) h = ap (λ b. p y || b) (any_in p ys x i h) ∙ either (p y)
  where
    either : (b : Bool) → (b || true) ≡ true
    either true = refl
    either false = refl

-- two states give the variables of a program the same values
abbrev pub Agree : Program → State → State → Type 0
Agree program s t = (x : VariableAt) → In x (variables program) → s x.path ≡ t x.path

-- the state that a written state describes gives the variables the values that are written
pub state_agrees : (program : Program) (written : RunState) → Agree program (state_of program written) (written_state written)
state_agrees program written x i =
    ap (λ (b : Bool). cond b (written_state written x.path) None) (any_in (λ y. same_path y.path x.path) (variables program) x i (same_path_itself x.path))

-- the state that a written state describes is one of the program where each variable has a value
-- of its type
pub exact_state : (program : Program) (written : RunState) → IsState program (state_of program written) → IsExactState program (state_of program written)
exact_state program written values = record {
  values = values;
  only = λ path e. ap (λ (b : Bool). cond b (written_state written path) None) e;
}

-- ---- values

module _ (program : Program) (s t : State) (agree : Agree program s t) where
  -- two valuations agree on the instances of the program
  abbrev Same : Valuation Instance → Valuation Instance → Type 0
  Same u w = (qualified : QualifiedName Instance) → In qualified.instance (instances program) → u qualified ≡ w qualified

  environment_same : (u w : Valuation Instance) → Same u w → (instance : Instance) → In instance (instances program) → environment_by (binding_at program) (symbol_of program) u instance ≡ environment_by (binding_at program) (symbol_of program) w instance
  environment_same u w h instance i = fun_ext (λ path. at path (resolve (binding_at program) instance path) refl)
    where
      at : (path : List Name) (o : Option (QualifiedName Instance)) → resolve (binding_at program) instance path ≡ o → value_at_path (symbol_of program) u path o ≡ value_at_path (symbol_of program) w path o
      at path None e = refl
      at path (Some qualified) e = h qualified (resolves_in program path instance qualified i e)

  read_same : (u w : Valuation Instance) → Same u w → (instance : Instance) (e : Expr) → In instance (instances program) → read_by (binding_at program) (symbol_of program) u instance e ≡ read_by (binding_at program) (symbol_of program) w instance e
  read_same u w h instance e i = ap (λ (x : Environment). (denotation_of e).value x x) (environment_same u w h instance i)

  step_same : (u w : Valuation Instance) → Same u w → Same (valuation_step (binding_at program) (symbol_of program) (variable_in s) u) (valuation_step (binding_at program) (symbol_of program) (variable_in t) w)
  step_same u w h qualified i = at (binding_at program qualified) refl
    where
      bound : (m : Binding Instance) → binding_at program qualified ≡ Some m → value_of_binding (binding_at program) (symbol_of program) (variable_in s) u qualified m ≡ value_of_binding (binding_at program) (symbol_of program) (variable_in t) w qualified m
      bound IsVariable e = let x = bound_variable program qualified i e in subst (λ (path : List Name). s path ≡ t path) x.2 (agree x.0 x.1)
      bound (IsInstance c) e = refl
      bound (IsDefine right) e = read_same u w h qualified.instance right i
      bound (IsFormal outer actual) e = read_same u w h outer actual (formal_there program qualified outer actual i e)
      bound IsNothing e = refl

      at : (o : Option (Binding Instance)) → binding_at program qualified ≡ o → and_then o (value_of_binding (binding_at program) (symbol_of program) (variable_in s) u qualified) ≡ and_then o (value_of_binding (binding_at program) (symbol_of program) (variable_in t) w qualified)
      at None e = refl
      at (Some m) e = bound m e

  known_same : (rounds : ℕ) → Same (known (valuation_step (binding_at program) (symbol_of program) (variable_in s)) rounds) (known (valuation_step (binding_at program) (symbol_of program) (variable_in t)) rounds)
  known_same zero qualified i = refl
  known_same (suc rounds) qualified i = step_same _ _ (known_same rounds) qualified i

  values_same : Same (values_in program s) (values_in program t)
  values_same = known_same most

  pub environment_in_same : (instance : Instance) → In instance (instances program) → environment_in program s instance ≡ environment_in program t instance
  environment_in_same instance i = environment_same (values_in program s) (values_in program t) values_same instance i

-- ---- items

module _ (program : Program) (instance : Instance) (i : In instance (instances program)) where
  value_same : (s s' t t' : State) → Agree program s s' → Agree program t t' → (e : Expr) → value_in program s t instance e ≡ value_in program s' t' instance e
  value_same s s' t t' a b e =
      ap (λ (x : Environment). (denotation_of e).value x (environment_in program t instance)) (environment_in_same program s s' a instance i)
      ∙ ap (λ (x : Environment). (denotation_of e).value (environment_in program s' instance) x) (environment_in_same program t t' b instance i)

  allows_same : (s s' t t' : State) → Agree program s s' → Agree program t t' → (e : Expr) (v : Value) → allows_in program s t instance e v ≡ allows_in program s' t' instance e v
  allows_same s s' t t' a b e v =
      ap (λ (x : Environment). (denotation_of e).allows x (environment_in program t instance) v) (environment_in_same program s s' a instance i)
      ∙ ap (λ (x : Environment). (denotation_of e).allows (environment_in program s' instance) x v) (environment_in_same program t t' b instance i)

  true_same : (s s' t t' : State) → Agree program s s' → Agree program t t' → (e : Expr) → is_true_in program instance s t e ≡ is_true_in program instance s' t' e
  true_same s s' t t' a b e = ap is_true (value_same s s' t t' a b e)

  assigned_same : (o o' s s' t t' : State) → Agree program o o' → Agree program s s' → Agree program t t' → (name : Name) (e : Expr) → is_assigned program instance o s t name e ≡ is_assigned program instance o' s' t' name e
  assigned_same o o' s s' t t' c a b name e =
      ap (λ (v : Option Value). surely (and_then v (allows_in program s t instance e))) (values_same program o o' c (record { instance = instance; name = name }) i)
      ∙ ap (λ (f : Value → Option Bool). surely (and_then (values_in program o' (record { instance = instance; name = name })) f)) (fun_ext (allows_same s s' t t' a b e))

  begins_same : (s s' : State) → Agree program s s' → (item : Item) → begins program instance s item ≡ begins program instance s' item
  begins_same s s' a (Constrains role.Init e at) = true_same s s' s s' a a e
  begins_same s s' a (Assigns left.Init name right at) = assigned_same s s' s s' s s' a a a name right
  begins_same s s' a _ = refl

  stays_same : (s s' : State) → Agree program s s' → (item : Item) → stays program instance s item ≡ stays program instance s' item
  stays_same s s' a (Constrains role.Invariant e at) = true_same s s' s s' a a e
  stays_same s s' a (Assigns left.Now name right at) = assigned_same s s' s s' s s' a a a name right
  stays_same s s' a _ = refl

  steps_same : (s s' t t' : State) → Agree program s s' → Agree program t t' → (item : Item) → steps program instance s t item ≡ steps program instance s' t' item
  steps_same s s' t t' a b (Constrains role.Transition e at) = true_same s s' t t' a b e
  steps_same s s' t t' a b (Assigns left.Next name right at) = assigned_same t t' s s' t t' b a b name right
  steps_same s s' t t' a b _ = refl

-- ---- answers

module _ (program : Program) where
  -- two states before, if any
  abbrev Before : Option State → Option State → Type 0
  Before None None = Unit {0}
  Before (Some s) (Some t) = Agree program s t
  Before s t = ⊥

  meets_same : (instance : Instance) → In instance (instances program) → (before before' : Option State) (s s' : State) → Before before before' → Agree program s s' → (item : Item) → meets program before s instance item ≡ meets program before' s' instance item
  meets_same instance i None None s s' b a item =
      ap (λ (x : Bool). x && stays program instance s item) (begins_same program instance i s s' a item) ∙ ap (λ (x : Bool). begins program instance s' item && x) (stays_same program instance i s s' a item)
  meets_same instance i (Some p) (Some q) s s' b a item =
      ap (λ (x : Bool). x && steps program instance p s item) (stays_same program instance i s s' a item) ∙ ap (λ (x : Bool). stays program instance s' item && x) (steps_same program instance i p q s s' b a item)
  meets_same instance i None (Some q) s s' b a item = absurd b
  meets_same instance i (Some p) None s s' b a item = absurd b

  first_same : {A B : Type 0} (f g : A → Option B) (xs : List A) → ((x : A) → In x xs → f x ≡ g x) → first_fault f xs ≡ first_fault g xs
  first_same f g [] h = refl
  first_same f g (x ∷ xs) h = ap (λ o. or_else o (first_fault f xs)) (h x (inl refl)) ∙ ap (or_else (g x)) (first_same f g xs (λ y i. h y (inr i)))

  broken_same : (before before' : Option State) (s s' : State) → Before before before' → Agree program s s' → first_broken program before s ≡ first_broken program before' s'
  broken_same before before' s s' b a =
      first_same (λ instance. first_fault (broken_at program before s instance) (items (module_at program instance))) (λ instance. first_fault (broken_at program before' s' instance) (items (module_at program instance))) (instances program)
      (λ instance i. first_same (broken_at program before s instance) (broken_at program before' s' instance) (items (module_at program instance)) (λ item j. ap (λ (x : Bool). unless_met x (at_of item)) (meets_same instance i before before' s s' b a item)))

  from_same : (step : ℕ) (before before' : Option State) (states : List RunState) → Before before before' → answer_from program step before (map (state_of program) states) ≡ answer_from program step before' (map written_state states)
  from_same step before before' [] b = refl
  from_same step before before' (w ∷ more) b =
      ap (λ (o : Option Span). elim o as (λ o. RunAnswer) [ Some at ↦ answer.Breaks step at | None ↦ answer_from program (suc step) (Some (state_of program w)) (map (state_of program) more) ]) (broken_same before before' (state_of program w) (written_state w) b (state_agrees program w))
      ∙ ap (λ (tail : RunAnswer). elim (first_broken program before' (written_state w)) as (λ o. RunAnswer) [ Some at ↦ answer.Breaks step at | None ↦ tail ]) (from_same (suc step) (Some (state_of program w)) (Some (written_state w)) more (state_agrees program w))

  -- paths that are no variables' don't matter to the answer on a written run
  pub answer_same : (states : List RunState) → written_answer program states ≡ answer_of program states
  answer_same states = sym (from_same 0 None None states tt)

-- nor to the truth of an expression
abbrev held_by : Program → Expr → State → Option Instance → Bool
held_by program e s o = elim o as (λ o. Bool) [ None ↦ false | Some instance ↦ is_true (value_in program s s instance e) ]

-- two states give an expression the same truth in the first instance of a text
abbrev SameTruth : Program → Expr → State → State → Option Instance → Type 0
SameTruth program e s t o = held_by program e s o ≡ held_by program e t o

held_among : (program : Program) (text : List ℕ) (e : Expr) (s t : State) → Agree program s t → (ps : List Instance) → ((instance : Instance) → In instance ps → In instance (instances program)) → SameTruth program e s t (find (λ instance. bytes_eq (instance_text instance) text) ps)
held_among program text e s t a [] h = refl
held_among program text e s t a (p ∷ ps) h = at (bytes_eq (instance_text p) text) (held_among program text e s t a ps (λ instance i. h instance (inr i)))
  where
    at : (b : Bool) → SameTruth program e s t (find (λ instance. bytes_eq (instance_text instance) text) ps) → SameTruth program e s t (cond b (Some p) (find (λ instance. bytes_eq (instance_text instance) text) ps))
    at true more = true_same program p (h p (inl refl)) s t s t a a e
    at false more = more

held_same : (program : Program) (text : List ℕ) (e : Expr) (written : RunState) → held_at program text e (state_of program written) ≡ held_at program text e (written_state written)
held_same program text e written = held_among program text e (state_of program written) (written_state written) (state_agrees program written) (instances program) (λ instance i. i)

find_in : {A : Type 0} (p : A → Bool) (xs : List A) (x : A) → In x xs → p x ≡ true → (y : A) × (find p xs ≡ Some y)
find_in p [] x i h = absurd i
find_in {A} p (y ∷ ys) x (inl e) h = (y, ap (λ (b : Bool). cond b (Some y) (find p ys)) (ap p e ∙ h))
find_in {A} p (y ∷ ys) x (inr i) h = at (p y) (find_in p ys x i h)
  where
    at : (b : Bool) → (z : A) × (find p ys ≡ Some z) → (z : A) × (cond b (Some y) (find p ys) ≡ Some z)
    at true r = (y, refl)
    at false r = r

-- the answer where there is an instance of this text
pub holds_there : (program : Program) (text : List ℕ) (e : Expr) (written : RunState) (b : Bool) → HasInstance program text → b ≡ held_at program text e (written_state written) → Some b ≡ holds_at program text e (state_of program written)
holds_there program text e written b there is =
    let r = from_map instance_text (instances program) text (in_of (map instance_text (instances program)) text there) in
    let f = find_in (λ instance. bytes_eq (instance_text instance) text) (instances program) r.0 r.1 ((bytes_eq-Decides (instance_text r.0) text).1 r.2) in
    ap (λ (x : Bool). Some x) (is ∙ sym (held_same program text e written))
    ∙ at (instance_named program text) f.0 f.1
  where
    at : (o : Option Instance) (p : Instance) → o ≡ Some p → Some (elim o as (λ o. Bool) [ None ↦ false | Some instance ↦ is_true (value_in program (state_of program written) (state_of program written) instance e) ]) ≡ and_then o (λ instance. Some (is_true (value_in program (state_of program written) (state_of program written) instance e)))
    at None p f = cc
    at (Some q) p f = refl

-- `main` is an instance of each program
pub main_there : (program : Program) → HasInstance program (codes "main")
main_there program = at (length program.modules)
  where
    at : (n : ℕ) → Contains (map instance_text (subtree n program Main)) (codes "main")
    at zero = (0, omega arith, refl)
    at (suc n) = (0, omega arith, refl)
