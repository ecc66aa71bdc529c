-- Models with the same names and symbols: the same names are missing in both. An IMPOSE keeps them.
use Rattle.std.proofs.Common.{◌≡◌, ℕ, zero, suc, Bool, true, false, not, ◌||◌, ◌&&◌, nat_lt, cond, List, [], ◌∷◌, ◌++◌, length, map, find, Option, Some, None, if◌then◌else◌, refl, sym, ap, ◌∙◌, subst, Result, Ok, Err}
use Rattle.std.specs.Prelude.{is_some}
use Rattle.std.specs.List.{flat_map, list_any, list_all}
use Rattle.std.specs.Option.{option_map, option_or}
use Rattle.std.specs.Str.{bytes_eq}
use Rattle.std.proofs.lemmas.List.{length-map}
use Rattle.std.proofs.lemmas.Grind.{flat_map-append}
use mathlib.Core.Path.{fun_ext}
use Rattle.smv_ast.specs.declared.syntax.Span.{Span}
use Rattle.smv_ast.specs.declared.syntax.Choice.{Choice}
use Rattle.smv_ast.specs.declared.syntax.Path.{Path}
use Rattle.smv_ast.specs.declared.syntax.Expr.{Expr}
use Rattle.smv_ast.specs.declared.program.Section.{Section}
use Rattle.smv_ast.specs.declared.program.Section.TheVariants as section
use Rattle.smv_ast.specs.declared.program.Assignment.{Assignment}
use Rattle.smv_ast.specs.declared.program.Module.{Module}
use Rattle.smv_ast.specs.declared.program.Program.{Program}
use Rattle.smv_ast.specs.declared.fault.Fault.{Fault}
use Rattle.smv_ast.specs.declared.model.Product.{Product}
use Rattle.smv_ast.specs.declared.feature.Action.{Action}
use Rattle.smv_ast.specs.declared.feature.Action.TheVariants.{Impose, Treat}
use Rattle.smv_ast.specs.declared.feature.Change.{Change}
use Rattle.smv_meaning.specs.Value.{Name, and_then}
use Rattle.smv_meaning.specs.Paths.{Binding, resolve}
use Rattle.smv_meaning.specs.Instances.{Instance, Main, Within, Entity, Variable, Inner, Defined, Formal, Entry, entries, formals_from, item_entries, lookup, module_named, module_at, called_at, entity_at, depth_of, goes_deeper, inner_of, inner_instances, subtree, instances, formal_by, formal_at, binding_by, binding_in, binding_at}
use Rattle.smv_meaning.specs.Scopes.{Scope, scope_of, entries_in}
use Rattle.smv_meaning.specs.Items.{Item, assignment_item, section_items, all_items, items}
use Rattle.smv_meaning.specs.Symbols.{item_symbols, symbols}
use Rattle.smv_meaning.specs.Mentions.{paths_of}
use Rattle.smv_meaning.specs.Runs.{path_text}
use Rattle.smv_meaning.proofs.InstanceTableLemmas.{entries_named_is}
use Rattle.smv_names.specs.Rows.{is_of}
use Rattle.smv_names.specs.Unknown.{declared_in, begins_in, resolves_if_of, is_resolved_in_each, is_known_path, is_symbol_path, is_resolved}
use Rattle.integrate_impose.specs.declared.assignments.Imposed.{Imposed}
use Rattle.integrate_impose.specs.Lists.{change_first}
use Rattle.integrate_impose.specs.Impose.{imposition, is_named, has_left, guarded_assignment, is_assigns, one_more, with_assignment, assigns, guarded_section, with_guard, with_new, values_of, imposed_in, imposed_model, added_assignment, impose_fault}
use Rattle.integrate_impose.specs.Answers.{unless_fault}
use Rattle.integrate.specs.UsedNames.{first_unknown, missing_path, missing_expr, missing_module, missing_target, missing_treated, missing_action, missing_in_module, first_missing}
use Rattle.integrate.specs.declared.names.MissingName.{MissingName}
use Rattle.integrate.specs.Changes.{acted, changed_by, changed}
use Rattle.integrate.specs.SameNames.{HaveSameNames, action_imposes, is_impose}

-- ---- what is known is the same

module _ (p q : Program) (same : HaveSameNames p q) where
  same_entries : (called : Name) → entries (module_named p called) ≡ entries (module_named q called)
  same_entries called = sym (entries_named_is p.modules called) ∙ (ap (λ (s : List Scope). entries_in s called) same.scopes ∙ entries_named_is q.modules called)

  same_lookup : (called name : Name) → lookup (module_named p called) name ≡ lookup (module_named q called) name
  same_lookup called name = ap (λ (es : List Entry). and_then (find (λ e. bytes_eq e.name name) es) (λ e. Some e.entity)) (same_entries called)

  same_count : length p.modules ≡ length q.modules
  same_count = sym (length-map p.modules scope_of) ∙ (ap (λ (s : List Scope). length s) same.scopes ∙ length-map q.modules scope_of)

  same_depth : (i : Instance) → goes_deeper p i ≡ goes_deeper q i
  same_depth i = ap (nat_lt (depth_of i)) same_count

  same_inner_of : (i : Instance) (name : Name) (m : Entity) → inner_of p i name m ≡ inner_of q i name m
  same_inner_of i name (Inner called actuals) = ap (λ (b : Bool). if b then Within i name called ∷ [] else []) (same_depth i)
  same_inner_of i name (Variable t) = refl
  same_inner_of i name (Defined e) = refl
  same_inner_of i name (Formal k) = refl

  same_inner : (i : Instance) → inner_instances p i ≡ inner_instances q i
  same_inner i = ap (λ (f : Entry → List Instance). flat_map f (entries (module_at p i))) (fun_ext (λ e. same_inner_of i e.name e.entity))
      ∙ ap (flat_map (λ e. inner_of q i e.name e.entity)) (same_entries (called_at i))

  same_subtree : (d : ℕ) (i : Instance) → subtree d p i ≡ subtree d q i
  same_subtree zero i = refl
  same_subtree (suc d) i = ap (λ (is : List Instance). i ∷ is) (ap (λ (f : Instance → List Instance). flat_map f (inner_instances p i)) (fun_ext (λ j. same_subtree d j)) ∙ ap (flat_map (subtree d q)) (same_inner i))

  same_instances : instances p ≡ instances q
  same_instances = ap (λ (d : ℕ). subtree d p Main) same_count ∙ same_subtree (length q.modules) Main

  same_formal : (i : Instance) (k : ℕ) → formal_at p i k ≡ formal_at q i k
  same_formal Main k = refl
  same_formal (Within outer name called) k = ap (λ (o : Option Entity). formal_by outer o k) (same_lookup (called_at outer) name)

  same_binding_in : (i : Instance) (name : Name) (m : Entity) → binding_in p i name m ≡ binding_in q i name m
  same_binding_in i name m = ap (λ (b : Bool). binding_by b (Within i name) (formal_at p i) m) (same_depth i)
      ∙ ap (λ (f : ℕ → Binding Instance). binding_by (goes_deeper q i) (Within i name) f m) (fun_ext (λ k. same_formal i k))

  same_binding : binding_at p ≡ binding_at q
  same_binding = fun_ext (λ n. ap (λ (f : Entity → Option (Binding Instance)). and_then (entity_at p n.instance n.name) f) (fun_ext (λ m. ap (λ (b : Binding Instance). Some b) (same_binding_in n.instance n.name m)))
      ∙ ap (λ (o : Option Entity). and_then o (λ m. Some (binding_in q n.instance n.name m))) (same_lookup (called_at n.instance) n.name))

  same_declared : (called name : Name) → declared_in p called name ≡ declared_in q called name
  same_declared called name = ap is_some (same_lookup called name)

  same_begins : (called : Name) (path : List Name) → begins_in p called path ≡ begins_in q called path
  same_begins called [] = refl
  same_begins called (name ∷ more) = same_declared called name

  same_resolves : (called : Name) (path : List Name) → resolves_if_of p called path ≡ resolves_if_of q called path
  same_resolves called path = fun_ext (λ i. ap (λ b. not (is_of called i) || is_some (resolve b i path)) same_binding)

  same_in_each : (called : Name) (path : List Name) → is_resolved_in_each p called path ≡ is_resolved_in_each q called path
  same_in_each called path = ap (λ (f : Instance → Bool). list_all f (instances p)) (same_resolves called path) ∙ ap (list_all (resolves_if_of q called path)) same_instances

  same_known : (called : Name) (path : List Name) → is_known_path p called path ≡ is_known_path q called path
  same_known called path = ap (λ b. b && is_resolved_in_each p called path) (same_begins called path) ∙ ap (λ b. begins_in q called path && b) (same_in_each called path)

  same_symbol : (path : List Name) → is_symbol_path p path ≡ is_symbol_path q path
  same_symbol [] = refl
  same_symbol (name ∷ []) = same.symbols name
  same_symbol (name ∷ next ∷ more) = refl

  same_resolved : (called : Name) (path : List Name) → is_resolved p called path ≡ is_resolved q called path
  same_resolved called path = ap (λ b. b || is_symbol_path p path) (same_known called path) ∙ ap (λ b. is_known_path q called path || b) (same_symbol path)

  -- ---- the same names are missing

  same_unknown : (called : Name) (paths : List Path) → first_unknown p called paths ≡ first_unknown q called paths
  same_unknown called paths = ap (λ (f : Path → Bool). find f paths) (fun_ext (λ path. ap not (same_resolved called path.names)))

  same_expr : (called : Name) (e : Expr) → missing_expr p called e ≡ missing_expr q called e
  same_expr called e = ap (option_map missing_path) (same_unknown called (paths_of e))

  found_scope : (modules : List Module) (called : Name) → is_some (find (is_named called) modules) ≡ is_some (find (λ s. bytes_eq s.name called) (map scope_of modules))
  found_scope [] called = refl
  found_scope (m ∷ modules) called = at (found_scope modules called) (bytes_eq m.name called)
    where
      at : is_some (find (is_named called) modules) ≡ is_some (find (λ s. bytes_eq s.name called) (map scope_of modules)) → (b : Bool) → is_some (cond b (Some m) (find (is_named called) modules)) ≡ is_some (cond b (Some (scope_of m)) (find (λ s. bytes_eq s.name called) (map scope_of modules)))
      at h true = refl
      at h false = h

  same_module : (called : Name) → is_some (find (is_named called) p.modules) ≡ is_some (find (is_named called) q.modules)
  same_module called = found_scope p.modules called ∙ (ap (λ (s : List Scope). is_some (find (λ s. bytes_eq s.name called) s)) same.scopes ∙ sym (found_scope q.modules called))

  same_missing_module : (called : Name) (at : Span) → missing_module p called at ≡ missing_module q called at
  same_missing_module called at = ap (λ (b : Bool). if b then None else Some (record { name = called; at = at })) (same_module called)

  same_target : (called : Name) (at : Span) (name : Name) → missing_target p called at name ≡ missing_target q called at name
  same_target called at name = ap (λ (b : Bool). if b then None else Some (record { name = name; at = at })) (same_declared called name)

  same_treated : (called : Name) (at : Span) (path : List Name) → missing_treated p called at path ≡ missing_treated q called at path
  same_treated called at path = ap (λ (b : Bool). if b then None else Some (record { name = path_text path; at = at })) (same_known called path)

  same_action : (called : Name) (at : Span) (action : Action) → missing_action p called at action ≡ missing_action q called at action
  same_action called at (Impose left name right) = ap (λ o. option_or o (missing_expr p called right)) (same_target called at name) ∙ ap (option_or (missing_target q called at name)) (same_expr called right)
  same_action called at (Treat path right) = ap (λ o. option_or o (missing_expr p called right)) (same_treated called at path.names) ∙ ap (option_or (missing_treated q called at path.names)) (same_expr called right)

  same_in_module : (change : Change) → missing_in_module p change ≡ missing_in_module q change
  same_in_module change = ap (λ o. option_or o (missing_action p change.«module» change.at change.action)) (same_expr change.«module» change.cond)
      ∙ ap (option_or (missing_expr q change.«module» change.cond)) (same_action change.«module» change.at change.action)

  -- the first missing name of a change is the same in both
  pub same_missing : (change : Change) → first_missing p change ≡ first_missing q change
  same_missing change = ap (λ o. option_or o (missing_in_module p change)) (same_missing_module change.«module» change.at)
      ∙ ap (option_or (missing_module q change.«module» change.at)) (same_in_module change)

-- ---- an IMPOSE keeps names and symbols

-- a list with one item changed, where an attribute of the item stays
module _ {A B : Type 0} (test : A → Bool) (change : A → A) where
  changed_map : (f : A → B) → ((a : A) → f (change a) ≡ f a) → (xs : List A) → map f (change_first test change xs) ≡ map f xs
  changed_map f h [] = refl
  changed_map f h (x ∷ xs) = at (changed_map f h xs) (test x)
    where
      at : map f (change_first test change xs) ≡ map f xs → (b : Bool) → map f (cond b (change x ∷ xs) (x ∷ change_first test change xs)) ≡ map f (x ∷ xs)
      at e true = ap (λ (y : B). y ∷ map f xs) (h x)
      at e false = ap (λ (ys : List B). f x ∷ ys) e

module _ {A B : Type 0} (test : A → Bool) (change : A → A) (f : A → List B) (h : (a : A) → f (change a) ≡ f a) where
  changed_flat : (xs : List A) → flat_map f (change_first test change xs) ≡ flat_map f xs
  changed_flat [] = refl
  changed_flat (x ∷ xs) = at (changed_flat xs) (test x)
    where
      at : flat_map f (change_first test change xs) ≡ flat_map f xs → (b : Bool) → flat_map f (cond b (change x ∷ xs) (x ∷ change_first test change xs)) ≡ flat_map f (x ∷ xs)
      at e true = ap (λ (ys : List B). ys ++ flat_map f xs) (h x)
      at e false = ap (λ (ys : List B). f x ++ ys) e

-- the lists of all members of all lists
flat_flat : {A B C : Type 0} (g : B → List C) (f : A → List B) (xs : List A) → flat_map g (flat_map f xs) ≡ flat_map (λ x. flat_map g (f x)) xs
flat_flat g f [] = refl
flat_flat g f (x ∷ xs) = flat_map-append g (f x) (flat_map f xs) ∙ ap (λ ys. flat_map g (f x) ++ ys) (flat_flat g f xs)

-- what items give, for each item of a section
abbrev of_section : {X : Type 0} → (Item → List X) → Section → List X
of_section g s = flat_map g (section_items s)

-- what all items but assignments give stays
module _ {X : Type 0} (g : Item → List X) (none : (a : Assignment) → g (assignment_item a) ≡ []) where
  of_assignments : (xs : List Assignment) → flat_map g (map assignment_item xs) ≡ []
  of_assignments [] = refl
  of_assignments (a ∷ xs) = ap (λ (ys : List X). ys ++ flat_map g (map assignment_item xs)) (none a) ∙ of_assignments xs

  guarded_gives : (i : Imposed) (s : Section) → of_section g (guarded_section i s) ≡ of_section g s
  guarded_gives i (section.Vars ds) = refl
  guarded_gives i (section.Assigns xs) = of_assignments (change_first (has_left i.left i.name) (guarded_assignment i) xs) ∙ sym (of_assignments xs)
  guarded_gives i (section.Defines ds) = refl
  guarded_gives i (section.Init e at) = refl
  guarded_gives i (section.Invar e at) = refl
  guarded_gives i (section.Trans e at) = refl
  guarded_gives i (section.InvarSpec e at) = refl

  one_more_gives : (a : Assignment) (s : Section) → of_section g (one_more s a) ≡ of_section g s
  one_more_gives a (section.Vars ds) = refl
  one_more_gives a (section.Assigns xs) = of_assignments (xs ++ a ∷ []) ∙ sym (of_assignments xs)
  one_more_gives a (section.Defines ds) = refl
  one_more_gives a (section.Init e at) = refl
  one_more_gives a (section.Invar e at) = refl
  one_more_gives a (section.Trans e at) = refl
  one_more_gives a (section.InvarSpec e at) = refl

  added_gives : (a : Assignment) (ss : List Section) → flat_map (of_section g) (with_assignment ss a) ≡ flat_map (of_section g) ss
  added_gives a [] = ap (λ (ys : List X). ys ++ []) (of_assignments (a ∷ []))
  added_gives a (s ∷ more) = at (added_gives a more) (is_assigns s && not (list_any is_assigns more))
    where
      at : flat_map (of_section g) (with_assignment more a) ≡ flat_map (of_section g) more → (b : Bool) → flat_map (of_section g) (cond b (one_more s a ∷ more) (s ∷ with_assignment more a)) ≡ flat_map (of_section g) (s ∷ more)
      at e true = ap (λ (ys : List X). ys ++ flat_map (of_section g) more) (one_more_gives a s)
      at e false = ap (λ (ys : List X). of_section g s ++ ys) e

  -- with an assignment guarded
  guard_keeps : (i : Imposed) (ss : List Section) → flat_map g (all_items (change_first (assigns i.left i.name) (guarded_section i) ss)) ≡ flat_map g (all_items ss)
  guard_keeps i ss = flat_flat g section_items (change_first (assigns i.left i.name) (guarded_section i) ss)
      ∙ (changed_flat (assigns i.left i.name) (guarded_section i) (of_section g) (guarded_gives i) ss ∙ sym (flat_flat g section_items ss))

  -- with an assignment added
  added_keeps : (a : Assignment) (ss : List Section) → flat_map g (all_items (with_assignment ss a)) ≡ flat_map g (all_items ss)
  added_keeps a ss = flat_flat g section_items (with_assignment ss a) ∙ (added_gives a ss ∙ sym (flat_flat g section_items ss))

  -- with an IMPOSE applied
  imposed_gives : (i : Imposed) (m : Module) → flat_map g (items (imposed_in i m)) ≡ flat_map g (items m)
  imposed_gives i m = at (list_any (assigns i.left i.name) m.sections) (values_of i m)
    where
      at : (b : Bool) (values : Option Choice) → flat_map g (items (cond b (with_guard i m) (with_new i m values))) ≡ flat_map g (items m)
      at true values = guard_keeps i m.sections
      at false None = refl
      at false (Some values) = added_keeps (added_assignment i values) m.sections

imposed_scope : (i : Imposed) (m : Module) → scope_of (imposed_in i m) ≡ scope_of m
imposed_scope i m = at (list_any (assigns i.left i.name) m.sections) (values_of i m)
  where
    scope : List Entry → Scope
    scope es = record { name = m.name; entries = formals_from 0 m.formals ++ es }

    at : (b : Bool) (values : Option Choice) → scope_of (cond b (with_guard i m) (with_new i m values)) ≡ scope_of m
    at true values = ap scope (guard_keeps item_entries (λ a. refl) i m.sections)
    at false None = refl
    at false (Some values) = ap scope (added_keeps item_entries (λ a. refl) (added_assignment i values) m.sections)

imposed_symbols : (i : Imposed) (called : Name) (p : Program) → symbols (imposed_model i called p) ≡ symbols p
imposed_symbols i called p = flat_flat item_symbols items (change_first (is_named called) (imposed_in i) p.modules)
    ∙ (changed_flat (is_named called) (imposed_in i) (λ m. flat_map item_symbols (items m)) (imposed_gives item_symbols (λ a. refl) i) p.modules ∙ sym (flat_flat item_symbols items p.modules))

-- the model with an IMPOSE applied has the names and symbols of the model
pub imposed_keeps : (i : Imposed) (called : Name) (p : Program) → HaveSameNames (imposed_model i called p) p
imposed_keeps i called p = record {
  scopes = changed_map (is_named called) (imposed_in i) scope_of (imposed_scope i) p.modules;
  symbols = λ name. ap (list_any (λ n. bytes_eq n name)) (imposed_symbols i called p);
}

-- ---- what an IMPOSE gives

abbrev result_of : Program → Result Program Fault → Program
result_of default (Ok p) = p
result_of default (Err f) = default

ok_is : (p q : Program) (r : Result Program Fault) → r ≡ Ok p → r ≡ Ok q → p ≡ q
ok_is p q r e h = ap (result_of p) (sym e ∙ h)

same_by : (p q r : Program) → p ≡ q → HaveSameNames p r → HaveSameNames q r
same_by p q r e h = subst (λ (x : Program). HaveSameNames x r) e h

after_imposed : (i : Imposed) (called : Name) (p q known : Program) (f : Option Fault) → HaveSameNames p known → unless_fault f (imposed_model i called p) ≡ Ok q → HaveSameNames q known
after_imposed i called p q known None same e = same_by (imposed_model i called p) q known (ok_is (imposed_model i called p) q (unless_fault None (imposed_model i called p)) refl e)
    (record { scopes = (imposed_keeps i called p).scopes ∙ same.scopes; symbols = λ name. (imposed_keeps i called p).symbols name ∙ same.symbols name })
after_imposed i called p q known (Some f) same e = cc

after_action : (change : Change) (action : Action) (p q known : Program) → action_imposes action ≡ true → HaveSameNames p known → acted change action p ≡ Ok q → HaveSameNames q known
after_action change (Impose left name right) p q known is same e =
    after_imposed (imposition change.cond left name right change.at) change.«module» p q known (impose_fault (imposition change.cond left name right change.at) change.«module» p) same e
after_action change (Treat path right) p q known is same e = cc

after_change : (feature : List ℕ) (product : Product) (change : Change) (p q known : Program) (missing : Option MissingName) → is_impose change ≡ true → HaveSameNames p known → changed_by feature product change p missing ≡ Ok q → HaveSameNames q known
after_change feature product change p q known None is same e = after_action change change.action p q known is same e
after_change feature product change p q known (Some m) is same e = cc

-- an IMPOSE that is applied keeps names and symbols
pub impose_keeps : (feature : List ℕ) (product : Product) (change : Change) (p q known : Program) → is_impose change ≡ true → HaveSameNames p known → changed feature product p change ≡ Ok q → HaveSameNames q known
impose_keeps feature product change p q known is same e = after_change feature product change p q known (first_missing p change) is same e

-- ---- all of a list

module _ {A : Type 0} (test : A → Bool) (a : A) (more : List A) where
  pub first_of_all : list_all test (a ∷ more) ≡ true → test a ≡ true
  first_of_all e = at (test a) (list_all test more) e
    where
      at : (b c : Bool) → (b && c) ≡ true → b ≡ true
      at true c e = refl
      at false c e = cc

  pub rest_of_all : list_all test (a ∷ more) ≡ true → list_all test more ≡ true
  rest_of_all e = at (test a) (list_all test more) e
    where
      at : (b c : Bool) → (b && c) ≡ true → c ≡ true
      at true c e = e
      at false c e = cc
