-- The faults by slots are those of the program.
use Rattle.std.proofs.Common.{◌≡◌, ℕ, suc, ◌+◌, ◌<◌, Bool, true, false, List, [], ◌∷◌, ◌++◌, length, map, Option, Some, None, refl, sym, ap, ◌∙◌, subst, arith, length-append, if◌then◌else◌, nat_eq, nat_lt, codes}
use Rattle.std.specs.Prelude.{slice_get}
use Rattle.std.specs.Option.{option_map}
use mathlib.Core.Path.{fun_ext}
use Rattle.smv_ast.specs.PrintedExpr.{joined}
use Rattle.smv_ast.specs.declared.fault.Fault.{Fault}
use Rattle.smv_ast.specs.declared.fault.Fault.TheVariants as fault
use Rattle.smv_ast.specs.declared.syntax.Expr.{Expr}
use Rattle.smv_ast.specs.declared.syntax.Span.{Span}
use Rattle.smv_ast.specs.declared.program.Module.{Module}
use Rattle.smv_ast.specs.declared.program.Program.{Program}
use Rattle.smv_meaning.specs.declared.table.InstanceTable.{InstanceTable}
use Rattle.smv_meaning.specs.declared.table.Row.{Row}
use Rattle.smv_meaning.specs.declared.table.Link.{Link}
use Rattle.smv_meaning.specs.Value.{Name, and_then}
use Rattle.fixpoint.specs.Fixpoints.{entry}
use Rattle.smv_meaning.specs.Paths.{QualifiedName, Binding}
use Rattle.smv_meaning.specs.Instances.{Entry, Instance, Main, Within, path_of, depth_of, called_at, module_named, module_at, entries, instances, binding_at}
use Rattle.smv_meaning.specs.ItemIndex.{items_at}
use Rattle.smv_meaning.specs.Runs.{or_else, first_fault, path_text}
use Rattle.smv_meaning.specs.InstanceTable.{called_of, renumbered, binding_view, entries_at, row_instances, instance_of_link}
use Rattle.smv_meaning.specs.Slots.{slot_of, binding_in, AreAliases}
use Rattle.smv_meaning.specs.Valuation.{link_of}
use Rattle.smv_meaning.specs.Checking.{IsTableOfProgram, AreRows, instance_at}
use Rattle.smv_meaning.proofs.NumberLemmas.{same_binding}
use Rattle.smv_meaning.proofs.InstanceTableLemmas.{names_at, row_at}
use Rattle.smv_meaning.proofs.RunLemmas.{first_mapped}
use Rattle.graph.specs.Graphs.{successors_in, on_cycle, cycle_of}
use Rattle.graph.proofs.Renaming as renaming
use Rattle.smv_cycles.specs.Reads.{Edge, tallest, heights, read_by, own_cycle}
use Rattle.smv_cycles.specs.EdgesBySlot.{edges_view, edges_at, slot_edges, edges_in}
use Rattle.smv_cycles.specs.Cycles as spec
use Rattle.smv_cycles.specs.CyclesBySlot as number
use Rattle.smv_meaning.proofs.BindingLemmas.{then_some}
use Rattle.smv_cycles.proofs.HeightLemmas.{in_some, no_edges}
use Rattle.smv_cycles.proofs.MovedLemmas as moved
use Rattle.smv_cycles.proofs.ProgramLemmas as names

mapped_first : {A K L : Type 0} (f : K → L) (F : A → Option K) (G : A → Option L) → ((a : A) → option_map f (F a) ≡ G a) → (xs : List A) → option_map f (first_fault F xs) ≡ first_fault G xs
mapped_first f F G h [] = refl
mapped_first {K = K} {L = L} f F G h (x ∷ xs) = at (F x) (h x) (mapped_first f F G h xs)
  where
    at : (o : Option K) → option_map f o ≡ G x → option_map f (first_fault F xs) ≡ first_fault G xs → option_map f (or_else o (first_fault F xs)) ≡ or_else (G x) (first_fault G xs)
    at None e g = g ∙ ap (λ (p : Option L). or_else p (first_fault G xs)) e
    at (Some c) e g = ap (λ (p : Option L). or_else p (first_fault G xs)) e

first_is : {A K : Type 0} (P : K → Type 0) (F : A → Option K) → ((a : A) (c : K) → F a ≡ Some c → P c) → (xs : List A) (c : K) → first_fault F xs ≡ Some c → P c
first_is P F h [] c e = cc
first_is {K = K} P F h (x ∷ xs) c e = at (F x) refl (first_is P F h xs c) e
  where
    at : (o : Option K) → F x ≡ o → (first_fault F xs ≡ Some c → P c) → or_else o (first_fault F xs) ≡ Some c → P c
    at None g more e = more e
    at (Some d) g more e = h x c (g ∙ e)

path_length : (p : Instance) → depth_of p ≡ length (path_of p)
path_length Main = refl
path_length (Within outer name called) = let h = path_length outer in omega (arith, h, length-append (path_of outer) (name ∷ []))

module _ (program : Program) (table : InstanceTable) (right : IsTableOfProgram program table) where
  -- ---- rows

  instance_at_is : (row : ℕ) → row < length table.rows → instance_at table row ≡ instance_of_link (row_instances table.rows) (number.link_at table row)
  instance_at_is row h = let r = row_at table.rows row h in (right.rows row r.0 r.1).instance_at ∙ ap (λ (o : Option Row). instance_of_link (row_instances table.rows) (link_of o)) (sym r.1)

  module_is : (row : ℕ) → row < length table.rows → number.module_row program table row ≡ module_at program (instance_at table row)
  module_is row h = ap (module_named program) (called (number.link_at table row) ∙ ap called_at (sym (instance_at_is row h)))
    where
      called : (l : Option Link) → called_of l ≡ called_at (instance_of_link (row_instances table.rows) l)
      called None = refl
      called (Some l) = refl

  deep_is : (row : ℕ) → row < length table.rows → number.deep_row table row ≡ spec.deep_in (instance_at table row)
  deep_is row h =
      let r = row_at table.rows row h in
      ap number.deep_found r.1 ∙ ap (λ (d : ℕ). nat_lt 1000 (d + 1)) ((right.rows row r.0 r.1).depth ∙ path_length (instance_at table row))

  module _ (one : number.OneEach table) (aliases : List (Option ℕ)) (is_of : AreAliases table aliases) (graph : number.Graph) (seen : map (option_map edges_view) graph ≡ map (slot_edges table aliases) table.slots) where
    abbrev f : ℕ → QualifiedName Instance
    f = names.of_slot program table right

    abbrev R : ℕ → Type 0
    R = names.IsSlot program table right

    abbrev ek : ℕ → Option (List (Edge ℕ))
    ek = edges_at graph

    abbrev el : QualifiedName Instance → Option (List (Edge (QualifiedName Instance)))
    el = spec.program_edges program

    heights_are : (k : ℕ) → R k → heights ek k ≡ heights el (f k)
    heights_are = moved.heights_same f R ek el (names.covers program table right aliases is_of graph seen) (names.inside program table right aliases is_of graph seen)

    abbrev sk : ℕ → List ℕ
    sk = successors_in (number.targets graph)

    abbrev sl : QualifiedName Instance → List (QualifiedName Instance)
    sl = read_by el

    cycle_is : (k : ℕ) → R k → map f (cycle_of sk nat_eq k) ≡ cycle_of sl spec.same_name (f k)
    cycle_is = renaming.cycle_same f R sk sl (names.reads_over program table right aliases is_of graph seen) (names.reads_inside program table right aliases is_of graph seen) nat_eq spec.same_name (names.slots_same program table right one)

    cycle_within : (k : ℕ) → R k → renaming.AllIn R (cycle_of sk nat_eq k)
    cycle_within = renaming.cycle_in f R sk sl (names.reads_over program table right aliases is_of graph seen) (names.reads_inside program table right aliases is_of graph seen) nat_eq spec.same_name (names.slots_same program table right one)

    own_is : (k : ℕ) → R k → option_map f (number.if_on_cycle (number.targets graph) k) ≡ own_cycle el spec.same_name (f k)
    own_is k i =
        chosen (on_cycle (number.targets graph) k)
        ∙ ap (λ (b : Bool). if b then Some (f k) else None) (renaming.on_cycle_same f R sk sl (names.reads_over program table right aliases is_of graph seen) (names.reads_inside program table right aliases is_of graph seen) nat_eq spec.same_name (names.slots_same program table right one) k i)
      where
        chosen : (b : Bool) → option_map f (if b then Some k else None) ≡ (if b then Some (f k) else None)
        chosen true = refl
        chosen false = refl

    -- ---- the first cycle

    name_is : (row : ℕ) → row < length table.rows → (name : Name) → option_map f (number.name_cycle table (number.targets graph) row name) ≡ own_cycle el spec.same_name (record { instance = instance_at table row; name = name })
    name_is row h name = at (slot_of table qualified) refl
      where
        qualified : QualifiedName ℕ
        qualified = record { instance = row; name = name }

        this : QualifiedName Instance
        this = record { instance = instance_at table row; name = name }

        nothing : slot_of table (record { instance = row; name = name }) ≡ None → own_cycle el spec.same_name (record { instance = instance_at table row; name = name }) ≡ None
        nothing e =
            let m : binding_in table (record { instance = row; name = name }) ≡ None = ap (λ (o : Option ℕ). and_then o (λ k. and_then (slice_get table.slots k) (λ slot. Some (binding_view slot.binding)))) e in
            let p : binding_at program (record { instance = instance_at table row; name = name }) ≡ None = sym (same_binding program table right row name h).same ∙ ap (option_map (renumbered (instance_at table))) m in
            no_edges el spec.same_name (record { instance = instance_at table row; name = name }) (ap (λ (o : Option (Binding Instance)). and_then o (spec.edges_by (binding_at program) (record { instance = instance_at table row; name = name }))) p)

        at : (o : Option ℕ) → slot_of table (record { instance = row; name = name }) ≡ o → option_map f (number.name_cycle table (number.targets graph) row name) ≡ own_cycle el spec.same_name (record { instance = instance_at table row; name = name })
        at None e = ap (λ (o : Option ℕ). option_map f (and_then o (number.if_on_cycle (number.targets graph)))) e ∙ sym (nothing e)
        at (Some k) e =
            let i : R k = record { qualified = record { instance = row; name = name }; within = h; at = e } in
            ap (λ (o : Option ℕ). option_map f (and_then o (number.if_on_cycle (number.targets graph)))) e
            ∙ (own_is k i ∙ ap (own_cycle el spec.same_name) (names.of_is program table right k i))

    name_within : (row : ℕ) (name : Name) (c : ℕ) → number.name_cycle table (number.targets graph) row name ≡ Some c → R c
    name_within row name c e =
        let r = then_some (slot_of table (record { instance = row; name = name })) (number.if_on_cycle (number.targets graph)) c e in
        let i = names.slot_in program table right (record { instance = row; name = name }) r.0 r.1 in
        subst R (own (on_cycle (number.targets graph) r.0) r.2) i
      where
        own : {k : ℕ} (b : Bool) → (if b then Some k else None) ≡ Some c → k ≡ c
        own true g = in_some g
        own false g = cc

    abbrev instance_cycle : Instance → Option (QualifiedName Instance)
    instance_cycle instance = first_fault (λ e. own_cycle el spec.same_name (record { instance = instance; name = e.name })) (entries (module_at program instance))

    row_is : (row : ℕ) → row < length table.rows → option_map f (number.row_cycle table (number.targets graph) row (entries_at table.rows row)) ≡ instance_cycle (instance_at table row)
    row_is row h =
        mapped_first f (λ (e : Entry). number.name_cycle table (number.targets graph) row e.name) (λ (e : Entry). own_cycle el spec.same_name (record { instance = instance_at table row; name = e.name })) (λ e. name_is row h e.name) (entries_at table.rows row)
        ∙ ap (first_fault (λ (e : Entry). own_cycle el spec.same_name (record { instance = instance_at table row; name = e.name }))) (names_at program table.rows row right.rows h)

    rows_are : (order : List ℕ) → AreRows table order → option_map f (number.first_cycle table (number.targets graph) order) ≡ first_fault (λ row. instance_cycle (instance_at table row)) order
    rows_are [] h = refl
    rows_are (row ∷ order) h = at (number.row_cycle table (number.targets graph) row (entries_at table.rows row)) (row_is row (h 0 0 (omega arith))) (rows_are order (λ k d g. h (suc k) d (omega arith)))
      where
        at : (o : Option ℕ) → option_map f o ≡ instance_cycle (instance_at table row) → option_map f (number.first_cycle table (number.targets graph) order) ≡ first_fault (λ row. instance_cycle (instance_at table row)) order →
            option_map f (or_else o (number.first_cycle table (number.targets graph) order)) ≡ or_else (instance_cycle (instance_at table row)) (first_fault (λ row. instance_cycle (instance_at table row)) order)
        at None e g = g ∙ ap (λ (p : Option (QualifiedName Instance)). or_else p (first_fault (λ row. instance_cycle (instance_at table row)) order)) e
        at (Some c) e g = ap (λ (p : Option (QualifiedName Instance)). or_else p (first_fault (λ row. instance_cycle (instance_at table row)) order)) e

    first_within : (order : List ℕ) (c : ℕ) → number.first_cycle table (number.targets graph) order ≡ Some c → R c
    first_within order c = first_is R (λ row. number.row_cycle table (number.targets graph) row (entries_at table.rows row)) (λ row c. first_is R (λ (e : Entry). number.name_cycle table (number.targets graph) row e.name) (λ e c. name_within row e.name c) (entries_at table.rows row) c) order c

    -- ---- the fault of a cycle

    text_is : (k : ℕ) → R k → number.slot_text table (slice_get table.slots k) ≡ spec.qualified_text (f k)
    text_is k i =
        let s = names.slot program table right k i in
        let r = row_at table.rows s.row (names.row_within program table right k i) in
        ap (number.slot_text table) (names.get program table right k i)
        ∙ (ap (λ (o : Option Row). number.or_empty_text (and_then o (λ row. Some (path_text (path_of (instance_at table s.row) ++ s.name.now ∷ []))))) r.1
        ∙ ap spec.qualified_text (ap (names.renumbered_name program table right) (names.spelt program table right k i) ∙ sym (names.of_is program table right k i)))

    texts_are : (ks : List ℕ) → renaming.AllIn R ks → number.slot_texts table ks ≡ map spec.qualified_text (map f ks)
    texts_are [] a = refl
    texts_are (k ∷ ks) a = ap (λ (t : List ℕ). t ∷ number.slot_texts table ks) (text_is k a.0) ∙ ap (λ (ts : List (List ℕ)). spec.qualified_text (f k) ∷ ts) (texts_are ks a.1)

    span_is : (k : ℕ) → (i : R k) → number.slot_span program table (slice_get table.slots k) ≡ spec.declared_at (module_at program (f k).instance) (f k).name
    span_is k i =
        let s = names.slot program table right k i in
        ap (number.slot_span program table) (names.get program table right k i)
        ∙ (ap (λ (m : Module). spec.declared_at m s.name.now) (module_is s.row (names.row_within program table right k i))
        ∙ ap (λ (x : QualifiedName Instance). spec.declared_at (module_at program x.instance) x.name) (ap (names.renumbered_name program table right) (names.spelt program table right k i) ∙ sym (names.of_is program table right k i)))

    fault_is : (k : ℕ) → R k → number.cycle_fault program table (number.targets graph) k ≡ spec.cycle_fault program (f k)
    fault_is k i =
        ap (λ (at : Span). fault.CyclicDefine (Some at) (joined (codes ",") (number.slot_texts table (cycle_of sk nat_eq k)))) (span_is k i)
        ∙ ap (λ (ts : List (List ℕ)). fault.CyclicDefine (Some (spec.declared_at (module_at program (f k).instance) (f k).name)) (joined (codes ",") ts))
        (texts_are (cycle_of sk nat_eq k) (cycle_within k i) ∙ ap (map spec.qualified_text) (cycle_is k i))

    module _ (solution : List (Option ℕ)) (known_of : (k : ℕ) → entry solution k ≡ heights ek k) where
      -- ---- nesting

      high_is : (row : ℕ) → row < length table.rows → (e : Expr) → number.high_row table aliases solution row e ≡ spec.high_in program (instance_at table row) e
      high_is row h e =
          let s = names.edges_same program table right aliases is_of row h e in
          ap spec.is_high (moved.tallest_same f R (entry solution) (spec.program_heights program) (λ k r. known_of k ∙ heights_are k r) (edges_in table aliases row e) s.inside 0
          ∙ ap (tallest (spec.program_heights program) 0) s.same)

      nested_is : (row : ℕ) → row < length table.rows → number.nested_row program table aliases solution row ≡ spec.nested_within program (instance_at table row)
      nested_is row h =
          ap (λ (high : Expr → Bool). first_fault (spec.nested_item high (number.deep_row table row)) (items_at program (instance_at table row))) (fun_ext (high_is row h))
          ∙ ap (λ (deep : Bool). first_fault (spec.nested_item (spec.high_in program (instance_at table row)) deep) (items_at program (instance_at table row))) (deep_is row h)

      nested_are : (order : List ℕ) → AreRows table order → number.nesting_fault program table aliases solution order ≡ first_fault (λ row. spec.nested_within program (instance_at table row)) order
      nested_are [] h = refl
      nested_are (row ∷ order) h =
          ap (λ (o : Option Fault). or_else o (number.nesting_fault program table aliases solution order)) (nested_is row (h 0 0 (omega arith)))
          ∙ ap (or_else (spec.nested_within program (instance_at table row))) (nested_are order (λ k d g. h (suc k) d (omega arith)))

      -- ---- both checks

      module _ (order : List ℕ) (rows : AreRows table order) (ordered : map (instance_at table) order ≡ instances program) where
        cycles_are : number.cyclic_fault program table (number.targets graph) order ≡ and_then (spec.first_cycle program) (λ qualified. Some (spec.cycle_fault program qualified))
        cycles_are = at (number.first_cycle table (number.targets graph) order) refl ∙ ap (λ (o : Option (QualifiedName Instance)). and_then o (λ qualified. Some (spec.cycle_fault program qualified))) whole
          where
            whole : option_map f (number.first_cycle table (number.targets graph) order) ≡ spec.first_cycle program
            whole = rows_are order rows ∙ (sym (first_mapped instance_cycle (instance_at table) order) ∙ ap (first_fault instance_cycle) ordered)

            at : (o : Option ℕ) → number.first_cycle table (number.targets graph) order ≡ o → and_then o (λ k. Some (number.cycle_fault program table (number.targets graph) k)) ≡ and_then (option_map f o) (λ qualified. Some (spec.cycle_fault program qualified))
            at None e = refl
            at (Some k) e = ap Some (fault_is k (first_within order k e))

        nestings_are : number.nesting_fault program table aliases solution order ≡ spec.nesting_fault program
        nestings_are = nested_are order rows ∙ (sym (first_mapped (spec.nested_within program) (instance_at table) order) ∙ ap (first_fault (spec.nested_within program)) ordered)

        -- the faults by slots are those of the program
        pub faults_are : number.graph_fault program table aliases (number.targets graph) solution order ≡ spec.cycles_fault program
        faults_are = ap (λ (o : Option Fault). or_else o (number.nesting_fault program table aliases solution order)) cycles_are ∙ ap (or_else (and_then (spec.first_cycle program) (λ qualified. Some (spec.cycle_fault program qualified)))) nestings_are
