-- In a model without a recursive module each module has a rank above those of the modules whose instances it declares, so the
-- limit on the depth of instances cuts none off.
use Rattle.std.proofs.Common.{◌≡◌, ℕ, zero, suc, ◌+◌, ◌<◌, ◌≤◌, Bool, true, false, nat_eq, cond, List, [], ◌∷◌, length, Option, Some, None, inl, inr, codes, refl, sym, ap, ◌∙◌, subst, arith}
use Rattle.std.specs.Option.{option_map}
use Rattle.std.proofs.lemmas.Option.{slice_get-map}
use Rattle.std.specs.Prelude.{slice_get, unwrap_or}
use Rattle.std.specs.List.{find, flat_map}
use Rattle.std.specs.Str.{bytes_eq}
use Rattle.std.proofs.lemmas.Bool.{eq-eqb, or_left, or_right}
use Rattle.std.proofs.lemmas.List.{length-map}
use Rattle.smv_ast.specs.declared.fault.Fault.TheVariants as fault
use Rattle.smv_ast.specs.declared.syntax.Expr.{Expr}
use Rattle.smv_ast.specs.declared.program.Declared.{Declared}
use Rattle.smv_ast.specs.declared.program.Declared.TheVariants.{Plain, Instance as Submodule}
use Rattle.smv_ast.specs.declared.program.Module.{Module}
use Rattle.smv_ast.specs.declared.program.Program.{Program}
use Rattle.fixpoint.specs.Fixpoints.{most}
use Rattle.graph.specs.Graphs.{among, successors_in, on_cycle}
use Rattle.graph.proofs.Acyclic.{reached_below, reached_less, not_all}
use Rattle.smv_meaning.specs.Value.{Name}
use Rattle.smv_meaning.specs.Instances.{Inner, Entry, Instance, entity_of, item_entries, formals_from, entries, or_empty, module_named, module_at, goes_deeper, instances}
use Rattle.smv_meaning.specs.Items.{Item, Declares, Assigns, Defines, Constrains, items}
use Rattle.smv_meaning.proofs.DepthLaw.{Ranks, depth_harmless}
use Rattle.smv_meaning.proofs.MemberLemmas.{In, from_flat, in_flat, in_either}
use Rattle.smv_meaning.specs.ModuleNumbers.{number_from, number_of}
use Rattle.smv_names.specs.Recursion as spec
use Rattle.smv_meaning.proofs.ModuleNumberLemmas.{module_at_number, no_module}
use Rattle.smv_meaning.proofs.FirstFault.{neither_found}

in_among : (k : ℕ) (ks : List ℕ) → In k ks → among nat_eq ks k ≡ true
in_among k [] i = absurd i
in_among k (x ∷ ks) (inl e) = or_left (nat_eq x k) (among nat_eq ks k) (eq-eqb x k e)
in_among k (x ∷ ks) (inr i) = or_right (nat_eq x k) (among nat_eq ks k) (in_among k ks i)

number_within : (k : ℕ) (ms : List Module) (name : Name) (j : ℕ) → number_from k ms name ≡ Some j → j < k + length ms
number_within k [] name j e = cc
number_within k (m ∷ ms) name j e = at (bytes_eq m.name name) e (number_within (suc k) ms name j)
  where
    at : (b : Bool) → cond b (Some k) (number_from (suc k) ms name) ≡ Some j → (number_from (suc k) ms name ≡ Some j → j < suc k + length ms) → j < k + suc (length ms)
    at true e more = let same : k ≡ j = (cc) in omega (arith, same)
    at false e more = omega (arith, more e)

-- a module that was not found is on no cycle that was not found
none_recursive : (graph : List (List ℕ)) (k : ℕ) (ms : List Module) → spec.recursive_from graph k ms ≡ None → (j : ℕ) → j < length ms → on_cycle graph (k + j) ≡ false
none_recursive graph k [] e j h = absurd (omega (arith, h))
none_recursive graph k (m ∷ ms) e zero h =
    let r = neither_found (spec.recursive_at graph k m) (spec.recursive_from graph (suc k) ms) e in
    let same : k ≡ k + 0 = omega arith in
    subst (λ (x : ℕ). on_cycle graph x ≡ false) same (at (on_cycle graph k) refl r.0)
  where
    at : (b : Bool) → on_cycle graph k ≡ b → cond b (Some (fault.RecursiveModule (Some m.at) m.name)) None ≡ None → on_cycle graph k ≡ false
    at true g e = cc
    at false g e = g
none_recursive graph k (m ∷ ms) e (suc j) h =
    let r = neither_found (spec.recursive_at graph k m) (spec.recursive_from graph (suc k) ms) e in
    let same : suc k + j ≡ k + suc j = omega arith in
    subst (λ (x : ℕ). on_cycle graph x ≡ false) same (none_recursive graph (suc k) ms r.1 j (omega (arith, h)))

if_any_in : (o : Option ℕ) (j : ℕ) → o ≡ Some j → In j (spec.if_any o)
if_any_in None j e = cc
if_any_in (Some k) j e = inl (cc)

module _ (program : Program) where
  -- the declaration of an instance calls its module
  declared_calls : (what : Declared) (n : Name) (actuals : List Expr) (j : ℕ) → entity_of what ≡ Inner n actuals → number_of program n ≡ Some j → In j (spec.called_declared program what)
  declared_calls (Plain t) n actuals j e f = cc
  declared_calls (Submodule called actuals') n actuals j e f = let same : called ≡ n = (cc) in if_any_in (number_of program called) j (ap (number_of program) same ∙ f)

  item_calls : (item : Item) (name n : Name) (actuals : List Expr) (j : ℕ) → In (record { name = name; entity = Inner n actuals }) (item_entries item) → number_of program n ≡ Some j → In j (spec.called_by program item)
  item_calls (Declares other what at) name n actuals j (inl e) f = declared_calls what n actuals j (ap (λ (e : Entry). e.entity) e) f
  item_calls (Declares other what at) name n actuals j (inr i) f = absurd i
  item_calls (Assigns left other right at) name n actuals j i f = absurd i
  item_calls (Defines other right at) name n actuals j (inl e) f = let g = ap (λ (e : Entry). e.entity) e in cc
  item_calls (Defines other right at) name n actuals j (inr i) f = absurd i
  item_calls (Constrains role e at) name n actuals j i f = absurd i

  formal_calls : (k : ℕ) (names : List Name) (name n : Name) (actuals : List Expr) → In (record { name = name; entity = Inner n actuals }) (formals_from k names) → ⊥
  formal_calls k [] name n actuals i = i
  formal_calls k (x ∷ names) name n actuals (inl e) = let f = ap (λ (e : Entry). e.entity) e in cc
  formal_calls k (x ∷ names) name n actuals (inr i) = formal_calls (suc k) names name n actuals i

  -- the modules of the instances of a module are its successors
  calls : (m : Module) (name n : Name) (actuals : List Expr) (j : ℕ) → In (record { name = name; entity = Inner n actuals }) (entries m) → number_of program n ≡ Some j → In j (spec.called_within program m)
  calls m name n actuals j i f = elim (in_either (formals_from 0 m.formals) (flat_map item_entries (items m)) (record { name = name; entity = Inner n actuals }) i) [
    | inl k ↦ absurd (formal_calls 0 m.formals name n actuals k)
    | inr k ↦ let r = from_flat item_entries (items m) (record { name = name; entity = Inner n actuals }) k in
        in_flat (spec.called_by program) (items m) r.0 j r.1 (item_calls r.0 name n actuals j r.2 f)
  ]

  module _ (few : length program.modules < most) (none : spec.recursion_fault program ≡ None) where
    abbrev graph : List (List ℕ)
    graph = spec.graph program

    pub size : length graph ≡ length program.modules
    size = length-map program.modules (spec.called_within program)

    pub few_vertices : length graph < most
    few_vertices = omega (arith, size, few)

    -- the rank of the module of a number: more than how many modules it reaches
    abbrev rank_by : Option ℕ → ℕ
    rank_by o = elim o as (λ o. ℕ) [ None ↦ 0 | Some k ↦ suc (reached_below graph few_vertices k (length program.modules)) ]

    abbrev rank : Name → ℕ
    rank name = rank_by (number_of program name)

    off : (k : ℕ) → k < length program.modules → on_cycle graph k ≡ false
    off k h = let same : 0 + k ≡ k = omega arith in subst (λ (x : ℕ). on_cycle graph x ≡ false) same (none_recursive graph 0 program.modules none k h)

    successor : (m name n : Name) (actuals : List Expr) (k j : ℕ) → number_of program m ≡ Some k → number_of program n ≡ Some j → In (record { name = name; entity = Inner n actuals }) (entries (module_named program m)) → In j (successors_in graph k)
    successor m name n actuals k j e f i = at (find (λ x. bytes_eq x.name m) program.modules) (module_at_number program.modules m k e) i
      where
        at : (o : Option Module) → slice_get program.modules k ≡ o → In (record { name = name; entity = Inner n actuals }) (entries (or_empty m o)) → In j (successors_in graph k)
        at None g i = absurd i
        at (Some x) g i = subst (λ (o : Option (List ℕ)). In j (unwrap_or o [])) (sym (slice_get-map (spec.called_within program) program.modules k ∙ ap (option_map (spec.called_within program)) g)) (calls x name n actuals j i f)

    falls_by : (m name n : Name) (actuals : List Expr) (o q : Option ℕ) → number_of program m ≡ o → number_of program n ≡ q → In (record { name = name; entity = Inner n actuals }) (entries (module_named program m)) → rank_by q < rank_by o
    falls_by m name n actuals None q e f i = absurd (subst (λ (x : Option Module). In (record { name = name; entity = Inner n actuals }) (entries (or_empty m x))) (no_module 0 program.modules m e) i)
    falls_by m name n actuals (Some k) None e f i = omega arith
    falls_by m name n actuals (Some k) (Some j) e f i =
        let within : j < 0 + length program.modules = number_within 0 program.modules n j f in
        let h : j < length program.modules = omega (arith, within) in
        omega (arith, reached_less graph few_vertices k j (off j h) (in_among j (successors_in graph k) (successor m name n actuals k j e f i)) (length program.modules) h)

    main_by : (o : Option ℕ) → number_of program (codes "main") ≡ o → rank_by o ≤ length program.modules
    main_by None e = omega arith
    main_by (Some k) e =
        let within : k < 0 + length program.modules = number_within 0 program.modules (codes "main") k e in
        let h : k < length program.modules = omega (arith, within) in
        omega (arith, not_all graph few_vertices k (length program.modules) (off k h) h)

    -- a model without a recursive module has ranks
    pub have_ranks : Ranks program rank
    have_ranks = record {
      falls = λ m name n actuals i. falls_by m name n actuals (number_of program m) (number_of program n) refl refl i;
      main = main_by (number_of program (codes "main")) refl;
    }

    -- so the limit on the depth of instances cuts none off
    pub depth_is_harmless : (p : Instance) (name called : Name) (actuals : List Expr) → In p (instances program) → In (record { name = name; entity = Inner called actuals }) (entries (module_at program p)) → goes_deeper program p ≡ true
    depth_is_harmless = depth_harmless program rank have_ranks
