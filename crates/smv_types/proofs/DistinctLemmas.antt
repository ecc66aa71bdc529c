-- The instances of a model without a fault of names are distinct.
use Rattle.std.proofs.Common.{◌≡◌, ◌≢◌, ℕ, zero, suc, ◌≤◌, ◌⊎◌, inl, inr, Bool, true, false, cond, List, [], ◌∷◌, ◌++◌, length, map, Some, None, refl, sym, ap, ◌∙◌, subst, arith}
use Rattle.std.proofs.lemmas.Bool.{or_parts}
use Rattle.std.specs.Prelude.{find}
use Rattle.std.specs.List.{flat_map, AllPairs}
use Rattle.std.specs.Str.{bytes_eq}
use Rattle.std.proofs.lemmas.Slice.Eq.{bytes_eq-Decides}
use Rattle.smv_ast.specs.declared.syntax.Span.{Span}
use Rattle.smv_ast.specs.declared.program.Module.{Module}
use Rattle.smv_ast.specs.declared.program.Program.{Program}
use Rattle.smv_meaning.specs.Value.{Name}
use Rattle.smv_meaning.specs.Instances.{Entity, Variable, Inner, Defined, Formal, Entry, Instance, Main, Within, formals_from, item_entries, entries, or_empty, called_at, module_at, goes_deeper, inner_of, inner_instances, depth_of, subtree, instances}
use Rattle.smv_meaning.specs.Items.{Item, Declares, Assigns, Defines, Constrains, items}
use Rattle.smv_meaning.specs.NameSets.{and_name, no_name}
use Rattle.smv_names.specs.Duplicates.{DeclaredName, name_of_formal, names_of_item, declared_names, declares, duplicate_declared, duplicate_in_type, duplicate_name, duplicate_at, duplicate_within, duplicate_among_names, duplicate_among_modules, duplicate_fault}
use Rattle.smv_names.specs.NamesFault.{names_fault, module_fault, instance_fault}
use Rattle.smv_meaning.proofs.MemberLemmas.{In, from_flat, inner_is}
use Rattle.smv_types.proofs.ApartLemmas.{Apart, pairs_of, apart_before, one_source, flat_apart}
use Rattle.smv_meaning.proofs.FirstFault.{neither_found, not_broken}
use Rattle.smv_meaning.specs.Runs.{or_else}

-- ---- the names of a module

abbrev entry_names : List Entry → List Name
entry_names es = map (λ (e : Entry). e.name) es

abbrev names_declared : List DeclaredName → List Name
names_declared ss = map (λ (s : DeclaredName). s.name) ss

formals_same : (k : ℕ) (at : Span) (names : List Name) (es : List Entry) (ss : List DeclaredName) → entry_names es ≡ names_declared ss → entry_names (formals_from k names ++ es) ≡ names_declared (map (name_of_formal at) names ++ ss)
formals_same k at [] es ss h = h
formals_same k at (name ∷ names) es ss h = ap (λ (l : List Name). name ∷ l) (formals_same (suc k) at names es ss h)

-- the names that these items declare
abbrev item_names : List Item → List Name
item_names xs = names_declared (flat_map names_of_item xs)

items_same : (xs : List Item) → entry_names (flat_map item_entries xs) ≡ item_names xs
items_same [] = refl
items_same (Declares name what at ∷ xs) = ap (λ (l : List Name). name ∷ l) (items_same xs)
items_same (Assigns left name right at ∷ xs) = items_same xs
items_same (Defines name right at ∷ xs) = ap (λ (l : List Name). name ∷ l) (items_same xs)
items_same (Constrains role e at ∷ xs) = items_same xs

-- the entries of a module have the names that it declares
same_names : (m : Module) → entry_names (entries m) ≡ names_declared (declared_names m)
same_names m = formals_same 0 m.at m.formals (flat_map item_entries (items m)) (flat_map names_of_item (items m)) (items_same (items m))

-- without a duplicate, no name was visited before
unseen : (declared seen : Name → Bool) (ss : List DeclaredName) (name : Name) → duplicate_among_names declared seen ss ≡ None → In name (names_declared ss) → seen name ≡ false
unseen declared seen [] name h i = absurd i
unseen declared seen (s ∷ ss) name h (inl e) =
    let a = neither_found (duplicate_declared declared seen s) (duplicate_among_names declared (and_name seen s.name) ss) h in
    let b = neither_found (duplicate_name seen s.at s.name) (duplicate_in_type s.at declared s.type) a.0 in
    subst (λ (n : Name). seen n ≡ false) e (not_broken (seen s.name) _ b.0)
unseen declared seen (s ∷ ss) name h (inr i) =
    let a = neither_found (duplicate_declared declared seen s) (duplicate_among_names declared (and_name seen s.name) ss) h in
    (or_parts _ _ (unseen declared (and_name seen s.name) ss name a.1 i)).0

declared_apart : (declared seen : Name → Bool) (ss : List DeclaredName) → duplicate_among_names declared seen ss ≡ None → Apart (names_declared ss)
declared_apart declared seen [] h = tt
declared_apart declared seen (s ∷ ss) h =
    let a = neither_found (duplicate_declared declared seen s) (duplicate_among_names declared (and_name seen s.name) ss) h in
    let same = (bytes_eq-Decides s.name s.name).1 refl in
    (λ i. let b = or_parts (seen s.name) (bytes_eq s.name s.name) (unseen declared (and_name seen s.name) ss s.name a.1 i) in cc, declared_apart declared (and_name seen s.name) ss a.1)

-- the module that was found, or the empty one
pub found_apart : (name : Name) (seen : Name → Bool) (ms : List Module) → duplicate_among_modules seen ms ≡ None → Apart (entry_names (entries (or_empty name (find (λ m. bytes_eq m.name name) ms))))
found_apart name seen [] h = tt
found_apart name seen (m ∷ ms) h =
    let a = neither_found (duplicate_at seen m) (duplicate_among_modules (and_name seen m.name) ms) h in
    let b = neither_found (duplicate_name seen m.at m.name) (duplicate_within (declared_names m)) a.0 in
    by_name (bytes_eq m.name name) (subst Apart (sym (same_names m)) (declared_apart (declares (declared_names m)) no_name (declared_names m) b.1)) (found_apart name (and_name seen m.name) ms a.1) where
      by_name : (v : Bool) → Apart (entry_names (entries m)) → Apart (entry_names (entries (or_empty name (find (λ m. bytes_eq m.name name) ms))))
          → Apart (entry_names (entries (or_empty name (cond v (Some m) (find (λ m. bytes_eq m.name name) ms)))))
      by_name true h k = h
      by_name false h k = k

-- ---- instances

-- the name under which an instance is declared
abbrev pub last_name : Instance → Name
last_name Main = []
last_name (Within outer name called) = name

pub inner_named : (program : Program) (instance c : Instance) (name : Name) (m : Entity) → In c (inner_of program instance name m) → last_name c ≡ name
inner_named program instance c name (Variable t) i = absurd i
inner_named program instance c name (Inner called actuals) i = at (goes_deeper program instance) i
  where
    at : (b : Bool) → In c (cond b (Within instance name called ∷ []) []) → last_name c ≡ name
    at true (inl e) = sym (ap last_name e)
    at true (inr i) = absurd i
    at false i = absurd i
inner_named program instance c name (Defined right) i = absurd i
inner_named program instance c name (Formal k) i = absurd i

inner_one_apart : (program : Program) (instance : Instance) (name : Name) (m : Entity) → Apart (inner_of program instance name m)
inner_one_apart program instance name (Variable t) = tt
inner_one_apart program instance name (Inner called actuals) = at (goes_deeper program instance)
  where
    at : (b : Bool) → Apart (cond b (Within instance name called ∷ []) [])
    at true = (λ i. i, tt)
    at false = tt
inner_one_apart program instance name (Defined right) = tt
inner_one_apart program instance name (Formal k) = tt

-- the instances that an instance declares are distinct
inner_apart : (program : Program) (instance : Instance) → duplicate_fault program ≡ None → Apart (inner_instances program instance)
inner_apart program instance h =
    let es = entries (module_at program instance) in
    let apart = found_apart (called_at instance) no_name program.modules h in
    flat_apart (λ e. inner_of program instance e.name e.entity) es (apart_before (λ e. e.name) es apart) (λ e. inner_one_apart program instance e.name e.entity)
    (λ x y z i j a b. one_source (λ e. e.name) es x y apart i j (sym (inner_named program instance z x.name x.entity a) ∙ inner_named program instance z y.name y.entity b))

-- an instance is another, or below it
abbrev Under : Instance → Instance → Type 0
Under top Main = Main ≡ top
Under top (Within outer name called) = (Within outer name called ≡ top) ⊎ Under top outer

under_itself : (p : Instance) → Under p p
under_itself Main = refl
under_itself (Within outer name called) = inl refl

under_deep : (top p : Instance) → Under top p → depth_of top ≤ depth_of p
under_deep top Main e = omega (arith, ap depth_of e)
under_deep top (Within outer name called) (inl e) = omega (arith, ap depth_of e)
under_deep top (Within outer name called) (inr u) = omega (arith, under_deep top outer u)

under_outer : (top p : Instance) (name called : Name) → Under (Within top name called) p → Under top p
under_outer top Main name called e = cc
under_outer top (Within outer n c) name called (inl e) = let same : top ≡ outer = (cc) in inr (subst (λ (p : Instance). Under top p) same (under_itself top))
under_outer top (Within outer n c) name called (inr u) = inr (under_outer top outer name called u)

-- an instance has one ancestor at each depth
one_around : (a b p : Instance) → depth_of a ≡ depth_of b → Under a p → Under b p → a ≡ b
one_around a b Main same e f = sym e ∙ f
one_around a b (Within outer name called) same (inl e) (inl f) = sym e ∙ f
one_around a b (Within outer name called) same (inl e) (inr v) = absurd (omega (arith, ap depth_of e, under_deep b outer v))
one_around a b (Within outer name called) same (inr u) (inl f) = absurd (omega (arith, ap depth_of f, under_deep a outer u))
one_around a b (Within outer name called) same (inr u) (inr v) = one_around a b outer same u v

-- the instances of a subtree are below its root
all_under : (d : ℕ) (program : Program) (top p : Instance) → In p (subtree d program top) → Under top p
all_under zero program top p (inl e) = subst (λ (q : Instance). Under top q) e (under_itself top)
all_under zero program top p (inr i) = absurd i
all_under (suc d) program top p (inl e) = subst (λ (q : Instance). Under top q) e (under_itself top)
all_under (suc d) program top p (inr i) =
    let r = from_flat (subtree d program) (inner_instances program top) p i in
    let c = inner_is program top r.0 r.1 in
    under_outer top p c.name c.called (subst (λ (q : Instance). Under q p) c.is (all_under d program r.0 p r.2))

inner_deep : (program : Program) (instance c : Instance) → In c (inner_instances program instance) → depth_of c ≡ suc (depth_of instance)
inner_deep program instance c i = ap depth_of (inner_is program instance c i).is

from_apart : (d : ℕ) (program : Program) (top : Instance) → duplicate_fault program ≡ None → Apart (subtree d program top)
from_apart zero program top h = (λ i. i, tt)
from_apart (suc d) program top h = (
  λ i. let r = from_flat (subtree d program) (inner_instances program top) top i in absurd (omega (arith, inner_deep program top r.0 r.1, under_deep r.0 top (all_under d program r.0 top r.2))),
  flat_apart (subtree d program) (inner_instances program top) (inner_apart program top h) (λ c. from_apart d program c h)
      (λ x y z i j a b. one_around x y z (inner_deep program top x i ∙ sym (inner_deep program top y j)) (all_under d program x z a) (all_under d program y z b)),
)

-- the instances of a model without a fault of names are distinct
pub instances_apart : (program : Program) → names_fault program ≡ None → AllPairs (λ p q. p ≢ q) (instances program)
instances_apart program h =
    pairs_of (instances program) (from_apart (length program.modules) program Main (neither_found (duplicate_fault program) (or_else (module_fault program) (instance_fault program)) h).0)
