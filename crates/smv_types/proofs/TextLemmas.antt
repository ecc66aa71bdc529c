-- The texts of instances and of variables of a model without a fault of names, whose names contain no dot, are pairwise different.
use Rattle.std.proofs.Common.{◌≡◌, ℕ, zero, suc, ◌⊎◌, inl, inr, Bool, true, false, cond, List, [], ◌∷◌, ◌++◌, map, Some, None, codes, refl, sym, ap, ◌∙◌, subst, arith}
use Rattle.std.proofs.lemmas.Bool.{or_parts}
use Rattle.std.specs.Prelude.{find, All}
use Rattle.std.specs.List.{flat_map}
use Rattle.std.specs.Str.{bytes_eq}
use Rattle.smv_ast.specs.PrintedExpr.{joined, each_after}
use Rattle.smv_ast.specs.declared.program.Module.{Module}
use Rattle.smv_ast.specs.declared.program.Program.{Program}
use Rattle.smv_meaning.specs.Value.{Name}
use Rattle.smv_meaning.specs.Instances.{Entity, Variable, Inner, Defined, Formal, Entry, Instance, Main, Within, entries, or_empty, module_at, goes_deeper, inner_of, inner_instances, subtree, instances, path_of, instance_text, called_at}
use Rattle.smv_meaning.specs.Runs.{VariableAt, variable_of, variables, path_text, or_else}
use Rattle.smv_names.specs.Duplicates.{duplicate_fault}
use Rattle.smv_meaning.specs.NameSets.{no_name}
use Rattle.smv_names.specs.NamesFault.{names_fault, module_fault, instance_fault}
use Rattle.smv_meaning.proofs.MemberLemmas.{In, all_in, from_map, from_flat, inner_is, outer_in}
use Rattle.smv_types.specs.Checks.{has_dot, AreDotless, HaveDistinctTexts}
use Rattle.smv_meaning.proofs.FirstFault.{neither_found}
use Rattle.smv_types.proofs.ApartLemmas.{Apart, pairs_of, apart_of, apart_before, one_source, flat_apart}
use Rattle.smv_types.proofs.DistinctLemmas.{inner_named, found_apart, instances_apart}

-- ---- joined names

abbrev Dotless : List Name → Type 0
Dotless [] = Unit {0}
Dotless (name ∷ more) = (has_dot name ≡ false) × Dotless more

dotless_push : (xs : List Name) (name : Name) → Dotless xs → has_dot name ≡ false → Dotless (xs ++ name ∷ [])
dotless_push [] name h d = (d, tt)
dotless_push (x ∷ xs) name h d = (h.0, dotless_push xs name h.1 d)

dot_first : (c : ℕ) (name : Name) → has_dot (c ∷ name) ≡ false → 46 ≡ c → ⊥
dot_first c name d e = let h : has_dot (46 ∷ name) ≡ false = subst (λ (x : ℕ). has_dot (x ∷ name) ≡ false) (sym e) d in cc

-- the first name of a text ends at the first dot
first_name : (a b : Name) (xs ys : List Name) → has_dot a ≡ false → has_dot b ≡ false → a ++ each_after (codes ".") xs ≡ b ++ each_after (codes ".") ys → (a ≡ b) × (each_after (codes ".") xs ≡ each_after (codes ".") ys)
first_name [] [] xs ys d f e = (refl, e)
first_name [] (c ∷ b) [] ys d f e = cc
first_name [] (c ∷ b) (x ∷ xs) ys d f e = absurd (dot_first c b f (cc))
first_name (c ∷ a) [] xs [] d f e = cc
first_name (c ∷ a) [] xs (y ∷ ys) d f e = absurd (dot_first c a d (cc))
first_name (c ∷ a) (g ∷ b) xs ys d f e =
    let head : c ≡ g = (cc) in
    let tail : a ++ each_after (codes ".") xs ≡ b ++ each_after (codes ".") ys = (cc) in
    let r = first_name a b xs ys (or_parts _ _ d).1 (or_parts _ _ f).1 tail in
    (ap (λ z. z ∷ a) head ∙ ap (λ n. g ∷ n) r.0, r.1)

after_same : (xs ys : List Name) → Dotless xs → Dotless ys → each_after (codes ".") xs ≡ each_after (codes ".") ys → xs ≡ ys
after_same [] [] d f e = refl
after_same [] (y ∷ ys) d f e = cc
after_same (x ∷ xs) [] d f e = cc
after_same (x ∷ xs) (y ∷ ys) d f e =
    let tail : x ++ each_after (codes ".") xs ≡ y ++ each_after (codes ".") ys = (cc) in
    let r = first_name x y xs ys d.0 f.0 tail in
    ap (λ z. z ∷ xs) r.0 ∙ ap (λ zs. y ∷ zs) (after_same xs ys d.1 f.1 r.1)

abbrev Full : List Name → Type 0
Full [] = ⊥
Full (x ∷ xs) = Unit {0}

full_push : (xs : List Name) (name : Name) → Full (xs ++ name ∷ [])
full_push [] name = tt
full_push (x ∷ xs) name = tt

-- names without dots can be read off their joined text
joined_same : (xs ys : List Name) → Full xs → Full ys → Dotless xs → Dotless ys → joined (codes ".") xs ≡ joined (codes ".") ys → xs ≡ ys
joined_same [] ys h k d f e = absurd h
joined_same (x ∷ xs) [] h k d f e = absurd k
joined_same (x ∷ xs) (y ∷ ys) h k d f e =
    let r = first_name x y xs ys d.0 f.0 e in
    ap (λ z. z ∷ xs) r.0 ∙ ap (λ zs. y ∷ zs) (after_same xs ys d.1 f.1 r.1)

-- ---- paths

no_push : (xs : List Name) (a : Name) → [] ≡ xs ++ a ∷ [] → ⊥
no_push [] a e = cc
no_push (x ∷ xs) a e = cc

push_same : (xs ys : List Name) (a b : Name) → xs ++ a ∷ [] ≡ ys ++ b ∷ [] → (xs ≡ ys) × (a ≡ b)
push_same [] [] a b e = (refl, (cc))
push_same [] (y ∷ ys) a b e = let h : [] ≡ ys ++ b ∷ [] = (cc) in absurd (no_push ys b h)
push_same (x ∷ xs) [] a b e = let h : [] ≡ xs ++ a ∷ [] = (cc) in absurd (no_push xs a h)
push_same (x ∷ xs) (y ∷ ys) a b e =
    let head : x ≡ y = (cc) in
    let tail : xs ++ a ∷ [] ≡ ys ++ b ∷ [] = (cc) in
    let r = push_same xs ys a b tail in
    (ap (λ z. z ∷ xs) head ∙ ap (λ zs. y ∷ zs) r.0, r.1)

-- an element that is mapped as another is that one, so images are apart
apart_map : {A B : Type 0} (f : A → B) (xs : List A) → Apart xs → ((x y : A) → In x xs → In y xs → f x ≡ f y → x ≡ y) → Apart (map f xs)
apart_map f [] h same = tt
apart_map {A} f (x ∷ xs) h same =
    (λ i. let r = from_map f xs (f x) i in h.0 (subst (λ (z : A). In z xs) (same r.0 x (inr r.1) (inl refl) r.2) r.1), apart_map f xs h.1 (λ y z i j. same y z (inr i) (inr j)))

declared_from : (d : ℕ) (program : Program) (top outer : Instance) (name called : Name) → In (Within outer name called) (subtree d program top) → (Within outer name called ≡ top) ⊎ In (Within outer name called) (inner_instances program outer)
declared_from zero program top outer name called (inl e) = inl (sym e)
declared_from zero program top outer name called (inr j) = absurd j
declared_from (suc d) program top outer name called (inl e) = inl (sym e)
declared_from (suc d) program top outer name called (inr j) =
    let r = from_flat (subtree d program) (inner_instances program top) (Within outer name called) j in
    let c = inner_is program top r.0 r.1 in
    elim (declared_from d program r.0 outer name called r.2) [
      | inl e ↦ let f : Within outer name called ≡ Within top c.name c.called = e ∙ c.is in let g : top ≡ outer = (cc) in
          inr (subst (λ (o : Instance). In (Within outer name called) (inner_instances program o)) g (subst (λ (x : Instance). In x (inner_instances program top)) (sym e) r.1))
      | inr k ↦ inr k
    ]

-- an instance is one of those that its outer instance declares
declared_in : (program : Program) (outer : Instance) (name called : Name) → In (Within outer name called) (instances program) → In (Within outer name called) (inner_instances program outer)
declared_in program outer name called i = elim (declared_from _ program Main outer name called i) [ inl e ↦ cc | inr j ↦ j ]

inner_single : (program : Program) (instance p q : Instance) (name : Name) (m : Entity) → In p (inner_of program instance name m) → In q (inner_of program instance name m) → p ≡ q
inner_single program instance p q name (Variable t) i j = absurd i
inner_single program instance p q name (Inner called actuals) i j = at (goes_deeper program instance) i j
  where
    at : (b : Bool) → In p (cond b (Within instance name called ∷ []) []) → In q (cond b (Within instance name called ∷ []) []) → p ≡ q
    at true (inl e) (inl f) = sym e ∙ f
    at true (inl e) (inr k) = absurd k
    at true (inr k) j = absurd k
    at false k j = absurd k
inner_single program instance p q name (Defined right) i j = absurd i
inner_single program instance p q name (Formal k) i j = absurd i

variable_single : (instance : Instance) (name : Name) (m : Entity) (x y : VariableAt) → In x (variable_of instance name m) → In y (variable_of instance name m) → x ≡ y
variable_single instance name (Variable t) x y (inl e) (inl f) = sym e ∙ f
variable_single instance name (Variable t) x y (inl e) (inr k) = absurd k
variable_single instance name (Variable t) x y (inr k) j = absurd k
variable_single instance name (Inner called actuals) x y i j = absurd i
variable_single instance name (Defined right) x y i j = absurd i
variable_single instance name (Formal k) x y i j = absurd i

variable_path : (instance : Instance) (name : Name) (m : Entity) (x : VariableAt) → In x (variable_of instance name m) → x.path ≡ path_of instance ++ name ∷ []
variable_path instance name (Variable t) x (inl e) = ap (λ (y : VariableAt). y.path) (sym e)
variable_path instance name (Variable t) x (inr k) = absurd k
variable_path instance name (Inner called actuals) x i = absurd i
variable_path instance name (Defined right) x i = absurd i
variable_path instance name (Formal k) x i = absurd i

variable_apart : (instance : Instance) (name : Name) (m : Entity) → Apart (variable_of instance name m)
variable_apart instance name (Variable t) = (λ i. i, tt)
variable_apart instance name (Inner called actuals) = tt
variable_apart instance name (Defined right) = tt
variable_apart instance name (Formal k) = tt

module _ (program : Program) (none : duplicate_fault program ≡ None) where
  abbrev names_at : Instance → List Entry
  names_at instance = entries (module_at program instance)

  entry_apart : (instance : Instance) → Apart (map (λ (e : Entry). e.name) (names_at instance))
  entry_apart instance = found_apart (called_at instance) no_name program.modules none

  one_entry : (instance : Instance) (e f : Entry) → In e (names_at instance) → In f (names_at instance) → e.name ≡ f.name → e ≡ f
  one_entry instance e f i j same = one_source (λ (e : Entry). e.name) (names_at instance) e f (entry_apart instance) i j same

  -- an instance is determined by its path
  one_path : (p q : Instance) → In p (instances program) → In q (instances program) → path_of p ≡ path_of q → p ≡ q
  one_path Main Main i j e = refl
  one_path Main (Within outer name called) i j e = absurd (no_push (path_of outer) name e)
  one_path (Within outer name called) Main i j e = absurd (no_push (path_of outer) name (sym e))
  one_path (Within o n c) (Within p m d) i j e =
      let parts = push_same (path_of o) (path_of p) n m e in
      let outer : o ≡ p = one_path o p (outer_in program o n c i) (outer_in program p m d j) parts.0 in
      let r = from_flat (λ e. inner_of program o e.name e.entity) (names_at o) (Within o n c) (declared_in program o n c i) in
      let s = from_flat (λ e. inner_of program o e.name e.entity) (names_at o) (Within p m d) (subst (λ (x : Instance). In (Within p m d) (inner_instances program x)) (sym outer) (declared_in program p m d j)) in
      let same : r.0.name ≡ s.0.name = sym (inner_named program o (Within o n c) r.0.name r.0.entity r.2) ∙ (parts.1 ∙ inner_named program o (Within p m d) s.0.name s.0.entity s.2) in
      let one : r.0 ≡ s.0 = one_entry o r.0 s.0 r.1 s.1 same in
      inner_single program o (Within o n c) (Within p m d) r.0.name r.0.entity r.2 (subst (λ (e : Entry). In (Within p m d) (inner_of program o e.name e.entity)) (sym one) s.2)

  abbrev variables_at : Instance → List VariableAt
  variables_at instance = flat_map (λ e. variable_of instance e.name e.entity) (names_at instance)

  -- the instance and the entry of a variable
  record Source (instance : Instance) (x : VariableAt) : Type 0 where
    entry : Entry
    among : In entry (names_at instance)
    here : In x (variable_of instance entry.name entry.entity)
    path : x.path ≡ path_of instance ++ entry.name ∷ []

  source : (instance : Instance) (x : VariableAt) → In x (variables_at instance) → Source instance x
  source instance x i =
      let r = from_flat (λ e. variable_of instance e.name e.entity) (names_at instance) x i in
      record { entry = r.0; among = r.1; here = r.2; path = variable_path instance r.0.name r.0.entity x r.2 }

  paths_same : (p q : Instance) (x y : VariableAt) (s : Source p x) (t : Source q y) → x.path ≡ y.path → (path_of p ≡ path_of q) × (s.entry.name ≡ t.entry.name)
  paths_same p q x y s t e = push_same (path_of p) (path_of q) s.entry.name t.entry.name (sym s.path ∙ (e ∙ t.path))

  -- a variable is determined by its path
  one_variable : (x y : VariableAt) → In x (variables program) → In y (variables program) → x.path ≡ y.path → x ≡ y
  one_variable x y i j e =
      let r = from_flat variables_at (instances program) x i in
      let q = from_flat variables_at (instances program) y j in
      let s = source r.0 x r.2 in
      let t = source q.0 y q.2 in
      let same = paths_same r.0 q.0 x y s t e in
      at r.0 q.0 (one_path r.0 q.0 r.1 q.1 same.0) s t same.1
    where
      at : (p q : Instance) → p ≡ q → (s : Source p x) (t : Source q y) → s.entry.name ≡ t.entry.name → x ≡ y
      at p q e s t n =
          let here : In y (variable_of p t.entry.name t.entry.entity) = subst (λ (o : Instance). In y (variable_of o t.entry.name t.entry.entity)) (sym e) t.here in
          let among : In t.entry (names_at p) = subst (λ (o : Instance). In t.entry (names_at o)) (sym e) t.among in
          let one : s.entry ≡ t.entry = one_entry p s.entry t.entry s.among among n in
          variable_single p s.entry.name s.entry.entity x y s.here (subst (λ (f : Entry). In y (variable_of p f.name f.entity)) (sym one) here)

  variables_apart : Apart (instances program) → Apart (variables program)
  variables_apart apart =
      flat_apart variables_at (instances program) apart each
      (λ p q x i j a b. let s = source p x a in let t = source q x b in one_path p q i j (paths_same p q x x s t refl).0)
    where
      each : (instance : Instance) → Apart (variables_at instance)
      each instance =
          flat_apart (λ e. variable_of instance e.name e.entity) (names_at instance) (apart_before (λ (e : Entry). e.name) (names_at instance) (entry_apart instance)) (λ e. variable_apart instance e.name e.entity)
          (λ e f x i j a b. one_entry instance e f i j (push_same (path_of instance) (path_of instance) e.name f.name (sym (variable_path instance e.name e.entity x a) ∙ variable_path instance f.name f.entity x b)).1)

  -- ---- names without dots

  module _ (dotless : AreDotless program) where
    entries_dotless : (name : Name) (ms : List Module) → All (λ m. All (λ e. has_dot e.name ≡ false) (entries m)) ms → (e : Entry) → In e (entries (or_empty name (find (λ m. bytes_eq m.name name) ms))) → has_dot e.name ≡ false
    entries_dotless name [] all e i = absurd i
    entries_dotless name (m ∷ ms) all e i = at (bytes_eq m.name name) (entries_dotless name ms (λ k d h. all (suc k) d (omega arith)) e) i
      where
        at : (v : Bool) → (In e (entries (or_empty name (find (λ m. bytes_eq m.name name) ms))) → has_dot e.name ≡ false) → In e (entries (or_empty name (cond v (Some m) (find (λ m. bytes_eq m.name name) ms)))) → has_dot e.name ≡ false
        at true more i = all_in (λ (e : Entry). has_dot e.name ≡ false) (entries m) e (all 0 m (omega arith)) i
        at false more i = more i

    entry_dotless : (instance : Instance) (e : Entry) → In e (names_at instance) → has_dot e.name ≡ false
    entry_dotless instance e i = entries_dotless (called_at instance) program.modules dotless e i

    path_dotless : (p : Instance) → In p (instances program) → Dotless (path_of p)
    path_dotless Main i = tt
    path_dotless (Within outer name called) i =
        let r = from_flat (λ e. inner_of program outer e.name e.entity) (names_at outer) (Within outer name called) (declared_in program outer name called i) in
        dotless_push (path_of outer) name (path_dotless outer (outer_in program outer name called i))
        (subst (λ (n : Name). has_dot n ≡ false) (sym (inner_named program outer (Within outer name called) r.0.name r.0.entity r.2)) (entry_dotless outer r.0 r.1))

    variable_dotless : (x : VariableAt) → In x (variables program) → Full x.path × Dotless x.path
    variable_dotless x i =
        let r = from_flat variables_at (instances program) x i in
        let s = source r.0 x r.2 in
        subst (λ (path : List Name). Full path × Dotless path) (sym s.path)
        (full_push (path_of r.0) s.entry.name, dotless_push (path_of r.0) s.entry.name (path_dotless r.0 r.1) (entry_dotless r.0 s.entry s.among))

    text_one : (p q : Instance) → In p (instances program) → In q (instances program) → instance_text p ≡ instance_text q → p ≡ q
    text_one p q i j e =
        let path : path_of p ≡ path_of q = after_same (path_of p) (path_of q) (path_dotless p i) (path_dotless q j) (first_name (codes "main") (codes "main") (path_of p) (path_of q) refl refl e).1 in
        one_path p q i j path

    variable_text_one : (x y : VariableAt) → In x (variables program) → In y (variables program) → path_text x.path ≡ path_text y.path → x ≡ y
    variable_text_one x y i j e =
        let a = variable_dotless x i in
        let b = variable_dotless y j in
        one_variable x y i j (joined_same x.path y.path a.0 b.0 a.1 b.1 e)

-- the texts of the instances of a model without a fault of names are different, and those of the paths of its variables, where no
-- name contains a dot
pub distinct_texts : (program : Program) → names_fault program ≡ None → AreDotless program → HaveDistinctTexts program
distinct_texts program h dotless =
    let none : duplicate_fault program ≡ None = (neither_found (duplicate_fault program) (or_else (module_fault program) (instance_fault program)) h).0 in
    let apart : Apart (instances program) = apart_of (instances program) (instances_apart program h) in
    record {
      instances = pairs_of (map instance_text (instances program)) (apart_map instance_text (instances program) apart (text_one program none dotless));
      variables = pairs_of (map (λ (x : VariableAt). path_text x.path) (variables program)) (apart_map (λ (x : VariableAt). path_text x.path) (variables program) (variables_apart program none apart) (variable_text_one program none dotless));
    }
