-- Members of lists and of the list of instances: a declared instance is one, and so is its outer
-- instance.
use Rattle.std.proofs.Common.{◌≡◌, ℕ, zero, suc, ◌+◌, ◌<◌, ◌⊎◌, inl, inr, Bool, true, false, cond, List, [], ◌∷◌, ◌++◌, length, map, Some, refl, sym, ap, ◌∙◌, subst, arith}
use Rattle.std.specs.Prelude.{slice_get, filter, find, nat_lt}
use Rattle.std.specs.List.{flat_map, Contains, All}
use Rattle.std.specs.Str.{bytes_eq}
use Rattle.std.proofs.lemmas.Slice.Eq.{bytes_eq-Decides}
use Rattle.smv_ast.specs.declared.program.Program.{Program}
use Rattle.smv_meaning.specs.Value.{Name, and_then}
use Rattle.smv_meaning.specs.Instances.{Entity, Variable, Inner, Defined, Formal, Entry, Instance, Main, Within, entries, module_at, inner_of, inner_instances, subtree, goes_deeper, depth_of, instances}

-- a member of a list
abbrev pub In : {A : Type 0} → A → List A → Type 0
In x [] = ⊥
In x (y ∷ ys) = (y ≡ x) ⊎ In x ys

pub in_of : {A : Type 0} (xs : List A) (x : A) → Contains xs x → In x xs
in_of [] x (k, h, e) = absurd (omega arith)
in_of (y ∷ ys) x (zero, h, e) = inl e
in_of (y ∷ ys) x (suc k, h, e) = inr (in_of ys x (k, omega arith, e))

pub all_in : {A : Type 0} (P : A → Type 0) (xs : List A) (x : A) → All P xs → In x xs → P x
all_in P [] x h i = absurd i
all_in P (y ∷ ys) x h (inl e) = subst P e (h 0 x (omega arith))
all_in P (y ∷ ys) x h (inr i) = all_in P ys x (λ k d l. h (suc k) d (omega arith)) i

pub in_map : {A B : Type 0} (f : A → B) (xs : List A) (x : A) → In x xs → In (f x) (map f xs)
in_map f [] x i = absurd i
in_map f (y ∷ ys) x (inl e) = inl (ap f e)
in_map f (y ∷ ys) x (inr i) = inr (in_map f ys x i)

pub from_map : {A B : Type 0} (f : A → B) (xs : List A) (y : B) → In y (map f xs) → (x : A) × In x xs × (f x ≡ y)
from_map f [] y i = absurd i
from_map f (x ∷ xs) y (inl e) = (x, inl refl, e)
from_map f (x ∷ xs) y (inr i) = let r = from_map f xs y i in (r.0, inr r.1, r.2)

in_left : {A : Type 0} (xs ys : List A) (x : A) → In x xs → In x (xs ++ ys)
in_left [] ys x i = absurd i
in_left (z ∷ zs) ys x (inl e) = inl e
in_left (z ∷ zs) ys x (inr i) = inr (in_left zs ys x i)

in_right : {A : Type 0} (xs ys : List A) (x : A) → In x ys → In x (xs ++ ys)
in_right [] ys x i = i
in_right (z ∷ zs) ys x i = inr (in_right zs ys x i)

pub in_either : {A : Type 0} (xs ys : List A) (x : A) → In x (xs ++ ys) → In x xs ⊎ In x ys
in_either [] ys x i = inr i
in_either (z ∷ zs) ys x (inl e) = inl (inl e)
in_either (z ∷ zs) ys x (inr i) = elim (in_either zs ys x i) [ inl j ↦ inl (inr j) | inr j ↦ inr j ]

pub in_flat : {A B : Type 0} (f : A → List B) (xs : List A) (x : A) (y : B) → In x xs → In y (f x) → In y (flat_map f xs)
in_flat f [] x y i j = absurd i
in_flat f (z ∷ zs) x y (inl e) j = in_left (f z) (flat_map f zs) y (subst (λ w. In y (f w)) (sym e) j)
in_flat f (z ∷ zs) x y (inr i) j = in_right (f z) (flat_map f zs) y (in_flat f zs x y i j)

pub from_flat : {A B : Type 0} (f : A → List B) (xs : List A) (y : B) → In y (flat_map f xs) → (x : A) × In x xs × In y (f x)
from_flat f [] y i = absurd i
from_flat f (x ∷ xs) y i = elim (in_either (f x) (flat_map f xs) y i) [ inl j ↦ (x, inl refl, j) | inr j ↦ let r = from_flat f xs y j in (r.0, inr r.1, r.2) ]

pub from_filter : {A : Type 0} (test : A → Bool) (xs : List A) (x : A) → In x (filter test xs) → In x xs × (test x ≡ true)
from_filter test [] x i = absurd i
from_filter {A} test (y ∷ ys) x i = at (from_filter test ys x) (test y) refl i
  where
    at : (In x (filter test ys) → In x ys × (test x ≡ true)) → (b : Bool) → test y ≡ b → In x (cond b (y ∷ filter test ys) (filter test ys)) → In x (y ∷ ys) × (test x ≡ true)
    at more true e (inl same) = (inl same, subst (λ (z : A). test z ≡ true) same e)
    at more true e (inr j) = let r = more j in (inr r.0, r.1)
    at more false e j = let r = more j in (inr r.0, r.1)

pub in_get : {A : Type 0} (xs : List A) (k : ℕ) (x : A) → slice_get xs k ≡ Some x → In x xs
in_get [] k x e = cc
in_get (y ∷ ys) zero x e = inl (cc)
in_get (y ∷ ys) (suc k) x e = inr (in_get ys k x e)

-- ---- entries

-- the entry of a name
pub record Declares (es : List Entry) (name : Name) (m : Entity) : Type 0 where
  pub entry : Entry
  pub among : In entry es
  pub named : entry.name ≡ name
  pub means : entry.entity ≡ m

pub declares : (es : List Entry) (name : Name) (m : Entity) → and_then (find (λ e. bytes_eq e.name name) es) (λ e. Some e.entity) ≡ Some m → Declares es name m
declares [] name m h = cc
declares (e ∷ es) name m h = at (declares es name m) (bytes_eq e.name name) refl h
  where
    at : (and_then (find (λ e. bytes_eq e.name name) es) (λ e. Some e.entity) ≡ Some m → Declares es name m) → (b : Bool) → bytes_eq e.name name ≡ b → and_then (cond b (Some e) (find (λ e. bytes_eq e.name name) es)) (λ e. Some e.entity) ≡ Some m → Declares (e ∷ es) name m
    at more true b h = record { entry = e; among = inl refl; named = (bytes_eq-Decides e.name name).0 b; means = cc }
    at more false b h = let d = more h in record { entry = d.entry; among = inr d.among; named = d.named; means = d.means }

-- ---- instances

-- an instance that another declares
pub record IsInner (program : Program) (instance c : Instance) : Type 0 where
  pub name : Name
  pub called : Name
  pub is : c ≡ Within instance name called
  pub deeper : goes_deeper program instance ≡ true

inner_one : (program : Program) (instance c : Instance) (name : Name) (m : Entity) → In c (inner_of program instance name m) → IsInner program instance c
inner_one program instance c name (Variable t) i = absurd i
inner_one program instance c name (Inner called actuals) i = at (goes_deeper program instance) refl i
  where
    at : (b : Bool) → goes_deeper program instance ≡ b → In c (cond b (Within instance name called ∷ []) []) → IsInner program instance c
    at true d (inl e) = record { name = name; called = called; is = sym e; deeper = d }
    at true d (inr i) = absurd i
    at false d i = absurd i
inner_one program instance c name (Defined right) i = absurd i
inner_one program instance c name (Formal k) i = absurd i

pub inner_is : (program : Program) (instance c : Instance) → In c (inner_instances program instance) → IsInner program instance c
inner_is program instance c i =
    let r = from_flat (λ e. inner_of program instance e.name e.entity) (entries (module_at program instance)) c i in inner_one program instance c r.0.name r.0.entity r.2

head_in : (d : ℕ) (program : Program) (instance : Instance) → In instance (subtree d program instance)
head_in zero program instance = inl refl
head_in (suc d) program instance = inl refl

below_in : (d : ℕ) (program : Program) (top p q : Instance) → In p (subtree d program top) → depth_of p < d + depth_of top → In q (inner_instances program p) → In q (subtree d program top)
below_in zero program top p q (inl e) h i = absurd (omega (arith, ap depth_of e))
below_in zero program top p q (inr j) h i = absurd j
below_in (suc d) program top p q (inl e) h i =
    inr (in_flat (subtree d program) (inner_instances program top) q q (subst (λ (x : Instance). In q (inner_instances program x)) (sym e) i) (head_in d program q))
below_in (suc d) program top p q (inr j) h i =
    let r = from_flat (subtree d program) (inner_instances program top) p j in
    let c = inner_is program top r.0 r.1 in
    let deep : depth_of r.0 ≡ suc (depth_of top) = ap depth_of c.is in
    inr (in_flat (subtree d program) (inner_instances program top) r.0 q r.1 (below_in d program r.0 p q r.2 (omega arith) i))

-- an instance that an instance declares is an instance of the program
pub inner_in : (program : Program) (p q : Instance) → In p (instances program) → In q (inner_instances program p) → In q (instances program)
inner_in program p q i j =
    let d : nat_lt (depth_of p) (length program.modules) ≡ true = (inner_is program p q j).deeper in
    let l : depth_of p < length program.modules + 0 = grind arith in
    below_in (length program.modules) program Main p q i l j

outer_in_from : (d : ℕ) (program : Program) (top outer : Instance) (name called : Name) → In (Within outer name called) (subtree d program top) → (Within outer name called ≡ top) ⊎ In outer (subtree d program top)
outer_in_from zero program top outer name called (inl e) = inl (sym e)
outer_in_from zero program top outer name called (inr j) = absurd j
outer_in_from (suc d) program top outer name called (inl e) = inl (sym e)
outer_in_from (suc d) program top outer name called (inr j) =
    let r = from_flat (subtree d program) (inner_instances program top) (Within outer name called) j in
    let c = inner_is program top r.0 r.1 in
    elim (outer_in_from d program r.0 outer name called r.2) [
      | inl e ↦ let f : Within outer name called ≡ Within top c.name c.called = e ∙ c.is in let g : top ≡ outer = (cc) in inr (inl g)
      | inr k ↦ inr (inr (in_flat (subtree d program) (inner_instances program top) r.0 outer r.1 k))
    ]

-- an outer instance is an instance of the program
pub outer_in : (program : Program) (outer : Instance) (name called : Name) → In (Within outer name called) (instances program) → In outer (instances program)
outer_in program outer name called i = elim (outer_in_from (length program.modules) program Main outer name called i) [ inl e ↦ cc | inr j ↦ j ]
