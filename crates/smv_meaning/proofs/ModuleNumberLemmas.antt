-- Maps from module names to numbers, after an insertion.
use Rattle.std.proofs.Common.{◌≡◌, ℕ, suc, ◌+◌, ◌-◌, ◌≤◌, List, [], ◌∷◌, Bool, true, false, cond, Option, Some, None, refl, sym, ◌∙◌, ap, subst, arith}
use Rattle.std.specs.Prelude.{is_some, slice_get, find}
use Rattle.std.specs.Str.{bytes_eq}
use Rattle.std.specs.HashMap.{Updates, IsEmpty}
use Rattle.std.proofs.lemmas.Slice.Eq.{bytes_eq-Decides}
use denote.Ref.{Bor}
use Rattle.smv_ast.specs.declared.program.Module.{Module}
use Rattle.smv_meaning.specs.Value.{Name, and_then}
use Rattle.smv_meaning.specs.Runs.{or_else}
use Rattle.smv_meaning.specs.Indices.{Numbers, number_held}
use Rattle.smv_meaning.specs.ModuleNumbers.{number_from}

-- the number that a map has for a name, else that of the first of the modules still to come
abbrev pub number_or : Numbers → ℕ → List Module → Name → Option ℕ
number_or map k ms name = or_else (number_held map name) (number_from k ms name)

bor : Name → Bor Name
bor name = record { ref_ptr = (0, 0); now = name }

-- a name that the map has already
pub number_old : (map : Numbers) (k : ℕ) (m : Module) (more : List Module) (name : Name) → is_some (number_held map m.name) ≡ true → number_or map k (m ∷ more) name ≡ number_or map (k + 1) more name
number_old map k m more name h = at (bytes_eq m.name name) refl ∙ ap (λ n. number_or map n more name) (let s : suc k ≡ k + 1 = omega arith in s)
  where
    some : (o p q : Option ℕ) → is_some o ≡ true → or_else o p ≡ or_else o q
    some None p q e = cc
    some (Some j) p q e = refl

    at : (b : Bool) → bytes_eq m.name name ≡ b → number_or map k (m ∷ more) name ≡ number_or map (suc k) more name
    at true e =
        let s : m.name ≡ name = (bytes_eq-Decides m.name name).0 e in
        some (number_held map name) _ _ (subst (λ (x : Name). is_some (number_held map x) ≡ true) s h)
    at false e = ap (λ (b : Bool). or_else (number_held map name) (cond b (Some k) (number_from (suc k) more name))) e

-- a name that is inserted
pub number_new : (map map' : Numbers) (k : ℕ) (m : Module) (more : List Module) (key : Bor Name) (name : Name) → key.now ≡ m.name → is_some (number_held map m.name) ≡ false → Updates (λ x y. bytes_eq x.now y.now) map map' key (Some k) →
    number_or map k (m ∷ more) name ≡ number_or map' (k + 1) more name
number_new map map' k m more key name same h u = at (bytes_eq m.name name) refl ∙ ap (λ n. number_or map' n more name) (let s : suc k ≡ k + 1 = omega arith in s)
  where
    none : (o p : Option ℕ) → is_some o ≡ false → or_else o p ≡ p
    none None p e = refl
    none (Some j) p e = cc

    now : number_held map' name ≡ cond (bytes_eq m.name name) (Some k) (number_held map name)
    now = u.0 (record { ref_ptr = (0, 0); now = name }) ∙ ap (λ (x : Name). cond (bytes_eq x name) (Some k) (number_held map name)) same

    at : (b : Bool) → bytes_eq m.name name ≡ b → number_or map k (m ∷ more) name ≡ number_or map' (suc k) more name
    at true e =
        let s : m.name ≡ name = (bytes_eq-Decides m.name name).0 e in
        none (number_held map name) _ (subst (λ (x : Name). is_some (number_held map x) ≡ false) s h)
        ∙ (ap (λ (b : Bool). cond b (Some k) (number_from (suc k) more name)) e
        ∙ sym (ap (λ (o : Option ℕ). or_else o (number_from (suc k) more name)) (now ∙ ap (λ (b : Bool). cond b (Some k) (number_held map name)) e)))
    at false e =
        ap (λ (b : Bool). or_else (number_held map name) (cond b (Some k) (number_from (suc k) more name))) e
        ∙ sym (ap (λ (o : Option ℕ). or_else o (number_from (suc k) more name)) (now ∙ ap (λ (b : Bool). cond b (Some k) (number_held map name)) e))

-- an empty map has no name
pub number_held_empty : (map : Numbers) (ms : List Module) (name : Name) → IsEmpty map → number_or map 0 ms name ≡ number_from 0 ms name
number_held_empty map ms name e = ap (λ (o : Option ℕ). or_else o (number_from 0 ms name)) (empty map name e)
  where
    empty : (map : Numbers) (name : Name) → IsEmpty map → number_held map name ≡ None
    empty map name e = grind (arith, e)

-- a module by its number
record NumberedAt (k : ℕ) (ms : List Module) (name : Name) (j : ℕ) : Type 0 where
  from : k ≤ j
  same : slice_get ms (j - k) ≡ find (λ m. bytes_eq m.name name) ms

numbered : (k : ℕ) (ms : List Module) (name : Name) (j : ℕ) → number_from k ms name ≡ Some j → NumberedAt k ms name j
numbered k [] name j e = cc
numbered k (m ∷ ms) name j e = at (numbered (suc k) ms name j) (bytes_eq m.name name) refl e
  where
    at : (number_from (suc k) ms name ≡ Some j → NumberedAt (suc k) ms name j) → (b : Bool) → bytes_eq m.name name ≡ b → cond b (Some k) (number_from (suc k) ms name) ≡ Some j → NumberedAt k (m ∷ ms) name j
    at more true f g =
        let s : k ≡ j = cc in
        let zero' : j - k ≡ 0 = omega arith in
        record { from = omega arith; same = ap (slice_get (m ∷ ms)) zero' ∙ sym (ap (λ (b : Bool). cond b (Some m) (find (λ m. bytes_eq m.name name) ms)) f) }
    at more false f g =
        let r = more g in
        let h = r.from in
        let next : j - k ≡ suc (j - suc k) = omega arith in
        record { from = omega arith; same = ap (slice_get (m ∷ ms)) next ∙ (r.same ∙ sym (ap (λ (b : Bool). cond b (Some m) (find (λ m. bytes_eq m.name name) ms)) f)) }

pub module_at_number : (ms : List Module) (name : Name) (j : ℕ) → number_from 0 ms name ≡ Some j → slice_get ms j ≡ find (λ m. bytes_eq m.name name) ms
module_at_number ms name j e = let r = numbered 0 ms name j e in let s : j - 0 ≡ j = omega arith in ap (slice_get ms) (sym s) ∙ r.same

pub no_module : (k : ℕ) (ms : List Module) (name : Name) → number_from k ms name ≡ None → find (λ m. bytes_eq m.name name) ms ≡ None
no_module k [] name e = refl
no_module k (m ∷ ms) name e = at (no_module (suc k) ms name) (bytes_eq m.name name) refl e
  where
    at : (number_from (suc k) ms name ≡ None → find (λ m. bytes_eq m.name name) ms ≡ None) → (b : Bool) → bytes_eq m.name name ≡ b → cond b (Some k) (number_from (suc k) ms name) ≡ None → cond (bytes_eq m.name name) (Some m) (find (λ m. bytes_eq m.name name) ms) ≡ None
    at more true f g = cc
    at more false f g = ap (λ (b : Bool). cond b (Some m) (find (λ m. bytes_eq m.name name) ms)) f ∙ more g

-- the module of the number of a name is the first of that name
pub numbered_module : (ms : List Module) (name : Name) → and_then (number_from 0 ms name) (slice_get ms) ≡ find (λ m. bytes_eq m.name name) ms
numbered_module ms name = at (number_from 0 ms name) refl
  where
    at : (o : Option ℕ) → number_from 0 ms name ≡ o → and_then o (slice_get ms) ≡ find (λ m. bytes_eq m.name name) ms
    at None e = sym (no_module 0 ms name e)
    at (Some j) e = module_at_number ms name j e
