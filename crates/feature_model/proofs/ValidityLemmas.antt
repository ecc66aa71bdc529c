-- What the loops over groups keep.
use Rattle.std.proofs.Common.{◌≡◌, ℕ, ◌+◌, ◌-◌, ◌<◌, List, length, drop, get_or, length-drop, ap, subst, ◌∙◌, arith}
use Rattle.std.proofs.lemmas.List.{get_or-drop, get_or_default}
use Rattle.std.specs.Prelude.{Any}
use Rattle.smv_ast.specs.declared.model.Product.{Product}
use Rattle.feature_model.specs.Products.{Has}

-- the child at the index does not stand in the product together with one behind it
abbrev pub AloneAt : Product → List ℕ → ℕ → Type 0
AloneAt p children one = (other d : ℕ) → one < other → other < length children → Has p (get_or children one d) → Has p (get_or children other d) → ⊥

-- the child at the index is followed by one that the product has
pub any_behind : (p : Product) (children : List ℕ) (one other d : ℕ) → one < other → other < length children → Has p (get_or children other d) → Any (Has p) (drop (one + 1) children)
any_behind p children one other d after within there =
    let x = get_or children other d in
    let k : ℕ = other - (one + 1) in
    let place : one + 1 + k ≡ other = omega arith in
    (k, x, omega (arith, length-drop (one + 1) children), get_or-drop (one + 1) children k x ∙ ap (λ i. get_or children i x) place ∙ get_or_default children other x d within, there)

pub alone_at : (p : Product) (children : List ℕ) (one : ℕ) → one < length children → (Has p (get_or children one 0) → Any (Has p) (drop (one + 1) children) → ⊥) → AloneAt p children one
alone_at p children one small alone other d after within there other_there =
    alone (subst (Has p) (get_or_default children one d 0 small) there) (any_behind p children one other d after within other_there)
