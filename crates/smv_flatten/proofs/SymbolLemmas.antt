-- The set of numbered symbols, as a list of names.
use Rattle.std.proofs.Common.{◌≡◌, List, [], ◌∷◌, ◌++◌, Bool, true, false, ◌||◌, cond, map, fold, refl, ap, ◌∙◌}
use Rattle.std.specs.Str.{bytes_eq}
use Rattle.std.specs.List.{list_any}
use Rattle.std.proofs.lemmas.List.{map-append}
use Rattle.std.proofs.lemmas.List.Sums.{fold-append}
use Rattle.indexmap.specs.IndexSet.{insert_key}
use denote.Ref.{Bor}
use Rattle.smv_meaning.specs.Value.{Name}
use Rattle.smv_flatten.specs.Names.{SymbolSet, symbol_names, with_symbol}

-- the names of borrowed names
abbrev pub spelt : List (Bor Name) → List Name
spelt = map (λ n. n.now)

any_spelt : (name : Name) (keys : List (Bor Name)) → list_any (λ n. bytes_eq name n.now) keys ≡ list_any (bytes_eq name) (spelt keys)
any_spelt name [] = refl
any_spelt name (k ∷ keys) = ap (λ b. bytes_eq name k.now || b) (any_spelt name keys)

key_inserted : (keys : List (Bor Name)) (k : Bor Name) → spelt (insert_key (λ x y. bytes_eq x.now y.now) keys k) ≡ with_symbol (spelt keys) k.now
key_inserted keys k = at (list_any (λ n. bytes_eq k.now n.now) keys) (list_any (bytes_eq k.now) (spelt keys)) (any_spelt k.now keys)
  where
    at : (b c : Bool) → b ≡ c → spelt (cond b keys (keys ++ k ∷ [])) ≡ cond c (spelt keys) (spelt keys ++ k.now ∷ [])
    at true c e = ap (λ (d : Bool). cond d (spelt keys) (spelt keys ++ k.now ∷ [])) e
    at false c e = map-append (λ n. n.now) keys (k ∷ []) ∙ ap (λ (d : Bool). cond d (spelt keys) (spelt keys ++ k.now ∷ [])) e

-- one more symbol
pub symbols_inserted : (before after : SymbolSet) (k : Bor Name) → after.keys ≡ insert_key (λ x y. bytes_eq x.now y.now) before.keys k → symbol_names after ≡ with_symbol (symbol_names before) k.now
symbols_inserted before after k e = ap spelt e ∙ key_inserted before.keys k

-- the symbols of two lists
pub symbols_appended : (found xs ys : List Name) → fold with_symbol found (xs ++ ys) ≡ fold with_symbol (fold with_symbol found xs) ys
symbols_appended found xs ys = fold-append with_symbol found xs ys
