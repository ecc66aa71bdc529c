-- The paths of a list of references, after a push.
use Rattle.std.proofs.Common.{◌≡◌, List, [], ◌∷◌, ◌++◌}
use Rattle.std.proofs.lemmas.List.{map-append}
use denote.Ref.{Bor}
use Rattle.smv_ast.specs.declared.syntax.Path.{Path}
use Rattle.smv_meaning.specs.Mentions.{pointed}

pub pointed_push : (paths : List (Bor Path)) (path : Bor Path) → pointed (paths ++ path ∷ []) ≡ pointed paths ++ path.now ∷ []
pointed_push paths path = map-append (λ p. p.now) paths (path ∷ [])
