-- The nodes of expressions, after a push.
use Rattle.std.proofs.Common.{◌≡◌, List, [], ◌∷◌, ◌++◌}
use Rattle.std.proofs.lemmas.List.{map-append}
use Rattle.smv_cycles.specs.declared.nodes.Node.{Node as Held}
use Rattle.smv_cycles.specs.Nodes.{nodes_view, node_view}

pub seen_push : (nodes : List Held) (n : Held) → nodes_view (nodes ++ n ∷ []) ≡ nodes_view nodes ++ node_view n ∷ []
seen_push nodes n = map-append node_view nodes (n ∷ [])
