-- The sets of left sides, and the assignments that they are built from.
use Rattle.std.proofs.Common.{◌≡◌, Bool, true, false, ◌&&◌, ◌||◌, List, [], ◌∷◌, refl, ap, sym, ◌∙◌}
use Rattle.std.specs.List.{list_any}
use Rattle.std.specs.Str.{bytes_eq}
use Rattle.smv_ast.specs.declared.program.Left.{Left}
use Rattle.smv_ast.specs.declared.program.Left.TheVariants as left
use Rattle.smv_meaning.specs.Value.{Name}
use Rattle.smv_meaning.specs.Items.{Item, Declares, Assigns, Defines, Constrains}
use Rattle.smv_meaning.specs.Runs.{or_else}
use Rattle.smv_shape.specs.declared.assigned.Lefts.{Lefts}
use Rattle.smv_shape.specs.Assigned.{clash, clashes, clash_fault, double_after, same_left, assigns, clash_by, holds}

-- ---- one test of all forms, or a test of each

to_front : (e x y : Bool) → x || (e || y) ≡ e || (x || y)
to_front true true y = refl
to_front true false y = refl
to_front false x y = refl

grouped : (e x y : Bool) → (e || x) || y ≡ e || (x || y)
grouped true x y = refl
grouped false x y = refl

init_forms : (k : Left) (e x y : Bool) → ((same_left k left.Init && e) || x) || ((same_left k left.Now && e) || y) ≡ (clash k left.Init && e) || (x || y)
init_forms left.Init e x y = grouped e x y
init_forms left.Next e x y = refl
init_forms left.Now e x y = to_front e x y

next_forms : (k : Left) (e x y : Bool) → ((same_left k left.Next && e) || x) || ((same_left k left.Now && e) || y) ≡ (clash k left.Next && e) || (x || y)
next_forms left.Init e x y = refl
next_forms left.Next e x y = grouped e x y
next_forms left.Now e x y = to_front e x y

now_forms : (k : Left) (e x y z : Bool) → ((same_left k left.Now && e) || x) || (((same_left k left.Init && e) || y) || ((same_left k left.Next && e) || z)) ≡ (clash k left.Now && e) || (x || (y || z))
now_forms left.Init e x y z = ap (λ b. x || b) (grouped e y z) ∙ to_front e x (y || z)
now_forms left.Next e x y z = ap (λ b. x || b) (to_front e y z) ∙ to_front e x (y || z)
now_forms left.Now e x y z = grouped e x (y || z)

-- the left sides among items
abbrev pub assigned : List Item → Left → Name → Bool
assigned earlier l name = list_any (λ item. assigns item l name) earlier

-- one more item, before others that are tested alike
one_more : (item : Item) (held : Left → Name → Bool) (l : Left) (name : Name) → clash_by (λ k word. assigns item k word || held k word) l name ≡ clashes l name item || clash_by held l name
one_more (Assigns k word right at) held left.Init name = init_forms k (bytes_eq word name) _ _
one_more (Assigns k word right at) held left.Next name = next_forms k (bytes_eq word name) _ _
one_more (Assigns k word right at) held left.Now name = now_forms k (bytes_eq word name) _ _ _
one_more (Declares n what at) held left.Init name = refl
one_more (Declares n what at) held left.Next name = refl
one_more (Declares n what at) held left.Now name = refl
one_more (Defines n right at) held left.Init name = refl
one_more (Defines n right at) held left.Next name = refl
one_more (Defines n right at) held left.Now name = refl
one_more (Constrains r e at) held left.Init name = refl
one_more (Constrains r e at) held left.Next name = refl
one_more (Constrains r e at) held left.Now name = refl

by_forms : (earlier : List Item) (l : Left) (name : Name) → clash_by (assigned earlier) l name ≡ list_any (clashes l name) earlier
by_forms [] left.Init name = refl
by_forms [] left.Next name = refl
by_forms [] left.Now name = refl
by_forms (item ∷ more) l name = one_more item (assigned more) l name ∙ ap (λ b. clashes l name item || b) (by_forms more l name)

-- ---- the sets of left sides

-- the sets have exactly the left sides of these items
abbrev pub AreHeld : Lefts → List Item → Type 0
AreHeld lefts earlier = (l : Left) (name : Name) → holds lefts l name ≡ assigned earlier l name

clash_same : (f g : Left → Name → Bool) → ((l : Left) (name : Name) → f l name ≡ g l name) → (l : Left) (name : Name) → clash_by f l name ≡ clash_by g l name
clash_same f g same left.Init name = rw (same left.Init name, same left.Now name) refl
clash_same f g same left.Next name = rw (same left.Next name, same left.Now name) refl
clash_same f g same left.Now name = rw (same left.Init name, same left.Next name, same left.Now name) refl

fault_same : (f g : Left → Name → Bool) → ((l : Left) (name : Name) → f l name ≡ g l name) → (item : Item) → clash_fault f item ≡ clash_fault g item
fault_same f g same (Assigns l name right at) = rw (same l name) refl
fault_same f g same (Declares name what at) = refl
fault_same f g same (Defines name right at) = refl
fault_same f g same (Constrains r e at) = refl

-- the fault of the next item, by the sets of left sides
pub next_fault : (lefts : Lefts) (earlier : List Item) → AreHeld lefts earlier → (item : Item) (more : List Item) → double_after earlier (item ∷ more) ≡ or_else (clash_fault (clash_by (holds lefts)) item) (double_after (item ∷ earlier) more)
next_fault lefts earlier held item more =
    ap (λ o. or_else o (double_after (item ∷ earlier) more))
    (fault_same (λ l name. list_any (clashes l name) earlier) (clash_by (holds lefts)) (λ l name. sym (clash_same (holds lefts) (assigned earlier) held l name ∙ by_forms earlier l name)) item)

-- one more left side is inserted
pub held_more : (lefts after : Lefts) (earlier : List Item) (item : Item) → ((l : Left) (name : Name) → holds after l name ≡ assigns item l name || holds lefts l name) → AreHeld lefts earlier → AreHeld after (item ∷ earlier)
held_more lefts after earlier item added held = λ l name. added l name ∙ ap (λ b. assigns item l name || b) (held l name)
