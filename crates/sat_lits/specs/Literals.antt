use Rattle.std.specs.Prelude.{ℕ, ◌+◌, ◌-◌, ◌*◌, ◌/◌, ◌%◌, ◌==◌, Bool, not, if◌then◌else◌}

-- A literal is its code: twice its variable, and one more where it is negative.
abbrev pub literal : ℕ → Bool → ℕ
literal var positive = if positive then 2 * var else 2 * var + 1

-- the variable of a literal
abbrev pub variable_of : ℕ → ℕ
variable_of l = l / 2

-- whether a literal is its variable, and not the negation of it
abbrev pub is_positive_literal : ℕ → Bool
is_positive_literal l = l % 2 == 0

-- the other literal of the same variable
abbrev pub negation : ℕ → ℕ
negation l = l + 1 - 2 * (l % 2)

-- whether the literal is true where the variables have these values
abbrev pub literal_true : (ℕ → Bool) → ℕ → Bool
literal_true values l = if is_positive_literal l then values (variable_of l) else not
    (values (variable_of l))
