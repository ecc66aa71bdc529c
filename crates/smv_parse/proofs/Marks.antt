-- Words and marks of printed models, with the blanks and line feeds round them, wherever they stand.
use Rattle.std.proofs.Common.{ℕ, ◌+◌, Bool, ◌++◌, codes, refl}
use Rattle.smv_expr.specs.declared.kind.Kind.TheVariants as k
use Rattle.smv_expr.specs.Lexicon.{Bytes, words, marks, word_lexeme, mark_lexeme, first_lexeme, same_kind}
use Rattle.smv_expr.specs.Language.{Tokens, word}
use Rattle.smv_expr.proofs.Cuts.{Spells}
use Rattle.smv_expr.proofs.CutWords.{any}
use Rattle.smv_expr.proofs.CutMarks.{mark}

-- ---- marks

pub becomes : Spells (λ m. word k.Becomes) (λ at. Unit {0}) any (codes " := ")
unfolding first_lexeme mark_lexeme word_lexeme words marks same_kind
becomes = mark k.Becomes (codes ":=") refl refl (λ file start remaining. record { span = record { file = file; at = start + 1 }; after_it = start + 1 + 1 + 1 + 1; is = refl })

-- at the end of a line
pub line_end : Spells (λ m. word k.Semicolon) (λ at. Unit {0}) any (codes ";\n")
unfolding first_lexeme mark_lexeme word_lexeme words marks same_kind
line_end = mark k.Semicolon (codes ";") refl refl (λ file start remaining. record { span = record { file = file; at = start }; after_it = start + 1 + 1; is = refl })

-- ---- words of sections

pub module_word : Spells (λ m. word k.Module) (λ at. Unit {0}) any (codes "MODULE ")
unfolding first_lexeme mark_lexeme word_lexeme words marks same_kind
module_word = mark k.Module (codes "MODULE") refl refl (λ file start remaining. record { span = record { file = file; at = start }; after_it = start + 1 + 1 + 1 + 1 + 1 + 1 + 1; is = refl })

pub var_word : Spells (λ m. word k.Var) (λ at. Unit {0}) any (codes "VAR\n")
unfolding first_lexeme mark_lexeme word_lexeme words marks same_kind
var_word = mark k.Var (codes "VAR") refl refl (λ file start remaining. record { span = record { file = file; at = start }; after_it = start + 1 + 1 + 1 + 1; is = refl })

pub assign_word : Spells (λ m. word k.Assign) (λ at. Unit {0}) any (codes "ASSIGN\n")
unfolding first_lexeme mark_lexeme word_lexeme words marks same_kind
assign_word = mark k.Assign (codes "ASSIGN") refl refl (λ file start remaining. record { span = record { file = file; at = start }; after_it = start + 1 + 1 + 1 + 1 + 1 + 1 + 1; is = refl })

pub define_word : Spells (λ m. word k.Define) (λ at. Unit {0}) any (codes "DEFINE\n")
unfolding first_lexeme mark_lexeme word_lexeme words marks same_kind
define_word = mark k.Define (codes "DEFINE") refl refl (λ file start remaining. record { span = record { file = file; at = start }; after_it = start + 1 + 1 + 1 + 1 + 1 + 1 + 1; is = refl })

pub init_section_word : Spells (λ m. word k.InitSection) (λ at. Unit {0}) any (codes "INIT ")
unfolding first_lexeme mark_lexeme word_lexeme words marks same_kind
init_section_word = mark k.InitSection (codes "INIT") refl refl (λ file start remaining. record { span = record { file = file; at = start }; after_it = start + 1 + 1 + 1 + 1 + 1; is = refl })

pub invar_word : Spells (λ m. word k.InvarSection) (λ at. Unit {0}) any (codes "INVAR ")
unfolding first_lexeme mark_lexeme word_lexeme words marks same_kind
invar_word = mark k.InvarSection (codes "INVAR") refl refl (λ file start remaining. record { span = record { file = file; at = start }; after_it = start + 1 + 1 + 1 + 1 + 1 + 1; is = refl })

pub trans_word : Spells (λ m. word k.TransSection) (λ at. Unit {0}) any (codes "TRANS ")
unfolding first_lexeme mark_lexeme word_lexeme words marks same_kind
trans_word = mark k.TransSection (codes "TRANS") refl refl (λ file start remaining. record { span = record { file = file; at = start }; after_it = start + 1 + 1 + 1 + 1 + 1 + 1; is = refl })

pub invarspec_word : Spells (λ m. word k.InvarSpec) (λ at. Unit {0}) any (codes "INVARSPEC ")
unfolding first_lexeme mark_lexeme word_lexeme words marks same_kind
invarspec_word = mark k.InvarSpec (codes "INVARSPEC") refl refl (λ file start remaining. record { span = record { file = file; at = start }; after_it = start + 1 + 1 + 1 + 1 + 1 + 1 + 1 + 1 + 1 + 1; is = refl })

-- ---- blanks

-- after a line feed
pub on_new_line : {A : Type 0} {L : ℕ → A → Tokens → Type 0} {P : A → Type 0} {ends : Bytes → Bool} {text : Bytes} → Spells L P ends text → Spells L P ends (codes "\n" ++ text)
unfolding first_lexeme same_kind
on_new_line x = record {
  depth = x.depth;
  at = λ m h file start remaining e. let c = x.at m h file (start + 1) remaining e in record {
    prefix = c.prefix;
    after_it = c.after_it;
    value = c.value;
    split = c.split;
    reads = c.reads;
    keeps = c.keeps;
    narrow = c.narrow;
  };
}

-- after two spaces
pub indented : {A : Type 0} {L : ℕ → A → Tokens → Type 0} {P : A → Type 0} {ends : Bytes → Bool} {text : Bytes} → Spells L P ends text → Spells L P ends (codes "  " ++ text)
unfolding first_lexeme same_kind
indented x = record {
  depth = x.depth;
  at = λ m h file start remaining e. let c = x.at m h file (start + 1 + 1) remaining e in record {
    prefix = c.prefix;
    after_it = c.after_it;
    value = c.value;
    split = c.split;
    reads = c.reads;
    keeps = c.keeps;
    narrow = c.narrow;
  };
}
