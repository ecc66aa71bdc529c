-- The tables of what a family declares.
use Rattle.std.specs.Prelude.{◌≡◌, map}
use Rattle.smv_meaning.specs.Value.{Name}
use Rattle.smv_meaning.specs.NameSets.{in_set}
use Rattle.smv_meaning.specs.Scopes.{scope_view, scopes_of, IsModuleIndex}
use Rattle.integrate.specs.Introductions.{introduced_names, is_repeated, is_family_symbol}
use Rattle.integrate.specs.ModuleNames.{in_names}
use Rattle.integrate.specs.declared.introductions.Introductions.{Introductions}

-- the tables of a family are correct
pub record AreIntroductions (t : Introductions) : Type 0 where
  pub scopes : map scope_view t.scopes ≡ scopes_of t.base.now
  pub numbers : IsModuleIndex t.scopes t.numbers
  pub repeated : (called name : Name) → in_names t.repeated called name
      ≡ is_repeated (introduced_names t.features.now) called name
  pub symbols : in_set t.symbols ≡ is_family_symbol t.base.now t.features.now
