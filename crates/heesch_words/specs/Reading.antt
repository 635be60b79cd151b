-- How one option is read from words.
use Rattle.std.specs.Prelude.{◌≡◌, ℕ, List, [], ◌∷◌, ◌++◌}
use Rattle.heesch_words.specs.declared.options.Options.{Options}
use Rattle.heesch_words.specs.Options.{Setting, setting_words, IsInRange, AreHeld}

-- the words are an option with its value, and others
pub record BeginWith (setting : Setting) (words others : List (List ℕ)) : Type 0 where
  pub spelled : words ≡ setting_words setting ++ others
  pub in_range : IsInRange setting

-- whichever settings the old options hold, the new ones hold this one too
abbrev pub AddsSetting : Setting → Options → Options → Type 0
AddsSetting setting old new = (settings : List Setting) → AreHeld settings old → AreHeld (settings ++ setting ∷ []) new

-- no options hold this setting beside those that are held
abbrev pub CannotAdd : Setting → Options → Type 0
CannotAdd setting old = (settings : List Setting) (new : Options) → AreHeld settings old → ¬ AreHeld (settings ++ setting ∷ []) new
