-- The options that follow the other words of a form.
use Rattle.std.specs.Prelude.{◌≡◌, ◌≤◌, ◌==◌, ℕ, Bool, true, false, if◌then◌else◌, ⊤, Option, Some, None, List, [], ◌∷◌, codes, decimal, option_map, unwrap_or, count_by}
use Rattle.std.specs.List.{flat_map, filter_map, AllByRecursion}
use Rattle.std.specs.Option.{option_to_list}
use Rattle.heesch_cnf.specs.declared.version.Version.{Version as FormulaVersion}
use Rattle.heesch_cnf.specs.declared.version.Version.TheVariants.{One, Two}
use Rattle.heesch_cert.specs.declared.limits.Limits.{Limits}
use Rattle.heesch_cert.specs.Limits.{AreLimits}
use Rattle.heesch_words.specs.declared.options.Options.{Options}

-- the options that take a number
pub data Name : Type 0 where
  Workers : Name
  Turns : Name
  Levels : Name
  Domain : Name
  Size : Name
  Version : Name

-- an option as it is given
pub data Setting : Type 0 where
  Number : Name → ℕ → Setting
  Brief : Setting

-- the word of an option that takes a number
abbrev pub name_word : Name → List ℕ
name_word Workers = codes "--workers"
name_word Turns = codes "--turns"
name_word Levels = codes "--levels"
name_word Domain = codes "--domain"
name_word Size = codes "--size"
name_word Version = codes "--version"

-- the option's word, and its number as the next word
abbrev pub setting_words : Setting → List (List ℕ)
setting_words (Number name n) = name_word name ∷ decimal n ∷ []
setting_words Brief = codes "--brief" ∷ []

-- the limits where none is given
abbrev pub default_limits : Limits
default_limits = record { turns = 20000; levels = 3; domain = 4; size = 60000000; version = Two }

-- the option takes this number: a limit where the limits with it lie in their ranges, a version of corona formulas where there is one
abbrev pub IsNumberInRange : Name → ℕ → Type 0
IsNumberInRange Workers n = (1 ≤ n) × (n ≤ 64)
IsNumberInRange Turns n = AreLimits (record default_limits { turns = n })
IsNumberInRange Levels n = AreLimits (record default_limits { levels = n })
IsNumberInRange Domain n = AreLimits (record default_limits { domain = n })
IsNumberInRange Size n = AreLimits (record default_limits { size = n })
IsNumberInRange Version n = (1 ≤ n) × (n ≤ 2)

-- the option takes its number
abbrev pub IsInRange : Setting → Type 0
IsInRange (Number name n) = IsNumberInRange name n
IsInRange Brief = ⊤

-- the setting's number, where it is this option's
abbrev pub number_of : Name → Setting → Option ℕ
number_of name Brief = None
number_of Workers (Number Workers n) = Some n
number_of Turns (Number Turns n) = Some n
number_of Levels (Number Levels n) = Some n
number_of Domain (Number Domain n) = Some n
number_of Size (Number Size n) = Some n
number_of Version (Number Version n) = Some n
number_of name (Number other n) = None

-- the setting is `--brief`
abbrev pub is_brief : Setting → Bool
is_brief (Number name n) = false
is_brief Brief = true

-- the number that is held for an option
abbrev pub held : Name → Options → Option ℕ
held Workers options = options.workers
held Turns options = options.turns
held Levels options = options.levels
held Domain options = options.domain
held Size options = options.size
held Version options = options.version

-- each option is among the settings at most once, with the number that is held
pub record AreHeld (settings : List Setting) (options : Options) : Type 0 where
  pub numbers : (name : Name) → filter_map (number_of name) settings ≡ option_to_list (held name options)
  pub brief : count_by is_brief settings ≡ (if options.brief then 1 else 0)

-- the words are options in any order, each at most once, and these are their values
pub record AreOptions (words : List (List ℕ)) (options : Options) : Type 0 where
  pub settings : List Setting
  pub spelled : words ≡ flat_map setting_words settings
  pub in_range : AllByRecursion IsInRange settings
  pub held : AreHeld settings options

-- no option is given beside `--workers`, `--size` and `--version`
pub record HasNoOthers (options : Options) : Type 0 where
  pub turns : options.turns ≡ None
  pub levels : options.levels ≡ None
  pub domain : options.domain ≡ None
  pub brief : options.brief ≡ false

-- no option is given beside `--workers`
pub record HasWorkersAlone (options : Options) : Type 0 where
  pub others : HasNoOthers options
  pub size : options.size ≡ None
  pub version : options.version ≡ None

-- no option is given beside `--size` and `--version`
pub record HasSizeAndVersionAlone (options : Options) : Type 0 where
  pub others : HasNoOthers options
  pub workers : options.workers ≡ None

-- the number of workers, by default 1
abbrev pub workers_of : Options → ℕ
workers_of options = unwrap_or options.workers 1

-- the version that a number, 1 or 2, names
abbrev pub version_named : ℕ → FormulaVersion
version_named n = if n == 1 then One else Two

-- the limits, each by default its own
abbrev pub limits_of : Options → Limits
limits_of options = record {
  turns = unwrap_or options.turns default_limits.turns;
  levels = unwrap_or options.levels default_limits.levels;
  domain = unwrap_or options.domain default_limits.domain;
  size = unwrap_or options.size default_limits.size;
  version = unwrap_or (option_map version_named options.version) default_limits.version;
}
