-- The options of an analysis beside its domain: a row for each. From it come its rule among the words, its reading, its
-- range and its default, and what a report's first line and its JSON say of it.
use Rattle.std.specs.Prelude.{ℕ, ◌≤◌, List, [], ◌∷◌, Bool, true, false, ◌&&◌, ◌||◌, not, nat_eq, Option, None, Some}
use Rattle.std.specs.{Prelude.codes, Str.Parse.digits_value}
use Rattle.lra_options.specs.Domains.{supports_thresholds}
use Rattle.lra_options.specs.declared.options.FlagOption.TheVariants.{Limited, Thresholds, Fits}
use Rattle.lra_options.specs.declared.options.NumberOption.TheVariants.{Parts, Delay, Narrow}
use Rattle.lra_options.specs.{declared.options.Domain.TheVariants.Poly, declared.options.FlagOption.FlagOption}
use Rattle.lra_options.specs.{declared.options.NumberOption.NumberOption, declared.options.Options.Options}

-- numbers ----------------------------------------------------------------------------------------------------------

-- a number among the words: its name, its least and its greatest value, and its text if words give none; without one
-- it has to be given
pub record NumberRow : Type 0 where
  pub name : List ℕ
  pub least : ℕ
  pub greatest : ℕ
  pub default : Option (List ℕ)

-- the value lies in the row's range
abbrev pub IsInRange : NumberRow → ℕ → Type 0
IsInRange row value = (row.least ≤ value) × (value ≤ row.greatest)

abbrev pub number_row : NumberOption → NumberRow
number_row Parts = record { name = codes "parts"; least = 1; greatest = 16; default = Some (codes "1") }
number_row Delay = record { name = codes "delay"; least = 0; greatest = 8; default = Some (codes "1") }
number_row Narrow = record { name = codes "narrow"; least = 0; greatest = 4; default = Some (codes "1") }

abbrev pub number_value : NumberOption → Options → ℕ
number_value Parts o = o.parts
number_value Delay o = o.delay
number_value Narrow o = o.narrow

abbrev pub set_number : NumberOption → ℕ → Options → Options
set_number Parts value o = record o { parts = value }
set_number Delay value o = record o { delay = value }
set_number Narrow value o = record o { narrow = value }

-- a report shows it always, or only if it isn't its default
abbrev pub is_number_always_reported : NumberOption → Bool
is_number_always_reported Parts = true
is_number_always_reported Delay = true
is_number_always_reported Narrow = true

-- in the order of the first line
abbrev pub number_options : List NumberOption
number_options = Parts ∷ Delay ∷ Narrow ∷ []

-- the default as a number
abbrev pub written_number : Option (List ℕ) → ℕ
written_number None = 0
written_number (Some text) = digits_value 10 text

abbrev pub default_number : NumberOption → ℕ
default_number option = written_number (number_row option).default

-- flags ------------------------------------------------------------------------------------------------------------

-- a flag: off if words don't give it; a report shows it always, or only if it is on. Those that change no state
-- stand beside `--best`
pub record FlagRow : Type 0 where
  pub name : List ℕ
  pub is_always_reported : Bool
  pub stands_beside_best : Bool

abbrev pub flag_row : FlagOption → FlagRow
flag_row Limited = record { name = codes "limited"; is_always_reported = true; stands_beside_best = false }
flag_row Thresholds = record { name = codes "thresholds"; is_always_reported = false; stands_beside_best = false }
flag_row Fits = record { name = codes "fits"; is_always_reported = false; stands_beside_best = true }

abbrev pub flag_value : FlagOption → Options → Bool
flag_value Limited o = o.limited
flag_value Thresholds o = o.thresholds
flag_value Fits o = o.fits

abbrev pub set_flag : FlagOption → Bool → Options → Options
set_flag Limited value o = record o { limited = value }
set_flag Thresholds value o = record o { thresholds = value }
set_flag Fits value o = record o { fits = value }

-- in the order of the first line, after the numbers
abbrev pub flag_options : List FlagOption
flag_options = Limited ∷ Thresholds ∷ Fits ∷ []

abbrev pub is_reported : FlagOption → Options → Bool
is_reported option o = (flag_row option).is_always_reported || flag_value option o

-- defaults ---------------------------------------------------------------------------------------------------------

-- the options of an analysis if words name none, as a sample's
abbrev pub default_options : Options
default_options = record {
  domain = Poly;
  parts = default_number Parts;
  delay = default_number Delay;
  narrow = default_number Narrow;
  limited = false;
  thresholds = false;
  fits = false;
}

-- the options for which the word `best` stands
abbrev pub best_options : Options
best_options = record {
  domain = Poly;
  parts = 4;
  delay = 1;
  narrow = 1;
  limited = false;
  thresholds = true;
  fits = false;
}

-- they can be given together: a widening is limited in one way, and thresholds limit heads that can stop at rows
abbrev pub are_compatible : Options → Bool
are_compatible o = not o.thresholds || (not o.limited && supports_thresholds o.domain)

abbrev pub is_number_reported : NumberOption → Options → Bool
is_number_reported option o = is_number_always_reported option
    || not (nat_eq (number_value option o) (number_value option default_options))
