-- How a program is passed: what an iteration is given of the options, and the thresholds of its loops.
use Rattle.std.specs.Prelude.{ℕ, ℤ, zero, suc, List, Option, None, Some, if◌then◌else◌}
use Rattle.lra_domain.specs.declared.Mode.{Mode}
use Rattle.lra_domain.specs.declared.Mode.TheVariants.{Join, Widen, Limited, Tightest}
use Rattle.lra_options.specs.declared.options.Options.{Options}

-- how loops grow once they don't join any more: taking no widening threshold in, limited by those of their own
-- conditions, or by thresholds, for which the program has these constants
pub data Widening : Type 0 where
  standard : Widening
  limited : Widening
  by_thresholds : List ℤ → Widening

pub record Plan : Type 0 where
  -- the most parts of a value
  pub parts : ℕ
  -- the rounds in which a loop's head grows by joins, before it is widened
  pub delay : ℕ
  -- how often it is narrowed once it has stopped growing
  pub narrow : ℕ
  pub widening : Widening

abbrev pub widening_of : Options → List ℤ → Widening
widening_of o constants =
    if o.thresholds then by_thresholds constants else (if o.limited then limited else standard)

-- under these options, of a program with these constants
abbrev pub plan_of : Options → List ℤ → Plan
plan_of o constants = record {
  parts = o.parts;
  delay = o.delay;
  narrow = o.narrow;
  widening = widening_of o constants;
}

-- the constants at which thresholds are
abbrev pub constants_in : Widening → Option (List ℤ)
constants_in standard = None
constants_in limited = None
constants_in (by_thresholds constants) = Some constants

-- how a head grows that has so many rounds of joining left
abbrev pub mode_at : Widening → ℕ → Mode
mode_at w (suc left) = Join
mode_at standard zero = Widen
mode_at limited zero = Limited
mode_at (by_thresholds constants) zero = Tightest
