-- Calls one after the other.
use Rattle.lra_io.specs.Calls.{Calls, none, one_more}

-- before the first one
pub no_call : {S : Type 0} (step : S → S → Type 0) (first : S) → Calls step first first
no_call step first = none

-- and after one more
pub next_call : {S : Type 0} (step : S → S → Type 0) (first last now : S) → Calls step first last → step last now → Calls step first now
next_call step first last now before after = one_more last now before after

pub ruleset calling = (no_call, next_call)
