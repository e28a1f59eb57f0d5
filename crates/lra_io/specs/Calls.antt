-- Calls of a source or of a sink, one after the other, as states before and after each.

-- so many calls, each of which goes from a state to the next by `step`
pub data Calls {S : Type 0} (step : S → S → Type 0) (first : S) : S → Type 0 where
  none : Calls step first first
  one_more : (last now : S) → Calls step first last → step last now → Calls step first now

-- calls that succeed, then one that fails, and none after it
pub record StopsAtFault {S : Type 0} (succeeds fails : S → S → Type 0) (first now : S) : Type 0 where
  pub last : S
  pub before : Calls succeeds first last
  pub fault : fails last now
