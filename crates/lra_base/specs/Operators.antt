-- The operators of expressions and of comparisons.

-- `+`, `-`, `*`, `/`, `%`
pub data Operator : Type 0 where
  plus : Operator
  minus : Operator
  times : Operator
  over : Operator
  modulo : Operator

-- `<`, `<=`, `>`, `>=`, `==`, `!=`
pub data Comparison : Type 0 where
  below : Comparison
  at_most : Comparison
  above : Comparison
  at_least : Comparison
  equal : Comparison
  differs : Comparison
