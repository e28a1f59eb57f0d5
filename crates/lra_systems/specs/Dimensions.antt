-- From how many dimensions on the answer is running out of memory: no memory holds a row of so many columns.
use Rattle.std.specs.Prelude.{ℕ, ◌^◌}

abbrev pub too_many_dimensions : ℕ
too_many_dimensions = 2 ^ 62
