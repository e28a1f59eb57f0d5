-- What a call of `run` is given, and what it leaves.
use Rattle.std.specs.Prelude.{ℕ, List, Option}

-- The words of the command line, the program's name first; and before the call and after it: the bytes that are left of
-- the input and those that the sink holds, if they are reported, and how often reading and writing failed; and how many
-- bytes the sink surely takes, before the call.
pub record World : Type 0 where
  pub words : List (List ℕ)
  pub left : Option (List ℕ)
  pub left_now : Option (List ℕ)
  pub read_faults : ℕ
  pub read_faults_now : ℕ
  pub held : Option (List ℕ)
  pub held_now : Option (List ℕ)
  pub spare : ℕ
  pub write_faults : ℕ
  pub write_faults_now : ℕ
