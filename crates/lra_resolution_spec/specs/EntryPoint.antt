-- Where the runs of a source begin: at `main`, or at each of its threads. All that is asked of a tree for the sake of
-- this are two things: its faults of names, and its programs, whose points count together.
use Rattle.std.specs.Prelude.{List, [], ◌∷◌, flat_map}
use Rattle.lra_resolution_spec.specs.Crates.lra_base.declared.refusals.Refusal.{Refusal}
use Rattle.lra_syntax.specs.Trees.{FileTree}
use Rattle.lra_program.specs.{Program.Program, Sites.Event, Sites.events_of}
use Rattle.lra_resolution_spec.specs.{NameFaults.name_faults, Resolve.resolve, Threads.thread_faults}
use Rattle.lra_resolution_spec.specs.{Threads.thread_programs}

pub data EntryPoint : Type 0 where
  at_main : EntryPoint
  at_threads : EntryPoint

abbrev pub faults_of : EntryPoint → FileTree → List Refusal
faults_of at_main t = name_faults t
faults_of at_threads t = thread_faults t

abbrev pub programs_of : EntryPoint → FileTree → List Program
programs_of at_main t = resolve t ∷ []
programs_of at_threads t = thread_programs t

-- the points of all programs, one program after the other
abbrev pub points_of : EntryPoint → FileTree → List Event
points_of entry t = flat_map events_of (programs_of entry t)
