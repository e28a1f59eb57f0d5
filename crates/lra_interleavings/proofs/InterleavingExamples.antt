-- Two threads over one global: what they do beside each other.
use Rattle.std.proofs.Common.{◌≡◌, ℕ, zero, suc, ℤ, pos, List, [], ◌∷◌, Some, None, slice_get, refl, subst, inl, arith}
use Rattle.std.proofs.lemmas.Option.{same_Some, none-some}
use Rattle.lra_interleavings.specs.Crates.{lra_base.Operators.differs, lra_base.declared.number_types.NumberType.TheVariants.Int, lra_base.declared.number_types.NumberType.TheVariants.Long}
use Rattle.lra_program.specs.Program.{global, Variable, literal, read, compare, value, Stmt, assign, assert, no_more, statement, Function, Program}
use Rattle.lra_program.specs.{Run.Point, Step.State, Step.Config, Step.run, Step.all, Step.end_of}
use Rattle.lra_interleavings.specs.Interleavings.{Thread, Threads, own_of, left_by, StepsToPoint, IsAtFirst, AreBegun, Interleaves, begins, moves, AtThread, FailsThread, ThreadWritesValue}

-- long g; void t1(void){ g=1; g=1; } void t2(void){ assert(g!=1); }
abbrev shared : Variable
shared = record { slot = global 0; number_type = Long }

abbrev set_at : ℕ → Stmt
set_at label = assign label shared (value (literal Int 1))

abbrev setting : Function
setting = record { result_type = None; parameters = []; body = statement (set_at 1) (statement (set_at 2) no_more); end = 3 }

abbrev asserted : Stmt
asserted = assert 4 (compare differs (read shared) (literal Int 1))

abbrev asserting : Function
asserting = record { result_type = None; parameters = []; body = statement asserted no_more; end = 5 }

abbrev both : List Function
both = setting ∷ asserting ∷ []

abbrev whole : Program
whole = record { globals = record { number_type = Long; value = pos 0 } ∷ []; arrays = []; functions = []; main = setting }

abbrev point_here : ℕ → Point
point_here label = record { path = []; label = label }

abbrev state_with : ℤ → State
state_with g = record { store = g ∷ []; arrays = []; waiting = []; draws = [] }

-- of the first thread, at each of its assignments; of the second one, at its assertion
abbrev at_one : ℤ → Config
at_one g = record {
  items = run (set_at 1) ∷ all (statement (set_at 2) no_more) ∷ end_of 3 1 ∷ [];
  here = record { path = []; base = 1 };
  state = state_with g;
}

abbrev at_two : ℤ → Config
at_two g = record { items = run (set_at 2) ∷ all no_more ∷ end_of 3 1 ∷ []; here = record { path = []; base = 1 }; state = state_with g }

abbrev at_four : ℤ → Config
at_four g = record { items = run asserted ∷ all no_more ∷ end_of 5 1 ∷ []; here = record { path = []; base = 1 }; state = state_with g }

abbrev threads_first : Threads
threads_first = record { globals = pos 0 ∷ []; arrays = []; threads = Some (own_of 1 (at_one (pos 0))) ∷ Some (own_of 1 (at_four (pos 0))) ∷ [] }

setting_first : IsAtFirst whole both setting (own_of 1 (at_one (pos 0)))
setting_first = record {
  draws = [];
  words = tt;
  steps = 1;
  config = at_one (pos 0);
  point = point_here 1;
  walks = (_, _, refl, refl, (refl, refl));
  arrives = record { label = refl; path = refl };
  own = refl;
}

asserting_first : IsAtFirst whole both asserting (own_of 1 (at_four (pos 0)))
asserting_first = record {
  draws = [];
  words = tt;
  steps = 1;
  config = at_four (pos 0);
  point = point_here 4;
  walks = (_, _, refl, refl, (refl, refl));
  arrives = record { label = refl; path = refl };
  own = refl;
}

firsts : (k : ℕ) (f : Function) → slice_get both k ≡ Some f → (t : Thread) × (slice_get threads_first.threads k ≡ Some (Some t)) × IsAtFirst whole both f t
firsts zero f e = (
  own_of 1 (at_one (pos 0)),
  refl,
  subst (λ (g : Function). IsAtFirst whole both g (own_of 1 (at_one (pos 0)))) (same_Some setting f e)
      setting_first,
)
firsts (suc zero) f e =
    (own_of 1 (at_four (pos 0)), refl, subst (λ (g : Function). IsAtFirst whole both g (own_of 1 (at_four (pos 0)))) (same_Some asserting f e) asserting_first)
firsts (suc (suc k)) f e = absurd (none-some f e)

begun_first : AreBegun whole both threads_first
begun_first = record { globals = refl; arrays = refl; count = refl; first = firsts }

-- the first thread's step, with the global as others left it
abbrev threads_next : Threads
threads_next = left_by whole threads_first 0 (at_two (pos 1))

first_step : StepsToPoint whole both threads_first 0 threads_next
first_step = record {
  function = setting;
  thread = own_of 1 (at_one (pos 0));
  runs = record { function = refl; thread = refl };
  from = point_here 1;
  to = point_here 2;
  steps = 2;
  config = at_two (pos 1);
  leads = (record { label = refl; path = refl }, (_, _, refl, refl, (_, _, refl, refl, (refl, refl))));
  arrives = record { label = refl; path = refl };
  after = refl;
}

next_reached : Interleaves whole both threads_next
next_reached = moves threads_first threads_next 0 (begins threads_first begun_first) (inl first_step)

-- the second thread sees what the first one gave, and fails: catches a thread that sees its own globals
seen_by_second : AtThread whole both 1 (point_here 4) (pos 1 ∷ [])
seen_by_second = (
  threads_next,
  asserting,
  own_of 1 (at_four (pos 0)),
  record {
    reached = next_reached;
    runs =
        record { function = refl; thread = refl };
    on = record { label = refl; path = refl };
  },
  refl,
)

second_fails : FailsThread whole both 1 (point_here 4)
second_fails = (
  threads_next,
  asserting,
  own_of 1 (at_four (pos 0)),
  record {
    reached = next_reached;
    runs = record { function = refl; thread = refl };
    on =
        record { label = refl; path = refl };
  },
  (_, refl),
)

-- the first thread's second assignment gives what is there already: catches a write that is a change
abbrev threads_last : Threads
threads_last = left_by whole threads_next 0 (record { items = end_of 3 1 ∷ []; here = record { path = []; base = 1 }; state = state_with (pos 1) })

abbrev second_step : StepsToPoint whole both threads_next 0 threads_last
second_step = record {
  function = setting;
  thread = own_of 1 (at_two (pos 1));
  runs = record { function = refl; thread = refl };
  from = point_here 2;
  to = point_here 3;
  steps = 2;
  config = record { items = end_of 3 1 ∷ []; here = record { path = []; base = 1 }; state = state_with (pos 1) };
  leads = (record { label = refl; path = refl }, (_, _, refl, refl, (_, _, refl, refl, (refl, refl))));
  arrives = record { label = refl; path = refl };
  after = refl;
}

same_again : ThreadWritesValue whole both 0 0 (pos 1)
same_again = record {
  global = omega arith;
  before = threads_next;
  after = threads_last;
  reached = next_reached;
  goes = second_step;
  done = 0;
  left = 1;
  config = at_two (pos 1);
  met = [];
  first = (refl, refl);
  rest = (_, _, refl, refl, (_, _, refl, refl, (refl, refl)));
  state = state_with (pos 1);
  gives = inl (refl, refl);
  value = refl;
}
