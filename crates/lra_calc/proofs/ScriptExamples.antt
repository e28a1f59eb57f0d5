-- Lines and scripts whose answers are known. Which slip an example would catch stands beside it.
use Rattle.std.proofs.Common.{◌≡◌, ℕ, pos, negsuc, List, [], ◌∷◌, refl, inl, None, Result, Ok, Err, true, false}
use Rattle.std.specs.{Fmt.digits, List.flat_map, Prelude.codes}
use Rattle.lra_calc.specs.Crates.lra_linear_spec.Descriptions.{LinearRow, inequality, equality, generator, line, Con as points_of}
use Rattle.lra_calc.specs.Crates.{lra_linear_spec.Points.IsWithin, lra_linear_spec.Polyhedra.Polyhedron, lra_linear_spec.Polyhedra.falsity, lra_linear_spec.Representable.IsRepresentable}
use Rattle.lra_calc.proofs.Crates.{lra_linear_spec.SpellingExamples.quadrant, lra_linear_spec.SpellingExamples.plain_is_quadrant, lra_linear_spec.StrainExamples.third_row_strains}
use Rattle.lra_base.specs.Places.{greatest_length}
use Rattle.lra_row_text.specs.Texts.{text_line}
use Rattle.lra_script.specs.ScriptText.{lines}
use Rattle.lra_calc.specs.Script.{Fault, BadLine, UnknownName, WrongDimension, NotIncluded, started, End, Refused, AtLine, TooLong, CarriesOut, output, AnswersTo, script_refusal_text}
use Rattle.lra_calc.specs.{MadeSets.IsMadeOfRows, ShownSets.polyhedron_text}

abbrev text : List (List ℕ) → List ℕ
text = flat_map text_line

-- what is written, or the refused line
abbrev result_of : End → Result (List ℕ) Refused
result_of (Ok end) = Ok (output end)
result_of (Err stop) = Err stop.refused

-- the script with these lines may write this, or is refused so
abbrev Gives : List (List ℕ) → Result (List ℕ) Refused → Type 0
Gives script told = (end : End) × CarriesOut 1 None (lines (text script)) end × (result_of end ≡ told)

abbrev refused_at : ℕ → Fault → Result (List ℕ) Refused
refused_at number fault = Err (record { number = number; fault = fault })

-- ---- sets
-- the quadrant: catches rows that are shown as they were given, a ray with a divisor, and generators in the order of their first column
shown_quadrant : Gives (codes "dims 2" ∷ codes "con P >= 0 0 1 ; >= 0 1 0" ∷ codes "show P" ∷ [])
    (Ok (text (
    codes "show P"
    ∷ codes "  row x1 >= 0"
    ∷ codes "  row x2 >= 0"
    ∷ codes "  gen point x1=0 x2=0"
    ∷ codes "  gen ray x1=0 x2=1"
    ∷ codes "  gen ray x1=1 x2=0"
    ∷ codes "flagged 0"
    ∷ [])))
unfolding digits
shown_quadrant = (
  _,
  record {
    result = Ok (started 2);
    after = refl;
    goes_on = record {
      result = _;
      after = record { outcome = Ok (record { flagged = false; polyhedron = quadrant }); told = plain_is_quadrant; is = refl };
      goes_on = record { result = _; after = record { outcome = _; told = refl; is = refl }; goes_on = refl };
    };
  },
  refl,
)

-- the empty set: catches the row -1 >= 0 that is shown
abbrev nothing : Polyhedron
nothing = record { dims = 2; rows = inequality (negsuc 0 ∷ pos 0 ∷ pos 0 ∷ []) ∷ []; generators = [] }

shown_empty : Gives (codes "dims 2" ∷ codes "con Q >= -1 0 0" ∷ codes "show Q" ∷ []) (Ok (text (codes "show Q" ∷ codes "  empty" ∷ codes "flagged 0" ∷ [])))
shown_empty = (
  _,
  record {
    result = Ok (started 2);
    after = refl;
    goes_on = record {
      result = _;
      after = record {
        outcome = Ok (record { flagged = false; polyhedron = nothing });
        told = record { dimensions = refl; canonical = inl (refl, refl); points = (λ x p c. c, λ x p c. c) };
        is = refl;
      };
      goes_on = record { result = _; after = record { outcome = _; told = refl; is = refl }; goes_on = refl };
    };
  },
  refl,
)

-- catches a set without rows that is shown as nothing, and fractions that aren't in lowest terms
shown_texts : (polyhedron_text (record { dims = 1; rows = []; generators = generator (pos 1 ∷ pos 0 ∷ []) ∷ line (pos 0 ∷ pos 1 ∷ []) ∷ [] })
    ≡ text (codes "  row true" ∷ codes "  gen point x1=0" ∷ codes "  gen line x1=1" ∷ []))
    × (polyhedron_text (record { dims = 1; rows = equality (negsuc 2 ∷ pos 2 ∷ []) ∷ []; generators = generator (pos 2 ∷ pos 3 ∷ []) ∷ [] })
    ≡ text (codes "  row 2*x1 = 3" ∷ codes "  gen point x1=3/2" ∷ []))
unfolding digits
shown_texts = (refl, refl)

-- a list that exceeds a limit: catches a flag that is forgotten
strained_line : (p : Polyhedron) → p.dims ≡ 1 → IsRepresentable p
    → IsWithin 1 (points_of (inequality (pos 170141183460469231731687303715884105727 ∷ pos 1 ∷ []) ∷ inequality (pos 0 ∷ pos 2 ∷ []) ∷ [])) (points_of p.rows)
    → Gives (codes "dims 1" ∷ codes "con P >= 170141183460469231731687303715884105727 1 ; >= 0 2" ∷ []) (Ok (text (codes "flagged at line 2" ∷ [])))
unfolding digits
strained_line p dims fine within = (
  _,
  record {
    result = Ok (started 1);
    after = refl;
    goes_on = record {
      result = _;
      after = record {
        outcome = Ok (record { flagged = true; polyhedron = p });
        told = record { dimensions = dims; formed = fine; within = within; loss = _; strains = inl third_row_strains };
        is = refl;
      };
      goes_on = refl;
    };
  },
  refl,
)

-- ---- answers to `holds`
-- the first constraint of the quadrant that fails or passes decides; catches a script that stops at its first wide point
some_answers : Gives (
    codes "dims 2"
    ∷ codes "con P >= 0 0 1 ; >= 0 1 0"
    ∷ codes "holds P 2 3 5"
    ∷ codes "holds P 1 -3 2"
    ∷ [])
    (Ok (text (codes "holds P yes" ∷ codes "holds P no" ∷ codes "flagged 0" ∷ [])))
some_answers = (
  _,
  record {
    result = Ok (started 2);
    after = refl;
    goes_on = record {
      result = _;
      after = record { outcome = Ok (record { flagged = false; polyhedron = quadrant }); told = plain_is_quadrant; is = refl };
      goes_on = record { result = _; after = record { outcome = _; told = refl; is = refl }; goes_on = record { result = _; after = record { outcome = _; told = refl; is = refl }; goes_on = refl } };
    };
  },
  refl,
)

-- catches a script that stops at its first wide point, and the last flag in place of the first
abbrev ray_from : List LinearRow → Polyhedron
ray_from generators = record { dims = 1; rows = inequality (pos 2 ∷ pos 1 ∷ []) ∷ []; generators = generators }

wide_points : (generators : List LinearRow) → IsMadeOfRows 1 (inequality (pos 2 ∷ pos 1 ∷ []) ∷ []) false (ray_from generators) → Gives (
    codes "dims 1"
    ∷ codes "con P >= 2 1"
    ∷ []
    ∷ codes "holds P 1 170141183460469231731687303715884105727"
    ∷ codes "holds P 1 -2"
    ∷ codes "holds P 2 170141183460469231731687303715884105727"
    ∷ [])
    (Ok (text (codes "holds P wide" ∷ codes "holds P yes" ∷ codes "holds P wide" ∷ codes "flagged at line 4" ∷ [])))
unfolding digits
wide_points generators made = (
  _,
  record {
    result = Ok (started 1);
    after = refl;
    goes_on = record {
      result = _;
      after = record { outcome = Ok (record { flagged = false; polyhedron = ray_from generators }); told = made; is = refl };
      goes_on = record {
        result = _;
        after = record { outcome = _; told = refl; is = refl };
        goes_on = record {
          result = _;
          after = record { outcome = _; told = refl; is = refl };
          goes_on = record { result = _; after = record { outcome = _; told = refl; is = refl }; goes_on = refl };
        };
      };
    };
  },
  refl,
)

-- catches an older meaning of a name: the universe is made first, then nothing
abbrev nothing_on_a_line : Polyhedron
nothing_on_a_line = record { dims = 1; rows = inequality (falsity 1) ∷ []; generators = [] }

made_again : (universe : Polyhedron) → IsMadeOfRows 1 [] false universe → Gives (codes "dims 1" ∷ codes "con P" ∷ codes "con P >= -1 0" ∷ codes "holds P 1 0" ∷ [])
    (Ok (text (codes "holds P no" ∷ codes "flagged 0" ∷ [])))
made_again universe made = (
  _,
  record {
    result = Ok (started 1);
    after = refl;
    goes_on = record {
      result = _;
      after = record { outcome = Ok (record { flagged = false; polyhedron = universe }); told = made; is = refl };
      goes_on = record {
        result = _;
        after = record {
          outcome = Ok (record { flagged = false; polyhedron = nothing_on_a_line });
          told = record { dimensions = refl; canonical = inl (refl, refl); points = (λ x p c. c, λ x p c. c) };
          is = refl;
        };
        goes_on = record { result = _; after = record { outcome = _; told = refl; is = refl }; goes_on = refl };
      };
    };
  },
  refl,
)

-- ---- refusals
-- in one dimension, by the second line
abbrev refused_after_dims : Fault → List ℕ → Type 0
refused_after_dims fault line = Gives (codes "dims 1" ∷ line ∷ []) (refused_at 2 fault)

-- catches the two numbers exchanged, and a ray's 0 that is counted; a divisor and a constant count
wrong_dimensions : refused_after_dims (WrongDimension 3 2) (codes "con R >= 1 2 3") × refused_after_dims (WrongDimension 0 2) (codes "con P >= 1 2 ; >= ; >= 1 2 3")
    × refused_after_dims (WrongDimension 1 2) (codes "gen P ray 0 ; point 1") × refused_after_dims (WrongDimension 2 1) (codes "gen P point 1 0 ; line 0 1")
wrong_dimensions = (
  (_, record { result = Ok (started 1); after = refl; goes_on = record { result = _; after = record { outcome = _; told = refl; is = refl }; goes_on = refl } }, refl),
  (_, record { result = Ok (started 1); after = refl; goes_on = record { result = _; after = record { outcome = _; told = refl; is = refl }; goes_on = refl } }, refl),
  (_, record { result = Ok (started 1); after = refl; goes_on = record { result = _; after = record { outcome = _; told = refl; is = refl }; goes_on = refl } }, refl),
  (_, record { result = Ok (started 1); after = refl; goes_on = record { result = _; after = record { outcome = _; told = refl; is = refl }; goes_on = refl } }, refl),
)

-- catches a name that is asked for after the numbers, and a fault of form that is found last
first_causes : refused_after_dims (UnknownName (codes "Z")) (codes "holds Z 1") × refused_after_dims (UnknownName (codes "Z")) (codes "show Z") × refused_after_dims BadLine (codes "holds Z 0")
    × refused_after_dims BadLine (codes "gen P ray 0 1 ; point 0 1")
first_causes = (
  (_, record { result = Ok (started 1); after = refl; goes_on = record { result = _; after = record { outcome = _; told = refl; is = refl }; goes_on = refl } }, refl),
  (_, record { result = Ok (started 1); after = refl; goes_on = record { result = _; after = record { outcome = _; told = refl; is = refl }; goes_on = refl } }, refl),
  (_, record { result = Ok (started 1); after = refl; goes_on = record { result = _; after = refl; goes_on = refl } }, refl),
  (_, record { result = Ok (started 1); after = refl; goes_on = record { result = _; after = refl; goes_on = refl } }, refl),
)

-- catches a line count that leaves out comments
skipped_count : Gives (codes "dims 1" ∷ codes "# P" ∷ [] ∷ codes "holds Z 1 0" ∷ []) (refused_at 4 (UnknownName (codes "Z")))
skipped_count = (_, record { result = Ok (started 1); after = refl; goes_on = record { result = _; after = record { outcome = _; told = refl; is = refl }; goes_on = refl } }, refl)

-- catches `dims` that is not the first line, or stands twice
dims_once : Gives (codes "con P" ∷ []) (refused_at 1 BadLine) × refused_after_dims BadLine (codes "dims 1")
dims_once = (
  (_, record { result = _; after = refl; goes_on = refl }, refl),
  (_, record { result = Ok (started 1); after = refl; goes_on = record { result = _; after = refl; goes_on = refl } }, refl),
)

empty_scripts : Gives [] (Ok (text (codes "flagged 0" ∷ []))) × Gives (codes "#" ∷ codes " " ∷ []) (Ok (text (codes "flagged 0" ∷ [])))
empty_scripts = ((_, refl, refl), (_, refl, refl))

empty_script : AnswersTo [] (Ok (text (codes "flagged 0" ∷ [])))
unfolding greatest_length
empty_script = record { end = Ok None; carries_out = refl; is = refl }

-- catches the two numbers exchanged, and a name that is not reported
refused_texts : (script_refusal_text (AtLine (record { number = 4; fault = WrongDimension 3 2 })) ≡ text (codes "refused line 4 WrongDimension 3 2" ∷ []))
    × (script_refusal_text (AtLine (record { number = 4; fault = UnknownName (codes "Z") })) ≡ text (codes "refused line 4 UnknownName Z" ∷ []))
    × (script_refusal_text (AtLine (record { number = 12; fault = BadLine })) ≡ text (codes "refused line 12 BadLine" ∷ []))
    × (script_refusal_text (AtLine (record { number = 4; fault = NotIncluded (codes "line x1=1") })) ≡ text (codes "refused line 4 NotIncluded line x1=1" ∷ []))
    × (script_refusal_text (TooLong (record { line = 1; column = 65537 })) ≡ text (codes "refused 1 TooLong at 1:65537" ∷ []))
unfolding digits
refused_texts = (refl, refl, refl, refl, refl)
