-- Readers of parts and files as the code takes them.
use Rattle.std.proofs.Common.{◌≡◌, ℕ, true, false, List, Ok, Err, refl, sym, ap, subst}
use Rattle.lra_base.specs.declared.refusals.Place.{Place}
use Rattle.lra_syntax.specs.{Trees.ExternalTree, declared.tokens.Mark.Mark}
use Rattle.lra_parser_spec.specs.{Expressions.ended, Files.part_at, Files.begins_part, Files.parts_at, Files.next_end, Files.file_of, Files.file_at, Reading.Text, Reading.Read, Reading.Parse}
use Rattle.lra_parser_spec.specs.{Reading.map_read, Reading.expect, Reading.take_by, Reading.ParsesAsErr, Tests.first, declared.reading.Fault.Fault, declared.reading.Stopped.Stopped}
use Rattle.lra_parser_spec.specs.declared.reading.Stopped.TheVariants as stopped
use Rattle.lra_parser_spec.proofs.Exact.{bind_ok, ok_is}
use Rattle.lra_parse.proofs.Crates.lra_parse_expressions.Turning.{ListLeft, list_err, list_end, expect_err}

-- the loop of a file -------------------------------------------------------------------------------------------------

module _ (d : ℕ) where
  -- the loop from here on gives the result
  abbrev pub PartsLeft : List ExternalTree → Text → Read (List ExternalTree) → Type 0
  PartsLeft ps T result = ListLeft begins_part refl (part_at d) ps T result

  parts_err : (ps : List ExternalTree) (S T : Text) (f : Fault) → PartsLeft ps T (parts_at d S) → true ≡ begins_part (first T) → part_at d T ≡ Err f
      → parts_at d S ≡ Err f
  parts_err ps S T f l on g = list_err begins_part refl (part_at d) ps T f (parts_at d S) l on g

  -- the exit by `?` in a turn
  pub file_exit : (ps : List ExternalTree) (S T : Text) (e : Stopped) → PartsLeft ps T (parts_at d S) → true ≡ begins_part (first T) → ParsesAsErr e (part_at d T) → ParsesAsErr e (file_at d S)
  file_exit ps S T stopped.Memory l on g = tt
  file_exit ps S T (stopped.Fault f) l on g = rw (parts_err ps S T f l on g) refl

  parts_end : (ps : List ExternalTree) (S T : Text) → PartsLeft ps T (parts_at d S) → false ≡ begins_part (first T) → parts_at d S ≡ Ok (ps, T)
  parts_end ps S T l off = list_end begins_part refl (part_at d) ps T (parts_at d S) l off

  -- the exit at the end
  pub end_exit : (ps : List ExternalTree) (S T : Text) (e : Stopped) → PartsLeft ps T (parts_at d S) → false ≡ begins_part (first T) → ParsesAsErr e (take_by next_end T) → ParsesAsErr e (file_at d S)
  end_exit ps S T stopped.Memory l off g = tt
  end_exit ps S T (stopped.Fault f) l off g = rw (parts_end ps S T l off, g) refl

  pub file_gives : (ps : List ExternalTree) (S T R : Text) (at : Place) → PartsLeft ps T (parts_at d S) → false ≡ begins_part (first T) → take_by next_end T ≡ Ok (at, R) →
      file_at d S ≡ Ok (file_of ps at, R)
  file_gives ps S T R at l off g = rw (parts_end ps S T l off, g) refl

-- globals ------------------------------------------------------------------------------------------------------------

-- the exit by `?` if the mark doesn't come after them
pub ended_exit : {A B : Type 0} (m : Mark) (p : Parse A) (f : A → B) (T M : Text) (b : B) (s : Stopped) → map_read f p T ≡ Ok (b, M) → ParsesAsErr s (expect m (tt {0}) M) →
    ParsesAsErr s (map_read f (ended m p) T)
ended_exit m p f T M b stopped.Memory e g = tt
ended_exit {A} {B} m p f T M b (stopped.Fault d) e g =
    let k = bind_ok (p T) (λ r. Ok (f r.0, r.1)) (b, M) e in
    let same : k.0.1 ≡ M = ap (λ (r : B × Text). r.1) (ok_is (f k.0.0, k.0.1) (b, M) k.2) in
    let stops : expect m k.0.0 k.0.1 ≡ Err d = expect_err m (tt {0}) k.0.0 k.0.1 d (subst (λ (R : Text). expect m (tt {0}) R ≡ Err d) (sym same) g) in
    rw (k.1, stops) refl
