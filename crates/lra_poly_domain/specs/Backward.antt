-- How polyhedra go back: over an assignment by the points that it brings into the value, over a test by those of the
-- value that pass; and by the meet.
use Rattle.std.specs.Prelude.{suc}
use Rattle.lra_domain.specs.Actions.{Action, assign, forget, test, embed, remove_last}
use Rattle.lra_domain.specs.Backward.{BackwardAbstraction}
use Rattle.lra_poly_domain.specs.Crates.lra_linear_forms.Form.{form_row}
use Rattle.lra_linear_spec.specs.OperationStrain.{AddTestStrains, MeetStrains, PreimageStrains}
use Rattle.lra_linear_spec.specs.Polyhedra.{IsPolyhedronOf, Polyhedron}
use Rattle.lra_linear_spec.specs.{Descriptions.Con, SetOperations.Meet, SetOperations.Preimage, Strain.Loss}
use Rattle.lra_duality.specs.Rows.{test_row}
use Rattle.lra_poly_domain.specs.Sets.{IsChanged}

-- other changes go back by changes of the domain itself
abbrev pub IsPre : Action → Polyhedron → Polyhedron → Type 0
IsPre (assign x e) p r = IsPolyhedronOf p.dims (Preimage (suc x) (form_row e) (Con p.rows)) r
IsPre (forget x) p r = ⊥
IsPre (test kind e) p r = IsChanged (test kind e) p r
IsPre (embed k) p r = ⊥
IsPre (remove_last k) p r = ⊥

abbrev pub PreStrains : Action → Polyhedron → Loss → Type 0
PreStrains (assign x e) p = PreimageStrains (suc x) (form_row e) p
PreStrains (forget x) p = λ loss. ⊥
PreStrains (test kind e) p = AddTestStrains p (test_row kind e)
PreStrains (embed k) p = λ loss. ⊥
PreStrains (remove_last k) p = λ loss. ⊥

abbrev pub polyhedron_backward : BackwardAbstraction Polyhedron
polyhedron_backward = record {
  pre = IsPre;
  pre_strains = λ step p. (loss : Loss) × PreStrains step p loss;
  met = λ p q r. IsPolyhedronOf p.dims (Meet (Con p.rows) (Con q.rows)) r;
  meet_strains = λ p q. (loss : Loss) × MeetStrains p q loss;
}
