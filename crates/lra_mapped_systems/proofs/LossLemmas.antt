-- What is reported about a row of a list if a number passes as it is formed.
use Rattle.std.proofs.Common.{◌≡◌, ℕ, suc, ◌<◌, List, [], ◌∷◌, ◌++◌, length, map, drop, get_or, ap, refl, sym, ◌∙◌, subst, ℤ, Result, Err}
use Rattle.std.proofs.lemmas.List.{get_or_default}
use Rattle.lra_mapped_systems.specs.Crates.lra_linear_spec.OperationStrain.{FormingPasses}
use Rattle.lra_mapped_systems.specs.Crates.{lra_descriptions.ShownLists.dual_kind, lra_linear_spec.Descriptions.LinearRow, lra_linear_spec.Kinds.is_equality, lra_linear_spec.Strain.Loss}
use Rattle.lra_mapped_systems.specs.Crates.{lra_linear_spec.declared.Cause.TheVariants.Excess, lra_linear_spec.declared.ConKind.ConKind, lra_linear_spec.declared.ConKind.TheVariants.Ge}
use Rattle.lra_mapped_systems.specs.Crates.{lra_linear_spec.declared.GenKind.GenKind, lra_row.Rows.IsExcessOf, lra_row.declared.error.RowError.RowError}
use Rattle.lra_mapped_systems.specs.Crates.lra_linear_spec.declared.Excess as E
use Rattle.lra_mapped_systems.specs.Crates.lra_row.declared.error.RowError.TheVariants as of_row
use Rattle.lra_systems.specs.LinearSystems.{LinearSystem, constraints, generators, rows_by_kind}
use Rattle.lra_systems.proofs.FirstMembers.{front, given_split, member}
use Rattle.lra_mapped_systems.proofs.Crates.lra_descriptions.SeveralKinds.{dual_given}
use Rattle.lra_mapped_systems.specs.Forming.{IsLossAt}

pub loss_told : (list chosen : LinearSystem ConKind) (rows : List (List ℤ)) (kinds : List ConKind) (place : ℕ) (row : List ℤ)
    (e : E.Excess) (loss : Loss) → constraints chosen ≡ front is_equality list.rows list.kinds place →
    rows ≡ list.rows → kinds ≡ list.kinds → length kinds ≡ length list.rows →
    place < length list.rows → row ≡ get_or rows place row →
    loss ≡ record { chosen = constraints chosen; further = member is_equality kinds place row Ge; cause = Excess e } →
    IsLossAt (constraints list) list.rows place e loss
loss_told list chosen rows kinds place row e loss ec er ek n h is el =
    let here : row ≡ get_or list.rows place row = is ∙ ap (λ (l : List (List ℤ)). get_or l place row) er in
    let many : length list.kinds ≡ length list.rows = ap length (sym ek) ∙ n in
    let later : List LinearRow = rows_by_kind is_equality (drop (suc place) list.rows) (drop (suc place) list.kinds) in
    subst (IsLossAt (constraints list) list.rows place e) (sym el) (record {
      later = later;
      is = given_split is_equality list.rows list.kinds place row Ge many h here ∙
          ap (λ (l : List LinearRow). l ++ member is_equality list.kinds place row Ge ∷ later) (sym ec) ∙
          ap (λ (l : List ConKind). constraints chosen ++ member is_equality l place row Ge ∷ later) (sym ek);
      is_row = here ∙ get_or_default list.rows place row [] h;
      is_cause = refl;
    })

-- the excess that an error says
pub excess_of : {A : Type 0} (q : Result A E.Excess) (error : RowError) (e : E.Excess) → error ≡ of_row.Excess e →
    IsExcessOf q error → q ≡ Err e
excess_of q error e is h = subst (IsExcessOf q) is h

-- a number passes in what is formed of the row at the place
pub lost_at : {A : Type 0} (check : List ℤ → Result A E.Excess) (given told : List LinearRow) (rows seen : List (List ℤ))
    (place : ℕ) (r : List ℤ) (e : E.Excess) (loss : Loss) → IsLossAt given rows place e loss → given ≡ told →
    rows ≡ seen → place < length seen → r ≡ get_or seen place r → check r ≡ Err e →
    FormingPasses (λ g. check g.row) told loss
lost_at check given told rows seen place r e loss l eg er h is passes = record {
  later = l.later;
  is = sym eg ∙ l.is;
  excess = e;
  is_cause = l.is_cause;
  passes = subst (λ (y : List ℤ). check y ≡ Err e)
      (is ∙ get_or_default seen place r [] h ∙ ap (λ (rs : List (List ℤ)). get_or rs place []) (sym er) ∙ sym l.is_row)
      passes;
}

pub dual_constraints : (rows : LinearSystem ConKind) (list : LinearSystem GenKind) → rows.rows ≡ list.rows →
    rows.kinds ≡ map dual_kind list.kinds → constraints rows ≡ generators list
dual_constraints rows list er ek = ap (λ (l : List (List ℤ)). rows_by_kind is_equality l rows.kinds) er ∙
    ap (rows_by_kind is_equality list.rows) ek ∙ dual_given list.rows list.kinds

pub dual_loss : (rows : LinearSystem ConKind) (list : LinearSystem GenKind) (place : ℕ) (e : E.Excess) (loss : Loss) →
    rows.rows ≡ list.rows → rows.kinds ≡ map dual_kind list.kinds →
    IsLossAt (constraints rows) rows.rows place e loss → IsLossAt (generators list) list.rows place e loss
dual_loss rows list place e loss er ek h =
    subst (λ (l : List LinearRow). IsLossAt l list.rows place e loss) (dual_constraints rows list er ek)
    (subst (λ (l : List (List ℤ)). IsLossAt (constraints rows) l place e loss) er h)
