-- Goals of `find_marked_list`: the canonical description of what the rows added to the cone generate, with the matrix.
use Rattle.std.proofs.{Common.◌≡◌, Common.◌+◌, Common.arith, Common.sym, Common.subst, Common.suc, Common.length, Common.List, Common.ℤ, Common.ℕ, lemmas.Result.err_from_is_err_and}
use Rattle.lra_description_pair.specs.Crates.lra_canonical.Echelons.{HaveWidth}
use Rattle.lra_description_pair.specs.OwnLists.{AnyReductionExcess}
use Rattle.lra_description_pair.proofs.OwnMade.{own_made, own_matrix}
use Rattle.lra_description_pair.proofs.OwnRows.{all_width, tight_width, loose_width, echelon_excess, reduction_excess, as_many}
use Rattle.lra_description_pair.proofs.own.find_marked_list.Goals as goal

pub echelon-requires : goal.echelon-requires
echelon-requires c =
    let s = c.args.cone.now in
    let tight = c.in_ok-lines.field-0.tight.items in
    record {
      width = (
        suc s.dims,
        omega arith,
        all_width (suc s.dims) tight
            (tight_width s c.in_ok-lines.ensures.cone tight c.in_ok-lines.ensures.parts.is_tight),
      );
    }

pub returns-in_err-echelon-clause-excess : goal.returns-in_err-echelon-clause-excess
returns-in_err-echelon-clause-excess c =
    let p = err_from_is_err_and c.from_residual-in_err-echelon.result c.from_residual-in_err-echelon.ensures.1 in
    let f = echelon_excess c.args.cone.now c.in_ok-lines.ensures.cone c.in_ok-lines.field-0.tight.items c.in_ok-lines.ensures.parts.is_tight
    c.in_err-echelon.field-0.0 c.in_err-echelon.ensures.excess
    in
    rw (p.1, p.2) f

pub reduce_all-requires-clause-rows : goal.reduce_all-requires-clause-rows
reduce_all-requires-clause-rows c =
    let s = c.args.cone.now in
    let loose = c.in_ok-lines.field-0.loose.items in
    let w : suc s.dims ≡ c.dims.result + 1 = omega (arith, c.dims.ensures) in
    subst (λ (n : ℕ). HaveWidth n loose) w (all_width (suc s.dims) loose (loose_width s c.in_ok-lines.ensures.cone loose c.in_ok-lines.ensures.parts.is_loose))

pub reduce_all-requires-clause-form_widths : goal.reduce_all-requires-clause-form_widths
reduce_all-requires-clause-form_widths c =
    let s = c.args.cone.now in
    let tight = c.in_ok-lines.field-0.tight.items in
    let w : suc s.dims ≡ c.dims.result + 1 = omega (arith, c.dims.ensures) in
    let widths : HaveWidth (suc s.dims) c.echelon.new.lines.items = c.in_ok-echelon.ensures.widths (suc s.dims)
    (all_width (suc s.dims) tight (tight_width s c.in_ok-lines.ensures.cone tight c.in_ok-lines.ensures.parts.is_tight)) in
    subst (λ (l : List (List ℤ)). HaveWidth (c.dims.result + 1) l) (sym c.deref.ensures.value)
    (subst (λ (n : ℕ). HaveWidth n c.echelon.new.lines.items) w widths)

pub returns-in_err-reduce_all-clause-excess : goal.returns-in_err-reduce_all-clause-excess
returns-in_err-reduce_all-clause-excess c =
    let s = c.args.cone.now in
    let tight = c.in_ok-lines.field-0.tight.items in
    let loose = c.in_ok-lines.field-0.loose.items in
    let form = c.echelon.new.lines.items in
    let widths : HaveWidth (suc s.dims) form = c.in_ok-echelon.ensures.widths (suc s.dims)
    (all_width (suc s.dims) tight (tight_width s c.in_ok-lines.ensures.cone tight c.in_ok-lines.ensures.parts.is_tight)) in
    let p = err_from_is_err_and c.from_residual-in_err-reduce_all.result c.from_residual-in_err-reduce_all.ensures.1 in
    let x = subst (λ (l : List (List ℤ)). AnyReductionExcess l loose c.in_err-reduce_all.field-0.0) c.deref.ensures.value c.in_err-reduce_all.ensures.excess in
    let f = reduction_excess s c.in_ok-lines.ensures.cone tight loose form c.in_ok-lines.ensures.parts.is_tight c.in_ok-lines.ensures.parts.is_loose
    c.in_ok-echelon.ensures.form widths
    c.in_err-reduce_all.field-0.0 x in
    rw (p.1, p.2) f

pub drop_redundant-requires : goal.drop_redundant-requires
drop_redundant-requires c =
    let s = c.args.cone.now in
    as_many s.rays (length s.lines) c.deref.result.now c.in_ok-lines.field-0.loose.items c.reduce_all.new.rows.items c.in_ok-lines.field-0.saturation.rows
    c.in_ok-lines.ensures.parts.told c.in_ok-reduce_all.ensures.reduced

pub returns-clause-ok : goal.returns-clause-ok
returns-clause-ok c =
    let s = c.args.cone.now in
    let tight = c.in_ok-lines.field-0.tight.items in
    let widths : HaveWidth (suc s.dims) c.echelon.new.lines.items = c.in_ok-echelon.ensures.widths (suc s.dims)
    (all_width (suc s.dims) tight (tight_width s c.in_ok-lines.ensures.cone tight c.in_ok-lines.ensures.parts.is_tight)) in
    own_made s tight c.in_ok-lines.field-0.loose.items c.echelon.new.lines.items c.deref.result.now c.reduce_all.new.rows.items c.drop_redundant.new.rows.items
    c.in_ok-lines.field-0.saturation c.drop_redundant.new.saturation (c.dims.result + 1) c.in_ok-lines.ensures.cone c.in_ok-lines.ensures.parts
    c.in_ok-echelon.ensures.form
    c.in_ok-echelon.ensures.same widths c.deref.ensures.value c.in_ok-reduce_all.ensures.reduced
    (omega (arith, c.dims.ensures)) c.in_ok-reduce_all.ensures.widths c.in_ok-drop_redundant.ensures.kept c.in_ok-drop_redundant.ensures.irredundant

pub returns-clause-matrix : goal.returns-clause-matrix
returns-clause-matrix c =
    let s = c.args.cone.now in
    let tight = c.in_ok-lines.field-0.tight.items in
    let widths : HaveWidth (suc s.dims) c.echelon.new.lines.items = c.in_ok-echelon.ensures.widths (suc s.dims)
    (all_width (suc s.dims) tight (tight_width s c.in_ok-lines.ensures.cone tight c.in_ok-lines.ensures.parts.is_tight)) in
    own_matrix s tight c.in_ok-lines.field-0.loose.items c.echelon.new.lines.items c.deref.result.now c.reduce_all.new.rows.items
    c.drop_redundant.new.rows.items
    c.in_ok-lines.field-0.saturation c.drop_redundant.new.saturation (c.dims.result + 1) c.in_ok-lines.ensures.cone c.in_ok-lines.ensures.parts
    c.in_ok-echelon.ensures.form
    c.in_ok-echelon.ensures.same widths c.deref.ensures.value c.in_ok-reduce_all.ensures.reduced
    (omega (arith, c.dims.ensures)) c.in_ok-reduce_all.ensures.widths c.in_ok-lines.ensures.width c.in_ok-drop_redundant.ensures.kept
