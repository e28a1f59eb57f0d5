-- Goals of `form_next`: takes in the constraint at the place with the form put in for the column; or, if a number
-- passes in it, what is reported about that, unless something is reported already.
use Rattle.std.proofs.Common.{◌≡◌, ◌∙◌, ◌<◌, ap, get_or, length, refl, subst, sym, ℤ, List, Some, rules}
use Rattle.std.specs.Prelude.{false, is_none}
use Rattle.lra_mapped_systems.specs.Crates.lra_linear_spec.CheckedArithmetic.{checked_substitution}
use Rattle.lra_systems.specs.LinearSystems.{constraints}
use Rattle.lra_mapped_systems.specs.Forming.{IsLossAt}
use Rattle.lra_mapped_systems.proofs.{FormedLists.formed_if_pushed, FormedLists.formed_left, FormedLists.formed_lost, FormedLists.substituted_fits, LossLemmas.excess_of, LossLemmas.lost_at}
use Rattle.lra_mapped_systems.proofs.forming.form_next.Goals as goal

pub push-requires : goal.push-requires
push-requires c =
    let list = c.args.list.now in
    let row = c.index-rows-place.result in
    substituted_fits c.args.column c.args.form.now row c.in-Ok.row list.dims c.args.formed.now.list.dims
    c.in-Ok.ensures.value c.requires.width
    (ap length c.index-rows-place.is ∙ c.rows-rows.ensures.widths c.args.place row
    (subst (λ (l : List (List ℤ)). c.args.place < length l) (sym c.rows-rows.ensures.rows) c.requires.place))
    c.requires.formed.dims

pub returns-in-Ok : goal.returns-in-Ok
returns-in-Ok c =
    let list = c.args.list.now in
    let formed = c.args.formed.now in
    let row = c.index-rows-place.result in
    formed_if_pushed c.push.result c.args.column c.args.form.now list.dims list.rows list.kinds c.kinds-kinds.result.now
    c.args.place formed.list c.push.new.self formed.lost row c.in-Ok.row c.requires.formed c.push.ensures.dims
    c.push.ensures.rows c.push.ensures.kinds c.kinds-kinds.ensures.kinds c.in-Ok.ensures.value
    (ap length (sym c.kinds-kinds.ensures.kinds) ∙ c.kinds-kinds.ensures.len) c.requires.place
    (c.index-rows-place.is ∙ ap (λ (l : List (List ℤ)). get_or l c.args.place row) c.rows-rows.ensures.rows)

pub returns-in_ok-loss_at-in-Err-Excess : goal.returns-in_ok-loss_at-in-Err-Excess
returns-in_ok-loss_at-in-Err-Excess c =
    let list = c.args.list.now in
    let formed = c.args.formed.now in
    let k = c.args.column in
    let form = c.args.form.now in
    let place = c.args.place in
    let row = c.index-rows-place.result in
    let excess = c.in-Err-Excess.excess in
    let loss = c.in_ok-loss_at-in-Err-Excess.field-0 in
    let many : length list.kinds ≡ length list.rows = ap length (sym c.kinds-kinds.ensures.kinds) ∙ c.kinds-kinds.ensures.len in
    let is : row ≡ get_or list.rows place row = c.index-rows-place.is ∙ ap (λ (l : List (List ℤ)). get_or l place row) c.rows-rows.ensures.rows in
    let failed = excess_of (checked_substitution k form row) c.in-Err-Excess.field-0 excess c.in-Err-Excess.field-0-is c.in-Err-Excess.ensures.excess in
    let told : IsLossAt (constraints list) list.rows place excess loss = rw c.in-Err-Excess.field-0-is at c.in_ok-loss_at-in-Err-Excess.ensures in
    let passes = lost_at (checked_substitution k form) (constraints list) (constraints list) list.rows list.rows place row excess loss told refl refl
    c.requires.place is failed in
    formed_lost k form list.dims list.rows list.kinds place formed.list formed.lost (Some loss) loss row excess c.requires.formed refl passes many c.requires.place is failed

pub returns-else-is_none : goal.returns-else-is_none
returns-else-is_none c =
    let list = c.args.list.now in
    let formed = c.args.formed.now in
    let row = c.index-rows-place.result in
    let excess = c.in-Err-Excess.excess in
    let many : length list.kinds ≡ length list.rows = ap length (sym c.kinds-kinds.ensures.kinds) ∙ c.kinds-kinds.ensures.len in
    let is : row ≡ get_or list.rows c.args.place row = c.index-rows-place.is ∙ ap (λ (l : List (List ℤ)). get_or l c.args.place row) c.rows-rows.ensures.rows in
    let failed = excess_of (checked_substitution c.args.column c.args.form.now row) c.in-Err-Excess.field-0 excess c.in-Err-Excess.field-0-is c.in-Err-Excess.ensures.excess in
    let left : is_none formed.lost ≡ false = search rules in
    formed_left c.args.column c.args.form.now list.dims list.rows list.kinds c.args.place formed.list formed.lost row excess c.requires.formed left
    many c.requires.place is failed
