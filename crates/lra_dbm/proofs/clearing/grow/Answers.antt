-- Goals of `grow`: `k` variables with no bounds come last.
use Rattle.std.proofs.Common.{subst, sym, ◌≡◌, ◌+◌, ◌∙◌, ap}
use Rattle.lra_dbm.specs.{Cells.Cells, Cells.size, Cells.entries, Cells.IsMatrix, Clearing.Settled}
use Rattle.lra_dbm.proofs.Grows.{kept_whole, resized, settled_length, grown_entries, grown_matrix}
use Rattle.lra_dbm.proofs.clearing.grow.Goals as goal

pub returns-clause-entries : goal.returns-clause-entries
returns-clause-entries c =
    let old = c.args.cells.now.items in
    let padded = c.as_mut_slice.ensures.value ∙ resized c.args.n c.args.k c.size.result _ old c.resize.new.self.items c.requires.is c.size.ensures c.in_ok-resize.ensures.items in
    let more = subst (λ (cells : Cells). Settled (c.args.n + c.args.k) c.args.n (c.args.n + c.args.k) cells c.settle.new.cells) padded c.settle.ensures in
    let same : c.resize.new.self.len ≡ size (c.args.n + c.args.k) = c.in_ok-resize.ensures.len ∙ c.size.ensures in
    let whole = kept_whole c.resize.new.self.len c.settle.new.cells c.resize.new.self.items (settled_length c.args.n c.args.k c.resize.new.self.len _ c.settle.new.cells more same) in
    λ i j. ap (λ cells. entries (c.args.n + c.args.k) cells i j) whole ∙ grown_entries c.args.n c.args.k _ old c.settle.new.cells c.requires.is more i j

pub returns-clause-is : goal.returns-clause-is
returns-clause-is c =
    let old = c.args.cells.now.items in
    let padded = c.as_mut_slice.ensures.value ∙ resized c.args.n c.args.k c.size.result _ old c.resize.new.self.items c.requires.is c.size.ensures c.in_ok-resize.ensures.items in
    let more = subst (λ (cells : Cells). Settled (c.args.n + c.args.k) c.args.n (c.args.n + c.args.k) cells c.settle.new.cells) padded c.settle.ensures in
    let same : c.resize.new.self.len ≡ size (c.args.n + c.args.k) = c.in_ok-resize.ensures.len ∙ c.size.ensures in
    let whole = kept_whole c.resize.new.self.len c.settle.new.cells c.resize.new.self.items (settled_length c.args.n c.args.k c.resize.new.self.len _ c.settle.new.cells more same) in
    subst (λ (cells : Cells). IsMatrix (c.args.n + c.args.k) cells) (sym whole) (grown_matrix c.args.n c.args.k _ old c.settle.new.cells c.requires.is more)
