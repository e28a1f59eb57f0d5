use Rattle.std.proofs.{Common.rules, Common.ap, Common.Bool, lemmas.Slice.Eq.slice_eq-Decides}
use Rattle.std.specs.Cmp.{booleans_Decides}
use Rattle.guzhtarel.specs.EntryDomains.{EntriesContent}
use Rattle.guzhtarel.proofs.EntryDomains.{content_same}
use Rattle.use_signs.proofs.signs.SignsDomain.same.Goals as goal

pub returns-then-self-other : goal.returns-then-self-other
returns-then-self-other c =
    let decides = slice_eq-Decides booleans_Decides c.as_slice.result.now c.as_slice-then-self-other.result.now c.eq.result c.eq.ensures in (
      λ t. let known = decides.0 t in content_same c.args.self.now c.args.other.now (search rules) (search rules),
      λ e. let known = ap (λ (v : EntriesContent Bool). v.entries) e in decides.1 (search rules),
    )
